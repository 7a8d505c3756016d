-- What is kept of the search for a sector's zero crossing, and how each call changes it. Times are ticks of 48 MHz.
use Rattle.std.specs.Prelude.{◌≤◌, ℕ, ◌+◌, Bool, true, false, not, ◌&&◌, nat_le, if◌then◌else◌, Option, Some, None}
use Rattle.esc_base.specs.declared.tick.Tick.{Tick}
use Rattle.esc_base.specs.Trace.{differ}
use Rattle.esc_base.specs.Times.{filter_time, forced_limit, rejected_blanking}
use Rattle.esc_base.specs.Numbers.{as_tick}
use Rattle.zero_cross.specs.declared.phase.Phase.{Phase}
use Rattle.zero_cross.specs.declared.phase.Phase.TheVariants as phase
use Rattle.zero_cross.specs.declared.phase.Next.{Next}
use Rattle.zero_cross.specs.declared.phase.Next.TheVariants as next
use Rattle.zero_cross.specs.Sector.{blanking_of, level_of}

pub record Kept : Type 0 where
  pub phase : Phase
  -- the comparator's level after the sector's crossing
  pub expects : Bool
  -- the tick of the sector's start
  pub begun : ℕ

-- before any sector
abbrev pub fresh : Kept
fresh = record { phase = phase.Off; expects = false; begun = 0 }

-- the drive ends
abbrev pub after_off : Kept → Kept
after_off c = record c { phase = phase.Off }

-- sector s begins at t
abbrev pub after_begin : ℕ → Bool → ℕ → ℕ → Kept
after_begin s forward t interval = record { phase = phase.Blank (as_tick (t + blanking_of interval)); expects = level_of forward s; begun = t }

-- blanking is over at t
abbrev pub IsBlanked : Phase → ℕ → Type 0
IsBlanked (phase.Blank end) t = end.0 ≤ t
IsBlanked p t = ⊥

-- the tick for which the search waits: the end of blanking, or of a filter; none where it waits for a change, or for nothing
abbrev pub until : Phase → Option Tick
until (phase.Blank end) = Some end
until (phase.Filter end) = Some end
until p = None

-- the comparator has the expected level
abbrev pub is_expected : Kept → Bool → Bool
is_expected c level = not (differ level c.expects)

-- what follows the end of blanking, and what is kept then
abbrev pub next_of : Kept → Bool → Next
next_of c level = if is_expected c level then next.Filter else next.Watch

abbrev pub after_ready : Kept → Bool → Kept
after_ready c level = if is_expected c level then c else record c { phase = phase.Watch }

-- a filter may begin at t: a change is waited for, or blanking is over
abbrev pub MayFilter : Phase → ℕ → Type 0
MayFilter (phase.Blank end) t = end.0 ≤ t
MayFilter phase.Watch t = Unit {0}
MayFilter p t = ⊥

-- a filter begins at t, and ends `filter_time` later
abbrev pub after_changed : Kept → ℕ → Kept
after_changed c t = record c { phase = phase.Filter (as_tick (t + filter_time)) }

-- a filter stands whose time is over at t
abbrev pub is_over : Phase → ℕ → Bool
is_over (phase.Filter end) t = nat_le end.0 t
is_over p t = false

-- the expected level stood throughout: it is there, and there was no change since the filter began
abbrev pub is_clean : Kept → Bool → Bool → Bool
is_clean c level changed = is_expected c level && not changed

-- the crossing at t, if the filter's time is over and the expected level stood throughout
abbrev pub accepted : Kept → Tick → Bool → Bool → Option Tick
accepted c t level changed = if is_over c.phase t.0 && is_clean c level changed then Some t else None

-- a filter is judged at t: accepted, the search is done; rejected, `rejected_blanking` begins
abbrev pub after_filtered : Kept → ℕ → Bool → Bool → Kept
after_filtered c t level changed =
    if is_over c.phase t then (if is_clean c level changed then record c { phase = phase.Done } else record c { phase = phase.Blank (as_tick (t + rejected_blanking)) })
    else c

-- a sector has begun, and its crossing wasn't accepted yet
abbrev pub is_open : Phase → Bool
is_open phase.Off = false
is_open phase.Done = false
is_open p = true

-- the sector is to be ended by force at t: it began 240,000 ticks ago or earlier, and has no crossing
abbrev pub is_forced : Kept → ℕ → Bool
is_forced c t = is_open c.phase && nat_le (c.begun + forced_limit) t
