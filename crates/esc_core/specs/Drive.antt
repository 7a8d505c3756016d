-- What is kept of the drive, and how a start, a sector change and a crossing change it.
use Rattle.std.specs.Prelude.{ℕ, ◌+◌, Bool, true, false, nat_le, min, if◌then◌else◌, Option, Some, None}
use Rattle.esc_base.specs.declared.tick.Tick.{Tick}
use Rattle.esc_base.specs.Numbers.{as_tick}
use Rattle.esc_base.specs.Times.{forced_limit, stuck_changes}
use Rattle.timer_regs.specs.Access.{Access}
use Rattle.timer_regs.specs.Access.Access.{NoAccess, Writes}
use Rattle.timer_regs.specs.declared.regs.Reg.TheVariants as reg
use Rattle.zero_cross.specs.declared.phase.Phase.{Phase}
use Rattle.zero_cross.specs.declared.phase.Phase.TheVariants as phase
use Rattle.zero_cross.specs.Kept.{after_begin, after_off, Kept, fresh as no_search}
use Rattle.commutation.specs.Kept.{fresh, after_restart, after_gap, after_crossing}
use Rattle.commutation.specs.Pace.{wait_of}
use Rattle.commutation.specs.Sectors.{low_of}
use Rattle.gate_driver.specs.Gated.{never_off, at_leg}
use Rattle.gate_driver.specs.Change.{change_to}
use Rattle.esc_core.specs.declared.drive.Drive.{Drive}

abbrev pub first_drive : ℕ → Drive
first_drive advance = record {
  gates = never_off;
  timing = fresh (min advance 3);
  crossing = no_search;
  turn = change_to 1;
  change = 0;
  postponed = false;
  turned = false;
  forced = 0;
}

-- a drive starts at t: its first sector change is due at once
abbrev pub started : Drive → ℕ → Drive
started d t = record d { timing = after_restart d.timing; change = t; turned = false; forced = 0 }

-- the search for a crossing in another phase
abbrev pub in_phase : Drive → Phase → Drive
in_phase d p = record d { crossing = record d.crossing { phase = p } }

-- a drive that ends looks for no crossing
abbrev pub search_after : Bool → Kept → Kept
search_after true k = after_off k
search_after false k = k

-- control has answered: a drive may start, and the search ends with a demand of 0
abbrev pub drive_after : Bool → ℕ → Drive → Drive
drive_after true t d = started d t
drive_after false t d = d

abbrev pub answered : Bool → Bool → ℕ → Drive → Drive
answered starts ends t d = record (drive_after starts t d) { crossing = search_after ends d.crossing }

-- how many forced sector changes stand in a row after one more change: the first one of a drive isn't forced
abbrev pub forced_after : Drive → ℕ
forced_after d = if d.turned then min stuck_changes (d.forced + 1) else d.forced

-- the sector changed at t, and the next change is forced once the limit has passed
abbrev pub after_turn : Drive → ℕ → Drive
after_turn d t = record d { timing = after_gap d.timing t; change = t + forced_limit; turned = true; forced = forced_after d }

-- the search for the new sector's crossing begins at t, with the interval as it is then
abbrev pub searching : Drive → Bool → ℕ → Drive
searching d forward t = record d { crossing = after_begin d.turn.to forward t d.timing.pace.interval }

-- the timing after a crossing at t
abbrev pub timed : Drive → ℕ → Drive
timed d t = record d { timing = after_crossing d.timing (as_tick t) }

-- a crossing is accepted at t: the next sector change comes the wait later, and isn't forced
abbrev pub after_cross : Drive → ℕ → Drive
after_cross d t = record (timed d t) { change = t + wait_of d.timing.advance (timed d t).timing.pace.interval; turned = false; forced = 0 }

abbrev pub crossed : Drive → ℕ → Drive
crossed d t = after_cross (in_phase d phase.Done) t

-- the access that arms the crossing timer for a tick, where there is one
abbrev pub arms : Option Tick → Access
arms None = NoAccess
arms (Some at) = Writes reg.CmpAt at.0

-- sixty forced sector changes stand in a row
abbrev pub is_stuck : Drive → Bool
is_stuck d = nat_le stuck_changes d.forced

-- the tick from which on the low switch of the newest sector may turn on
abbrev pub low_free : Drive → ℕ
low_free d = at_leg d.gates.hi_free (low_of d.turn.to)

-- when COMM is due next: at the sector change, or at the time of a postponed low switch if that is earlier
abbrev pub due_at : Drive → ℕ
due_at d = if d.postponed then min d.change (low_free d) else d.change
