-- Shown of the laws, and no law.
-- What the laws of crossings refuse: small wrong journals, each with the sentence that it breaks.
use Rattle.std.specs.Prelude.{◌≡◌, ◌≤◌, ◌+◌, ℕ, Bool, true, false, List, [], ◌∷◌, ◌++◌}
use Rattle.esc_base.specs.declared.kind.Kind.TheVariants as kind
use Rattle.esc_base.specs.declared.event.Event.{Event}
use Rattle.esc_base.specs.declared.event.Event.TheVariants as event
use Rattle.esc_base.specs.declared.note.Note.{Note}
use Rattle.esc_base.specs.Numbers.{as_tick}
use Rattle.settings_block.specs.declared.stored.Loaded.{Loaded}
use Rattle.interrupt_machine.specs.declared.nest.Nest.{Nest}
use Rattle.commutation.specs.Commutated.{Commutated}
use Rattle.esc_laws.specs.Crossed.{Crossed}
use Rattle.esc_laws.specs.Searched.{Searched}
use Rattle.esc_laws.specs.Steps.{Turned, StepFits}
use Rattle.esc_laws.specs.refused.Notes.{enters, leaves, ticks, turns, crosses, first_two}
use Rattle.esc_laws.specs.refused.Nesting.{Unnested}
use Rattle.esc_laws.specs.refused.Steps.{entry, own}

-- a drive that goes forward throughout
abbrev pub forwards : List Note → Bool
forwards back = true

-- a K with a demand, and the first sector at 2500. The interval is 24000, so blanking ends at 8500. The level that is expected
-- is 1.
abbrev pub first_turn : List Note
first_turn = ticks 2404 1 0 20 ∷ turns 2500 1 ∷ []

-- the comparator has level 1 from this tick on
abbrev pub up_from : ℕ → List Event
up_from t = event.Comp (as_tick t) true ∷ []

-- these notes, behind the first two, have a Z that is no crossing of this trace, whatever stands behind them
abbrev pub Uncrossed : List Event → List Note → Type 0
Uncrossed trace notes = (after : List Note) → Crossed trace forwards (first_two ++ (notes ++ after)) → ⊥

pub record CrossingsRefuse : Type 0 where
  -- a Z stands after a Q of the same drive
  pub without_a_drive : (trace : List Event) → Uncrossed trace (crosses 9000 ∷ [])
  pub before_the_first_sector : (trace : List Event) → Uncrossed trace (ticks 2404 1 0 20 ∷ crosses 9000 ∷ [])
  pub in_the_next_drive : (trace : List Event) → Uncrossed trace (first_turn ++ (ticks 4804 2 0 0 ∷ ticks 7204 3 0 20 ∷ crosses 9000 ∷ []))
  -- at most one before the next Q
  pub second_in_a_sector : (trace : List Event) → Uncrossed trace (first_turn ++ (crosses 9000 ∷ crosses 9500 ∷ []))
  -- the comparator is steady at the expected level on the 24 ticks up to the Z
  pub at_the_unexpected_level : Uncrossed [] (first_turn ++ (crosses 9000 ∷ []))
  pub on_one_sample : Uncrossed (up_from 9000) (first_turn ++ (crosses 9000 ∷ []))
  pub after_23_ticks : Uncrossed (up_from 8977) (first_turn ++ (crosses 9000 ∷ []))
  pub over_a_short_change : Uncrossed (event.Comp (as_tick 100) true ∷ event.Comp (as_tick 8990) false ∷ event.Comp (as_tick 8990) true ∷ [])
      (first_turn ++ (crosses 9000 ∷ []))
  -- and those ticks are past blanking, which is a quarter of the interval here
  pub filtered_within_blanking : (trace : List Event) → Uncrossed trace (first_turn ++ (crosses 8523 ∷ []))

-- these notes, behind the first two, change the sector too early, with no advance
abbrev pub Uncommutated : List Note → Type 0
Uncommutated notes = (after : List Note) → Commutated 0 forwards (first_two ++ (notes ++ after)) → ⊥

pub record CrossedTurnsRefuse : Type 0 where
  -- a Z of the sector before doesn't count
  pub by_an_old_crossing : Uncommutated (first_turn ++ (crosses 9000 ∷ turns 21000 2 ∷ turns 50000 3 ∷ []))
  -- the wait is taken from the interval that the Z leaves: a crossing 200000 ticks after the last one lengthens it to 34000
  pub wait_of_the_old_interval : Uncommutated (first_turn ++ (crosses 9000 ∷ turns 21000 2 ∷ crosses 209000 ∷ turns 221000 3 ∷ []))
  -- and with a new drive the interval begins anew: its first crossing doesn't look back at the last drive's
  pub wait_of_the_drive_before : Uncommutated (first_turn ++ (crosses 8600 ∷ turns 20600 2 ∷ crosses 28000 ∷ turns 39700 3 ∷ ticks 40800 17 0 0
      ∷ ticks 43200 18 0 20 ∷ turns 43210 4 ∷ crosses 49300 ∷ turns 61200 5 ∷ []))

-- COMM with its Q
abbrev pub commutes : List Note
commutes = ticks 2404 1 0 20 ∷ enters 2498 6 ∷ turns 2500 1 ∷ leaves 2512 6 ∷ []

-- an activation of CMP without a Z
abbrev pub looks : ℕ → List Note
looks t = enters t 4 ∷ leaves (t + 8) 4 ∷ []

-- these notes, behind the first two, don't search for the crossing as they have to
abbrev pub Unsearched : List Event → List Note → Type 0
Unsearched trace notes = (after : List Note) → Searched trace forwards (first_two ++ (notes ++ after)) → ⊥

pub record SearchesRefuse : Type 0 where
  -- a Z stands in the second activation of CMP after a Q where the level is steady: so no core commutates by force alone
  pub no_crossing_where_it_is_owed : Unsearched (up_from 100) (commutes ++ (looks 8500 ++ looks 8532))
  pub crossing_in_the_first_one : Unsearched (up_from 100)
      (commutes ++ (enters 8500 4 ∷ crosses 8524 ∷ leaves 8530 4 ∷ enters 8554 4 ∷ leaves 8562 4 ∷ []))
  -- of five activations of CMP in a row the level changes after the first one's entry
  pub five_in_a_row : Unsearched [] (commutes ++ (looks 8500 ++ looks 8600 ++ looks 8700 ++ looks 8800 ++ looks 8900))
  pub five_from_a_change_on : Unsearched (up_from 8500) (commutes ++ (looks 8500 ++ looks 8600 ++ looks 8700 ++ looks 8800 ++ looks 8900))

-- no kind is open, and a Q stands since a K with a demand
abbrev pub first_sector : List Turned
first_sector =
    entry 2400 kind.Tick ∷ own 2402 kind.Tick (ticks 2402 1 0 20 ∷ leaves 2402 2 ∷ []) ∷ entry 2498 kind.Comm ∷ own 2500 kind.Comm
    (turns 2500 1 ∷ leaves 2500 6 ∷ []) ∷ []

-- CMP has looked once at the end of its blanking
abbrev pub looked_once : List Turned
looked_once = first_sector ++ (entry 8500 kind.Cmp ∷ own 8508 kind.Cmp (leaves 8508 4 ∷ []) ∷ [])

pub record ActivationsRefuse : Type 0 where
  -- a COMM has a Q where the wait after a Z is over
  pub no_sector_after_a_crossing : (nest : Nest) → Unnested nest (commutes
      ++ (enters 8500 4 ∷ crosses 8524 ∷ leaves 8530 4 ∷ enters 20600 6 ∷ leaves 20612 6 ∷ []))
  -- a change of the comparator after that is heard: the level is the expected one from 9000 on, and the sector isn't left by force
  pub nobody_listens : (loaded : Loaded) (nest : Nest) (cost : ℕ) → cost ≤ 16 → loaded.settings.direction ≡ 0
      → StepFits loaded nest cost (up_from 9000) looked_once (entry 242500 kind.Comm) → ⊥
  -- CMP is entered when the blanking after a Q is over
  pub cmp_enters_a_tick_late : (loaded : Loaded) (nest : Nest) (cost : ℕ) → cost ≤ 16 → StepFits loaded nest cost [] first_sector (entry 8501 kind.Cmp) → ⊥
