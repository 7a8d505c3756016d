-- Shown of the laws, and no law.
-- What the rules of the dead time, of the drive and of sectors refuse: small wrong journals, each with the sentence that it breaks.
use Rattle.std.specs.Prelude.{◌+◌, Bool, true, false, List, [], ◌∷◌, ◌++◌}
use Rattle.esc_base.specs.declared.note.Note.{Note}
use Rattle.settings_block.specs.declared.stored.Loaded.{Loaded}
use Rattle.commutation.specs.Commutated.{Commutated}
use Rattle.gate_driver.specs.DeadSafe.{DeadSafe}
use Rattle.esc_laws.specs.Saves.{forward_at}
use Rattle.esc_laws.specs.Driven.{Driven}
use Rattle.esc_laws.specs.refused.Notes.{leaves, ticks, acts, switches, turns, crosses}

-- ---- the gates

-- these notes break the dead time, whatever stands behind them
abbrev pub Unsafe : List Note → Type 0
Unsafe notes = (after : List Note) → DeadSafe (notes ++ after) → ⊥

pub record GatesRefuse : Type 0 where
  -- each G has another word than before, which is 0 0 at first
  pub word_of_the_start : Unsafe (switches 100 0 0 ∷ [])
  pub word_for_the_second_time : Unsafe (switches 100 1 2 ∷ switches 200 1 2 ∷ [])
  -- no leg has both switches on
  pub both_switches_of_a_leg : Unsafe (switches 100 2 3 ∷ [])
  -- a switch turns on 48 ticks after the other one of its leg went off, or later
  pub low_after_47_ticks : Unsafe (switches 100 1 0 ∷ switches 200 0 0 ∷ switches 247 0 1 ∷ [])
  pub high_after_47_ticks : Unsafe (switches 100 0 4 ∷ switches 200 0 0 ∷ switches 247 4 0 ∷ [])
  pub leg_changes_over_at_once : Unsafe (switches 100 1 0 ∷ switches 200 0 1 ∷ [])
  pub off_time_of_another_leg : Unsafe (switches 100 3 0 ∷ switches 150 1 0 ∷ switches 200 0 0 ∷ switches 210 0 1 ∷ [])

-- ---- the drive

-- these notes break the rules of the drive, whatever stands behind them
abbrev pub Undriven : List Note → Type 0
Undriven notes = (after : List Note) → Driven (notes ++ after) → ⊥

-- a drive is on in sector 1, whose high leg is A and whose low one is B
abbrev pub driving : List Note → List Note
driving rest = ticks 2404 1 0 20 ∷ turns 2420 1 ∷ rest

pub record DriveRefuses : Type 0 where
  -- after a K with demand 0 no G turns a switch on, and no Q and no Z stands
  pub high_on_after_demand_0 : Undriven (driving (ticks 4804 2 0 0 ∷ switches 4810 1 0 ∷ []))
  pub low_on_after_demand_0 : Undriven (driving (ticks 4804 2 0 0 ∷ switches 4810 0 2 ∷ []))
  pub turn_after_demand_0 : Undriven (driving (ticks 4804 2 0 0 ∷ turns 4810 2 ∷ []))
  pub crossing_after_demand_0 : Undriven (driving (ticks 4804 2 0 0 ∷ crosses 4810 ∷ []))
  -- TICK returns from it with all switches off
  pub low_left_on_at_demand_0 : Undriven (driving (switches 2422 0 2 ∷ ticks 4804 2 0 0 ∷ leaves 4820 2 ∷ []))
  pub high_left_on_at_demand_0 : Undriven (driving (switches 2422 1 0 ∷ ticks 4804 2 0 0 ∷ leaves 4820 2 ∷ []))
  -- no Q stands before the first K with a demand
  pub turn_before_any_demand : Undriven (turns 2410 1 ∷ [])
  -- the switches that are on are in the pair of the newest Q, and none is before any
  pub on_before_any_turn : Undriven (ticks 2404 1 0 20 ∷ switches 2420 1 0 ∷ [])
  pub high_of_another_sector : Undriven (driving (switches 2422 4 0 ∷ []))
  pub low_of_another_sector : Undriven (driving (switches 2422 0 1 ∷ []))
  pub turn_with_the_old_high_on : Undriven (driving (switches 2422 1 0 ∷ turns 242420 2 ∷ []))
  pub turn_with_the_old_low_on : Undriven (driving (switches 2422 0 2 ∷ turns 242420 3 ∷ []))
  pub chop_of_the_sector_before : Undriven (driving (turns 242420 2 ∷ switches 242430 1 0 ∷ []))

-- these notes break the rules of sectors for settings with advance 0, whatever stands behind them
abbrev pub Unturned : (List Note → Bool) → List Note → Type 0
Unturned forward notes = (after : List Note) → Commutated 0 forward (notes ++ after) → ⊥

pub record TurnsRefuse : Type 0 where
  -- the first Q of all is 1, and each later one the sector after the last one in the direction
  pub first_sector_2 : (forward : List Note → Bool) → Unturned forward (ticks 2404 1 0 20 ∷ turns 2410 2 ∷ [])
  pub sector_left_out : (forward : List Note → Bool) → Unturned forward (driving (turns 242420 3 ∷ []))
  pub backward_where_it_is_forward : Unturned (λ back. true) (driving (turns 242420 6 ∷ []))
  pub forward_where_it_is_backward : Unturned (λ back. false) (driving (turns 242420 2 ∷ []))
  -- a start goes on from the last sector
  pub first_sector_again : (forward : List Note → Bool) → Unturned forward (driving (ticks 4804 2 0 0 ∷ ticks 7204 3 0 20 ∷ turns 7210 1 ∷ []))
  -- the direction is that after the acts of all M before the Q, whatever the settings were at the start of the drive
  pub direction_of_the_start : (loaded : Loaded)
      → Unturned (forward_at loaded.settings) (acts 100 7 ∷ acts 200 20 ∷ driving (acts 5000 21 ∷ turns 242420 2 ∷ []))
  -- a Q stands within a drive alone; where no Z stands since the last one, it is 240000 ticks after that, or more
  pub turn_without_a_drive : (forward : List Note → Bool) → Unturned forward (turns 2410 1 ∷ [])
  pub turn_after_the_drive : (forward : List Note → Bool) → Unturned forward (driving (ticks 4804 2 0 0 ∷ turns 242420 2 ∷ []))
  pub forced_after_239999 : (forward : List Note → Bool) → Unturned forward (driving (turns 242419 2 ∷ []))
  -- after a Z it waits for half the interval, which is 24000 at first
  pub crossed_after_11999 : (forward : List Note → Bool) → Unturned forward (driving (crosses 10000 ∷ turns 21999 2 ∷ []))
