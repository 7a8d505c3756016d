-- The wrong journals of the drive break their laws: each at one of its notes.
use Rattle.std.proofs.Common.{◌≡◌, ◌<◌, ◌≤◌, ℕ, Bool, true, false, List, [], ◌∷◌, ◌++◌, reverse, refl, arith}
use Rattle.esc_base.specs.declared.gate.Leg.TheVariants as leg
use Rattle.esc_base.specs.declared.note.Note.{Note}
use Rattle.arming.proofs.InOrder.{each_at}
use Rattle.commutation.specs.Sectors.{next_sector}
use Rattle.commutation.specs.Commutated.{Commutated, TurnRule}
use Rattle.gate_driver.specs.DeadSafe.{DeadSafe, IsSafe}
use Rattle.esc_laws.specs.Driven.{Driven, IsDriven}
use Rattle.esc_laws.specs.Saves.{forward_at}
use Rattle.esc_laws.specs.refused.Notes.{ticks, acts, leaves, switches, turns, crosses}
use Rattle.esc_laws.specs.refused.Drive.{driving, GatesRefuse, DriveRefuses, TurnsRefuse}

-- ---- the dead time

-- the last of these notes is safe behind those before it
safe_at : (notes after : List Note) (n : Note) → DeadSafe (notes ++ n ∷ after) → IsSafe (reverse notes) n
safe_at notes after n whole = each_at (λ before m. IsSafe (reverse before) m) [] notes n after whole

pub gates_refuse : GatesRefuse
gates_refuse = record {
  word_of_the_start = λ after h. (let e = (safe_at [] after (switches 100 0 0) h).other_word in absurd (cc));
  word_for_the_second_time = λ after h. (let e = (safe_at (switches 100 1 2 ∷ []) after (switches 200 1 2) h).other_word in absurd (cc));
  both_switches_of_a_leg = λ after h. (let e = (safe_at [] after (switches 100 2 3) h).apart leg.B refl in absurd (cc));
  low_after_47_ticks = λ after h. (let e = (safe_at (switches 100 1 0 ∷ switches 200 0 0 ∷ []) after (switches 247 0 1) h).low_waits leg.A refl refl in absurd
      (omega arith));
  high_after_47_ticks = λ after h. (let e = (safe_at (switches 100 0 4 ∷ switches 200 0 0 ∷ []) after
      (switches 247 4 0) h).high_waits leg.C refl refl in absurd (omega arith));
  leg_changes_over_at_once = λ after h. (let e = (safe_at (switches 100 1 0 ∷ []) after (switches 200 0 1) h).low_waits leg.A refl refl in absurd
      (omega arith));
  off_time_of_another_leg =
      λ after h. (let e = (safe_at (switches 100 3 0 ∷ switches 150 1 0 ∷ switches 200 0 0 ∷ []) after
      (switches 210 0 1) h).low_waits leg.A refl refl in absurd (omega arith));
}

-- ---- the drive

driven_at : (notes after : List Note) (n : Note) → Driven (notes ++ n ∷ after) → IsDriven (reverse notes) n
driven_at notes after n whole = each_at (λ before m. IsDriven (reverse before) m) [] notes n after whole

pub drive_refuses : DriveRefuses
drive_refuses = record {
  high_on_after_demand_0 = λ after h. (let e = ((driven_at (driving (ticks 4804 2 0 0 ∷ [])) after (switches 4810 1 0) h).0 refl).high leg.A refl in absurd
      (cc));
  low_on_after_demand_0 = λ after h. (let e = ((driven_at (driving (ticks 4804 2 0 0 ∷ [])) after (switches 4810 0 2) h).0 refl).low leg.B refl in absurd (cc));
  turn_after_demand_0 = λ after h. (let e = (driven_at (driving (ticks 4804 2 0 0 ∷ [])) after (turns 4810 2) h).0 in absurd (omega arith));
  crossing_after_demand_0 = λ after h. (let e : 0 < 0 = driven_at (driving (ticks 4804 2 0 0 ∷ [])) after (crosses 4810) h in absurd (omega arith));
  low_left_on_at_demand_0 =
      λ after h. (let e = ((driven_at (driving (switches 2422 0 2 ∷ ticks 4804 2 0 0 ∷ [])) after (leaves 4820 2) h) refl refl).1 in absurd (omega arith));
  high_left_on_at_demand_0 =
      λ after h. (let e = ((driven_at (driving (switches 2422 1 0 ∷ ticks 4804 2 0 0 ∷ [])) after (leaves 4820 2) h) refl refl).0 in absurd (omega arith));
  turn_before_any_demand = λ after h. (let e = (driven_at [] after (turns 2410 1) h).0 in absurd (omega arith));
  on_before_any_turn = λ after h. (let e = ((driven_at (ticks 2404 1 0 20 ∷ []) after (switches 2420 1 0) h).1.high leg.A refl).1 in absurd (omega arith));
  high_of_another_sector = λ after h. (let e = ((driven_at (driving []) after (switches 2422 4 0) h).1.high leg.C refl).0 in absurd (cc));
  low_of_another_sector = λ after h. (let e = ((driven_at (driving []) after (switches 2422 0 1) h).1.low leg.A refl).0 in absurd (cc));
  turn_with_the_old_high_on = λ after h. (let e = ((driven_at (driving (switches 2422 1 0 ∷ [])) after (turns 242420 2) h).1.high leg.A refl).0 in absurd (cc));
  turn_with_the_old_low_on = λ after h. (let e = ((driven_at (driving (switches 2422 0 2 ∷ [])) after (turns 242420 3) h).1.low leg.B refl).0 in absurd (cc));
  chop_of_the_sector_before = λ after h. (let e = ((driven_at (driving (turns 242420 2 ∷ [])) after (switches 242430 1 0) h).1.high leg.A refl).0 in absurd
      (cc));
}

-- ---- sectors

turned_at : (forward : List Note → Bool) (notes after : List Note) (n : Note) → Commutated 0 forward (notes ++ n ∷ after) → TurnRule 0 forward (reverse notes) n
turned_at forward notes after n whole = each_at (λ before m. TurnRule 0 forward (reverse before) m) [] notes n after whole

pub turns_refuse : TurnsRefuse
turns_refuse = record {
  first_sector_2 = λ forward after h. (let e = (turned_at forward (ticks 2404 1 0 20 ∷ []) after (turns 2410 2) h).sector in absurd (omega arith));
  sector_left_out = λ forward after h. skipped (forward (reverse (driving []))) 3 (omega arith) (omega arith)
      (turned_at forward (driving []) after (turns 242420 3) h).sector;
  backward_where_it_is_forward = λ after h. (let e = (turned_at (λ back. true) (driving []) after (turns 242420 6) h).sector in absurd (omega arith));
  forward_where_it_is_backward = λ after h. (let e = (turned_at (λ back. false) (driving []) after (turns 242420 2) h).sector in absurd (omega arith));
  first_sector_again = λ forward after h. skipped (forward (reverse (driving (ticks 4804 2 0 0 ∷ ticks 7204 3 0 20 ∷ [])))) 1 (omega arith) (omega arith)
      (turned_at forward (driving (ticks 4804 2 0 0 ∷ ticks 7204 3 0 20 ∷ [])) after (turns 7210 1) h).sector;
  direction_of_the_start = λ loaded after h. (let e = (turned_at (forward_at loaded.settings) (acts 100 7 ∷ acts 200 20 ∷ driving (acts 5000 21 ∷ [])) after
      (turns 242420 2) h).sector in absurd (omega arith));
  turn_without_a_drive = λ forward after h. (turned_at forward [] after (turns 2410 1) h).time;
  turn_after_the_drive = λ forward after h. (turned_at forward (driving (ticks 4804 2 0 0 ∷ [])) after (turns 242420 2) h).time;
  forced_after_239999 = λ forward after h. (let e : 242420 ≤ 242419 = (turned_at forward (driving []) after (turns 242419 2) h).time in absurd (omega arith));
  crossed_after_11999 = λ forward after h. (let e : 22000 ≤ 21999 = (turned_at forward (driving (crosses 10000 ∷ [])) after (turns 21999 2) h).time in absurd
      (omega arith));
}
  where
    skipped : (forward : Bool) (s : ℕ) → (s ≡ 2 → ⊥) → (s ≡ 6 → ⊥) → s ≡ next_sector 1 forward → ⊥
    skipped true s a b e = a e
    skipped false s a b e = b e
