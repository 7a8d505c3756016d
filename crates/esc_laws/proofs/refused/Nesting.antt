-- The wrong journals break the rules of activations: each at one of its notes.
use Rattle.std.proofs.Common.{◌≡◌, ◌<◌, ◌≤◌, ◌⊎◌, inl, inr, ℕ, true, false, List, [], ◌∷◌, ◌++◌, reverse, refl, sym, ◌∙◌, subst, arith}
use Rattle.std.proofs.lemmas.List.Elements.{All-head}
use Rattle.esc_base.specs.declared.kind.Kind.{Kind}
use Rattle.esc_base.specs.declared.kind.Kind.TheVariants as kind
use Rattle.esc_base.specs.declared.note.Note.{Note}
use Rattle.esc_base.specs.Numbers.{kind_number}
use Rattle.settings_block.specs.declared.stored.Loaded.{Loaded}
use Rattle.interrupt_machine.specs.declared.nest.Nest.{Nest}
use Rattle.interrupt_machine.specs.declared.nest.Nest.TheVariants.{One, Full}
use Rattle.arming.proofs.InOrder.{each_at}
use Rattle.esc_laws.specs.Place.{Place}
use Rattle.commutation.specs.Sectors.{low_of}
use Rattle.commutation.specs.Commutated.{sector_at}
use Rattle.gate_driver.specs.DeadSafe.{high_free_at}
use Rattle.esc_laws.specs.Calls.{turned_at, turns_in, turn_was_due, low_is_on, postponed_at, HasTurned, HasCaughtUp}
use Rattle.esc_laws.specs.Saves.{advance_of}
use Rattle.esc_laws.specs.Nested.{IsAboveAll, NestRule, NestRuleAt, NestedAfter}
use Rattle.esc_laws.specs.Steps.{opening}
use Rattle.esc_laws.specs.Looks.{placed}
use Rattle.esc_laws.specs.refused.Notes.{switches, turns, crosses, enters, leaves, window, good, nothing, ticks, arms, loses, acts, saves}
use Rattle.esc_laws.specs.refused.Nesting.{started, late_low, NestingRefuses}
use Rattle.esc_laws.proofs.Placed.{placed-is}

pub nest_fits : (nest : Nest) (loaded : Loaded) (notes after : List Note) (n : Note)
    → NestedAfter (advance_of loaded.settings) nest (opening loaded) (notes ++ n ∷ after)
    → NestRuleAt (advance_of loaded.settings) nest (placed (reverse (opening loaded ++ notes))) (reverse (opening loaded ++ notes)) n
nest_fits nest loaded notes after n whole =
    subst (λ (p : Place). NestRuleAt (advance_of loaded.settings) nest p (reverse (opening loaded ++ notes)) n) (sym (placed-is (opening loaded ++ notes)))
    (each_at (NestRule (advance_of loaded.settings) nest) (opening loaded) notes n after whole)

-- no kind enters above itself or a higher one
not_above : (nest : Nest) (j : Kind) (k : ℕ) → 0 < kind_number j → k ≤ kind_number j → IsAboveAll nest (j ∷ []) k → ⊥
not_above Full j k some le all = let lt = All-head (λ i. kind_number i < k) j [] all in omega arith
not_above One j k some le all = let zero = (All-head (λ i. (kind_number i ≡ 0) × (0 < k)) j [] all).0 in omega arith

neither : (verdicts windows : ℕ) → verdicts ≡ 0 → windows ≡ 0 → (verdicts ≡ 1) ⊎ ((verdicts ≡ 0) × (windows ≡ 1)) → ⊥
neither verdicts windows v w (inl e) = omega arith
neither verdicts windows v w (inr e) = let f = e.1 in omega arith

two : (verdicts windows : ℕ) → verdicts ≡ 2 → (verdicts ≡ 1) ⊎ ((verdicts ≡ 0) × (windows ≡ 1)) → ⊥
two verdicts windows v (inl e) = omega arith
two verdicts windows v (inr e) = let f = e.0 in omega arith

-- a COMM that returns has done neither
not_both : (advance : ℕ) (back : List Note) → (turns_in back ≡ 1 → (low_is_on back ≡ false) × (high_free_at (low_of (sector_at back)) back ≤ turned_at back))
    → (turns_in back ≡ 0 → (turn_was_due advance back ≡ true) ⊎ (postponed_at back ≡ false) ⊎ (low_is_on back ≡ false)) → HasTurned back
    ⊎ HasCaughtUp advance back → ⊥
not_both advance back one none (inl h) =
    let o = one h.one in
    elim h.low [ inl on ↦ (let z : true ≡ false = sym on ∙ o.0 in cc) | inr l ↦ (let f = o.1 in omega arith) ]
not_both advance back one none (inr h) = elim (none h.none) [
  | inl due ↦ (let z : true ≡ false = sym due ∙ h.not_due in cc)
  | inr (inl p) ↦ (let z : false ≡ true = sym p ∙ h.postponed in cc)
  | inr (inr off) ↦ (let z : false ≡ true = sym off ∙ h.low in cc)
]

pub nesting_refuses : NestingRefuses
nesting_refuses = record {
  return_without_an_entry = λ nest loaded after h. (let e = (nest_fits nest loaded [] after (leaves 100 2) h).0 in absurd (cc));
  return_of_an_outer_kind =
      λ nest loaded after h. (let e = (nest_fits nest loaded (enters 2400 2 ∷ enters 2402 3 ∷ []) after (leaves 2404 2) h).0 in absurd (cc));
  lower_kind_enters =
      λ nest loaded after h. not_above nest kind.Cap 2 (omega arith) (omega arith) (nest_fits nest loaded (enters 2400 3 ∷ []) after (enters 2402 2) h).1;
  kind_enters_twice =
      λ nest loaded after h. not_above nest kind.Tick 2 (omega arith) (omega arith) (nest_fits nest loaded (enters 2400 2 ∷ []) after (enters 2402 2) h).1;
  enters_above_another_with_nest_1 = λ loaded after h. (let zero = (All-head (λ i. (kind_number i ≡ 0) × (0 < 3)) kind.Tick []
      (nest_fits One loaded (enters 2400 2 ∷ []) after (enters 2402 3) h).1).0 in absurd (omega arith));
  uart_enters = λ nest loaded after h. (nest_fits nest loaded [] after (enters 2400 1) h).0;
  window_in_tick = λ nest loaded after h. (let e = nest_fits nest loaded (enters 2400 2 ∷ []) after (window 2402 0) h in absurd (cc));
  verdict_where_none_is_open = λ nest loaded after h. (let e = nest_fits nest loaded [] after (nothing 5000) h in absurd (cc));
  act_in_main = λ nest loaded after h. (let e = nest_fits nest loaded (enters 2400 0 ∷ []) after (acts 2402 3) h in absurd (cc));
  control_tick_in_cap = λ nest loaded after h. (let e = nest_fits nest loaded (enters 2400 3 ∷ []) after (ticks 2402 1 0 0) h in absurd (cc));
  arming_in_cap = λ nest loaded after h. (let e = nest_fits nest loaded (enters 2400 3 ∷ []) after (arms 2402) h in absurd (cc));
  loss_in_main = λ nest loaded after h. (let e = nest_fits nest loaded (enters 2400 0 ∷ []) after (loses 2402 0) h in absurd (cc));
  save_in_tick = λ nest loaded after h. (let e = nest_fits nest loaded (enters 2400 2 ∷ []) after (saves 2402 0) h in absurd (cc));
  tick_returns_without_one = λ nest loaded after h. (let e = (nest_fits nest loaded (enters 2400 2 ∷ []) after (leaves 2408 2) h).1 in absurd (omega arith));
  tick_returns_with_two = λ nest loaded after h. (let e = (nest_fits nest loaded (enters 4800 2 ∷ ticks 4802 1 0 0 ∷ ticks 4804 2 0 0 ∷ []) after
      (leaves 4808 2) h).1 in absurd (omega arith));
  cap_returns_without_either = λ nest loaded after h. neither 0 0 refl refl (nest_fits nest loaded (enters 5000 3 ∷ []) after (leaves 5008 3) h).1;
  cap_returns_with_two_verdicts =
      λ nest loaded after h. two 2 1 refl (nest_fits nest loaded (enters 5000 3 ∷ good 5006 1000 ∷ window 5008 2 ∷ nothing 5010 ∷ []) after
      (leaves 5012 3) h).1;
  main_returns_without_one = λ nest loaded after h. (let e = (nest_fits nest loaded (enters 2400 0 ∷ []) after (leaves 2404 0) h).1 in absurd (omega arith));
  main_returns_with_two = λ nest loaded after h. (let e = (nest_fits nest loaded (enters 2400 0 ∷ saves 2402 0 ∷ saves 2404 0 ∷ []) after
      (leaves 2406 0) h).1 in absurd (omega arith));
  turn_in_tick = λ nest loaded after h. (let e = nest_fits nest loaded (enters 2400 2 ∷ []) after (turns 2402 1) h in absurd (cc));
  turn_in_pwm = λ nest loaded after h. (let e = nest_fits nest loaded (enters 2400 5 ∷ []) after (turns 2402 1) h in absurd (cc));
  word_changes_in_cap = λ nest loaded after h. nest_fits nest loaded (enters 2400 3 ∷ []) after (switches 2402 1 0) h;
  word_changes_where_none_is_open = λ nest loaded after h. nest_fits nest loaded [] after (switches 2402 1 0) h;
  crossing_in_comm = λ nest loaded after h. (let e = nest_fits nest loaded (enters 2400 6 ∷ []) after (crosses 2402) h in absurd (cc));
  comm_returns_with_two_turns =
      λ nest loaded after h. not_both (advance_of loaded.settings) (reverse (opening loaded
      ++ started (enters 2410 6 ∷ turns 2420 1 ∷ turns 2422 2 ∷ []))) (λ e. absurd (omega arith))
      (λ e. absurd (omega arith)) (nest_fits nest loaded (started (enters 2410 6 ∷ turns 2420 1 ∷ turns 2422 2 ∷ [])) after (leaves 2430 6) h).1;
  comm_returns_without_a_turn =
      λ nest loaded after h. not_both (advance_of loaded.settings) (reverse (opening loaded ++ started (enters 2410 6 ∷ []))) (λ e. absurd (omega arith))
      (λ e. inl refl) (nest_fits nest loaded (started (enters 2410 6 ∷ [])) after (leaves 2430 6) h).1;
  forced_turn_left_out =
      λ nest loaded after h. not_both (advance_of loaded.settings) (reverse (opening loaded
      ++ late_low (enters 242424 6 ∷ switches 242430 0 2 ∷ []))) (λ e. absurd (omega arith))
      (λ e. inl refl) (nest_fits nest loaded (late_low (enters 242424 6 ∷ switches 242430 0 2 ∷ [])) after (leaves 242440 6) h).1;
  low_switch_left_off =
      λ nest loaded after h. not_both (advance_of loaded.settings) (reverse (opening loaded
      ++ started (enters 2410 6 ∷ turns 2420 1 ∷ []))) (λ e. (refl, omega arith))
      (λ e. absurd (omega arith)) (nest_fits nest loaded (started (enters 2410 6 ∷ turns 2420 1 ∷ [])) after (leaves 2430 6) h).1;
  low_switch_postponed_for_nothing =
      λ nest loaded after h. not_both (advance_of loaded.settings)
      (reverse (opening loaded ++ started (enters 2410 6 ∷ switches 2411 2 0 ∷ switches 2412 0 0 ∷ turns 2460 1 ∷ []))) (λ e. (refl, omega arith))
      (λ e. absurd (omega arith))
      (nest_fits nest loaded (started (enters 2410 6 ∷ switches 2411 2 0 ∷ switches 2412 0 0 ∷ turns 2460 1 ∷ [])) after (leaves 2470 6) h).1;
  comm_for_nothing =
      λ nest loaded after h. not_both (advance_of loaded.settings) (reverse (opening loaded
      ++ enters 2410 6 ∷ [])) (λ e. absurd (omega arith)) (λ e. inr (inl refl))
      (nest_fits nest loaded (enters 2410 6 ∷ []) after (leaves 2430 6) h).1;
  postponed_switch_left_off =
      λ nest loaded after h. not_both (advance_of loaded.settings) (reverse (opening loaded
      ++ late_low (enters 2470 6 ∷ []))) (λ e. absurd (omega arith)) (λ e. inr (inr refl))
      (nest_fits nest loaded (late_low (enters 2470 6 ∷ [])) after (leaves 2480 6) h).1;
  postponed_switch_twice =
      λ nest loaded after h. not_both (advance_of loaded.settings)
      (reverse (opening loaded ++ late_low (enters 2470 6 ∷ switches 2475 0 2 ∷ leaves 2480 6 ∷ enters 2490 6 ∷ []))) (λ e. absurd (omega arith))
      (λ e. inr (inl refl))
      (nest_fits nest loaded (late_low (enters 2470 6 ∷ switches 2475 0 2 ∷ leaves 2480 6 ∷ enters 2490 6 ∷ [])) after (leaves 2494 6) h).1;
  low_switch_that_was_on =
      λ nest loaded after h. not_both (advance_of loaded.settings)
      (reverse (opening loaded ++ started (enters 2410 6 ∷ turns 2420 1 ∷ switches 2422 0 2 ∷ leaves 2430 6 ∷ enters 2440 6 ∷ []))) (λ e. absurd (omega arith))
      (λ e. inr (inl refl))
      (nest_fits nest loaded (started (enters 2410 6 ∷ turns 2420 1 ∷ switches 2422 0 2 ∷ leaves 2430 6 ∷ enters 2440 6 ∷ [])) after (leaves 2444 6) h).1;
}
