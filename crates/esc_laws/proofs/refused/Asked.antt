-- The wrong journals break the law of entries, each at its last I.
use Rattle.std.proofs.Common.{◌≡◌, ◌≤◌, ◌<◌, ◌+◌, ◌/◌, ℕ, true, false, List, [], ◌∷◌, ◌++◌, reverse, refl, sym, ◌∙◌, subst, arith}
use Rattle.esc_base.specs.declared.event.Event.{Event}
use Rattle.esc_base.specs.declared.note.Note.{Note}
use Rattle.esc_base.specs.Numbers.{mode_of}
use Rattle.esc_base.specs.Times.{is_reached}
use Rattle.esc_base.specs.Trace.{line}
use Rattle.edge_capture.specs.Burst.{burst, close}
use Rattle.settings_block.specs.declared.stored.Loaded.{Loaded}
use Rattle.arming.proofs.InOrder.{each_at}
use Rattle.esc_laws.specs.Asked.{AskRule}
use Rattle.esc_laws.specs.Looks.{placed}
use Rattle.esc_laws.specs.Place.{Place, place}
use Rattle.esc_laws.specs.Rested.{first_rested}
use Rattle.esc_laws.specs.Steps.{opening}
use Rattle.esc_laws.specs.refused.Notes.{enters, leaves, nothing, ticks, turns}
use Rattle.esc_laws.specs.refused.Crossings.{looks}
use Rattle.esc_laws.specs.refused.Nesting.{started}
use Rattle.esc_laws.specs.refused.Windows.{late_edge}
use Rattle.esc_laws.specs.refused.Steps.{two_edges}
use Rattle.esc_laws.specs.refused.Replies.{with_reply}
use Rattle.esc_laws.specs.refused.Asked.{Asked, EntriesRefuse}
use Rattle.esc_laws.specs.allowed.Calls.{turned}
use Rattle.esc_laws.proofs.Placed.{placed-is}
use Rattle.esc_laws.proofs.Rests.{first_more}

-- a note keeps the law at the place that the notes before it make
asks_at : (loaded : Loaded) (trace : List Event) (notes after : List Note) (n : Note) → Asked loaded trace (opening loaded ++ (notes ++ n ∷ after))
    → AskRule loaded trace (placed (reverse (opening loaded ++ notes))) (reverse (opening loaded ++ notes)) n
asks_at loaded trace notes after n whole =
    subst (λ (p : Place). AskRule loaded trace p (reverse (opening loaded ++ notes)) n) (sym (placed-is (opening loaded ++ notes)))
    (each_at (λ before m. AskRule loaded trace (place before) (reverse before) m) [] (opening loaded ++ notes) n after whole)

not_closed : is_reached (close (line two_edges).edges 0 (mode_of 0)) 4199 ≡ false
unfolding line burst
not_closed = refl

never_closed : is_reached (close (line []).edges 0 (mode_of 0)) 9000 ≡ false
unfolding line burst
never_closed = refl

rests_late : first_rested (line late_edge).edges 5606 ≡ 5800
unfolding line first_rested
rests_late = refl

pub entries_refuse : EntriesRefuse
entries_refuse = record {
  tick_before_the_first = λ trace loaded after h. (let l = asks_at loaded trace [] after (enters 2399 2) h in absurd (omega arith));
  tick_for_the_second_time = λ trace loaded after h. (
      let l = asks_at loaded trace (enters 2400 2 ∷ ticks 2402 1 0 0 ∷ leaves 2404 2 ∷ []) after (enters 4799 2) h in absurd (omega arith));
  cap_before_the_close = λ loaded after h. (let e : false ≡ true = sym not_closed ∙ asks_at loaded two_edges [] after (enters 4199 3) h in absurd (cc));
  cap_without_an_edge = λ loaded after h. (let e : false ≡ true = sym never_closed ∙ asks_at loaded [] [] after (enters 9000 3) h in absurd (cc));
  cap_after_599_ticks = λ trace loaded after h. (
      let l = asks_at loaded trace (enters 5000 3 ∷ nothing 5006 ∷ leaves 5010 3 ∷ []) after (enters 5605 3) h in
      let m = first_more (line trace).edges 5606 in absurd (omega arith));
  cap_on_a_line_not_at_rest = λ loaded after h. (
      let l = asks_at loaded late_edge (enters 5000 3 ∷ nothing 5006 ∷ leaves 5010 3 ∷ []) after (enters 5799 3) h in
      let r = rests_late in absurd (omega arith));
  cap_before_the_reply_ends = λ trace loaded after h. (
      let l = asks_at loaded trace (with_reply 4 ++ leaves 6208 3 ∷ []) after (enters 8783 3) h in
      let m = first_more (line trace).edges 8784 in absurd (omega arith));
  pwm_without_a_demand = λ trace loaded after h. (let e : false ≡ true = asks_at loaded trace [] after (enters 4000 5) h in absurd (cc));
  pwm_for_no_edge = λ trace loaded after h. (
      let e : false ≡ true = asks_at loaded trace (started (enters 4000 5 ∷ leaves 4012 5 ∷ [])) after (enters 4019 5) h in absurd (cc));
  comm_without_a_drive = λ trace loaded after h. (let e : false ≡ true = asks_at loaded trace [] after (enters 2410 6) h in absurd (cc));
  comm_before_a_turn_is_due = λ trace loaded after h. (let e : false ≡ true = asks_at loaded trace turned after (enters 242499 6) h in absurd (cc));
  cmp_without_a_drive = λ trace loaded after h. (asks_at loaded trace [] after (enters 2396 4) h).0;
  cmp_before_the_first_sector = λ trace loaded after h. (asks_at loaded trace (started []) after (enters 2420 4) h).0;
  fourth_look_after_399_ticks = λ trace loaded after h. (
      let l = (asks_at loaded trace (turned ++ (looks 8500 ++ looks 8600 ++ looks 8700)) after (enters 8899 4) h).1.since_turn in absurd (omega arith));
  fourth_look_after_299_ticks = λ trace loaded after h. (
      let l = (asks_at loaded trace (turned ++ (looks 8500 ++ looks 8600 ++ (enters 8650 6 ∷ turns 8652 2 ∷ leaves 8660 6 ∷ looks 8700))) after
      (enters 8799 4) h).1.all in absurd (omega arith));
  cmp_after_the_drive = λ trace loaded after h. (asks_at loaded trace (turned ++ ticks 4804 2 0 0 ∷ []) after (enters 8500 4) h).0;
}
