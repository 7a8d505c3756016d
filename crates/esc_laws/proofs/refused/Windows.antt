-- The wrong journals break the rules of windows: each at one of its notes.
use Rattle.std.proofs.Common.{◌≡◌, ◌<◌, ℕ, true, List, [], ◌∷◌, ◌++◌, reverse, Some, refl, sym, ◌∙◌, ap, subst, arith}
use Rattle.esc_base.specs.declared.event.Event.{Event}
use Rattle.esc_base.specs.declared.signal.Edge.{Edge}
use Rattle.esc_base.specs.declared.note.Note.{Note}
use Rattle.esc_base.specs.declared.note.Note.TheVariants as note
use Rattle.esc_base.specs.Numbers.{as_tick, mode_of}
use Rattle.esc_base.specs.Trace.{line}
use Rattle.edge_capture.specs.Burst.{burst, close}
use Rattle.servo_input.specs.declared.servo.Servo.{Servo}
use Rattle.servo_input.specs.declared.servo.InputKind.{InputKind}
use Rattle.servo_input.specs.declared.servo.InputKind.TheVariants as input
use Rattle.input_detect.specs.declared.window.Judgement.{Judgement}
use Rattle.input_detect.specs.declared.window.Judgement.TheVariants.{Nothing}
use Rattle.input_detect.specs.Judge.{judged}
use Rattle.settings_block.specs.declared.stored.Loaded.{Loaded}
use Rattle.settings_block.specs.Settings.{servo_of}
use Rattle.arming.proofs.InOrder.{each_at}
use Rattle.esc_laws.specs.Place.{Place}
use Rattle.esc_laws.specs.Windowed.{verdict_note, Answers, WindowRule, WindowRuleAt, Windowed}
use Rattle.esc_laws.specs.Looks.{placed}
use Rattle.esc_laws.specs.Rested.{first_rested}
use Rattle.esc_laws.proofs.Rests.{first_more}
use Rattle.esc_laws.specs.refused.Notes.{first_two, enters, leaves, window, good, bad, found, nothing}
use Rattle.esc_laws.specs.refused.Windows.{one_edge, late_edge, WindowsRefuse}
use Rattle.esc_laws.proofs.Placed.{placed-is}

-- a note keeps its rule at the place that the notes before it make
pub window_fits : (loaded : Loaded) (trace : List Event) (notes after : List Note) (n : Note) → Windowed loaded trace (notes ++ n ∷ after)
    → WindowRuleAt loaded trace (placed (reverse notes)) (reverse notes) n
window_fits loaded trace notes after n whole =
    subst (λ (p : Place). WindowRuleAt loaded trace p (reverse notes) n) (sym (placed-is notes)) (each_at (WindowRule loaded trace) [] notes n after whole)

abbrev rise : Edge
rise = record { t = as_tick 100; level = true }

none_closes : (at : ℕ) → close (line []).edges 0 (mode_of 0) ≡ Some at → ⊥
unfolding line burst
none_closes at e = cc

heard_one : burst (line one_edge).edges 0 (mode_of 0) ≡ rise ∷ []
unfolding line burst
heard_one = refl

closes_late : (at : ℕ) → close (line one_edge).edges 0 (mode_of 0) ≡ Some at → 3000 < at
unfolding line burst
closes_late at e = grind arith

-- nothing is detected in one edge
sees_nothing : (allowed : InputKind) (servo : Servo) → judged (mode_of 0) (rise ∷ []) allowed servo ≡ Nothing
sees_nothing input.Any servo = refl
sees_nothing input.DShot servo = refl
sees_nothing input.Servo servo = refl

answers_nothing : (loaded : Loaded) (entered t : ℕ) (n : Note) → Answers loaded one_edge 0 0 entered t n → n ≡ note.Nothing (as_tick t)
answers_nothing loaded entered t n a =
    a.verdict_is
    ∙ ap (λ (es : List Edge). verdict_note t (judged (mode_of 0) es loaded.settings.input (servo_of loaded.settings))) heard_one
    ∙ ap (λ (j : Judgement). verdict_note t j) (sees_nothing loaded.settings.input (servo_of loaded.settings))

rests_late : first_rested (line late_edge).edges 5606 ≡ 5800
unfolding line first_rested
rests_late = refl

pub windows_refuse : WindowsRefuse
windows_refuse = record {
  first_window_at_5 = λ loaded trace after h. (let e = (window_fits loaded trace [] after (window 5 0) h).0 in absurd (omega arith));
  first_window_in_a_mode = λ loaded trace after h. (let e = (window_fits loaded trace [] after (window 0 2) h).1 in absurd (omega arith));
  window_while_one_is_open = λ trace loaded after h. (window_fits loaded trace (first_two ++ enters 100 3 ∷ []) after (window 106 0) h).0;
  second_verdict_on_a_window = λ trace loaded after h. window_fits loaded trace (first_two ++ (enters 5000 3 ∷ nothing 5006 ∷ [])) after (nothing 5008) h;
  verdict_without_an_edge =
      λ loaded after h. (let a = window_fits loaded [] (first_two ++ enters 5000 3 ∷ []) after (nothing 5006) h in none_closes a.closed_at a.closes);
  entered_before_the_close = λ loaded after h. (let a = window_fits loaded one_edge (first_two ++ enters 3000 3 ∷ []) after
      (nothing 200000) h in let late = closes_late a.closed_at a.closes in let w = a.waits in absurd (omega arith));
  detection_from_one_edge = λ loaded after h. (let e = answers_nothing loaded 130000 130006 (found 130006 2)
      (window_fits loaded one_edge (first_two ++ enters 130000 3 ∷ []) after (found 130006 2) h) in absurd (cc));
  frame_from_one_edge = λ loaded after h. (let e = answers_nothing loaded 130000 130006 (good 130006 1000)
      (window_fits loaded one_edge (first_two ++ enters 130000 3 ∷ []) after (good 130006 1000) h) in absurd (cc));
  fault_where_no_mode_is_known = λ loaded after h. (let e = answers_nothing loaded 130000 130006 (bad 130006 1)
      (window_fits loaded one_edge (first_two ++ enters 130000 3 ∷ []) after (bad 130006 1) h) in absurd (cc));
  no_window_after_a_frame =
      λ trace loaded after h. (let e = window_fits loaded trace (first_two ++ (enters 5000 3 ∷ good 5080 1000 ∷ [])) after
      (leaves 5084 3) h refl in absurd (cc));
  no_window_after_a_detection =
      λ trace loaded after h. (let e = window_fits loaded trace (first_two ++ (enters 5000 3 ∷ found 5080 2 ∷ [])) after (leaves 5084 3) h refl in absurd (cc));
  window_right_behind_a_bad_one =
      λ trace loaded after h. (let e = (window_fits loaded trace (first_two ++ (enters 5000 3 ∷ bad 5006 1 ∷ [])) after (window 5010 0) h).0 in absurd (cc));
  window_after_599_ticks = λ trace loaded after h. (let e = (window_fits loaded trace
      (first_two ++ (enters 5000 3 ∷ nothing 5006 ∷ leaves 5010 3 ∷ enters 5602 3 ∷ [])) after
      (window 5605 0) h).0 in let r = e.rested in let m = first_more (line trace).edges 5606 in absurd (omega arith));
  window_on_a_line_not_at_rest = λ loaded after h. (let e = (window_fits loaded late_edge
      (first_two ++ (enters 5000 3 ∷ nothing 5006 ∷ leaves 5010 3 ∷ enters 5700 3 ∷ [])) after
      (window 5703 0) h).0 in let r = e.rested in let late = rests_late in absurd (omega arith));
  window_in_another_mode = λ trace loaded after h. (let e = (window_fits loaded trace (first_two ++ (enters 5000 3 ∷ found 5080 2 ∷ [])) after
      (window 5084 1) h).1 in absurd (omega arith));
}
