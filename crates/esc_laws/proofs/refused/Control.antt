-- The wrong journals break the rules of control: each at one of its notes.
use Rattle.std.proofs.Common.{List, [], ◌∷◌, ◌++◌, reverse, arith}
use Rattle.esc_base.specs.declared.note.Note.{Note}
use Rattle.arming.specs.Controlled.{Controlled, FitsControl}
use Rattle.arming.proofs.InOrder.{back_to}
use Rattle.esc_laws.specs.refused.Notes.{first_two, rows, frames, crosses, leaves, good, bad, ticks, arms, loses, acts, saves}
use Rattle.esc_laws.specs.refused.Control.{armed, ControlRefuses}

-- the last of these notes fits those before it
last_fits : (notes after : List Note) (n : Note) → Controlled ((first_two ++ notes) ++ n ∷ after) → FitsControl (reverse (first_two ++ notes)) n
last_fits notes after n whole = (back_to (first_two ++ notes) after n whole).0

pub control_refuses : ControlRefuses
control_refuses = record {
  number_of_another_tick = λ after h. (let e = (last_fits [] after (ticks 2404 2 0 0) h).tick.number_is in absurd (omega arith));
  number_for_the_second_time = λ after h. (let e = (last_fits (ticks 2404 1 0 0 ∷ []) after (ticks 2410 1 0 0) h).tick.rises in absurd (omega arith));
  session_that_nobody_opened = λ after h. (let e = (last_fits [] after (ticks 2404 1 4 0) h).tick.marks_are in absurd (omega arith));
  loss_that_nobody_asked_for = λ after h. (let e = (last_fits [] (loses 2404 1 ∷ after) (ticks 2404 1 1 0) h).tick.marks_are in absurd (omega arith));
  fuse_that_no_watcher_set = λ after h. (let e = (last_fits [] after (ticks 2404 1 2 0) h).tick.marks_are in absurd (omega arith));
  demand_unarmed = λ after h. (let e = (last_fits [] after (ticks 2404 1 0 20) h).tick.demand_is in absurd (omega arith));
  demand_without_throttle = λ after h. (let e = (last_fits (armed []) after (ticks 12002404 5001 0 20) h).tick.demand_is in absurd (omega arith));
  demand_too_soon =
      λ after h. (let e = (last_fits (armed (good 12000100 1000 ∷ [])) after (ticks 12002404 5001 0 40) h).tick.demand_is in absurd (omega arith));
  demand_kept_after_a_frame_with_0 = λ after h. (let e = (last_fits (armed (good 12000100 1000 ∷ ticks 12002404 5001 0 20 ∷ good 12002500 0 ∷ [])) after
      (ticks 12004804 5002 0 20) h).tick.demand_is in absurd (omega arith));
  armed_after_29_frames = λ after h. (let e = (last_fits (frames 29 0 (ticks 12000004 5000 0 0 ∷ [])) after (arms 12000004) h).paid in absurd (cc));
  armed_at_4999 = λ after h. (let e = (last_fits (frames 30 0 (ticks 11997604 4999 0 0 ∷ [])) after (arms 11997604) h).paid in absurd (cc));
  arming_left_out = λ after h. (let e = (last_fits (frames 30 0 (ticks 12000004 5000 0 0 ∷ [])) after (leaves 12000006 2) h).paid in absurd (cc));
  loss_for_nothing = λ after h. (let e = (last_fits (ticks 2404 1 0 0 ∷ []) after (loses 2404 0) h).paid in absurd (cc));
  loss_left_out = λ after h. (let e = (last_fits (ticks 24000004 10000 0 0 ∷ []) after (leaves 24000006 2) h).paid in absurd (cc));
  loss_of_another_cause = λ after h. (let e = (last_fits (ticks 24000004 10000 0 0 ∷ []) after (loses 24000004 1) h).paid in absurd (cc));
  bad_window_as_a_frame =
      λ after h. (let e = (last_fits (ticks 2404 1 0 0 ∷ bad 2500 1 ∷ ticks 24000004 10000 0 0 ∷ []) after (leaves 24000006 2) h).paid in absurd (cc));
  act_unarmed = λ after h. (let e = (last_fits (good 100 3 ∷ []) after (acts 100 3) h).paid in absurd (cc));
  act_left_out = λ after h. (let e = (last_fits (armed (good 12000100 3 ∷ [])) after (leaves 12000102 3) h).paid in absurd (cc));
  another_act = λ after h. (let e = (last_fits (armed (good 12000100 3 ∷ [])) after (acts 12000100 4) h).paid in absurd (cc));
  act_at_the_first_of_six = λ after h. (let e = (last_fits (armed (good 12000100 9 ∷ [])) after (acts 12000100 9) h).paid in absurd (cc));
  act_for_the_second_time =
      λ after h. (let e = (last_fits (armed (good 12000100 3 ∷ acts 12000100 3 ∷ good 12000400 3 ∷ [])) after (acts 12000400 3) h).paid in absurd (cc));
  save_that_nobody_asked_for = λ after h. (let e = (last_fits [] after (saves 2404 0) h).save in absurd (cc));
  saved_twice =
      λ after h. (let e = (last_fits (armed (frames 6 12 (acts 12000100 12 ∷ saves 12000200 0 ∷ []))) after (saves 12000300 0) h).save in absurd (cc));
  stuck_after_59 = λ after h. (let e = (last_fits (ticks 2404 1 0 20 ∷ rows 60 []) after (ticks 4804 2 1 0) h).tick.marks_are in absurd (omega arith));
  no_mark_after_60 = λ after h. (let e = (last_fits (ticks 2404 1 0 20 ∷ rows 61 []) after (ticks 4804 2 0 0) h).tick.marks_are in absurd (omega arith));
  stuck_in_the_next_drive =
      λ after h. (let e = (last_fits (ticks 2404 1 0 20 ∷ rows 61 (ticks 4804 2 1 0 ∷ [])) after (ticks 7204 3 1 0) h).tick.marks_are in absurd (omega arith));
  row_that_a_crossing_ended =
      λ after h. (let e = (last_fits (ticks 2404 1 0 20 ∷ rows 40 (crosses 3000 ∷ rows 40 [])) after (ticks 4804 2 1 0) h).tick.marks_are in absurd
      (omega arith));
}
