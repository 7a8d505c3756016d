-- Shown of the laws, and no law.
-- What the rules of control refuse: small wrong journals, each with the sentence that it breaks. Each is proved to break its
-- law, so whoever weakens it meets them.
use Rattle.std.specs.Prelude.{◌+◌, List, [], ◌∷◌, ◌++◌}
use Rattle.esc_base.specs.declared.note.Note.{Note}
use Rattle.arming.specs.Controlled.{Controlled}
use Rattle.esc_laws.specs.refused.Notes.{leaves, good, bad, ticks, arms, loses, acts, saves, crosses, first_two, frames, rows}

-- these notes, behind the first two, break the rules of control, whatever stands behind them
abbrev pub Uncontrolled : List Note → Type 0
Uncontrolled notes = (after : List Note) → Controlled (first_two ++ (notes ++ after)) → ⊥

-- thirty frames with value 0, and control tick 5000 arms
abbrev pub armed : List Note → List Note
armed rest = frames 30 0 (ticks 12000004 5000 0 0 ∷ arms 12000004 ∷ rest)

pub record ControlRefuses : Type 0 where
  -- a control tick has the number of its time, and the numbers rise
  pub number_of_another_tick : Uncontrolled (ticks 2404 2 0 0 ∷ [])
  pub number_for_the_second_time : Uncontrolled (ticks 2404 1 0 0 ∷ ticks 2410 1 0 0 ∷ [])
  -- its marks are what the notes before say
  pub session_that_nobody_opened : Uncontrolled (ticks 2404 1 4 0 ∷ [])
  pub loss_that_nobody_asked_for : Uncontrolled (ticks 2404 1 1 0 ∷ loses 2404 1 ∷ [])
  pub fuse_that_no_watcher_set : Uncontrolled (ticks 2404 1 2 0 ∷ [])
  -- its demand is the decided one: 0 while control isn't armed, and where it is armed the newest frame's, by steps of 20
  pub demand_unarmed : Uncontrolled (ticks 2404 1 0 20 ∷ [])
  pub demand_without_throttle : Uncontrolled (armed (ticks 12002404 5001 0 20 ∷ []))
  pub demand_too_soon : Uncontrolled (armed (good 12000100 1000 ∷ ticks 12002404 5001 0 40 ∷ []))
  pub demand_kept_after_a_frame_with_0 : Uncontrolled (armed (good 12000100 1000 ∷ ticks 12002404 5001 0 20 ∷ good 12002500 0 ∷ ticks 12004804 5002 0 20 ∷ []))
  -- control arms after thirty frames with value 0 and 5000 control ticks, and then it does
  pub armed_after_29_frames : Uncontrolled (frames 29 0 (ticks 12000004 5000 0 0 ∷ arms 12000004 ∷ []))
  pub armed_at_4999 : Uncontrolled (frames 30 0 (ticks 11997604 4999 0 0 ∷ arms 11997604 ∷ []))
  pub arming_left_out : Uncontrolled (frames 30 0 (ticks 12000004 5000 0 0 ∷ leaves 12000006 2 ∷ []))
  -- an X stands right behind a control tick that owes it, with the cause that is owed, and nowhere else
  pub loss_for_nothing : Uncontrolled (ticks 2404 1 0 0 ∷ loses 2404 0 ∷ [])
  pub loss_left_out : Uncontrolled (ticks 24000004 10000 0 0 ∷ leaves 24000006 2 ∷ [])
  pub loss_of_another_cause : Uncontrolled (ticks 24000004 10000 0 0 ∷ loses 24000004 1 ∷ [])
  -- a bad window doesn't put the loss off
  pub bad_window_as_a_frame : Uncontrolled (ticks 2404 1 0 0 ∷ bad 2500 1 ∷ ticks 24000004 10000 0 0 ∷ leaves 24000006 2 ∷ [])
  -- an M stands right behind a good frame whose command acts, with that command, and nowhere else
  pub act_unarmed : Uncontrolled (good 100 3 ∷ acts 100 3 ∷ [])
  pub act_left_out : Uncontrolled (armed (good 12000100 3 ∷ leaves 12000102 3 ∷ []))
  pub another_act : Uncontrolled (armed (good 12000100 3 ∷ acts 12000100 4 ∷ []))
  pub act_at_the_first_of_six : Uncontrolled (armed (good 12000100 9 ∷ acts 12000100 9 ∷ []))
  pub act_for_the_second_time : Uncontrolled (armed (good 12000100 3 ∷ acts 12000100 3 ∷ good 12000400 3 ∷ acts 12000400 3 ∷ []))
  -- a P stands only where command 12 has asked for it since the last one
  pub save_that_nobody_asked_for : Uncontrolled (saves 2404 0 ∷ [])
  pub saved_twice : Uncontrolled (armed (frames 6 12 (acts 12000100 12 ∷ saves 12000200 0 ∷ saves 12000300 0 ∷ [])))
  -- stuck stands where 60 forced Q stood in a row since the newest K with demand 0; the first Q of a drive isn't forced
  pub stuck_after_59 : Uncontrolled (ticks 2404 1 0 20 ∷ rows 60 (ticks 4804 2 1 0 ∷ []))
  pub no_mark_after_60 : Uncontrolled (ticks 2404 1 0 20 ∷ rows 61 (ticks 4804 2 0 0 ∷ []))
  pub stuck_in_the_next_drive : Uncontrolled (ticks 2404 1 0 20 ∷ rows 61 (ticks 4804 2 1 0 ∷ ticks 7204 3 1 0 ∷ []))
  pub row_that_a_crossing_ended : Uncontrolled (ticks 2404 1 0 20 ∷ rows 40 (crosses 3000 ∷ rows 40 (ticks 4804 2 1 0 ∷ [])))
