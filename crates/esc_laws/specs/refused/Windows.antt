-- Shown of the laws, and no law.
-- What the rules of windows and their verdicts refuse: small wrong journals, each with the sentence that it breaks.
use Rattle.std.specs.Prelude.{◌+◌, true, List, [], ◌∷◌, ◌++◌}
use Rattle.esc_base.specs.declared.event.Event.{Event}
use Rattle.esc_base.specs.declared.event.Event.TheVariants as event
use Rattle.esc_base.specs.declared.note.Note.{Note}
use Rattle.esc_base.specs.Numbers.{as_tick}
use Rattle.settings_block.specs.declared.stored.Loaded.{Loaded}
use Rattle.esc_laws.specs.Windowed.{Windowed}
use Rattle.esc_laws.specs.refused.Notes.{enters, leaves, window, good, bad, found, nothing, first_two}

-- these notes, behind the first two, break the rules of windows for this trace, whatever stands behind them
abbrev pub Unwindowed : List Event → List Note → Type 0
Unwindowed trace notes = (loaded : Loaded) (after : List Note) → Windowed loaded trace (first_two ++ (notes ++ after)) → ⊥

-- the signal line rises at tick 100, and no more
abbrev pub one_edge : List Event
one_edge = event.Edge (as_tick 100) true ∷ []

-- the same at tick 5600, so the line has rested at 5800
abbrev pub late_edge : List Event
late_edge = event.Edge (as_tick 5600) true ∷ []

pub record WindowsRefuse : Type 0 where
  -- the first window opens at tick 0, in mode 0
  pub first_window_at_5 : (loaded : Loaded) (trace : List Event) (after : List Note) → Windowed loaded trace (window 5 0 ∷ after) → ⊥
  pub first_window_in_a_mode : (loaded : Loaded) (trace : List Event) (after : List Note) → Windowed loaded trace (window 0 2 ∷ after) → ⊥
  -- W and F alternate
  pub window_while_one_is_open : (trace : List Event) → Unwindowed trace (enters 100 3 ∷ window 106 0 ∷ [])
  pub second_verdict_on_a_window : (trace : List Event) → Unwindowed trace (enters 5000 3 ∷ nothing 5006 ∷ nothing 5008 ∷ [])
  -- an F stands in an activation that was entered at or after the window's close, and a window without an edge doesn't close
  pub verdict_without_an_edge : Unwindowed [] (enters 5000 3 ∷ nothing 5006 ∷ [])
  pub entered_before_the_close : Unwindowed one_edge (enters 3000 3 ∷ nothing 200000 ∷ [])
  -- it is the verdict on the window's whole burst, and a window of mode 0 has no frames
  pub detection_from_one_edge : Unwindowed one_edge (enters 130000 3 ∷ found 130006 2 ∷ [])
  pub frame_from_one_edge : Unwindowed one_edge (enters 130000 3 ∷ good 130006 1000 ∷ [])
  pub fault_where_no_mode_is_known : Unwindowed one_edge (enters 130000 3 ∷ bad 130006 1 ∷ [])
  -- after a good frame and after a detection the next window opens in the same activation
  pub no_window_after_a_frame : (trace : List Event) → Unwindowed trace (enters 5000 3 ∷ good 5080 1000 ∷ leaves 5084 3 ∷ [])
  pub no_window_after_a_detection : (trace : List Event) → Unwindowed trace (enters 5000 3 ∷ found 5080 2 ∷ leaves 5084 3 ∷ [])
  -- after a bad one and after nothing it opens in a later one, at least 600 ticks after the F, when the line has rested
  pub window_right_behind_a_bad_one : (trace : List Event) → Unwindowed trace (enters 5000 3 ∷ bad 5006 1 ∷ window 5010 0 ∷ [])
  pub window_after_599_ticks : (trace : List Event) → Unwindowed trace (enters 5000 3 ∷ nothing 5006 ∷ leaves 5010 3 ∷ enters 5602 3 ∷ window 5605 0 ∷ [])
  pub window_on_a_line_not_at_rest : Unwindowed late_edge (enters 5000 3 ∷ nothing 5006 ∷ leaves 5010 3 ∷ enters 5700 3 ∷ window 5703 0 ∷ [])
  -- it opens in the mode that control is in
  pub window_in_another_mode : (trace : List Event) → Unwindowed trace (enters 5000 3 ∷ found 5080 2 ∷ window 5084 1 ∷ [])
