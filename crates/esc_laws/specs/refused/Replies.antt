-- Shown of the laws, and no law.
-- What the laws refuse of replies: small wrong journals, each with the sentence that it breaks. And some replies that they allow.
use Rattle.std.specs.Prelude.{◌≤◌, ◌+◌, ℕ, true, List, [], ◌∷◌, ◌++◌, Option, Some, None}
use Rattle.esc_base.specs.declared.kind.Kind.TheVariants as kind
use Rattle.esc_base.specs.declared.event.Event.{Event}
use Rattle.esc_base.specs.declared.event.Event.TheVariants as event
use Rattle.esc_base.specs.declared.note.Note.{Note}
use Rattle.esc_base.specs.declared.note.Note.TheVariants as note
use Rattle.esc_base.specs.Numbers.{as_tick}
use Rattle.settings_block.specs.declared.stored.Loaded.{Loaded}
use Rattle.interrupt_machine.specs.declared.nest.Nest.{Nest}
use Rattle.esc_laws.specs.Replied.{Replied}
use Rattle.esc_laws.specs.Steps.{Turned, StepFits}
use Rattle.esc_laws.specs.refused.Notes.{enters, leaves, window, good, bad, found, ticks, turns, first_two}
use Rattle.esc_laws.specs.refused.Windows.{Unwindowed}
use Rattle.esc_laws.specs.refused.Nesting.{Unnested}
use Rattle.esc_laws.specs.refused.Steps.{entry, own}

-- V and R
abbrev pub tells : ℕ → Option ℕ → Note
tells t period = note.Period (as_tick t) period

abbrev pub replies : ℕ → ℕ → ℕ → Note
replies t start bits = note.Reply (as_tick t) (as_tick start) bits

-- the bits for no period, 0 01010 01010 01010 10001, and those for 1000 microseconds, 0 11101 10101 01001 00101
abbrev pub none_bits : ℕ
none_bits = 0x52951

abbrev pub thousand_bits : ℕ
thousand_bits = 0xED525

-- a window opens at 5000 in this mode
abbrev pub listens : ℕ → List Note
listens m = enters 4200 3 ∷ found 4206 m ∷ window 5000 m ∷ leaves 5002 3 ∷ []

-- a good frame in it at 6200; its V, while there is no drive; and its R
abbrev pub with_frame : ℕ → List Note
with_frame m = listens m ++ (enters 6160 3 ∷ good 6200 1000 ∷ [])

abbrev pub with_period : ℕ → List Note
with_period m = with_frame m ++ tells 6202 None ∷ []

abbrev pub with_reply : ℕ → List Note
with_reply m = with_period m ++ replies 6204 7440 none_bits ∷ []

-- the line rises at this tick, and no more
abbrev pub changes_at : ℕ → List Event
changes_at t = event.Edge (as_tick t) true ∷ []

-- a drive with six sector changes, 8000 ticks apart
abbrev pub six_turns : List Note
six_turns = ticks 2404 1 0 20 ∷ turns 2500 1 ∷ turns 10500 2 ∷ turns 18500 3 ∷ turns 26500 4 ∷ turns 34500 5 ∷ turns 42500 6 ∷ []

-- and with a seventh, so six gaps of 8000: a period of 1000 microseconds
abbrev pub seven_turns : List Note
seven_turns = six_turns ++ turns 50500 1 ∷ []

-- a good frame at 64000, in a window of mode 4
abbrev pub later_frame : List Note
later_frame = window 62600 4 ∷ enters 63900 3 ∷ good 64000 1000 ∷ []

-- these notes, behind the first two, break the rules of replies for this trace, whatever stands behind them
abbrev pub Unreplied : List Event → List Note → Type 0
Unreplied trace notes = (after : List Note) → Replied trace (first_two ++ (notes ++ after)) → ⊥

pub record RepliesRefuse : Type 0 where
  -- a V stands after a good frame in a bidirectional mode, and nowhere else
  pub period_for_a_damaged_frame : (trace : List Event) → Unreplied trace (listens 4 ++ (enters 6160 3 ∷ bad 6200 5 ∷ tells 6202 None ∷ []))
  pub period_for_a_frame_in_mode_1 : (trace : List Event) → Unreplied trace (with_frame 1 ++ tells 6202 None ∷ [])
  pub period_for_a_detection : (trace : List Event) → Unreplied trace (enters 4200 3 ∷ found 4206 4 ∷ tells 4208 None ∷ [])
  pub period_for_nothing : (trace : List Event) → Unreplied trace (listens 4 ++ tells 5100 None ∷ [])
  pub second_period : (trace : List Event) → Unreplied trace (with_period 4 ++ tells 6204 None ∷ [])
  -- an R stands after a V, and nowhere else
  pub reply_without_a_period : (trace : List Event) → Unreplied trace (with_frame 4 ++ replies 6204 7440 none_bits ∷ [])
  pub second_reply : (trace : List Event) → Unreplied trace (with_reply 4 ++ replies 6206 7440 none_bits ∷ [])
  -- each such frame has both in its activation
  pub no_period : (trace : List Event) → Unreplied trace (with_frame 4 ++ leaves 6204 3 ∷ [])
  pub no_reply : (trace : List Event) → Unreplied trace (with_period 3 ++ leaves 6204 3 ∷ [])
  -- the V has the electrical period at its place: from the newest Q back to the sixth before it, in the same drive
  pub period_without_a_drive : (trace : List Event) → Unreplied trace (with_frame 4 ++ tells 6202 (Some 1000) ∷ [])
  pub period_with_six_turns : (trace : List Event) → Unreplied trace (six_turns ++ (later_frame ++ tells 64002 (Some 1000) ∷ []))
  pub no_period_with_seven_turns : (trace : List Event) → Unreplied trace (seven_turns ++ (later_frame ++ tells 64002 None ∷ []))
  pub another_period : (trace : List Event) → Unreplied trace (seven_turns ++ (later_frame ++ tells 64002 (Some 999) ∷ []))
  pub period_before_the_newest_turn : (trace : List Event)
      → Unreplied trace (seven_turns ++ (turns 62500 2 ∷ later_frame ++ tells 64002 (Some 1000) ∷ []))
  pub period_after_the_drive : (trace : List Event)
      → Unreplied trace (seven_turns ++ (ticks 52804 22 0 0 ∷ later_frame ++ tells 64002 (Some 1000) ∷ []))
  pub period_of_the_drive_before : (trace : List Event)
      → Unreplied trace (seven_turns ++ (ticks 52804 22 0 0 ∷ ticks 55204 23 0 20 ∷ later_frame ++ tells 64002 (Some 1000) ∷ []))
  -- the reply starts 1440 ticks after the frame's last edge, or at the next tick where it is loaded later
  pub start_after_1439_ticks : Unreplied (changes_at 6000) (with_period 4 ++ replies 6204 7439 none_bits ∷ [])
  pub start_after_1441_ticks : Unreplied (changes_at 6000) (with_period 4 ++ replies 6204 7441 none_bits ∷ [])
  pub start_before_the_load : Unreplied (changes_at 6000) (with_period 4 ++ replies 7604 7440 none_bits ∷ [])
  pub start_at_the_load : Unreplied (changes_at 6000) (with_period 4 ++ replies 7604 7604 none_bits ∷ [])
  -- its bits are those of the V's period
  pub bits_of_another_period : (trace : List Event) → Unreplied trace (with_period 4 ++ replies 6204 7440 thousand_bits ∷ [])
  pub line_that_starts_high : (trace : List Event) → Unreplied trace (with_period 4 ++ replies 6204 7440 (none_bits + 0x100000) ∷ [])

-- CAP has loaded a reply that ends at 8784
abbrev pub reply_ends : List Turned
reply_ends =
    entry 4200 kind.Cap ∷ own 5000 kind.Cap (found 5000 4 ∷ window 5000 4 ∷ leaves 5000 3 ∷ []) ∷ entry 6160 kind.Cap
    ∷ own 6200 kind.Cap (good 6200 1000 ∷ tells 6200 None ∷ replies 6200 7440 none_bits ∷ leaves 6200 3 ∷ []) ∷ []

pub record ReplyWindowsRefuse : Type 0 where
  -- after a frame that gets a reply the next window opens in a later activation
  pub window_in_place_of_a_reply : (trace : List Event) → Unwindowed trace (with_frame 4 ++ window 6202 4 ∷ [])
  pub window_beside_the_reply : (trace : List Event) → Unwindowed trace (with_reply 4 ++ window 6206 4 ∷ [])
  -- which is entered at the reply's end or later: that stands 1344 ticks after its start in mode 4, and 2688 in mode 3
  pub window_before_the_end : (trace : List Event) → Unwindowed trace (with_reply 4 ++ (leaves 6208 3 ∷ enters 8783 3 ∷ window 8785 4 ∷ []))
  pub window_before_the_end_in_mode_3 : (trace : List Event) → Unwindowed trace (with_reply 3 ++ (leaves 6208 3 ∷ enters 10127 3 ∷ window 10129 3 ∷ []))
  -- and when the line has rested
  pub window_before_the_rest : Unwindowed (changes_at 8700) (with_reply 4 ++ (leaves 6208 3 ∷ enters 8899 3 ∷ window 8901 4 ∷ []))
  -- V and R stand in CAP
  pub period_in_tick : (nest : Nest) → Unnested nest (enters 2400 2 ∷ tells 2402 None ∷ [])
  pub reply_in_main : (nest : Nest) → Unnested nest (enters 2400 0 ∷ replies 2402 2403 none_bits ∷ [])
  -- CAP is entered when the reply ends
  pub cap_enters_a_tick_late : (loaded : Loaded) (nest : Nest) (cost : ℕ) → cost ≤ 16 → StepFits loaded nest cost [] reply_ends (entry 8785 kind.Cap) → ⊥

-- these notes, behind the first two, keep the rules of replies
abbrev pub IsReplied : List Event → List Note → Type 0
IsReplied trace notes = Replied trace (first_two ++ notes)

pub record SomeAreReplied : Type 0 where
  -- while there is no drive, in both modes
  pub without_a_period : IsReplied (changes_at 6000) (with_reply 4 ++ leaves 6206 3 ∷ [])
  pub without_a_period_in_mode_3 : IsReplied (changes_at 6000) (with_reply 3 ++ leaves 6206 3 ∷ [])
  -- loaded late
  pub loaded_late : IsReplied (changes_at 6000) (with_period 4 ++ (replies 7604 7605 none_bits ∷ leaves 7606 3 ∷ []))
  -- six gaps of 8000 ticks are a period of 1000 microseconds
  pub with_a_period : IsReplied (changes_at 63700)
      (seven_turns ++ (later_frame ++ (tells 64002 (Some 1000) ∷ replies 64004 65140 thousand_bits ∷ leaves 64006 3 ∷ [])))
