-- A law, or what a law is said with: what `Legal` means rests on this.
-- Windows and their verdicts. Each rule looks at a note, at all notes before it, and at the trace up to the note's time.
use Rattle.std.specs.Prelude.{◌≡◌, ◌≤◌, ℕ, true, false, List, [], reverse, Some}
use Rattle.esc_base.specs.declared.event.Event.{Event}
use Rattle.esc_base.specs.declared.note.Note.{Note}
use Rattle.esc_base.specs.declared.note.Note.TheVariants as note
use Rattle.esc_base.specs.Numbers.{mode_number, why_number, mode_of, bit_of, as_tick}
use Rattle.esc_base.specs.Journal.{Each}
use Rattle.esc_base.specs.Trace.{line}
use Rattle.edge_capture.specs.Burst.{burst, close}
use Rattle.settings_block.specs.declared.stored.Loaded.{Loaded}
use Rattle.arming.specs.ControlAt.{mode_at}
use Rattle.input_detect.specs.declared.window.Judgement.{Judgement}
use Rattle.input_detect.specs.declared.window.Judgement.TheVariants.{Good, Bad, Found, Nothing}
use Rattle.input_detect.specs.Judge.{judged}
use Rattle.settings_block.specs.Settings.{servo_of}
use Rattle.esc_laws.specs.Rested.{first_rested}
use Rattle.esc_laws.specs.Place.{Signal, Silent, Listens, Judged, Rests, Place, place}

-- the F of a window
abbrev pub verdict_note : ℕ → Judgement → Note
verdict_note t (Good frame) = note.Good (as_tick t) frame.value (bit_of frame.telemetry)
verdict_note t (Bad why) = note.Bad (as_tick t) (why_number why)
verdict_note t (Found mode) = note.Detected (as_tick t) (mode_number mode)
verdict_note t Nothing = note.Nothing (as_tick t)

-- An F at t answers the window that opened at w in this mode: it is the verdict on the window's burst, in an activation of
-- CAP that was entered at or after the window's close, with the inputs that the loaded settings allow.
pub record Answers (loaded : Loaded) (trace : List Event) (w m entered t : ℕ) (said : Note) : Type 0 where
  pub closed_at : ℕ
  pub closes : close (line trace).edges w (mode_of m) ≡ Some closed_at
  pub waits : closed_at ≤ entered
  pub entered_before : entered ≤ t
  pub verdict_is : said ≡ verdict_note t (judged (mode_of m) (burst (line trace).edges w (mode_of m)) loaded.settings.input (servo_of loaded.settings))

-- W and F alternate, so an F answers the newest W
abbrev pub AnswersAt : Loaded → List Event → Signal → ℕ → ℕ → Note → Type 0
AnswersAt loaded trace (Listens w m) entered t said = Answers loaded trace w m entered t said
AnswersAt loaded trace s entered t said = ⊥

-- A W at t stands in an activation that was entered at or after the first rested tick from this one on
pub record Opens (trace : List Event) (from entered t : ℕ) : Type 0 where
  pub rested : first_rested (line trace).edges from ≤ entered
  pub entered_before : entered ≤ t

-- The first window opens at tick 0. After a detection and after a good frame that gets no reply the next one opens in the same
-- activation. After a bad window, and where nothing was detected, it opens in a later one, when the line has rested, 600 ticks
-- after the F or later; and after a reply so too, at its end or later.
abbrev pub OpensAt : List Event → Signal → ℕ → ℕ → Type 0
OpensAt trace Silent entered t = t ≡ 0
OpensAt trace (Judged f opens) entered t = opens ≡ true
OpensAt trace (Rests from latest r) entered t = Opens trace from entered t
OpensAt trace s entered t = ⊥

-- no activation returns between a detection, or a good frame that gets no reply, and its W
abbrev pub MayReturn : Signal → Type 0
MayReturn (Judged f opens) = opens ≡ false
MayReturn s = Unit {0}

-- the rule of a note at a place, after these notes with the newest first
abbrev pub WindowRuleAt : Loaded → List Event → Place → List Note → Note → Type 0
WindowRuleAt loaded trace p back (note.Window t m) = OpensAt trace p.signal p.cap_entered t.0 × (m ≡ mode_at back)
WindowRuleAt loaded trace p back (note.Good t v q) = AnswersAt loaded trace p.signal p.cap_entered t.0 (note.Good t v q)
WindowRuleAt loaded trace p back (note.Detected t m) = AnswersAt loaded trace p.signal p.cap_entered t.0 (note.Detected t m)
WindowRuleAt loaded trace p back (note.Nothing t) = AnswersAt loaded trace p.signal p.cap_entered t.0 (note.Nothing t)
WindowRuleAt loaded trace p back (note.Bad t w) = AnswersAt loaded trace p.signal p.cap_entered t.0 (note.Bad t w)
WindowRuleAt loaded trace p back (note.Leave t k) = k ≡ 3 → MayReturn p.signal
WindowRuleAt loaded trace p back n = Unit {0}

abbrev pub WindowRule : Loaded → List Event → List Note → Note → Type 0
WindowRule loaded trace before n = WindowRuleAt loaded trace (place before) (reverse before) n

abbrev pub Windowed : Loaded → List Event → List Note → Type 0
Windowed loaded trace notes = Each (WindowRule loaded trace) [] notes
