-- What the rules of windows say of a signal that begins on a line at rest.
use Rattle.std.specs.Prelude.{◌≡◌, ◌<◌, ◌≤◌, ◌+◌, ◌/◌, ℕ, true, false, List, [], ◌∷◌, ◌++◌, length, All}
use Rattle.esc_base.specs.declared.event.Event.{Event}
use Rattle.esc_base.specs.declared.note.Note.{Note}
use Rattle.esc_base.specs.declared.note.Note.TheVariants as note
use Rattle.esc_base.specs.declared.signal.Edge.{Edge}
use Rattle.esc_base.specs.declared.signal.Frame.{Frame}
use Rattle.esc_base.specs.declared.signal.Mode.{Mode}
use Rattle.esc_base.specs.declared.signal.Verdict.TheVariants as verdict
use Rattle.esc_base.specs.Journal.{time_of}
use Rattle.esc_base.specs.Numbers.{mode_of, mode_number, as_tick, bit_of}
use Rattle.esc_base.specs.Trace.{line}
use Rattle.edge_capture.specs.Burst.{wait}
use Rattle.edge_capture.specs.Edges.{last_at}
use Rattle.edge_capture.specs.Modes.{numbers, most, limit}
use Rattle.dshot_frame.specs.Sent.{HasFrames, IsMoved, sent}
use Rattle.dshot_frame.specs.Verdict.{verdict_of}
use Rattle.settings_block.specs.declared.stored.Loaded.{Loaded}
use Rattle.input_detect.specs.Judge.{judged}
use Rattle.settings_block.specs.Settings.{servo_of}
use Rattle.esc_laws.specs.Place.{Listens, place}
use Rattle.esc_laws.specs.Windowed.{verdict_note, Windowed}

-- each edge comes before the idle limit after those before it is over
abbrev pub KeepsOn : Mode → List Edge → List Edge → Type 0
KeepsOn m heard [] = Unit {0}
KeepsOn m heard (e ∷ rest) = (last_at heard ≤ e.t.0) × (e.t.0 < last_at heard + limit m heard) × KeepsOn m (heard ++ e ∷ []) rest

-- A signal that the line carries alone: no change stands between the opening of a window at w and its first edge, its edges
-- are no more than the mode's and keep on, and then the line rests: until the idle limit is over, or, after the last edge
-- allowed, not at all.
pub record StandsAlone (edges : List Edge) (w : ℕ) (m : Mode) (first : Edge) (rest : List Edge) : Type 0 where
  pub earlier : List Edge
  pub later : List Edge
  pub edges_are : edges ≡ earlier ++ (first ∷ rest ++ later)
  pub at_rest : All (λ e. e.t.0 ≤ w) earlier
  pub begins : w < first.t.0
  pub rises : (numbers m).falling_first ≡ false → first.level ≡ true
  pub keeps_on : KeepsOn m (first ∷ []) rest
  pub few : length (first ∷ rest) ≤ most m
  pub ends : All (λ e. last_at (first ∷ rest) + wait m (first ∷ rest) ≤ e.t.0) later

-- an F
abbrev pub IsVerdict : Note → Type 0
IsVerdict (note.Good t v q) = Unit {0}
IsVerdict (note.Detected t m) = Unit {0}
IsVerdict (note.Nothing t) = Unit {0}
IsVerdict (note.Bad t w) = Unit {0}
IsVerdict n = ⊥

-- A whole signal that begins on a line at rest is heard from its first edge: where it stands alone behind the opening of the
-- newest window, the F that answers this window is the verdict on just that signal. So a good frame is read as that frame,
-- and where the mode isn't known, a signal that is good in an allowed mode is detected.
abbrev pub WholeSignalIsHeard : Type 0
WholeSignalIsHeard =
    (loaded : Loaded) (trace : List Event) (before after : List Note) (said : Note) (w m : ℕ) (first : Edge) (rest : List Edge)
    → Windowed loaded trace (before ++ said ∷ after)
    → (place before).signal ≡ Listens w m
    → IsVerdict said
    → StandsAlone (line trace).edges w (mode_of m) first rest
    → said ≡ verdict_note (time_of said) (judged (mode_of m) (first ∷ rest) loaded.settings.input (servo_of loaded.settings))

-- So a frame is read that is sent behind the opening of a window in its mode, with each of its edges at most a sixteenth of a
-- bit early or late: no change of the line stands between the opening and its first edge, and none comes before its last one.
abbrev pub SentFrameIsRead : Type 0
SentFrameIsRead =
    (loaded : Loaded) (trace : List Event) (before after : List Note) (said : Note) (w : ℕ) (m : Mode) (s word : ℕ) (frame : Frame) (first : Edge)
    (rest earlier later : List Edge)
    → Windowed loaded trace (before ++ said ∷ after)
    → (place before).signal ≡ Listens w (mode_number m)
    → IsVerdict said
    → HasFrames m
    → verdict_of m (sent m s word) ≡ verdict.Good frame
    → IsMoved ((numbers m).bit / 16) (sent m s word) (first ∷ rest)
    → (line trace).edges ≡ earlier ++ (first ∷ rest ++ later)
    → All (λ e. e.t.0 ≤ w) earlier
    → w < first.t.0
    → All (λ e. last_at (first ∷ rest) ≤ e.t.0) later
    → said ≡ note.Good (as_tick (time_of said)) frame.value (bit_of frame.telemetry)
