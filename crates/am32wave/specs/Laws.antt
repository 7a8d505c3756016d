-- What follows from the definitions alone.
use Rattle.std.specs.Prelude.{◌≡◌, ℕ, ◌==◌, Bool, false, List, [], ◌∷◌, ◌++◌, All, Option, Some, None, unwrap_or, option_map}
use Rattle.esc_base.specs.declared.gate.Leg.{Leg}
use Rattle.esc_base.specs.declared.note.Note.{Note}
use Rattle.esc_base.specs.Legs.{is_on}
use Rattle.esc_base.specs.Numbers.{bit_of}
use Rattle.esc_base.specs.Range.{InRange}
use Rattle.trace_text.specs.Text.{IsHeldByTrace}
use Rattle.esc_base.specs.declared.event.Event.TheVariants as event
use Rattle.am32wave.specs.declared.moment.Moment.{Moment}
use Rattle.am32wave.specs.declared.moment.Moment.TheVariants as moment
use Rattle.am32wave.specs.declared.wire.Wire.TheVariants as wire
use Rattle.am32wave.specs.declared.view.Plan.{Plan}
use Rattle.am32wave.specs.declared.view.Stretch.{Stretch}
use Rattle.am32wave.specs.declared.view.View.TheVariants as view
use Rattle.am32wave.specs.Drawn.{parts, late_opening}
use Rattle.am32wave.specs.Levels.{levels}
use Rattle.am32wave.specs.Page.{stretch_line}
use Rattle.am32wave.specs.Moments.{events_of}
use Rattle.am32wave.specs.Picture.{high_told, low_told}
use Rattle.am32wave.specs.Scene.{scene}
use Rattle.am32wave.specs.Wires.{value}

-- what a note tells, and nothing of an event
abbrev pub by_note : {A : Type 0} → (Note → Option A) → Moment → Option A
by_note tells (moment.Note n) = tells n
by_note tells (moment.Event e) = None

-- a leg's wires show what a note's gate word says of its switches, and what they showed before where a moment has none
pub record GatesFollow (before : List Moment) (m : Moment) (x : Leg) : Type 0 where
  pub high :
      value (wire.High x) (scene (before ++ m ∷ []))
      ≡ unwrap_or (option_map (λ hi. bit_of (is_on hi x)) (by_note high_told m)) (value (wire.High x) (scene before))
  pub low :
      value (wire.Low x) (scene (before ++ m ∷ []))
      ≡ unwrap_or (option_map (λ lo. bit_of (is_on lo x)) (by_note low_told m)) (value (wire.Low x) (scene before))

-- what a moment says of the signal line, and of the comparator
abbrev pub line_told : Moment → Option Bool
line_told (moment.Note n) = None
line_told (moment.Event (event.Edge t level)) = Some level
line_told (moment.Event (event.Comp t level)) = None
line_told (moment.Event (event.Serial t byte)) = None
line_told (moment.Event (event.Stall t n)) = None

abbrev pub comparator_told : Moment → Option Bool
comparator_told (moment.Note n) = None
comparator_told (moment.Event (event.Edge t level)) = None
comparator_told (moment.Event (event.Comp t level)) = Some level
comparator_told (moment.Event (event.Serial t byte)) = None
comparator_told (moment.Event (event.Stall t n)) = None

-- the levels are what a moment says of them, and what they were before where it says nothing
pub record LevelsFollow (before : List Moment) (m : Moment) : Type 0 where
  pub line : (levels (events_of (before ++ m ∷ []))).line ≡ unwrap_or (line_told m) (levels (events_of before)).line
  pub comparator : (levels (events_of (before ++ m ∷ []))).comparator ≡ unwrap_or (comparator_told m) (levels (events_of before)).comparator

-- ---- a page's data

abbrev pub page_plan : Stretch → Bool → Plan
page_plan s traced = record { view = view.Page; stretch = s; is_traced = traced }

-- what stands between the fixed parts of a page of these moments
abbrev pub page_data : Stretch → Bool → List Moment → List ℕ
page_data s traced moments = stretch_line s ++ parts (page_plan s traced) [] moments ++ late_opening (page_plan s traced) moments

-- no byte is `<`, so nothing ends the block in which the data stands
abbrev pub NoMarkup : List ℕ → Type 0
NoMarkup bytes = All (λ b. (b == 60) ≡ false) bytes

-- a note in range, or an event that may stand in a trace
abbrev pub MayStand : Moment → Type 0
MayStand (moment.Note n) = InRange n
MayStand (moment.Event e) = IsHeldByTrace e
