-- A journal and its trace in one order: each moment is a note or an event.
use Rattle.std.specs.Prelude.{ℕ, ◌≤◌, List, [], ◌∷◌, flat_map}
use Rattle.esc_base.specs.declared.note.Note.{Note}
use Rattle.esc_base.specs.declared.event.Event.{Event}
use Rattle.esc_base.specs.Journal.{time_of}
use Rattle.esc_base.specs.Trace.{tick_of}
use Rattle.esc_base.specs.Range.{InRange, IsWord}
use Rattle.am32wave.specs.declared.moment.Moment.{Moment}
use Rattle.am32wave.specs.declared.moment.Moment.TheVariants as moment

abbrev pub time : Moment → ℕ
time (moment.Note n) = time_of n
time (moment.Event e) = tick_of e

-- the notes among them, in their order
abbrev pub note_in : Moment → List Note
note_in (moment.Note n) = n ∷ []
note_in (moment.Event e) = []

abbrev pub notes_of : List Moment → List Note
notes_of moments = flat_map note_in moments

-- the events among them, in their order
abbrev pub event_in : Moment → List Event
event_in (moment.Note n) = []
event_in (moment.Event e) = e ∷ []

abbrev pub events_of : List Moment → List Event
events_of moments = flat_map event_in moments

-- the time of the newest one, or this where there is none
abbrev pub newest_time : ℕ → List Moment → ℕ
newest_time t [] = t
newest_time t (m ∷ moments) = newest_time (time m) moments

-- times never fall, from this one on
abbrev pub InOrder : ℕ → List Moment → Type 0
InOrder t [] = Unit {0}
InOrder t (m ∷ moments) = (t ≤ time m) × InOrder (time m) moments

-- a note in range, or an event whose tick has room in 32 bits
abbrev pub MomentFits : Moment → Type 0
MomentFits (moment.Note n) = InRange n
MomentFits (moment.Event e) = IsWord (tick_of e)
