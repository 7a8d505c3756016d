-- How far a journal and its trace were read, moment by moment, and how that ends.
use Rattle.std.specs.Prelude.{◌≡◌, ℕ, ◌+◌, ◌≤◌, true, List, [], ◌∷◌, ◌++◌, length, All, Option, Some, None, Result, Ok, Err}
use Rattle.std.specs.Io.KnownBytes.{append_known, IsAtEnd}
use Rattle.esc_base.specs.declared.event.Event.{Event}
use Rattle.esc_base.specs.declared.note.Note.{Note}
use Rattle.esc_base.specs.Journal.{time_of}
use Rattle.esc_base.specs.Outside.{AppendsFront}
use Rattle.esc_base.specs.Trace.{tick_of}
use Rattle.trace_text.specs.declared.reader.Lines.{Lines}
use Rattle.trace_text.specs.declared.item.Refusal.{Refusal as TraceRefusal}
use Rattle.trace_text.specs.Ahead.{ahead, place, HasRead as HasReadEvents}
use Rattle.trace_text.specs.Read.{Read, Trace, TakenEvents}
use Rattle.trace_text.specs.Read.{Refused as ReadsRefused}
use Rattle.am32wave.specs.declared.ahead.Merge.{Merge}
use Rattle.am32wave.specs.declared.moment.Moment.{Moment}
use Rattle.am32wave.specs.declared.next.NextEvent.{NextEvent}
use Rattle.am32wave.specs.declared.next.NextEvent.TheVariants as event
use Rattle.am32wave.specs.declared.next.NextNote.{NextNote}
use Rattle.am32wave.specs.declared.next.NextNote.TheVariants as note
use Rattle.am32wave.specs.declared.reader.Journal.{Journal as Reader}
use Rattle.am32wave.specs.declared.status.Status.{Status}
use Rattle.am32wave.specs.declared.status.Status.TheVariants as status
use Rattle.am32wave.specs.Moments.{notes_of, events_of, newest_time, InOrder, MomentFits}
use Rattle.am32wave.specs.Next.{notes_to_come, events_to_come}
use Rattle.am32wave.specs.Picture.{last_time}
use Rattle.am32wave.specs.Reading.{HasRead, OnlyPart, Refuses}
use Rattle.am32wave.specs.declared.view.Plan.{Plan}
use Rattle.am32wave.specs.declared.view.Stretch.{Stretch}
use Rattle.am32wave.specs.declared.view.View.{View}
use Rattle.am32wave.specs.Drawn.{begun, drawn}

-- ---- one journal and one trace, by what comes next in each; t is the time of the newest moment

-- these notes were read
pub record NotesRead (j : Reader) (first left : Option (List ℕ)) (notes : List Note) (t : ℕ) : Type 0 where
  pub read : HasRead first (ahead j.held left) notes
  pub below : All (λ n. time_of n ≤ j.time.0) notes
  pub newest : last_time notes ≡ j.time.0
  pub line : j.line ≡ length notes
  pub later : t ≤ j.time.0

-- these notes were read, and no more are there
pub record NotesEnd (first : Option (List ℕ)) (notes : List Note) : Type 0 where
  pub behind : Option (List ℕ)
  pub read : HasRead first behind notes
  pub ended : IsAtEnd behind

abbrev pub IsNextNote : NextNote → Reader → Option (List ℕ) → Option (List ℕ) → List Note → ℕ → Type 0
IsNextNote note.Unread j first left notes t = NotesRead j first left notes t
IsNextNote (note.Is n) j first left notes t = NotesRead j first left (notes ++ n ∷ []) t
IsNextNote note.End j first left notes t = NotesEnd first notes

-- these events were read, and the next one comes at this time or later
pub record EventsRead (l : Lines) (first left : Option (List ℕ)) (events : List Event) (t : ℕ) : Type 0 where
  pub read : HasReadEvents l first left events
  pub later : t ≤ (place l).time.0

-- these events and one more were read
pub record EventAhead (l : Lines) (first left : Option (List ℕ)) (events : List Event) (e : Event) (t : ℕ) : Type 0 where
  pub read : HasReadEvents l first left (events ++ e ∷ [])
  pub later : t ≤ tick_of e
  pub time : (place l).time.0 ≡ tick_of e
  pub small : tick_of e ≤ 1073741824

-- a trace's first events, which a reader has found in what its source gave
pub record FirstEvents (first : Option (List ℕ)) (events : List Event) : Type 0 where
  pub left : Option (List ℕ)
  pub more : List Event
  pub taken : TakenEvents first left (events ++ more)

-- the whole trace has these events, where the source tells what it holds
abbrev pub IsWholeTrace : Option (List ℕ) → List Event → Type 0
IsWholeTrace first events = (text : List ℕ) → first ≡ Some text → (end : ℕ) × (Read text ≡ Trace events end)

-- these events were read, and no more are there
pub record EventsEnd (first : Option (List ℕ)) (events : List Event) : Type 0 where
  pub firsts : FirstEvents first events
  pub whole : IsWholeTrace first events

abbrev pub IsNextEvent : NextEvent → Lines → Option (List ℕ) → Option (List ℕ) → List Event → ℕ → Type 0
IsNextEvent event.Unread l first left events t = EventsRead l first left events t
IsNextEvent (event.Is e) l first left events t = EventAhead l first left events e t
IsNextEvent event.End l first left events t = EventsEnd first events

-- ---- why nothing more is given

-- the trace has these events and then a faulty line, where the source tells what it holds
abbrev pub IsFaultyTrace : Option (List ℕ) → List Event → ℕ → TraceRefusal → Type 0
IsFaultyTrace first events line kind = (text : List ℕ) → first ≡ Some text → Read text ≡ ReadsRefused events line kind

-- what the status says of the journal behind these notes: its text there, and what its source has left
abbrev pub NotesWhy : Status → List Note → Option (List ℕ) → Option (List ℕ) → Type 0
NotesWhy status.Done notes behind left = IsAtEnd behind
NotesWhy (status.Refused line kind) notes behind left = (line ≡ length notes + 1) × Refuses kind (length notes) (last_time notes) behind
NotesWhy (status.TraceRefused line kind) notes behind left = Unit {0}
NotesWhy status.Usage notes behind left = ⊥
NotesWhy status.ReadFault notes behind left = OnlyPart behind left
NotesWhy status.TraceFault notes behind left = Unit {0}
NotesWhy status.WriteFault notes behind left = Unit {0}
NotesWhy status.NoMemory notes behind left = ⊥

-- what the status says of the trace behind these events: what its source had at first, and what it has left
abbrev pub EventsWhy : Status → Option (List ℕ) → Option (List ℕ) → List Event → Type 0
EventsWhy status.Done first left events = IsWholeTrace first events
EventsWhy (status.Refused line kind) first left events = Unit {0}
EventsWhy (status.TraceRefused line kind) first left events = IsFaultyTrace first events line kind
EventsWhy status.Usage first left events = ⊥
EventsWhy status.ReadFault first left events = Unit {0}
EventsWhy status.TraceFault first left events = TakenEvents first left events
EventsWhy status.WriteFault first left events = Unit {0}
EventsWhy status.NoMemory first left events = ⊥

-- the journal's own, or the trace's
abbrev pub IsOfNotes : Status → Type 0
IsOfNotes (status.Refused line kind) = Unit {0}
IsOfNotes status.ReadFault = Unit {0}
IsOfNotes s = ⊥

abbrev pub IsOfEvents : Status → Type 0
IsOfEvents (status.TraceRefused line kind) = Unit {0}
IsOfEvents status.TraceFault = Unit {0}
IsOfEvents s = ⊥

-- The journal can't be read behind these notes, for the reason that the status says.
pub record NotesStop (s : Status) (first left : Option (List ℕ)) (notes : List Note) : Type 0 where
  pub behind : Option (List ℕ)
  pub read : HasRead first behind notes
  pub why : NotesWhy s notes behind left
  pub of_notes : IsOfNotes s

-- The trace can't be read behind these events, for the reason that the status says.
pub record EventsStop (s : Status) (first left : Option (List ℕ)) (events : List Event) : Type 0 where
  pub firsts : FirstEvents first events
  pub why : EventsWhy s first left events
  pub of_events : IsOfEvents s

-- ---- both

-- behind these moments
pub record Merged (m : Merge) (notes_first notes_left events_first events_left : Option (List ℕ)) (moments : List Moment) : Type 0 where
  pub notes : IsNextNote m.notes.next m.notes.journal notes_first notes_left (notes_of moments) (newest_time 0 moments)
  pub events : IsNextEvent m.events.next m.events.lines events_first events_left (events_of moments) (newest_time 0 moments)
  pub order : InOrder 0 moments

-- Nothing comes behind these moments, for the reason that the status says. Their notes are those of the journal's first lines,
-- their events the trace's first ones, and their times never fall.
pub record Ends (s : Status) (notes_first notes_left events_first events_left : Option (List ℕ)) (moments : List Moment) : Type 0 where
  pub behind : Option (List ℕ)
  pub notes : HasRead notes_first behind (notes_of moments)
  pub events : FirstEvents events_first (events_of moments)
  pub order : InOrder 0 moments
  pub notes_why : NotesWhy s (notes_of moments) behind notes_left
  pub events_why : EventsWhy s events_first events_left (events_of moments)

-- the next moment
pub record Gives (x : Moment) (m : Merge) (notes_first notes_left events_first events_left : Option (List ℕ)) (moments : List Moment) : Type 0 where
  pub fits : MomentFits x
  pub merged : Merged m notes_first notes_left events_first events_left (moments ++ x ∷ [])

abbrev pub MergeSays : Result (Option Moment) Status → Merge → Option (List ℕ) → Option (List ℕ) → Option (List ℕ) → Option (List ℕ)
    → List Moment → Type 0
MergeSays (Ok (Some x)) m notes_first notes_left events_first events_left moments = Gives x m notes_first notes_left events_first events_left moments
MergeSays (Ok None) m notes_first notes_left events_first events_left moments =
    Ends status.Done notes_first notes_left events_first events_left moments
MergeSays (Err s) m notes_first notes_left events_first events_left moments = Ends s notes_first notes_left events_first events_left moments

-- how many calls may still give a moment
abbrev pub to_come : Merge → ℕ
to_come m = notes_to_come m.notes.next m.notes.journal.line + events_to_come m.events.next (place m.events.lines).line

-- ---- what was written

abbrev pub traced_plan : View → Stretch → Plan
traced_plan v s = record { view = v; stretch = s; is_traced = true }

-- the whole drawing of these moments; without its end where no more could be read, and a front of it where the sink failed
abbrev pub Wrote : Plan → Status → List Moment → Option (List ℕ) → Option (List ℕ) → Type 0
Wrote p status.Done moments before after = after ≡ append_known before (drawn p moments)
Wrote p status.WriteFault moments before after = AppendsFront before (drawn p moments) after
Wrote p s moments before after = after ≡ append_known before (begun p moments)

pub record TracedShown (p : Plan) (s : Status) (notes_first notes_left events_first events_left before after : Option (List ℕ)) : Type 0 where
  pub moments : List Moment
  pub ends : Ends s notes_first notes_left events_first events_left moments
  pub wrote : Wrote p s moments before after

-- the whole job was done, or a source or the sink failed
abbrev pub IsTracedDoneOrFault : Status → Type 0
IsTracedDoneOrFault status.Done = Unit {0}
IsTracedDoneOrFault status.ReadFault = Unit {0}
IsTracedDoneOrFault status.TraceFault = Unit {0}
IsTracedDoneOrFault status.WriteFault = Unit {0}
IsTracedDoneOrFault s = ⊥
