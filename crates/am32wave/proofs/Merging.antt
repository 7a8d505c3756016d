-- A journal and its trace are read moment by moment.
use Rattle.std.proofs.Common.{◌≡◌, ◌≤◌, ℕ, List, [], ◌∷◌, ◌++◌, Option, Some, None, Ok, sym, ◌∙◌, ap, subst, append_assoc, append-nil, length-append, arith}
use Rattle.std.specs.List.{All}
use Rattle.std.specs.Io.KnownBytes.{prepend_known}
use Rattle.std.proofs.lemmas.List.Concat.{flat_map-append}
use Rattle.std.proofs.lemmas.List.Elements.{All-push, All-weaker, All-head, All-tail, All-cons, All-nil}
use Rattle.esc_base.specs.declared.event.Event.{Event}
use Rattle.esc_base.specs.declared.note.Note.{Note}
use Rattle.esc_base.specs.declared.tick.Tick.{Tick}
use Rattle.esc_base.specs.Journal.{time_of, Each, IsLater}
use Rattle.esc_base.specs.Range.{InRange}
use Rattle.esc_base.specs.Trace.{tick_of}
use Rattle.trace_text.specs.declared.item.Refusal.{Refusal as TraceRefusal}
use Rattle.trace_text.specs.declared.reader.Lines.{Lines}
use Rattle.trace_text.specs.Ahead.{ahead, place, unread, HasRead as HasReadEvents}
use Rattle.trace_text.specs.Read.{Read, Trace, TakenEvents, events_of as events_read, read_from}
use Rattle.trace_text.specs.Read.{Refused as ReadsRefused}
use Rattle.trace_text.specs.Text.{note_bytes, Text}
use Rattle.trace_text.proofs.Answering.{taken_held}
use Rattle.trace_text.proofs.Taking.{prepend_both}
use Rattle.am32wave.specs.declared.ahead.Merge.{Merge}
use Rattle.am32wave.specs.declared.moment.Moment.{Moment}
use Rattle.am32wave.specs.declared.moment.Moment.TheVariants as moment
use Rattle.am32wave.specs.declared.next.NextEvent.{NextEvent}
use Rattle.am32wave.specs.declared.next.NextEvent.TheVariants as event
use Rattle.am32wave.specs.declared.next.NextNote.{NextNote}
use Rattle.am32wave.specs.declared.next.NextNote.TheVariants as note
use Rattle.am32wave.specs.declared.reader.Journal.{Journal as Reader}
use Rattle.am32wave.specs.declared.status.Status.{Status}
use Rattle.am32wave.specs.declared.status.Status.TheVariants as status
use Rattle.am32wave.specs.Merged.{NotesRead, IsNextNote, EventsRead, EventAhead, EventsEnd, FirstEvents, IsNextEvent, NotesStop, EventsStop, Merged, Ends, Gives, MergeSays, NotesWhy, EventsWhy, IsOfNotes, IsOfEvents}
use Rattle.am32wave.specs.Moments.{time, notes_of, events_of, newest_time, InOrder}
use Rattle.am32wave.specs.Reading.{HasRead, PassesLine}
use Rattle.am32wave.proofs.Look.{last_time_more}
use Rattle.am32wave.proofs.Shows.{read_more}
use Rattle.am32wave.proofs.Scenes.{newest_more, notes_with_note, notes_with_event, events_with_note, events_with_event}

-- ---- the next note

unread_note : (next : NextNote) (j : Reader) (first left : Option (List ℕ)) (notes : List Note) (t : ℕ) → next ≡ note.Unread
    → IsNextNote next j first left notes t → NotesRead j first left notes t
unread_note next j first left notes t e h = subst (λ (x : NextNote). IsNextNote x j first left notes t) e h

pub note_read : (next : NextNote) (j k : Reader) (first left left' : Option (List ℕ)) (notes : List Note) (t : ℕ) (n : Note) → next ≡ note.Unread
    → IsNextNote next j first left notes t → PassesLine n j k (ahead j.held left) (ahead k.held left') → NotesRead k first left' (notes ++ n ∷ []) t
note_read next j k first left left' notes t n e h p =
    let s = unread_note next j first left notes t e h in
    record {
      read = read_more j k first left left' notes n s.read s.below p;
      below =
          All-push (λ m. time_of m ≤ k.time.0) notes n
          (All-weaker (λ m. time_of m ≤ j.time.0) (λ m. time_of m ≤ k.time.0) (λ m le. let l = p.later in let u = p.time in omega arith) notes s.below)
          (let u = p.time in omega arith);
      newest = last_time_more notes n ∙ sym p.time;
      line = p.line ∙ (let l = s.line in let len = length-append notes (n ∷ []) in omega arith);
      later = let a = s.later in let b = p.later in let u = p.time in omega arith;
    }

-- ---- the next event

unread_event : (next : NextEvent) (l : Lines) (first left : Option (List ℕ)) (events : List Event) (t : ℕ) → next ≡ event.Unread
    → IsNextEvent next l first left events t → EventsRead l first left events t
unread_event next l first left events t e h = subst (λ (x : NextEvent). IsNextEvent x l first left events t) e h

firsts_all : (first left : Option (List ℕ)) (events : List Event) → TakenEvents first left events → FirstEvents first events
firsts_all first left events h = record { left = left; more = []; taken = subst (λ (es : List Event). TakenEvents first left es) (sym (append-nil events)) h }

firsts_read : (l : Lines) (first left : Option (List ℕ)) (events : List Event) → HasReadEvents l first left events → FirstEvents first events
firsts_read l first left events h =
    record { left = left; more = events_read (read_from (place l) (unread l.held)); taken = taken_held l first left events h }

pub events_end : (next : NextEvent) (l : Lines) (first left left' : Option (List ℕ)) (events : List Event) (t : ℕ) (end : Tick) → next ≡ event.Unread
    → IsNextEvent next l first left events t
    → ((f : Option (List ℕ)) (es : List Event) → HasReadEvents l f left es → TakenEvents f left' es)
    → ((text : List ℕ) (es : List Event) → HasReadEvents l (Some text) left es → Read text ≡ Trace es end.0)
    → EventsEnd first events
events_end next l first left left' events t end u h taken whole =
    let s = unread_event next l first left events t u h in
    record {
      firsts = firsts_all first left' events (taken first events s.read);
      whole = λ text e. (end.0, whole text events (subst (λ (f : Option (List ℕ)). HasReadEvents l f left events) e s.read));
    }

pub events_cut : (next : NextEvent) (l : Lines) (first left left' : Option (List ℕ)) (events : List Event) (t : ℕ) → next ≡ event.Unread
    → IsNextEvent next l first left events t
    → ((f : Option (List ℕ)) (es : List Event) → HasReadEvents l f left es → TakenEvents f left' es)
    → EventsStop status.TraceFault first left' events
events_cut next l first left left' events t u h taken =
    let all = taken first events (unread_event next l first left events t u h).read in
    record { firsts = firsts_all first left' events all; why = all; of_events = tt }

pub events_refused : (next : NextEvent) (l : Lines) (first left left' : Option (List ℕ)) (events : List Event) (t number line : ℕ) (kind : TraceRefusal)
    → next ≡ event.Unread → IsNextEvent next l first left events t
    → ((text : List ℕ) (es : List Event) → HasReadEvents l (Some text) left es → Read text ≡ ReadsRefused es line kind) → number ≡ line
    → EventsStop (status.TraceRefused number kind) first left' events
events_refused next l first left left' events t number line kind u h refused same =
    let s = unread_event next l first left events t u h in
    record {
      firsts = firsts_read l first left events s.read;
      why = λ text e.
          refused text events (subst (λ (f : Option (List ℕ)). HasReadEvents l f left events) e s.read)
          ∙ ap (λ (x : ℕ). ReadsRefused events x kind) (sym same);
      of_events = tt;
    }

-- ---- the earlier one is taken

order_push : (t : ℕ) (moments : List Moment) (m : Moment) → InOrder t moments → newest_time t moments ≤ time m → InOrder t (moments ++ m ∷ [])
order_push t [] m h le = (le, tt)
order_push t (l ∷ moments) m h le = (h.0, order_push (time l) moments m h.1 le)

last_in_range : (notes : List Note) (n : Note) → All InRange (notes ++ n ∷ []) → InRange n
last_in_range [] n h = All-head InRange n [] h
last_in_range (m ∷ notes) n h = last_in_range notes n (All-tail InRange m (notes ++ n ∷ []) h)

-- an event that comes next doesn't come before this time
abbrev pub NoEventBefore : NextEvent → ℕ → Type 0
NoEventBefore event.Unread t = ⊥
NoEventBefore (event.Is e) t = t ≤ tick_of e
NoEventBefore event.End t = Unit {0}

-- a note that comes next doesn't come before this time
abbrev pub NoNoteBefore : NextNote → ℕ → Type 0
NoNoteBefore note.Unread t = ⊥
NoNoteBefore (note.Is n) t = t ≤ time_of n
NoNoteBefore note.End t = Unit {0}

events_later : (next : NextEvent) (l : Lines) (first left : Option (List ℕ)) (events : List Event) (t u : ℕ) → NoEventBefore next u
    → IsNextEvent next l first left events t → IsNextEvent next l first left events u
events_later event.Unread l first left events t u le h = absurd le
events_later (event.Is e) l first left events t u le h = record { read = h.read; later = le; time = h.time; small = h.small }
events_later event.End l first left events t u le h = h

notes_later : (next : NextNote) (j : Reader) (first left : Option (List ℕ)) (notes : List Note) (t u : ℕ) → NoNoteBefore next u
    → IsNextNote next j first left notes t → IsNextNote next j first left notes u
notes_later note.Unread j first left notes t u le h = absurd le
notes_later (note.Is n) j first left notes t u le h =
    record {
      read = h.read;
      below = h.below;
      newest = h.newest;
      line = h.line;
      later = let last = last_time_more notes n in let e = h.newest in omega arith;
    }
notes_later note.End j first left notes t u le h = h

pub take_note : (m after : Merge) (nf nl ef el : Option (List ℕ)) (moments : List Moment) (n : Note) → m.notes.next ≡ note.Is n
    → after.notes.journal ≡ m.notes.journal → after.notes.next ≡ note.Unread → after.events ≡ m.events → NoEventBefore m.events.next (time_of n)
    → Merged m nf nl ef el moments → Gives (moment.Note n) after nf nl ef el moments
take_note m after nf nl ef el moments n is same_journal unread same_events before h =
    let s : NotesRead m.notes.journal nf nl (notes_of moments ++ n ∷ []) (newest_time 0 moments) =
    subst (λ (x : NextNote). IsNextNote x m.notes.journal nf nl (notes_of moments) (newest_time 0 moments)) is h.notes in
    let u = newest_more 0 moments (moment.Note n) in
    let last : m.notes.journal.time.0 ≡ time_of n = sym s.newest ∙ last_time_more (notes_of moments) n in
    record {
      fits = last_in_range (notes_of moments) n s.read.in_range;
      merged = record {
        notes =
            subst (λ (x : NextNote). IsNextNote x after.notes.journal nf nl (notes_of (moments ++ moment.Note n ∷ [])) (newest_time 0
            (moments ++ moment.Note n ∷ [])))
            (sym unread)
            (subst (λ (x : Reader). NotesRead x nf nl (notes_of (moments ++ moment.Note n ∷ [])) (newest_time 0 (moments ++ moment.Note n ∷ [])))
            (sym same_journal)
            (subst (λ (ns : List Note). NotesRead m.notes.journal nf nl ns (newest_time 0 (moments ++ moment.Note n ∷ []))) (sym (notes_with_note moments n))
            (record { read = s.read; below = s.below; newest = s.newest; line = s.line; later = omega arith })));
        events =
            subst (λ x. IsNextEvent x.next x.lines ef el (events_of (moments ++ moment.Note n ∷ [])) (newest_time 0 (moments ++ moment.Note n ∷ [])))
            (sym same_events)
            (subst (λ (es : List Event). IsNextEvent m.events.next m.events.lines ef el es (newest_time 0 (moments ++ moment.Note n ∷ [])))
            (sym (events_with_note moments n))
            (events_later m.events.next m.events.lines ef el (events_of moments) (newest_time 0 moments) (newest_time 0 (moments ++ moment.Note n ∷ []))
            (subst (λ (t : ℕ). NoEventBefore m.events.next t) (sym u) before) h.events));
        order = order_push 0 moments (moment.Note n) h.order (let l = s.later in omega arith);
      };
    }

pub take_event : (m after : Merge) (nf nl ef el : Option (List ℕ)) (moments : List Moment) (e : Event) → m.events.next ≡ event.Is e
    → after.events.lines ≡ m.events.lines → after.events.next ≡ event.Unread → after.notes ≡ m.notes → NoNoteBefore m.notes.next (tick_of e)
    → Merged m nf nl ef el moments → Gives (moment.Event e) after nf nl ef el moments
take_event m after nf nl ef el moments e is same_lines unread same_notes before h =
    let s : EventAhead m.events.lines ef el (events_of moments) e (newest_time 0 moments) =
    subst (λ (x : NextEvent). IsNextEvent x m.events.lines ef el (events_of moments) (newest_time 0 moments)) is h.events in
    let u = newest_more 0 moments (moment.Event e) in
    record {
      fits = let small = s.small in omega arith;
      merged = record {
        notes =
            subst (λ x. IsNextNote x.next x.journal nf nl (notes_of (moments ++ moment.Event e ∷ [])) (newest_time 0
            (moments ++ moment.Event e ∷ []))) (sym same_notes)
            (subst (λ (ns : List Note). IsNextNote m.notes.next m.notes.journal nf nl ns (newest_time 0 (moments ++ moment.Event e ∷ [])))
            (sym (notes_with_event moments e))
            (notes_later m.notes.next m.notes.journal nf nl (notes_of moments) (newest_time 0 moments) (newest_time 0 (moments ++ moment.Event e ∷ []))
            (subst (λ (t : ℕ). NoNoteBefore m.notes.next t) (sym u) before) h.notes));
        events =
            subst (λ (x : NextEvent). IsNextEvent x after.events.lines ef el (events_of (moments ++ moment.Event e ∷ [])) (newest_time 0
            (moments ++ moment.Event e ∷ [])))
            (sym unread)
            (subst (λ (x : Lines). EventsRead x ef el (events_of (moments ++ moment.Event e ∷ [])) (newest_time 0 (moments ++ moment.Event e ∷ [])))
            (sym same_lines)
            (subst (λ (es : List Event). EventsRead m.events.lines ef el es (newest_time 0 (moments ++ moment.Event e ∷ []))) (sym
            (events_with_event moments e))
            (record { read = s.read; later = let t = s.time in omega arith })));
        order = order_push 0 moments (moment.Event e) h.order s.later;
      };
    }

-- ---- one of the two isn't read further

-- the notes before the one that comes next
record NotesBehind (first : Option (List ℕ)) (notes : List Note) : Type 0 where
  pub behind : Option (List ℕ)
  pub read : HasRead first behind notes

all_front : {A : Type 0} (P : A → Type 0) (xs ys : List A) → All P (xs ++ ys) → All P xs
all_front P [] ys h = All-nil P
all_front P (x ∷ xs) ys h = All-cons P x xs (All-head P x (xs ++ ys) h) (all_front P xs ys (All-tail P x (xs ++ ys) h))

each_front : (Fits : List Note → Note → Type 0) (before xs ys : List Note) → Each Fits before (xs ++ ys) → Each Fits before xs
each_front Fits before [] ys h = tt
each_front Fits before (x ∷ xs) ys h = (h.0, each_front Fits (before ++ x ∷ []) xs ys h.1)

without_last : (first behind : Option (List ℕ)) (notes : List Note) (n : Note) → HasRead first behind (notes ++ n ∷ []) → NotesBehind first notes
without_last first behind notes n h = record {
  behind = prepend_known (Text (n ∷ [])) behind;
  read = record {
    is =
        h.is ∙ ap (λ (bytes : List ℕ). prepend_known bytes behind) (flat_map-append note_bytes notes (n ∷ []))
        ∙ sym (prepend_both (Text notes) (Text (n ∷ [])) behind);
    in_range = all_front InRange notes (n ∷ []) h.in_range;
    ordered = each_front IsLater [] notes (n ∷ []) h.ordered;
  };
}

notes_known : (next : NextNote) (j : Reader) (first left : Option (List ℕ)) (notes : List Note) (t : ℕ) → IsNextNote next j first left notes t
    → NotesBehind first notes
notes_known note.Unread j first left notes t h = record { behind = ahead j.held left; read = h.read }
notes_known (note.Is n) j first left notes t h = without_last first (ahead j.held left) notes n h.read
notes_known note.End j first left notes t h = record { behind = h.behind; read = h.read }

firsts_more : (first : Option (List ℕ)) (events : List Event) (e : Event) → FirstEvents first (events ++ e ∷ []) → FirstEvents first events
firsts_more first events e h = record {
  left = h.left;
  more = e ∷ h.more;
  taken = subst (λ (es : List Event). TakenEvents first h.left es) (append_assoc events (e ∷ []) h.more) h.taken;
}

events_known : (next : NextEvent) (l : Lines) (first left : Option (List ℕ)) (events : List Event) (t : ℕ) → IsNextEvent next l first left events t
    → FirstEvents first events
events_known event.Unread l first left events t h = firsts_read l first left events h.read
events_known (event.Is e) l first left events t h = firsts_more first events e (firsts_read l first left (events ++ e ∷ []) h.read)
events_known event.End l first left events t h = h.firsts

of_notes_events : (s : Status) (first left : Option (List ℕ)) (events : List Event) → IsOfNotes s → EventsWhy s first left events
of_notes_events status.Done first left events h = absurd h
of_notes_events (status.Refused line kind) first left events h = tt
of_notes_events (status.TraceRefused line kind) first left events h = absurd h
of_notes_events status.Usage first left events h = absurd h
of_notes_events status.ReadFault first left events h = tt
of_notes_events status.TraceFault first left events h = absurd h
of_notes_events status.WriteFault first left events h = absurd h
of_notes_events status.NoMemory first left events h = absurd h

of_events_notes : (s : Status) (notes : List Note) (behind left : Option (List ℕ)) → IsOfEvents s → NotesWhy s notes behind left
of_events_notes status.Done notes behind left h = absurd h
of_events_notes (status.Refused line kind) notes behind left h = absurd h
of_events_notes (status.TraceRefused line kind) notes behind left h = tt
of_events_notes status.Usage notes behind left h = absurd h
of_events_notes status.ReadFault notes behind left h = absurd h
of_events_notes status.TraceFault notes behind left h = tt
of_events_notes status.WriteFault notes behind left h = absurd h
of_events_notes status.NoMemory notes behind left h = absurd h

pub notes_stop : (m : Merge) (s : Status) (nf nl nl' ef el : Option (List ℕ)) (moments : List Moment) → Merged m nf nl ef el moments
    → NotesStop s nf nl' (notes_of moments) → Ends s nf nl' ef el moments
notes_stop m s nf nl nl' ef el moments h stop = record {
  behind = stop.behind;
  notes = stop.read;
  events = events_known m.events.next m.events.lines ef el (events_of moments) (newest_time 0 moments) h.events;
  order = h.order;
  notes_why = stop.why;
  events_why = of_notes_events s ef el (events_of moments) stop.of_notes;
}

pub events_stop : (m : Merge) (s : Status) (nf nl ef el el' : Option (List ℕ)) (moments : List Moment)
    → IsNextNote m.notes.next m.notes.journal nf nl (notes_of moments) (newest_time 0 moments) → InOrder 0 moments
    → EventsStop s ef el' (events_of moments) → Ends s nf nl ef el' moments
events_stop m s nf nl ef el el' moments notes order stop =
    let k = notes_known m.notes.next m.notes.journal nf nl (notes_of moments) (newest_time 0 moments) notes in
    record {
      behind = k.behind;
      notes = k.read;
      events = stop.firsts;
      order = order;
      notes_why = of_events_notes s (notes_of moments) k.behind nl stop.of_events;
      events_why = stop.why;
    }

pub says_some : (o : Option Moment) (x : Moment) (m : Merge) (nf nl ef el : Option (List ℕ)) (moments : List Moment) → o ≡ Some x
    → MergeSays (Ok o) m nf nl ef el moments → Gives x m nf nl ef el moments
says_some o x m nf nl ef el moments e h = subst (λ (p : Option Moment). MergeSays (Ok p) m nf nl ef el moments) e h

pub says_none : (o : Option Moment) (m : Merge) (nf nl ef el : Option (List ℕ)) (moments : List Moment) → o ≡ None
    → MergeSays (Ok o) m nf nl ef el moments → Ends status.Done nf nl ef el moments
says_none o m nf nl ef el moments e h = subst (λ (p : Option Moment). MergeSays (Ok p) m nf nl ef el moments) e h

-- the sink failed behind these moments
pub broken_off : (m : Merge) (nf nl ef el : Option (List ℕ)) (moments : List Moment) → Merged m nf nl ef el moments
    → Ends status.WriteFault nf nl ef el moments
broken_off m nf nl ef el moments h =
    let k = notes_known m.notes.next m.notes.journal nf nl (notes_of moments) (newest_time 0 moments) h.notes in
    record {
      behind = k.behind;
      notes = k.read;
      events = events_known m.events.next m.events.lines ef el (events_of moments) (newest_time 0 moments) h.events;
      order = h.order;
      notes_why = tt;
      events_why = tt;
    }
