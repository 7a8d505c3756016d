-- What a whole text says: a trace, or the first refusal and the events before it.
use Rattle.std.specs.Prelude.{◌≡◌, ℕ, ◌+◌, Bool, true, false, ◌==◌, nat_lt, nat_le, if◌then◌else◌, List, [], ◌∷◌, ◌++◌, length, Option, Result, Ok, Err, None}
use Rattle.std.specs.Io.KnownBytes.{prepend_known}
use Rattle.esc_base.specs.declared.event.Event.{Event}
use Rattle.trace_text.specs.declared.item.Place.{Place}
use Rattle.trace_text.specs.declared.item.Refusal.{Refusal}
use Rattle.trace_text.specs.declared.item.Refusal.TheVariants.{TooLong, NoEnd, AfterEnd, TooMany}
use Rattle.trace_text.specs.declared.parse.Entry.{Entry}
use Rattle.trace_text.specs.declared.parse.Entry.TheVariants as entry
use Rattle.trace_text.specs.Line.{said, after_event}

-- ---- a text is its lines, each ended by a line feed, and the rest after the last line feed

pub record Cut : Type 0 where
  pub lines : List (List ℕ)
  pub rest : List ℕ

-- the same with some bytes, none of them a line feed, put before it
abbrev pub onto_lines : List ℕ → List (List ℕ) → List ℕ → Cut
onto_lines front [] rest = record { lines = []; rest = front ++ rest }
onto_lines front (l ∷ ls) rest = record { lines = (front ++ l) ∷ ls; rest = rest }

abbrev pub onto : List ℕ → Cut → Cut
onto front c = onto_lines front c.lines c.rest

-- the same with a line feed put before it
abbrev pub ended : Cut → Cut
ended c = record { lines = [] ∷ c.lines; rest = c.rest }

-- a text, cut at its line feeds
unfoldable pub cut : List ℕ → Cut
cut [] = record { lines = []; rest = [] }
cut (b ∷ bytes) = if b == 10 then ended (cut bytes) else onto (b ∷ []) (cut bytes)

-- ---- reading

pub data Reading : Type 0 where
  -- these events, and the tick of END
  Trace : List Event → ℕ → Reading
  -- the events of the lines before, the number of the faulty line, and what is wrong with it
  Refused : List Event → ℕ → Refusal → Reading

abbrev pub with_event : Event → Reading → Reading
with_event e (Trace events end) = Trace (e ∷ events) end
with_event e (Refused events line kind) = Refused (e ∷ events) line kind

-- what is wrong with a rest that no line feed ends
abbrev pub unended : Place → List ℕ → Refusal
unended place [] = NoEnd
unended place (b ∷ bytes) = if nat_le 16777216 place.line then TooMany else (if nat_lt 40 (length (b ∷ bytes)) then TooLong else NoEnd)

-- no lines and no rest are left
abbrev pub is_all : List (List ℕ) → List ℕ → Bool
is_all [] [] = true
is_all [] (b ∷ rest) = false
is_all (l ∷ lines) rest = false

-- from what one line says, whether nothing follows it, and how the text after an event reads
abbrev pub read_line : Place → Result Entry Refusal → Bool → (Event → Reading) → Reading
read_line place (Ok (entry.Event e)) last more = with_event e (more e)
read_line place (Ok (entry.End t)) last more = if last then Trace [] t.0 else Refused [] (place.line + 2) AfterEnd
read_line place (Err kind) last more = Refused [] (place.line + 1) kind

-- how these lines and the rest read from a place on
abbrev pub read_lines : Place → List (List ℕ) → List ℕ → Reading
read_lines place [] rest = Refused [] (place.line + 1) (unended place rest)
read_lines place (line ∷ lines) rest = read_line place (said place line) (is_all lines rest) (λ e. read_lines (after_event place e) lines rest)

-- how a text reads from a place on
unfoldable pub read_from : Place → List ℕ → Reading
read_from place text = read_lines place (cut text).lines (cut text).rest

-- the place before the first line
abbrev pub start : Place
start = record { line = 0; time = record { 0 = 0 }; serial = None }

-- what a whole text says
abbrev pub Read : List ℕ → Reading
Read text = read_from start text

-- the events that a reading has
abbrev pub events_of : Reading → List Event
events_of (Trace events end) = events
events_of (Refused events line kind) = events

-- these are the events of the bytes that a source gave, from what it had left at first to what it has left now: those of the
-- whole lines among them, up to the first faulty one
pub record TakenEvents (first left : Option (List ℕ)) (events : List Event) : Type 0 where
  pub taken : List ℕ
  pub is_front : first ≡ prepend_known taken left
  pub of_lines : events_of (Read taken) ≡ events
