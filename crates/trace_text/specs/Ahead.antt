-- How far a reader has come in a text, and what its answers say of the text ahead.
use Rattle.std.specs.Prelude.{◌≡◌, ℕ, ◌+◌, ◌≤◌, false, ◌==◌, List, [], ◌∷◌, ◌++◌, take, drop, Option, Some, None}
use Rattle.std.specs.Io.KnownBytes.{prepend_known, IsAtEnd}
use Rattle.esc_base.specs.declared.tick.Tick.{Tick}
use Rattle.esc_base.specs.declared.event.Event.{Event}
use Rattle.esc_base.specs.declared.event.Event.TheVariants as event
use Rattle.esc_base.specs.Trace.{tick_of}
use Rattle.trace_text.specs.declared.item.Place.{Place}
use Rattle.trace_text.specs.declared.item.Item.{Item}
use Rattle.trace_text.specs.declared.item.Item.TheVariants as item
use Rattle.trace_text.specs.declared.item.Refusal.{Refusal}
use Rattle.trace_text.specs.declared.item.Refusal.TheVariants as refusal
use Rattle.trace_text.specs.declared.piece.Held.{Held}
use Rattle.trace_text.specs.declared.reader.Lines.{Lines}
use Rattle.trace_text.specs.declared.parse.Entry.{Entry}
use Rattle.trace_text.specs.declared.parse.Entry.TheVariants as entry
use Rattle.trace_text.specs.Line.{after_event}
use Rattle.trace_text.specs.Read.{Reading, Trace, Refused, with_event, read_from, Read, events_of}

-- the bytes in the buffer that weren't read yet
abbrev pub unread : Held → List ℕ
unread h = drop h.at (take h.len h.buffer)

-- the text ahead: what the buffer holds, then what the source has left, where the source tells that
abbrev pub ahead : Held → Option (List ℕ) → Option (List ℕ)
ahead h left = prepend_known (unread h) left

-- what a reader remembers of the lines before
abbrev pub place : Lines → Place
place l = l.place

-- a reading with these events put before its own
abbrev pub with_events : List Event → Reading → Reading
with_events events (Trace more end) = Trace (events ++ more) end
with_events events (Refused more line kind) = Refused (events ++ more) line kind

-- A reader has read these events: of what the source had left at first it has read some bytes, and the rest is ahead. Whatever
-- followed those bytes, the whole would read as these events and then as that text reads from the reader's place.
pub record HasRead (l : Lines) (first left : Option (List ℕ)) (events : List Event) : Type 0 where
  pub seen : List ℕ
  pub is_ahead : first ≡ prepend_known seen (ahead l.held left)
  pub goes_on : (more : List ℕ) → Read (seen ++ more) ≡ with_events events (read_from (place l) more)

-- ---- what the lines before ask of an event

-- a serial byte comes at least 20000 ticks after the one before
abbrev pub IsSpaced : Option Tick → Event → Type 0
IsSpaced before (event.Edge t level) = Unit {0}
IsSpaced before (event.Comp t level) = Unit {0}
IsSpaced None (event.Serial t byte) = Unit {0}
IsSpaced (Some b) (event.Serial t byte) = b.0 + 20000 ≤ t.0
IsSpaced before (event.Stall t n) = Unit {0}

-- a stall takes 1 to 16777216 ticks
abbrev pub StallFits : Event → Type 0
StallFits (event.Edge t level) = Unit {0}
StallFits (event.Comp t level) = Unit {0}
StallFits (event.Serial t byte) = Unit {0}
StallFits (event.Stall t n) = (1 ≤ n) × (n ≤ 16777216)

-- a tick isn't below that of the line before, nor above the greatest time
abbrev pub InTime : Place → ℕ → Type 0
InTime p t = (p.time.0 ≤ t) × (t ≤ 1073741824)

-- an event may follow the lines before
pub record Follows (p : Place) (e : Event) : Type 0 where
  pub in_time : InTime p (tick_of e)
  pub spaced : IsSpaced p.serial e
  pub stall : StallFits e

-- what a line says may follow the lines before
abbrev pub EntryFits : Place → Entry → Type 0
EntryFits p (entry.Event e) = Follows p e
EntryFits p (entry.End t) = InTime p t.0

-- a refusal for something in the line itself
abbrev pub IsOfLine : Refusal → Type 0
IsOfLine refusal.NoEnd = ⊥
IsOfLine refusal.AfterEnd = ⊥
IsOfLine kind = Unit {0}

-- P holds where the answer is an event, and likewise below for the end, a fault and a refusal
abbrev pub IfEvent : Item → (Event → Type 0) → Type 0
IfEvent (item.Event e) P = P e
IfEvent (item.End t) P = Unit {0}
IfEvent item.Fault P = Unit {0}
IfEvent (item.Refused kind) P = Unit {0}

abbrev pub IfEnd : Item → (Tick → Type 0) → Type 0
IfEnd (item.Event e) P = Unit {0}
IfEnd (item.End t) P = P t
IfEnd item.Fault P = Unit {0}
IfEnd (item.Refused kind) P = Unit {0}

abbrev pub OnFault : Item → Type 0 → Type 0
OnFault (item.Event e) P = Unit {0}
OnFault (item.End t) P = Unit {0}
OnFault item.Fault P = P
OnFault (item.Refused kind) P = Unit {0}

abbrev pub IfRefused : Item → (Refusal → Type 0) → Type 0
IfRefused (item.Event e) P = Unit {0}
IfRefused (item.End t) P = Unit {0}
IfRefused item.Fault P = Unit {0}
IfRefused (item.Refused kind) P = P kind

-- how many lines an answer has looked at: AfterEnd is about the line after END
abbrev pub lines_looked_at : Item → ℕ
lines_looked_at (item.Refused refusal.AfterEnd) = 2
lines_looked_at r = 1

-- the answer NoEnd comes only where the source has nothing left
abbrev pub SourceEnded : Option (List ℕ) → Item → Type 0
SourceEnded left (item.Event e) = Unit {0}
SourceEnded left (item.End t) = Unit {0}
SourceEnded left item.Fault = Unit {0}
SourceEnded left (item.Refused refusal.NoEnd) = IsAtEnd left
SourceEnded left (item.Refused kind) = Unit {0}

-- P holds where the answer ends the reading without a refusal: at the end, and at a fault
abbrev pub OnStop : Item → Type 0 → Type 0
OnStop (item.Event e) P = Unit {0}
OnStop (item.End t) P = P
OnStop item.Fault P = P
OnStop (item.Refused kind) P = Unit {0}

-- ---- one answer

-- where the source tells the text ahead, that reads as this
abbrev pub ReadsAs : Place → Option (List ℕ) → Reading → Type 0
ReadsAs p None r = Unit {0}
ReadsAs p (Some text) r = read_from p text ≡ r

-- the line of an event, with its line feed, was read, and whatever follows it reads from the next place on
pub record PassesLine (p : Place) (before : Option (List ℕ)) (e : Event) (q : Place) (after : Option (List ℕ)) : Type 0 where
  pub line : List ℕ
  pub is_front : before ≡ prepend_known line after
  pub goes_on : (more : List ℕ) → read_from p (line ++ more) ≡ with_event e (read_from q more)

-- all bytes that the source gave were looked at, and they hold no whole line of a further event
pub record NoEvent (p : Place) (before left : Option (List ℕ)) : Type 0 where
  pub bytes : List ℕ
  pub is_front : before ≡ prepend_known bytes left
  pub none : events_of (read_from p bytes) ≡ []

-- what an answer says of the text ahead before it, from its place p, and of place and text after it
abbrev pub Says : Place → Option (List ℕ) → Item → Place → Option (List ℕ) → Type 0
Says p before (item.Event e) q after = PassesLine p before e q after
Says p before (item.End t) q after = ReadsAs p before (Trace [] t.0)
Says p before item.Fault q after = Unit {0}
Says p before (item.Refused kind) q after = ReadsAs p before (Refused [] q.line kind)

-- the place after a line that gave no event
abbrev pub next_line : Place → Place
next_line p = record p { line = p.line + 1 }

-- an answer at place p: what it says of the text ahead, which place q it leads to, and that its event or end may stand there
pub record Answers (p : Place) (before : Option (List ℕ)) (r : Item) (q : Place) (after : Option (List ℕ)) : Type 0 where
  pub says : Says p before r q after
  pub line : q.line ≡ p.line + lines_looked_at r
  pub follows : IfEvent r (λ e. Follows p e)
  pub goes_on : IfEvent r (λ e. q ≡ after_event p e)
  pub in_time : IfEnd r (λ t. InTime p t.0)

-- the same where this line and its line feed stand before the text ahead
abbrev pub AnswersWhole : Place → List ℕ → Option (List ℕ) → Item → Place → Option (List ℕ) → Type 0
AnswersWhole p line None r q after = Answers p None r q after
AnswersWhole p line (Some text) r q after = Answers p (Some (line ++ 10 ∷ text)) r q after

-- no byte is a line feed
abbrev pub NoLineFeed : List ℕ → Type 0
NoLineFeed [] = Unit {0}
NoLineFeed (b ∷ bytes) = ((b == 10) ≡ false) × NoLineFeed bytes

-- the bytes begin with a line of n bytes and its line feed
pub record IsLine (n : ℕ) (bytes : List ℕ) : Type 0 where
  pub short : n ≤ 40
  pub cut : bytes ≡ take n bytes ++ 10 ∷ drop (n + 1) bytes
  pub one : NoLineFeed (take n bytes)
