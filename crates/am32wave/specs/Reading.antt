-- How far a reader of journals has come, and what its answers say.
use Rattle.std.specs.Prelude.{◌≡◌, ◌≢◌, ℕ, ◌+◌, ◌<◌, ◌≤◌, List, [], ◌∷◌, ◌++◌, length, take, Option, Some}
use Rattle.std.specs.List.{All}
use Rattle.std.specs.Io.KnownBytes.{prepend_known, IsAtEnd}
use Rattle.esc_base.specs.declared.note.Note.{Note}
use Rattle.esc_base.specs.Journal.{time_of, Journal}
use Rattle.esc_base.specs.Range.{InRange}
use Rattle.trace_text.specs.Ahead.{NoLineFeed}
use Rattle.trace_text.specs.Text.{note_bytes, Text}
use Rattle.am32wave.specs.declared.reader.Journal.{Journal as Reader}
use Rattle.am32wave.specs.declared.journal.Item.{Item}
use Rattle.am32wave.specs.declared.journal.Item.TheVariants as item
use Rattle.am32wave.specs.declared.journal.Refusal.{Refusal}
use Rattle.am32wave.specs.declared.journal.Refusal.TheVariants as refusal

-- the most lines that are read
abbrev pub most_lines : ℕ
most_lines = 4294967295

-- the longest line of a note has so many bytes before its line feed: a reply's, with two numbers of ten digits and 21 bits
abbrev pub longest_line : ℕ
longest_line = 45

-- a line of n bytes stands first, with its line feed behind it
pub record IsEnded (n : ℕ) (bytes : List ℕ) : Type 0 where
  pub short : n ≤ longest_line
  pub within : n < length bytes
  pub ends : take (n + 1) bytes ≡ take n bytes ++ 10 ∷ []
  pub one : NoLineFeed (take n bytes)

-- a note's line stands here, and this behind it
pub record NoteAhead (n : Note) (text behind : Option (List ℕ)) : Type 0 where
  pub in_range : InRange n
  pub is_front : text ≡ prepend_known (note_bytes n) behind

-- ---- why a line is refused

-- some text stands here, and no note in range has a line with which it begins
pub record IsNoNote (text : Option (List ℕ)) : Type 0 where
  pub some : text ≢ Some []
  pub none : (n : Note) (more : List ℕ) → InRange n → text ≢ Some (note_bytes n ++ more)

-- a note's line stands here, of a time before this one
pub record IsBack (time : ℕ) (text : Option (List ℕ)) : Type 0 where
  pub note : Note
  pub behind : Option (List ℕ)
  pub ahead : NoteAhead note text behind
  pub early : time_of note < time

-- some bytes stand here, without a line feed, and nothing behind them
pub record IsCutOff (text : Option (List ℕ)) : Type 0 where
  pub bytes : List ℕ
  pub behind : Option (List ℕ)
  pub is_front : text ≡ prepend_known bytes behind
  pub some : bytes ≢ []
  pub no_line : NoLineFeed bytes
  pub ended : IsAtEnd behind

-- one more note's line stands here than are read
pub record IsTooMany (lines : ℕ) (text : Option (List ℕ)) : Type 0 where
  pub note : Note
  pub behind : Option (List ℕ)
  pub ahead : NoteAhead note text behind
  pub all : lines ≡ most_lines

-- by the number of lines before it, the time of the newest one, and the text that stands there
abbrev pub Refuses : Refusal → ℕ → ℕ → Option (List ℕ) → Type 0
Refuses refusal.NotANote lines time text = IsNoNote text
Refuses refusal.TimeBack lines time text = IsBack time text
Refuses refusal.NoEnd lines time text = IsCutOff text
Refuses refusal.TooMany lines time text = IsTooMany lines text

-- ---- one answer

-- the text behind some lines is this without what the source has left, and has no whole line
pub record OnlyPart (text left : Option (List ℕ)) : Type 0 where
  pub bytes : List ℕ
  pub is_front : text ≡ prepend_known bytes left
  pub no_line : NoLineFeed bytes

-- what an answer without a note says of the text that stands behind the lines before, and of what the source has left
abbrev pub Stops : Item → ℕ → ℕ → Option (List ℕ) → Option (List ℕ) → Type 0
Stops (item.Note n) lines time text left = ⊥
Stops item.End lines time text left = IsAtEnd text
Stops item.Fault lines time text left = OnlyPart text left
Stops (item.Refused kind) lines time text left = Refuses kind lines time text

-- a note's line was read, at a time that isn't before that of the newest one
pub record PassesLine (n : Note) (old new : Reader) (text behind : Option (List ℕ)) : Type 0 where
  pub ahead : NoteAhead n text behind
  pub later : old.time.0 ≤ time_of n
  pub time : new.time.0 ≡ time_of n
  pub line : new.line ≡ old.line + 1

-- what an answer says of the reader before and after it, the text ahead of it before and after, and what the source has left
abbrev pub Says : Item → Reader → Reader → Option (List ℕ) → Option (List ℕ) → Option (List ℕ) → Type 0
Says (item.Note n) old new text behind left = PassesLine n old new text behind
Says i old new text behind left = Stops i old.line old.time.0 text left × (new.line ≡ old.line)

-- facts by the kind of an answer
abbrev pub OnFault : Item → Type 0 → Type 0
OnFault item.Fault P = P
OnFault i P = Unit {0}

-- ---- all notes so far

-- the lines of these notes were read, and this stands behind them
pub record HasRead (first ahead : Option (List ℕ)) (notes : List Note) : Type 0 where
  pub is : first ≡ prepend_known (Text notes) ahead
  pub in_range : All InRange notes
  pub ordered : Journal notes
