-- What the records of a capture's text say.
use Rattle.std.specs.Prelude.{◌≡◌, ℕ, ℤ, pos, ◌+◌, ◌-◌, ◌≤◌, Bool, true, false, List, [], ◌∷◌, ◌++◌, length, Option, Some, None}
use Rattle.std.specs.Str.{IsTrimAscii}
use Rattle.csv.specs.declared.parser.Config.{Config}
use Rattle.csv.specs.Reading.{AreRecords, default_config, strip_bom}
use Rattle.csv.specs.Records.{field_at}
use Rattle.csv.specs.declared.parser.State.TheVariants as st
use Rattle.esc_base.specs.declared.event.Event.{Event}
use Rattle.esc_base.specs.declared.tick.Tick.{Tick}
use Rattle.trace_tools.specs.Written.{IsTrace}
use Rattle.am32csv.specs.declared.layout.Clock.{Clock}
use Rattle.am32csv.specs.declared.layout.Layout.{Layout}
use Rattle.am32csv.specs.declared.run.Row.{Row}
use Rattle.am32csv.specs.Rows.{IsTickOf, with_level}

-- ---- one record

-- fields between commas, quoted or not; a line that begins with `;` is a comment
abbrev pub capture_config : Config
capture_config = record default_config { comment = Some 59 }

abbrev pub level_text : Bool → List ℕ
level_text false = 48 ∷ []
level_text true = 49 ∷ []

-- a record has this text in a column, counted from 1, with blanks around it or not
pub record HasField (fields : List (List ℕ)) (column : ℕ) (text : List ℕ) : Type 0 where
  pub field : List ℕ
  pub at : field_at fields (column - 1) ≡ Some field
  pub trimmed : IsTrimAscii field text

-- the record behind so many others says this row: its level is that of its column, and where rows are numbered its time is its number
pub record SaysRow (layout : Layout) (number : ℕ) (fields : List (List ℕ)) (row : Row) : Type 0 where
  pub level : HasField fields layout.level (level_text row.level)
  pub numbered : layout.time ≡ 0 → row.stamp ≡ pos number

-- ---- all of them

-- these records say these rows, the first of them behind so many others
abbrev pub SayRows : Layout → ℕ → List (List (List ℕ)) → List Row → Type 0
SayRows layout number [] [] = Unit {0}
SayRows layout number [] (r ∷ rows) = ⊥
SayRows layout number (fields ∷ records) [] = ⊥
SayRows layout number (fields ∷ records) (r ∷ rows) = SaysRow layout number fields r × SayRows layout (number + 1) records rows

-- a whole text says these rows: its records do, but for a first one, which may be a header
pub record IsTextOf (layout : Layout) (text : List ℕ) (rows : List Row) : Type 0 where
  pub header : List (List (List ℕ))
  pub records : List (List (List ℕ))
  pub one : length header ≤ 1
  pub all : AreRecords capture_config st.StartRecord (strip_bom text) (header ++ records)
  pub say : SayRows layout 0 records rows

-- ---- what rows are as a trace

abbrev pub first_stamp : List Row → Option ℤ
first_stamp [] = None
first_stamp (r ∷ rows) = Some r.stamp

-- the level of the newest row, or this where there is none
abbrev pub newest_level : Bool → List Row → Bool
newest_level level [] = level
newest_level level (r ∷ rows) = newest_level r.level rows

-- each row's tick, where this time has tick 0
abbrev pub AreTicks : Clock → ℤ → List Row → List Tick → Type 0
AreTicks clock zeroth [] [] = Unit {0}
AreTicks clock zeroth [] (t ∷ ticks) = ⊥
AreTicks clock zeroth (r ∷ rows) [] = ⊥
AreTicks clock zeroth (r ∷ rows) (t ∷ ticks) = IsTickOf clock zeroth r.stamp t.0 × AreTicks clock zeroth rows ticks

-- an edge for each row whose level is another one than that before it, at its tick
abbrev pub changes : Bool → List Row → List Tick → List Event
changes level [] ticks = []
changes level (r ∷ rows) [] = []
changes level (r ∷ rows) (t ∷ ticks) = with_level [] level t r.level ++ changes r.level rows ticks

-- a trace's events are the changes of the rows, of which the first has tick 0, on a line that is low at the start
pub record AreChangesOf (clock : Clock) (rows : List Row) (events : List Event) : Type 0 where
  pub zeroth : ℤ
  pub is_first : (z : ℤ) → first_stamp rows ≡ Some z → zeroth ≡ z
  pub ticks : List Tick
  pub nearest : AreTicks clock zeroth rows ticks
  pub are : events ≡ changes false rows ticks

-- A trace that the reader accepts was appended. Where no replies are dropped, its events are the changes of some rows, and where the
-- source tells its bytes, these are the rows of that text.
pub record IsOfRows (layout : Layout) (source first now : Option (List ℕ)) : Type 0 where
  pub rows : List Row
  pub events : List Event
  pub end : ℕ
  pub accepted : IsTrace first now events end
  pub changes : layout.drops_replies ≡ false → AreChangesOf layout.clock rows events
  pub said : (text : List ℕ) → source ≡ Some text → IsTextOf layout text rows
