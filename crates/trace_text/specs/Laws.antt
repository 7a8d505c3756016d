-- A law of journals' texts, which follows from the lines of notes alone.
use Rattle.std.specs.Prelude.{◌≡◌, List}
use Rattle.std.specs.List.{All}
use Rattle.esc_base.specs.declared.note.Note.{Note}
use Rattle.esc_base.specs.Range.{InRange}
use Rattle.trace_text.specs.Text.{Text}

-- two lists of notes in range with the same text are the same list
abbrev pub OneJournal : Type 0
OneJournal = (notes others : List Note) → All InRange notes → All InRange others → Text notes ≡ Text others → notes ≡ others
