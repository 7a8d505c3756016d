-- What is known of the next note and the next event.
use Rattle.std.specs.Prelude.{ℕ, ◌+◌, ◌*◌, ◌-◌}
use Rattle.am32wave.specs.declared.next.NextNote.{NextNote}
use Rattle.am32wave.specs.declared.next.NextNote.TheVariants as note
use Rattle.am32wave.specs.declared.next.NextEvent.{NextEvent}
use Rattle.am32wave.specs.declared.next.NextEvent.TheVariants as event

-- the lines of a trace that goes on behind so many, and 0 where it doesn't
abbrev pub lines_if_on : NextEvent → ℕ → ℕ
lines_if_on event.Unread lines = lines
lines_if_on (event.Is e) lines = lines
lines_if_on event.End lines = 0

-- it was read, or the end was
abbrev pub IsNoteKnown : NextNote → Type 0
IsNoteKnown note.Unread = ⊥
IsNoteKnown (note.Is n) = Unit {0}
IsNoteKnown note.End = Unit {0}

abbrev pub IsEventKnown : NextEvent → Type 0
IsEventKnown event.Unread = ⊥
IsEventKnown (event.Is e) = Unit {0}
IsEventKnown event.End = Unit {0}

-- how many calls may still give a note, behind so many lines
abbrev pub notes_to_come : NextNote → ℕ → ℕ
notes_to_come note.Unread lines = 2 * (4294967295 - lines)
notes_to_come (note.Is n) lines = 2 * (4294967295 - lines) + 1
notes_to_come note.End lines = 0

-- the same of events
abbrev pub events_to_come : NextEvent → ℕ → ℕ
events_to_come event.Unread lines = 2 * (16777217 - lines)
events_to_come (event.Is e) lines = 2 * (16777217 - lines) + 1
events_to_come event.End lines = 0
