-- What was read and written, by the status with which the program ends.
use Rattle.std.specs.Prelude.{◌≡◌, ℕ, ◌+◌, ◌≤◌, false, List, [], length, map, All, Option}
use Rattle.std.specs.Io.KnownBytes.{append_known, IsAtEnd}
use Rattle.esc_base.specs.declared.note.Note.{Note}
use Rattle.esc_base.specs.Journal.{Journal}
use Rattle.esc_base.specs.Outside.{AppendsFront}
use Rattle.esc_base.specs.Range.{InRange, IsWord}
use Rattle.trace_text.specs.Text.{Text}
use Rattle.am32wave.specs.declared.journal.Refusal.{Refusal}
use Rattle.am32wave.specs.declared.run.Form.{Form}
use Rattle.am32wave.specs.declared.run.Form.TheVariants as form
use Rattle.am32wave.specs.declared.moment.Moment.{Moment}
use Rattle.am32wave.specs.declared.moment.Moment.TheVariants as moment
use Rattle.am32wave.specs.declared.run.Report.{Report}
use Rattle.am32wave.specs.declared.run.Report.TheVariants as report
use Rattle.am32wave.specs.declared.status.Status.{Status}
use Rattle.am32wave.specs.declared.status.Status.TheVariants as status
use Rattle.am32wave.specs.declared.view.Plan.{Plan}
use Rattle.am32wave.specs.declared.view.Stretch.{Stretch}
use Rattle.am32wave.specs.declared.view.View.{View}
use Rattle.am32wave.specs.Drawn.{head, part, end, begun as begun_drawing, drawn}
use Rattle.am32wave.specs.Picture.{last_time}
use Rattle.am32wave.specs.Explained.{line, lines, explained}
use Rattle.am32wave.specs.Tally.{tally, summary}
use Rattle.am32wave.specs.Reading.{Refuses, OnlyPart, HasRead, most_lines}
use Rattle.am32wave.specs.After.{IsDrawnAfter, IsToldAfter}

-- ---- a journal without its trace

abbrev pub journal_plan : View → Stretch → Plan
journal_plan v s = record { view = v; stretch = s; is_traced = false }

abbrev pub moments_of : List Note → List Moment
moments_of notes = map moment.Note notes

-- ---- the text of some notes, in each form

-- what stands before the first note's part
abbrev pub head_text : Form → List ℕ
head_text (form.Drawn v s) = head (journal_plan v s)
head_text form.Words = []

-- a note's part, by the notes before it
abbrev pub part_text : Form → List Note → Note → List ℕ
part_text (form.Drawn v s) before n = part (journal_plan v s) (moments_of before) (moment.Note n)
part_text form.Words before n = line before n

-- what stands behind the last note's part
abbrev pub end_text : Form → List Note → List ℕ
end_text (form.Drawn v s) notes = end (journal_plan v s) (moments_of notes)
end_text form.Words notes = summary (tally notes)

-- the text of a journal's notes without what stands behind the last one's part
abbrev pub begun : Form → List Note → List ℕ
begun (form.Drawn v s) notes = begun_drawing (journal_plan v s) (moments_of notes)
begun form.Words notes = lines [] notes

-- the whole text of a journal's notes
abbrev pub shown : Form → List Note → List ℕ
shown (form.Drawn v s) notes = drawn (journal_plan v s) (moments_of notes)
shown form.Words notes = explained notes

-- the ticks of its stretch are numbers of 32 bits
abbrev pub FormFits : Form → Type 0
FormFits (form.Drawn v s) = IsWord s.from × IsWord s.to
FormFits form.Words = Unit {0}

-- ---- what is kept of the notes so far

abbrev pub form_of : Report → Form
form_of (report.Drawn d) = form.Drawn d.plan.view d.plan.stretch
form_of (report.Words e) = form.Words

abbrev pub IsAfter : Report → List Note → Type 0
IsAfter (report.Drawn d) notes = IsDrawnAfter d (journal_plan d.plan.view d.plan.stretch) (moments_of notes)
IsAfter (report.Words e) notes = IsToldAfter e notes

-- ---- the endings

-- The whole journal was read, and its whole text written.
pub record IsDone (f : Form) (left before after : Option (List ℕ)) : Type 0 where
  pub notes : List Note
  pub behind : Option (List ℕ)
  pub read : HasRead left behind notes
  pub ended : IsAtEnd behind
  pub wrote : after ≡ append_known before (shown f notes)

-- A line was refused, for what stands behind the lines of the notes before it. The text of these notes was written.
pub record IsRefused (f : Form) (number : ℕ) (kind : Refusal) (left before after : Option (List ℕ)) : Type 0 where
  pub notes : List Note
  pub behind : Option (List ℕ)
  pub read : HasRead left behind notes
  pub line : number ≡ length notes + 1
  pub cause : Refuses kind (length notes) (last_time notes) behind
  pub wrote : after ≡ append_known before (begun f notes)

-- The source failed. The notes are those of all whole lines among the bytes that were taken, and their text was written.
pub record IsReadFault (f : Form) (left_before left_after before after : Option (List ℕ)) : Type 0 where
  pub notes : List Note
  pub behind : Option (List ℕ)
  pub read : HasRead left_before behind notes
  pub part : OnlyPart behind left_after
  pub wrote : after ≡ append_known before (begun f notes)

-- The sink failed. A front of the text of the notes that were read was written.
pub record IsWriteFault (f : Form) (left before after : Option (List ℕ)) : Type 0 where
  pub notes : List Note
  pub behind : Option (List ℕ)
  pub read : HasRead left behind notes
  pub front : AppendsFront before (shown f notes) after

abbrev pub Shown : Form → Status → Option (List ℕ) → Option (List ℕ) → Option (List ℕ) → Option (List ℕ) → Type 0
Shown f status.Done left_before left_after before after = IsDone f left_before before after
Shown f (status.Refused line kind) left_before left_after before after = IsRefused f line kind left_before before after
Shown f status.ReadFault left_before left_after before after = IsReadFault f left_before left_after before after
Shown f status.WriteFault left_before left_after before after = IsWriteFault f left_before before after
Shown f s left_before left_after before after = ⊥

-- facts by the status: where a journal's source failed, where a trace's did, and where the sink did
abbrev pub OnReadFault : Status → Type 0 → Type 0
OnReadFault status.ReadFault P = P
OnReadFault s P = Unit {0}

abbrev pub OnTraceFault : Status → Type 0 → Type 0
OnTraceFault status.TraceFault P = P
OnTraceFault s P = Unit {0}

abbrev pub OnWriteFault : Status → Type 0 → Type 0
OnWriteFault status.WriteFault P = P
OnWriteFault s P = Unit {0}

-- the whole job was done, or the source or the sink failed
abbrev pub IsDoneOrFault : Status → Type 0
IsDoneOrFault status.Done = Unit {0}
IsDoneOrFault status.ReadFault = Unit {0}
IsDoneOrFault status.WriteFault = Unit {0}
IsDoneOrFault s = ⊥

-- this text is a journal: notes in range, whose times never fall, and not more of them than are read
pub record IsJournal (text : List ℕ) : Type 0 where
  pub notes : List Note
  pub is : text ≡ Text notes
  pub in_range : All InRange notes
  pub ordered : Journal notes
  pub few : length notes ≤ most_lines
