-- A law, or what a law is said with: what `Legal` means rests on this.
-- Which journals are legal for a trace. Each part is a law of its own.
use Rattle.std.specs.Prelude.{◌≡◌, ℕ, List, [], ◌∷◌, ◌++◌, All}
use Rattle.esc_base.specs.declared.event.Event.{Event}
use Rattle.esc_base.specs.declared.note.Note.{Note}
use Rattle.esc_base.specs.Journal.{Journal}
use Rattle.esc_base.specs.Range.{InRange}
use Rattle.settings_block.specs.declared.stored.Loaded.{Loaded}
use Rattle.interrupt_machine.specs.declared.nest.Nest.{Nest}
use Rattle.interrupt_machine.specs.declared.nest.Nest.TheVariants.{Full}
use Rattle.arming.specs.Controlled.{Controlled}
use Rattle.esc_laws.specs.Chopped.{Chopped}
use Rattle.esc_laws.specs.NoteLaw.{Lawful}
use Rattle.esc_laws.specs.Steps.{Turned, opening, journal, notes_in, EachStep, StepFits, Awaits, OpenFew, Below}

-- The journal is legal up to tick T for the settings that were loaded, a trace, a step cost and a nesting: it begins with
-- the load and the first window; each note's numbers are in the range of its line, and times never fall; windows, replies,
-- control, the dead time, the drive, sectors, crossings, the search for them and nesting keep their rules, and with full nesting the
-- chopping does; and there is a list of machine steps whose notes, joined, are the rest of the journal: each stands at a tick
-- that the cost and the stalls give, below T, and each kind comes in time; no step that is due below T is left out.
pub record Legal (loaded : Loaded) (nest : Nest) (cost : ℕ) (trace : List Event) (until : ℕ) (notes : List Note) : Type 0 where
  pub rest : List Note
  pub begins : notes ≡ opening loaded ++ rest
  pub in_range : All InRange notes
  pub in_time : Journal notes
  pub lawful : Lawful loaded nest trace rest
  pub controlled : Controlled notes
  pub chopped : nest ≡ Full → Chopped cost trace until notes
  pub log : List Turned
  pub steps_are : rest ≡ notes_in log
  pub fits : EachStep (StepFits loaded nest cost trace) [] log
  pub below : Below until log
  pub all_made : Awaits loaded cost trace until log
  pub open_few : OpenFew loaded log

-- What stands where a write failed: whole steps, and a front of the notes of one more step. The journal is legal but for
-- that step's later notes. Of the chopping it claims the ticks below that step's.
pub record LegalFront (loaded : Loaded) (nest : Nest) (cost : ℕ) (trace : List Event) (notes : List Note) : Type 0 where
  pub log : List Turned
  pub broken : Turned
  pub front : List Note
  pub left_out : List Note
  pub split : broken.notes ≡ front ++ left_out
  pub notes_are : notes ≡ journal loaded log ++ front
  pub in_range : All InRange notes
  pub in_time : Journal notes
  pub lawful : Lawful loaded nest trace (notes_in log ++ front)
  pub controlled : Controlled notes
  pub chopped : nest ≡ Full → Chopped cost trace broken.tick notes
  pub fits : EachStep (StepFits loaded nest cost trace) [] (log ++ broken ∷ [])
  pub below : Below broken.tick log
  pub all_made : Awaits loaded cost trace broken.tick log
  pub open_few : OpenFew loaded log
