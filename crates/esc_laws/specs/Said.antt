-- Machinery, and no law: how a run is proved to be legal. Nothing that `Legal` means rests on this.
-- What the notes so far keep.
use Rattle.std.specs.Prelude.{◌≤◌, ℕ, List, ◌++◌, reverse, All}
use Rattle.esc_base.specs.declared.event.Event.{Event}
use Rattle.esc_base.specs.declared.note.Note.{Note}
use Rattle.esc_base.specs.Journal.{Each, Journal, time_of}
use Rattle.settings_block.specs.declared.stored.Loaded.{Loaded}
use Rattle.interrupt_machine.specs.declared.nest.Nest.{Nest}
use Rattle.esc_laws.specs.Place.{Place, place}
use Rattle.esc_laws.specs.NoteLaw.{IsLawful}
use Rattle.esc_laws.specs.Steps.{opening}
use Rattle.esc_laws.specs.InTime.{TurnWaits}

-- a note keeps the laws, and what the chopping needs besides
pub record NoteKeeps (loaded : Loaded) (nest : Nest) (trace : List Event) (p : Place) (back : List Note) (n : Note) : Type 0 where
  pub laws : IsLawful loaded nest trace p back n
  pub waits : TurnWaits back n

-- behind those before it, the oldest first
abbrev pub NoteFits : Loaded → Nest → List Event → List Note → Note → Type 0
NoteFits loaded nest trace before n = NoteKeeps loaded nest trace (place before) (reverse before) n

-- the notes keep the laws, in the order of their times, up to t
pub record Said (loaded : Loaded) (nest : Nest) (trace : List Event) (t : ℕ) (rest : List Note) : Type 0 where
  pub in_time : Journal (opening loaded ++ rest)
  pub keeps : Each (NoteFits loaded nest trace) (opening loaded) rest
  pub past : All (λ n. time_of n ≤ t) (opening loaded ++ rest)
