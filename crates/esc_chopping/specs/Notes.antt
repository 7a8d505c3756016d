-- All notes of a step stand at its tick, and an entry notes its I alone.
use Rattle.std.specs.Prelude.{◌≡◌, true, List, [], ◌∷◌, All}
use Rattle.esc_base.specs.declared.note.Note.TheVariants as note
use Rattle.esc_base.specs.Journal.{time_of}
use Rattle.esc_base.specs.Numbers.{kind_number}
use Rattle.esc_laws.specs.Steps.{Turned}

pub record NotesFit (before : List Turned) (e : Turned) : Type 0 where
  pub at_tick : All (λ n. time_of n ≡ e.tick) e.notes
  pub entry : e.enters ≡ true → e.notes ≡ note.Enter (record { 0 = e.tick }) (kind_number e.kind) ∷ []
