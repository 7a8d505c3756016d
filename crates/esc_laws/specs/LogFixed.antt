-- Shown of the laws, and no law.
-- The list of machine steps that `Legal` speaks of is fixed by the journal: a proof that a journal is legal has no hidden choice.
use Rattle.std.specs.Prelude.{◌≡◌, ◌<◌, ℕ, List}
use Rattle.esc_base.specs.declared.event.Event.{Event}
use Rattle.esc_base.specs.declared.note.Note.{Note}
use Rattle.settings_block.specs.declared.stored.Loaded.{Loaded}
use Rattle.interrupt_machine.specs.declared.nest.Nest.{Nest}
use Rattle.esc_laws.specs.Legal.{Legal}

-- two proofs that a journal is legal speak of the same steps
abbrev pub LogIsFixed : Type 0
LogIsFixed =
    (loaded : Loaded) (nest : Nest) (cost : ℕ) (trace : List Event) (until : ℕ) (notes : List Note)
    → 0 < cost → (l l' : Legal loaded nest cost trace until notes) → l.log ≡ l'.log
