-- What a step of a handler came to: the activation goes on or returns, with notes of its own.
use Rattle.std.specs.Prelude.{◌≡◌, ℕ, List, [], ◌∷◌}
use Rattle.esc_base.specs.declared.kind.Kind.{Kind}
use Rattle.esc_base.specs.declared.kind.Kind.TheVariants as kind
use Rattle.esc_base.specs.declared.note.Note.{Note}
use Rattle.timer_regs.specs.Bank.{Bank}
pub use Rattle.timer_regs.specs.Access.{Access, accessed}
pub use Rattle.timer_regs.specs.Access.Access.{NoAccess, Reads, Writes}
use Rattle.interrupt_machine.specs.declared.firmware.Did.{Did}
use Rattle.interrupt_machine.specs.declared.firmware.Own.{Own}
use Rattle.interrupt_machine.specs.declared.firmware.Own.TheVariants as own
use Rattle.interrupt_machine.specs.declared.firmware.Did.TheVariants.{More, Return}

abbrev pub IsMore : Did → Type 0
IsMore (More own) = Unit {0}
IsMore (Return own) = ⊥

abbrev pub IsReturn : Did → Type 0
IsReturn (More own) = ⊥
IsReturn (Return own) = Unit {0}

-- the notes that a step gives of its own
abbrev pub notes_in : Own → List Note
notes_in own.None = []
notes_in (own.One n) = n ∷ []
notes_in (own.Two n m) = n ∷ m ∷ []

abbrev pub notes_of : Did → List Note
notes_of (More given) = notes_in given
notes_of (Return given) = notes_in given

-- how many own steps an activation makes at most, its return counted and its entry not
abbrev pub most : Kind → ℕ
most kind.Main = 8
most kind.Uart = 8
most kind.Tick = 48
most kind.Cap = 64
most kind.Cmp = 7
most kind.Pwm = 12
most kind.Comm = 24

-- the registers are as they were, but for at most one access
pub record MakesOneAccess (before after : Bank) : Type 0 where
  pub access : Access
  pub after_is : after ≡ accessed before access
