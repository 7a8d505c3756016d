-- One step of the machine.
use Rattle.std.specs.Prelude.{◌≡◌, ◌⊎◌, ◌<◌, ◌≢◌, ℕ, Bool, false, ◌==◌, ◌&&◌, if◌then◌else◌, List, [], ◌∷◌, ◌++◌, Some, None}
use Rattle.esc_base.specs.declared.kind.Kind.{Kind}
use Rattle.esc_base.specs.declared.note.Note.{Note}
use Rattle.esc_base.specs.declared.note.Note.TheVariants as note
use Rattle.esc_base.specs.Flash.{Told}
use Rattle.esc_base.specs.Numbers.{kind_number}
use Rattle.timer_regs.specs.Bank.{Bank}
use Rattle.timer_regs.specs.Effects.{after_entry}
use Rattle.interrupt_machine.specs.declared.firmware.Did.{Did}
use Rattle.interrupt_machine.specs.declared.firmware.Did.TheVariants.{More, Return}
use Rattle.interrupt_machine.specs.declared.nest.Nest.{Nest}
use Rattle.interrupt_machine.specs.Did.{notes_of, MakesOneAccess}
use Rattle.interrupt_machine.specs.Open.{next_entry, due_now}

-- the G note of a step, where the gate word changed
abbrev pub gate_note : ℕ → ℕ → Bank → List Note
gate_note hi lo after =
    if (after.hi == hi) && (after.lo == lo)
    then []
    else note.Gate (record { 0 = after.time }) after.hi after.lo ∷ []

abbrev pub leave_note : Bank → Kind → Did → List Note
leave_note after kind (More own) = []
leave_note after kind (Return own) = note.Leave (record { 0 = after.time }) (kind_number kind) ∷ []

-- the notes of a handler's step: a gate change, the handler's own, the return
abbrev pub own_notes : ℕ → ℕ → Bank → Kind → Did → List Note
own_notes hi lo after kind did = (gate_note hi lo after ++ notes_of did) ++ leave_note after kind did

abbrev pub open_after : Kind → List Kind → Did → List Kind
open_after kind outer (More own) = kind ∷ outer
open_after kind outer (Return own) = outer

-- a kind is entered: the mask is down, and it is the highest due kind and may enter
pub record Entry {F : Type 0} (came : F → Kind → F → Type 0) (waits : F → Bool) (nest : Nest) (old : F) (stack : List Kind) (before : Bank) (kind : Kind)
    (notes : List Note) (new : F) (stack' : List Kind) (after : Bank) : Type 0 where
  pub unmasked : before.masked ≡ false
  pub chosen : next_entry nest stack (due_now (waits old) before) ≡ Some kind
  pub entered : came old kind new
  pub stack_is : stack' ≡ kind ∷ stack
  pub regs_are : after ≡ after_entry before kind
  pub notes_are : notes ≡ note.Enter (record { 0 = before.time }) (kind_number kind) ∷ []

-- the innermost open handler makes a step of its own, in which it may call the flash
pub record OwnStep {F : Type 0} (made : F → Bank → Told → Kind → Did → F → Bank → Told → Type 0) (waits : F → Bool) (nest : Nest) (old : F)
    (stack : List Kind) (before : Bank) (flash : Told) (kind : Kind) (outer : List Kind) (did : Did) (notes : List Note) (new : F) (stack' : List Kind)
    (after : Bank) (flash' : Told) : Type 0 where
  pub none_enters : before.masked ≡ false → next_entry nest stack (due_now (waits old) before) ≡ None
  pub innermost_is : stack ≡ kind ∷ outer
  pub stepped : made old before flash kind did new after flash'
  pub one_access : MakesOneAccess before after
  pub stack_is : stack' ≡ open_after kind outer did
  pub notes_are : notes ≡ own_notes before.hi before.lo after kind did

-- a step of the machine: an entry, which leaves the flash as it is, or an own step of the innermost open handler
abbrev pub Turn : {F : Type 0} → (F → Kind → F → Type 0) → (F → Bank → Told → Kind → Did → F → Bank → Told → Type 0) → (F → Bool) → Nest → F → List Kind
    → Bank → Told → List Note → F → List Kind → Bank → Told → Type 0
Turn {F} came made waits nest old stack before flash notes new stack' after flash' =
    ((kind : Kind) × Entry came waits nest old stack before kind notes new stack' after × (flash' ≡ flash))
    ⊎ ((kind : Kind) × (outer : List Kind) × (did : Did) × OwnStep made waits nest old stack before flash kind outer did notes new stack' after flash')

-- a handler is open, and the mask may stand for one more step
abbrev pub IsHeld : ℕ → List Kind → Type 0
IsHeld hold stack = (stack ≢ []) × (0 < hold)
