-- What a step of the machine is, and what it keeps.
use Rattle.std.specs.Prelude.{◌≡◌, ◌+◌, ◌≤◌, ℕ, Bool, true, List, [], ◌∷◌, ◌++◌, All}
use Rattle.esc_base.specs.declared.kind.Kind.{Kind}
use Rattle.esc_base.specs.declared.note.Note.{Note}
use Rattle.esc_base.specs.Flash.{Told}
use Rattle.esc_base.specs.Range.{InRange}
use Rattle.timer_regs.specs.Bank.{Bank}
use Rattle.interrupt_machine.specs.declared.firmware.Did.{Did}
use Rattle.interrupt_machine.specs.Limits.{SpendsOwnSteps, SpendsMask}
use Rattle.interrupt_machine.specs.Open.{due_now}
use Rattle.interrupt_machine.specs.Response.{Moment, Stepped, Responds}
use Rattle.interrupt_machine.specs.Running.{Running}
use Rattle.interrupt_machine.specs.Turn.{Turn, IsHeld}

pub record MachineStepped {F : Type 0} (came : F → Kind → F → Type 0) (made : F → Bank → Told → Kind → Did → F → Bank → Told → Type 0) (waits : F → Bool)
    (left : F → Kind → ℕ) (hold : F → ℕ)
    (old : Running F) (before : Bank) (flash : Told) (notes : List Note) (new : Running F) (after : Bank) (flash' : Told) : Type 0 where
  pub turn : Turn came made waits old.nest old.firmware old.open_kinds before flash notes new.firmware new.open_kinds after flash'
  pub nest : new.nest ≡ old.nest
  pub mask : after.masked ≡ true → IsHeld (hold new.firmware) new.open_kinds
  pub access : after.accesses ≤ before.accesses + 1
  pub in_range : All InRange notes
  pub own_steps : SpendsOwnSteps left old.firmware old.open_kinds new.firmware new.open_kinds
  pub mask_spent : SpendsMask (hold old.firmware) before.masked (hold new.firmware) after.masked
  -- if no kind has waited for more than 8 counted steps at the end of a log, none has once this step is added to it
  pub response : (log : List Moment) → Responds old.nest (hold old.firmware) before.masked old.open_kinds (due_now (waits old.firmware) before) log
      → Responds old.nest (hold new.firmware) after.masked new.open_kinds (due_now (waits new.firmware) after)
      (log ++ Stepped old.open_kinds (due_now (waits old.firmware) before) new.open_kinds (due_now (waits new.firmware) after) ∷ [])
