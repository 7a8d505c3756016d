-- What a step of the core leaves, as a function of the core and the registers before it.
use Rattle.std.specs.Prelude.{◌≡◌, Bool, true, false, List, []}
use Rattle.esc_base.specs.declared.note.Note.{Note}
use Rattle.timer_regs.specs.Bank.{Bank}
use Rattle.interrupt_machine.specs.declared.firmware.Did.{Did}
use Rattle.interrupt_machine.specs.declared.firmware.Did.TheVariants.{More, Return}
use Rattle.interrupt_machine.specs.Did.{Access, NoAccess, accessed, notes_of}
use Rattle.esc_core.specs.Brain.{Brain}

pub record Stepped : Type 0 where
  pub core : Brain
  -- the step's one access to the registers
  pub access : Access
  pub notes : List Note
  -- it was the return
  pub over : Bool

abbrev pub is_return : Did → Bool
is_return (More own) = false
is_return (Return own) = true

pub record IsStepped (before : Bank) (s : Stepped) (did : Did) (new : Brain) (after : Bank) : Type 0 where
  pub core_is : new ≡ s.core
  pub bank_is : after ≡ accessed before s.access
  pub notes_are : notes_of did ≡ s.notes
  pub over_is : is_return did ≡ s.over

-- a step with no note, after which the activation goes on
abbrev pub goes_on : Brain → Access → Stepped
goes_on core access = record { core = core; access = access; notes = []; over = false }

abbrev pub goes_back : Brain → Stepped
goes_back core = record { core = core; access = NoAccess; notes = []; over = true }
