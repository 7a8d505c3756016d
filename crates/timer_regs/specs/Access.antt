-- One access to the registers, and what it changes of them.
use Rattle.std.specs.Prelude.{ℕ}
use Rattle.timer_regs.specs.Bank.{Bank}
use Rattle.timer_regs.specs.Effects.{after_read, written}
use Rattle.timer_regs.specs.declared.regs.Reg.{Reg}

pub data Access : Type 0 where
  NoAccess : Access
  Reads : Reg → Access
  Writes : Reg → ℕ → Access

-- the registers after an access
abbrev pub accessed : Bank → Access → Bank
accessed b NoAccess = b
accessed b (Reads r) = after_read b r
accessed b (Writes r v) = written b r v
