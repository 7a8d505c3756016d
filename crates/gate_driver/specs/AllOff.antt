-- The program that turns all switches off.
use Rattle.std.specs.Prelude.{ℕ}
use Rattle.timer_regs.specs.Bank.{Bank}
use Rattle.timer_regs.specs.Access.Access.{NoAccess}
use Rattle.timer_regs.specs.declared.regs.Reg.TheVariants as reg
use Rattle.gate_driver.specs.declared.progress.Progress.TheVariants.{More, Done}
use Rattle.gate_driver.specs.declared.all_off.AllOff.{AllOff}
use Rattle.gate_driver.specs.declared.all_off.AllOff.TheVariants.{High, Low, Over}
use Rattle.gate_driver.specs.Gated.{Gated}
use Rattle.gate_driver.specs.Acted.{Acted, switches, ends}

abbrev pub all_off_step : AllOff → Gated → Bank → Acted AllOff
all_off_step High g b = switches Low g b reg.GhClr 7 More
all_off_step Low g b = switches Over g b reg.GlClr 7 Done
all_off_step Over g b = ends Over g NoAccess

-- the accesses that are left
abbrev pub all_off_left : AllOff → ℕ
all_off_left High = 2
all_off_left Low = 1
all_off_left Over = 0
