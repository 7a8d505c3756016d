-- The program that chops: under the mask it reads where in the period it is, and turns the pair's high switch on, or all high
-- switches off.
use Rattle.std.specs.Prelude.{◌≡◌, ℕ, Bool, true, false, not, ◌&&◌, ◌==◌, if◌then◌else◌, nat_lt, Option, Some, None}
use Rattle.esc_base.specs.declared.gate.Leg.{Leg}
use Rattle.esc_base.specs.Legs.{mask_of, is_on}
use Rattle.timer_regs.specs.Bank.{Bank}
use Rattle.timer_regs.specs.Access.Access.{NoAccess, Reads, Writes}
use Rattle.timer_regs.specs.Effects.{read_value}
use Rattle.timer_regs.specs.declared.regs.Reg.TheVariants as reg
use Rattle.commutation.specs.Sectors.{high_of}
use Rattle.gate_driver.specs.declared.progress.Progress.TheVariants.{More}
use Rattle.gate_driver.specs.declared.chop.Chop.{Chop}
use Rattle.gate_driver.specs.declared.chop.Chop.TheVariants as chop
use Rattle.gate_driver.specs.Gated.{Gated, high_wait}
use Rattle.gate_driver.specs.Acted.{Acted, goes, switches, ends, waits}

-- the high switch that is to be on: the pair's where the position is below the duty, and none in sector 0
abbrev pub chopped_leg : Bool → ℕ → Option Leg
chopped_leg below s = if below && not (s == 0) then Some (high_of s) else None

-- the leg's high switch turns on, or may not yet and is left off
abbrev pub on_step : Option ℕ → Leg → Gated → Bank → Acted Chop
on_step None x g b = switches chop.Lower g b reg.GhSet (mask_of x) More
on_step (Some t) x g b = waits chop.Lower g t

abbrev pub write_step : Option Leg → Gated → Bank → Acted Chop
write_step (Some x) g b = on_step (high_wait g b x) x g b
write_step None g b = switches chop.Lower g b reg.GhClr 7 More

abbrev pub chop_step : Chop → Gated → Bank → Acted Chop
chop_step chop.Raise g b = goes chop.Position g (Writes reg.Mask 1)
chop_step chop.Position g b = goes (chop.Duty (read_value b reg.PwmPos)) g (Reads reg.PwmPos)
chop_step (chop.Duty position) g b = goes (chop.Sector (nat_lt position b.duty)) g (Reads reg.Duty)
chop_step (chop.Sector below) g b = goes (chop.Write (chopped_leg below b.sector)) g (Reads reg.Sector)
chop_step (chop.Write leg) g b = write_step leg g b
chop_step chop.Lower g b = ends chop.Over g (Writes reg.Mask 0)
chop_step chop.Over g b = ends chop.Over g NoAccess

-- the accesses that are left at most
abbrev pub chop_left : Chop → ℕ
chop_left chop.Raise = 6
chop_left chop.Position = 5
chop_left (chop.Duty position) = 4
chop_left (chop.Sector below) = 3
chop_left (chop.Write leg) = 2
chop_left chop.Lower = 1
chop_left chop.Over = 0

-- the one step that writes a gate register
abbrev pub is_write : Chop → Bool
is_write (chop.Write leg) = true
is_write at = false

-- what that step leaves: the switch is on if it may be; where none is to be on all high ones are off
abbrev pub HasChopped : Option Leg → Gated → Bank → Bank → Type 0
HasChopped (Some x) g b b' = high_wait g b x ≡ None → is_on b'.hi x ≡ true
HasChopped None g b b' = b'.hi ≡ 0
