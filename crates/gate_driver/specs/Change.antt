-- The program that changes to a sector: what isn't in the new pair goes off, then the sector is set, then the pair turns on.
use Rattle.std.specs.Prelude.{◌≡◌, ◌≤◌, ℕ, ◌-◌, Bool, true, false, nat_lt, Option, Some, None}
use Rattle.esc_base.specs.Legs.{mask_of, is_on, IsOnly}
use Rattle.timer_regs.specs.Bank.{Bank}
use Rattle.timer_regs.specs.Access.Access.{NoAccess, Reads, Writes}
use Rattle.timer_regs.specs.Effects.{read_value}
use Rattle.timer_regs.specs.declared.regs.Reg.TheVariants as reg
use Rattle.commutation.specs.Sectors.{high_of, low_of}
use Rattle.gate_driver.specs.declared.progress.Progress.TheVariants.{More, Done}
use Rattle.gate_driver.specs.declared.to_sector.ChangeAt.{ChangeAt}
use Rattle.gate_driver.specs.declared.to_sector.ChangeAt.TheVariants as change
use Rattle.gate_driver.specs.Gated.{Gated, high_wait, low_wait}
use Rattle.gate_driver.specs.Acted.{Acted, goes, switches, ends, waits}

-- a change to a sector, 1 to 6, and the step that comes next
pub record Change : Type 0 where
  pub to : ℕ
  pub at : ChangeAt

abbrev pub IsSector : ℕ → Type 0
IsSector s = (1 ≤ s) × (s ≤ 6)

abbrev pub change_to : ℕ → Change
change_to s = record { to = s; at = change.ClearHigh }

abbrev pub next : Change → ChangeAt → Change
next c at = record { to = c.to; at = at }

-- the pair's low switch turns on, or has to wait until t and is asked for again
abbrev pub low_step : Option ℕ → Change → Gated → Bank → Acted Change
low_step None c g b = switches (next c change.Position) g b reg.GlSet (mask_of (low_of c.to)) More
low_step (Some t) c g b = waits c g t

-- the pair's high switch turns on, or has to wait until t and is asked for again
abbrev pub high_step : Option ℕ → Change → Gated → Bank → Acted Change
high_step None c g b = switches (next c change.Over) g b reg.GhSet (mask_of (high_of c.to)) Done
high_step (Some t) c g b = waits c g t

-- the duty is read: where the position is below it, the high switch is turned on next, else the program is done
abbrev pub duty_step : Bool → Change → Gated → Acted Change
duty_step true c g = goes (next c change.High) g (Reads reg.Duty)
duty_step false c g = ends (next c change.Over) g (Reads reg.Duty)

abbrev pub place_step : ChangeAt → Change → Gated → Bank → Acted Change
place_step change.ClearHigh c g b = switches (next c change.ClearLow) g b reg.GhClr (7 - mask_of (high_of c.to)) More
place_step change.ClearLow c g b = switches (next c change.SetSector) g b reg.GlClr (7 - mask_of (low_of c.to)) More
place_step change.SetSector c g b = goes (next c change.Low) g (Writes reg.Sector c.to)
place_step change.Low c g b = low_step (low_wait g b (low_of c.to)) c g b
place_step change.Position c g b = goes (next c (change.Duty (read_value b reg.PwmPos))) g (Reads reg.PwmPos)
place_step (change.Duty position) c g b = duty_step (nat_lt position b.duty) c g
place_step change.High c g b = high_step (high_wait g b (high_of c.to)) c g b
place_step change.Over c g b = ends (next c change.Over) g NoAccess

abbrev pub change_step : Change → Gated → Bank → Acted Change
change_step c g b = place_step c.at c g b

-- the accesses that are left at most
abbrev pub change_left : ChangeAt → ℕ
change_left change.ClearHigh = 7
change_left change.ClearLow = 6
change_left change.SetSector = 5
change_left change.Low = 4
change_left change.Position = 3
change_left (change.Duty position) = 2
change_left change.High = 1
change_left change.Over = 0

-- what a step at each place does to the switches: of the side that it clears only the pair's may stay on, the one that it turns on
-- is on if it may be, and the other side stays as it is
abbrev pub HasChanged : ChangeAt → ℕ → Gated → Bank → Bank → Type 0
HasChanged change.ClearHigh to g b b' = IsOnly b'.hi (high_of to) × (b'.lo ≡ b.lo)
HasChanged change.ClearLow to g b b' = IsOnly b'.lo (low_of to) × (b'.hi ≡ b.hi)
HasChanged change.Low to g b b' = (low_wait g b (low_of to) ≡ None → is_on b'.lo (low_of to) ≡ true) × (b'.hi ≡ b.hi)
HasChanged change.High to g b b' = (high_wait g b (high_of to) ≡ None → is_on b'.hi (high_of to) ≡ true) × (b'.lo ≡ b.lo)
HasChanged at to g b b' = (b'.hi ≡ b.hi) × (b'.lo ≡ b.lo)
