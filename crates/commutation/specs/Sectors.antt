-- The six sectors: the legs that each drives, and their order.
use Rattle.std.specs.Prelude.{◌≡◌, ◌⊎◌, ℕ, ◌+◌, ◌-◌, Bool, ◌==◌, if◌then◌else◌}
use Rattle.esc_base.specs.declared.gate.Leg.{Leg}
use Rattle.esc_base.specs.declared.gate.Leg.TheVariants as leg

-- the leg whose high switch a sector drives, and the one whose low switch it drives: 1 AB, 2 CB, 3 CA, 4 BA, 5 BC, 6 AC
abbrev pub high_of : ℕ → Leg
high_of s = if s == 1 then leg.A else if s == 6 then leg.A else if s == 4 then leg.B else if s == 5 then leg.B else leg.C

abbrev pub low_of : ℕ → Leg
low_of s = if s == 3 then leg.A else if s == 4 then leg.A else if s == 1 then leg.B else if s == 2 then leg.B else leg.C

-- the sector after this one; the first of all, after 0, is 1
abbrev pub next_sector : ℕ → Bool → ℕ
next_sector s forward = if s == 0 then 1 else if forward then (if s == 6 then 1 else s + 1) else (if s == 1 then 6 else s - 1)

-- from one sector to another one switch of the pair stays on, and no leg changes over from its high to its low switch or back
abbrev pub KeepsALeg : ℕ → ℕ → Type 0
KeepsALeg s to = ((high_of to ≡ high_of s) ⊎ (low_of to ≡ low_of s)) × ((high_of s ≡ low_of to → ⊥) × (low_of s ≡ high_of to → ⊥))
