-- The three legs of the bridge in a word of switches.
use Rattle.std.specs.Prelude.{◌≡◌, ℕ, Bool, true, false, not, ◌==◌, bit_and}
use Rattle.esc_base.specs.declared.gate.Leg.{Leg}
use Rattle.esc_base.specs.declared.gate.Leg.TheVariants as leg

-- a leg's bit
abbrev pub mask_of : Leg → ℕ
mask_of leg.A = 1
mask_of leg.B = 2
mask_of leg.C = 4

-- the leg's switch is on
abbrev pub is_on : ℕ → Leg → Bool
is_on word x = not (bit_and word (mask_of x) == 0)

-- no leg has both switches on
abbrev pub IsApart : ℕ → ℕ → Type 0
IsApart hi lo = (x : Leg) → is_on hi x ≡ true → is_on lo x ≡ false

-- no switch of the word is on but this leg's
abbrev pub IsOnly : ℕ → Leg → Type 0
IsOnly word leg = (x : Leg) → is_on word x ≡ true → leg ≡ x
