-- What ties the period register to the sector changes that the notes say, by where COMM and TICK stand. Each fact holds between
-- any two steps, whatever is open.
use Rattle.std.specs.Prelude.{◌≡◌, ◌<◌, ◌⊎◌, ℕ, Bool, true, false, if◌then◌else◌, List, [], ◌∷◌, take}
use Rattle.commutation.specs.Turns.{six_of}
use Rattle.gate_driver.specs.declared.to_sector.ChangeAt.{ChangeAt}
use Rattle.esc_core.specs.declared.state.CommAt.{CommAt}
use Rattle.esc_core.specs.declared.state.CommAt.TheVariants as comm
use Rattle.esc_rooms.specs.DriveTied.{turn_ends}

-- COMM has changed the sector, and hasn't written the period yet
abbrev pub sums_gaps : CommAt → ChangeAt → Bool
sums_gaps comm.Turn at = turn_ends at
sums_gaps comm.Blank at = true
sums_gaps comm.Period at = true
sums_gaps place at = false

-- each tick is later than the next one
abbrev pub Falls : List ℕ → Type 0
Falls [] = Unit {0}
Falls (q ∷ []) = Unit {0}
Falls (q ∷ (p ∷ turns)) = (p < q) × Falls (p ∷ turns)

-- By what the core keeps of the sector changes, whether COMM is about to write the period, whether TICK is ending the drive, the
-- registers, and what the notes say: the sector changes since the start of the drive, and whether there is none.
pub record PeriodTied (kept : List ℕ) (summing ending : Bool) (period sector : ℕ) (told : List ℕ) (rests : Bool) : Type 0 where
  pub kept_are : kept ≡ take 7 told
  pub falls : Falls told
  pub some : (told ≡ []) ⊎ (0 < sector)
  pub period_is : summing ≡ false → ending ≡ false → period ≡ (if rests then 0 else six_of told)
