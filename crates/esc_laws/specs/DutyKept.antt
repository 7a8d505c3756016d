-- Shown of the laws, and no law.
-- What follows from `Chopped` for the motor: for how long the high switch of a period is on.
use Rattle.std.specs.Prelude.{◌≤◌, ◌+◌, ◌-◌, ◌*◌, ℕ, zero, suc, Bool, if◌then◌else◌, List}
use Rattle.esc_base.specs.declared.event.Event.{Event}
use Rattle.esc_base.specs.declared.gate.Leg.{Leg}
use Rattle.esc_base.specs.declared.note.Note.{Note}
use Rattle.esc_base.specs.Legs.{is_on}
use Rattle.esc_base.specs.Times.{pwm_period}
use Rattle.commutation.specs.Sectors.{high_of}
use Rattle.commutation.specs.Commutated.{sector_at}
use Rattle.gate_driver.specs.DeadSafe.{high_at}
use Rattle.esc_laws.specs.Chopped.{by_tick, Undisturbed, Chopped}

-- at how many of n ticks from t on it is so
unfoldable pub how_many : (ℕ → Bool) → ℕ → ℕ → ℕ
how_many is_so t zero = 0
how_many is_so t (suc n) = (if is_so t then 1 else 0) + how_many is_so (t + 1) n

-- for how many ticks of the period at p a leg's high switch is on
abbrev pub ticks_on : List Note → Leg → ℕ → ℕ
ticks_on notes x p = how_many (λ t. is_on (high_at (by_tick t notes)) x) p pwm_period

-- the high switch of a sector's pair is on for d ticks of the period, give or take 48 steps
pub record KeepsDuty (cost : ℕ) (notes : List Note) (p d sector : ℕ) : Type 0 where
  pub no_less : d ≤ ticks_on notes (high_of sector) p + 48 * cost
  pub no_more : ticks_on notes (high_of sector) p ≤ d + 48 * cost

-- It is so in each undisturbed period of a journal that goes as far. A demand is 1900 at most.
abbrev pub DutyIsKept : Type 0
DutyIsKept = (cost : ℕ) (trace : List Event) (until : ℕ) (notes : List Note) (p d : ℕ) → Chopped cost trace until notes → Undisturbed cost trace notes p d
    → d ≤ 1900 → p + pwm_period ≤ until → KeepsDuty cost notes p d (sector_at (by_tick (p - 1) notes))
