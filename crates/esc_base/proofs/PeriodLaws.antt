-- The count of edges goes up by one at each edge and nowhere else.
use Rattle.std.proofs.Common.{◌≡◌, ◌<◌, ◌+◌, ◌-◌, ◌%◌, ℕ, Bool, true, false, ◌||◌, ◌==◌, if◌then◌else◌, refl, arith}
use Rattle.std.proofs.lemmas.Bool.Decides.{nat_tests}
use Rattle.esc_base.specs.Periods.{edges, CountsEdges}
use Rattle.esc_base.specs.Times.{pwm_period}

counted_at : (duty t : ℕ) (starts ends : Bool) → (t % pwm_period == 0) ≡ starts → (t % pwm_period == duty) ≡ ends
    → 0 < duty → duty < pwm_period → 0 < t → edges duty t ≡ edges duty (t - 1) + (if starts || ends then 1 else 0)
counted_at duty t true ends e f some small later = grind (arith, nat_tests)
counted_at duty t false true e f some small later = grind (arith, nat_tests)
counted_at duty t false false e f some small later = grind (arith, nat_tests)

pub edges-counted : CountsEdges
edges-counted duty t some small later = counted_at duty t (t % pwm_period == 0) (t % pwm_period == duty) refl refl some small later
