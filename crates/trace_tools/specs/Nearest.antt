-- Rounding to the nearest whole number.
use Rattle.std.specs.Prelude.{ℕ, ◌+◌, ◌*◌, ◌≤◌, ◌<◌}

-- t is the whole number nearest to n / d, the greater one where two are as near
pub record IsNearest (t n d : ℕ) : Type 0 where
  pub not_above : 2 * d * t ≤ 2 * n + d
  pub not_below : 2 * n + d < 2 * d * (t + 1)
