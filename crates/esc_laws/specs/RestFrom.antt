-- From which tick on the line has rested, and for which one the window timer is armed.
use Rattle.std.specs.Prelude.{◌≡◌, ◌≤◌, ◌+◌, ℕ, List, Option, Some, All}
use Rattle.esc_base.specs.declared.signal.Edge.{Edge}
use Rattle.esc_base.specs.Times.{rest}
use Rattle.esc_laws.specs.Rested.{IsRested, first_rested}

-- The window timer is armed for a rested tick from this one on, and for none later than the first one from a later tick than all
-- that CAP did by then.
pub record IsSet (edges : List Edge) (from since : ℕ) (timer : Option ℕ) : Type 0 where
  pub at : ℕ
  pub armed : timer ≡ Some at
  pub late : from ≤ at
  pub rested : IsRested edges at
  pub soon : (t : ℕ) → from ≤ t → since ≤ t → at ≤ first_rested edges t

-- the line has rested from this tick on since its newest change, and from no earlier one
pub record IsRestFrom (edges : List Edge) (from : ℕ) : Type 0 where
  pub over : All (λ e. e.t.0 + rest ≤ from) edges
  pub first : (t : ℕ) → All (λ e. e.t.0 + rest ≤ t) edges → from ≤ t
