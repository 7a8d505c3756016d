-- How many machine steps may pass until PWM has written a position that it read at or after an edge of the period.
use Rattle.std.specs.Prelude.{◌≡◌, ◌≤◌, ◌<◌, ◌+◌, ◌*◌, ◌⊎◌, ℕ, true, false}
use Rattle.esc_base.specs.Times.{pwm_period}
use Rattle.esc_base.specs.declared.gate.Leg.{Leg}
use Rattle.esc_base.specs.Legs.{is_on}
use Rattle.commutation.specs.Sectors.{high_of}
use Rattle.esc_chopping.specs.View.{View}

-- the two edges of the period at 2000 m
abbrev pub IsEdge : ℕ → ℕ → ℕ → Type 0
IsEdge m d edge = (edge ≡ pwm_period * m) ⊎ (edge ≡ pwm_period * m + d)

-- at most c own steps of COMM and k other steps are left until then
pub record IsLeft (edge : ℕ) (v : View) (c k : ℕ) : Type 0 where
  pub comm : v.comm ≡ true → 24 ≤ v.comm_own + c
  -- PWM isn't open: at most 8 counted steps, the entry, and five steps
  pub shut : v.pwm ≡ false → 14 ≤ v.pwm_waits + k
  -- it hasn't read
  pub early : v.pwm ≡ true → v.pwm_own ≤ 1 → 5 ≤ v.pwm_own + k
  -- it has read since the edge
  pub good : v.pwm ≡ true → 2 ≤ v.pwm_own → v.pwm_own ≤ 4 → edge ≤ v.sampled → 5 ≤ v.pwm_own + k
  -- it has read before: it returns, and goes through the first case
  pub old : v.pwm ≡ true → 2 ≤ v.pwm_own → v.sampled < edge → 26 ≤ v.pwm_own + k

-- no position from the edge on has been written yet; but the step that writes one will stand before edge + 48 cost
pub record Stale (cost edge x : ℕ) (v : View) : Type 0 where
  pub c : ℕ
  pub k : ℕ
  pub left : IsLeft edge v c k
  pub wrote : v.wrote < edge
  pub entered : v.pwm ≡ false → v.entered < edge
  pub by_next : x + (c + k) * cost < edge + 49 * cost
  pub by_edge : (c + k) * cost < 49 * cost

-- all steps so far stand before the edge
pub record Early (cost edge x : ℕ) (v : View) : Type 0 where
  pub entered : v.entered < edge
  pub sampled : v.sampled < edge
  pub soon : x < edge + cost

-- the newest write is of a position that was read since the edge, and the high switch is as that asks
pub record Fresh (edge m d s t : ℕ) (v : View) : Type 0 where
  pub comm : v.comm ≡ false
  pub wrote : edge ≤ v.wrote
  pub past : v.wrote < t
  pub on : v.wrote < pwm_period * m + d → is_on v.hi (high_of s) ≡ true
  pub off : pwm_period * m + d ≤ v.wrote → (x : Leg) → is_on v.hi x ≡ false
