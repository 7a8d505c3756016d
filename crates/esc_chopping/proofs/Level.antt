-- The level half: from the small laws and an undisturbed period.
use Rattle.std.proofs.Common.{◌≡◌, ◌≤◌, ◌<◌, ◌+◌, ◌-◌, ◌*◌, inl, inr, ℕ, true, false, List, [], refl, sym, subst, arith}
use Rattle.esc_base.specs.Times.{chopping_steps, pwm_period}
use Rattle.esc_base.specs.declared.event.Event.{Event}
use Rattle.esc_laws.specs.Steps.{free, Turned, after}
use Rattle.esc_chopping.specs.View.{View, view}
use Rattle.esc_chopping.specs.Log.{at_tick}
use Rattle.esc_base.specs.Legs.{is_on}
use Rattle.commutation.specs.Sectors.{high_of, low_of}
use Rattle.esc_chopping.specs.Periods.{UndisturbedLog, LogFits, ChoppedLog}
use Rattle.esc_chopping.specs.Calm.{Calm}
use Rattle.esc_chopping.specs.Placed.{Placed}
use Rattle.esc_chopping.specs.Fresh.{IsEdge, Fresh, Early}
use Rattle.esc_chopping.proofs.Calm.{free_low}
use Rattle.esc_chopping.proofs.Pushes.{view-none}
use Rattle.esc_laws.proofs.Pushes.{after-none}
use Rattle.esc_chopping.proofs.Placed.{start_placed}
use Rattle.esc_chopping.proofs.High.{run}
use Rattle.esc_chopping.proofs.Low.{low_run}
use Rattle.esc_chopping.proofs.Settled.{Held, Static, carried, start_static, may_turn, low_off}

module _ (cost : ℕ) (trace : List Event) (log : List Turned) (m d s until : ℕ) (one : 1 ≤ cost) (few : cost ≤ 16) (legal : LogFits cost trace until log)
    (y : UndisturbedLog cost trace log m d s) where
  held : (v : ℕ) → pwm_period * m ≤ v + 1 → v < pwm_period * m + pwm_period → Held (pwm_period * m) s (at_tick v log)
  held v lo hi = let a = y.later in
      carried cost trace log (pwm_period * m) s v one (omega arith) y.some_sector lo hi y.sector y.high_free [] log refl legal.fits legal.pairs legal.times
      y.none_steps (λ w h. tt) tt
      (inl (tt, subst (λ (x : View). Static (pwm_period * m - 1) x) (sym view-none) (start_static (pwm_period * m - 1))))

  u : Calm cost trace log m d s
  u = record {
    drives = y.drives;
    duty = y.duty;
    later = y.later;
    demand = y.demand;
    stalls = y.stalls;
    sector = λ v lo hi. (held v lo hi).sector;
    none_enters = y.none_enters;
    allowed = λ v lo hi. let h = held v lo hi in let s0 = y.some_sector in let e =
        h.sector in may_turn (pwm_period * m) s (v + 1) (at_tick v log) y.some_sector (omega arith) h;
    low_free = λ v lo hi. (held v lo hi).low_free;
  }

  first_early : (edge : ℕ) → pwm_period * m ≤ edge → Early cost edge (after cost trace []) (view [])
  first_early edge le =
      let a = u.later in let c : free trace 0 ≤ pwm_period * m - chopping_steps * cost =
      free_low trace (pwm_period * m - chopping_steps * cost) (pwm_period * m + (pwm_period - 1)) 0 u.stalls (omega arith) (omega arith) in
      subst (λ (v : View). Early cost edge (after cost trace []) v) (sym view-none)
      (record { entered = omega arith; sampled = omega arith; soon = rw (after-none cost trace) (omega arith) })

  first_placed : Placed cost (after cost trace []) (view [])
  first_placed = subst (λ (v : View). Placed cost (after cost trace []) v) (sym view-none) (start_placed cost (after cost trace []))

  level : (t edge : ℕ) → IsEdge m d edge → pwm_period * m ≤ edge → t < pwm_period * m + pwm_period → t < until → edge + chopping_steps * cost ≤ t
      → Fresh edge m d s t (at_tick t log)
  level t edge is le inp below late =
      run cost trace log m d s until t edge one few u is inp below late [] log refl legal.fits legal.drives u.none_enters legal.all_made (λ w h. tt)
      first_placed tt (inl (first_early edge le))

  pub high_on : (t : ℕ) → t < until → pwm_period * m + chopping_steps * cost ≤ t → t ≤ pwm_period * m + d → is_on (at_tick t log).hi (high_of s) ≡ true
  high_on t below late le =
      let f = level t (pwm_period * m) (inl refl) (omega arith) (let a = u.duty in omega arith) below late in
      f.on (let a = f.past in omega arith)

  pub high_off : (t : ℕ) → t < until → pwm_period * m + d + chopping_steps * cost ≤ t → t < pwm_period * m + pwm_period
      → is_on (at_tick t log).hi (high_of s) ≡ false
  high_off t below late le =
      let f = level t (pwm_period * m + d) (inr refl) (omega arith) le below late in
      f.off f.wrote (high_of s)

  pub low_on : (t : ℕ) → t < until → pwm_period * m + chopping_steps * cost ≤ t → t < pwm_period * m + pwm_period → is_on (at_tick t log).lo (low_of s) ≡ true
  low_on t below late inp =
      let a = u.later in let c : free trace 0 ≤ pwm_period * m - chopping_steps * cost =
      free_low trace (pwm_period * m - chopping_steps * cost) (pwm_period * m + (pwm_period - 1)) 0 u.stalls (omega arith) (omega arith) in
      let x : after cost trace [] ≤ pwm_period * m - chopping_steps * cost = rw (after-none cost trace) c in
      low_run cost trace log m d s until t one few u inp below late [] log refl legal.fits legal.drives u.none_enters legal.all_made (λ w h. tt) first_placed tt
      (inl (record { c = 24; left = λ o. (omega arith, omega arith, omega arith); soon = omega arith }))

  other_low_off : (t : ℕ) → pwm_period * m + chopping_steps * cost ≤ t → t < pwm_period * m + pwm_period → is_on (at_tick t log).lo (high_of s) ≡ false
  other_low_off t late inp =
      let h = held t (omega arith) inp in
      subst (λ (z : ℕ). is_on (at_tick t log).lo (high_of z) ≡ false) h.sector (low_off (at_tick t log) h.pair)

  pub chopped : ChoppedLog cost until log m d s
  chopped = record { high_on = high_on; high_off = high_off; low_on = low_on; other_low_off = other_low_off }
