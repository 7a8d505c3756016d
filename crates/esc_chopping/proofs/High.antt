-- In an undisturbed period the newest write of PWM is of a position that was read since the edge, from 48 steps after it on.
use Rattle.std.proofs.Common.{◌≡◌, ◌≤◌, ◌<◌, ◌+◌, ◌-◌, ◌*◌, ◌⊎◌, inl, inr, ℕ, Bool, true, false, not, if◌then◌else◌, ◌==◌, List, [], ◌∷◌, ◌++◌, refl, sym, ◌∙◌, ap, subst, arith, append_assoc, append-nil}
use Rattle.std.proofs.lemmas.Nat.{mul-le}
use Rattle.std.proofs.lemmas.Bool.{cases_lt}
use Rattle.esc_base.specs.Times.{chopping_steps, most_duty, pwm_period}
use Rattle.esc_base.specs.declared.event.Event.{Event}
use Rattle.esc_laws.specs.Steps.{free, Turned, after, EachStep}
use Rattle.esc_chopping.specs.View.{By, View, view, moved_by, by_of, pwm_called, wait_next, is_comm}
use Rattle.esc_chopping.specs.View.By.{CommEnters, CommSteps, PwmEnters, PwmSteps, Lower}
use Rattle.esc_chopping.specs.Log.{steps_by, at_tick, NonePassed}
use Rattle.esc_chopping.specs.Laws.{StepMade, DriveFits, may_chop}
use Rattle.esc_chopping.specs.Periods.{NoComm}
use Rattle.esc_chopping.specs.Calm.{Calm}
use Rattle.esc_chopping.specs.Placed.{Placed}
use Rattle.esc_chopping.specs.Fresh.{IsEdge, Stale, Early, Fresh}
use Rattle.esc_chopping.proofs.Calm.{free_same, free_low}
use Rattle.esc_chopping.proofs.Pushes.{view-push, AllBy, FirstAbove, made-split, by-push}
use Rattle.esc_laws.proofs.Pushes.{after-push}
use Rattle.esc_chopping.proofs.Placed.{Same, next_same, next_placed}
use Rattle.esc_chopping.proofs.Fresh.{Within, left_some, not_resting, fresh_on, stale_on, early_stale}
use Rattle.esc_laws.proofs.Stalls.{free_later}

-- all steps stand below the next one
abbrev pub Past : ℕ → List Event → List Turned → Type 0
Past cost trace before = (w : ℕ) → after cost trace before ≤ w + 1 → AllBy w before

pub past_on : (cost : ℕ) (trace : List Event) (before : List Turned) (e : Turned) → 1 ≤ cost → after cost trace before ≤ e.tick → Past cost trace before
    → Past cost trace (before ++ e ∷ [])
past_on cost trace before e one le p w h =
    let g : free trace (e.tick + cost) ≤ w + 1 = rw (← after-push cost trace before e) h in
    let l = free_later trace (e.tick + cost) in
    by-push w before e (p w (omega arith)) (omega arith)

-- the view at a tick between two steps
pub at_split : (t : ℕ) (log before rest : List Turned) → log ≡ before ++ rest → AllBy t before → FirstAbove t rest → at_tick t log ≡ view before
at_split t log before rest e b f = ap (λ (l : List Turned). view (steps_by t l)) e ∙ ap view (made-split t before rest b f)

pub first_above : (cost : ℕ) (trace : List Event) (before rest : List Turned) (t : ℕ) → t < after cost trace before
    → EachStep (StepMade cost trace) before rest → FirstAbove t rest
first_above cost trace before [] t l f = tt
first_above cost trace before (e ∷ rest) t l f = let a = f.0.later in omega arith

pub split_on : (log before rest : List Turned) (e : Turned) → log ≡ before ++ (e ∷ rest) → log ≡ (before ++ e ∷ []) ++ rest
split_on log before rest e h = h ∙ sym (append_assoc before (e ∷ []) rest)

-- the view after a step
pub same_after : (before : List Turned) (e : Turned) → Same (moved_by (view before) (by_of e) e.tick) (view (before ++ e ∷ []))
same_after before e = subst (λ (w : View). Same (moved_by (view before) (by_of e) e.tick) w) (sym (view-push before e)) (next_same (view before) e)

pub waits_after : (before : List Turned) (e : Turned)
    → (view (before ++ e ∷ [])).pwm_waits ≡ wait_next (pwm_called (view before) e.tick) (pwm_called (view (before
    ++ e ∷ [])) e.tick) (not (is_comm (by_of e))) (view before).pwm_waits
waits_after before e = subst (λ (w : View). w.pwm_waits ≡ wait_next (pwm_called (view before) e.tick) (pwm_called w e.tick) (not (is_comm (by_of e)))
    (view before).pwm_waits) (sym (view-push before e)) refl

pub placed_on : (cost : ℕ) (trace : List Event) (before : List Turned) (e : Turned) → StepMade cost trace before e
    → Placed cost (after cost trace before) (view before) → Placed cost (after cost trace (before ++ e ∷ [])) (view (before ++ e ∷ []))
placed_on cost trace before e f p =
    let l = free_later trace (e.tick + cost) in
    let x : after cost trace (before ++ e ∷ []) ≡ free trace (e.tick + cost) = after-push cost trace before e in
    subst (λ (w : View). Placed cost (after cost trace (before ++ e ∷ [])) w) (sym (view-push before e))
    (next_placed cost (after cost trace before) (after cost trace (before ++ e ∷ [])) (view before) e f.later (omega arith) f.turn
    (subst (λ (w : View). w.pwm_waits ≤ 8) (view-push before e) f.pwm_patient) (subst (λ (w : View). w.comm_waits ≤ 8) (view-push before e) f.comm_patient) p)

-- before the edge
moved_early : (v : View) (t edge : ℕ) (by : By) → v.entered < edge → v.sampled < edge → t < edge → ((moved_by v by t).entered < edge)
    × ((moved_by v by t).sampled < edge)
moved_early v t edge CommEnters a b c = (a, b)
moved_early v t edge (CommSteps l) a b c = (a, b)
moved_early v t edge PwmEnters a b c = (c, b)
moved_early v t edge (PwmSteps l) a b c = (a, test (v.pwm_own == 1))
  where
    test : (f : Bool) → (if f then t else v.sampled) < edge
    test true = c
    test false = b
moved_early v t edge Lower a b c = (a, b)

module _ (cost : ℕ) (trace : List Event) (log : List Turned) (m d s until t edge : ℕ) (one : 1 ≤ cost) (few : cost ≤ 16) (u : Calm cost trace log m d s)
    (is : IsEdge m d edge) (in_period : t < pwm_period * m + pwm_period) (below : t < until) (late : edge + chopping_steps * cost ≤ t) where
  edge_in : IsEdge m d edge → (pwm_period * m ≤ edge) × (edge ≤ pwm_period * m + d)
  edge_in (inl e) = (omega arith, omega arith)
  edge_in (inr e) = (omega arith, omega arith)

  free_in : (y : ℕ) → pwm_period * m ≤ y → y < pwm_period * m + pwm_period → free trace y ≡ y
  free_in y a b = free_same trace (pwm_period * m - chopping_steps * cost) (pwm_period * m + (pwm_period - 1)) y u.stalls (omega arith) (omega arith)

  -- the tick of the next step, as far as the period reaches
  pub record Clock (before : List Turned) (x : ℕ) : Type 0 where
    pub le : x ≤ after cost trace before
    pub same : x < pwm_period * m + pwm_period → after cost trace before ≡ x

  pub record IsStale (before : List Turned) : Type 0 where
    pub x : ℕ
    pub clock : Clock before x
    pub stale : Stale cost edge x (view before)

  pub record Written (before : List Turned) : Type 0 where
    pub fresh : Fresh edge m d s t (view before)

  abbrev pub State : List Turned → Type 0
  State before = Early cost edge (after cost trace before) (view before) ⊎ ((edge ≤ after cost trace before) × (IsStale before ⊎ Written before))

  early_is : (before : List Turned) → Placed cost (after cost trace before) (view before) → Early cost edge (after cost trace before) (view before)
      → IsStale before
  early_is before p e = record {
    x = after cost trace before;
    clock = record { le = omega arith; same = λ l. refl };
    stale =
        early_stale cost edge (after cost trace before) (view before) one p e;
  }

  -- while it isn't written no tick is passed over
  not_passed : (before : List Turned) (z y : ℕ) → NonePassed cost trace before z → (view before).demand ≡ d → (i : IsStale before) → i.x ≤ y → edge ≤ y
      → y < z → y < pwm_period * m + pwm_period → ⊥
  not_passed before z y none dem i a b c f =
      let p = edge_in is in
      let same : after cost trace before ≡ i.x = i.clock.same (omega arith) in
      not_resting cost m d edge i.x y (view before) u.drives u.duty is dem i.stale b (none y (omega arith) c (free_in y (let q = p.0 in omega arith) f))

  -- so it is written by t
  stale_ends : (before : List Turned) (z : ℕ) → NonePassed cost trace before z → (view before).demand ≡ d
      → Placed cost (after cost trace before) (view before) → t < z → IsStale before → ⊥
  stale_ends before z none dem p l i =
      let n : 1 ≤ i.stale.c + i.stale.k = left_some cost edge i.x (after cost trace before) (view before) p i.stale in
      let g : 1 * cost ≤ (i.stale.c + i.stale.k) * cost = mul-le 1 cost (i.stale.c + i.stale.k) cost n (omega arith) in
      let b : i.x + (i.stale.c + i.stale.k) * cost < edge + 49 * cost = i.stale.by_next in
      elim (cases_lt i.x edge) [
        | inl lt ↦ not_passed before z edge none dem i (omega arith) (omega arith) (omega arith) (omega arith)
        | inr ge ↦ not_passed before z i.x none dem i (omega arith) ge (omega (arith, g)) (omega (arith, g))
      ]

  -- and each step stands at the next tick, or at the edge
  at_next : (before : List Turned) (z : ℕ) → NonePassed cost trace before z → (view before).demand ≡ d → (i : IsStale before) → z ≤ t → (z ≤ i.x) ⊎ (z ≤ edge)
  at_next before z none dem i le = elim (cases_lt i.x z) [
    | inr a ↦ inl a
    | inl a ↦ elim (cases_lt edge z) [
      | inr b ↦ inr b
      | inl b ↦ absurd (elim (cases_lt i.x edge) [
        | inl c ↦ not_passed before z edge none dem i (omega arith) (omega arith) b (omega arith)
        | inr c ↦ not_passed before z i.x none dem i (omega arith) c a (omega arith)
      ])
    ]
  ]

  -- ---- what the period says at a step

  demand_at : (w : ℕ) (before rest : List Turned) → log ≡ before ++ rest → AllBy w before → FirstAbove w rest → pwm_period * m ≤ w + chopping_steps * cost
      → w < pwm_period * m + pwm_period
      → (view before).demand ≡ d
  demand_at w before rest e b f lo hi = subst (λ (v : View). v.demand ≡ d) (at_split w log before rest e b f) (u.demand w lo hi)

  within : (before rest : List Turned) (e : Turned) → log ≡ before ++ (e ∷ rest) → EachStep (StepMade cost trace) before (e ∷ rest) → DriveFits before e
      → NoComm (pwm_period * m) before e → Past cost trace before → edge ≤ e.tick → e.tick ≤ t
      → Within cost (after cost trace before) (e.tick + cost) m d s t (view before) (by_of e) e.tick (view (before ++ e ∷ []))
  within before rest e h f g none past ge le =
      let q = edge_in is in
      let front : pwm_period * m ≤ e.tick = (let a = q.0 in omega arith) in
      let later = f.0.later in
      let w : ℕ = e.tick - 1 in
      let up : w + 1 ≡ e.tick = (let a = u.later in omega arith) in
      let all : AllBy w before = past w (omega arith) in
      let above : FirstAbove w (e ∷ rest) = omega arith in
      let dem : (view before).demand ≡ d = demand_at w before (e ∷ rest) h all above (omega arith) (omega arith) in
      let one_more = split_on log before rest e h in
      let later' : e.tick < after cost trace (before ++ e ∷ []) = (let a =
      free_later trace (e.tick + cost) in rw (after-push cost trace before e) (omega arith)) in
      let some : 0 < (view before).demand = (let a = u.drives in omega arith) in
      record {
        next = refl;
        later = later;
        by_t = le;
        in_period = in_period;
        demand = dem;
        demand_after = demand_at e.tick (before ++ e ∷ []) rest one_more (by-push e.tick before e (past e.tick (omega arith)) (omega arith))
            (first_above cost trace (before ++ e ∷ []) rest e.tick later' f.1) (omega arith) (omega arith);
        sector = subst (λ (v : View). v.sector ≡ s) (at_split w log before (e ∷ rest) h all above) (u.sector w (omega arith) (omega arith));
        allowed = subst (λ (x : ℕ). may_chop (view before) x ≡ true) up
            (subst (λ (v : View). may_chop v (w + 1) ≡ true) (at_split w log before (e ∷ rest) h all above) (u.allowed w (omega arith) (omega arith)));
        none_enters = none front (omega arith);
        turn = f.0.turn;
        same = same_after before e;
        waits = waits_after before e;
        patient = f.0.pwm_patient;
        quiet = g.quiet_high some;
        chops = g.chops;
      }

  -- a step before the edge
  early_on : (before : List Turned) (e : Turned) → after cost trace before ≤ e.tick → e.tick < edge → Early cost edge (after cost trace before) (view before)
      → Early cost edge (after cost trace (before ++ e ∷ [])) (view (before ++ e ∷ []))
  early_on before e later lt y =
      let same = same_after before e in
      let mv = moved_early (view before) e.tick edge (by_of e) y.entered y.sampled lt in
      let q = edge_in is in
      record {
        entered = rw (same.entered) mv.0;
        sampled = rw (same.sampled) mv.1;
        soon = rw (after-push cost trace before e) (elim (cases_lt (e.tick + cost) (pwm_period * m - chopping_steps * cost)) [
          | inl l ↦ (let a : free trace (e.tick + cost) ≤ pwm_period * m - chopping_steps * cost =
              free_low trace (pwm_period * m - chopping_steps * cost) (pwm_period * m + (pwm_period - 1)) (e.tick + cost) u.stalls (omega arith) (omega arith)
              in let b = q.0 in omega arith)
          | inr g ↦ (let b : edge ≤ pwm_period * m + d = q.1 in let c : d ≤ most_duty = u.duty in let a : free trace (e.tick + cost) ≡ e.tick + cost =
              free_same trace (pwm_period * m - chopping_steps * cost) (pwm_period * m + (pwm_period - 1)) (e.tick + cost) u.stalls g (omega arith) in omega
              arith)
        ]);
      }

  -- after a step within the period
  clock_on : (before : List Turned) (e : Turned) → edge ≤ e.tick → Clock (before ++ e ∷ []) (e.tick + cost)
  clock_on before e ge =
      let q = edge_in is in
      let a : pwm_period * m ≤ edge = q.0 in
      record {
        le = rw (after-push cost trace before e) (free_later trace (e.tick + cost));
        same = λ l. rw (after-push cost trace before e) (free_in (e.tick + cost) (omega arith) l);
      }

  stale_step : (before rest : List Turned) (e : Turned) → log ≡ before ++ (e ∷ rest) → EachStep (StepMade cost trace) before (e ∷ rest) → DriveFits before e
      → NoComm (pwm_period * m) before e → Past cost trace before
      → Placed cost (after cost trace before) (view before) → edge ≤ e.tick → e.tick ≤ t → IsStale before → IsStale (before ++ e ∷ [])
      ⊎ Written (before ++ e ∷ [])
  stale_step before rest e h f g none past p ge le i =
      let q = edge_in is in
      let a : pwm_period * m ≤ edge = q.0 in
      let w = within before rest e h f g none past ge le in
      let later : after cost trace before ≤ e.tick = f.0.later in
      let lex = i.clock.le in
      let same : after cost trace before ≡ i.x = i.clock.same (omega arith) in
      let st : Stale cost edge (after cost trace before) (view before) = subst (λ (x : ℕ). Stale cost edge x (view before)) (sym same) i.stale in
      let at : (e.tick ≤ after cost trace before) ⊎ (e.tick ≤ edge) = subst (λ (x : ℕ). (e.tick ≤ x) ⊎ (e.tick ≤ edge)) (sym same)
      (at_next before e.tick f.0.none_passed w.demand i le) in
      elim (stale_on cost (after cost trace before) (e.tick + cost) m d s t edge e.tick (view before) (view (before
      ++ e ∷ [])) (by_of e) u.drives u.duty is one ge at p w st) [
        | inl b ↦ inl (record { x = e.tick + cost; clock = clock_on before e ge; stale = b })
        | inr b ↦ inr (record { fresh = b })
      ]

  pub run : (before rest : List Turned) → log ≡ before ++ rest → EachStep (StepMade cost trace) before rest → EachStep DriveFits before rest
      → EachStep (NoComm (pwm_period * m)) before rest → NonePassed cost trace log until → Past cost trace before
      → Placed cost (after cost trace before) (view before) → AllBy t before → State before → Fresh edge m d s t (at_tick t log)
  run before [] h f g none all_made past p all st = subst (λ (v : View). Fresh edge m d s t v) (sym (at_split t log before [] h all tt)) (ends st)
    where
      whole : log ≡ before
      whole = h ∙ append-nil before

      dem : (view before).demand ≡ d
      dem = let q = edge_in is in let a : pwm_period * m ≤ edge = q.0 in demand_at t before [] h all tt (omega arith) in_period

      ends : State before → Fresh edge m d s t (view before)
      ends (inl y) =
          absurd (stale_ends before until (subst (λ (l : List Turned). NonePassed cost trace l until) whole all_made) dem p below (early_is before p y))
      ends (inr (a, inl y)) = absurd (stale_ends before until (subst (λ (l : List Turned). NonePassed cost trace l until) whole all_made) dem p below y)
      ends (inr (a, inr y)) = y.fresh
  run before (e ∷ rest) h f g none all_made past p all st = elim (cases_lt t e.tick) [
    | inl lt ↦ subst (λ (v : View). Fresh edge m d s t v) (sym (at_split t log before (e ∷ rest) h all lt)) (ends lt st)
    | inr le ↦ run (before ++ e ∷ []) rest (split_on log before rest e h) f.1 g.1 none.1 all_made (past_on cost trace before e one f.0.later past)
        (placed_on cost trace before e f.0 p) (by-push t before e all le) (goes le st)
  ]
    where
      dem : t < e.tick → (view before).demand ≡ d
      dem lt = let q = edge_in is in let a : pwm_period * m ≤ edge = q.0 in demand_at t before (e ∷ rest) h all lt (omega arith) in_period

      ends : t < e.tick → State before → Fresh edge m d s t (view before)
      ends lt (inl y) = absurd (stale_ends before e.tick f.0.none_passed (dem lt) p lt (early_is before p y))
      ends lt (inr (a, inl y)) = absurd (stale_ends before e.tick f.0.none_passed (dem lt) p lt y)
      ends lt (inr (a, inr y)) = y.fresh

      above : edge ≤ e.tick → edge ≤ after cost trace (before ++ e ∷ [])
      above ge = let l = free_later trace (e.tick + cost) in rw (after-push cost trace before e) (omega arith)

      goes : e.tick ≤ t → State before → State (before ++ e ∷ [])
      goes le (inl y) = elim (cases_lt e.tick edge) [
        | inl l ↦ inl (early_on before e f.0.later l y)
        | inr ge ↦ inr (above ge, stale_step before rest e h f g.0 none.0 past p ge le (early_is before p y))
      ]
      goes le (inr (a, inl y)) =
          let l : after cost trace before ≤ e.tick = f.0.later in
          let ge : edge ≤ e.tick = omega arith in
          inr (above ge, stale_step before rest e h f g.0 none.0 past p ge le y)
      goes le (inr (a, inr y)) =
          let l : after cost trace before ≤ e.tick = f.0.later in
          let ge : edge ≤ e.tick = omega arith in
          let w = within before rest e h f g.0 none.0 past ge le in
          inr (
            above ge,
            inr (record {
              fresh = fresh_on cost (after cost trace before) (e.tick + cost) m d s t edge e.tick (view before)
                  (view (before ++ e ∷ [])) (by_of e) is one p w y.fresh;
            }),
          )
