-- In an undisturbed period the low switch is on from 48 steps after its start on.
use Rattle.std.proofs.Common.{◌≡◌, ◌≤◌, ◌<◌, ◌+◌, ◌-◌, ◌*◌, ◌⊎◌, inl, inr, ℕ, Bool, true, false, List, [], ◌∷◌, ◌++◌, refl, sym, ◌∙◌, subst, arith, append-nil}
use Rattle.std.proofs.lemmas.Nat.{mul-le}
use Rattle.std.proofs.lemmas.Bool.{cases_lt}
use Rattle.esc_base.specs.Times.{chopping_steps, pwm_period, dead_time}
use Rattle.esc_base.specs.Legs.{is_on}
use Rattle.commutation.specs.Sectors.{low_of}
use Rattle.esc_base.specs.declared.event.Event.{Event}
use Rattle.esc_laws.specs.Steps.{free, Turned, after, EachStep}
use Rattle.esc_chopping.specs.View.{By, View, view, moved_by, by_of, comm_called, wait_next}
use Rattle.gate_driver.specs.Gated.{at_leg}
use Rattle.esc_chopping.specs.View.By.{CommEnters, CommSteps, PwmEnters, PwmSteps, Lower}
use Rattle.esc_chopping.specs.Log.{at_tick, NonePassed}
use Rattle.esc_chopping.specs.Laws.{IsTurn, StepMade, DriveFits, is_comm_step}
use Rattle.esc_chopping.specs.Periods.{NoComm}
use Rattle.esc_chopping.specs.Calm.{Calm}
use Rattle.esc_chopping.specs.Placed.{Placed}
use Rattle.esc_chopping.proofs.Calm.{free_same, free_low}
use Rattle.esc_chopping.proofs.Pushes.{view-push, AllBy, FirstAbove, by-push}
use Rattle.esc_laws.proofs.Pushes.{after-push}
use Rattle.esc_chopping.proofs.High.{Past, past_on, at_split, first_above, split_on, same_after, placed_on}
use Rattle.std.proofs.lemmas.Bool.{le-leb, lt-ltb}
use Rattle.esc_chopping.proofs.Fresh.{less}
use Rattle.esc_laws.proofs.Stalls.{free_later}

-- an off low switch calls COMM
low_calls : (d s f t : ℕ) (v : View) → 0 < d → v.demand ≡ d → v.sector ≡ s → is_on v.lo (low_of s) ≡ false → at_leg v.hi_free (low_of s) ≤ f → f ≤ t
    → v.comm ≡ false → comm_called v t ≡ true
low_calls d s f t v some e h off free le shut =
    rw (lt-ltb 0 v.demand (omega arith), h, off, le-leb (at_leg v.hi_free (low_of s)) t (omega arith), shut) refl

both_called : (b a : Bool) (w : ℕ) → b ≡ true → a ≡ true → wait_next b a true w ≡ w + 1
both_called b a w e f = rw (e, f) refl

waits_after : (before : List Turned) (e : Turned) → (view (before ++ e ∷ [])).comm_waits ≡ wait_next (comm_called (view before) e.tick)
    (comm_called (view (before ++ e ∷ [])) e.tick) true (view before).comm_waits
waits_after before e = subst (λ (w : View). w.comm_waits ≡ wait_next (comm_called (view before) e.tick) (comm_called w e.tick) true (view before).comm_waits)
    (sym (view-push before e)) refl

-- what a step leaves of COMM where it isn't its entry
record CommLeft (v w : View) : Type 0 where
  shut : v.comm ≡ false → w.comm ≡ false
  more : v.comm ≡ true → (w.comm_own ≡ v.comm_own + 1) × (v.comm_own + 1 ≤ 24)

moved_comm : (v : View) (t : ℕ) (by : By) → IsTurn v by → (by ≡ CommEnters → ⊥) → CommLeft v (moved_by v by t)
moved_comm v t CommEnters turn none = absurd (none refl)
moved_comm v t (CommSteps l) turn none = record { shut = λ e. absurd (let o = turn.is_open in cc); more = λ e. (refl, turn.few) }
moved_comm v t PwmEnters turn none = record { shut = λ e. e; more = λ e. absurd (let o = turn.comm in cc) }
moved_comm v t (PwmSteps l) turn none = record { shut = λ e. e; more = λ e. absurd (let o = turn.comm in cc) }
moved_comm v t Lower turn none = record { shut = λ e. e; more = λ e. absurd (let o = turn.comm in cc) }

not_comm : (v : View) (by : By) → IsTurn v by → v.comm ≡ false → is_comm_step by ≡ false
not_comm v CommEnters turn e = refl
not_comm v (CommSteps l) turn e = absurd (let o = turn.is_open in cc)
not_comm v PwmEnters turn e = refl
not_comm v (PwmSteps l) turn e = refl
not_comm v Lower turn e = refl

module _ (cost : ℕ) (trace : List Event) (log : List Turned) (m d s until t : ℕ) (one : 1 ≤ cost) (few : cost ≤ 16) (u : Calm cost trace log m d s)
    (in_period : t < pwm_period * m + pwm_period) (below : t < until) (late : pwm_period * m + chopping_steps * cost ≤ t) where
  free_in : (y : ℕ) → pwm_period * m ≤ y → y < pwm_period * m + pwm_period → free trace y ≡ y
  free_in y a b = free_same trace (pwm_period * m - chopping_steps * cost) (pwm_period * m + (pwm_period - 1)) y u.stalls (omega arith) (omega arith)

  -- an open COMM returns within 24 steps
  pub record Before (before : List Turned) : Type 0 where
    pub c : ℕ
    pub left : (view before).comm ≡ true → (24 ≤ (view before).comm_own + c) × (after cost trace before + c * cost < pwm_period * m + 25 * cost)
        × (c * cost < 25 * cost)
    pub soon : after cost trace before < pwm_period * m + (chopping_steps - 8) * cost

  -- the low switch is off, and calls COMM
  pub record Waiting (before : List Turned) : Type 0 where
    pub x : ℕ
    pub le : x ≤ after cost trace before
    pub same : x < pwm_period * m + pwm_period → after cost trace before ≡ x
    pub r : ℕ
    pub counts : 9 ≤ (view before).comm_waits + r
    pub by_next : x + r * cost < pwm_period * m + (chopping_steps + 1) * cost
    pub by_start : r * cost < 10 * cost
    pub off : is_on (view before).lo (low_of s) ≡ false
    pub shut : (view before).comm ≡ false

  pub record Done (before : List Turned) : Type 0 where
    pub on : is_on (view before).lo (low_of s) ≡ true
    pub shut : (view before).comm ≡ false

  -- what the period says before a step, or at t
  record Inside (w : ℕ) (before : List Turned) : Type 0 where
    pub demand : (view before).demand ≡ d
    pub sector : (view before).sector ≡ s
    pub low_free : at_leg (view before).hi_free (low_of s) ≤ pwm_period * m + (dead_time - 9)

  inside : (w : ℕ) (before rest : List Turned) → log ≡ before ++ rest → AllBy w before → FirstAbove w rest → pwm_period * m ≤ w + 1
      → w < pwm_period * m + pwm_period
      → Inside w before
  inside w before rest e b f lo hi = named (subst (λ (v : View). (v.demand ≡ d) × (v.sector ≡ s) × (at_leg v.hi_free (low_of s) ≤ pwm_period * m + (dead_time - 9)))
      (at_split w log before rest e b f) (u.demand w (omega arith) hi, u.sector w lo hi, u.low_free w lo hi))
    where
      named : ((view before).demand ≡ d) × ((view before).sector ≡ s) × (at_leg (view before).hi_free (low_of s) ≤ pwm_period * m + (dead_time - 9)) → Inside w before
      named h = record { demand = h.0; sector = h.1; low_free = h.2 }

  abbrev pub State : List Turned → Type 0
  State before = Before before ⊎ ((pwm_period * m + (chopping_steps - 9) * cost ≤ after cost trace before) × (Waiting before ⊎ Done before))

  -- an open COMM passes no tick
  open_passes : (before : List Turned) (z y : ℕ) → NonePassed cost trace before z → (view before).comm ≡ true → after cost trace before ≤ y → pwm_period * m ≤ y
      → y < z → y < pwm_period * m + pwm_period → ⊥
  open_passes before z y none o a b c f = let r = (none y a c (free_in y b f)).comm in cc

  -- so it is shut by then
  shut_by : (before : List Turned) (z : ℕ) → NonePassed cost trace before z → pwm_period * m + (chopping_steps - 9) * cost ≤ z → Before before → (v : Bool)
      → (view before).comm ≡ v
      → (view before).comm ≡ false
  shut_by before z none le b false e = e
  shut_by before z none le b true e =
      let l : after cost trace before + b.c * cost < pwm_period * m + 25 * cost = (b.left e).1 in
      absurd (elim (cases_lt (after cost trace before) (pwm_period * m)) [
        | inl lt ↦ open_passes before z (pwm_period * m) none e (omega arith) (omega arith) (omega arith) (omega arith)
        | inr ge ↦ open_passes before z (after cost trace before) none e (omega arith) ge (omega arith) (omega arith)
      ])

  -- the low switch is on then, or calls COMM
  settled : (before : List Turned) → Before before → (view before).comm ≡ false → (v : Bool) → is_on (view before).lo (low_of s) ≡ v → Waiting before
      ⊎ Done before
  settled before b shut true e = inr (record { on = e; shut = shut })
  settled before b shut false e = inl (record {
    x = after cost trace before;
    le = omega arith;
    same = λ l. refl;
    r = 9;
    counts = omega arith;
    by_next = let l = b.soon in omega arith;
    by_start = omega arith;
    off = e;
    shut = shut;
  })

  wait_passes : (before : List Turned) (z y w : ℕ) → NonePassed cost trace before z → Inside w before → (i : Waiting before) → i.x ≤ y
      → pwm_period * m + (chopping_steps - 9) * cost ≤ y → y < z → y < pwm_period * m + pwm_period → ⊥
  wait_passes before z y w none n i a b c f =
      let same : after cost trace before ≡ i.x = i.same (omega arith) in
      let call = low_calls d s (pwm_period * m + (dead_time - 9)) y (view before) u.drives n.demand n.sector i.off n.low_free (omega arith) i.shut in
      let r = (none y (omega arith) c (free_in y (omega arith) f)).comm_called in cc

  -- it doesn't wait for long
  wait_ends : (before : List Turned) (z w : ℕ) → NonePassed cost trace before z → Inside w before → Placed cost (after cost trace before) (view before)
      → t < z → Waiting before → ⊥
  wait_ends before z w none n p l i =
      let some : 1 ≤ i.r = (let a = p.comm_patient in let b = i.counts in omega arith) in
      let g : 1 * cost ≤ i.r * cost = mul-le 1 cost i.r cost some (omega arith) in
      let b : i.x + i.r * cost < pwm_period * m + (chopping_steps + 1) * cost = i.by_next in
      elim (cases_lt i.x (pwm_period * m + (chopping_steps - 9) * cost)) [
        | inl lt ↦ wait_passes before z (pwm_period * m + (chopping_steps - 9) * cost) w none n i (omega arith) (omega arith) (omega arith) (omega arith)
        | inr ge ↦ wait_passes before z i.x w none n i (omega arith) ge (omega (arith, g)) (omega (arith, g))
      ]

  at_next : (before : List Turned) (z w : ℕ) → NonePassed cost trace before z → Inside w before → (i : Waiting before) → z ≤ t → (z ≤ i.x)
      ⊎ (z ≤ pwm_period * m + (chopping_steps - 9) * cost)
  at_next before z w none n i le = elim (cases_lt i.x z) [
    | inr a ↦ inl a
    | inl a ↦ elim (cases_lt (pwm_period * m + (chopping_steps - 9) * cost) z) [
      | inr b ↦ inr b
      | inl b ↦ absurd (elim (cases_lt i.x (pwm_period * m + (chopping_steps - 9) * cost)) [
        | inl c ↦ wait_passes before z (pwm_period * m + (chopping_steps - 9) * cost) w none n i (omega arith) (omega arith) b (omega arith)
        | inr c ↦ wait_passes before z i.x w none n i (omega arith) c a (omega arith)
      ])
    ]
  ]

  -- what the period says at a step
  record Steps (before : List Turned) (e : Turned) : Type 0 where
    pub inside : Inside (e.tick - 1) before
    pub inside_after : Inside e.tick (before ++ e ∷ [])
    pub none_enters : by_of e ≡ CommEnters → ⊥

  steps : (before rest : List Turned) (e : Turned) → log ≡ before ++ (e ∷ rest) → EachStep (StepMade cost trace) before (e ∷ rest)
      → NoComm (pwm_period * m) before e → Past cost trace before → pwm_period * m ≤ e.tick → e.tick ≤ t → Steps before e
  steps before rest e h f none past ge le =
      let later = f.0.later in
      let w : ℕ = e.tick - 1 in
      let up : w + 1 ≡ e.tick = (let a = u.later in omega arith) in
      let later' : e.tick < after cost trace (before ++ e ∷ []) = (let a =
      free_later trace (e.tick + cost) in rw (after-push cost trace before e) (omega arith)) in
      record {
        inside = inside w before (e ∷ rest) h (past w (omega arith)) (omega arith) (omega arith) (omega arith);
        inside_after = inside e.tick (before ++ e ∷ []) rest (split_on log before rest e h)
            (by-push e.tick before e (past e.tick (omega arith)) (omega arith)) (first_above cost trace (before
            ++ e ∷ []) rest e.tick later' f.1) (omega arith) (omega arith);
        none_enters = none ge (omega arith);
      }

  comm_left : (before : List Turned) (e : Turned) → IsTurn (view before) (by_of e) → (by_of e ≡ CommEnters → ⊥)
      → CommLeft (view before) (view (before ++ e ∷ []))
  comm_left before e turn none =
      let c = moved_comm (view before) e.tick (by_of e) turn none in let same = same_after before e in
      record { shut = λ a. same.comm ∙ c.shut a; more = λ a. (let b = c.more a in (same.comm_own ∙ b.0, b.1)) }

  -- a step before p + (dead_time - 9) cost
  early_step : (before rest : List Turned) (e : Turned) → log ≡ before ++ (e ∷ rest) → EachStep (StepMade cost trace) before (e ∷ rest)
      → NoComm (pwm_period * m) before e → Past cost trace before → e.tick < pwm_period * m + (chopping_steps - 9) * cost → e.tick ≤ t → Before before → Before (before ++ e ∷ [])
  early_step before rest e h f none past lt le b = elim (cases_lt e.tick (pwm_period * m)) [
    | inl l ↦ (
        let x : after cost trace (before ++ e ∷ []) < pwm_period * m + cost =
        rw (after-push cost trace before e) (elim (cases_lt (e.tick + cost) (pwm_period * m - chopping_steps * cost)) [
          | inl q ↦ (let a : free trace (e.tick + cost) ≤ pwm_period * m - chopping_steps * cost =
              free_low trace (pwm_period * m - chopping_steps * cost) (pwm_period * m + (pwm_period - 1)) (e.tick + cost) u.stalls (omega arith) (omega arith)
              in omega arith)
          | inr g ↦ (let a : free trace (e.tick + cost) ≡ e.tick + cost =
              free_same trace (pwm_period * m - chopping_steps * cost) (pwm_period * m + (pwm_period - 1)) (e.tick + cost) u.stalls g (omega arith) in omega
              arith)
        ]) in
        record { c = 24; left = λ o. (omega arith, omega arith, omega arith); soon = omega arith })
    | inr ge ↦ (
        let s = steps before rest e h f none past ge le in
        let same : free trace (e.tick + cost) ≡ e.tick + cost = free_in (e.tick + cost) (omega arith) (omega arith) in
        let x : after cost trace (before ++ e ∷ []) ≡ e.tick + cost = after-push cost trace before e ∙ same in
        let cl = comm_left before e f.0.turn s.none_enters in
        record {
          c = b.c - 1;
          left = λ o. (
              let was : (view before).comm ≡ true = was_open (view before).comm refl cl o in
              let old = b.left was in let own = cl.more was in
              let bound : after cost trace before + b.c * cost < pwm_period * m + 25 * cost = old.1 in
              let old0 : 24 ≤ (view before).comm_own + b.c = old.0 in
              let own0 : (view (before ++ e ∷ [])).comm_own ≡ (view before).comm_own + 1 = own.0 in
              let own1 : (view before).comm_own + 1 ≤ 24 = own.1 in
              let at : (e.tick ≤ after cost trace before) ⊎ (e.tick ≤ pwm_period * m) = next_is was in
              let l = less cost (b.c - 1) b.c (omega arith) in
              let start : b.c * cost < 25 * cost = old.2 in
              (omega arith, goes (e.tick) l at bound start x, omega arith));
          soon = omega arith;
        })
  ]
    where
      was_open : (v : Bool) → (view before).comm ≡ v → CommLeft (view before) (view (before ++ e ∷ [])) → (view (before ++ e ∷ [])).comm ≡ true
          → (view before).comm ≡ true
      was_open true q cl o = q
      was_open false q cl o = absurd (let a = cl.shut q in cc)

      next_is : (view before).comm ≡ true → (e.tick ≤ after cost trace before) ⊎ (e.tick ≤ pwm_period * m)
      next_is o = elim (cases_lt (after cost trace before) e.tick) [
        | inr a ↦ inl a
        | inl a ↦ elim (cases_lt (pwm_period * m) e.tick) [
          | inr q ↦ inr q
          | inl q ↦ absurd (elim (cases_lt (after cost trace before) (pwm_period * m)) [
            | inl y ↦ open_passes before e.tick (pwm_period * m) f.0.none_passed o (omega arith) (omega arith) q (omega arith)
            | inr y ↦ open_passes before e.tick (after cost trace before) f.0.none_passed o (omega arith) y a (omega arith)
          ])
        ]
      ]

      goes : (tick : ℕ) → (b.c - 1) * cost + cost ≤ b.c * cost → (tick ≤ after cost trace before) ⊎ (tick ≤ pwm_period * m)
          → after cost trace before + b.c * cost < pwm_period * m + 25 * cost → b.c * cost < 25 * cost → after cost trace (before ++ e ∷ []) ≡ tick + cost
          → after cost trace (before ++ e ∷ []) + (b.c - 1) * cost < pwm_period * m + 25 * cost
      goes tick l (inl a) q z x = omega arith
      goes tick l (inr a) q z x = omega arith

  -- a step from p + (dead_time - 9) cost on
  late_step : (before rest : List Turned) (e : Turned) → log ≡ before ++ (e ∷ rest) → EachStep (StepMade cost trace) before (e ∷ rest) → DriveFits before e
      → NoComm (pwm_period * m) before e → Past cost trace before → pwm_period * m + (chopping_steps - 9) * cost ≤ e.tick → e.tick ≤ t
      → Placed cost (after cost trace before) (view before) → Waiting before ⊎ Done before → Waiting (before ++ e ∷ []) ⊎ Done (before ++ e ∷ [])
  late_step before rest e h f g none past ge le p st =
      let s' = steps before rest e h f none past (omega arith) le in
      let cl = comm_left before e f.0.turn s'.none_enters in
      let dm = s'.inside.demand in let some : 0 < (view before).demand = (let a = u.drives in omega arith) in
      by_state s' cl some st
    where
      by_state : Steps before e → CommLeft (view before) (view (before ++ e ∷ [])) → 0 < (view before).demand → Waiting before ⊎ Done before
          → Waiting (before ++ e ∷ []) ⊎ Done (before ++ e ∷ [])
      by_state s' cl some (inr y) =
          let same = g.quiet_low some (not_comm (view before) (by_of e) f.0.turn y.shut) in
          inr (record { on = rw same y.on; shut = cl.shut y.shut })
      by_state s' cl some (inl i) =
          let same = g.quiet_low some (not_comm (view before) (by_of e) f.0.turn i.shut) in
          let off : is_on (view (before ++ e ∷ [])).lo (low_of s) ≡ false = rw same i.off in
          let n = s'.inside in let n' = s'.inside_after in
          let c1 = low_calls d s (pwm_period * m + (dead_time - 9)) e.tick (view before) u.drives n.demand n.sector i.off n.low_free (omega arith) i.shut in
          let c2 = low_calls d s (pwm_period * m + (dead_time - 9)) e.tick (view (before ++ e ∷ [])) u.drives n'.demand n'.sector off n'.low_free (omega arith)
          (cl.shut i.shut) in
          let more : (view (before ++ e ∷ [])).comm_waits ≡ (view before).comm_waits + 1 = waits_after before e
          ∙ both_called (comm_called (view before) e.tick) (comm_called (view (before ++ e ∷ [])) e.tick) (view before).comm_waits c1 c2 in
          let pat = p.comm_patient in
          let co = i.counts in
          let at = at_next before e.tick (e.tick - 1) f.0.none_passed n i le in
          let l = less cost (i.r - 1) i.r (omega arith) in
          inl (record {
            x = e.tick + cost;
            le = rw (after-push cost trace before e) (free_later trace (e.tick + cost));
            same = λ q. rw (after-push cost trace before e) (free_in (e.tick + cost) (omega arith) q);
            r = i.r - 1;
            counts = omega arith;
            by_next = goes e.tick i.x (i.r - 1) i.r l at i.by_next i.by_start;
            by_start = (let a = i.by_start in omega arith);
            off = off;
            shut = cl.shut i.shut;
          })
        where
          goes : (tick x r r' : ℕ) → r * cost + cost ≤ r' * cost → (tick ≤ x) ⊎ (tick ≤ pwm_period * m + (chopping_steps - 9) * cost) → x + r' * cost < pwm_period * m + (chopping_steps + 1) * cost
              → r' * cost < 10 * cost → tick + cost + r * cost < pwm_period * m + (chopping_steps + 1) * cost
          goes tick x r r' l (inl a) q z = omega arith
          goes tick x r r' l (inr a) q z = omega arith

  pub low_run : (before rest : List Turned) → log ≡ before ++ rest → EachStep (StepMade cost trace) before rest → EachStep DriveFits before rest
      → EachStep (NoComm (pwm_period * m)) before rest → NonePassed cost trace log until → Past cost trace before
      → Placed cost (after cost trace before) (view before) → AllBy t before → State before → is_on (at_tick t log).lo (low_of s) ≡ true
  low_run before [] h f g none made past p all st =
      subst (λ (v : View). is_on v.lo (low_of s) ≡ true) (sym (at_split t log before [] h all tt)) (ends st)
    where
      whole : log ≡ before
      whole = h ∙ append-nil before

      made' : NonePassed cost trace before until
      made' = subst (λ (l : List Turned). NonePassed cost trace l until) whole made

      by : Waiting before ⊎ Done before → is_on (view before).lo (low_of s) ≡ true
      by (inl i) = absurd (wait_ends before until t made' (inside t before [] h all tt (omega arith) in_period) p below i)
      by (inr y) = y.on

      ends : State before → is_on (view before).lo (low_of s) ≡ true
      ends (inl b) = by (settled before b (shut_by before until made' (omega arith) b (view before).comm refl) (is_on (view before).lo (low_of s)) refl)
      ends (inr (a, y)) = by y
  low_run before (e ∷ rest) h f g none made past p all st = elim (cases_lt t e.tick) [
    | inl lt ↦ subst (λ (v : View). is_on v.lo (low_of s) ≡ true) (sym (at_split t log before (e ∷ rest) h all lt)) (ends lt st)
    | inr le ↦ low_run (before ++ e ∷ []) rest (split_on log before rest e h) f.1 g.1 none.1 made (past_on cost trace before e one f.0.later past)
        (placed_on cost trace before e f.0 p) (by-push t before e all le) (goes le st)
  ]
    where
      by : t < e.tick → Waiting before ⊎ Done before → is_on (view before).lo (low_of s) ≡ true
      by lt (inl i) = absurd (wait_ends before e.tick t f.0.none_passed (inside t before (e ∷ rest) h all lt (omega arith) in_period) p lt i)
      by lt (inr y) = y.on

      ends : t < e.tick → State before → is_on (view before).lo (low_of s) ≡ true
      ends lt (inl b) = by lt (settled before b (shut_by before e.tick f.0.none_passed (omega arith) b (view before).comm refl)
          (is_on (view before).lo (low_of s)) refl)
      ends lt (inr (a, y)) = by lt y

      above : pwm_period * m + (chopping_steps - 9) * cost ≤ e.tick → pwm_period * m + (chopping_steps - 9) * cost ≤ after cost trace (before ++ e ∷ [])
      above ge = let l = free_later trace (e.tick + cost) in rw (after-push cost trace before e) (omega arith)

      goes : e.tick ≤ t → State before → State (before ++ e ∷ [])
      goes le (inl b) = elim (cases_lt e.tick (pwm_period * m + (chopping_steps - 9) * cost)) [
        | inl l ↦ inl (early_step before rest e h f none.0 past l le b)
        | inr ge ↦ inr (
          above ge,
          late_step before rest e h f g.0 none.0 past ge le p
              (settled before b (shut_by before e.tick f.0.none_passed ge b (view before).comm refl) (is_on (view before).lo (low_of s)) refl),
        )
      ]
      goes le (inr (a, y)) =
          let l : after cost trace before ≤ e.tick = f.0.later in
          let ge : pwm_period * m + (chopping_steps - 9) * cost ≤ e.tick = omega arith in
          inr (above ge, late_step before rest e h f g.0 none.0 past ge le p y)
