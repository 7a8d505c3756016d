-- PWM's write of what it read since an edge stands within 48 steps of it.
use Rattle.std.proofs.Common.{◌≡◌, ◌≤◌, ◌<◌, ◌+◌, ◌-◌, ◌*◌, ◌%◌, ◌⊎◌, inl, inr, ℕ, Bool, true, false, not, ◌==◌, if◌then◌else◌, refl, sym, ◌∙◌, subst, arith}
use Rattle.std.proofs.lemmas.Nat.{mul-le}
use Rattle.std.proofs.lemmas.Bool.{cases_lt, not-false}
use Rattle.std.proofs.lemmas.Bool.Decides.{nat_tests}
use Rattle.esc_base.specs.Times.{most_duty, pwm_period}
use Rattle.esc_base.specs.Legs.{is_on}
use Rattle.commutation.specs.Sectors.{high_of}
use Rattle.esc_chopping.specs.View.{By, View, moved_by, pwm_called, wait_next, is_comm}
use Rattle.esc_base.specs.Periods.{edges}
use Rattle.esc_chopping.specs.View.By.{CommEnters, CommSteps, PwmEnters, PwmSteps, Lower}
use Rattle.esc_chopping.specs.Log.{BothIdle}
use Rattle.esc_chopping.specs.Laws.{IsTurn, Chops, may_chop, is_quiet}
use Rattle.esc_chopping.specs.Placed.{Placed}
use Rattle.esc_chopping.specs.Fresh.{IsEdge, Stale, Early, Fresh}
use Rattle.esc_chopping.proofs.Placed.{Same, own_cases, OwnFirst, OwnWrites, OwnOther}
use Rattle.std.proofs.lemmas.Bool.{lt-ltb}
use Rattle.std.proofs.lemmas.Bool.{or_right}

-- ---- an edge calls PWM

edge_counts : (m d edge u t : ℕ) → d ≤ most_duty → IsEdge m d edge → u < edge → edge ≤ t → edges d u < edges d t
edge_counts m d edge u t small (inl e) l le = omega arith
edge_counts m d edge u t small (inr e) l le = omega arith

pub edge_calls : (m d edge t : ℕ) (v : View) → 0 < d → d ≤ most_duty → IsEdge m d edge → v.demand ≡ d → v.pwm ≡ false → v.entered < edge → edge ≤ t
    → pwm_called v t ≡ true
edge_calls m d edge t v some small is e shut l le =
    let g : edges v.demand v.entered < edges v.demand t = rw e (edge_counts m d edge v.entered t small is l le) in
    rw (lt-ltb 0 v.demand (omega arith), lt-ltb (edges v.demand v.entered) (edges v.demand t) g, shut, or_right v.asked true refl) refl

-- ---- one step less

pub less : (cost n m : ℕ) → n + 1 ≤ m → n * cost + cost ≤ m * cost
less cost n m le = let l : (n + 1) * cost ≤ m * cost = mul-le (n + 1) cost m cost le (omega arith) in omega (arith, l)

-- the bounds after a step that stands at the next tick, or at the edge if that is later
record Bounds (cost edge x n : ℕ) : Type 0 where
  by_next : x + n * cost < edge + 49 * cost
  by_edge : n * cost < 49 * cost

bounds_on : (cost edge x x' t n n' : ℕ) → n' + 1 ≤ n → (t ≤ x) ⊎ (t ≤ edge) → x' ≡ t + cost → Bounds cost edge x n → Bounds cost edge x' n'
bounds_on cost edge x x' t n n' le (inl l) e b = let a = b.by_next in let c = b.by_edge in let f =
    less cost n' n le in record { by_next = omega arith; by_edge = omega arith }
bounds_on cost edge x x' t n n' le (inr l) e b = let a = b.by_next in let c = b.by_edge in let f =
    less cost n' n le in record { by_next = omega arith; by_edge = omega arith }

-- ---- what is left is some step

pub left_some : (cost edge x y : ℕ) (v : View) → Placed cost y v → (s : Stale cost edge x v) → 1 ≤ s.c + s.k
left_some cost edge x y v p s = by_open v.pwm refl
  where
    by_open : (a : Bool) → v.pwm ≡ a → 1 ≤ s.c + s.k
    by_open false e = let a = s.left.shut e in let b = p.patient in omega arith
    by_open true e = elim (cases_lt v.pwm_own 2) [
      | inl l ↦ (let a = s.left.early e (omega arith) in omega arith)
      | inr g ↦ elim (cases_lt v.sampled edge) [
        | inl l ↦ (let a = s.left.old e g l in let b = p.few in omega arith)
        | inr h ↦ elim (cases_lt v.pwm_own 5) [
          | inl l ↦ (let a = s.left.good e g (omega arith) h in omega arith)
          | inr h5 ↦ absurd (let w = p.written e h5 in let z = s.wrote in omega arith)
        ]
      ]
    ]

-- what isn't written yet calls PWM, or one of the two is open
pub not_resting : (cost m d edge x t : ℕ) (v : View) → 0 < d → d ≤ most_duty → IsEdge m d edge → v.demand ≡ d → Stale cost edge x v → edge ≤ t → BothIdle v t
    → ⊥
not_resting cost m d edge x t v some small is e s le r =
    let c = edge_calls m d edge t v some small is e r.pwm (s.entered r.pwm) le in
    let f = r.pwm_called in cc

-- ---- a step

-- what is known of a step within the period, and of the view after it
pub record Within (cost x x' m d s t : ℕ) (v : View) (by : By) (tick : ℕ) (w : View) : Type 0 where
  pub next : x' ≡ tick + cost
  pub later : x ≤ tick
  pub by_t : tick ≤ t
  pub in_period : t < pwm_period * m + pwm_period
  pub demand : v.demand ≡ d
  pub demand_after : w.demand ≡ d
  pub sector : v.sector ≡ s
  pub allowed : may_chop v tick ≡ true
  pub none_enters : by ≡ CommEnters → ⊥
  pub turn : IsTurn v by
  pub same : Same (moved_by v by tick) w
  pub waits : w.pwm_waits ≡ wait_next (pwm_called v tick) (pwm_called w tick) (not (is_comm by)) v.pwm_waits
  pub patient : w.pwm_waits ≤ 8
  pub quiet : is_quiet v by ≡ true → w.hi ≡ v.hi
  pub chops : (returns : Bool) → by ≡ PwmSteps returns → v.pwm_own ≡ 4 → Chops v tick w

-- what the write leaves
rest_is : (m t : ℕ) → pwm_period * m ≤ t → t < pwm_period * m + pwm_period → t % pwm_period ≡ t - pwm_period * m
rest_is m t a b = omega arith

chop_level : (cost x x' m d s t edge tick : ℕ) (v w : View) (l : Bool) → IsEdge m d edge → Within cost x x' m d s t v (PwmSteps l) tick w → v.pwm_own ≡ 4
    → edge ≤ v.sampled → v.sampled < t → w.wrote ≡ v.sampled → w.comm ≡ false → Fresh edge m d s t w
chop_level cost x x' m d s t edge tick v w l is i four ge lt e shut =
    let c = i.chops l refl four in
    let front : pwm_period * m ≤ v.sampled = edge_front is in
    let r = rest_is m v.sampled front (let a = i.in_period in omega arith) in
    let dm = i.demand in
    record {
      comm = shut;
      wrote = omega arith;
      past = omega arith;
      on = λ h. subst (λ (z : ℕ). is_on w.hi (high_of z) ≡ true) i.sector (c.on (omega arith) i.allowed);
      off = λ h. c.off (omega arith);
    }
  where
    edge_front : IsEdge m d edge → pwm_period * m ≤ v.sampled
    edge_front (inl f) = omega arith
    edge_front (inr f) = omega arith

pub fresh_on : (cost x x' m d s t edge tick : ℕ) (v w : View) (by : By) → IsEdge m d edge → 1 ≤ cost → Placed cost x v → Within cost x x' m d s t v by tick w
    → Fresh edge m d s t v → Fresh edge m d s t w
fresh_on cost x x' m d s t edge tick v w CommEnters is one p i f = absurd (i.none_enters refl)
fresh_on cost x x' m d s t edge tick v w (CommSteps l) is one p i f = absurd (let a = i.turn.is_open in let b = f.comm in cc)
fresh_on cost x x' m d s t edge tick v w PwmEnters is one p i f =
    let q = i.quiet refl in let e = i.same.wrote in
    record { comm = i.same.comm ∙ f.comm; wrote = rw e f.wrote; past = rw e f.past; on = rw (e, q) f.on; off = rw (e, q) f.off }
fresh_on cost x x' m d s t edge tick v w (PwmSteps l) is one p i f = by_own (own_cases v.pwm_own tick v.sampled v.wrote)
  where
    quiet : not (v.pwm_own == 4) ≡ true → w.wrote ≡ v.wrote → Fresh edge m d s t w
    quiet n e = let q = i.quiet n in
        record { comm = i.same.comm ∙ f.comm; wrote = rw e f.wrote; past = rw e f.past; on = rw (e, q) f.on; off = rw (e, q) f.off }

    by_own : OwnFirst v.pwm_own tick v.sampled v.wrote (moved_by v (PwmSteps l) tick).sampled (moved_by v (PwmSteps l) tick).wrote
        ⊎ (OwnWrites v.pwm_own tick v.sampled v.wrote (moved_by v (PwmSteps l) tick).sampled (moved_by v (PwmSteps l) tick).wrote
        ⊎ OwnOther v.pwm_own tick v.sampled v.wrote (moved_by v (PwmSteps l) tick).sampled (moved_by v (PwmSteps l) tick).wrote) → Fresh edge m d s t w
    by_own (inl h) = quiet (let a = h.is in grind (arith, nat_tests)) (i.same.wrote ∙ h.wrote)
    by_own (inr (inr h)) = quiet (let a = h.fourth in grind (arith, nat_tests)) (i.same.wrote ∙ h.wrote)
    by_own (inr (inl h)) =
        let four = h.is in
        let a = p.wrote in let b = f.wrote in let g : v.sampled + cost ≤ x = p.after_sample i.turn.is_open (omega arith) in
        let c = i.later in let e = i.by_t in
        chop_level cost x x' m d s t edge tick v w l is i h.is (omega arith) (omega arith) (i.same.wrote ∙ h.wrote) (i.same.comm ∙ f.comm)
fresh_on cost x x' m d s t edge tick v w Lower is one p i f =
    let q = i.quiet refl in let e = i.same.wrote in
    record { comm = i.same.comm ∙ f.comm; wrote = rw e f.wrote; past = rw e f.past; on = rw (e, q) f.on; off = rw (e, q) f.off }

-- ---- a step while it isn't written

-- where PWM is called before and after a step
both_called : (b a c : Bool) (w : ℕ) → b ≡ true → a ≡ true → wait_next b a c w ≡ (if c then w + 1 else w)
both_called b a c w e f = rw (e, f) refl

abbrev Next : ℕ → ℕ → ℕ → ℕ → ℕ → ℕ → ℕ → View → Type 0
Next cost edge x' m d s t w = Stale cost edge x' w ⊎ Fresh edge m d s t w

-- one step of COMM less
comm_on : (cost x x' m d s t edge tick : ℕ) (v w : View) (l : Bool) → 0 < d → d ≤ most_duty → IsEdge m d edge → edge ≤ tick → (tick ≤ x) ⊎ (tick ≤ edge)
    → Within cost x x' m d s t v (CommSteps l) tick w → Stale cost edge x v → Stale cost edge x' w
comm_on cost x x' m d s t edge tick v w l some small is ge at i st =
    let o = i.turn.is_open in let few = i.turn.few in
    let c24 = st.left.comm o in
    let b = bounds_on cost edge x x' tick (st.c + st.k) ((st.c - 1) + st.k) (omega arith) at i.next (record { by_next = st.by_next; by_edge = st.by_edge }) in
    let pw = i.same.pwm in let po = i.same.pwm_own in let sa = i.same.sampled in let en = i.same.entered in
    record {
      c = st.c - 1;
      k = st.k;
      left = record {
        comm = λ e. let q = i.same.comm_own in omega arith;
        shut = λ e.
            let z : v.pwm ≡ false = sym pw ∙ e in
            let early : v.entered < edge = st.entered z in
            let before = edge_calls m d edge tick v some small is i.demand z early ge in
            let after = edge_calls m d edge tick w some small is i.demand_after e (rw en early) ge in
            let same = i.waits ∙ both_called (pwm_called v tick) (pwm_called w tick) false v.pwm_waits before after in
            let g = st.left.shut z in omega arith;
        early = λ e f. let g = st.left.early (sym pw ∙ e) (omega arith) in omega arith;
        good = λ e f f' h. let g = st.left.good (sym pw ∙ e) (omega arith) (omega arith) (omega arith) in omega arith;
        old = λ e f h. let g = st.left.old (sym pw ∙ e) (omega arith) (omega arith) in omega arith;
      };
      wrote = rw (i.same.wrote) st.wrote;
      entered = λ e. rw en (st.entered (sym pw ∙ e));
      by_next = b.by_next;
      by_edge = b.by_edge;
    }

-- PWM is entered
enter_on : (cost x x' m d s t edge tick : ℕ) (v w : View) → (tick ≤ x) ⊎ (tick ≤ edge) → Placed cost x v → Within cost x x' m d s t v PwmEnters tick w
    → Stale cost edge x v → Stale cost edge x' w
enter_on cost x x' m d s t edge tick v w at p i st =
    let g = st.left.shut i.turn.pwm in let le = p.patient in
    let b = bounds_on cost edge x x' tick (st.c + st.k) (st.c + (st.k - 1)) (omega arith) at i.next (record { by_next = st.by_next; by_edge = st.by_edge }) in
    let pw : w.pwm ≡ true = i.same.pwm in let po : w.pwm_own ≡ 0 = i.same.pwm_own in let cm = i.turn.comm in let cw = i.same.comm in
    record {
      c = st.c;
      k = st.k - 1;
      left = record {
        comm = λ e. absurd (let z = sym cw ∙ e in cc);
        shut = λ e. absurd (let z = sym pw ∙ e in cc);
        early = λ e f. omega arith;
        good = λ e f f' h. absurd (omega arith);
        old = λ e f h. absurd (omega arith);
      };
      wrote = rw (i.same.wrote) st.wrote;
      entered = λ e. absurd (let z = sym pw ∙ e in cc);
      by_next = b.by_next;
      by_edge = b.by_edge;
    }

-- a step of a lower kind
lower_on : (cost x x' m d s t edge tick : ℕ) (v w : View) → 0 < d → d ≤ most_duty → IsEdge m d edge → edge ≤ tick → (tick ≤ x) ⊎ (tick ≤ edge) → Placed cost x v
    → Within cost x x' m d s t v Lower tick w → Stale cost edge x v → Stale cost edge x' w
lower_on cost x x' m d s t edge tick v w some small is ge at p i st =
    let z = i.turn.pwm in
    let g = st.left.shut z in let le = p.patient in let le' = i.patient in
    let b = bounds_on cost edge x x' tick (st.c + st.k) (st.c + (st.k - 1)) (omega arith) at i.next (record { by_next = st.by_next; by_edge = st.by_edge }) in
    let pw : w.pwm ≡ v.pwm = i.same.pwm in let cm = i.turn.comm in let cw = i.same.comm in let en = i.same.entered in
    let early : v.entered < edge = st.entered z in
    let before = edge_calls m d edge tick v some small is i.demand z early ge in
    let after = edge_calls m d edge tick w some small is i.demand_after (pw ∙ z) (rw en early) ge in
    let more = i.waits ∙ both_called (pwm_called v tick) (pwm_called w tick) true v.pwm_waits before after in
    record {
      c = st.c;
      k = st.k - 1;
      left = record {
        comm = λ e. absurd (let y = sym cw ∙ e in cc);
        shut = λ e. omega arith;
        early = λ e f. absurd (let y = sym pw ∙ e in cc);
        good = λ e f f' h. absurd (let y = sym pw ∙ e in cc);
        old = λ e f h. absurd (let y = sym pw ∙ e in cc);
      };
      wrote = rw (i.same.wrote) st.wrote;
      entered = λ e. rw en early;
      by_next = b.by_next;
      by_edge = b.by_edge;
    }

-- an own step of PWM that doesn't write what was read since
pwm_on : (cost x x' m d s t edge tick : ℕ) (v w : View) (l : Bool) → (tick ≤ x) ⊎ (tick ≤ edge) → Placed cost x v
    → Within cost x x' m d s t v (PwmSteps l) tick w → (st : Stale cost edge x v) → 1 ≤ st.k → w.wrote < edge
    → (w.pwm_own ≤ 1 → 5 ≤ w.pwm_own + (st.k - 1)) → (2 ≤ w.pwm_own → w.pwm_own ≤ 4 → edge ≤ w.sampled → 5 ≤ w.pwm_own + (st.k - 1))
    → (2 ≤ w.pwm_own → w.sampled < edge → 26 ≤ w.pwm_own + (st.k - 1)) → (l ≡ true → w.entered < edge × (26 ≤ w.pwm_own + (st.k - 1)))
    → Stale cost edge x' w
pwm_on cost x x' m d s t edge tick v w l at p i st some wr early good old back =
    let b = bounds_on cost edge x x' tick (st.c + st.k) (st.c + (st.k - 1)) (omega arith) at i.next (record { by_next = st.by_next; by_edge = st.by_edge }) in
    let cm = i.turn.comm in let cw = i.same.comm in let pw = i.same.pwm in
    record {
      c = st.c;
      k = st.k - 1;
      left = record {
        comm = λ e. absurd (let y = sym cw ∙ e in cc);
        shut = λ e. let y = back (not-false l (sym pw ∙ e)) in let f = i.turn.few in let o : w.pwm_own ≡ v.pwm_own + 1 = i.same.pwm_own in omega (arith, y.1);
        early = λ e f. early f;
        good = λ e f f' h. good f f' h;
        old = λ e f h. old f h;
      };
      wrote = wr;
      entered = λ e. (back (not-false l (sym pw ∙ e))).0;
      by_next = b.by_next;
      by_edge = b.by_edge;
    }

own_on : (cost x x' m d s t edge tick : ℕ) (v w : View) (l : Bool) → IsEdge m d edge → 1 ≤ cost → edge ≤ tick → (tick ≤ x) ⊎ (tick ≤ edge) → Placed cost x v
    → Within cost x x' m d s t v (PwmSteps l) tick w → (st : Stale cost edge x v)
    → OwnFirst v.pwm_own tick v.sampled v.wrote w.sampled w.wrote ⊎ (OwnWrites v.pwm_own tick v.sampled v.wrote w.sampled w.wrote
    ⊎ OwnOther v.pwm_own tick v.sampled v.wrote w.sampled w.wrote)
    → Next cost edge x' m d s t w
own_on cost x x' m d s t edge tick v w l is one ge at p i st (inl h) =
    let n = h.is in let o : w.pwm_own ≡ v.pwm_own + 1 = i.same.pwm_own in let sa = h.sampled in
    let g = st.left.early i.turn.is_open (omega arith) in
    inl (pwm_on cost x x' m d s t edge tick v w l at p i st (omega arith) (rw (h.wrote) st.wrote)
    (λ f. absurd (omega arith)) (λ f f' k. omega arith) (λ f k. absurd (omega arith)) (λ e. absurd (let a = i.turn.all e in omega arith)))
own_on cost x x' m d s t edge tick v w l is one ge at p i st (inr (inl h)) = elim (cases_lt v.sampled edge) [
  | inl lt ↦ (
      let n = h.is in let o : w.pwm_own ≡ v.pwm_own + 1 = i.same.pwm_own in let sa = h.sampled in let wr = h.wrote in
      let g = st.left.old i.turn.is_open (omega arith) lt in
      let en : w.entered ≡ v.entered = i.same.entered in
      let ae : v.entered ≤ v.sampled = p.after_entry i.turn.is_open (omega arith) in
      inl (pwm_on cost x x' m d s t edge tick v w l at p i st (omega arith) (omega arith)
      (λ f. absurd (omega arith)) (λ f f' k. absurd (omega arith)) (λ f k. omega arith) (λ e. (omega arith, omega arith))))
  | inr ge' ↦ (
      let n = h.is in
      let g : v.sampled + cost ≤ x = p.after_sample i.turn.is_open (omega arith) in
      let c = i.later in let e = i.by_t in
      inr (chop_level cost x x' m d s t edge tick v w l is i h.is ge' (omega arith) h.wrote (i.same.comm ∙ i.turn.comm)))
]
own_on cost x x' m d s t edge tick v w l is one ge at p i st (inr (inr h)) =
    let n1 = h.first in let n4 = h.fourth in let o : w.pwm_own ≡ v.pwm_own + 1 = i.same.pwm_own in let sa = h.sampled in let wr = h.wrote in
    let op = i.turn.is_open in let few = i.turn.few in let sw = st.wrote in
    let en : w.entered ≡ v.entered = i.same.entered in
    elim (cases_lt v.pwm_own 2) [
      | inl l0 ↦ (
          let g = st.left.early op (omega arith) in
          inl (pwm_on cost x x' m d s t edge tick v w l at p i st (omega arith) (omega arith)
          (λ f. omega arith) (λ f f' k. absurd (omega arith)) (λ f k. absurd (omega arith)) (λ e. absurd (let a = i.turn.all e in omega arith))))
      | inr l2 ↦ elim (cases_lt v.sampled edge) [
        | inl lt ↦ (
            let g = st.left.old op l2 lt in
            let ae : v.entered ≤ v.sampled = p.after_entry op l2 in
            inl (pwm_on cost x x' m d s t edge tick v w l at p i st (omega arith) (omega arith)
            (λ f. absurd (omega arith)) (λ f f' k. absurd (omega arith)) (λ f k. omega arith) (λ e. (omega arith, omega arith))))
        | inr ge' ↦ elim (cases_lt v.pwm_own 5) [
          | inl l5 ↦ (
              let g = st.left.good op l2 (omega arith) ge' in
              inl (pwm_on cost x x' m d s t edge tick v w l at p i st (omega arith) (omega arith)
              (λ f. absurd (omega arith)) (λ f f' k. omega arith) (λ f k. absurd (omega arith)) (λ e. absurd (let a = i.turn.all e in omega arith))))
          | inr h5 ↦ absurd (let w5 = p.written op h5 in omega arith)
        ]
      ]
    ]

pub stale_on : (cost x x' m d s t edge tick : ℕ) (v w : View) (by : By) → 0 < d → d ≤ most_duty → IsEdge m d edge → 1 ≤ cost → edge ≤ tick → (tick ≤ x)
    ⊎ (tick ≤ edge) → Placed cost x v → Within cost x x' m d s t v by tick w → Stale cost edge x v
    → Next cost edge x' m d s t w
stale_on cost x x' m d s t edge tick v w CommEnters some small is one ge at p i st = absurd (i.none_enters refl)
stale_on cost x x' m d s t edge tick v w (CommSteps l) some small is one ge at p i st = inl (comm_on cost x x' m d s t edge tick v w l some small is ge at i st)
stale_on cost x x' m d s t edge tick v w PwmEnters some small is one ge at p i st = inl (enter_on cost x x' m d s t edge tick v w at p i st)
stale_on cost x x' m d s t edge tick v w (PwmSteps l) some small is one ge at p i st =
    own_on cost x x' m d s t edge tick v w l is one ge at p i st (rw (i.same.sampled, i.same.wrote) (own_cases v.pwm_own tick v.sampled v.wrote))
stale_on cost x x' m d s t edge tick v w Lower some small is one ge at p i st = inl (lower_on cost x x' m d s t edge tick v w some small is ge at p i st)

-- ---- before the edge

pub early_stale : (cost edge x : ℕ) (v : View) → 1 ≤ cost → Placed cost x v → Early cost edge x v → Stale cost edge x v
early_stale cost edge x v one p e = record {
  c = 24;
  k = 24;
  left = record {
    comm = λ a. omega arith;
    shut = λ a. omega arith;
    early = λ a b. omega arith;
    good = λ a b f g. omega arith;
    old = λ a b f. omega arith;
  };
  wrote = let a = p.wrote in let b = e.sampled in omega arith;
  entered = λ a. e.entered;
  by_next = let a = e.soon in omega arith;
  by_edge = omega arith;
}
