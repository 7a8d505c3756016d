-- From the pair sentence: in a period without a Q the off times that matter stay.
use Rattle.std.proofs.Common.{◌≡◌, ◌≤◌, ◌<◌, ◌+◌, ◌-◌, ◌⊎◌, inl, inr, ℕ, true, false, ◌==◌, List, [], ◌∷◌, ◌++◌, refl, sym, ◌∙◌, ap, subst, arith}
use Rattle.std.specs.List.{fold}
use Rattle.std.proofs.lemmas.Bool.{cases_lt}
use Rattle.std.proofs.lemmas.Bool.Decides.{nat_tests}
use Rattle.esc_base.specs.Times.{pwm_period, dead_time}
use Rattle.esc_base.specs.declared.gate.Leg.{Leg}
use Rattle.esc_base.specs.declared.note.Note.{Note}
use Rattle.esc_base.specs.Legs.{is_on}
use Rattle.commutation.specs.Sectors.{high_of, low_of}
use Rattle.esc_base.specs.declared.note.Note.TheVariants as note
use Rattle.esc_base.specs.declared.gate.Leg.TheVariants as leg
use Rattle.esc_base.specs.declared.event.Event.{Event}
use Rattle.esc_laws.specs.Steps.{Turned, after, EachStep}
use Rattle.esc_chopping.specs.View.{By, View, unmoved, view, moved_by, told_by, by_of}
use Rattle.gate_driver.specs.Gated.{at_leg}
use Rattle.esc_chopping.specs.View.By.{CommEnters, CommSteps, PwmEnters, PwmSteps, Lower}
use Rattle.esc_chopping.specs.Log.{at_tick}
use Rattle.esc_chopping.specs.Laws.{may_chop, StepMade}
use Rattle.esc_chopping.specs.Pairs.{InPair, NoteFits, EachNote, PairFits, AllAt, TimesFit, NoSteps, NoStep}
use Rattle.esc_laws.proofs.Stalls.{free_later}
use Rattle.esc_chopping.proofs.Pushes.{view-push, AllBy, FirstAbove, by-push}
use Rattle.esc_laws.proofs.Pushes.{after-push}
use Rattle.esc_chopping.proofs.High.{Past, past_on, at_split, split_on}
use Rattle.std.proofs.lemmas.Bool.{le-leb}
use Rattle.gate_driver.proofs.OffTimes.{off_stays}
use Rattle.gate_driver.proofs.Bits.{off_is}
use Rattle.esc_laws.proofs.Apart.{apart_legs}

-- ---- legs and off times

-- what is off doesn't go off
high_off : (v : View) → InPair v → is_on v.hi (low_of v.sector) ≡ false
high_off v p = off_is (is_on v.hi (low_of v.sector)) (λ e. let h = p.high (low_of v.sector) e in apart_legs v.sector h.1 p.sector h.0)

pub low_off : (v : View) → InPair v → is_on v.lo (high_of v.sector) ≡ false
low_off v p = off_is (is_on v.lo (high_of v.sector)) (λ e. let h = p.low (high_of v.sector) e in apart_legs v.sector h.1 p.sector (sym h.0))

-- ---- up to p - 1

pub record Static (last : ℕ) (v : View) : Type 0 where
  pub pair : InPair v
  pub free : 0 < v.sector → at_leg v.hi_free (low_of v.sector) ≤ v.stepped + (dead_time - 8)
  pub stepped : v.stepped ≤ last

static_note : (last : ℕ) (v : View) (n : Note) → NoteFits v n → InPair (told_by v n) → AllAt last (n ∷ []) → (u : ℕ) → last ≤ u → Static u v
    → Static u (told_by v n)
static_note last v (note.Step t s) f p a u l st = record { pair = p; free = λ q. f.0; stepped = let e = a.0 in omega arith }
static_note last v (note.Gate t hi lo) f p a u l st = record {
  pair = p;
  free =
      λ q. rw (off_stays v.hi_free v.hi hi t.0 (low_of v.sector) (high_off v st.pair)) (st.free q);
  stepped = st.stepped;
}
static_note last v (note.Control t number marks d) f p a u l st = record { pair = p; free = st.free; stepped = st.stepped }
static_note last v n f p a u l st = st

one_at : (t : ℕ) (n : Note) (notes : List Note) → AllAt t (n ∷ notes) → AllAt t (n ∷ []) × AllAt t notes
one_at t (note.Step u s) notes a = ((a.0, tt), a.1)
one_at t n notes a = (tt, a)

static_notes : (t u : ℕ) (notes : List Note) (v : View) → t ≤ u → EachNote v notes → AllAt t notes → Static u v → Static u (fold told_by v notes)
static_notes t u [] v l f a st = st
static_notes t u (n ∷ notes) v l f a st = let o = one_at t n notes a in static_notes t u notes (told_by v n) l f.2 o.1 (static_note t v n f.0 f.1 o.0 u l st)

static_moved : (u t : ℕ) (v : View) (by : By) → Static u v → Static u (moved_by v by t)
static_moved u t v CommEnters s = record { pair = record { high = s.pair.high; low = s.pair.low; sector = s.pair.sector }; free = s.free; stepped = s.stepped }
static_moved u t v (CommSteps l) s = record {
  pair = record { high = s.pair.high; low = s.pair.low; sector = s.pair.sector };
  free = s.free;
  stepped =
      s.stepped;
}
static_moved u t v PwmEnters s = record { pair = record { high = s.pair.high; low = s.pair.low; sector = s.pair.sector }; free = s.free; stepped = s.stepped }
static_moved u t v (PwmSteps l) s = record {
  pair = record { high = s.pair.high; low = s.pair.low; sector = s.pair.sector };
  free = s.free;
  stepped =
      s.stepped;
}
static_moved u t v Lower s = s

static_next : (u : ℕ) (before : List Turned) (e : Turned) → e.tick ≤ u → PairFits before e → TimesFit before e → Static u (view before)
    → Static u (view (before ++ e ∷ []))
static_next u before e l f a s =
    let r = static_notes e.tick u e.notes (moved_by (view before) (by_of e) e.tick) l f a (static_moved u e.tick (view before) (by_of e) s) in
    subst (λ (w : View). Static u w) (sym (view-push before e)) (record
    { pair = record { high = r.pair.high; low = r.pair.low; sector = r.pair.sector }; free = r.free; stepped = r.stepped })

-- ---- within the period

pub record Held (p s : ℕ) (v : View) : Type 0 where
  pub pair : InPair v
  pub sector : v.sector ≡ s
  pub low_free : at_leg v.hi_free (low_of s) ≤ p + (dead_time - 9)
  pub high_free : at_leg v.lo_free (high_of s) ≤ p

held_note : (p s : ℕ) (v : View) (n : Note) → NoSteps (n ∷ []) → InPair (told_by v n) → Held p s v → Held p s (told_by v n)
held_note p s v (note.Step t x) o i h = absurd o
held_note p s v (note.Gate t hi lo) o i h = record {
  pair = i;
  sector = h.sector;
  low_free = rw (off_stays v.hi_free v.hi hi t.0 (low_of s) (subst (λ (z : ℕ). is_on v.hi (low_of z) ≡ false) h.sector (high_off v h.pair))) h.low_free;
  high_free = rw (off_stays v.lo_free v.lo lo t.0 (high_of s) (subst (λ (z : ℕ). is_on v.lo (high_of z) ≡ false) h.sector (low_off v h.pair))) h.high_free;
}
held_note p s v (note.Control t number marks d) o i h = record { pair = i; sector = h.sector; low_free = h.low_free; high_free = h.high_free }
held_note p s v n o i h = h

no_steps_one : (n : Note) (notes : List Note) → NoSteps (n ∷ notes) → NoSteps (n ∷ []) × NoSteps notes
no_steps_one (note.Step t s) notes o = absurd o
no_steps_one n notes o = (tt, o)

held_notes : (p s : ℕ) (notes : List Note) (v : View) → NoSteps notes → EachNote v notes → Held p s v → Held p s (fold told_by v notes)
held_notes p s [] v o f h = h
held_notes p s (n ∷ notes) v o f h = let q = no_steps_one n notes o in held_notes p s notes (told_by v n) q.1 f.2 (held_note p s v n q.0 f.1 h)

held_moved : (p s t : ℕ) (v : View) (by : By) → Held p s v → Held p s (moved_by v by t)
held_moved p s t v CommEnters h = record {
  pair = record { high = h.pair.high; low = h.pair.low; sector = h.pair.sector };
  sector = h.sector;
  low_free =
      h.low_free;
  high_free = h.high_free;
}
held_moved p s t v (CommSteps l) h = record {
  pair = record { high = h.pair.high; low = h.pair.low; sector = h.pair.sector };
  sector = h.sector;
  low_free =
      h.low_free;
  high_free = h.high_free;
}
held_moved p s t v PwmEnters h = record {
  pair = record { high = h.pair.high; low = h.pair.low; sector = h.pair.sector };
  sector = h.sector;
  low_free =
      h.low_free;
  high_free = h.high_free;
}
held_moved p s t v (PwmSteps l) h = record {
  pair = record { high = h.pair.high; low = h.pair.low; sector = h.pair.sector };
  sector = h.sector;
  low_free =
      h.low_free;
  high_free = h.high_free;
}
held_moved p s t v Lower h = h

held_next : (p s : ℕ) (before : List Turned) (e : Turned) → NoSteps e.notes → PairFits before e → Held p s (view before) → Held p s (view (before ++ e ∷ []))
held_next p s before e o f h =
    let r = held_notes p s e.notes (moved_by (view before) (by_of e) e.tick) o f (held_moved p s e.tick (view before) (by_of e) h) in
    subst (λ (w : View). Held p s w) (sym (view-push before e)) (record
    { pair = record { high = r.pair.high; low = r.pair.low; sector = r.pair.sector }; sector = r.sector; low_free = r.low_free; high_free = r.high_free })

-- ---- over the log

module _ (cost : ℕ) (trace : List Event) (log : List Turned) (p s u : ℕ) (one : 1 ≤ cost) (some : 0 < p) (drives : 0 < s) (from : p ≤ u + 1)
    (upto : u < p + pwm_period)
    (sector : (at_tick (p - 1) log).sector ≡ s) (free : at_leg (at_tick (p - 1) log).lo_free (high_of s) ≤ p) where
  begins : (before rest : List Turned) → log ≡ before ++ rest → AllBy (p - 1) before → FirstAbove (p - 1) rest → Static (p - 1) (view before)
      → Held p s (view before)
  begins before rest h all above st =
      let same : at_tick (p - 1) log ≡ view before = at_split (p - 1) log before rest h all above in
      let sec : (view before).sector ≡ s = ap (λ (v : View). v.sector) (sym same) ∙ sector in
      let l : at_leg (view before).hi_free (low_of (view before).sector) ≤ (view before).stepped + (dead_time - 8) = st.free (omega arith) in
      let l' : at_leg (view before).hi_free (low_of s) ≤ (view before).stepped + (dead_time - 8) =
      subst (λ (z : ℕ). at_leg (view before).hi_free (low_of z) ≤ (view before).stepped + (dead_time - 8)) sec l in
      let k = st.stepped in
      record { pair = st.pair; sector = sec; low_free = omega arith; high_free = subst (λ (v : View). at_leg v.lo_free (high_of s) ≤ p) same free }

  abbrev pub Stage : List Turned → Type 0
  Stage before = (AllBy (p - 1) before × Static (p - 1) (view before)) ⊎ ((p ≤ after cost trace before) × Held p s (view before))

  pub carried : (before rest : List Turned) → log ≡ before ++ rest → EachStep (StepMade cost trace) before rest → EachStep PairFits before rest
      → EachStep TimesFit before rest → EachStep (NoStep p) before rest → Past cost trace before → AllBy u before
      → Stage before → Held p s (at_tick u log)
  carried before [] h f g a n past all st = subst (λ (v : View). Held p s v) (sym (at_split u log before [] h all tt)) (ends st)
    where
      ends : Stage before → Held p s (view before)
      ends (inl q) = begins before [] h q.0 tt q.1
      ends (inr q) = q.1
  carried before (e ∷ rest) h f g a n past all st = elim (cases_lt u e.tick) [
    | inl lt ↦ subst (λ (v : View). Held p s v) (sym (at_split u log before (e ∷ rest) h all lt)) (ends (omega arith) st)
    | inr le ↦ carried (before ++ e ∷ []) rest (split_on log before rest e h) f.1 g.1 a.1 n.1 (past_on cost trace before e one f.0.later past)
        (by-push u before e all le) (goes le st)
  ]
    where
      ends : p - 1 < e.tick → Stage before → Held p s (view before)
      ends lt (inl q) = begins before (e ∷ rest) h q.0 lt q.1
      ends lt (inr q) = q.1

      above : p ≤ e.tick → p ≤ after cost trace (before ++ e ∷ [])
      above ge = let l = free_later trace (e.tick + cost) in rw (after-push cost trace before e) (omega arith)

      goes : e.tick ≤ u → Stage before → Stage (before ++ e ∷ [])
      goes le (inl q) = elim (cases_lt e.tick p) [
        | inl l ↦ inl (by-push (p - 1) before e q.0 (omega arith), static_next (p - 1) before e (omega arith) g.0 a.0 q.1)
        | inr ge ↦ inr (above ge, held_next p s before e (n.0 ge (omega arith)) g.0 (ends (omega arith) (inl q)))
      ]
      goes le (inr q) =
          let l : after cost trace before ≤ e.tick = f.0.later in
          let k : p ≤ after cost trace before = q.0 in
          let ge : p ≤ e.tick = omega arith in
          inr (above ge, held_next p s before e (n.0 ge (omega arith)) g.0 q.1)

pub start_static : (u : ℕ) → Static u unmoved
start_static u = record {
  pair = record { high = λ x e. absurd (none x e); low = λ x e. absurd (none x e); sector = omega arith };
  free = λ q. absurd (omega arith);
  stepped = omega arith;
}
  where
    none : (x : Leg) → is_on 0 x ≡ true → ⊥
    none leg.A e = cc
    none leg.B e = cc
    none leg.C e = cc

pos_is : (n : ℕ) → 0 < n → (n == 0) ≡ false
pos_is n l = grind (arith, nat_tests)

pub may_turn : (p s t : ℕ) (v : View) → 0 < s → p ≤ t → Held p s v → may_chop v t ≡ true
may_turn p s t v some le h =
    let off : is_on v.lo (high_of s) ≡ false = subst (λ (z : ℕ). is_on v.lo (high_of z) ≡ false) h.sector (low_off v h.pair) in
    let f = h.high_free in
    rw (h.sector, pos_is s some, off, le-leb (at_leg v.lo_free (high_of s)) t (omega arith)) refl
