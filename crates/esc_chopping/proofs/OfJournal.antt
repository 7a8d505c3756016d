-- `Chopped` of the journal.
use Rattle.std.proofs.Common.{◌≡◌, ◌≤◌, ◌<◌, ◌+◌, ◌-◌, ◌*◌, ◌⊎◌, inl, inr, ℕ, Bool, true, false, if◌then◌else◌, nat_le, List, [], ◌∷◌, ◌++◌, reverse, refl, sym, ◌∙◌, ap, subst, arith, append_assoc, append-nil, All}
use Rattle.std.specs.List.{fold}
use Rattle.std.proofs.lemmas.List.{reverse-append}
use Rattle.std.proofs.lemmas.List.Elements.{All-head, All-tail, All-nil, All-cons}
use Rattle.std.proofs.lemmas.Bool.{cases_lt}
use Rattle.esc_base.specs.Times.{chopping_steps, most_duty, pwm_period}
use Rattle.esc_base.specs.declared.gate.Leg.{Leg}
use Rattle.esc_base.specs.declared.gate.Leg.TheVariants as leg
use Rattle.esc_base.specs.declared.kind.Kind.{Kind}
use Rattle.esc_base.specs.declared.kind.Kind.TheVariants as kind
use Rattle.esc_base.specs.declared.event.Event.{Event}
use Rattle.esc_base.specs.declared.note.Note.{Note}
use Rattle.esc_base.specs.declared.note.Note.TheVariants as note
use Rattle.esc_base.specs.Journal.{time_of}
use Rattle.esc_base.specs.Numbers.{kind_number}
use Rattle.esc_base.specs.Range.{InRange}
use Rattle.esc_base.specs.Trace.{tick_of}
use Rattle.settings_block.specs.declared.stored.Loaded.{Loaded}
use Rattle.arming.specs.ControlAt.{demand_at}
use Rattle.esc_laws.specs.Steps.{Turned, opening, load_number, notes_in, journal, after, EachStep, stall_end}
use Rattle.commutation.specs.Sectors.{high_of}
use Rattle.gate_driver.specs.DeadSafe.{high_at, low_at, high_free_at, low_free_at}
use Rattle.commutation.specs.Commutated.{sector_at}
use Rattle.esc_laws.specs.Chopped.{upto, by_tick, NoStallIn, disturbs, Undisturbed, IsChopped, Chopped}
use Rattle.esc_chopping.specs.Stalls.{NoStall}
use Rattle.esc_chopping.specs.View.{By, View, view, moved_by, told_by, by_of, by_kind, has_leave}
use Rattle.gate_driver.specs.Gated.{at_leg, no_legs}
use Rattle.esc_chopping.specs.View.By.{CommEnters, CommSteps, PwmEnters, PwmSteps, Lower}
use Rattle.esc_chopping.specs.Log.{steps_by, at_tick}
use Rattle.esc_chopping.specs.Laws.{StepMade}
use Rattle.esc_chopping.specs.Pairs.{NoSteps, NoStep, AllAt, TimesFit}
use Rattle.esc_chopping.specs.Periods.{NoComm, UndisturbedLog, LogFits}
use Rattle.esc_chopping.specs.Notes.{NotesFit}
use Rattle.esc_laws.proofs.Stalls.{free_later}
use Rattle.esc_chopping.proofs.Pushes.{view-push, view-none}
use Rattle.esc_laws.proofs.Pushes.{after-push}
use Rattle.esc_chopping.proofs.Level.{chopped}
use Rattle.std.proofs.lemmas.Bool.{le-leb, lt-leb}
use Rattle.arming.proofs.InOrder.{reverse-push}
use Rattle.esc_laws.proofs.Pushes.{journal-push}
use Rattle.gate_driver.proofs.OffTimes.{at_offs}

-- ---- the fold says what the notes say, looking back

pub record Says (v : View) (back : List Note) : Type 0 where
  pub hi : v.hi ≡ high_at back
  pub lo : v.lo ≡ low_at back
  pub hi_free : (x : Leg) → at_leg v.hi_free x ≡ high_free_at x back
  pub lo_free : (x : Leg) → at_leg v.lo_free x ≡ low_free_at x back
  pub demand : v.demand ≡ demand_at back
  pub sector : v.sector ≡ sector_at back

pub says_note : (v : View) (back : List Note) (n : Note) → Says v back → Says (told_by v n) (n ∷ back)
says_note v back (note.Gate t hi lo) s = record {
  hi = refl;
  lo = refl;
  hi_free = λ x. at_offs v.hi_free v.hi hi t.0 x ∙ rw (s.hi, s.hi_free x) refl;
  lo_free = λ x. at_offs v.lo_free v.lo lo t.0 x ∙ rw (s.lo, s.lo_free x) refl;
  demand = s.demand;
  sector = s.sector;
}
says_note v back (note.Control t number marks d) s = record { hi = s.hi; lo = s.lo; hi_free = s.hi_free; lo_free = s.lo_free; demand = refl; sector = s.sector }
says_note v back (note.Step t x) s = record { hi = s.hi; lo = s.lo; hi_free = s.hi_free; lo_free = s.lo_free; demand = s.demand; sector = refl }
says_note v back n s = record { hi = s.hi; lo = s.lo; hi_free = s.hi_free; lo_free = s.lo_free; demand = s.demand; sector = s.sector }

says_notes : (v : View) (before notes : List Note) → Says v (reverse before) → Says (fold told_by v notes) (reverse (before ++ notes))
says_notes v before [] s = subst (λ (l : List Note). Says v (reverse l)) (sym (append-nil before)) s
says_notes v before (n ∷ notes) s =
    subst (λ (l : List Note). Says (fold told_by (told_by v n) notes) (reverse l)) (append_assoc before (n ∷ []) notes)
    (says_notes (told_by v n) (before ++ n ∷ []) notes (subst (λ (l : List Note). Says (told_by v n) l) (sym (reverse-push before n))
    (says_note v (reverse before) n s)))

pub says_moved : (v : View) (by : By) (t : ℕ) (back : List Note) → Says v back → Says (moved_by v by t) back
says_moved v CommEnters t back s = record { hi = s.hi; lo = s.lo; hi_free = s.hi_free; lo_free = s.lo_free; demand = s.demand; sector = s.sector }
says_moved v (CommSteps l) t back s = record { hi = s.hi; lo = s.lo; hi_free = s.hi_free; lo_free = s.lo_free; demand = s.demand; sector = s.sector }
says_moved v PwmEnters t back s = record { hi = s.hi; lo = s.lo; hi_free = s.hi_free; lo_free = s.lo_free; demand = s.demand; sector = s.sector }
says_moved v (PwmSteps l) t back s = record { hi = s.hi; lo = s.lo; hi_free = s.hi_free; lo_free = s.lo_free; demand = s.demand; sector = s.sector }
says_moved v Lower t back s = s

says_step : (loaded : Loaded) (before : List Turned) (e : Turned) → Says (view before) (reverse (journal loaded before))
    → Says (view (before ++ e ∷ [])) (reverse (journal loaded (before ++ e ∷ [])))
says_step loaded before e s =
    let r = says_notes (moved_by (view before) (by_of e) e.tick) (journal loaded before) e.notes
    (says_moved (view before) (by_of e) e.tick (reverse (journal loaded before)) s) in
    subst (λ (l : List Note). Says (view (before ++ e ∷ [])) (reverse l)) (sym (journal-push loaded before e))
    (subst (λ (w : View). Says w (reverse (journal loaded before ++ e.notes))) (sym (view-push before e))
    (record { hi = r.hi; lo = r.lo; hi_free = r.hi_free; lo_free = r.lo_free; demand = r.demand; sector = r.sector }))

says_from : (loaded : Loaded) (before rest : List Turned) → Says (view before) (reverse (journal loaded before))
    → Says (view (before ++ rest)) (reverse (journal loaded (before ++ rest)))
says_from loaded before [] s = subst (λ (l : List Turned). Says (view l) (reverse (journal loaded l))) (sym (append-nil before)) s
says_from loaded before (e ∷ rest) s = subst (λ (l : List Turned). Says (view l) (reverse (journal loaded l))) (append_assoc before (e ∷ []) rest)
    (says_from loaded (before ++ e ∷ []) rest (says_step loaded before e s))

pub says_all : (loaded : Loaded) (log : List Turned) → Says (view log) (reverse (journal loaded log))
says_all loaded log = says_from loaded [] log (subst (λ (v : View). Says v (reverse (journal loaded []))) (sym view-none)
    (record { hi = refl; lo = refl; hi_free = none; lo_free = none; demand = refl; sector = refl }))
  where
    none : (x : Leg) → at_leg no_legs x ≡ 0
    none leg.A = refl
    none leg.B = refl
    none leg.C = refl

-- ---- the notes up to a tick are those of the steps up to it

upto_in : (t u : ℕ) (notes rest : List Note) → u ≤ t → All (λ n. time_of n ≡ u) notes → upto t (notes ++ rest) ≡ notes ++ upto t rest
upto_in t u [] rest le a = refl
upto_in t u (n ∷ notes) rest le a =
    let e : time_of n ≡ u = All-head (λ x. time_of x ≡ u) n notes a in
    rw (le-leb (time_of n) t (omega arith)) (ap (λ (l : List Note). n ∷ l) (upto_in t u notes rest le (All-tail (λ x. time_of x ≡ u) n notes a)))

upto_out : (t u : ℕ) (notes rest : List Note) → t < u → All (λ n. time_of n ≡ u) notes → upto t rest ≡ [] → upto t (notes ++ rest) ≡ []
upto_out t u [] rest l a e = e
upto_out t u (n ∷ notes) rest l a e = let q : time_of n ≡ u = All-head (λ x. time_of x ≡ u) n notes a in rw (lt-leb (time_of n) t (omega arith)) refl

none_above : (cost : ℕ) (trace : List Event) (t : ℕ) (before rest : List Turned) → t < after cost trace before → EachStep (StepMade cost trace) before rest
    → EachStep NotesFit before rest → upto t (notes_in rest) ≡ []
none_above cost trace t before [] l f g = refl
none_above cost trace t before (e ∷ rest) l f g =
    let later : after cost trace before ≤ e.tick = f.0.later in
    let more = free_later trace (e.tick + cost) in
    upto_out t e.tick e.notes (notes_in rest) (omega arith) g.0.at_tick (none_above cost trace t (before
    ++ e ∷ []) rest (rw (after-push cost trace before e) (omega arith)) f.1 g.1)

made_upto : (cost : ℕ) (trace : List Event) (t : ℕ) (before rest : List Turned) → EachStep (StepMade cost trace) before rest → EachStep NotesFit before rest
    → upto t (notes_in rest) ≡ notes_in (steps_by t rest)
made_upto cost trace t before [] f g = refl
made_upto cost trace t before (e ∷ rest) f g = elim (cases_lt t e.tick) [
  | inl l ↦ rw (lt-leb e.tick t l) (
      let more = free_later trace (e.tick + cost) in
      upto_out t e.tick e.notes (notes_in rest) l g.0.at_tick (none_above cost trace t (before
      ++ e ∷ []) rest (rw (after-push cost trace before e) (omega arith)) f.1 g.1))
  | inr le ↦ rw (le-leb e.tick t le) (upto_in t e.tick e.notes (notes_in rest) le g.0.at_tick
      ∙ ap (λ (l : List Note). e.notes ++ l) (made_upto cost trace t (before ++ e ∷ []) rest f.1 g.1))
]

-- ---- what disturbs

abbrev NoneWithin : ℕ → List Note → Type 0
NoneWithin p [] = Unit {0}
NoneWithin p (n ∷ notes) = (p ≤ time_of n → time_of n < p + pwm_period → disturbs n ≡ false) × NoneWithin p notes

none_of : (p : ℕ) (notes : List Note) → All (λ n. p ≤ time_of n → time_of n < p + pwm_period → disturbs n ≡ false) notes → NoneWithin p notes
none_of p [] a = tt
none_of p (n ∷ notes) a = (
  All-head (λ x. p ≤ time_of x → time_of x < p + pwm_period → disturbs x ≡ false) n notes a,
  none_of p notes
      (All-tail (λ x. p ≤ time_of x → time_of x < p + pwm_period → disturbs x ≡ false) n notes a),
)

no_stall : (a b : ℕ) (trace : List Event) → NoStallIn a b trace → NoStall a b trace
no_stall a b [] n = tt
no_stall a b (e ∷ trace) n = (
  All-head (λ x. (stall_end x ≤ a) ⊎ (b < tick_of x)) e trace n,
  no_stall a b trace
      (All-tail (λ x. (stall_end x ≤ a) ⊎ (b < tick_of x)) e trace n),
)

none_split : (p : ℕ) (xs ys : List Note) → NoneWithin p (xs ++ ys) → NoneWithin p xs × NoneWithin p ys
none_split p [] ys n = (tt, n)
none_split p (x ∷ xs) ys n = let r = none_split p xs ys n.1 in ((n.0, r.0), r.1)

no_q : (p t : ℕ) (notes : List Note) → All (λ n. time_of n ≡ t) notes → NoneWithin p notes → p ≤ t → t < p + pwm_period → NoSteps notes
no_q p t [] a w lo hi = tt
no_q p t (note.Step u s ∷ notes) a w lo hi = let e : u.0 ≡ t = All-head (λ x. time_of x ≡ t) (note.Step u s) notes a in let z =
    w.0 (omega arith) (omega arith) in absurd (cc)
no_q p t (n ∷ notes) a w lo hi = no_q p t notes (All-tail (λ x. time_of x ≡ t) n notes a) w.1 lo hi

q_times : (t : ℕ) (notes : List Note) → All (λ n. time_of n ≡ t) notes → AllAt t notes
q_times t [] a = tt
q_times t (note.Step u s ∷ notes) a = (
  All-head (λ x. time_of x ≡ t) (note.Step u s) notes a,
  q_times t notes
      (All-tail (λ x. time_of x ≡ t) (note.Step u s) notes a),
)
q_times t (n ∷ notes) a = q_times t notes (All-tail (λ x. time_of x ≡ t) n notes a)

pub times_fit : (before rest : List Turned) → EachStep NotesFit before rest → EachStep TimesFit before rest
times_fit before [] g = tt
times_fit before (e ∷ rest) g = (q_times e.tick e.notes g.0.at_tick, times_fit (before ++ e ∷ []) rest g.1)

no_steps : (p : ℕ) (before rest : List Turned) → EachStep NotesFit before rest → NoneWithin p (notes_in rest) → EachStep (NoStep p) before rest
no_steps p before [] g n = tt
no_steps p before (e ∷ rest) g n = let s = none_split p e.notes (notes_in rest) n in (
  λ lo hi. no_q p e.tick e.notes g.0.at_tick s.0 lo hi,
  no_steps p
      (before ++ e ∷ []) rest g.1 s.1,
)

comm_enters : (k : Kind) (b l : Bool) → by_kind k b l ≡ CommEnters → (k ≡ kind.Comm) × (b ≡ true)
comm_enters kind.Comm true l e = (refl, refl)
comm_enters kind.Comm false l e = absurd (cc)
comm_enters kind.Pwm true l e = absurd (cc)
comm_enters kind.Pwm false l e = absurd (cc)
comm_enters kind.Main b l e = absurd (cc)
comm_enters kind.Uart b l e = absurd (cc)
comm_enters kind.Tick b l e = absurd (cc)
comm_enters kind.Cap b l e = absurd (cc)
comm_enters kind.Cmp b l e = absurd (cc)

no_comm : (p : ℕ) (before rest : List Turned) → EachStep NotesFit before rest → NoneWithin p (notes_in rest) → EachStep (NoComm p) before rest
no_comm p before [] g n = tt
no_comm p before (e ∷ rest) g n =
    let s = none_split p e.notes (notes_in rest) n in (
      λ lo hi q.
          let c = comm_enters e.kind e.enters (has_leave e.notes) q in
          let is : e.notes ≡ note.Enter (record { 0 = e.tick }) 6 ∷ [] = g.0.entry c.1
          ∙ ap (λ (k : Kind). note.Enter (record { 0 = e.tick }) (kind_number k) ∷ []) c.0 in
          let w = subst (λ (ns : List Note). NoneWithin p ns) is s.0 in
          (let z = w.0 lo hi in cc),
      no_comm p (before ++ e ∷ []) rest g.1 s.1,
    )

-- ---- the theorem over the journal

-- the demands of a journal in range
small_demand : (t : ℕ) (notes back : List Note) → All InRange notes → demand_at back ≤ most_duty → demand_at (reverse (upto t notes) ++ back) ≤ most_duty
small_demand t [] back a b = b
small_demand t (n ∷ notes) back a b = by_time (nat_le (time_of n) t) (small_demand t notes (n ∷ back) (All-tail InRange n notes a)
    (one n (All-head InRange n notes a)))
  where
    one : (x : Note) → InRange x → demand_at (x ∷ back) ≤ most_duty
    one (note.Control u number marks d) r = r.1.1.1
    one x r = b

    by_time : (v : Bool) → demand_at (reverse (upto t notes) ++ n ∷ back) ≤ most_duty
        → demand_at (reverse (if v then n ∷ upto t notes else []) ++ back) ≤ most_duty
    by_time false r = b
    by_time true r = subst (λ (l : List Note). demand_at l ≤ most_duty) (sym
        (ap (λ (l : List Note). l ++ back) (reverse-append (n ∷ []) (upto t notes)) ∙ append_assoc (reverse (upto t notes)) (n ∷ []) back)) r

module _ (loaded : Loaded) (cost : ℕ) (trace : List Event) (log : List Turned) (until : ℕ) (one : 1 ≤ cost) (few : cost ≤ 16)
    (legal : LogFits cost trace until log) (fit : EachStep NotesFit [] log) (range : All InRange (journal loaded log)) where
  opening_times : All (λ n. time_of n ≡ 0) (opening loaded)
  opening_times = All-cons (λ n. time_of n ≡ 0) (note.Up (record { 0 = 0 }) (load_number loaded.fault)) (note.Window (record { 0 = 0 }) 0 ∷ []) refl
      (All-cons (λ n. time_of n ≡ 0) (note.Window (record { 0 = 0 }) 0) [] refl (All-nil (λ n. time_of n ≡ 0)))

  by_made : (t : ℕ) → by_tick t (journal loaded log) ≡ reverse (journal loaded (steps_by t log))
  by_made t = ap (λ (l : List Note). reverse l) (upto_in t 0 (opening loaded) (notes_in log) (omega arith) opening_times
      ∙ ap (λ (l : List Note). opening loaded ++ l) (made_upto cost trace t [] log legal.fits fit))

  says_at : (t : ℕ) → Says (at_tick t log) (by_tick t (journal loaded log))
  says_at t = subst (λ (l : List Note). Says (at_tick t log) l) (sym (by_made t)) (says_all loaded (steps_by t log))

  within : (p : ℕ) → All (λ n. p ≤ time_of n → time_of n < p + pwm_period → disturbs n ≡ false) (journal loaded log) → NoneWithin p (notes_in log)
  within p a = (none_split p (opening loaded) (notes_in log) (none_of p (journal loaded log) a)).1

  small : (t d : ℕ) → demand_at (by_tick t (journal loaded log)) ≡ d → d ≤ most_duty
  small t d e =
      let a : demand_at (reverse (upto t (journal loaded log)) ++ []) ≤ most_duty = small_demand t (journal loaded log) [] range (omega arith) in
      let b : demand_at (by_tick t (journal loaded log)) ≤ most_duty = subst (λ (l : List Note). demand_at l ≤ most_duty)
      (append-nil (reverse (upto t (journal loaded log)))) a in
      omega arith

  quiet_of : (p d m : ℕ) → p ≡ pwm_period * m → Undisturbed cost trace (journal loaded log) (pwm_period * m) d
      → UndisturbedLog cost trace log m d (sector_at (by_tick (pwm_period * m - 1) (journal loaded log)))
  quiet_of p d m e y = record {
    drives = y.drives;
    duty = small (pwm_period * m) d (y.demand (pwm_period * m) (omega arith) (omega arith));
    later = let a = y.before in omega arith;
    demand = λ u lo hi. (says_at u).demand ∙ y.demand u lo hi;
    stalls = no_stall (pwm_period * m - chopping_steps * cost) (pwm_period * m + (pwm_period - 1)) trace y.stalls;
    some_sector = y.sector;
    sector = (says_at (pwm_period * m - 1)).sector;
    none_steps = no_steps (pwm_period * m) [] log fit (within (pwm_period * m) y.none);
    none_enters = no_comm (pwm_period * m) [] log fit (within (pwm_period * m) y.none);
    high_free = rw ((says_at (pwm_period * m - 1)).lo_free (high_of (sector_at (by_tick (pwm_period * m - 1) (journal loaded log))))) y.free;
  }

  at_multiple : (m d : ℕ) → Undisturbed cost trace (journal loaded log) (pwm_period * m) d
      → IsChopped cost until (journal loaded log) (pwm_period * m) d (sector_at (by_tick (pwm_period * m - 1) (journal loaded log)))
  at_multiple m d y =
      let c = chopped cost trace log m d (sector_at (by_tick (pwm_period * m - 1) (journal loaded log))) until one few legal
      (quiet_of (pwm_period * m) d m refl y) in
      record {
        high_on = λ t b lo hi. rw (sym (says_at t).hi) (c.high_on t b lo hi);
        high_off = λ t b lo hi. rw (sym (says_at t).hi) (c.high_off t b lo hi);
        low_on = λ t b lo hi. rw (sym (says_at t).lo) (c.low_on t b lo hi);
        other_low_off = λ t b lo hi. rw (sym (says_at t).lo) (c.other_low_off t lo hi);
      }

  pub is_chopped : Chopped cost trace until (journal loaded log)
  is_chopped p d y =
      subst (λ (q : ℕ). Undisturbed cost trace (journal loaded log) q d
      → IsChopped cost until (journal loaded log) q d (sector_at (by_tick (q - 1) (journal loaded log)))) (sym y.starts) (at_multiple y.number d) y
