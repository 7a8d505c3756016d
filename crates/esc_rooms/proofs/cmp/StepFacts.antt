-- What each of CMP's steps makes of the search for a crossing.
use Rattle.std.proofs.Common.{◌≡◌, ◌≤◌, ◌+◌, ◌⊎◌, inl, inr, ℕ, Bool, true, false, not, ◌&&◌, ◌||◌, nat_le, if◌then◌else◌, Some, None, refl, ◌∙◌, ap, arith}
use Rattle.std.proofs.lemmas.Bool.{and_parts}
use Rattle.std.proofs.lemmas.Bool.Decides.{nat_tests}
use Rattle.esc_base.specs.Times.{filter_time, rejected_blanking}
use Rattle.esc_base.specs.Numbers.{as_tick}
use Rattle.esc_base.specs.Trace.{differ}
use Rattle.zero_cross.specs.declared.phase.Phase.{Phase}
use Rattle.zero_cross.specs.declared.phase.Phase.TheVariants as phase
use Rattle.zero_cross.specs.Comparator.{Held, is_steady}
use Rattle.zero_cross.specs.Kept.{is_expected, MayFilter}
use Rattle.commutation.specs.Commutated.{Turn, Idle, Started, Turned, Crossed, crossed_by}
use Rattle.commutation.specs.Pace.{Pace}
use Rattle.esc_core.specs.declared.state.CmpAt.{CmpAt}
use Rattle.esc_core.specs.declared.state.CmpAt.TheVariants as cmp
use Rattle.esc_laws.specs.Searched.{Sight, Away, Begun, Awaits, First, Settles, Second, sight_left, sight_crossed}
use Rattle.esc_rooms.proofs.cmp.Seldom.{seldom_moves, pace_early, pace_blanked, pace_read, pace_rejected, pace_filters}
use Rattle.esc_rooms.proofs.cmp.Watch.{watch_moves, watch_returned, hears_more}
use Rattle.esc_rooms.specs.CrossTied.{CrossView, CrossTied, PhaseTied, Armed, Filters, SightTied, IsBlanked, LateTied, HasQ, HasZ, to_come, is_some, is_shut, is_begun}
use Rattle.esc_laws.proofs.Comparator.{bit_acked}
use Rattle.std.proofs.lemmas.Bool.{leb-true, leb-false}
use Rattle.esc_rooms.proofs.cmp.CrossFacts.{is_false}
use Rattle.std.proofs.lemmas.Bool.{or_right}
use Rattle.esc_rooms.proofs.cmp.Facts.{Stands, Free, phase_more, passes_more, seen_moves, Goes}

-- ---- the mask goes up

pub raised : (v : CrossView) (p : Phase) → Free v → Stands v cmp.Raise p → Goes v cmp.Look p v.changed v.enabled v.timer
raised v p free s = record {
  open_still = refl;
  phase_is = phase_more p v.turn v.changed v.held.since v.blanked v.time v.past (v.time + 1) (let l = free.past in omega arith) s.phase_is;
  regs = s.regs;
  few = s.few;
  seen = seen_moves v.sight cmp.Raise cmp.Look p p v.held v.expects v.blanked v.time v.past (v.time + 1) (let l = free.past in omega arith) refl
      (λ i l f. f) (λ i z l f. f) s.seen;
  late = late_same p v.postponed s.late;
  watch = watch_moves cmp.Raise cmp.Look p p v.changed v.changed (is_expected v.search v.level) (is_expected v.search v.level) v.looking v.looked v.time v.past (v.time + 1) refl (λ h. h) s.watch;
  seldom = seldom_moves cmp.Raise cmp.Look p p v.time v.entries v.looks (λ gap l le o h. h) s.seldom;
}
  where
    late_same : (p : Phase) (postponed : Bool) → LateTied cmp.Raise p postponed → LateTied cmp.Look p postponed
    late_same phase.Off postponed x = tt
    late_same (phase.Blank end) postponed x = tt
    late_same phase.Watch postponed x = tt
    late_same (phase.Filter end) postponed x = x
    late_same phase.Done postponed x = tt

-- ---- it looks

few_blanked : (q : ℕ) (armed changed well : Bool) → q + (if armed then 3 else if well then 1 else 0) ≤ 3
    → q + (if well then 1 else if armed || (changed && false) then 3 else 0) ≤ 3
few_blanked q true changed true l = omega arith
few_blanked q true changed false l = l
few_blanked q false changed true l = l
few_blanked q false true false l = l
few_blanked q false false false l = l

few_ready : (q : ℕ) (armed changed well : Bool) → well ≡ true → q + (if well then 1 else if armed || changed then 3 else 0) ≤ 3
    → q + (if well then 1 else 2) ≤ 3
few_ready q armed changed true e l = l
few_ready q armed changed false e l = cc

few_unready : (q : ℕ) (armed changed well : Bool) → well ≡ false → q + (if well then 1 else if armed || changed then 3 else 0) ≤ 3
    → q + (if armed || changed then (if well then 2 else 3) else 0) ≤ 3
few_unready q armed changed true e l = cc
few_unready q armed changed false e l = l

few_early : (q : ℕ) (well : Bool) → q + 3 ≤ 3 → q + (if well then 2 else 1) ≤ 3
few_early q true l = omega arith
few_early q false l = omega arith

few_reject : (q : ℕ) (changed well : Bool) → (well && not changed) ≡ false → q + (if well then (if changed then 2 else 0) else 1) ≤ 3
    → q + (if well then 2 else 1) ≤ 3
few_reject q true true e l = l
few_reject q false true e l = cc
few_reject q changed false e l = l

-- nothing is due
pub looked_off : (v : CrossView) → Free v → Stands v cmp.Look phase.Off → Goes v cmp.Lower phase.Off v.changed v.enabled v.timer
looked_off v free s = record {
  open_still = refl;
  phase_is = s.phase_is;
  regs = (s.regs.0, s.regs.1);
  few = s.few;
  seen = seen_moves v.sight cmp.Look cmp.Lower phase.Off phase.Off v.held v.expects v.blanked v.time v.past (v.time + 1) (let l = free.past in omega arith) refl
      (λ i l f. absurd f) (λ i z l f e. absurd (f e)) s.seen;
  late = tt;
  watch = watch_moves cmp.Look cmp.Lower phase.Off phase.Off v.changed v.changed (is_expected v.search v.level) (is_expected v.search v.level) v.looking v.looked v.time v.past (v.time + 1) refl (λ h e. tt) s.watch;
  seldom = seldom_moves cmp.Look cmp.Lower phase.Off phase.Off v.time v.entries v.looks (λ gap l le o h. tt) s.seldom;
}

pub looked_done : (v : CrossView) → Free v → Stands v cmp.Look phase.Done → Goes v cmp.Lower phase.Done v.changed v.enabled v.timer
looked_done v free s = record {
  open_still = refl;
  phase_is = s.phase_is;
  regs = (s.regs.0, s.regs.1);
  few = s.few;
  seen = seen_moves v.sight cmp.Look cmp.Lower phase.Done phase.Done v.held v.expects v.blanked v.time v.past (v.time + 1)
      (let l = free.past in omega arith) refl
      (λ i l f. absurd f) (λ i z l f e. absurd (f e)) s.seen;
  late = tt;
  watch = watch_moves cmp.Look cmp.Lower phase.Done phase.Done v.changed v.changed (is_expected v.search v.level) (is_expected v.search v.level) v.looking v.looked v.time v.past (v.time + 1) refl (λ h e. tt) s.watch;
  seldom = seldom_moves cmp.Look cmp.Lower phase.Done phase.Done v.time v.entries v.looks (λ gap l le o h. tt) s.seldom;
}

-- blanking isn't over: a Q came since the entry
pub looked_early : (v : CrossView) (end : ℕ) → nat_le end v.time ≡ false → Free v → Stands v cmp.Look (phase.Blank (as_tick end))
    → Goes v cmp.Lower (phase.Blank (as_tick end)) v.changed v.enabled v.timer
looked_early v end early free s = record {
  open_still = refl;
  phase_is = s.phase_is;
  regs = waits s.regs.0 s.regs.1;
  few = few_early (v.quiet v.held.since) (is_expected v.search v.level) (armed s.regs.0 s.few);
  seen = seen_moves v.sight cmp.Look cmp.Lower (phase.Blank (as_tick end)) (phase.Blank (as_tick end)) v.held v.expects v.blanked v.time v.past (v.time + 1)
      (let l = free.past in omega arith) refl
      (λ i l f. absurd (let a = leb-false end v.time early in let b : end ≤ v.time = f in omega arith)) (λ i z l f e. absurd (f e)) s.seen;
  late = tt;
  watch = watch_moves cmp.Look cmp.Lower (phase.Blank (as_tick end)) (phase.Blank (as_tick end)) v.changed v.changed (is_expected v.search v.level) (is_expected v.search v.level) v.looking v.looked v.time v.past (v.time + 1) refl (λ h e. absurd (let a = leb-false end v.time early in let b : end ≤ v.time = h e in omega arith)) s.watch;
  seldom = seldom_moves cmp.Look cmp.Lower (phase.Blank (as_tick end)) (phase.Blank (as_tick end)) v.time v.entries v.looks (λ gap l le o h. pace_early gap end v.time l (leb-false end v.time early) h) s.seldom;
}
  where
    waits : (v.timer ≡ Some end) ⊎ ((v.timer ≡ None) × (end ≤ v.time)) → v.enabled ≡ false → (v.timer ≡ Some end) × (v.enabled ≡ false)
    waits (inl c) h = (c, h)
    waits (inr c) h = absurd (let a = leb-false end v.time early in let b = c.1 in omega arith)

    armed : (v.timer ≡ Some end) ⊎ ((v.timer ≡ None) × (end ≤ v.time))
        → v.quiet v.held.since + (if is_some v.timer then 3 else if is_expected v.search v.level then 1 else 0) ≤ 3 → v.quiet v.held.since + 3 ≤ 3
    armed (inl c) f = rw c at f
    armed (inr c) f = absurd (let a = leb-false end v.time early in let b = c.1 in omega arith)

-- blanking is over: a change of the comparator asks for CMP
pub looked_blanked : (v : CrossView) (end : ℕ) → nat_le end v.time ≡ true → Free v → Stands v cmp.Look (phase.Blank (as_tick end))
    → Goes v cmp.Read (phase.Blank (as_tick end)) (v.changed && false) (v.enabled || true) v.timer
looked_blanked v end over free s = record {
  open_still = refl;
  phase_is = s.phase_is;
  regs = (leb-true end v.time over, or_right v.enabled true refl);
  few = few_blanked (v.quiet v.held.since) (is_some v.timer) v.changed (is_expected v.search v.level) s.few;
  seen = seen_moves v.sight cmp.Look cmp.Read (phase.Blank (as_tick end)) (phase.Blank (as_tick end)) v.held v.expects v.blanked v.time v.past (v.time + 1)
      (let l = free.past in omega arith) refl (λ i l f. tt) (λ i z l f e. absurd (f e)) s.seen;
  late = tt;
  watch = watch_moves cmp.Look cmp.Read (phase.Blank (as_tick end)) (phase.Blank (as_tick end)) v.changed (v.changed && false) (is_expected v.search v.level) (is_expected v.search v.level) v.looking v.looked v.time v.past (v.time + 1) refl (λ h. tt) s.watch;
  seldom = seldom_moves cmp.Look cmp.Read (phase.Blank (as_tick end)) (phase.Blank (as_tick end)) v.time v.entries v.looks (λ gap l le o h. pace_blanked gap end v.time l o (leb-true end v.time over) h) s.seldom;
}

-- ---- it reads the comparator

pub read_ready : (v : CrossView) (p : Phase) → IsBlanked p v.time → is_expected v.search v.level ≡ true → Free v → Stands v cmp.Read p
    → Goes v cmp.Ack p v.changed v.enabled v.timer
read_ready v p over well free s = record {
  open_still = refl;
  phase_is = phase_more p v.turn v.changed v.held.since v.blanked v.time v.past (v.time + 1) (let l = free.past in omega arith) s.phase_is;
  regs = may_begin p over;
  few = few_ready (v.quiet v.held.since) (is_some v.timer) v.changed (is_expected v.search v.level) well s.few;
  seen = seen_moves v.sight cmp.Read cmp.Ack p p v.held v.expects v.blanked v.time v.past (v.time + 1)
      (let l = free.past in omega arith) refl (λ i l f. tt) (λ i z l f. f) s.seen;
  late = tt;
  watch = watch_moves cmp.Read cmp.Ack p p v.changed v.changed (is_expected v.search v.level) (is_expected v.search v.level) v.looking v.looked v.time v.past (v.time + 1) refl (λ h. tt) s.watch;
  seldom = seldom_moves cmp.Read cmp.Ack p p v.time v.entries v.looks (λ gap l le o h. pace_read gap v.time l o h) s.seldom;
}
  where
    may_begin : (p : Phase) → IsBlanked p v.time → MayFilter p v.time
    may_begin phase.Off b = absurd b
    may_begin (phase.Blank end) b = b
    may_begin phase.Watch b = absurd b
    may_begin (phase.Filter end) b = absurd b
    may_begin phase.Done b = absurd b

-- a steady level is read as the expected one
unsteady : (h : Held) (level told expects : Bool) (i : ℕ) → level ≡ h.level → told ≡ expects → not (differ level told) ≡ false → is_steady h expects i ≡ false
unsteady h level told expects i e f ill = rw (← e, ← f, ill) refl

pub read_unready : (v : CrossView) (p : Phase) → IsBlanked p v.time → is_expected v.search v.level ≡ false → Free v → CrossTied v → Stands v cmp.Read p
    → Goes v cmp.Lower phase.Watch v.changed v.enabled v.timer
read_unready v p over ill free t s = record {
  open_still = refl;
  phase_is = watches p over s.phase_is;
  regs = s.regs.1;
  few = few_unready (v.quiet v.held.since) (is_some v.timer) v.changed (is_expected v.search v.level) ill s.few;
  seen = seen_moves v.sight cmp.Read cmp.Lower p phase.Watch v.held v.expects v.blanked v.time v.past (v.time + 1) (let l = free.past in omega arith) refl
      (λ i l f e. absurd (is_false _ (unsteady v.held v.level v.search.expects v.expects i t.level_is t.expects_is ill) e)) (λ i z l f. f) s.seen;
  late = tt;
  watch = watch_moves cmp.Read cmp.Lower p phase.Watch v.changed v.changed (is_expected v.search v.level) (is_expected v.search v.level) v.looking v.looked v.time v.past (v.time + 1) refl (λ h e x. absurd (is_false _ ill x)) s.watch;
  seldom = seldom_moves cmp.Read cmp.Lower p phase.Watch v.time v.entries v.looks (λ gap l le o h. h) s.seldom;
}
  where
    watches : (p : Phase) → IsBlanked p v.time → PhaseTied p v.turn v.changed v.held.since v.blanked v.time v.past → HasQ v.turn × (v.blanked ≤ v.time)
    watches phase.Off b x = absurd b
    watches (phase.Blank end) b x = (x.0, (let l = x.1 in let m : end.0 ≤ v.time = b in omega arith))
    watches phase.Watch b x = absurd b
    watches (phase.Filter end) b x = absurd b
    watches phase.Done b x = absurd b

pub looked_watch : (v : CrossView) → Free v → Stands v cmp.Look phase.Watch → Goes v cmp.Ack phase.Watch v.changed v.enabled v.timer
looked_watch v free s = record {
  open_still = refl;
  phase_is = s.phase_is;
  regs = tt;
  few = s.few;
  seen = seen_moves v.sight cmp.Look cmp.Ack phase.Watch phase.Watch v.held v.expects v.blanked v.time v.past (v.time + 1)
      (let l = free.past in omega arith) refl (λ i l f. tt) (λ i z l f e. absurd (f e)) s.seen;
  late = tt;
  watch = watch_moves cmp.Look cmp.Ack phase.Watch phase.Watch v.changed v.changed (is_expected v.search v.level) (is_expected v.search v.level) v.looking v.looked v.time v.past (v.time + 1) refl (λ h. tt) s.watch;
  seldom = seldom_moves cmp.Look cmp.Ack phase.Watch phase.Watch v.time v.entries v.looks (λ gap l le o h. h) s.seldom;
}

steady_good : (h : Held) (level told expects : Bool) (i : ℕ) → level ≡ h.level → told ≡ expects → is_steady h expects i ≡ true → not (differ level told) ≡ true
steady_good h level told expects i e f st = rw (e, f) (and_parts (not (differ h.level expects)) (nat_le h.since i) st).0

steady_clean : (h : Held) (expects changed : Bool) (i begun : ℕ) → is_steady h expects i ≡ true → changed ≡ not (nat_le h.since begun) → i ≤ begun
    → changed ≡ false
steady_clean h expects changed i begun st bit l = by_since h.since (and_parts (not (differ h.level expects)) (nat_le h.since i) st).1 bit
  where
    by_since : (since : ℕ) → nat_le since i ≡ true → changed ≡ not (nat_le since begun) → changed ≡ false
    by_since since a b = grind (arith, nat_tests)

both : (well changed : Bool) → well ≡ true → changed ≡ false → (well && not changed) ≡ false → ⊥
both true false w c ill = cc
both true true w c ill = cc
both false changed w c ill = cc

pub looked_reject : (v : CrossView) (end : ℕ) → nat_le end v.time ≡ true → (is_expected v.search v.level && not v.changed) ≡ false → Free v → CrossTied v
    → Stands v cmp.Look (phase.Filter (as_tick end)) → Goes v cmp.Arm (phase.Blank (as_tick (v.time + rejected_blanking))) v.changed v.enabled v.timer
looked_reject v end over ill free t s =
    let f = s.phase_is.1 in
    record {
      open_still = refl;
      phase_is = (s.phase_is.0, (let a = f.after in let b : end ≡ f.begun + filter_time = f.end_is in let c = leb-true end v.time over in omega arith));
      regs = tt;
      few = few_reject (v.quiet v.held.since) v.changed (is_expected v.search v.level) ill s.few;
      seen = seen_moves v.sight cmp.Look cmp.Arm (phase.Filter (as_tick end)) (phase.Blank (as_tick (v.time + rejected_blanking))) v.held v.expects v.blanked
          v.time v.past
          (v.time + 1) (let l = free.past in omega arith) refl (λ i l f. absurd f)
          (λ i z l g y. absurd (
          let q : i + filter_time ≤ end = (g y).1 in
          let b : end ≡ f.begun + filter_time = f.end_is in
          both (is_expected v.search v.level) v.changed (steady_good v.held v.level v.search.expects v.expects i t.level_is t.expects_is y)
          (steady_clean v.held v.expects v.changed i f.begun y f.bit (omega arith)) ill)) s.seen;
      late = tt;
      watch = watch_moves cmp.Look cmp.Arm (phase.Filter (as_tick end)) (phase.Blank (as_tick (v.time + 400))) v.changed v.changed (is_expected v.search v.level) (is_expected v.search v.level) v.looking v.looked v.time v.past (v.time + 1) refl (λ h e. omega arith) s.watch;
      seldom = seldom_moves cmp.Look cmp.Arm (phase.Filter (as_tick end)) (phase.Blank (as_tick (v.time + 400))) v.time v.entries v.looks (λ gap l le o h. pace_rejected gap v.time l le o) s.seldom;
    }

-- ---- a filter begins

pub acked : (v : CrossView) (p : Phase) → Free v → Stands v cmp.Ack p → Goes v cmp.Arm (phase.Filter (as_tick (v.time + filter_time))) false v.enabled v.timer
acked v p free s = record {
  open_still = refl;
  phase_is = filters p s.regs s.phase_is;
  regs = tt;
  few = s.few;
  seen = seen_moves v.sight cmp.Ack cmp.Arm p (phase.Filter (as_tick (v.time + filter_time))) v.held v.expects v.blanked v.time v.past (v.time + 1)
      (let l = free.past in omega arith) refl (λ i l f e. (let a = free.past in omega arith, let a = free.past in omega arith)) (λ i z l f. f) s.seen;
  late = tt;
  watch = watch_moves cmp.Ack cmp.Arm p (phase.Filter (as_tick (v.time + 24))) v.changed false (is_expected v.search v.level) (is_expected v.search v.level) v.looking v.looked v.time v.past (v.time + 1) refl (λ h e. omega arith) s.watch;
  seldom = seldom_moves cmp.Ack cmp.Arm p (phase.Filter (as_tick (v.time + 24))) v.time v.entries v.looks (λ gap l le o h. pace_filters gap v.time l h) s.seldom;
}
  where
    begins : v.blanked ≤ v.time → Filters false (v.time + filter_time) v.held.since v.blanked (v.time + 1)
    begins l = record { begun = v.time; end_is = refl; below = omega arith; bit = bit_acked v.held v.time free.since; after = l }

    filters : (p : Phase) → MayFilter p v.time → PhaseTied p v.turn v.changed v.held.since v.blanked v.time v.past
        → HasQ v.turn × Filters false (v.time + filter_time) v.held.since v.blanked (v.time + 1)
    filters (phase.Blank end) m t = (t.0, begins (let a = t.1 in let b : end.0 ≤ v.time = m in omega arith))
    filters phase.Watch m t = (t.0, begins t.1)
    filters phase.Off m t = absurd m
    filters (phase.Filter end) m t = absurd m
    filters phase.Done m t = absurd m

-- ---- the registers are written

pub armed : (v : CrossView) (p : Phase) (end : ℕ) → (p ≡ phase.Blank (as_tick end)) ⊎ (p ≡ phase.Filter (as_tick end)) → Free v → Stands v cmp.Arm p
    → Goes v cmp.Lower p v.changed false (Some end)
armed v p end which free s = record {
  open_still = refl;
  phase_is = phase_more p v.turn v.changed v.held.since v.blanked v.time v.past (v.time + 1) (let l = free.past in omega arith) s.phase_is;
  regs = regs p which;
  few = few p which s.few;
  seen = seen_moves v.sight cmp.Arm cmp.Lower p p v.held v.expects v.blanked v.time v.past (v.time + 1) (let l = free.past in omega arith) refl
      (λ i l f e. passes_more p i (v.past + filter_time) ((v.time + 1) + filter_time) (let a = free.past in omega arith) (f e)) (λ i z l f. f) s.seen;
  late = tt;
  watch = watch_moves cmp.Arm cmp.Lower p p v.changed v.changed (is_expected v.search v.level) (is_expected v.search v.level) v.looking v.looked v.time v.past (v.time + 1) refl (λ h e. hears_more p v.changed (is_expected v.search v.level) v.past (v.time + 1) (let l = free.past in omega arith) (h e)) s.watch;
  seldom = seldom_moves cmp.Arm cmp.Lower p p v.time v.entries v.looks (λ gap l le o h. h) s.seldom;
}
  where
    regs : (p : Phase) → (p ≡ phase.Blank (as_tick end)) ⊎ (p ≡ phase.Filter (as_tick end)) → Armed p (Some end) false
    regs p (inl e) = rw e (refl, refl)
    regs p (inr e) = rw e (refl, refl)

    few : (p : Phase) → (p ≡ phase.Blank (as_tick end)) ⊎ (p ≡ phase.Filter (as_tick end))
        → v.quiet v.held.since + to_come p (is_some v.timer) v.changed (is_expected v.search v.level) ≤ 3
        → v.quiet v.held.since + to_come p true v.changed (is_expected v.search v.level) ≤ 3
    few (phase.Blank x) w l = l
    few (phase.Filter x) w l = l
    few phase.Off (inl e) l = cc
    few phase.Off (inr e) l = cc
    few phase.Watch (inl e) l = cc
    few phase.Watch (inr e) l = cc
    few phase.Done (inl e) l = cc
    few phase.Done (inr e) l = cc

pub commuted : (v : CrossView) → Free v → Stands v cmp.Commute phase.Done → Goes v cmp.Lower phase.Done v.changed v.enabled v.timer
commuted v free s = record {
  open_still = refl;
  phase_is = s.phase_is;
  regs = (s.regs.1, s.regs.2);
  few = s.few;
  seen = seen_moves v.sight cmp.Commute cmp.Lower phase.Done phase.Done v.held v.expects v.blanked v.time v.past (v.time + 1)
      (let l = free.past in omega arith) refl (λ i l f e. absurd (is_false _ f e)) (λ i z l f. f) s.seen;
  late = tt;
  watch = watch_moves cmp.Commute cmp.Lower phase.Done phase.Done v.changed v.changed (is_expected v.search v.level) (is_expected v.search v.level) v.looking v.looked v.time v.past (v.time + 1) refl (λ h e. tt) s.watch;
  seldom = seldom_moves cmp.Commute cmp.Lower phase.Done phase.Done v.time v.entries v.looks (λ gap l le o h. h) s.seldom;
}

pub lowered : (v : CrossView) (p : Phase) → Free v → Stands v cmp.Lower p → Goes v cmp.Back p v.changed v.enabled v.timer
lowered v p free s = record {
  open_still = refl;
  phase_is = phase_more p v.turn v.changed v.held.since v.blanked v.time v.past (v.time + 1) (let l = free.past in omega arith) s.phase_is;
  regs = s.regs;
  few = s.few;
  seen = seen_moves v.sight cmp.Lower cmp.Back p p v.held v.expects v.blanked v.time v.past (v.time + 1) (let l = free.past in omega arith) refl
      (λ i l f e. passes_more p i (v.past + filter_time) ((v.time + 1) + filter_time) (let a = free.past in omega arith) (f e)) (λ i z l f. f) s.seen;
  late = tt;
  watch = watch_moves cmp.Lower cmp.Back p p v.changed v.changed (is_expected v.search v.level) (is_expected v.search v.level) v.looking v.looked v.time v.past (v.time + 1) refl (λ h e. hears_more p v.changed (is_expected v.search v.level) v.past (v.time + 1) (let l = free.past in omega arith) (h e)) s.watch;
  seldom = seldom_moves cmp.Lower cmp.Back p p v.time v.entries v.looks (λ gap l le o h. h) s.seldom;
}

-- ---- it returns

abbrev pub returned_view : CrossView → CrossView
returned_view v = record v {
  cmp_at = cmp.Shut;
  past = v.time + 1;
  told_open = false;
  sight = sight_left v.sight v.time;
  looking = false;
  looked = if v.looking then Some v.time else v.looked;
}

pub returned : (v : CrossView) → Free v → CrossTied v → Stands v cmp.Back v.search.phase → CrossTied (returned_view v)
returned v free t s = record {
  pace_is = t.pace_is;
  advance_is = t.advance_is;
  expects_is = t.expects_is;
  level_is = t.level_is;
  open_is = refl;
  phase_is = phase_more v.search.phase v.turn v.changed v.held.since v.blanked v.time v.past (v.time + 1) (let l = free.past in omega arith) s.phase_is;
  begins = λ e. absurd (is_false _ free.no_search e);
  ends = λ e. absurd (is_false _ free.goes e);
  regs = λ b e. s.regs;
  below = λ since l. t.below since (let p = free.past in omega arith);
  few = s.few;
  seen = returns v.sight s.seen;
  begun = λ e. not_begun v.sight (t.begun e);
  late = tt;
  watch = watch_returned v.search.phase v.changed (is_expected v.search v.level) v.looking v.looked v.time v.past (v.time + 1) free.past s.watch;
  seldom = seldom_moves cmp.Back cmp.Shut v.search.phase v.search.phase v.time v.entries v.looks (λ gap l le o h. h) s.seldom;
}
  where
    returns : (s : Sight) → SightTied s cmp.Back v.search.phase v.held v.expects v.blanked v.time v.past
        → SightTied (sight_left s v.time) cmp.Shut v.search.phase v.held v.expects v.blanked v.time (v.time + 1)
    returns Away x = tt
    returns Begun x = absurd (let z = x.0 in cc)
    returns (Awaits u) x = absurd (let z = x.0 in cc)
    returns (First i) x = (
      (let a = x.0 in let p = free.past in omega arith),
      refl,
      λ e. passes_more v.search.phase i (v.past + filter_time) (v.time + filter_time)
          (let p = free.past in omega arith) (x.1 e),
    )
    returns (Settles i u) x = absurd (let z = x.1 in cc)
    returns (Second i z) x = tt

    not_begun : (s : Sight) → is_begun s ≡ false → is_begun (sight_left s v.time) ≡ false
    not_begun Away e = refl
    not_begun Begun e = e
    not_begun (Awaits u) e = refl
    not_begun (First i) e = refl
    not_begun (Settles i u) e = refl
    not_begun (Second i z) e = refl

-- ---- it accepts a crossing

abbrev pub crossed_view : CrossView → Pace → Pace → CrossView
crossed_view v pace told = record v {
  cmp_at = cmp.Commute;
  search = record v.search { phase = phase.Done };
  pace = pace;
  past = v.time + 1;
  turn = crossed_by v.turn v.time;
  told_pace = told;
  sight = sight_crossed v.sight;
}

has_z : (turn : Turn) (z : ℕ) → HasQ turn → HasZ (crossed_by turn z)
has_z (Turned q) z h = tt
has_z Idle z h = absurd h
has_z Started z h = absurd h
has_z (Crossed q y) z h = absurd h

pub accepted : (v : CrossView) (end : ℕ) (pace told : Pace) → pace ≡ told → v.cmp_at ≡ cmp.Look → Free v → CrossTied v
    → Stands v cmp.Look (phase.Filter (as_tick end)) → CrossTied (crossed_view v pace told)
accepted v end pace told same at free t s = record {
  pace_is = same;
  advance_is = t.advance_is;
  expects_is = t.expects_is;
  level_is = t.level_is;
  open_is = t.open_is ∙ ap (λ (a : CmpAt). not (is_shut a)) at;
  phase_is = has_z v.turn v.time s.phase_is.0;
  begins = λ e. absurd (is_false _ free.no_search e);
  ends = λ e. absurd (is_false _ free.goes e);
  regs = λ b e. (refl, s.regs.0.0, s.regs.1);
  below = λ since l. t.below since (let p = free.past in omega arith);
  few = (let f = s.few in omega arith);
  seen = accepts v.sight s.seen;
  begun = λ e. not_begun v.sight (t.begun e);
  late = tt;
  watch = watch_moves cmp.Look cmp.Commute (phase.Filter (as_tick end)) phase.Done v.changed v.changed (is_expected v.search v.level) (is_expected v.search v.level) v.looking v.looked v.time v.past (v.time + 1) refl (λ h. tt) s.watch;
  seldom = seldom_moves cmp.Look cmp.Commute (phase.Filter (as_tick end)) phase.Done v.time v.entries v.looks (λ gap l le o h. tt) s.seldom;
}
  where
    accepts : (s : Sight) → SightTied s cmp.Look (phase.Filter (as_tick end)) v.held v.expects v.blanked v.time v.past
        → SightTied (sight_crossed s) cmp.Commute phase.Done v.held v.expects v.blanked v.time (v.time + 1)
    accepts Away x = tt
    accepts Begun x = absurd (let z = x.0 in cc)
    accepts (Awaits u) x = absurd (let z = x.0 in cc)
    accepts (First i) x = absurd x.1
    accepts (Settles i u) x = absurd (let z = x.1 in cc)
    accepts (Second i z) x = ((let a = x.0 in let p = free.past in omega arith), λ e. refl)

    not_begun : (s : Sight) → is_begun s ≡ false → is_begun (sight_crossed s) ≡ false
    not_begun Away e = refl
    not_begun Begun e = e
    not_begun (Awaits u) e = refl
    not_begun (First i) e = refl
    not_begun (Settles i u) e = refl
    not_begun (Second i z) e = refl
