-- Time, an event of the comparator, and CMP's entry: what they make of the search for a crossing.
use Rattle.std.proofs.Common.{◌≡◌, ◌≤◌, ◌<◌, ◌+◌, inl, inr, ℕ, Bool, true, false, not, ◌&&◌, ◌||◌, nat_le, if◌then◌else◌, List, [], ◌∷◌, Option, Some, None, refl, subst, arith}
use Rattle.std.proofs.lemmas.Bool.{and_parts}
use Rattle.std.proofs.lemmas.Bool.Decides.{nat_tests}
use Rattle.esc_base.specs.Numbers.{as_tick}
use Rattle.esc_base.specs.Times.{is_reached}
use Rattle.esc_base.specs.Trace.{differ}
use Rattle.zero_cross.specs.declared.phase.Phase.{Phase}
use Rattle.zero_cross.specs.declared.phase.Phase.TheVariants as phase
use Rattle.zero_cross.specs.Comparator.{Held, is_steady}
use Rattle.zero_cross.specs.Kept.{is_expected, MayFilter}
use Rattle.commutation.specs.Commutated.{Turn}
use Rattle.esc_core.specs.declared.state.CmpAt.{CmpAt}
use Rattle.esc_core.specs.declared.state.CmpAt.TheVariants as cmp
use Rattle.esc_laws.specs.Searched.{Sight, Away, Begun, Awaits, First, Settles, Second, sight_entered, calls_cmp}
use Rattle.esc_rooms.proofs.cmp.Seldom.{seldom_later, seldom_entered}
use Rattle.esc_rooms.specs.WatchTied.{IsLate}
use Rattle.esc_rooms.proofs.cmp.Watch.{watch_later, watch_changes}
use Rattle.esc_rooms.specs.CrossTied.{CrossView, CrossTied, PhaseTied, RegsTied, Armed, Called, FirstTied, SecondTied, SightTied, Passes, IsBlanked, LateTied, future, to_come, to_come_after, is_some, is_begun}
use Rattle.esc_rooms.proofs.cmp.Facts.{Stands, Free, phase_more, passes_more}
use Rattle.std.proofs.lemmas.Bool.{leb-true}
use Rattle.std.proofs.lemmas.Bool.{le-leb}
use Rattle.esc_rooms.proofs.cmp.CrossFacts.{is_false}

-- ---- time

phase_later : (p : Phase) (turn : Turn) (changed : Bool) (since blanked t u past : ℕ) → t ≤ u → PhaseTied p turn changed since blanked t past
    → PhaseTied p turn changed since blanked u past
phase_later phase.Off turn changed since blanked t u past l x = x
phase_later (phase.Blank end) turn changed since blanked t u past l x = x
phase_later phase.Watch turn changed since blanked t u past l x = (x.0, (let a = x.1 in omega arith))
phase_later (phase.Filter end) turn changed since blanked t u past l x = x
phase_later phase.Done turn changed since blanked t u past l x = x

called_later : (p : Phase) (timer : Option ℕ) (t u : ℕ) → t ≤ u → Called p timer t → Called p timer u
called_later phase.Off timer t u l c = c
called_later (phase.Blank end) timer t u l (inl c) = inl c
called_later (phase.Blank end) timer t u l (inr c) = inr (c.0, (let a = c.1 in omega arith))
called_later phase.Watch timer t u l c = c
called_later (phase.Filter end) timer t u l c = (c.0, (let a = c.1 in omega arith))
called_later phase.Done timer t u l c = c

may_later : (p : Phase) (t u : ℕ) → t ≤ u → MayFilter p t → MayFilter p u
may_later phase.Off t u l c = c
may_later (phase.Blank end) t u l c = (let a : end.0 ≤ t = c in omega arith)
may_later phase.Watch t u l c = c
may_later (phase.Filter end) t u l c = c
may_later phase.Done t u l c = c

blank_later : (p : Phase) (t u : ℕ) → t ≤ u → IsBlanked p t → IsBlanked p u
blank_later phase.Off t u l b = b
blank_later (phase.Blank end) t u l b = (let a : end.0 ≤ t = b in omega arith)
blank_later phase.Watch t u l b = b
blank_later (phase.Filter end) t u l b = b
blank_later phase.Done t u l b = b

regs_later : (at : CmpAt) (p : Phase) (timer : Option ℕ) (enabled : Bool) (t u : ℕ) → t ≤ u → RegsTied at p timer enabled t → RegsTied at p timer enabled u
regs_later cmp.Raise p timer enabled t u l c = (called_later p timer t u l c.0, c.1)
regs_later cmp.Look p timer enabled t u l c = (called_later p timer t u l c.0, c.1)
regs_later cmp.Read p timer enabled t u l c = (blank_later p t u l c.0, c.1)
regs_later cmp.Ack p timer enabled t u l c = may_later p t u l c
regs_later cmp.Shut p timer enabled t u l c = c
regs_later cmp.Arm p timer enabled t u l c = c
regs_later cmp.Commute p timer enabled t u l c = c
regs_later cmp.Lower p timer enabled t u l c = c
regs_later cmp.Back p timer enabled t u l c = c

first_later : (at : CmpAt) (p : Phase) (steady : Bool) (i t u past : ℕ) → t ≤ u → FirstTied at p steady i t past → FirstTied at p steady i u past
first_later cmp.Raise p steady i t u past l f = blank_later p t u l f
first_later cmp.Look p steady i t u past l f = blank_later p t u l f
first_later cmp.Shut p steady i t u past l f = f
first_later cmp.Read p steady i t u past l f = f
first_later cmp.Ack p steady i t u past l f = f
first_later cmp.Arm p steady i t u past l f = f
first_later cmp.Commute p steady i t u past l f = f
first_later cmp.Lower p steady i t u past l f = f
first_later cmp.Back p steady i t u past l f = f

second_later : (at : CmpAt) (p : Phase) (steady : Bool) (i : ℕ) (z : Bool) (t u : ℕ) → t ≤ u → SecondTied at p steady i z t → SecondTied at p steady i z u
second_later cmp.Raise p steady i z t u l f = λ e. passes_more p i t u l (f e)
second_later cmp.Look p steady i z t u l f = λ e. passes_more p i t u l (f e)
second_later cmp.Shut p steady i z t u l f = f
second_later cmp.Read p steady i z t u l f = f
second_later cmp.Ack p steady i z t u l f = f
second_later cmp.Arm p steady i z t u l f = f
second_later cmp.Commute p steady i z t u l f = f
second_later cmp.Lower p steady i z t u l f = f
second_later cmp.Back p steady i z t u l f = f

seen_later : (s : Sight) (at : CmpAt) (p : Phase) (h : Held) (expects : Bool) (blanked t u past : ℕ) → t ≤ u → SightTied s at p h expects blanked t past
    → SightTied s at p h expects blanked u past
seen_later Away at p h expects blanked t u past l s = s
seen_later Begun at p h expects blanked t u past l s = s
seen_later (Awaits v) at p h expects blanked t u past l s = s
seen_later (First i) at p h expects blanked t u past l s = (s.0, first_later at p (is_steady h expects i) i t u past l s.1)
seen_later (Settles i v) at p h expects blanked t u past l s = s
seen_later (Second i z) at p h expects blanked t u past l s = (s.0, second_later at p (is_steady h expects i) i z t u l s.1)

pub cross_later : (v : CrossView) (u : ℕ) → v.time ≤ u → CrossTied v → CrossTied (record v { time = u })
cross_later v u l t = record {
  pace_is = t.pace_is;
  advance_is = t.advance_is;
  expects_is = t.expects_is;
  level_is = t.level_is;
  open_is = t.open_is;
  phase_is = phase_later v.search.phase v.turn v.changed v.held.since v.blanked v.time u v.past l t.phase_is;
  begins = t.begins;
  ends = t.ends;
  regs = λ b e. regs_later v.cmp_at v.search.phase v.timer v.enabled v.time u l (t.regs b e);
  below = t.below;
  few = t.few;
  seen = seen_later v.sight v.cmp_at v.search.phase v.held v.expects v.blanked v.time u v.past l t.seen;
  begun = t.begun;
  late = t.late;
  watch = watch_later v.cmp_at v.search.phase v.changed (is_expected v.search v.level) v.looking v.looked v.time u v.past l t.watch;
  seldom = seldom_later v.cmp_at v.search.phase v.time u v.entries v.looks l t.seldom;
}

-- ---- a change of the comparator

-- at most three activations can come, whatever holds
to_come_most : (p : Phase) (armed changed well : Bool) → to_come p armed changed well ≤ 3
to_come_most phase.Off armed changed well = omega arith
to_come_most (phase.Blank end) armed changed true = omega arith
to_come_most (phase.Blank end) armed changed false = omega arith
to_come_most phase.Watch true changed true = omega arith
to_come_most phase.Watch true changed false = omega arith
to_come_most phase.Watch false true true = omega arith
to_come_most phase.Watch false true false = omega arith
to_come_most phase.Watch false false well = omega arith
to_come_most (phase.Filter end) armed true true = omega arith
to_come_most (phase.Filter end) armed false true = omega arith
to_come_most (phase.Filter end) armed changed false = omega arith
to_come_most phase.Done armed changed well = omega arith

to_come_after_most : (p : Phase) (armed changed well : Bool) → to_come_after p armed changed well ≤ 3
to_come_after_most phase.Off armed changed well = omega arith
to_come_after_most (phase.Blank end) true changed well = omega arith
to_come_after_most (phase.Blank end) false changed true = omega arith
to_come_after_most (phase.Blank end) false changed false = omega arith
to_come_after_most phase.Watch armed changed true = omega arith
to_come_after_most phase.Watch armed changed false = omega arith
to_come_after_most (phase.Filter end) armed true true = omega arith
to_come_after_most (phase.Filter end) armed false true = omega arith
to_come_after_most (phase.Filter end) armed changed false = omega arith
to_come_after_most phase.Done armed changed well = omega arith

future_most : (at : CmpAt) (p : Phase) (armed changed well : Bool) → future at p armed changed well ≤ 3
future_most cmp.Raise p armed changed well = to_come_after_most p armed changed well
future_most cmp.Look p armed changed well = to_come_after_most p armed changed well
future_most cmp.Read p armed changed true = omega arith
future_most cmp.Read p true changed false = omega arith
future_most cmp.Read p false true false = omega arith
future_most cmp.Read p false false false = omega arith
future_most cmp.Ack p armed changed true = omega arith
future_most cmp.Ack p armed changed false = omega arith
future_most cmp.Commute p armed changed well = omega arith
future_most cmp.Shut p armed changed well = to_come_most p armed changed well
future_most cmp.Arm p armed changed well = to_come_most p armed changed well
future_most cmp.Lower p armed changed well = to_come_most p armed changed well
future_most cmp.Back p armed changed well = to_come_most p armed changed well

bit_up : (begun past time : ℕ) → begun < past → past ≤ time → true ≡ not (nat_le time begun)
bit_up begun past time l m = grind (arith, nat_tests)

phase_event : (p : Phase) (turn : Turn) (changed : Bool) (since blanked time past : ℕ) → past ≤ time → PhaseTied p turn changed since blanked time past
    → PhaseTied p turn true time blanked time past
phase_event phase.Off turn changed since blanked time past l x = x
phase_event (phase.Blank end) turn changed since blanked time past l x = x
phase_event phase.Watch turn changed since blanked time past l x = x
phase_event (phase.Filter end) turn changed since blanked time past l x = (
  x.0,
  record { begun = x.1.begun; end_is = x.1.end_is; below = x.1.below; bit = bit_up x.1.begun past time x.1.below l; after = x.1.after },
)
phase_event phase.Done turn changed since blanked time past l x = x

-- no stretch that began before now is steady
broken : (expects level : Bool) (i past time : ℕ) → i < past → past ≤ time → is_steady (record { level = level; since = time }) expects i ≡ false
broken expects level i past time l m = by_test (not (differ level expects)) (nat_le time i) (grind (arith, nat_tests))
  where
    by_test : (a b : Bool) → b ≡ false → (a && b) ≡ false
    by_test true b e = e
    by_test false b e = refl

first_event : (at : CmpAt) (p : Phase) (steady steady' : Bool) (i time past : ℕ) → steady' ≡ false → FirstTied at p steady i time past
    → FirstTied at p steady' i time past
first_event cmp.Commute p steady steady' i time past b f = b
first_event cmp.Arm p steady steady' i time past b f = λ e. absurd (is_false steady' b e)
first_event cmp.Lower p steady steady' i time past b f = λ e. absurd (is_false steady' b e)
first_event cmp.Back p steady steady' i time past b f = λ e. absurd (is_false steady' b e)
first_event cmp.Shut p steady steady' i time past b f = f
first_event cmp.Raise p steady steady' i time past b f = f
first_event cmp.Look p steady steady' i time past b f = f
first_event cmp.Read p steady steady' i time past b f = f
first_event cmp.Ack p steady steady' i time past b f = f

second_event : (at : CmpAt) (p : Phase) (steady steady' : Bool) (i : ℕ) (z : Bool) (time : ℕ) → steady' ≡ false → SecondTied at p steady i z time
    → SecondTied at p steady' i z time
second_event cmp.Shut p steady steady' i z time b f = f
second_event cmp.Raise p steady steady' i z time b f = λ e. absurd (is_false steady' b e)
second_event cmp.Look p steady steady' i z time b f = λ e. absurd (is_false steady' b e)
second_event cmp.Ack p steady steady' i z time b f = λ e. absurd (is_false steady' b e)
second_event cmp.Arm p steady steady' i z time b f = λ e. absurd (is_false steady' b e)
second_event cmp.Read p steady steady' i z time b f = λ e. absurd (is_false steady' b e)
second_event cmp.Commute p steady steady' i z time b f = λ e. absurd (is_false steady' b e)
second_event cmp.Lower p steady steady' i z time b f = λ e. absurd (is_false steady' b e)
second_event cmp.Back p steady steady' i z time b f = λ e. absurd (is_false steady' b e)

seen_event : (s : Sight) (at : CmpAt) (p : Phase) (h : Held) (level expects : Bool) (blanked time past : ℕ) → past ≤ time
    → SightTied s at p h expects blanked time past → SightTied s at p (record { level = level; since = time }) expects blanked time past
seen_event Away at p h level expects blanked time past l s = s
seen_event Begun at p h level expects blanked time past l s = s
seen_event (Awaits u) at p h level expects blanked time past l s = s
seen_event (First i) at p h level expects blanked time past l s =
    (s.0, first_event at p (is_steady h expects i) _ i time past (broken expects level i past time s.0 l) s.1)
seen_event (Settles i u) at p h level expects blanked time past l s = (s.0, s.1, λ e. absurd (is_false _ (broken expects level i past time s.0 l) e))
seen_event (Second i z) at p h level expects blanked time past l s =
    (s.0, second_event at p (is_steady h expects i) _ i z time (broken expects level i past time s.0 l) s.1)

-- the level changes at now, above each step of CMP
pub cross_changes : (v : CrossView) (level : Bool) → v.past ≤ v.time → CrossTied v
    → CrossTied (record v { held = record { level = level; since = v.time }; level = level; changed = true })
cross_changes v level l t = record {
  pace_is = t.pace_is;
  advance_is = t.advance_is;
  expects_is = t.expects_is;
  level_is = refl;
  open_is = t.open_is;
  phase_is = phase_event v.search.phase v.turn v.changed v.held.since v.blanked v.time v.past l t.phase_is;
  begins = t.begins;
  ends = t.ends;
  regs = t.regs;
  below = t.below;
  few = (
      let n : v.quiet v.time ≡ 0 = t.below v.time l in
      let m : future v.cmp_at v.search.phase (is_some v.timer) true (is_expected v.search level) ≤ 3 =
      future_most v.cmp_at v.search.phase (is_some v.timer) true (is_expected v.search level) in
      omega arith);
  seen = seen_event v.sight v.cmp_at v.search.phase v.held level v.expects v.blanked v.time v.past l t.seen;
  begun = t.begun;
  late = t.late;
  watch = watch_changes v.cmp_at v.search.phase v.changed (is_expected v.search v.level) (is_expected v.search level) v.looking v.looked v.time v.past t.watch;
  seldom = t.seldom;
}

-- ---- what the notes call is due

or_due : (end time : ℕ) (timer : Option ℕ) (w : Bool) → timer ≡ Some end → end ≤ time → (is_reached timer time || w) ≡ true
or_due end time timer w c l = rw (c, le-leb end time l) refl

passes_is_due : (p : Phase) (i u time : ℕ) (timer : Option ℕ) (enabled w : Bool) → Armed p timer enabled → Passes p i u → u ≤ time
    → (is_reached timer time || w) ≡ true
passes_is_due phase.Off i u time timer enabled w a x l = absurd x
passes_is_due (phase.Blank end) i u time timer enabled w a x l = absurd x
passes_is_due phase.Watch i u time timer enabled w a x l = absurd x
passes_is_due (phase.Filter end) i u time timer enabled w a x l = or_due end.0 time timer w a.0 (let b = x.0 in omega arith)
passes_is_due phase.Done i u time timer enabled w a x l = absurd x

pub seen_due : (s : Sight) (p : Phase) (h : Held) (expects changed : Bool) (blanked time past : ℕ) (timer : Option ℕ) (enabled : Bool)
    → calls_cmp h expects s time ≡ true → Armed p timer enabled → SightTied s cmp.Shut p h expects blanked time past
    → (is_reached timer time || (enabled && changed)) ≡ true
seen_due Away p h expects changed blanked time past timer enabled e a s = cc
seen_due Begun p h expects changed blanked time past timer enabled e a s = cc
seen_due (Awaits u) p h expects changed blanked time past timer enabled e a s =
    let b : Armed (phase.Blank (as_tick blanked)) timer enabled = subst (λ (x : Phase). Armed x timer enabled) s.1 a in
    or_due blanked time timer (enabled && changed) b.0 (let l = leb-true u time e in let f = s.2 in omega arith)
seen_due (First i) p h expects changed blanked time past timer enabled e a s = cc
seen_due (Settles i u) p h expects changed blanked time past timer enabled e a s =
    let both = and_parts (nat_le u time) (is_steady h expects i) e in
    passes_is_due p i u time timer enabled (enabled && changed) a (s.2 both.1) (leb-true u time both.0)
seen_due (Second i z) p h expects changed blanked time past timer enabled e a s = cc

-- ---- CMP is entered

pub reached_at : (timer : Option ℕ) (enabled changed : Bool) (end time : ℕ) → timer ≡ Some end → enabled ≡ false
    → (is_reached timer time || (enabled && changed)) ≡ true → end ≤ time
reached_at timer enabled changed end time c h d = by_test (nat_le end time) refl (rw (c, h) at d)
  where
    by_test : (v : Bool) → nat_le end time ≡ v → (nat_le end time || (false && changed)) ≡ true → end ≤ time
    by_test true e f = leb-true end time e
    by_test false e f = absurd (let z : false ≡ true = subst (λ (x : Bool). (x || (false && changed)) ≡ true) e f in cc)

none_due : (timer : Option ℕ) (enabled changed : Bool) (time : ℕ) → timer ≡ None → enabled ≡ false → (is_reached timer time || (enabled && changed)) ≡ true → ⊥
none_due timer enabled changed time c h d = let z : false ≡ true = (rw (c, h) at d) in cc

pub called_by : (p : Phase) (timer : Option ℕ) (enabled changed : Bool) (time : ℕ) → Armed p timer enabled
    → (is_reached timer time || (enabled && changed)) ≡ true → Called p None time
called_by phase.Off timer enabled changed time a d = refl
called_by (phase.Blank end) timer enabled changed time a d = inr (refl, reached_at timer enabled changed end.0 time a.0 a.1 d)
called_by phase.Watch timer enabled changed time a d = refl
called_by (phase.Filter end) timer enabled changed time a d = (refl, reached_at timer enabled changed end.0 time a.0 a.1 d)
called_by phase.Done timer enabled changed time a d = refl

-- each I takes one of those that can come
watched : (timer : Option ℕ) (enabled changed : Bool) (time : ℕ) → (is_reached timer time || (enabled && changed)) ≡ true → (is_some timer || changed) ≡ true
watched None true true time d = refl
watched None true false time d = cc
watched None false changed time d = cc
watched (Some at) enabled changed time d = refl

few_watch : (q : ℕ) (v well : Bool) → v ≡ true → q + (if v then (if well then 2 else 3) else 0) ≤ 3 → (q + 1) + (if well then 1 else 2) ≤ 3
few_watch q true true e l = omega arith
few_watch q true false e l = omega arith
few_watch q false well e l = cc

few_enter : (p : Phase) (q : ℕ) (timer : Option ℕ) (enabled changed well : Bool) (time : ℕ) → Armed p timer enabled
    → (is_reached timer time || (enabled && changed)) ≡ true
    → q + to_come p (is_some timer) changed well ≤ 3 → (q + 1) + to_come_after p false changed well ≤ 3
few_enter phase.Off q timer enabled changed well time a d l = absurd (none_due timer enabled changed time a.0 a.1 d)
few_enter (phase.Blank end) q timer enabled changed true time a d l = omega arith
few_enter (phase.Blank end) q timer enabled changed false time a d l = omega arith
few_enter phase.Watch q timer enabled changed well time a d l = few_watch q (is_some timer || changed) well (watched timer enabled changed time d) l
few_enter (phase.Filter end) q timer enabled true true time a d l = omega arith
few_enter (phase.Filter end) q timer enabled false true time a d l = omega arith
few_enter (phase.Filter end) q timer enabled changed false time a d l = omega arith
few_enter phase.Done q timer enabled changed well time a d l = absurd (none_due timer enabled changed time a.0 a.1 d)

blank_due : (p : Phase) (blanked time : ℕ) → p ≡ phase.Blank (as_tick blanked) → Called p None time → IsBlanked p time
blank_due phase.Off blanked time e c = cc
blank_due (phase.Blank end) blanked time e c = elim c [ inl x ↦ cc | inr x ↦ x.1 ]
blank_due phase.Watch blanked time e c = cc
blank_due (phase.Filter end) blanked time e c = cc
blank_due phase.Done blanked time e c = cc

passes_due : (p : Phase) (i u time : ℕ) → Called p None time → Passes p i u → Passes p i time
passes_due phase.Off i u time c x = x
passes_due (phase.Blank end) i u time c x = x
passes_due phase.Watch i u time c x = x
passes_due (phase.Filter end) i u time c x = (c.1, x.1)
passes_due phase.Done i u time c x = x

seen_enter : (s : Sight) (p : Phase) (h : Held) (expects : Bool) (blanked time past : ℕ) → past ≤ time → Called p None time → is_begun s ≡ false
    → SightTied s cmp.Shut p h expects blanked time past → SightTied (sight_entered s time) cmp.Raise p h expects blanked time (time + 1)
seen_enter Away p h expects blanked time past le c b s = tt
seen_enter Begun p h expects blanked time past le c b s = cc
seen_enter (Awaits u) p h expects blanked time past le c b s = (omega arith, blank_due p blanked time s.1 c)
seen_enter (First i) p h expects blanked time past le c b s = absurd s.1
seen_enter (Settles i u) p h expects blanked time past le c b s = ((let a = s.0 in omega arith), λ e. passes_due p i u time c (s.2 e))
seen_enter (Second i z) p h expects blanked time past le c b s = absurd s.1

not_begun : (s : Sight) (t : ℕ) → is_begun s ≡ false → is_begun (sight_entered s t) ≡ false
not_begun Away t e = refl
not_begun Begun t e = e
not_begun (Awaits u) t e = refl
not_begun (First i) t e = refl
not_begun (Settles i u) t e = refl
not_begun (Second i z) t e = refl

abbrev pub entered_view : CrossView → (ℕ → ℕ) → CrossView
entered_view v quiet = record v {
  cmp_at = cmp.Raise;
  enabled = false;
  timer = None;
  past = v.time + 1;
  sight = sight_entered v.sight v.time;
  told_open = true;
  quiet = quiet;
  entries = v.time ∷ v.entries;
  looks = v.time ∷ v.looks;
  looking = true;
}

blank_late : (p : Phase) (time : ℕ) → Called p None time → IsLate p time
blank_late phase.Off time c = tt
blank_late (phase.Blank end) time (inl c) = cc
blank_late (phase.Blank end) time (inr c) = c.1
blank_late phase.Watch time c = tt
blank_late (phase.Filter end) time c = tt
blank_late phase.Done time c = tt

pub cross_entered : (v : CrossView) (quiet : ℕ → ℕ) → Free v → CrossTied v → Stands v cmp.Shut v.search.phase
    → (is_reached v.timer v.time || (v.enabled && v.changed)) ≡ true → LateTied cmp.Raise v.search.phase v.postponed
    → ((since : ℕ) → v.time < since → quiet since ≡ 0) → quiet v.held.since ≡ v.quiet v.held.since + 1
    → CrossTied (entered_view v quiet)
cross_entered v quiet free t s due late none one =
    let c : Called v.search.phase None v.time = called_by v.search.phase v.timer v.enabled v.changed v.time s.regs due in
    record {
      pace_is = t.pace_is;
      advance_is = t.advance_is;
      expects_is = t.expects_is;
      level_is = t.level_is;
      open_is = refl;
      phase_is = phase_more v.search.phase v.turn v.changed v.held.since v.blanked v.time v.past (v.time + 1) (let l = free.past in omega arith) s.phase_is;
      begins = λ e. absurd (is_false _ free.no_search e);
      ends = λ e. absurd (is_false _ free.goes e);
      regs = λ b e. (c, refl);
      below = λ since l. none since (omega arith);
      few = rw one (few_enter v.search.phase (v.quiet v.held.since) v.timer v.enabled v.changed (is_expected v.search v.level) v.time s.regs due s.few);
      seen = seen_enter v.sight v.search.phase v.held v.expects v.blanked v.time v.past free.past c (t.begun free.closed) s.seen;
      begun = λ e. not_begun v.sight v.time (t.begun free.closed);
      late = late;
      watch = record { heard = λ e. blank_late v.search.phase v.time c; none = λ o e. cc };
      seldom = seldom_entered v.search.phase v.timer v.enabled v.changed v.time v.entries v.looks s.regs due c s.seldom;
    }
