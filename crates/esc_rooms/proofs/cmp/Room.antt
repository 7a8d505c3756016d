-- CMP's row of the laws: what calls it, its entry, and the search's tie as events come.
use Rattle.std.proofs.Common.{zero, suc, ◌≡◌, ◌≤◌, ◌<◌, ◌+◌, inl, inr, ℕ, Bool, true, false, ◌&&◌, ◌||◌, ◌==◌, min, nat_le, if◌then◌else◌, List, [], ◌∷◌, ◌++◌, refl, sym, ◌∙◌, ap, subst, arith, ◌⊎◌, Option, None, not}
use Rattle.std.proofs.lemmas.Bool.{le-leb}
use Rattle.std.proofs.lemmas.Bool.Decides.{nat_tests}
use Rattle.esc_base.specs.declared.kind.Kind.TheVariants as kind
use Rattle.esc_base.specs.declared.event.Event.{Event}
use Rattle.esc_base.specs.declared.event.Event.TheVariants as event
use Rattle.esc_base.specs.declared.note.Note.{Note}
use Rattle.esc_base.specs.declared.note.Note.TheVariants as note
use Rattle.esc_base.specs.Times.{is_reached, dead_time, filter_time, least_blanking}
use Rattle.esc_base.specs.Trace.{differ, tick_of}
use Rattle.zero_cross.specs.declared.phase.Phase.{Phase}
use Rattle.zero_cross.specs.declared.phase.Phase.TheVariants as phase
use Rattle.zero_cross.specs.Comparator.{Held, held, held_to}
use Rattle.commutation.specs.Commutated.{Turn, Idle, Started, Turned, Crossed, crossed_by, turn_at}
use Rattle.zero_cross.specs.Sector.{blanking_of}
use Rattle.gate_driver.specs.Gated.{at_leg}
use Rattle.commutation.specs.Drive.{interval_at, rests_at}
use Rattle.commutation.specs.Sectors.{low_of}
use Rattle.arming.specs.ControlAt.{demand_at}
use Rattle.esc_core.specs.declared.state.CmpAt.{CmpAt}
use Rattle.esc_core.specs.declared.state.CmpAt.TheVariants as cmp
use Rattle.esc_core.specs.declared.state.CommAt.TheVariants as comm
use Rattle.esc_core.specs.Drive.{low_free, due_at}
use Rattle.esc_laws.specs.Calls.{turned_at}
use Rattle.esc_laws.specs.Crossed.{blanked_at, expects_at}
use Rattle.esc_laws.specs.Searched.{Sight, Away, Begun, Awaits, First, Settles, Second, calls_cmp, calls_watch, is_over, awaits_crossing, is_looking, looked_at, sight_at, quiet_at}
use Rattle.esc_laws.specs.Saves.{forward_at}
use Rattle.esc_rooms.specs.DriveTied.{DriveView, TimerKept, commutes}
use Rattle.esc_rooms.specs.CrossTied.{CrossTied, RegsTied, HasQ, IsEarly, SightTied, LateTied, begins_search}
use Rattle.zero_cross.specs.Kept.{is_expected}
use Rattle.esc_rooms.specs.WatchTied.{WatchTied}
use Rattle.esc_rooms.proofs.cmp.Watch.{watch_due}
use Rattle.esc_rooms.specs.World.{World, enters, after_enter, after_outside}
use Rattle.esc_rooms.specs.Rooms.{Ties, Tie, Unheld, Past, drive_seen, cross_seen}
use Rattle.esc_laws.proofs.Comparator.{since_past, held_stays, held-push, held_now}
use Rattle.esc_rooms.proofs.shared.DriveFacts.{comm_shut, timer_kept}
use Rattle.esc_laws.proofs.Apart.{apart_legs}
use Rattle.esc_rooms.proofs.cmp.CrossFacts.{cmp_shut, tick_unmasked}
use Rattle.esc_rooms.proofs.cmp.Facts.{Stands, stands}
use Rattle.esc_rooms.proofs.cmp.Events.{reached_at, cross_later, cross_changes, seen_due, cross_entered}
use Rattle.esc_rooms.proofs.shared.Law.{HandlerLaw}
use Rattle.esc_rooms.proofs.cmp.Preserves.{free_at, searched_drive}
use Rattle.esc_rooms.proofs.cmp.Looks.{q_drives}
use Rattle.esc_rooms.proofs.cmp.Asked.{cmp_asked}
use Rattle.esc_rooms.proofs.cmp.Steps.{cmp_steps_preserve}

-- ---- what the notes call is due

early_calls : (h : Held) (expects : Bool) (s : Sight) (t : ℕ) → IsEarly s → calls_cmp h expects s t ≡ true → ⊥
early_calls h expects Away t e c = (let z : false ≡ true = c in cc)
early_calls h expects Begun t e c = (let z : false ≡ true = c in cc)
early_calls h expects (Awaits u) t e c = absurd e
early_calls h expects (First i) t e c = absurd e
early_calls h expects (Settles i u) t e c = absurd e
early_calls h expects (Second i z) t e c = absurd e

unlooked : (awaits : Bool) (looked : Option ℕ) (expected : Bool) (t : ℕ) → looked ≡ None → (awaits && (is_over looked t && expected)) ≡ true → ⊥
unlooked true looked expected t none e = (let z : false ≡ true = (rw none at e) in cc)
unlooked false looked expected t none e = cc

or_parts : (a b : Bool) → (a || b) ≡ true → (a ≡ true) ⊎ (b ≡ true)
or_parts true b e = inl refl
or_parts false b e = inr e

cmp_called : (w : World) → Ties w → Unheld w → w.core.cmp_at ≡ cmp.Shut
    → (calls_cmp (held w.trace w.bank.time) (expects_at (forward_at w.loaded.settings) w.back) (sight_at w.back) w.bank.time
    || calls_watch (held w.trace w.bank.time) (expects_at (forward_at w.loaded.settings) w.back) w.back w.bank.time) ≡ true
    → (is_reached w.bank.crossing w.bank.time || (w.bank.comp_enabled && w.bank.comp_changed)) ≡ true
cmp_called w t unheld shut c =
    elim (or_parts (calls_cmp (held w.trace w.bank.time) (expects_at (forward_at w.loaded.settings) w.back) (sight_at w.back) w.bank.time)
    (calls_watch (held w.trace w.bank.time) (expects_at (forward_at w.loaded.settings) w.back) w.back w.bank.time) c) [
      | inl first ↦ by_search (begins_search w.core.comm_at w.core.drive.turn.at) refl first
      | inr later ↦ by_watch (begins_search w.core.comm_at w.core.drive.turn.at) refl later
    ]
  where
    u : CrossTied (cross_seen w)
    u = t kind.Cmp

    -- the level is the expected one by the registers as by the notes
    expected : not (differ (held w.trace w.bank.time).level (expects_at (forward_at w.loaded.settings) w.back)) ≡ is_expected w.core.drive.crossing w.bank.comp
    expected = rw (u.level_is, u.expects_is) refl

    by_watch : (v : Bool) → begins_search w.core.comm_at w.core.drive.turn.at ≡ v
        → calls_watch (held w.trace w.bank.time) (expects_at (forward_at w.loaded.settings) w.back) w.back w.bank.time ≡ true
        → (is_reached w.bank.crossing w.bank.time || (w.bank.comp_enabled && w.bank.comp_changed)) ≡ true
    by_watch true e c = absurd (unlooked (awaits_crossing (turn_at w.back)) (looked_at w.back)
        (not (differ (held w.trace w.bank.time).level (expects_at (forward_at w.loaded.settings) w.back))) w.bank.time (u.begins e).unlooked c)
    by_watch false e c =
        watch_due w.core.drive.crossing.phase (turn_at w.back) w.bank.comp_changed (is_expected w.core.drive.crossing w.bank.comp) (is_looking w.back)
        (looked_at w.back) (held w.trace w.bank.time).since (blanked_at w.back) w.bank.time w.made.cmp_past w.bank.crossing w.bank.comp_enabled u.phase_is
        (subst (λ (x : CmpAt). RegsTied x w.core.drive.crossing.phase w.bank.crossing w.bank.comp_enabled w.bank.time) shut
        (u.regs e (tick_unmasked w.core.tick_at (unheld kind.Tick))))
        (subst (λ (x : CmpAt). WatchTied x w.core.drive.crossing.phase w.bank.comp_changed (is_expected w.core.drive.crossing w.bank.comp)
        (is_looking w.back) (looked_at w.back) w.bank.time w.made.cmp_past) shut u.watch)
        (subst (λ (x : Bool). (awaits_crossing (turn_at w.back) && (is_over (looked_at w.back) w.bank.time && x)) ≡ true) expected c)

    by_search : (v : Bool) → begins_search w.core.comm_at w.core.drive.turn.at ≡ v
        → calls_cmp (held w.trace w.bank.time) (expects_at (forward_at w.loaded.settings) w.back) (sight_at w.back) w.bank.time ≡ true
        → (is_reached w.bank.crossing w.bank.time || (w.bank.comp_enabled && w.bank.comp_changed)) ≡ true
    by_search true e c = absurd (early_calls (held w.trace w.bank.time) (expects_at (forward_at w.loaded.settings) w.back) (sight_at w.back) w.bank.time
        (u.begins e).early c)
    by_search false e c =
        seen_due (sight_at w.back) w.core.drive.crossing.phase (held w.trace w.bank.time) (expects_at (forward_at w.loaded.settings) w.back) w.bank.comp_changed
        (blanked_at w.back) w.bank.time w.made.cmp_past w.bank.crossing w.bank.comp_enabled c
        (subst (λ (x : CmpAt). RegsTied x w.core.drive.crossing.phase w.bank.crossing w.bank.comp_enabled w.bank.time) shut
        (u.regs e (tick_unmasked w.core.tick_at (unheld kind.Tick))))
        (subst (λ (x : CmpAt). SightTied (sight_at w.back) x w.core.drive.crossing.phase (held w.trace w.bank.time)
        (expects_at (forward_at w.loaded.settings) w.back) (blanked_at w.back) w.bank.time w.made.cmp_past) shut u.seen)

-- ---- its entry

-- blanking lasts for at least 300 ticks
control_leaves_q : (a b : Bool) (turn : Turn) → HasQ (if a then Idle else if b then Started else turn) → HasQ turn
control_leaves_q true b turn q = absurd q
control_leaves_q false true turn q = absurd q
control_leaves_q false false turn q = q

no_second_z : (turn : Turn) (z : ℕ) → HasQ (crossed_by turn z) → ⊥
no_second_z Idle z q = q
no_second_z Started z q = q
no_second_z (Turned t) z q = q
no_second_z (Crossed t y) z q = q

long_blank : (back : List Note) → HasQ (turn_at back) → turned_at back + least_blanking ≤ blanked_at back
long_blank [] q = absurd q
long_blank (note.Step t s ∷ back) q = longer t.0 (interval_at back)
  where
    longer : (t interval : ℕ) → t + least_blanking ≤ t + blanking_of interval
    longer t interval = omega arith
long_blank (note.Control t n s d ∷ back) q = long_blank back (control_leaves_q (d == 0) (rests_at back) (turn_at back) q)
long_blank (note.Cross t ∷ back) q = absurd (no_second_z (turn_at back) t.0 q)
long_blank (n ∷ back) q = long_blank back q

-- COMM isn't due: so a switch that is postponed would have been due since the Q, which is too long ago
not_late : (v : DriveView) → TimerKept v → is_reached v.timer v.time ≡ false → low_free v.drive ≤ v.time → v.drive.postponed ≡ false
not_late v k none free = by_test v.drive.postponed refl k
  where
    min_le : (change free time : ℕ) → free ≤ time → nat_le (min change free) time ≡ true
    min_le change free time l = grind (arith, nat_tests)

    by_test : (p : Bool) → v.drive.postponed ≡ p → TimerKept v → v.drive.postponed ≡ false
    by_test false e k = e
    by_test true e (inl (at, o)) = absurd (
        let due : due_at v.drive ≡ min v.drive.change (low_free v.drive) = rw e refl in
        let f : is_reached v.timer v.time ≡ true = rw (at, due) (min_le v.drive.change (low_free v.drive) v.time free) in
        let z : true ≡ false = sym f ∙ none in cc)
    by_test true e (inr (n, at, l, c)) = absurd (let f : is_reached v.timer v.time ≡ true = rw at (le-leb n v.time l) in let z : true ≡ false = sym f
        ∙ none in cc)

late_entered : (p : Phase) (w : World) → w.core.drive.crossing.phase ≡ p → Ties w → Unheld w → w.core.comm_at ≡ comm.Shut → w.core.cmp_at ≡ cmp.Shut
    → is_reached w.bank.comm w.bank.time ≡ false → (is_reached w.bank.crossing w.bank.time || (w.bank.comp_enabled && w.bank.comp_changed)) ≡ true
    → Stands (cross_seen w) cmp.Shut p
    → LateTied cmp.Raise p w.core.drive.postponed
late_entered phase.Off w e t unheld shut at none due s = tt
late_entered (phase.Blank end) w e t unheld shut at none due s = tt
late_entered phase.Watch w e t unheld shut at none due s = tt
late_entered phase.Done w e t unheld shut at none due s = tt
late_entered (phase.Filter end) w e t unheld shut at none due s =
    let d = t kind.Comm in
    let q : HasQ (turn_at w.back) = s.phase_is.0 in
    let some : 0 < demand_at w.back = q_drives (turn_at w.back) (demand_at w.back) q d.next.idle in
    let kept : TimerKept (drive_seen w) =
    timer_kept w.core.tick_at (drive_seen w) (unheld kind.Tick) (d.low shut some (subst (λ (x : CmpAt). commutes x ≡ false) (sym at) refl)) in
    not_late (drive_seen w) kept none (by_sector w.bank.sector refl q some)
  where
    over : end.0 ≤ w.bank.time
    over = reached_at w.bank.crossing w.bank.comp_enabled w.bank.comp_changed end.0 w.bank.time s.regs.0 s.regs.1 due

    by_sector : (n : ℕ) → w.bank.sector ≡ n → HasQ (turn_at w.back) → 0 < demand_at w.back → low_free w.core.drive ≤ w.bank.time
    by_sector zero z q some =
        (let first : at_leg w.core.drive.gates.hi_free (low_of w.core.drive.turn.to) ≡ 0 =
        (t kind.Comm).switches.unused z (low_of w.core.drive.turn.to) in omega arith)
    by_sector (suc n) z q some =
        let d = t kind.Comm in
        let on : 0 < w.bank.sector = omega arith in
        let to : w.core.drive.turn.to ≡ w.bank.sector = d.newest.to_is (rw shut refl) on in
        let free : at_leg w.core.drive.gates.hi_free (low_of w.core.drive.turn.to) ≤ turned_at w.back + dead_time =
        d.switches.outer on (low_of w.core.drive.turn.to) (λ same. apart_legs w.bank.sector on d.switches.sectors (same ∙ ap low_of to)) in
        let long = long_blank w.back q in
        let f = s.phase_is.1 in
        let end_is : end.0 ≡ f.begun + filter_time = f.end_is in
        let past = f.after in
        let l = over in
        omega arith

quiet_none : (since t q : ℕ) → t < since → (if nat_le since t then q + 1 else 0) ≡ 0
quiet_none since t q l = by_test (nat_le since t) (grind (arith, nat_tests))
  where
    by_test : (v : Bool) → v ≡ false → (if v then q + 1 else 0) ≡ 0
    by_test true e = cc
    by_test false e = refl

quiet_more : (since t q : ℕ) → since ≤ t → (if nat_le since t then q + 1 else 0) ≡ q + 1
quiet_more since t q l = rw (le-leb since t l) refl

cmp_entered : (w : World) → Ties w → Unheld w → w.core.cmp_at ≡ cmp.Shut
    → (is_reached w.bank.crossing w.bank.time || (w.bank.comp_enabled && w.bank.comp_changed)) ≡ true → Past w.made w.bank.time → w.core.comm_at ≡ comm.Shut
    → is_reached w.bank.comm w.bank.time ≡ false
    → Tie kind.Cmp (after_enter kind.Cmp w)
cmp_entered w t unheld shut due past closed none =
    let free = free_at w closed (unheld kind.Tick) past in
    let s = stands (cross_seen w) cmp.Shut w.core.drive.crossing.phase shut refl free (t kind.Cmp) in
    cross_entered (cross_seen w) (λ since. quiet_at since (enters kind.Cmp w.bank.time ∷ w.back)) free (t kind.Cmp) s due
    (late_entered w.core.drive.crossing.phase w refl t unheld closed shut none due s)
    (λ since l. quiet_none since w.bank.time (quiet_at since w.back) l)
    (quiet_more (held w.trace w.bank.time).since w.bank.time (quiet_at (held w.trace w.bank.time).since w.back) (since_past w.trace w.bank.time))

-- ---- an event

cmp_outside : (w : World) (e : Event) → tick_of e ≡ w.bank.time → w.made.cmp_past ≤ w.bank.time → CrossTied (cross_seen w) → Tie kind.Cmp (after_outside w e)
cmp_outside w (event.Comp at level) is past t = by_test (differ w.bank.comp level) refl
  where
    same : held (w.trace ++ event.Comp at level ∷ []) w.bank.time ≡ held_to true at.0 (held w.trace w.bank.time) level
    same = held_now w.trace at level w.bank.time is

    by_test : (v : Bool) → differ w.bank.comp level ≡ v → Tie kind.Cmp (after_outside w (event.Comp at level))
    by_test true d =
        let h : held (w.trace ++ event.Comp at level ∷ []) w.bank.time ≡ record { level = level; since = w.bank.time } =
        same ∙ rw (subst (λ (x : Bool). differ x level ≡ true) t.level_is d, is) refl in
        rw (h, d) (cross_changes (cross_seen w) level past t)
    by_test false d =
        let h : held (w.trace ++ event.Comp at level ∷ []) w.bank.time ≡ held w.trace w.bank.time =
        same ∙ rw (subst (λ (x : Bool). differ x level ≡ false) t.level_is d) refl in
        rw (h, d) t
cmp_outside w (event.Edge at level) is past t = rw (held-push w.trace (event.Edge at level) w.bank.time) t
cmp_outside w (event.Serial at byte) is past t = rw (held-push w.trace (event.Serial at byte) w.bank.time) t
cmp_outside w (event.Stall at n) is past t = rw (held-push w.trace (event.Stall at n) w.bank.time) t

pub cmp_law : HandlerLaw kind.Cmp
cmp_law = record {
  called = λ w i s. cmp_called w i.rest.ties i.unheld (cmp_shut w.core.cmp_at i.shut) s;
  asked = λ w i. (tt, cmp_asked w i);
  entered = λ w i.
      cmp_entered w i.rest.ties i.unheld (cmp_shut w.core.cmp_at i.shut) i.due i.past
      (comm_shut w.core.comm_at w.core.drive.turn.at (i.highest.shut kind.Comm (omega arith)))
      (i.highest.none kind.Comm (omega arith));
  beside = λ w i. elim [
    | kind.Cmp ↦ λ ne. absurd (ne refl)
    | kind.Comm ↦ λ ne. searched_drive (drive_seen w) cmp.Raise w.core.drive.crossing
        (comm_shut w.core.comm_at w.core.drive.turn.at (i.highest.shut kind.Comm (omega arith)))
        (subst (λ (x : CmpAt). commutes x ≡ false) (sym (cmp_shut w.core.cmp_at i.shut)) refl) refl (i.rest.ties kind.Comm)
    | j ↦ λ ne. i.rest.ties j
  ];
  steps = λ w answers outer given i. cmp_steps_preserve w.core.cmp_at w outer (record {
    ground = i.rest.ground;
    ties = i.rest.ties;
    on = i.on;
    place_is = refl;
    comm_is = comm_shut w.core.comm_at w.core.drive.turn.at (i.above kind.Comm (omega arith));
    unmasked = i.alone kind.Tick (λ e. cc);
    past = i.past;
  }) i.left;
  later = λ w u from small i.
      subst (λ (h : Held). CrossTied (record (cross_seen w) { time = u; held = h })) (sym (held_stays w.trace w.bank.time u from i.ground.outside.events))
      (cross_later (cross_seen w) u from (i.ties kind.Cmp));
  outside = λ w e i. cmp_outside w e i.now i.past.cmp (i.rest.ties kind.Cmp);
}
