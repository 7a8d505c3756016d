-- COMM's row of the laws: what calls it, its entry, and the drive's tie as time goes on.
use Rattle.std.proofs.Common.{◌≡◌, ◌≤◌, ◌<◌, ◌+◌, ◌⊎◌, inl, inr, ℕ, zero, suc, min, Bool, true, false, not, ◌||◌, nat_lt, nat_le, if◌then◌else◌, Option, Some, refl, sym, ◌∙◌, subst, arith}
use Rattle.std.proofs.lemmas.Bool.{cases_lt, and_parts, ltb-true, leb-true, le-leb, not-true}
use Rattle.esc_base.specs.declared.kind.Kind.TheVariants as kind
use Rattle.esc_base.specs.Legs.{is_on}
use Rattle.esc_base.specs.Times.{is_reached, forced_limit}
use Rattle.arming.specs.ControlAt.{demand_at}
use Rattle.commutation.specs.Sectors.{low_of}
use Rattle.commutation.specs.Commutated.{Turn, Idle, Started, Turned, Crossed, sector_at, turn_at}
use Rattle.gate_driver.specs.declared.to_sector.ChangeAt.{ChangeAt}
use Rattle.gate_driver.specs.declared.to_sector.ChangeAt.TheVariants as change
use Rattle.gate_driver.specs.DeadSafe.{low_at, high_free_at}
use Rattle.esc_core.specs.declared.state.CommAt.{CommAt}
use Rattle.esc_core.specs.declared.state.CommAt.TheVariants as comm
use Rattle.esc_core.specs.Drive.{low_free, due_at}
use Rattle.esc_core.specs.Firmware.{comm_left}
use Rattle.esc_laws.specs.Saves.{advance_of}
use Rattle.esc_laws.specs.Calls.{calls_turn, calls_low, turn_is_due, turned_at, low_is_on}
use Rattle.esc_rooms.specs.Tied.{WordTold}
use Rattle.esc_rooms.specs.DriveTied.{DriveView, DriveTied, CommTied, TimerKept, ChangeTied, Resumed, HasActed, OnOrHeld, low_on, TurnTied}
use Rattle.esc_rooms.specs.World.{World, after_enter}
use Rattle.esc_rooms.specs.Rooms.{Ties, Tie, Unheld, drive_seen, cross_seen}
use Rattle.esc_rooms.proofs.shared.DriveFacts.{comm_shut, timer_kept, low_kept}
use Rattle.esc_rooms.proofs.cmp.CrossFacts.{cmp_unmasked, unmasked_commutes}
use Rattle.esc_rooms.proofs.cmp.BesideComm.{moved_cross}
use Rattle.esc_rooms.proofs.shared.Law.{HandlerLaw}
use Rattle.esc_rooms.proofs.cap.Period.{period_kept}
use Rattle.esc_rooms.proofs.comm.Asked.{entry_drives, brought, comm_asked}
use Rattle.esc_rooms.proofs.comm.Steps.{comm_steps_preserve}

open_drives : (w : World) → Ties w → (w.core.comm_at ≡ comm.Shut → ⊥) → 0 < demand_at w.back
open_drives w t ne = elim (cases_lt 0 (demand_at w.back)) [
  | inl l ↦ l
  | inr z ↦ absurd (ne ((t kind.Tick).4 (omega arith)).comm_shut)
]

not_shut : (place : CommAt) (at : ChangeAt) → 0 < comm_left place at → place ≡ comm.Shut → ⊥
not_shut comm.Shut at l e = omega arith
not_shut place at l e = cc

-- ---- what calls COMM is due

reached : (timer : Option ℕ) (at t : ℕ) → timer ≡ Some at → at ≤ t → is_reached timer t ≡ true
reached timer at t e l = rw e (le-leb at t l)

due_by_change : (late : Bool) (change free t : ℕ) → change ≤ t → (if late then min change free else change) ≤ t
due_by_change true change free t l = omega arith
due_by_change false change free t l = l

due_by_low : (late : Bool) (change free t : ℕ) → late ≡ true → free ≤ t → (if late then min change free else change) ≤ t
due_by_low true change free t e l = omega arith
due_by_low false change free t e l = cc

change_due : (v : DriveView) → TimerKept v → v.drive.change ≤ v.time → is_reached v.timer v.time ≡ true
change_due v (inl (e, o)) l = reached v.timer (due_at v.drive) v.time e (due_by_change v.drive.postponed v.drive.change (low_free v.drive) v.time l)
change_due v (inr (at, e, now, c)) l = reached v.timer at v.time e now

low_due : (v : DriveView) → TimerKept v → low_on v ≡ false → low_free v.drive ≤ v.time → is_reached v.timer v.time ≡ true
low_due v (inl (e, inl o)) off l = (let z : true ≡ false = sym o.0 ∙ off in cc)
low_due v (inl (e, inr late)) off l =
    reached v.timer (due_at v.drive) v.time e (due_by_low v.drive.postponed v.drive.change (low_free v.drive) v.time late.0 l)
low_due v (inr (at, e, now, c)) off l = reached v.timer at v.time e now

turn_due : (wait : ℕ) (turn : Turn) (change time : ℕ) → ChangeTied wait turn change time → turn_is_due wait turn time ≡ true → change ≤ time
turn_due wait Idle change time c e = absurd c
turn_due wait Started change time c e = c
turn_due wait (Turned q) change time c e = (let l = leb-true (q + forced_limit) time e in let s : change ≡ q + forced_limit = c in omega arith)
turn_due wait (Crossed q z) change time c e = (let l = leb-true (z + wait) time e in let s : change ≡ z + wait = c in omega arith)

-- what is called for a change of sector has a demand
turn_drives : (w : World) → Ties w → calls_turn (advance_of w.loaded.settings) w.back w.bank.time ≡ true → 0 < demand_at w.back
turn_drives w t e = elim (cases_lt 0 (demand_at w.back)) [
  | inl l ↦ l
  | inr z ↦ absurd (
      let idle : turn_at w.back ≡ Idle = (t kind.Comm).next.idle (omega arith) in
      let f : false ≡ true = subst (λ (x : Turn). turn_is_due (drive_seen w).wait x w.bank.time ≡ true) idle e in
      cc)
]

or_parts : (a b : Bool) → (a || b) ≡ true → (a ≡ true) ⊎ (b ≡ true)
or_parts true b e = inl refl
or_parts false b e = inr e

comm_called : (w : World) → Ties w → WordTold w.core w.bank w.back → Unheld w → w.core.comm_at ≡ comm.Shut
    → (calls_turn (advance_of w.loaded.settings) w.back w.bank.time || calls_low w.back w.bank.time) ≡ true → is_reached w.bank.comm w.bank.time ≡ true
comm_called w t told unheld shut e = elim (or_parts (calls_turn (advance_of w.loaded.settings) w.back w.bank.time) (calls_low w.back w.bank.time) e) [
  | inl turn ↦ (
      let some = turn_drives w t turn in
      change_due (drive_seen w) (kept some) (turn_due (drive_seen w).wait (turn_at w.back) w.core.drive.change w.bank.time (d.next.due some) turn))
  | inr low ↦ (
      let p = and_parts (nat_lt 0 (demand_at w.back)) _ low in
      let q = and_parts (not (low_is_on w.back)) (nat_le (high_free_at (low_of (sector_at w.back)) w.back) w.bank.time) p.1 in
      let some : 0 < demand_at w.back = ltb-true 0 (demand_at w.back) p.0 in
      by_sector w.bank.sector refl some (not-true (low_is_on w.back) q.0)
      (leb-true (high_free_at (low_of (sector_at w.back)) w.back) w.bank.time q.1))
]
  where
    d : DriveTied (drive_seen w)
    d = t kind.Comm

    kept : 0 < demand_at w.back → TimerKept (drive_seen w)
    kept some = timer_kept w.core.tick_at (drive_seen w) (unheld kind.Tick)
        ((t kind.Comm).low shut some (unmasked_commutes w.core.cmp_at (cmp_unmasked w.core.cmp_at (unheld kind.Cmp))))

    by_sector : (s : ℕ) → w.bank.sector ≡ s → 0 < demand_at w.back → low_is_on w.back ≡ false → high_free_at (low_of (sector_at w.back)) w.back ≤ w.bank.time
        → is_reached w.bank.comm w.bank.time ≡ true
    by_sector zero z some off free = change_due (drive_seen w) (kept some) ((t kind.Comm).next.first z some)
    by_sector (suc n) z some off free =
        let to : w.core.drive.turn.to ≡ w.bank.sector = (t kind.Comm).newest.to_is (rw shut refl) (omega arith) in
        low_due (drive_seen w) (kept some)
        (subst (λ (lo : ℕ). is_on lo (low_of w.bank.sector) ≡ false) told.lo_is
        (subst (λ (x : ℕ). is_on (low_at w.back) (low_of x) ≡ false) (sym (t kind.Comm).switches.sector_is) off))
        (rw (to, (t kind.Comm).switches.sector_is, ← told.hi_free (low_of (sector_at w.back))) free)

-- ---- its entry

comm_entered : (w : World) → Ties w → Unheld w → w.core.comm_at ≡ comm.Shut → is_reached w.bank.comm w.bank.time ≡ true → w.made.comm_past ≤ w.bank.time
    → Tie kind.Comm (after_enter kind.Comm w)
comm_entered w t unheld shut due past =
    let d = t kind.Comm in
    let some = entry_drives w t unheld due in
    let kept = timer_kept w.core.tick_at (drive_seen w) (unheld kind.Tick)
    (d.low shut some (unmasked_commutes w.core.cmp_at (cmp_unmasked w.core.cmp_at (unheld kind.Cmp)))) in
    record {
      switches = d.switches;
      newest = record {
        since = λ s. (let a : turned_at w.back + 4 ≤ w.made.comm_past = rw shut at (d.newest.since s) in omega arith);
        to_is = λ e. d.newest.to_is (rw shut refl);
        at_low = d.newest.at_low;
      };
      next = d.next;
      row = record {
        turned = d.row.turned;
        forced = d.row.forced;
        unforced = d.row.unforced;
        rest_unmarked = d.row.rest_unmarked;
        stuck = d.row.stuck;
        marked = λ l e. d.row.marked l (rw shut refl);
      };
      place = record {
        none = refl;
        due = brought (drive_seen w) kept due;
        was_due = λ e. turn_due (drive_seen w).wait (turn_at w.back) w.core.drive.change w.bank.time (d.next.due some) e;
        postponed = d.postponed shut some;
      };
      low = λ e. cc;
      crossed = d.crossed;
      postponed = λ e. cc;
    }

-- ---- time goes on

change_later : (wait : ℕ) (turn : Turn) (change t u : ℕ) → t ≤ u → ChangeTied wait turn change t → ChangeTied wait turn change u
change_later wait Idle change t u l c = c
change_later wait Started change t u l c = omega arith
change_later wait (Turned q) change t u l c = c
change_later wait (Crossed q z) change t u l c = c

turn_later : (at : ChangeAt) (v : DriveView) (u : ℕ) → v.time ≤ u → TurnTied at v → TurnTied at (record v { time = u })
turn_later change.ClearHigh v u l x = record { none = x.none; to_is = x.to_is; due = (let d = x.due in omega arith); prompt = x.prompt }
turn_later change.ClearLow v u l x = (record { none = x.0.none; to_is = x.0.to_is; due = (let d = x.0.due in omega arith); prompt = x.0.prompt }, x.1)
turn_later change.SetSector v u l x =
    (record { none = x.0.none; to_is = x.0.to_is; due = (let d = x.0.due in omega arith); prompt = x.0.prompt }, x.1, x.2)
turn_later change.Low v u l x = x
turn_later change.Position v u l x = record { one = x.one; some = x.some; low = x.low; prompt = x.prompt }
turn_later (change.Duty position) v u l x = record { one = x.one; some = x.some; low = x.low; prompt = x.prompt }
turn_later change.High v u l x = record { one = x.one; some = x.some; low = x.low; prompt = x.prompt }
turn_later change.Over v u l x = x

acted_later : (v : DriveView) (u : ℕ) → HasActed v → HasActed (record v { time = u })
acted_later v u x = record { some = x.some; done = done x.done }
  where
    done : ((v.turns_in ≡ 1) × OnOrHeld v) ⊎ Resumed v → ((v.turns_in ≡ 1) × OnOrHeld (record v { time = u })) ⊎ Resumed (record v { time = u })
    done (inl d) = inl d
    done (inr r) = inr (record { none = r.none; not_due = r.not_due; postponed = r.postponed; low = r.low; prompt = r.prompt })

place_later : (place : CommAt) (v : DriveView) (u : ℕ) → v.time ≤ u → CommTied place v → CommTied place (record v { time = u })
place_later comm.Shut v u l x = tt
place_later comm.Decide v u l x = record {
  none = x.none;
  due = elim x.due [ inl a ↦ inl (omega arith) | inr a ↦ inr (a.0, (let b = a.1 in omega arith)) ];
  was_due = λ e. (let d = x.was_due e in omega arith);
  postponed = x.postponed;
}
place_later comm.Turn v u l x = turn_later v.drive.turn.at v u l x
place_later comm.Low v u l x = record {
  none = x.none;
  not_due = x.not_due;
  postponed = x.postponed;
  some = x.some;
  free = (let f = x.free in omega arith);
  late = x.late;
}
place_later comm.Blank v u l x = acted_later v u x
place_later comm.Period v u l x = acted_later v u x
place_later comm.Arm v u l x = acted_later v u x
place_later comm.Stick v u l x = ((acted_later v u x.0.0, x.0.1), x.1)
place_later comm.Back v u l x = (acted_later v u x.0, x.1)

timer_later : (v : DriveView) (u : ℕ) → v.time ≤ u → TimerKept v → TimerKept (record v { time = u })
timer_later v u l (inl k) = inl k
timer_later v u l (inr (at, e, now, c)) = inr (at, e, omega arith, record { started = c.started; due = (let d = c.due in omega arith) })

comm_later : (v : DriveView) (u : ℕ) → v.time ≤ u → DriveTied v → DriveTied (record v { time = u })
comm_later v u l t = record {
  switches = record {
    sector_is = t.switches.sector_is;
    sectors = t.switches.sectors;
    pair = t.switches.pair;
    held = λ x on. (let h = t.switches.held x on in omega arith);
    soon = λ x. (let s = t.switches.soon x in omega arith);
    outer = t.switches.outer;
    unused = t.switches.unused;
    past = (let p = t.switches.past in omega arith);
  };
  newest = t.newest;
  next = record {
    idle = t.next.idle;
    due = λ d. change_later v.wait v.turn v.drive.change v.time u l (t.next.due d);
    first = λ z d. (let f = t.next.first z d in omega arith);
  };
  row = t.row;
  place = place_later v.comm_at v u l t.place;
  low = λ e d s. low_kept v.tick_at v (record v { time = u }) (timer_later v u l) (λ c. record { started = c.started; due = (let x = c.due in omega arith) })
      (t.low e d s);
  crossed = t.crossed;
  postponed = t.postponed;
}

pub comm_law : HandlerLaw kind.Comm
comm_law = record {
  called = λ w i s. comm_called w i.rest.ties i.told i.unheld (comm_shut w.core.comm_at w.core.drive.turn.at i.shut) s;
  asked = λ w i. (tt, comm_asked w i);
  entered = λ w i. comm_entered w i.rest.ties i.unheld (comm_shut w.core.comm_at w.core.drive.turn.at i.shut) i.due i.past.comm;
  beside = λ w i. elim [
    | kind.Comm ↦ λ ne. absurd (ne refl)
    | kind.Tick ↦ λ ne. (
      (i.rest.ties kind.Tick).0,
      (i.rest.ties kind.Tick).1,
      (i.rest.ties kind.Tick).2,
      (i.rest.ties kind.Tick).3,
      λ z. absurd (let l = entry_drives w i.rest.ties i.unheld i.due in omega arith),
    )
    | kind.Cap ↦ λ ne. (
      (i.rest.ties kind.Cap).0,
      (i.rest.ties kind.Cap).1,
      (i.rest.ties kind.Cap).2,
      period_kept w _ (rw (comm_shut w.core.comm_at w.core.drive.turn.at i.shut) refl) (i.rest.ties kind.Cap).3,
    )
    | kind.Cmp ↦ λ ne. moved_cross (cross_seen w) comm.Decide w.core.drive.turn.at w.core.drive.postponed
        (rw (comm_shut w.core.comm_at w.core.drive.turn.at i.shut) refl) (λ e. cc) (i.rest.ties kind.Cmp).late (i.rest.ties kind.Cmp)
    | j ↦ λ ne. i.rest.ties j
  ];
  steps = λ w answers outer given i. comm_steps_preserve w.core.comm_at w outer (record {
    ground = i.rest.ground;
    ties = i.rest.ties;
    on = i.on;
    place_is = refl;
    change_is = refl;
    drives = open_drives w i.rest.ties (not_shut w.core.comm_at w.core.drive.turn.at i.left);
    past = i.past.comm;
    alone = i.alone;
  }) i.left;
  later = λ w u from small i. comm_later (drive_seen w) u from (i.ties kind.Comm);
  outside = λ w e i. i.rest.ties kind.Comm;
}
