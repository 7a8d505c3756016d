-- CMP's steps that look at the comparator.
use Rattle.std.proofs.Common.{◌≡◌, ◌≤◌, ◌<◌, ◌+◌, ◌-◌, inl, inr, ℕ, Bool, true, false, not, ◌&&◌, ◌||◌, nat_le, List, ◌∷◌, refl, sym, ◌∙◌, ap, subst, arith}
use Rattle.std.proofs.lemmas.Bool.{cases_lt, le-leb, leb-true, not-true}
use Rattle.esc_base.specs.Times.{filter_time, rejected_blanking}
use Rattle.esc_base.specs.declared.kind.Kind.{Kind}
use Rattle.esc_base.specs.declared.kind.Kind.TheVariants as kind
use Rattle.esc_base.specs.declared.event.Event.{Event}
use Rattle.esc_base.specs.declared.note.Note.TheVariants as note
use Rattle.esc_base.specs.declared.tick.Tick.{Tick}
use Rattle.esc_base.specs.Numbers.{as_tick}
use Rattle.esc_base.specs.Trace.{differ}
use Rattle.timer_regs.specs.declared.regs.Reg.TheVariants as reg
use Rattle.interrupt_machine.specs.Did.{NoAccess, Reads, Writes}
use Rattle.zero_cross.specs.declared.phase.Phase.{Phase}
use Rattle.zero_cross.specs.declared.phase.Phase.TheVariants as phase
use Rattle.zero_cross.specs.Comparator.{Held, held}
use Rattle.zero_cross.specs.Kept.{is_expected, is_clean}
use Rattle.commutation.specs.Commutated.{Turn, Idle, Started, Turned, Crossed, crossed_by, is_forced, turn_at}
use Rattle.commutation.specs.Pace.{Pace, paced, wait_of}
use Rattle.commutation.specs.Drive.{pace_at, wait_at}
use Rattle.commutation.specs.Sectors.{low_of}
use Rattle.arming.specs.ControlAt.{demand_at}
use Rattle.esc_core.specs.declared.state.CmpAt.{CmpAt}
use Rattle.esc_core.specs.declared.state.CmpAt.TheVariants as cmp
use Rattle.esc_core.specs.declared.state.CommAt.{CommAt}
use Rattle.esc_core.specs.declared.state.CommAt.TheVariants as comm
use Rattle.esc_core.specs.declared.drive.Drive.{Drive}
use Rattle.esc_core.specs.Drive.{is_stuck, crossed}
use Rattle.esc_core.specs.Cmp.{judged_step, passes, blank_step, filter_step, look_step, cmp_step}
use Rattle.esc_core.specs.Stepped.{goes_on}
use Rattle.esc_laws.specs.Crossed.{blanked_at, IsCrossing, MayCross}
use Rattle.esc_laws.specs.Saves.{advance_of}
use Rattle.esc_rooms.specs.DriveTied.{DriveView, DriveTied, CommTied, TimerKept, ChangeTied, commutes, low_on}
use Rattle.esc_rooms.specs.CrossTied.{HasQ}
use Rattle.esc_rooms.specs.World.{World, so_far}
use Rattle.esc_rooms.specs.Rooms.{StepKeeps, drive_seen, cross_seen}
use Rattle.esc_laws.proofs.Comparator.{steady_of, bit_steady}
use Rattle.esc_rooms.proofs.shared.RoomSteps.{quiet_gates, ground_noted, inside}
use Rattle.esc_rooms.proofs.shared.DriveFacts.{timer_kept}
use Rattle.esc_rooms.proofs.cmp.StepFacts.{raised, looked_off, looked_done, looked_early, looked_blanked, looked_watch, looked_reject, accepted}
use Rattle.esc_rooms.proofs.cmp.Preserves.{IsCmp, free_of, stands_at, cmp_step_preserves, cmp_wait_preserves}
use Rattle.esc_laws.specs.NoteLaw as owed

-- ---- it raises the mask, and looks

pub cmp_raise_preserves : (w : World) (outer : List Kind) → IsCmp w outer cmp.Raise → StepKeeps kind.Cmp outer w (cmp_step cmp.Raise w.core w.bank)
cmp_raise_preserves w outer i = cmp_wait_preserves w outer cmp.Raise cmp.Look w.core.drive.crossing.phase 8 (Writes reg.Mask 1) i refl refl refl refl refl
    (raised (cross_seen w) w.core.drive.crossing.phase (free_of w outer cmp.Raise i) (stands_at w outer cmp.Raise w.core.drive.crossing.phase i refl))

look_off_preserves : (w : World) (outer : List Kind) → w.core.drive.crossing.phase ≡ phase.Off → IsCmp w outer cmp.Look
    → StepKeeps kind.Cmp outer w (passes w.core)
look_off_preserves w outer e i = cmp_wait_preserves w outer cmp.Look cmp.Lower phase.Off w.core.hold NoAccess i refl refl refl refl e
    (looked_off (cross_seen w) (free_of w outer cmp.Look i) (stands_at w outer cmp.Look phase.Off i e))

look_done_preserves : (w : World) (outer : List Kind) → w.core.drive.crossing.phase ≡ phase.Done → IsCmp w outer cmp.Look
    → StepKeeps kind.Cmp outer w (passes w.core)
look_done_preserves w outer e i = cmp_wait_preserves w outer cmp.Look cmp.Lower phase.Done w.core.hold NoAccess i refl refl refl refl e
    (looked_done (cross_seen w) (free_of w outer cmp.Look i) (stands_at w outer cmp.Look phase.Done i e))

look_early_preserves : (end : Tick) (w : World) (outer : List Kind) → w.core.drive.crossing.phase ≡ phase.Blank end → nat_le end.0 w.bank.time ≡ false
    → IsCmp w outer cmp.Look → StepKeeps kind.Cmp outer w (passes w.core)
look_early_preserves end w outer e early i = cmp_wait_preserves w outer cmp.Look cmp.Lower (phase.Blank end) w.core.hold NoAccess i refl refl refl refl e
    (looked_early (cross_seen w) end.0 early (free_of w outer cmp.Look i) (stands_at w outer cmp.Look (phase.Blank end) i e))

look_watch_preserves : (w : World) (outer : List Kind) → w.core.drive.crossing.phase ≡ phase.Watch → IsCmp w outer cmp.Look
    → StepKeeps kind.Cmp outer w (goes_on (record w.core { cmp_at = cmp.Ack }) NoAccess)
look_watch_preserves w outer e i = cmp_wait_preserves w outer cmp.Look cmp.Ack phase.Watch w.core.hold NoAccess i refl refl refl refl e
    (looked_watch (cross_seen w) (free_of w outer cmp.Look i) (stands_at w outer cmp.Look phase.Watch i e))

-- blanking is over: its changes ask for CMP
look_blanked_preserves : (end : Tick) (w : World) (outer : List Kind) → w.core.drive.crossing.phase ≡ phase.Blank end → nat_le end.0 w.bank.time ≡ true
    → IsCmp w outer cmp.Look → StepKeeps kind.Cmp outer w (blank_step true w.core w.bank)
look_blanked_preserves end w outer e over i =
    cmp_step_preserves w outer cmp.Look cmp.Read (phase.Blank end) w.core.drive.crossing w.core.hold (w.bank.comp_changed && false)
    (w.bank.comp_enabled || true)
    w.bank.crossing (Writes reg.CmpEn 1) i refl refl refl refl e refl
    (looked_blanked (cross_seen w) end.0 over (free_of w outer cmp.Look i) (stands_at w outer cmp.Look (phase.Blank end) i e))

-- a filter in which the level didn't stand
judge_rejected_preserves : (end : Tick) (w : World) (outer : List Kind) → w.core.drive.crossing.phase ≡ phase.Filter end → nat_le end.0 w.bank.time ≡ true
    → is_clean w.core.drive.crossing w.bank.comp w.bank.comp_changed ≡ false → IsCmp w outer cmp.Look
    → StepKeeps kind.Cmp outer w (judged_step false w.core w.bank)
judge_rejected_preserves end w outer e over ill i =
    let anew : Phase = phase.Blank (as_tick (w.bank.time + rejected_blanking)) in
    cmp_step_preserves w outer cmp.Look cmp.Arm anew (record w.core.drive.crossing { phase = anew }) w.core.hold w.bank.comp_changed w.bank.comp_enabled
    w.bank.crossing (Reads reg.CmpState) i refl refl refl refl refl refl
    (looked_reject (cross_seen w) end.0 over ill (free_of w outer cmp.Look i) (i.ties kind.Cmp) (stands_at w outer cmp.Look (phase.Filter end) i e))

-- after a Q there is a demand
pub q_drives : (turn : Turn) (demand : ℕ) → HasQ turn → (demand ≡ 0 → turn ≡ Idle) → 0 < demand
q_drives turn demand q idle = elim (cases_lt 0 demand) [
  | inl l ↦ l
  | inr z ↦ absurd (subst (λ (x : Turn). HasQ x) (idle (omega arith)) q)
]

may_cross : (trace : List Event) (expects : Bool) (blanked z : ℕ) (turn : Turn) → HasQ turn → IsCrossing trace expects blanked z
    → MayCross trace expects blanked turn z
may_cross trace expects blanked z (Turned q) h c = c
may_cross trace expects blanked z Idle h c = absurd h
may_cross trace expects blanked z Started h c = absurd h
may_cross trace expects blanked z (Crossed q y) h c = absurd h

and_not : (well changed : Bool) → (well && not changed) ≡ true → (well ≡ true) × (changed ≡ false)
and_not true false e = (refl, refl)
and_not true true e = cc
and_not false changed e = cc

-- the level has stood since the filter began
is_crossing : (w : World) (outer : List Kind) (end : Tick) → IsCmp w outer cmp.Look → w.core.drive.crossing.phase ≡ phase.Filter end → end.0 ≤ w.bank.time
    → is_clean w.core.drive.crossing w.bank.comp w.bank.comp_changed ≡ true
    → IsCrossing w.trace (cross_seen w).expects (blanked_at w.back) w.bank.time
is_crossing w outer end i e over well =
    let u = i.ties kind.Cmp in
    let f = (stands_at w outer cmp.Look (phase.Filter end) i e).phase_is.1 in
    let h : Held = held w.trace w.bank.time in
    let two = and_not (is_expected w.core.drive.crossing w.bank.comp) w.bank.comp_changed well in
    let level : differ h.level (cross_seen w).expects ≡ false =
    subst (λ (x : Bool). differ x (cross_seen w).expects ≡ false) u.level_is
    (subst (λ (x : Bool). differ w.bank.comp x ≡ false) u.expects_is (not-true (differ w.bank.comp w.core.drive.crossing.expects) two.0)) in
    record {
      steady = steady_of w.trace (cross_seen w).expects (w.bank.time - filter_time) w.bank.time (omega arith) i.ground.outside.in_time
          (bit_steady h (cross_seen w).expects w.bank.comp_changed f.begun (w.bank.time - filter_time) f.bit (let a = f.end_is in omega arith) two.1 level);
      blanked_before = (let a = f.end_is in let b = f.after in omega arith);
    }

-- where COMM wasn't late, the low switch is on
low_up : (v : DriveView) → HasQ v.turn → v.drive.postponed ≡ false → TimerKept v → (low_on v ≡ true) × (v.drive.postponed ≡ false)
low_up v q prompt (inl (e, inl on)) = on
low_up v q prompt (inl (e, inr late)) = absurd (let z : false ≡ true = sym prompt ∙ late.0 in cc)
low_up v q prompt (inr (at, e, l, c)) = absurd (subst (λ (x : Turn). HasQ x) c.started q)

crossed_change : (turn : Turn) (wait z at time : ℕ) → HasQ turn → at ≡ z + wait → ChangeTied wait (crossed_by turn z) at time
crossed_change (Turned q) wait z at time h e = e
crossed_change Idle wait z at time h e = absurd h
crossed_change Started wait z at time h e = absurd h
crossed_change (Crossed q y) wait z at time h e = absurd h

unforced_now : (turn : Turn) (z : ℕ) → HasQ turn → false ≡ is_forced (crossed_by turn z)
unforced_now (Turned q) z h = refl
unforced_now Idle z h = absurd h
unforced_now Started z h = absurd h
unforced_now (Crossed q y) z h = absurd h

told_mark : (told stuck a : Bool) → told ≡ (stuck || a) → (a ≡ true → stuck ≡ true) → told ≡ (stuck || false)
told_mark told true a e m = e
told_mark told false true e m = (let z : false ≡ true = m refl in cc)
told_mark told false false e m = e

-- the drive after a crossing at now
abbrev crossed_drive_view : DriveView → Drive → ℕ → DriveView
crossed_drive_view v d wait =
    record v { drive = d; cmp_at = cmp.Commute; turn = crossed_by v.turn v.time; wait = wait; told_forced = 0 }

crossed_drive : (v : DriveView) (wait : ℕ) → v.comm_at ≡ comm.Shut → HasQ v.turn → low_on v ≡ true → v.drive.postponed ≡ false
    → wait_of v.drive.timing.advance (paced v.drive.timing.pace (as_tick v.time)).interval ≡ wait → DriveTied v
    → DriveTied (crossed_drive_view v (crossed v.drive v.time) wait)
crossed_drive v wait shut q on prompt same t =
    let some : 0 < v.sector = (t.switches.pair.low (low_of v.sector) on).1 in
    record {
      switches = t.switches;
      newest = t.newest;
      next = record {
        idle = λ z. absurd (let l = q_drives v.turn v.demand q t.next.idle in omega arith);
        due = λ l. crossed_change v.turn wait v.time _ v.time q (ap (λ (x : ℕ). v.time + x) same);
        first = λ z l. absurd (omega arith);
      };
      row = record {
        turned = λ l. unforced_now v.turn v.time q;
        forced = refl;
        unforced = λ x. refl;
        rest_unmarked = t.row.rest_unmarked;
        stuck = λ l. told_mark v.told_stuck v.stuck (is_stuck v.drive) (t.row.stuck l) (t.row.marked l (rw shut refl));
        marked = λ l m x. cc;
      };
      place = subst (λ (x : CommAt). CommTied x (crossed_drive_view v (crossed v.drive v.time) wait)) (sym shut) tt;
      low = λ e l x. cc;
      crossed = λ e. (on, prompt);
      postponed = t.postponed;
    }

-- a crossing is accepted
judge_accepted_preserves : (end : Tick) (w : World) (outer : List Kind) → w.core.drive.crossing.phase ≡ phase.Filter end → nat_le end.0 w.bank.time ≡ true
    → is_clean w.core.drive.crossing w.bank.comp w.bank.comp_changed ≡ true → IsCmp w outer cmp.Look
    → StepKeeps kind.Cmp outer w (judged_step true w.core w.bank)
judge_accepted_preserves end w outer e over well i =
    let u = i.ties kind.Cmp in
    let t = i.ties kind.Comm in
    let st = stands_at w outer cmp.Look (phase.Filter end) i e in
    let q : HasQ (turn_at w.back) = st.phase_is.0 in
    let some : 0 < demand_at w.back = q_drives (turn_at w.back) (demand_at w.back) q t.next.idle in
    let told : paced w.core.drive.timing.pace (as_tick w.bank.time) ≡ paced (pace_at w.back) (as_tick w.bank.time) =
    ap (λ (p : Pace). paced p (as_tick w.bank.time)) u.pace_is in
    let wait : wait_of w.core.drive.timing.advance (paced w.core.drive.timing.pace (as_tick w.bank.time)).interval
    ≡ wait_of (advance_of w.loaded.settings) (paced (pace_at w.back) (as_tick w.bank.time)).interval =
    ap (λ (a : ℕ). wait_of a (paced w.core.drive.timing.pace (as_tick w.bank.time)).interval) u.advance_is
    ∙ ap (λ (p : Pace). wait_of (advance_of w.loaded.settings) p.interval) told in
    let kept : TimerKept (drive_seen w) =
    timer_kept w.core.tick_at (drive_seen w) i.unmasked (t.low i.comm_is some (subst (λ (x : CmpAt). commutes x ≡ false) (sym i.place_is) refl)) in
    let up = low_up (drive_seen w) q st.late kept in
    record {
      gates = quiet_gates kind.Cmp w _ (λ f. cc) refl refl refl;
      fits = λ g. (
        record {
          at = refl;
          owned = refl;
          keeps = record {
            laws = elim [
              | owed.Drives ↦ some
              | owed.Crosses ↦ may_cross w.trace (cross_seen w).expects (blanked_at w.back) w.bank.time (turn_at w.back) q
                  (is_crossing w outer end i e (leb-true end.0 w.bank.time over) well)
              | owed.Nests ↦ inside (so_far w).stack kind.Cmp outer i.on
              | l ↦ tt
            ];
            waits = tt;
          };
        },
        tt,
      );
      ground = ground_noted w (note.Cross (as_tick w.bank.time)) refl refl tt refl i.ground;
      tie = λ g. accepted (cross_seen w) end.0 (paced w.core.drive.timing.pace (as_tick w.bank.time)) (paced (pace_at w.back) (as_tick w.bank.time)) told
          i.place_is (free_of w outer cmp.Look i) u st;
      others = elim [
        | kind.Cmp ↦ λ ne v. absurd (ne refl)
        | kind.Comm ↦ λ ne v. crossed_drive (drive_seen w) (wait_at (advance_of w.loaded.settings) (note.Cross (as_tick w.bank.time) ∷ w.back))
            i.comm_is q up.0 up.1 wait t
        | j ↦ λ ne v. v
      ];
      stack_is = i.on;
    }

look_blank_preserves : (v : Bool) (end : Tick) (w : World) (outer : List Kind) → w.core.drive.crossing.phase ≡ phase.Blank end → nat_le end.0 w.bank.time ≡ v
    → IsCmp w outer cmp.Look → StepKeeps kind.Cmp outer w (blank_step v w.core w.bank)
look_blank_preserves true end w outer e over i = look_blanked_preserves end w outer e over i
look_blank_preserves false end w outer e early i = look_early_preserves end w outer e early i

judge_preserves : (v : Bool) (end : Tick) (w : World) (outer : List Kind) → w.core.drive.crossing.phase ≡ phase.Filter end → nat_le end.0 w.bank.time ≡ true
    → is_clean w.core.drive.crossing w.bank.comp w.bank.comp_changed ≡ v → IsCmp w outer cmp.Look → StepKeeps kind.Cmp outer w (judged_step v w.core w.bank)
judge_preserves true end w outer e over well i = judge_accepted_preserves end w outer e over well i
judge_preserves false end w outer e over ill i = judge_rejected_preserves end w outer e over ill i

-- CMP comes no earlier than the filter's end
look_filter_preserves : (v : Bool) (end : Tick) (w : World) (outer : List Kind) → w.core.drive.crossing.phase ≡ phase.Filter end → nat_le end.0 w.bank.time ≡ v
    → IsCmp w outer cmp.Look → StepKeeps kind.Cmp outer w (filter_step v w.core w.bank)
look_filter_preserves true end w outer e over i = judge_preserves (is_clean w.core.drive.crossing w.bank.comp w.bank.comp_changed) end w outer e over refl i
look_filter_preserves false end w outer e early i = absurd (
    let l : end.0 ≤ w.bank.time = (stands_at w outer cmp.Look (phase.Filter end) i e).regs.0.1 in
    let g : nat_le end.0 w.bank.time ≡ true = le-leb end.0 w.bank.time l in
    let z : false ≡ true = sym early ∙ g in cc)

pub cmp_look_preserves : (p : Phase) (w : World) (outer : List Kind) → w.core.drive.crossing.phase ≡ p → IsCmp w outer cmp.Look
    → StepKeeps kind.Cmp outer w (look_step p w.core w.bank)
cmp_look_preserves phase.Off w outer e i = look_off_preserves w outer e i
cmp_look_preserves (phase.Blank end) w outer e i = look_blank_preserves (nat_le end.0 w.bank.time) end w outer e refl i
cmp_look_preserves phase.Watch w outer e i = look_watch_preserves w outer e i
cmp_look_preserves (phase.Filter end) w outer e i = look_filter_preserves (nat_le end.0 w.bank.time) end w outer e refl i
cmp_look_preserves phase.Done w outer e i = look_done_preserves w outer e i
