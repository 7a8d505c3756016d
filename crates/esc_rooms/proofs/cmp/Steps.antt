-- CMP's steps keep the ties: it reads the comparator, begins a filter, writes its registers, and returns.
use Rattle.std.proofs.Common.{◌≡◌, ◌≤◌, ◌<◌, ◌+◌, ◌⊎◌, inl, inr, ℕ, Bool, true, false, List, Some, refl, sym, ◌∙◌, subst, arith}
use Rattle.std.proofs.lemmas.Bool.{cases_lt, le-leb}
use Rattle.esc_base.specs.Times.{filter_time}
use Rattle.esc_base.specs.declared.kind.Kind.{Kind}
use Rattle.esc_base.specs.declared.kind.Kind.TheVariants as kind
use Rattle.esc_base.specs.declared.event.Event.{Event}
use Rattle.esc_base.specs.declared.note.Note.TheVariants as note
use Rattle.esc_base.specs.declared.tick.Tick.{Tick}
use Rattle.esc_base.specs.Numbers.{as_tick}
use Rattle.timer_regs.specs.declared.regs.Reg.TheVariants as reg
use Rattle.interrupt_machine.specs.Did.{Reads, Writes}
use Rattle.zero_cross.specs.declared.phase.Phase.{Phase}
use Rattle.zero_cross.specs.declared.phase.Phase.TheVariants as phase
use Rattle.zero_cross.specs.Comparator.{held}
use Rattle.zero_cross.specs.Kept.{after_changed, until, MayFilter, is_expected}
use Rattle.commutation.specs.Commutated.{Turn, Idle, turn_at}
use Rattle.arming.specs.ControlAt.{demand_at}
use Rattle.esc_core.specs.declared.state.CmpAt.{CmpAt}
use Rattle.esc_core.specs.declared.state.CmpAt.TheVariants as cmp
use Rattle.esc_core.specs.declared.state.CommAt.{CommAt}
use Rattle.esc_core.specs.declared.state.CommAt.TheVariants as comm
use Rattle.esc_core.specs.declared.state.TickAt.{TickAt}
use Rattle.esc_core.specs.declared.state.TickAt.TheVariants as tick
use Rattle.esc_core.specs.Drive.{due_at, arms}
use Rattle.esc_core.specs.Cmp.{ready_step, is_blanked, read_step, may_filter, ack_step, cmp_step}
use Rattle.esc_core.specs.Stepped.{goes_on}
use Rattle.esc_core.specs.Firmware.{cmp_left, tick_need}
use Rattle.esc_laws.specs.Crossed.{blanked_at}
use Rattle.esc_laws.specs.Searched.{Sight, Away, Begun, Awaits, First, Settles, Second, sight_at, HasCrossed}
use Rattle.esc_rooms.specs.DriveTied.{DriveView, DriveTied, CommTied, LowTied, TimerKept, commutes}
use Rattle.esc_rooms.specs.CrossTied.{HasZ, SightTied, IsBlanked}
use Rattle.esc_rooms.specs.World.{World, so_far}
use Rattle.esc_laws.specs.InTime.{IsInTime}
use Rattle.esc_rooms.specs.Rooms.{StepKeeps, drive_seen, cross_seen}
use Rattle.esc_laws.proofs.Comparator.{steady_by}
use Rattle.esc_rooms.proofs.shared.RoomSteps.{quiet_gates, ground_noted, inside, popped}
use Rattle.esc_rooms.proofs.cmp.Facts.{moves_by_phase, cmp_moves}
use Rattle.esc_rooms.proofs.cmp.StepFacts.{read_ready, read_unready, acked, armed, commuted, lowered, returned}
use Rattle.esc_rooms.proofs.cmp.Preserves.{IsCmp, free_of, stands_at, quiet_drive, not_shut, cmp_step_preserves, cmp_wait_preserves}
use Rattle.esc_rooms.proofs.cmp.Looks.{cmp_raise_preserves, cmp_look_preserves}
use Rattle.esc_laws.specs.NoteLaw as owed

-- ---- it reads the comparator as blanking is over

read_ready_preserves : (w : World) (outer : List Kind) → IsBlanked w.core.drive.crossing.phase w.bank.time
    → is_expected w.core.drive.crossing w.bank.comp ≡ true → IsCmp w outer cmp.Read → StepKeeps kind.Cmp outer w (ready_step true w.core w.bank)
read_ready_preserves w outer over well i =
    cmp_wait_preserves w outer cmp.Read cmp.Ack w.core.drive.crossing.phase w.core.hold (Reads reg.CmpState) i refl refl refl refl refl
    (read_ready (cross_seen w) w.core.drive.crossing.phase over well (free_of w outer cmp.Read i)
    (stands_at w outer cmp.Read w.core.drive.crossing.phase i refl))

read_unready_preserves : (w : World) (outer : List Kind) → IsBlanked w.core.drive.crossing.phase w.bank.time
    → is_expected w.core.drive.crossing w.bank.comp ≡ false → IsCmp w outer cmp.Read → StepKeeps kind.Cmp outer w (ready_step false w.core w.bank)
read_unready_preserves w outer over ill i =
    cmp_step_preserves w outer cmp.Read cmp.Lower phase.Watch (record w.core.drive.crossing { phase = phase.Watch }) w.core.hold w.bank.comp_changed
    w.bank.comp_enabled w.bank.crossing (Reads reg.CmpState) i refl refl refl refl refl refl
    (read_unready (cross_seen w) w.core.drive.crossing.phase over ill (free_of w outer cmp.Read i) (i.ties kind.Cmp)
    (stands_at w outer cmp.Read w.core.drive.crossing.phase i refl))

blanked_is : (p : Phase) (t : ℕ) → IsBlanked p t → is_blanked p t ≡ true
blanked_is (phase.Blank end) t b = le-leb end.0 t b
blanked_is phase.Off t b = absurd b
blanked_is phase.Watch t b = absurd b
blanked_is (phase.Filter end) t b = absurd b
blanked_is phase.Done t b = absurd b

read_blanked_preserves : (v : Bool) (w : World) (outer : List Kind) → IsBlanked w.core.drive.crossing.phase w.bank.time
    → is_expected w.core.drive.crossing w.bank.comp ≡ v → IsCmp w outer cmp.Read → StepKeeps kind.Cmp outer w (ready_step v w.core w.bank)
read_blanked_preserves true w outer over well i = read_ready_preserves w outer over well i
read_blanked_preserves false w outer over ill i = read_unready_preserves w outer over ill i

cmp_read_preserves : (v : Bool) (w : World) (outer : List Kind) → is_blanked w.core.drive.crossing.phase w.bank.time ≡ v → IsCmp w outer cmp.Read
    → StepKeeps kind.Cmp outer w (read_step v w.core w.bank)
cmp_read_preserves true w outer e i =
    read_blanked_preserves (is_expected w.core.drive.crossing w.bank.comp) w outer (stands_at w outer cmp.Read w.core.drive.crossing.phase i refl).regs.0 refl i
cmp_read_preserves false w outer e i = absurd (
    let b = blanked_is w.core.drive.crossing.phase w.bank.time (stands_at w outer cmp.Read w.core.drive.crossing.phase i refl).regs.0 in
    let z : false ≡ true = sym e ∙ b in cc)

-- ---- a filter begins

ack_filter_preserves : (w : World) (outer : List Kind) → IsCmp w outer cmp.Ack → StepKeeps kind.Cmp outer w (ack_step true w.core w.bank)
ack_filter_preserves w outer i =
    cmp_step_preserves w outer cmp.Ack cmp.Arm (phase.Filter (as_tick (w.bank.time + filter_time))) (after_changed w.core.drive.crossing w.bank.time)
    w.core.hold false
    w.bank.comp_enabled w.bank.crossing (Writes reg.CmpAck 0) i refl refl refl refl refl refl
    (acked (cross_seen w) w.core.drive.crossing.phase (free_of w outer cmp.Ack i) (stands_at w outer cmp.Ack w.core.drive.crossing.phase i refl))

may_is : (p : Phase) (t : ℕ) → MayFilter p t → may_filter p t ≡ true
may_is (phase.Blank end) t m = le-leb end.0 t m
may_is phase.Watch t m = refl
may_is phase.Off t m = absurd m
may_is (phase.Filter end) t m = absurd m
may_is phase.Done t m = absurd m

cmp_ack_preserves : (v : Bool) (w : World) (outer : List Kind) → may_filter w.core.drive.crossing.phase w.bank.time ≡ v → IsCmp w outer cmp.Ack
    → StepKeeps kind.Cmp outer w (ack_step v w.core w.bank)
cmp_ack_preserves true w outer e i = ack_filter_preserves w outer i
cmp_ack_preserves false w outer e i = absurd (
    let m = may_is w.core.drive.crossing.phase w.bank.time (stands_at w outer cmp.Ack w.core.drive.crossing.phase i refl).regs in
    let z : false ≡ true = sym e ∙ m in cc)

-- ---- the registers are written

-- the end of blanking or of a filter
arm_end_preserves : (end : Tick) (p : Phase) (w : World) (outer : List Kind) → (p ≡ phase.Blank end) ⊎ (p ≡ phase.Filter end)
    → w.core.drive.crossing.phase ≡ p → IsCmp w outer cmp.Arm
    → StepKeeps kind.Cmp outer w (goes_on (record w.core { cmp_at = cmp.Lower }) (Writes reg.CmpAt end.0))
arm_end_preserves end p w outer ends e i =
    cmp_step_preserves w outer cmp.Arm cmp.Lower p w.core.drive.crossing w.core.hold w.bank.comp_changed false (Some end.0) (Writes reg.CmpAt end.0) i refl
    refl refl refl e refl (armed (cross_seen w) p end.0 ends (free_of w outer cmp.Arm i) (stands_at w outer cmp.Arm p i e))

cmp_arm_preserves : (p : Phase) (w : World) (outer : List Kind) → w.core.drive.crossing.phase ≡ p → IsCmp w outer cmp.Arm
    → StepKeeps kind.Cmp outer w (goes_on (record w.core { cmp_at = cmp.Lower }) (arms (until p)))
cmp_arm_preserves (phase.Blank end) w outer e i = arm_end_preserves end (phase.Blank end) w outer (inl refl) e i
cmp_arm_preserves (phase.Filter end) w outer e i = arm_end_preserves end (phase.Filter end) w outer (inr refl) e i
cmp_arm_preserves phase.Off w outer e i = absurd (stands_at w outer cmp.Arm phase.Off i e).regs
cmp_arm_preserves phase.Watch w outer e i = absurd (stands_at w outer cmp.Arm phase.Watch i e).regs
cmp_arm_preserves phase.Done w outer e i = absurd (stands_at w outer cmp.Arm phase.Done i e).regs

z_drives : (turn : Turn) (demand : ℕ) → HasZ turn → (demand ≡ 0 → turn ≡ Idle) → 0 < demand
z_drives turn demand q idle = elim (cases_lt 0 demand) [
  | inl l ↦ l
  | inr z ↦ absurd (subst (λ (x : Turn). HasZ x) (idle (omega arith)) q)
]

low_timed : (at : TickAt) (v : DriveView) → 8 < tick_need at → TimerKept v → LowTied at v
low_timed tick.Shut v l k = k
low_timed tick.Raise v l k = k
low_timed tick.Back v l k = k
low_timed tick.Read v l k = k
low_timed tick.Lower v l k = k
low_timed (tick.Off at) v l k = tt
low_timed tick.DutyOff v l k = tt
low_timed tick.DriveOff v l k = tt
low_timed (tick.DutyOn start) v l k = absurd (omega arith)
low_timed tick.Start v l k = absurd (omega arith)

abbrev timed_view : DriveView → DriveView
timed_view v = record v { cmp_at = cmp.Lower; timer = Some (due_at v.drive) }

timed_drive : (v : DriveView) → v.comm_at ≡ comm.Shut → 8 < tick_need v.tick_at → commutes v.cmp_at ≡ true → DriveTied v → DriveTied (timed_view v)
timed_drive v shut unmasked was t = record {
  switches = t.switches;
  newest = t.newest;
  next = t.next;
  row = t.row;
  place = subst (λ (x : CommAt). CommTied x (timed_view v)) (sym shut) tt;
  low = λ e d s. low_timed v.tick_at (timed_view v) unmasked (inl (refl, inl (t.crossed was)));
  crossed = λ e. cc;
  postponed = t.postponed;
}

-- the time of the sector change is set
cmp_commute_preserves : (w : World) (outer : List Kind) → w.core.drive.crossing.phase ≡ phase.Done → IsCmp w outer cmp.Commute
    → StepKeeps kind.Cmp outer w (cmp_step cmp.Commute w.core w.bank)
cmp_commute_preserves w outer e i =
    let st = stands_at w outer cmp.Commute phase.Done i e in
    let some : 0 < demand_at w.back = z_drives (turn_at w.back) (demand_at w.back) st.phase_is (i.ties kind.Comm).next.idle in
    record {
      gates = quiet_gates kind.Cmp w _ (λ f. cc) refl refl refl;
      fits = λ told. tt;
      ground = i.ground;
      tie = λ told. cmp_moves (cross_seen w) cmp.Lower w.core.drive.crossing w.bank.comp_changed w.bank.comp_enabled w.bank.crossing
          (not_shut w outer cmp.Commute refl i) (free_of w outer cmp.Commute i) (i.ties kind.Cmp)
          (moves_by_phase (cross_seen w) cmp.Lower phase.Done w.core.drive.crossing w.bank.comp_changed w.bank.comp_enabled w.bank.crossing e refl
          (commuted (cross_seen w) (free_of w outer cmp.Commute i) st));
      others = elim [
        | kind.Cmp ↦ λ ne u. absurd (ne refl)
        | kind.Comm ↦ λ ne u. timed_drive (drive_seen w) i.comm_is i.unmasked (rw i.place_is refl) u
        | kind.Tick ↦ λ ne u. (u.0, u.1, u.2, u.3, λ z. absurd (omega arith))
        | j ↦ λ ne u. u
      ];
      stack_is = i.on;
    }

-- ---- it lowers the mask, and returns

cmp_lower_preserves : (w : World) (outer : List Kind) → IsCmp w outer cmp.Lower → StepKeeps kind.Cmp outer w (cmp_step cmp.Lower w.core w.bank)
cmp_lower_preserves w outer i =
    cmp_wait_preserves w outer cmp.Lower cmp.Back w.core.drive.crossing.phase w.core.hold (Writes reg.Mask 0) i refl refl refl refl refl
    (lowered (cross_seen w) w.core.drive.crossing.phase (free_of w outer cmp.Lower i) (stands_at w outer cmp.Lower w.core.drive.crossing.phase i refl))

-- with the Z that is owed
has_crossed : (trace : List Event) (expects : Bool) (t : ℕ) (s : Sight) (p : Phase) (blanked past : ℕ) → past ≤ t → IsInTime 0 trace
    → SightTied s cmp.Back p (held trace t) expects blanked t past → HasCrossed trace expects s t
has_crossed trace expects t (Second i z) p blanked past le order s = λ st. s.1 (steady_by trace expects i t (let a = s.0 in omega arith) order st)
has_crossed trace expects t Away p blanked past le order s = tt
has_crossed trace expects t Begun p blanked past le order s = tt
has_crossed trace expects t (Awaits u) p blanked past le order s = tt
has_crossed trace expects t (First i) p blanked past le order s = tt
has_crossed trace expects t (Settles i u) p blanked past le order s = tt

cmp_return_preserves : (w : World) (outer : List Kind) → IsCmp w outer cmp.Back → StepKeeps kind.Cmp outer w (cmp_step cmp.Back w.core w.bank)
cmp_return_preserves w outer i = record {
  gates = quiet_gates kind.Cmp w _ (λ e. cc) refl refl refl;
  fits = λ told. (
    record {
      at = refl;
      owned = refl;
      keeps = record {
        laws = elim [
          | owed.Windows ↦ λ e. cc
          | owed.Replies ↦ λ e. cc
          | owed.Drives ↦ λ e. cc
          | owed.Searches ↦ λ four. has_crossed w.trace (cross_seen w).expects w.bank.time (sight_at w.back) w.core.drive.crossing.phase
              (blanked_at w.back) w.made.cmp_past
              i.past.cmp i.ground.outside.in_time (stands_at w outer cmp.Back w.core.drive.crossing.phase i refl).seen
          | owed.Nests ↦ (inside (so_far w).stack kind.Cmp outer i.on, tt)
          | l ↦ tt
        ];
        waits = tt;
      };
    },
    tt,
  );
  ground = ground_noted w (note.Leave (as_tick w.bank.time) 4) refl refl tt refl i.ground;
  tie = λ told. returned (cross_seen w) (free_of w outer cmp.Back i) (i.ties kind.Cmp) (stands_at w outer cmp.Back w.core.drive.crossing.phase i refl);
  others = elim [
    | kind.Cmp ↦ λ ne u. absurd (ne refl)
    | kind.Comm ↦ λ ne u. quiet_drive w outer cmp.Back cmp.Shut w.core.drive.crossing refl refl i
    | j ↦ λ ne u. u
  ];
  stack_is = popped (so_far w).stack kind.Cmp outer i.on;
}

-- ---- all its steps

pub cmp_steps_preserve : (place : CmpAt) (w : World) (outer : List Kind) → IsCmp w outer place → 0 < cmp_left place
    → StepKeeps kind.Cmp outer w (cmp_step place w.core w.bank)
cmp_steps_preserve cmp.Shut w outer i left = absurd (omega arith)
cmp_steps_preserve cmp.Raise w outer i left = cmp_raise_preserves w outer i
cmp_steps_preserve cmp.Look w outer i left = cmp_look_preserves w.core.drive.crossing.phase w outer refl i
cmp_steps_preserve cmp.Read w outer i left = cmp_read_preserves (is_blanked w.core.drive.crossing.phase w.bank.time) w outer refl i
cmp_steps_preserve cmp.Ack w outer i left = cmp_ack_preserves (may_filter w.core.drive.crossing.phase w.bank.time) w outer refl i
cmp_steps_preserve cmp.Arm w outer i left = cmp_arm_preserves w.core.drive.crossing.phase w outer refl i
cmp_steps_preserve cmp.Commute w outer i left = cmp_commute_preserves w outer (stands_at w outer cmp.Commute w.core.drive.crossing.phase i refl).regs.0 i
cmp_steps_preserve cmp.Lower w outer i left = cmp_lower_preserves w outer i
cmp_steps_preserve cmp.Back w outer i left = cmp_return_preserves w outer i
