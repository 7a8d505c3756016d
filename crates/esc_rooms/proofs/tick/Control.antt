-- TICK's step that asks control.
use Rattle.std.proofs.Common.{◌≡◌, ◌<◌, ◌+◌, ◌-◌, ◌/◌, inl, inr, ℕ, Bool, true, false, not, ◌&&◌, ◌||◌, ◌==◌, nat_lt, if◌then◌else◌, List, [], ◌∷◌, Option, Some, None, refl, sym, ◌∙◌, ap, subst, arith}
use Rattle.std.proofs.lemmas.Bool.{cases_lt, lt-ltb, le-ltb}
use Rattle.std.proofs.lemmas.Bool.Decides.{nat_tests}
use Rattle.esc_base.specs.Times.{control_period}
use Rattle.esc_base.specs.declared.kind.Kind.{Kind}
use Rattle.esc_base.specs.declared.kind.Kind.TheVariants as kind
use Rattle.esc_base.specs.declared.note.Cause.{Cause}
use Rattle.esc_base.specs.declared.note.Note.{Note}
use Rattle.esc_base.specs.declared.note.Note.TheVariants as note
use Rattle.esc_base.specs.Numbers.{cause_number, as_tick}
use Rattle.timer_regs.specs.declared.regs.Reg.TheVariants as reg
use Rattle.interrupt_machine.specs.Did.{Reads}
use Rattle.interrupt_machine.specs.Open.{innermost}
use Rattle.arming.specs.ControlAt.{demand_at, number_at, marks_at}
use Rattle.arming.specs.Decide.{decide}
use Rattle.arming.specs.Kept.{Kept, after_tick, view_of}
use Rattle.arming.specs.Stands.{Stands, with_outcome}
use Rattle.arming.proofs.TickTies.{tick_stands, start_is}
use Rattle.commutation.specs.Commutated.{stuck_at}
use Rattle.commutation.specs.Drive.{rests_at, turns_at}
use Rattle.gate_driver.specs.declared.all_off.AllOff.TheVariants as off
use Rattle.esc_core.specs.declared.state.TickAt.TheVariants as tick
use Rattle.esc_core.specs.Drive.{is_stuck}
use Rattle.esc_core.specs.Tick.{number_in, marks_in, number_step, outcome_note, ticked}
use Rattle.esc_core.specs.Drive.{drive_after}
use Rattle.esc_laws.specs.Calls.{pwm_entered_at}
use Rattle.esc_rooms.proofs.shared.Facts.{above_zero}
use Rattle.esc_rooms.specs.Tied.{TickTied}
use Rattle.esc_rooms.specs.DriveTied.{DriveTied, FlagTied, DutyTied, RestAt, Rests}
use Rattle.esc_rooms.specs.World.{World, so_far}
use Rattle.esc_rooms.specs.Rooms.{Ties, StepKeeps, drive_seen, cross_seen}
use Rattle.esc_rooms.proofs.main.Saves.{orders_other}
use Rattle.esc_rooms.proofs.shared.RoomSteps.{quiet_gates, inside, if_true}
use Rattle.esc_rooms.proofs.tick.Preserves.{IsTick, ticks_tie, rest_tie, low_tie, pwm_still}
use Rattle.esc_rooms.proofs.tick.Facts.{asked_flag, asked_view, AskedIn, asked_drive}
use Rattle.esc_core.specs.Drive.{search_after}
use Rattle.commutation.specs.Pace.{Pace, first_pace, wait_of}
use Rattle.commutation.specs.Drive.{pace_at, wait_at}
use Rattle.esc_laws.specs.Saves.{advance_of}
use Rattle.commutation.specs.Commutated.{Idle, Started, turn_at}
use Rattle.esc_laws.specs.Searched.{Away, sight_at}
use Rattle.esc_rooms.specs.CrossTied.{CrossView, CrossTied, HasNoQ, ends_drive}
use Rattle.esc_rooms.specs.PeriodTied.{sums_gaps, PeriodTied}
use Rattle.esc_rooms.proofs.cap.Period.{rests_is, period_moved, asked_period}
use Rattle.esc_rooms.proofs.cmp.CrossFacts.{asked_cross}
use Rattle.std.proofs.lemmas.Bool.{eqb-true}
use Rattle.esc_laws.specs.NoteLaw as owed

-- ---- the K

-- the mark that TICK reads is the one that the notes ask for
mark_is : (w : World) (outer : List Kind) → IsTick w outer tick.Read → stuck_at w.back ≡ w.bank.stuck
mark_is w outer i = elim (cases_lt 0 (demand_at w.back)) [
  | inl l ↦ marked w.bank.stuck (is_stuck w.core.drive) refl ((i.ties kind.Comm).row.stuck l) ((i.ties kind.Comm).row.marked l (rw i.comm_is refl))
  | inr z ↦ (i.ties kind.Comm).row.rest_unmarked (omega arith) ∙ sym (rest_tie w outer tick.Read i (omega arith)).no_mark
]
  where
    marked : (s a : Bool) → w.bank.stuck ≡ s → stuck_at w.back ≡ (s || a) → (a ≡ true → s ≡ true) → stuck_at w.back ≡ s
    marked true a e q m = q
    marked false true e q m = (let z : false ≡ true = m refl in cc)
    marked false false e q m = q

asked_in : (w : World) (outer : List Kind) → IsTick w outer tick.Read → AskedIn (drive_seen w)
asked_in w outer i = record {
  shut = i.comm_is;
  kept = λ l. low_tie w outer tick.Read i l;
  prompt = λ z. (rest_tie w outer tick.Read i z).prompt;
  unmarked = λ z. (rest_tie w outer tick.Read i z).no_mark;
}

-- TICK's own tie after it
asked_duty : (zero start : Bool) (duty d : ℕ) → (d == 0) ≡ zero → DutyTied (if zero then tick.Off off.High else tick.DutyOn start) duty d
asked_duty true start duty d e = eqb-true d 0 e
asked_duty false start duty d e = above_zero d e

asked_ticks : (zero start : Bool) (read time ticks : ℕ) → ticks ≡ 1 → TickTied (if zero then tick.Off off.High else tick.DutyOn start) read time ticks
asked_ticks true start read time ticks e = e
asked_ticks false start read time ticks e = e

asked_rest : (zero start : Bool) (d hi lo : ℕ) (flag : Bool) (timer : Option ℕ) (postponed stuck : Bool) → (d == 0) ≡ zero → d ≡ 0
    → RestAt (if zero then tick.Off off.High else tick.DutyOn start) hi lo flag timer postponed stuck
asked_rest true start d hi lo flag timer postponed stuck e z = tt
asked_rest false start d hi lo flag timer postponed stuck e z = absurd (some d e z)
  where
    some : (n : ℕ) → (n == 0) ≡ false → n ≡ 0 → ⊥
    some n e z = grind (arith, nat_tests)

-- what it leaves of the search for a crossing
abbrev cross_after : World → ℕ → Bool → CrossView
cross_after w demand s = record (cross_seen w) {
  tick_at = if demand == 0 then tick.Off off.High else tick.DutyOn s;
  search = search_after (demand == 0) w.core.drive.crossing;
  pace = (drive_after s w.bank.time w.core.drive).timing.pace;
  advance = (drive_after s w.bank.time w.core.drive).timing.advance;
  postponed = (drive_after s w.bank.time w.core.drive).postponed;
  turn_at = (drive_after s w.bank.time w.core.drive).turn.at;
  turn = if demand == 0 then Idle else if rests_at w.back then Started else turn_at w.back;
  told_pace = if nat_lt 0 demand && rests_at w.back then first_pace else pace_at w.back;
  sight = if demand == 0 then Away else sight_at w.back;
}

-- where no drive starts the wait is as it was
plain_wait : (a b : Bool) (advance : ℕ) (p : Pace) → b ≡ false → wait_of advance (if a && b then first_pace else p).interval ≡ wait_of advance p.interval
plain_wait true true advance p e = cc
plain_wait true false advance p e = refl
plain_wait false b advance p e = refl

some_not : (n : ℕ) → nat_lt 0 n ≡ not (n == 0)
some_not n = grind (arith, nat_tests)

chosen_pace : (b : Bool) (p q : Pace) → b ≡ true → p ≡ (if b then p else q)
chosen_pace b p q e = rw e refl

kept_pace : (b : Bool) (p q : Pace) → b ≡ false → q ≡ (if b then p else q)
kept_pace b p q e = rw e refl

no_drive : (w : World) → Ties w → rests_at w.back ≡ true → HasNoQ (turn_at w.back)
no_drive w t e = rw ((t kind.Comm).next.idle (eqb-true (demand_at w.back) 0 (rests_is w.back ∙ e))) tt

-- it asks control: a K, then an A or an X
ask_control_preserves : (lost : Option Cause) (armed_now start : Bool) (w : World) (outer : List Kind) (marks demand : ℕ) (kept : Kept)
    → IsTick w outer tick.Read
    → start ≡ (nat_lt 0 demand && rests_at w.back) → (so_far w).ticks ≡ 0
    → Stands kept (with_outcome (as_tick w.bank.time) lost armed_now (note.Control (as_tick w.bank.time) (w.bank.time / control_period) marks demand ∷ w.back))
    → kept.number ≡ w.bank.time / control_period
    → StepKeeps kind.Tick outer w (record {
      core = record w.core {
        tick_at = if demand == 0 then tick.Off off.High else tick.DutyOn start;
        control = kept;
        drive = record (drive_after start w.bank.time w.core.drive) { crossing = search_after (demand == 0) w.core.drive.crossing };
      };
      access = Reads reg.TickState;
      notes = note.Control (as_tick w.bank.time) (w.bank.time / control_period) marks demand ∷ outcome_note w.bank.time lost armed_now;
      over = false;
    })
ask_control_preserves lost armed_now start w outer marks demand kept i begins none st number = by_outcome lost armed_now st
  where
    k : Note
    k = note.Control (as_tick w.bank.time) (w.bank.time / control_period) marks demand

    gates_same : (s : Bool) → (drive_after s w.bank.time w.core.drive).gates ≡ w.core.drive.gates
    gates_same true = refl
    gates_same false = refl

    rest_now : demand ≡ 0 → Rests (if demand == 0 then tick.Off off.High else tick.DutyOn start) w.core.pwm_at w.core.comm_at w.bank.hi w.bank.lo w.bank.flag
        w.bank.comm
        (drive_after start w.bank.time w.core.drive).postponed w.bank.stuck
    rest_now z = record {
      rest = asked_rest (demand == 0) start demand w.bank.hi w.bank.lo w.bank.flag w.bank.comm (drive_after start w.bank.time w.core.drive).postponed
          w.bank.stuck refl z;
      pwm_shut = i.pwm_is;
      comm_shut = i.comm_is;
    }

    flag_now : FlagTied (if demand == 0 then tick.Off off.High else tick.DutyOn start) w.bank.flag (not (demand == 0)) demand
        (pwm_entered_at w.back) w.bank.time
    flag_now = asked_flag (demand == 0) start w.bank.flag demand (pwm_entered_at w.back) w.bank.time refl (i.ties kind.Pwm).1.past

    drive_now : DriveTied (asked_view (drive_seen w) (demand == 0) (rests_at w.back) (nat_lt 0 demand) start demand
        (wait_at (advance_of w.loaded.settings) (k ∷ w.back)))
    drive_now = asked_drive (demand == 0) (rests_at w.back) (nat_lt 0 demand) start (drive_seen w) demand
        (wait_at (advance_of w.loaded.settings) (k ∷ w.back)) (λ e. plain_wait (nat_lt 0 demand) (rests_at w.back) (advance_of w.loaded.settings)
        (pace_at w.back) e) refl (rests_is w.back) refl begins (asked_in w outer i)
        (i.ties kind.Comm)

    cross_now : (s : Bool) → start ≡ s → CrossTied (cross_after w demand s)
    cross_now true e =
        asked_cross (demand == 0) (rests_at w.back) (nat_lt 0 demand) true (cross_seen w) first_pace i.cmp_is i.comm_is (rw i.comm_is refl)
        (rw i.place_is refl) (no_drive w i.ties) (some_not demand)
        (chosen_pace (nat_lt 0 demand && rests_at w.back) first_pace w.core.drive.timing.pace (sym begins ∙ e)) (i.ties kind.Cmp)
    cross_now false e =
        asked_cross (demand == 0) (rests_at w.back) (nat_lt 0 demand) false (cross_seen w) w.core.drive.timing.pace i.cmp_is i.comm_is (rw i.comm_is refl)
        (rw i.place_is refl) (no_drive w i.ties) (some_not demand)
        (kept_pace (nat_lt 0 demand && rests_at w.back) first_pace w.core.drive.timing.pace (sym begins ∙ e)) (i.ties kind.Cmp)

    period_now : PeriodTied (drive_after start w.bank.time w.core.drive).timing.turns
        (sums_gaps w.core.comm_at (drive_after start w.bank.time w.core.drive).turn.at)
        (ends_drive (if demand == 0 then tick.Off off.High else tick.DutyOn start)) w.bank.period w.bank.sector
        (if nat_lt 0 demand && rests_at w.back then [] else turns_at w.back) (demand == 0)
    period_now = asked_period (demand == 0) (rests_at w.back) (nat_lt 0 demand) start w.core.drive w.bank.time
        (sums_gaps w.core.comm_at (drive_after start w.bank.time w.core.drive).turn.at) w.bank.period w.bank.sector (turns_at w.back) (some_not demand) begins
        (period_moved _ _ _ _ _ _ _ _ _ (rw i.comm_is refl) (rw i.place_is refl) (i.ties kind.Cap).3)

    ticks_now : (so_far w).ticks + 1 ≡ 1
    ticks_now = ap (λ (n : ℕ). n + 1) none

    here : innermost (so_far w).stack ≡ Some kind.Tick
    here = inside (so_far w).stack kind.Tick outer i.on

    by_outcome : (lost : Option Cause) (armed_now : Bool)
        → Stands kept (with_outcome (as_tick w.bank.time) lost armed_now
        (note.Control (as_tick w.bank.time) (w.bank.time / control_period) marks demand ∷ w.back))
        → StepKeeps kind.Tick outer w (record {
          core = record w.core {
            tick_at = if demand == 0 then tick.Off off.High else tick.DutyOn start;
            control = kept;
            drive = record (drive_after start w.bank.time w.core.drive) { crossing = search_after (demand == 0) w.core.drive.crossing };
          };
          access = Reads reg.TickState;
          notes = note.Control (as_tick w.bank.time) (w.bank.time / control_period) marks demand ∷ outcome_note w.bank.time lost armed_now;
          over = false;
        })
    by_outcome (Some cause) armed_now st = record {
      gates = quiet_gates kind.Tick w _ (λ e. cc) (gates_same start) refl refl;
      fits = λ told. (
        record { at = refl; owned = refl; keeps = record { laws = elim [ owed.Nests ↦ here | l ↦ tt ]; waits = tt } },
        (record { at = refl; owned = refl; keeps = record { laws = elim [ owed.Nests ↦ here | l ↦ tt ]; waits = tt } }, tt),
      );
      ground = record {
        control = st;
        orders = orders_other w.loaded w.core.orders (note.Lost (as_tick w.bank.time) (cause_number cause)) (k ∷ w.back) refl
            (orders_other w.loaded w.core.orders k w.back refl i.ground.orders);
        outside = i.ground.outside;
        line = i.ground.line;
      };
      tie = λ told. (
        asked_ticks (demand == 0) start (w.bank.time / control_period) w.bank.time ((so_far w).ticks + 1) ticks_now,
        sym number,
        omega arith,
        asked_duty (demand == 0) start w.bank.duty demand refl,
        rest_now,
      );
      others = elim [
        | kind.Tick ↦ λ ne u. absurd (ne refl)
        | kind.Pwm ↦ λ ne u. (pwm_still w outer tick.Read demand i, flag_now)
        | kind.Comm ↦ λ ne u. drive_now
        | kind.Cap ↦ λ ne u. (u.0, u.1, u.2, period_now)
        | kind.Cmp ↦ λ ne u. cross_now start refl
        | j ↦ λ ne u. u
      ];
      stack_is = i.on;
    }
    by_outcome None true st = record {
      gates = quiet_gates kind.Tick w _ (λ e. cc) (gates_same start) refl refl;
      fits = λ told. (
        record { at = refl; owned = refl; keeps = record { laws = elim [ owed.Nests ↦ here | l ↦ tt ]; waits = tt } },
        (record { at = refl; owned = refl; keeps = record { laws = elim [ owed.Nests ↦ here | l ↦ tt ]; waits = tt } }, tt),
      );
      ground = record {
        control = st;
        orders = orders_other w.loaded w.core.orders (note.Armed (as_tick w.bank.time)) (k ∷ w.back) refl
            (orders_other w.loaded w.core.orders k w.back refl i.ground.orders);
        outside = i.ground.outside;
        line = i.ground.line;
      };
      tie = λ told. (
        asked_ticks (demand == 0) start (w.bank.time / control_period) w.bank.time ((so_far w).ticks + 1) ticks_now,
        sym number,
        omega arith,
        asked_duty (demand == 0) start w.bank.duty demand refl,
        rest_now,
      );
      others = elim [
        | kind.Tick ↦ λ ne u. absurd (ne refl)
        | kind.Pwm ↦ λ ne u. (pwm_still w outer tick.Read demand i, flag_now)
        | kind.Comm ↦ λ ne u. drive_now
        | kind.Cap ↦ λ ne u. (u.0, u.1, u.2, period_now)
        | kind.Cmp ↦ λ ne u. cross_now start refl
        | j ↦ λ ne u. u
      ];
      stack_is = i.on;
    }
    by_outcome None false st = record {
      gates = quiet_gates kind.Tick w _ (λ e. cc) (gates_same start) refl refl;
      fits = λ told. (
        record { at = refl; owned = refl; keeps = record { laws = elim [ owed.Nests ↦ here | l ↦ tt ]; waits = tt } },
        tt,
      );
      ground = record {
        control = st;
        orders = orders_other w.loaded w.core.orders k w.back refl i.ground.orders;
        outside = i.ground.outside;
        line = i.ground.line;
      };
      tie = λ told. (
        asked_ticks (demand == 0) start (w.bank.time / control_period) w.bank.time ((so_far w).ticks + 1) ticks_now,
        sym number,
        omega arith,
        asked_duty (demand == 0) start w.bank.duty demand refl,
        rest_now,
      );
      others = elim [
        | kind.Tick ↦ λ ne u. absurd (ne refl)
        | kind.Pwm ↦ λ ne u. (pwm_still w outer tick.Read demand i, flag_now)
        | kind.Comm ↦ λ ne u. drive_now
        | kind.Cap ↦ λ ne u. (u.0, u.1, u.2, period_now)
        | kind.Cmp ↦ λ ne u. cross_now start refl
        | j ↦ λ ne u. u
      ];
      stack_is = i.on;
    }

-- the number of the newest K
outcome_number : (lost : Option Cause) (armed_now : Bool) (t n s d : ℕ) (back : List Note)
    → number_at (with_outcome (as_tick t) lost armed_now (note.Control (as_tick t) n s d ∷ back)) ≡ n
outcome_number (Some cause) armed_now t n s d back = refl
outcome_number None true t n s d back = refl
outcome_number None false t n s d back = refl

read_number_preserves : (n marks : ℕ) (w : World) (outer : List Kind) → IsTick w outer tick.Read → n ≡ w.bank.time / control_period → marks ≡ marks_at w.back
    → w.bank.number_read < w.bank.time / control_period → (so_far w).ticks ≡ 0
    → StepKeeps kind.Tick outer w (number_step n marks w.core w.bank)
read_number_preserves n marks w outer i is marks_are below none = subst (λ (m : ℕ). StepKeeps kind.Tick outer w (number_step m marks w.core w.bank)) (sym is) (
    let m : ℕ = w.bank.time / control_period in
    let answer = ticked w.core m marks in
    let less : w.core.control.number < m = (let same = (i.ties kind.Tick).1 in omega arith) in
    let st = tick_stands w.core.control w.back (as_tick w.bank.time) m marks refl less marks_are i.ground.control in
    let begins = start_is (decide (view_of w.core.control) m marks) w.core.control.demand
    ∙ ap (λ (d : ℕ). nat_lt 0 answer.demand && (d == 0)) i.ground.control.ties.demand_is
    ∙ ap (λ (b : Bool). nat_lt 0 answer.demand && b) (rests_is w.back) in
    if_true (nat_lt w.core.control.number m) kind.Tick outer w _ _ (lt-ltb w.core.control.number m less)
    (ask_control_preserves answer.lost answer.armed_now answer.start w outer marks answer.demand
    (after_tick w.core.control m (decide (view_of w.core.control) m marks)) i
    begins none
    st (st.ties.number_is ∙ outcome_number answer.lost answer.armed_now w.bank.time m marks answer.demand w.back)))

pub tick_read_preserves : (stuck : Bool) (w : World) (outer : List Kind) → w.bank.stuck ≡ stuck → IsTick w outer tick.Read
    → StepKeeps kind.Tick outer w
    (number_step (number_in (if stuck then w.bank.time / control_period + 1073741824 else w.bank.time / control_period))
    (marks_in (if stuck then w.bank.time / control_period + 1073741824 else w.bank.time / control_period) w.core.line.active) w.core w.bank)
tick_read_preserves true w outer e i =
    let tied = ticks_tie w outer tick.Read i in
    read_number_preserves (number_in (w.bank.time / control_period + 1073741824)) (marks_in (w.bank.time / control_period + 1073741824) w.core.line.active) w
    outer i
    (rw (le-ltb (w.bank.time / control_period + 1073741824) 1073741824 (omega arith)) (back (w.bank.time / control_period)))
    (rw (le-ltb (w.bank.time / control_period + 1073741824) 1073741824 (omega arith), mark_is w outer i ∙ e, i.ground.line.session_is) refl) tied.0 tied.1
  where
    back : (t : ℕ) → (t + 1073741824) - 1073741824 ≡ t
    back t = omega arith
tick_read_preserves false w outer e i =
    let tied = ticks_tie w outer tick.Read i in
    let small : w.bank.time < 2147483648 = i.ground.outside.small in
    read_number_preserves (number_in (w.bank.time / control_period)) (marks_in (w.bank.time / control_period) w.core.line.active) w outer i
    (rw (lt-ltb (w.bank.time / control_period) 1073741824 (omega arith)) refl)
    (rw (lt-ltb (w.bank.time / control_period) 1073741824 (omega arith), mark_is w outer i ∙ e, i.ground.line.session_is) refl) tied.0 tied.1
