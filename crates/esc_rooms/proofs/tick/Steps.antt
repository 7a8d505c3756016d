-- TICK's steps keep the ties: all goes off, or the duty and a start; the mask, and its return.
use Rattle.std.proofs.Common.{◌≡◌, ◌<◌, inl, inr, ℕ, Bool, true, false, bit_and, List, Some, nat_lt, refl, sym, ◌∙◌, ap, arith}
use Rattle.std.specs.Int.Bits.{and_zero_r}
use Rattle.std.proofs.lemmas.Bool.{lt-ltb}
use Rattle.esc_base.specs.declared.gate.Leg.{Leg}
use Rattle.esc_base.specs.declared.kind.Kind.{Kind}
use Rattle.esc_base.specs.declared.kind.Kind.TheVariants as kind
use Rattle.esc_base.specs.declared.note.Note.TheVariants as note
use Rattle.esc_base.specs.Legs.{is_on}
use Rattle.esc_base.specs.Numbers.{as_tick}
use Rattle.timer_regs.specs.Bank.{Bank}
use Rattle.timer_regs.specs.Effects.{written}
use Rattle.timer_regs.specs.declared.regs.Reg.TheVariants as reg
use Rattle.interrupt_machine.specs.Did.{Writes, accessed}
use Rattle.interrupt_machine.specs.Open.{innermost}
use Rattle.arming.specs.ControlAt.{demand_at}
use Rattle.gate_driver.specs.declared.all_off.AllOff.TheVariants as off
use Rattle.gate_driver.specs.Gated.{Gated, gates_after}
use Rattle.gate_driver.specs.Acted.{KeepsDeadTime}
use Rattle.gate_driver.proofs.Bits.{on_and}
use Rattle.gate_driver.proofs.DeadTime.{high_off_keeps, low_off_keeps}
use Rattle.esc_core.specs.declared.state.TickAt.{TickAt}
use Rattle.esc_core.specs.declared.state.TickAt.TheVariants as tick
use Rattle.esc_core.specs.Tick.{tick_step}
use Rattle.esc_core.specs.Stepped.{Stepped}
use Rattle.esc_core.specs.Firmware.{tick_left}
use Rattle.esc_laws.specs.Driven.{InPair}
use Rattle.esc_laws.specs.Calls.{pwm_asked_at, pwm_entered_at}
use Rattle.esc_rooms.specs.World.{World, so_far}
use Rattle.esc_rooms.specs.Rooms.{GatesKeep, StepKeeps, drive_seen, cross_seen}
use Rattle.esc_rooms.proofs.shared.RoomSteps.{quiet_gates, ground_noted, inside, popped}
use Rattle.esc_rooms.proofs.shared.DriveFacts.{pair_apart, high_view, with_high}
use Rattle.esc_rooms.proofs.tick.Facts.{same_flag, none_flag, duty_flag, timer_retimed, retimed, timed, with_low, driven_off}
use Rattle.esc_rooms.specs.CrossTied.{ends_drive}
use Rattle.esc_rooms.proofs.cmp.CrossFacts.{cross_retimed, driven_cross}
use Rattle.commutation.specs.Drive.{turns_at, rests_at}
use Rattle.esc_rooms.proofs.cap.Period.{period_retimed, period_off, rests_now}
use Rattle.esc_rooms.proofs.tick.Preserves.{IsTick, ticks_tie, duty_tie, rest_tie, low_tie, flag_tie, tick_step_preserves}
use Rattle.esc_rooms.proofs.tick.Control.{tick_read_preserves}
use Rattle.esc_laws.specs.NoteLaw as owed

-- ---- all goes off

off_gates : (w : World) (outer : List Kind) (place : TickAt) (s : Stepped) → IsTick w outer place → demand_at w.back ≡ 0
    → s.core.drive.gates ≡ gates_after w.core.drive.gates w.bank (accessed w.bank s.access)
    → KeepsDeadTime w.bank s.core.drive.gates (accessed w.bank s.access)
    → ((x : Leg) → is_on (accessed w.bank s.access).hi x ≡ true → is_on w.bank.hi x ≡ true)
    → ((x : Leg) → is_on (accessed w.bank s.access).lo x ≡ true → is_on w.bank.lo x ≡ true) → GatesKeep kind.Tick w s
off_gates w outer place s i zero off_times dead high low = record {
  off_times = off_times;
  fits = λ told moved. record {
    nest = rw (ap innermost i.on) tt;
    dead_time = dead;
    driven = (
      λ z. record { high = rw told.hi_is high; low = rw told.lo_is low },
      rw (← (i.ties kind.Comm).switches.sector_is) (record {
        high = λ x on. (i.ties kind.Comm).switches.pair.high x (high x on);
        low = λ x on. (i.ties kind.Comm).switches.pair.low x (low x on);
      }),
    );
  };
  drive = record {
    low = λ o l. absurd (omega arith);
    high = λ o p l. absurd (omega arith);
    chops = λ is. cc;
    back = λ is. cc;
    silent = λ is. cc;
  };
}

off_high_preserves : (w : World) (outer : List Kind) → IsTick w outer (tick.Off off.High)
    → StepKeeps kind.Tick outer w (tick_step (tick.Off off.High) w.core w.bank)
off_high_preserves w outer i =
    let t = i.ties kind.Comm in
    let zero : demand_at w.back ≡ 0 = duty_tie w outer (tick.Off off.High) i in
    let hi : ℕ = bit_and w.bank.hi 0 in
    let after : Bank = written w.bank reg.GhClr 7 in
    let g : Gated = gates_after w.core.drive.gates w.bank after in
    let pair : InPair w.bank.sector hi w.bank.lo = record { high = λ x on. t.switches.pair.high x (on_and w.bank.hi 0 x on); low = t.switches.pair.low } in
    tick_step_preserves w outer (tick.Off off.High) (tick.Off off.Low) g w.core.hold hi w.bank.lo w.bank.duty w.bank.flag w.bank.comm (Writes reg.GhClr 7)
    i refl refl (record {
      gates = off_gates w outer (tick.Off off.High) _ i zero refl
          (high_off_keeps g w.bank after 0 refl refl (pair_apart w.bank.sector w.bank.hi w.bank.lo t.switches.sectors t.switches.pair))
          (λ x on. on_and w.bank.hi 0 x on) (λ x on. on);
      ticks = ticks_tie w outer (tick.Off off.High) i;
      duty_is = zero;
      rest = λ z. and_zero_r w.bank.hi;
      flag_is = none_flag (tick.Off off.Low) w.bank.flag (pwm_asked_at w.back) (demand_at w.back) (pwm_entered_at w.back) w.bank.time refl zero
          (i.ties kind.Pwm).1.past;
      drive = retimed (high_view (drive_seen w) hi) (tick.Off off.Low) (λ e l s. tt) (with_high (drive_seen w) hi i.comm_is pair t);
    })

off_low_preserves : (w : World) (outer : List Kind) → IsTick w outer (tick.Off off.Low)
    → StepKeeps kind.Tick outer w (tick_step (tick.Off off.Low) w.core w.bank)
off_low_preserves w outer i =
    let t = i.ties kind.Comm in
    let zero : demand_at w.back ≡ 0 = duty_tie w outer (tick.Off off.Low) i in
    let lo : ℕ = bit_and w.bank.lo 0 in
    let after : Bank = written w.bank reg.GlClr 7 in
    let g : Gated = gates_after w.core.drive.gates w.bank after in
    tick_step_preserves w outer (tick.Off off.Low) tick.DutyOff g w.core.hold w.bank.hi lo w.bank.duty w.bank.flag w.bank.comm (Writes reg.GlClr 7)
    i refl refl (record {
      gates = off_gates w outer (tick.Off off.Low) _ i zero refl
          (low_off_keeps g w.bank after 0 refl refl (pair_apart w.bank.sector w.bank.hi w.bank.lo t.switches.sectors t.switches.pair))
          (λ x on. on) (λ x on. on_and w.bank.lo 0 x on);
      ticks = ticks_tie w outer (tick.Off off.Low) i;
      duty_is = zero;
      rest = λ z. (rest_tie w outer (tick.Off off.Low) i zero, and_zero_r w.bank.lo);
      flag_is = none_flag tick.DutyOff w.bank.flag (pwm_asked_at w.back) (demand_at w.back) (pwm_entered_at w.back) w.bank.time refl zero
          (i.ties kind.Pwm).1.past;
      drive = with_low (drive_seen w) lo tick.DutyOff i.comm_is (rw i.cmp_is refl) zero (λ x on. on_and w.bank.lo 0 x on) t;
    })

duty_off_preserves : (w : World) (outer : List Kind) → IsTick w outer tick.DutyOff → StepKeeps kind.Tick outer w (tick_step tick.DutyOff w.core w.bank)
duty_off_preserves w outer i =
    let zero : demand_at w.back ≡ 0 = duty_tie w outer tick.DutyOff i in
    let rest = rest_tie w outer tick.DutyOff i zero in
    tick_step_preserves w outer tick.DutyOff tick.DriveOff w.core.drive.gates w.core.hold w.bank.hi w.bank.lo 0 false w.bank.comm (Writes reg.Duty 0)
    i refl refl (record {
      gates = quiet_gates kind.Tick w _ (λ e. cc) refl refl refl;
      ticks = ticks_tie w outer tick.DutyOff i;
      duty_is = (zero, sym zero);
      rest = λ z. (rest.0, rest.1, refl);
      flag_is = none_flag tick.DriveOff false (pwm_asked_at w.back) (demand_at w.back) (pwm_entered_at w.back) w.bank.time refl zero
          (i.ties kind.Pwm).1.past;
      drive = retimed (drive_seen w) tick.DriveOff (λ e l s. tt) (i.ties kind.Comm);
    })

drive_off_preserves : (w : World) (outer : List Kind) → IsTick w outer tick.DriveOff → StepKeeps kind.Tick outer w (tick_step tick.DriveOff w.core w.bank)
drive_off_preserves w outer i =
    let duty = duty_tie w outer tick.DriveOff i in
    let rest = rest_tie w outer tick.DriveOff i duty.0 in
    record {
      gates = quiet_gates kind.Tick w _ (λ e. cc) refl refl refl;
      fits = λ told. tt;
      ground = i.ground;
      tie = λ told. (
        ticks_tie w outer tick.DriveOff i,
        (i.ties kind.Tick).1,
        (i.ties kind.Tick).2,
        duty.1,
        λ z. record {
          rest = record { high_off = rest.0; low_off = rest.1; no_event = rest.2; disarmed = refl; prompt = refl; no_mark = refl };
          pwm_shut = i.pwm_is;
          comm_shut = i.comm_is;
        },
      );
      others = elim [
        | kind.Tick ↦ λ ne u. absurd (ne refl)
        | kind.Pwm ↦ λ ne u. (
          u.0,
          none_flag tick.Lower w.bank.flag (pwm_asked_at w.back) (demand_at w.back) (pwm_entered_at w.back) w.bank.time refl duty.0 u.1.past,
        )
        | kind.Comm ↦ λ ne u. driven_off (drive_seen w) i.comm_is duty.0 u
        | kind.Cap ↦ λ ne u. (
          u.0,
          u.1,
          u.2,
          period_off w.core.drive.timing.turns _ _ _ w.bank.sector (turns_at w.back) (rests_at w.back) (rests_now w.back duty.0) u.3,
        )
        | kind.Cmp ↦ λ ne u. driven_cross (cross_seen w) (rw i.place_is refl) u
        | j ↦ λ ne u. u
      ];
      stack_is = i.on;
    }

-- ---- the duty, and a start

duty_start_preserves : (w : World) (outer : List Kind) → IsTick w outer (tick.DutyOn true)
    → StepKeeps kind.Tick outer w (tick_step (tick.DutyOn true) w.core w.bank)
duty_start_preserves w outer i =
    let some : 0 < demand_at w.back = duty_tie w outer (tick.DutyOn true) i in
    let is : w.core.control.demand ≡ demand_at w.back = i.ground.control.ties.demand_is in
    let flag : Bool = nat_lt 0 w.core.control.demand in
    tick_step_preserves w outer (tick.DutyOn true) tick.Start w.core.drive.gates w.core.hold w.bank.hi w.bank.lo w.core.control.demand flag w.bank.comm
    (Writes reg.Duty w.core.control.demand) i refl refl (record {
      gates = quiet_gates kind.Tick w _ (λ e. cc) refl refl refl;
      ticks = ticks_tie w outer (tick.DutyOn true) i;
      duty_is = (some, is);
      rest = λ z. absurd (omega arith);
      flag_is = rw (lt-ltb 0 w.core.control.demand (omega arith)) (duty_flag tick.Start true w.bank.flag (pwm_asked_at w.back) (demand_at w.back)
          (pwm_entered_at w.back) w.bank.time refl (flag_tie w outer (tick.DutyOn true) i));
      drive = retimed (drive_seen w) tick.Start (λ e l s. elim (low_tie w outer (tick.DutyOn true) i l) [
        | inl q ↦ record { started = q.1.started; due = q.1.due }
        | inr q ↦ (let z : true ≡ false = q.0 in cc)
      ]) (i.ties kind.Comm);
    })

duty_on_preserves : (w : World) (outer : List Kind) → IsTick w outer (tick.DutyOn false)
    → StepKeeps kind.Tick outer w (tick_step (tick.DutyOn false) w.core w.bank)
duty_on_preserves w outer i =
    let some : 0 < demand_at w.back = duty_tie w outer (tick.DutyOn false) i in
    let is : w.core.control.demand ≡ demand_at w.back = i.ground.control.ties.demand_is in
    let flag : Bool = nat_lt 0 w.core.control.demand in
    tick_step_preserves w outer (tick.DutyOn false) tick.Lower w.core.drive.gates w.core.hold w.bank.hi w.bank.lo w.core.control.demand flag w.bank.comm
    (Writes reg.Duty w.core.control.demand) i refl refl (record {
      gates = quiet_gates kind.Tick w _ (λ e. cc) refl refl refl;
      ticks = ticks_tie w outer (tick.DutyOn false) i;
      duty_is = is;
      rest = λ z. absurd (omega arith);
      flag_is = rw (lt-ltb 0 w.core.control.demand (omega arith)) (duty_flag tick.Lower false w.bank.flag (pwm_asked_at w.back) (demand_at w.back)
          (pwm_entered_at w.back) w.bank.time refl (flag_tie w outer (tick.DutyOn false) i));
      drive = retimed (drive_seen w) tick.Lower (λ e l s. elim (low_tie w outer (tick.DutyOn false) i l) [
        | inl q ↦ (let z : false ≡ true = q.0 in cc)
        | inr q ↦ timer_retimed (drive_seen w) tick.Lower q.1
      ]) (i.ties kind.Comm);
    })

tick_start_preserves : (w : World) (outer : List Kind) → IsTick w outer tick.Start → StepKeeps kind.Tick outer w (tick_step tick.Start w.core w.bank)
tick_start_preserves w outer i =
    let duty = duty_tie w outer tick.Start i in
    tick_step_preserves w outer tick.Start tick.Lower w.core.drive.gates w.core.hold w.bank.hi w.bank.lo w.bank.duty w.bank.flag (Some w.bank.time)
    (Writes reg.CommAt w.bank.time) i refl refl (record {
      gates = quiet_gates kind.Tick w _ (λ e. cc) refl refl refl;
      ticks = ticks_tie w outer tick.Start i;
      duty_is = duty.1;
      rest = λ z. absurd (let l = duty.0 in omega arith);
      flag_is = same_flag tick.Start tick.Lower w.bank.flag (pwm_asked_at w.back) (demand_at w.back) (pwm_entered_at w.back) w.bank.time refl
          (flag_tie w outer tick.Start i);
      drive = timed (drive_seen w) tick.Lower i.comm_is (λ l. inr (
        w.bank.time,
        refl,
        omega arith,
        (let q = low_tie w outer tick.Start i l in record { started = q.started; due = q.due }),
      )) (i.ties kind.Comm);
    })

-- ---- the mask

tick_raise_preserves : (w : World) (outer : List Kind) → IsTick w outer tick.Raise → StepKeeps kind.Tick outer w (tick_step tick.Raise w.core w.bank)
tick_raise_preserves w outer i =
    tick_step_preserves w outer tick.Raise tick.Read w.core.drive.gates 8 w.bank.hi w.bank.lo w.bank.duty w.bank.flag w.bank.comm (Writes reg.Mask 1)
    i refl refl (record {
      gates = quiet_gates kind.Tick w _ (λ e. cc) refl refl refl;
      ticks = ticks_tie w outer tick.Raise i;
      duty_is = duty_tie w outer tick.Raise i;
      rest = λ z. rest_tie w outer tick.Raise i z;
      flag_is = same_flag tick.Raise tick.Read w.bank.flag (pwm_asked_at w.back) (demand_at w.back) (pwm_entered_at w.back) w.bank.time refl
          (flag_tie w outer tick.Raise i);
      drive = retimed (drive_seen w) tick.Read (λ e l s. timer_retimed (drive_seen w) tick.Read (low_tie w outer tick.Raise i l)) (i.ties kind.Comm);
    })

tick_lower_preserves : (w : World) (outer : List Kind) → IsTick w outer tick.Lower → StepKeeps kind.Tick outer w (tick_step tick.Lower w.core w.bank)
tick_lower_preserves w outer i =
    tick_step_preserves w outer tick.Lower tick.Back w.core.drive.gates w.core.hold w.bank.hi w.bank.lo w.bank.duty w.bank.flag w.bank.comm
    (Writes reg.Mask 0) i refl refl (record {
      gates = quiet_gates kind.Tick w _ (λ e. cc) refl refl refl;
      ticks = ticks_tie w outer tick.Lower i;
      duty_is = duty_tie w outer tick.Lower i;
      rest = λ z. rest_tie w outer tick.Lower i z;
      flag_is = same_flag tick.Lower tick.Back w.bank.flag (pwm_asked_at w.back) (demand_at w.back) (pwm_entered_at w.back) w.bank.time refl
          (flag_tie w outer tick.Lower i);
      drive = retimed (drive_seen w) tick.Back (λ e l s. timer_retimed (drive_seen w) tick.Back (low_tie w outer tick.Lower i l)) (i.ties kind.Comm);
    })

-- ---- its return

tick_return_preserves : (w : World) (outer : List Kind) → IsTick w outer tick.Back → StepKeeps kind.Tick outer w (tick_step tick.Back w.core w.bank)
tick_return_preserves w outer i = record {
  gates = quiet_gates kind.Tick w _ (λ e. cc) refl refl refl;
  fits = λ told. (
    record {
      at = refl;
      owned = refl;
      keeps = record {
        laws = elim [
          | owed.Windows ↦ λ e. cc
          | owed.Replies ↦ λ e. cc
          | owed.Drives ↦ λ e z. (told.hi_is ∙ (rest_tie w outer tick.Back i z).high_off, told.lo_is ∙ (rest_tie w outer tick.Back i z).low_off)
          | owed.Searches ↦ λ e. cc
          | owed.Nests ↦ (inside (so_far w).stack kind.Tick outer i.on, ticks_tie w outer tick.Back i)
          | l ↦ tt
        ];
        waits = tt;
      };
    },
    tt,
  );
  ground = ground_noted w (note.Leave (as_tick w.bank.time) 2) refl refl tt refl i.ground;
  tie = λ told. (
    tt,
    (i.ties kind.Tick).1,
    (i.ties kind.Tick).2,
    duty_tie w outer tick.Back i,
    λ z. record { rest = rest_tie w outer tick.Back i z; pwm_shut = i.pwm_is; comm_shut = i.comm_is },
  );
  others = elim [
    | kind.Tick ↦ λ ne u. absurd (ne refl)
    | kind.Pwm ↦ λ ne u. (
      u.0,
      same_flag tick.Back tick.Shut w.bank.flag (pwm_asked_at w.back) (demand_at w.back) (pwm_entered_at w.back) w.bank.time refl
          (flag_tie w outer tick.Back i),
    )
    | kind.Comm ↦ λ ne u. retimed (drive_seen w) tick.Shut (λ e l s. timer_retimed (drive_seen w) tick.Shut (low_tie w outer tick.Back i l)) u
    | kind.Cap ↦ λ ne u. (u.0, u.1, u.2, period_retimed w tick.Shut (sym (ap ends_drive i.place_is)) u.3)
    | kind.Cmp ↦ λ ne u. cross_retimed (cross_seen w) tick.Shut (sym (ap ends_drive i.place_is)) u
    | j ↦ λ ne u. u
  ];
  stack_is = popped (so_far w).stack kind.Tick outer i.on;
}

-- ---- all its steps

pub tick_steps_preserve : (place : TickAt) (w : World) (outer : List Kind) → IsTick w outer place → 0 < tick_left place
    → StepKeeps kind.Tick outer w (tick_step place w.core w.bank)
tick_steps_preserve tick.Shut w outer i left = absurd (omega arith)
tick_steps_preserve tick.Raise w outer i left = tick_raise_preserves w outer i
tick_steps_preserve tick.Read w outer i left = tick_read_preserves w.bank.stuck w outer refl i
tick_steps_preserve (tick.Off off.High) w outer i left = off_high_preserves w outer i
tick_steps_preserve (tick.Off off.Low) w outer i left = off_low_preserves w outer i
tick_steps_preserve (tick.Off off.Over) w outer i left = absurd (rest_tie w outer (tick.Off off.Over) i (duty_tie w outer (tick.Off off.Over) i))
tick_steps_preserve tick.DutyOff w outer i left = duty_off_preserves w outer i
tick_steps_preserve tick.DriveOff w outer i left = drive_off_preserves w outer i
tick_steps_preserve (tick.DutyOn true) w outer i left = duty_start_preserves w outer i
tick_steps_preserve (tick.DutyOn false) w outer i left = duty_on_preserves w outer i
tick_steps_preserve tick.Start w outer i left = tick_start_preserves w outer i
tick_steps_preserve tick.Lower w outer i left = tick_lower_preserves w outer i
tick_steps_preserve tick.Back w outer i left = tick_return_preserves w outer i
