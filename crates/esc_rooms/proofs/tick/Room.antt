-- TICK's row of the laws: where it is called and entered, and its tie as time goes on.
use Rattle.std.proofs.Common.{◌≡◌, ◌≤◌, ◌<◌, ◌/◌, ℕ, Bool, false, ◌||◌, Option, refl, sym, ◌∙◌, ap, subst, arith}
use Rattle.std.proofs.lemmas.Bool.{ltb-true}
use Rattle.esc_base.specs.Times.{control_period}
use Rattle.esc_base.specs.declared.kind.Kind.TheVariants as kind
use Rattle.timer_regs.specs.Pwm.{has_edge}
use Rattle.arming.specs.ControlAt.{demand_at, number_at}
use Rattle.gate_driver.specs.declared.all_off.AllOff.TheVariants as off
use Rattle.esc_core.specs.declared.state.TickAt.{TickAt}
use Rattle.esc_core.specs.declared.state.TickAt.TheVariants as tick
use Rattle.esc_core.specs.Firmware.{tick_left, waits_of}
use Rattle.esc_laws.specs.Calls.{pwm_asked_at, pwm_entered_at}
use Rattle.esc_rooms.specs.Tied.{TickTied}
use Rattle.esc_rooms.specs.DriveTied.{LowTied, FlagTied, DutyTied, RestAt, Still}
use Rattle.esc_rooms.specs.World.{World, so_far}
use Rattle.esc_rooms.specs.Rooms.{Ties, drive_seen, cross_seen}
use Rattle.esc_rooms.proofs.shared.Facts.{due_tick, tick_due}
use Rattle.esc_rooms.proofs.shared.DriveFacts.{comm_shut, pwm_shut, tick_shut}
use Rattle.esc_rooms.proofs.tick.Facts.{same_flag, timer_retimed, retimed}
use Rattle.esc_rooms.specs.CrossTied.{ends_drive}
use Rattle.esc_rooms.proofs.cmp.CrossFacts.{cmp_shut, cross_retimed}
use Rattle.esc_rooms.proofs.shared.Law.{HandlerLaw}
use Rattle.esc_rooms.proofs.cap.Period.{period_retimed}
use Rattle.esc_rooms.proofs.tick.Steps.{tick_steps_preserve}

-- ---- time

ticks_later : (at : TickAt) (read t u ticks : ℕ) → t ≤ u → TickTied at read t ticks → TickTied at read u ticks
ticks_later tick.Shut read t u ticks le i = tt
ticks_later tick.Raise read t u ticks le i = (let a : read < t / control_period = i.0 in omega arith, i.1)
ticks_later tick.Read read t u ticks le i = (let a : read < t / control_period = i.0 in omega arith, i.1)
ticks_later at read t u ticks le i = i

-- with the duty at 0 time brings no PWM event
no_edge : (flag : Bool) (duty t u : ℕ) → duty ≡ 0 → flag ≡ false → (flag || has_edge duty t u) ≡ false
no_edge flag duty t u z e = rw (z, e) refl

still_later : (hi lo : ℕ) (flag : Bool) (timer : Option ℕ) (postponed stuck : Bool) (duty t u : ℕ) → duty ≡ 0 → Still hi lo flag timer postponed stuck
    → Still hi lo (flag || has_edge duty t u) timer postponed stuck
still_later hi lo flag timer postponed stuck duty t u z s = record {
  high_off = s.high_off;
  low_off = s.low_off;
  no_event = no_edge flag duty t u z s.no_event;
  disarmed = s.disarmed;
  prompt = s.prompt;
  no_mark = s.no_mark;
}

rest_later : (at : TickAt) (hi lo : ℕ) (flag : Bool) (timer : Option ℕ) (postponed stuck : Bool) (duty demand t u : ℕ) → demand ≡ 0 → DutyTied at duty demand
    → RestAt at hi lo flag timer postponed stuck → RestAt at hi lo (flag || has_edge duty t u) timer postponed stuck
rest_later (tick.Off off.High) hi lo flag timer postponed stuck duty demand t u z d r = tt
rest_later (tick.Off off.Low) hi lo flag timer postponed stuck duty demand t u z d r = r
rest_later (tick.Off off.Over) hi lo flag timer postponed stuck duty demand t u z d r = r
rest_later tick.DutyOff hi lo flag timer postponed stuck duty demand t u z d r = r
rest_later tick.DriveOff hi lo flag timer postponed stuck duty demand t u z d r = (r.0, r.1, no_edge flag duty t u (d.1 ∙ z) r.2)
rest_later (tick.DutyOn start) hi lo flag timer postponed stuck duty demand t u z d r = r
rest_later tick.Start hi lo flag timer postponed stuck duty demand t u z d r = r
rest_later tick.Shut hi lo flag timer postponed stuck duty demand t u z d r = still_later hi lo flag timer postponed stuck duty t u (d ∙ z) r
rest_later tick.Raise hi lo flag timer postponed stuck duty demand t u z d r = still_later hi lo flag timer postponed stuck duty t u (d ∙ z) r
rest_later tick.Read hi lo flag timer postponed stuck duty demand t u z d r = still_later hi lo flag timer postponed stuck duty t u (d ∙ z) r
rest_later tick.Lower hi lo flag timer postponed stuck duty demand t u z d r = still_later hi lo flag timer postponed stuck duty t u (d ∙ z) r
rest_later tick.Back hi lo flag timer postponed stuck duty demand t u z d r = still_later hi lo flag timer postponed stuck duty t u (d ∙ z) r

-- ---- its entry

shut_at : (w : World) → tick_left w.core.tick_at ≡ 0 → Ties w → DutyTied tick.Shut w.bank.duty (demand_at w.back)
shut_at w none t = subst (λ (p : TickAt). DutyTied p w.bank.duty (demand_at w.back)) (tick_shut w.core.tick_at none) (t kind.Tick).3

pub tick_law : HandlerLaw kind.Tick
tick_law = record {
  called = λ w i s.
      tick_due (waits_of w.core) w.bank
      (rw ((i.rest.ties kind.Tick).1, i.rest.ground.control.ties.number_is) (ltb-true (number_at w.back) (w.bank.time / control_period) s));
  asked = λ w i. (
    tt,
    rw (sym i.rest.ground.control.ties.number_is, ← (i.rest.ties kind.Tick).1) (due_tick (waits_of w.core) w.bank (i.rest.ties kind.Tick).2 i.due),
  );
  entered = λ w i. (
    (due_tick (waits_of w.core) w.bank (i.rest.ties kind.Tick).2 i.due, refl),
    (i.rest.ties kind.Tick).1,
    (i.rest.ties kind.Tick).2,
    shut_at w i.shut i.rest.ties,
    λ z. record {
      rest = subst (λ (p : TickAt). RestAt p w.bank.hi w.bank.lo w.bank.flag w.bank.comm w.core.drive.postponed w.bank.stuck)
          (tick_shut w.core.tick_at i.shut) ((i.rest.ties kind.Tick).4 z).rest;
      pwm_shut = ((i.rest.ties kind.Tick).4 z).pwm_shut;
      comm_shut = ((i.rest.ties kind.Tick).4 z).comm_shut;
    },
  );
  beside = λ w i. elim [
    | kind.Tick ↦ λ ne. absurd (ne refl)
    | kind.Pwm ↦ λ ne. (
      (i.rest.ties kind.Pwm).0,
      same_flag tick.Shut tick.Raise w.bank.flag (pwm_asked_at w.back) (demand_at w.back) (pwm_entered_at w.back) w.bank.time refl
          (subst (λ (p : TickAt). FlagTied p w.bank.flag (pwm_asked_at w.back) (demand_at w.back) (pwm_entered_at w.back) w.bank.time)
          (tick_shut w.core.tick_at i.shut) (i.rest.ties kind.Pwm).1),
    )
    | kind.Comm ↦ λ ne. retimed (drive_seen w) tick.Raise
        (λ e l s. timer_retimed (drive_seen w) tick.Raise
        (subst (λ (p : TickAt). LowTied p (drive_seen w)) (tick_shut w.core.tick_at i.shut) ((i.rest.ties kind.Comm).low e l s))) (i.rest.ties kind.Comm)
    | kind.Cap ↦ λ ne. (
      (i.rest.ties kind.Cap).0,
      (i.rest.ties kind.Cap).1,
      (i.rest.ties kind.Cap).2,
      period_retimed w tick.Raise (sym (ap ends_drive (tick_shut w.core.tick_at i.shut))) (i.rest.ties kind.Cap).3,
    )
    | kind.Cmp ↦ λ ne. cross_retimed (cross_seen w) tick.Raise (sym (ap ends_drive (tick_shut w.core.tick_at i.shut))) (i.rest.ties kind.Cmp)
    | j ↦ λ ne. i.rest.ties j
  ];
  steps = λ w answers outer given i. tick_steps_preserve w.core.tick_at w outer (record {
    ground = i.rest.ground;
    ties = i.rest.ties;
    on = i.on;
    place_is = refl;
    comm_is = comm_shut w.core.comm_at w.core.drive.turn.at (i.above kind.Comm (omega arith));
    pwm_is = pwm_shut w.core.pwm_at (i.above kind.Pwm (omega arith));
    cmp_is = cmp_shut w.core.cmp_at (i.above kind.Cmp (omega arith));
  }) i.left;
  later = λ w u from small i. (
    ticks_later w.core.tick_at w.bank.number_read w.bank.time u (so_far w).ticks from (i.ties kind.Tick).0,
    (i.ties kind.Tick).1,
    (let r = (i.ties kind.Tick).2 in omega arith),
    (i.ties kind.Tick).3,
    λ z. record {
      rest = rest_later w.core.tick_at w.bank.hi w.bank.lo w.bank.flag w.bank.comm w.core.drive.postponed w.bank.stuck w.bank.duty (demand_at w.back)
          w.bank.time u z (i.ties kind.Tick).3 ((i.ties kind.Tick).4 z).rest;
      pwm_shut = ((i.ties kind.Tick).4 z).pwm_shut;
      comm_shut = ((i.ties kind.Tick).4 z).comm_shut;
    },
  );
  outside = λ w e i. (i.rest.ties kind.Tick);
}
