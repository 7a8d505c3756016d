use Rattle.std.proofs.Common.{◌≡◌, ◌≤◌, ◌<◌, ℕ, arith, sym, subst, Option}
use Rattle.esc_base.specs.declared.tick.Tick.{Tick}
use Rattle.timer_regs.specs.NextDue.{tick_of}
use Rattle.esc_rooms.specs.Logged.{Logged}
use Rattle.trace_runner.specs.declared.state.Runner.{Runner}
use Rattle.esc_rooms.proofs.log.Carried.{jump_logged}
use Rattle.trace_runner.proofs.Steps.{JumpsTo, jumps_to_due, jumps_to_limit, due_after, none_due, spaced_later}
use Rattle.trace_runner.proofs.Quiet.{quiet_jump}
use Rattle.trace_runner.proofs.state.Runner.jump.Goals as goal
use Rattle.esc_core.specs.Firmware.{waits_of}
use Rattle.trace_runner.proofs.state.Runner.jump.Goals.{in-Some, in_default, in_default-via-in-Some+else-due-self, in_default-via-in_default}

pub returns-clause-runs : goal.returns-clause-runs
returns-clause-runs c = λ o now trace steps st.
    let r : Runner = c.args.self.now in
    let to : Tick = c.match-next_due.to in
    let due : Option Tick = c.next_due-next_due.result in
    let most : r.limit.0 ≤ 1073741824 = r.limit_small in
    let below : r.next.0 < r.limit.0 = c.requires.below in
    let now : r.regs.time ≡ r.next.0 = c.requires.now in
    let j : JumpsTo r.regs.time r.limit.0 (tick_of due) to.0 = elim c.match-next_due.branch [
      | in-Some w ↦ jumps_to_due r.regs r.limit.0 due _ to c.next_due-next_due.ensures w.in-Some.is w.if-due-self.true w.to-is
      | in_default w ↦ jumps_to_limit r.regs r.limit to due (omega arith) w.to-is (elim w.in_default.branch [
        | in_default-via-in-Some+else-due-self v ↦ due_after due _ r.limit.0 v.in-Some.is v.if-due-self.false
        | in_default-via-in_default v ↦ none_due due r.limit.0 v.in_default.is
      ])
    ] in
    let later : r.regs.time ≤ to.0 = j.later in
    let within : to.0 ≤ r.limit.0 = j.within in
    let small : to.0 < 2147483648 = omega arith in
    let past : r.next.0 ≤ to.0 = omega arith in
    record {
      logged =
          rw c.advance.ensures.regs
          (jump_logged o.loaded r.machine.nest r.cost trace r.machine.firmware r.regs r.machine.open_kinds steps
          (tick_of due) to.0 c.requires.idle c.next_due-next_due.ensures later small j.no_later
          (subst (λ (n : ℕ). Logged o.loaded r.machine.nest r.cost trace n r.machine.firmware r.regs r.machine.open_kinds steps) (sym now) st.logged));
      bound = st.bound;
      spaced = spaced_later r.cost r.next.0 to.0 steps past st.spaced;
      in_range = st.in_range;
      flash = st.flash;
    }

pub invariant_of-self-clause-waits : goal.invariant_of-self-clause-waits
invariant_of-self-clause-waits c = λ soon.
    let r : Runner = c.args.self.now in
    let to : Tick = c.match-next_due.to in
    let due : Option Tick = c.next_due-next_due.result in
    let below : r.next.0 < r.limit.0 = c.requires.below in
    let now : r.regs.time ≡ r.next.0 = c.requires.now in
    let j : JumpsTo r.regs.time r.limit.0 (tick_of due) to.0 = elim c.match-next_due.branch [
      | in-Some w ↦ jumps_to_due r.regs r.limit.0 due _ to c.next_due-next_due.ensures w.in-Some.is w.if-due-self.true w.to-is
      | in_default w ↦ jumps_to_limit r.regs r.limit to due (omega arith) w.to-is (elim w.in_default.branch [
        | in_default-via-in-Some+else-due-self v ↦ due_after due _ r.limit.0 v.in-Some.is v.if-due-self.false
        | in_default-via-in_default v ↦ none_due due r.limit.0 v.in_default.is
      ])
    ] in
    rw c.advance.ensures.regs
    (quiet_jump r.machine.open_kinds (waits_of r.machine.firmware) r.regs (tick_of due) c.quiet_until-self.result.0 to.0 c.requires.idle
    c.next_due-next_due.ensures c.quiet_until-self.ensures j.later soon)
