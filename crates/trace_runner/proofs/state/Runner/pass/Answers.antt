use Rattle.std.proofs.Common.{◌≤◌, ◌<◌, arith}
use Rattle.trace_runner.specs.declared.state.Runner.{Runner}
use Rattle.esc_rooms.proofs.log.Carried.{time_logged}
use Rattle.trace_runner.proofs.Quiet.{quiet_later}
use Rattle.esc_core.specs.Firmware.{waits_of}
use Rattle.trace_runner.proofs.state.Runner.pass.Goals as goal

pub invariant_of-self-clause-waits : goal.invariant_of-self-clause-waits
invariant_of-self-clause-waits c = λ below.
    let r : Runner = c.args.self.now in
    rw c.advance.ensures.regs (quiet_later r.machine.open_kinds (waits_of r.machine.firmware) r.regs r.quiet.0 r.next.0 r.passed below (r.waits below))

pub returns-clause-runs : goal.returns-clause-runs
returns-clause-runs c = λ o now trace steps st.
    let r : Runner = c.args.self.now in
    let le : r.next.0 ≤ r.next.0 = omega arith in
    let most : r.limit.0 ≤ 1073741824 = r.limit_small in
    let below : r.next.0 < r.limit.0 = c.requires in
    let small : r.next.0 < 2147483648 = omega arith in
    record {
      logged = rw c.advance.ensures.regs
          (time_logged o.loaded r.machine.nest r.cost trace r.next.0 r.machine.firmware r.regs r.machine.open_kinds steps r.next.0 r.passed le small st.logged);
      bound = st.bound;
      spaced = st.spaced;
      in_range = st.in_range;
      flash = st.flash;
    }
