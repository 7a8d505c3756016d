use Rattle.std.proofs.Common.{◌≡◌, ◌≤◌, ◌<◌, ℕ, arith, sym, subst, ap}
use Rattle.esc_base.specs.declared.tick.Tick.{Tick}
use Rattle.esc_rooms.specs.Logged.{Logged}
use Rattle.esc_rooms.proofs.log.Carried.{quiet_logged}
use Rattle.trace_runner.specs.declared.state.Runner.{Runner}
use Rattle.trace_runner.specs.Quiet.{IsQuiet}
use Rattle.trace_runner.proofs.Quiet.{quiet_later}
use Rattle.trace_runner.proofs.Steps.{spaced_later}
use Rattle.esc_core.specs.Firmware.{waits_of}
use Rattle.trace_runner.proofs.state.Runner.wait.Goals as goal

pub invariant_of-self-clause-waits : goal.invariant_of-self-clause-waits
invariant_of-self-clause-waits c = λ below.
    let r : Runner = c.pass.new.self in
    let next : r.next.0 ≡ c.args.self.now.next.0 = ap (λ (t : Tick). t.0) c.pass.ensures.next in
    let limit : r.limit.0 ≡ c.args.self.now.limit.0 = ap (λ (t : Tick). t.0) c.pass.ensures.kept.limit in
    let from : c.args.self.now.next.0 < c.args.self.now.limit.0 = c.requires.below in
    let soon : r.next.0 < r.quiet.0 = omega arith in
    rw c.advance.ensures.regs (quiet_later r.machine.open_kinds (waits_of r.machine.firmware) r.regs r.quiet.0 r.limit.0 r.before below (r.waits soon))

pub returns-clause-runs : goal.returns-clause-runs
returns-clause-runs c = λ o now trace steps st.
    let r : Runner = c.pass.new.self in
    let p = c.pass.ensures.runs o now trace steps st in
    let next : r.next.0 ≡ c.args.self.now.next.0 = ap (λ (t : Tick). t.0) c.pass.ensures.next in
    let limit : r.limit.0 ≡ c.args.self.now.limit.0 = ap (λ (t : Tick). t.0) c.pass.ensures.kept.limit in
    let until : r.quiet.0 ≡ c.args.self.now.quiet.0 = ap (λ (t : Tick). t.0) c.pass.ensures.quiet in
    let from : c.args.self.now.next.0 < c.args.self.now.limit.0 = c.requires.below in
    let most : c.args.self.now.limit.0 ≤ c.args.self.now.quiet.0 = c.requires.quiet in
    let soon : r.next.0 < r.quiet.0 = omega arith in
    let within : r.limit.0 ≤ r.quiet.0 = omega arith in
    let few : r.limit.0 ≤ 1073741824 = r.limit_small in
    let small : r.limit.0 < 2147483648 = omega arith in
    let past : r.next.0 ≤ r.limit.0 = omega arith in
    let at : r.regs.time ≡ r.next.0 = c.pass.ensures.now in
    let q : IsQuiet r.machine.open_kinds (waits_of r.machine.firmware) r.regs r.quiet.0 = r.waits soon in
    record {
      logged =
          rw c.advance.ensures.regs
          (quiet_logged o.loaded r.machine.nest r.cost trace r.machine.firmware r.regs r.machine.open_kinds steps r.limit.0 q.idle
          (λ k u later under. q.none k u later (omega arith)) r.before small
          (subst (λ (n : ℕ). Logged o.loaded r.machine.nest r.cost trace n r.machine.firmware r.regs r.machine.open_kinds steps) (sym at) p.logged));
      bound = p.bound;
      spaced = spaced_later r.cost r.next.0 r.limit.0 steps past p.spaced;
      in_range = p.in_range;
      flash = p.flash;
    }
