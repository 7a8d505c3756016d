use Rattle.std.proofs.Common.{◌≡◌, ◌≤◌, ◌<◌, max, min, refl, ◌∙◌, ap, subst, arith, ◌+◌}
use Rattle.esc_base.specs.declared.event.Event.{Event}
use Rattle.esc_base.specs.declared.event.Event.TheVariants as event
use Rattle.esc_base.specs.Trace.{tick_of}
use Rattle.timer_regs.specs.Bank.{Bank}
use Rattle.timer_regs.specs.Effects.{after_line, after_comp, advanced}
use Rattle.trace_runner.specs.declared.state.Runner.{Runner}
use Rattle.trace_runner.proofs.Steps.{event_later, stall_max, spaced_later}
use Rattle.trace_runner.proofs.Quiet.{quiet_later, quiet_edge, quiet_comp}
use Rattle.esc_core.specs.Firmware.{waits_of}
use Rattle.trace_runner.proofs.state.Runner.apply.Goals as goal

pub invariant_of-self-clause-waits : goal.invariant_of-self-clause-waits
invariant_of-self-clause-waits c = λ below.
    let r : Runner = c.args.self.now in
    let reached : r.limit.0 ≤ r.next.0 = c.requires.reached in
    let m : c.min.result ≡ min r.quiet.0 c.cap_quiet_until.result.0 = c.min.ensures in
    let soon : r.limit.0 < r.quiet.0 = omega arith in
    let before : r.next.0 < r.quiet.0 = omega arith in
    let bank = c.edge.ensures ∙ ap (λ (b : Bank). after_line b c.in-Edge.level) c.advance.ensures.regs in
    let quiet = quiet_later r.machine.open_kinds (waits_of r.machine.firmware) r.regs r.quiet.0 r.limit.0 r.before soon (r.waits before) in
    rw bank
    (quiet_edge r.machine.open_kinds (waits_of r.machine.firmware) (advanced r.regs r.limit.0) c.in-Edge.level r.quiet.0 c.cap_quiet_until.result.0
    c.min.result quiet (rw bank at c.cap_quiet_until.ensures) (omega arith) (omega arith) (omega arith))

pub invariant_of-self-in-Comp-clause-waits : goal.invariant_of-self-in-Comp-clause-waits
invariant_of-self-in-Comp-clause-waits c = λ below.
    let r : Runner = c.args.self.now in
    let reached : r.limit.0 ≤ r.next.0 = c.requires.reached in
    let m : c.min-in-Comp.result ≡ min r.quiet.0 c.cmp_quiet_until.result.0 = c.min-in-Comp.ensures in
    let soon : r.limit.0 < r.quiet.0 = omega arith in
    let before : r.next.0 < r.quiet.0 = omega arith in
    let some : 0 < c.cmp_quiet_until.result.0 = omega arith in
    let bank = c.comp.ensures ∙ ap (λ (b : Bank). after_comp b c.in-Comp.level) c.advance.ensures.regs in
    let quiet = quiet_later r.machine.open_kinds (waits_of r.machine.firmware) r.regs r.quiet.0 r.limit.0 r.before soon (r.waits before) in
    rw bank
    (quiet_comp r.machine.open_kinds (waits_of r.machine.firmware) (advanced r.regs r.limit.0) c.in-Comp.level r.quiet.0 c.min-in-Comp.result quiet
    (rw bank at c.cmp_quiet_until.ensures some) (omega arith))

pub invariant_of-self-in-Serial-clause-waits : goal.invariant_of-self-in-Serial-clause-waits
invariant_of-self-in-Serial-clause-waits c = λ below.
    let r : Runner = c.args.self.now in
    let reached : r.limit.0 ≤ r.next.0 = c.requires.reached in
    let soon : r.limit.0 < r.quiet.0 = omega arith in
    rw c.advance.ensures.regs
    (quiet_later r.machine.open_kinds (waits_of r.machine.firmware) r.regs r.quiet.0 r.limit.0 r.before soon (r.waits below))

pub invariant_of-self-in-Stall-clause-waits : goal.invariant_of-self-in-Stall-clause-waits
invariant_of-self-in-Stall-clause-waits c = λ below.
    let r : Runner = c.args.self.now in
    let m : c.max.result ≡ max r.next.0 (c.in-Stall.t.0 + c.in-Stall.n) = c.max.ensures in
    let reached : r.limit.0 ≤ r.next.0 = c.requires.reached in
    let soon : r.limit.0 < r.quiet.0 = omega arith in
    let before : r.next.0 < r.quiet.0 = omega arith in
    rw c.advance.ensures.regs (quiet_later r.machine.open_kinds (waits_of r.machine.firmware) r.regs r.quiet.0 r.limit.0 r.before soon (r.waits before))

pub returns-in-Edge-clause-runs : goal.returns-in-Edge-clause-runs
returns-in-Edge-clause-runs c = λ o now trace steps st.
    let bank = c.edge.ensures ∙ ap (λ (b : Bank). after_line b c.in-Edge.level) c.advance.ensures.regs in
    record {
      logged = event_later c.args.self.now c.args.e
          (event.Edge c.in-Edge.t c.in-Edge.level) c.edge.new.self c.args.self.now.next.0 c.requires.at c.requires.reached c.in-Edge.is bank refl o now trace
          steps st;
      bound = st.bound;
      spaced = st.spaced;
      in_range = st.in_range;
      flash = st.flash;
    }

pub returns-in-Comp-clause-runs : goal.returns-in-Comp-clause-runs
returns-in-Comp-clause-runs c = λ o now trace steps st.
    let bank = c.comp.ensures ∙ ap (λ (b : Bank). after_comp b c.in-Comp.level) c.advance.ensures.regs in
    record {
      logged = event_later c.args.self.now c.args.e
          (event.Comp c.in-Comp.t c.in-Comp.level) c.comp.new.self c.args.self.now.next.0 c.requires.at c.requires.reached c.in-Comp.is bank refl o now trace
          steps st;
      bound = st.bound;
      spaced = st.spaced;
      in_range = st.in_range;
      flash = st.flash;
    }

pub returns-in-Serial-clause-runs : goal.returns-in-Serial-clause-runs
returns-in-Serial-clause-runs c = λ o now trace steps st.
    let bank = c.advance.ensures.regs in
    record {
      logged = event_later c.args.self.now c.args.e
          (event.Serial c.in-Serial.t c.in-Serial.byte) c.advance.new.self c.args.self.now.next.0 c.requires.at c.requires.reached c.in-Serial.is bank refl o
          now trace steps st;
      bound = st.bound;
      spaced = st.spaced;
      in_range = st.in_range;
      flash = st.flash;
    }

pub returns-in-Stall-clause-runs : goal.returns-in-Stall-clause-runs
returns-in-Stall-clause-runs c = λ o now trace steps st.
    let r : Runner = c.args.self.now in
    let m : c.max.result ≡ max r.next.0 (c.in-Stall.t.0 + c.in-Stall.n) = c.max.ensures in
    let le : r.next.0 ≤ c.max.result = omega arith in
    let at : r.limit.0 ≡ c.in-Stall.t.0 = subst (λ (x : Event). r.limit.0 ≡ tick_of x) c.in-Stall.is c.requires.at in
    let put_off = stall_max c.in-Stall.t.0 c.in-Stall.n r.next.0 (rw (← at) c.requires.reached) in
    record {
      logged = event_later r c.args.e
          (event.Stall c.in-Stall.t c.in-Stall.n) c.advance.new.self c.max.result c.requires.at c.requires.reached c.in-Stall.is c.advance.ensures.regs
          (m ∙ put_off) o now trace steps st;
      bound = st.bound;
      spaced = spaced_later r.cost r.next.0 c.max.result steps le st.spaced;
      in_range = st.in_range;
      flash = st.flash;
    }
