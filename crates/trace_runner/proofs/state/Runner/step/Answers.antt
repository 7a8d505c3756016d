use Rattle.std.proofs.Common.{◌≡◌, ◌<◌, ◌≤◌, ◌+◌, List, [], ◌∷◌, length, subst, sym, ◌∙◌, append-nil, arith}
use Rattle.esc_base.specs.declared.note.Note.{Note}
use Rattle.esc_base.specs.Flash.{Told}
use Rattle.esc_laws.specs.Steps.{Turned}
use Rattle.esc_rooms.specs.Logged.{CoreTurn, turned}
use Rattle.trace_runner.specs.declared.state.Runner.{Runner}
use Rattle.trace_runner.specs.Run.{Runs, LeftBelow}
use Rattle.trace_runner.proofs.Goes.{breaks_in, one_log}
use Rattle.trace_runner.proofs.Written.{on_ok_two, on_err_map}
use Rattle.trace_runner.proofs.Steps.{turned-tick, turned-notes, step_logged, step_in_range, step_flash, step_breaks, spaced_push, below_next, tick_bound}
use Rattle.trace_runner.proofs.state.Runner.step.Goals as goal

pub returns-clause-run : goal.returns-clause-run
returns-clause-run g c =
    let r : Runner = c.args.self.now in
    let own : List Note = c.step_with.new.notes.items in
    let flash : Told = (g.D.FlashDev.told c.args.dev.now) in
    let flash' : Told = (g.D.FlashDev.told c.step_with.new.dev) in
    let t : CoreTurn r.machine.nest r.machine.firmware r.machine.open_kinds r.regs flash own c.step_with.new.self.firmware
    c.step_with.new.self.open_kinds c.step_with.new.regs flash' =
    c.step_with.ensures.turn in
    let e : Turned = turned r.regs.time own t in
    let at : e.tick ≡ r.next.0 = turned-tick r.regs.time own t ∙ c.requires.now in
    let n = one_log e own (turned-notes r.regs.time own t) in
    let few : length e.notes ≤ 6 =
    subst (λ (ns : List Note). length ns ≤ 6) (c.as_slice.ensures.value ∙ sym (turned-notes r.regs.time own t)) c.as_slice.ensures.fits in
    let most : r.limit.0 ≤ 1073741824 = r.limit_small in
    let cost : r.cost ≤ 16 = r.cost_most in
    let below : r.next.0 < r.limit.0 = c.requires.below in
    let small : r.next.0 + r.cost < 2147483648 = omega arith in
    record {
      goes = on_ok_two c.put_notes.result c.put_notes.ensures.took c.put_notes.ensures.given (λ took given o. record {
        log = e ∷ [];
        stands = λ trace steps st. rw (append-nil trace) (record {
          logged =
              step_logged o.loaded r.machine.nest c.step_with.new.self.nest r.cost r.next.0 trace r.machine.firmware c.step_with.new.self.firmware r.regs
              c.step_with.new.regs flash flash' r.machine.open_kinds c.step_with.new.self.open_kinds steps own
              c.step_with.ensures.nest c.requires.now r.cost_some small st.logged c.requires.busy t;
          bound = tick_bound r.cost r.next.0 r.limit.0 steps e at below few st.spaced st.bound;
          spaced = spaced_push r.cost r.next.0 steps e at st.spaced;
          in_range = step_in_range o.loaded steps e own (turned-notes r.regs.time own t) c.step_with.ensures.in_range st.in_range;
          flash =
              step_flash o r.machine.nest r.cost r.next.0 trace r.machine.firmware c.step_with.new.self.firmware r.regs c.step_with.new.regs flash flash'
              r.machine.open_kinds c.step_with.new.self.open_kinds steps own
              c.requires.now st.logged (g.met.D.FlashDev.whole c.args.dev.now) (g.met.D.FlashDev.whole c.step_with.new.dev) t st.flash;
        });
        given_is = rw (n, ← c.as_slice.ensures.value) given;
        lines = rw (n, ← c.as_slice.ensures.value) took;
      });
      breaks = on_err_map c.put_notes.result c.put_notes.ensures.broke (λ broken o.
          breaks_in g.K.Sink.given g.K.Sink.took g.K.Sink.broke o.loaded (Runs r o flash)
          (LeftBelow o flash' r.machine.nest r.cost r.limit.0) c.as_slice.result.now _ _ (λ trace steps front rest last st split.
          step_breaks o r.machine.nest r.cost r.next.0 r.limit.0 trace r.machine.firmware c.step_with.new.self.firmware r.regs c.step_with.new.regs flash
          flash' r.machine.open_kinds c.step_with.new.self.open_kinds steps own front rest last
          c.requires.now below r.cost_some r.cost_most small st.logged c.requires.busy t (below_next r.cost r.next.0 steps r.cost_some st.spaced)
          (sym c.as_slice.ensures.value ∙ split)
          c.step_with.ensures.in_range st.in_range (g.met.D.FlashDev.whole c.args.dev.now) (g.met.D.FlashDev.whole c.step_with.new.dev) st.flash) broken);
      failed = c.put_notes.ensures.failed;
      no_fewer = c.put_notes.ensures.no_fewer;
    }
