use Rattle.std.proofs.Common.{arith, refl}
use Rattle.esc_base.proofs.OutsideLaws.{on_err}
use Rattle.am32sim.proofs.Runs.{so_far_none, so_far_event, broken_begin, broken_event, broken_end, done, refused, faulted}
use Rattle.am32sim.proofs.run.run.Goals as goal

pub returns-in_err-begin-clause-err : goal.returns-in_err-begin-clause-err
returns-in_err-begin-clause-err g c =
    on_err c.from_residual.result (broken_begin g.K.Sink.given g.K.Sink.took g.K.Sink.broke c.args.cfg
    (record { loaded = c.args.loaded; flash = g.F.FlashDev.told c.args.flash.now })
    (g.F.FlashDev.told c.args.flash.now) (g.F.FlashDev.told c.args.flash.now)
    (g.S.Source.left c.args.src.now) c.args.out.now c.begin.new.out (rw (← c.start-runner.ensures.fault) c.in_err-begin.ensures.breaks) refl)

pub loop-event-init : goal.loop-event-init
loop-event-init g c = record {
  so_far = so_far_none g.K.Sink.given g.K.Sink.took g.K.Sink.broke c.args.cfg
      (record { loaded = c.args.loaded; flash = g.F.FlashDev.told c.args.flash.now })
      (g.F.FlashDev.told c.args.flash.now)
      (g.F.FlashDev.told c.args.flash.now) c.start-runner.result c.begin.new.self c.new-lines.result
      (g.S.Source.left c.args.src.now) c.args.out.now c.begin.new.out
      (c.start-runner.ensures.stands _) c.start-runner.ensures.legal
      (c.start-runner.ensures.flash _) c.begin.ensures.same c.start-runner.ensures.nest c.start-runner.ensures.cost c.start-runner.ensures.newest
      c.new-lines.ensures.time c.new-lines.ensures.begins (rw (← c.start-runner.ensures.fault) c.in_ok-begin.ensures.given);
  few = let e = c.new-lines.ensures.line in omega arith;
  src_faults = omega arith;
  out_faults = c.begin.ensures.no_fewer;
}

pub loop-event-preserved : goal.loop-event-preserved
loop-event-preserved g c =
    let inv = c.loop-event.invariant in
    record {
      so_far = so_far_event g.K.Sink.given g.K.Sink.took g.K.Sink.broke c.args.cfg
          (record { loaded = c.args.loaded; flash = g.F.FlashDev.told c.args.flash.now }) _ _
          c.loop-event.runner c.feed.new.self c.loop-event.lines c.next.new.self
          (g.S.Source.left c.args.src.now) (g.S.Source.left c.loop-event.src) (g.S.Source.left c.next.new.src)
          (g.K.Sink.given c.args.out.now) c.loop-event.out c.feed.new.out c.in-Event.event
          inv.so_far c.feed.ensures.newest c.feed.ensures.nest c.feed.ensures.cost c.in-Event.ensures.goes_on c.in-Event.ensures.event
          (c.in_ok-feed-in-Event.ensures.legal _) (c.in_ok-feed-in-Event.ensures.flash _) (c.in_ok-feed-in-Event.ensures.goes _);
      few = c.in-Event.ensures.few;
      src_faults = let e = c.next.ensures.no_fewer in let f = inv.src_faults in omega arith;
      out_faults = let e = c.feed.ensures.no_fewer in let f = inv.out_faults in omega arith;
    }

pub returns-in_err-feed-in-Event-clause-err : goal.returns-in_err-feed-in-Event-clause-err
returns-in_err-feed-in-Event-clause-err g c =
    on_err c.from_residual-in_err-feed-in-Event.result (broken_event g.K.Sink.given g.K.Sink.took g.K.Sink.broke c.args.cfg
    (record { loaded = c.args.loaded; flash = g.F.FlashDev.told c.args.flash.now }) _ _ c.loop-event.runner c.loop-event.lines c.next.new.self _
    (g.S.Source.left c.args.src.now) (g.S.Source.left c.loop-event.src) (g.S.Source.left c.next.new.src)
    (g.K.Sink.given c.args.out.now) c.loop-event.out c.feed.new.out c.in-Event.event
    c.loop-event.invariant.so_far c.feed.ensures.newest c.in-Event.ensures.goes_on c.in-Event.ensures.event (c.in_err-feed-in-Event.ensures.breaks _))

pub returns-in_err-end-in-End-clause-err : goal.returns-in_err-end-in-End-clause-err
returns-in_err-end-in-End-clause-err g c =
    on_err c.from_residual-in_err-end-in-End.result (broken_end g.K.Sink.given g.K.Sink.took g.K.Sink.broke c.args.cfg
    (record { loaded = c.args.loaded; flash = g.F.FlashDev.told c.args.flash.now }) _ _ c.loop-event.runner c.loop-event.lines _
    (g.S.Source.left c.args.src.now) (g.S.Source.left c.loop-event.src) (g.S.Source.left c.next.new.src)
    (g.K.Sink.given c.args.out.now) c.loop-event.out c.end.new.out
    c.loop-event.invariant.so_far c.in-End.ensures.taken (c.in_err-end-in-End.ensures.breaks _))

pub returns-in-End-clause-ok : goal.returns-in-End-clause-ok
returns-in-End-clause-ok g c =
    done g.K.Sink.given g.K.Sink.took g.K.Sink.broke c.args.cfg
    (record { loaded = c.args.loaded; flash = g.F.FlashDev.told c.args.flash.now }) _ _ c.loop-event.runner c.end.new.self c.loop-event.lines
    (g.S.Source.left c.args.src.now) (g.S.Source.left c.loop-event.src) (g.K.Sink.given c.args.out.now) c.loop-event.out c.end.new.out c.in-End.t.0
    c.loop-event.invariant.so_far c.in-End.ensures.end c.end.ensures.newest c.end.ensures.nest c.end.ensures.cost (c.in_ok-end-in-End.ensures.legal _)
    (c.in_ok-end-in-End.ensures.flash _) (c.in_ok-end-in-End.ensures.goes _)

pub returns-in-Fault-clause-ok : goal.returns-in-Fault-clause-ok
returns-in-Fault-clause-ok g c =
    faulted c.args.cfg
    (record { loaded = c.args.loaded; flash = g.F.FlashDev.told c.args.flash.now }) _ c.loop-event.runner c.loop-event.lines
    (g.S.Source.left c.args.src.now) (g.S.Source.left c.loop-event.src) (g.S.Source.left c.next.new.src) (g.K.Sink.given c.args.out.now)
    (g.K.Sink.given c.loop-event.out)
    c.loop-event.invariant.so_far c.in-Fault.ensures.taken

pub returns-in-Refused-clause-ok : goal.returns-in-Refused-clause-ok
returns-in-Refused-clause-ok g c =
    refused c.args.cfg
    (record { loaded = c.args.loaded; flash = g.F.FlashDev.told c.args.flash.now }) _ c.loop-event.runner c.loop-event.lines
    (g.S.Source.left c.args.src.now) (g.S.Source.left c.loop-event.src) (g.K.Sink.given c.args.out.now) (g.K.Sink.given c.loop-event.out)
    c.line-line.result c.in-Refused.kind c.loop-event.invariant.so_far (rw c.line-line.ensures c.in-Refused.ensures.refused)
