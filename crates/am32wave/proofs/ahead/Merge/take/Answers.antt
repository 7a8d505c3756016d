use Rattle.std.proofs.Common.{refl, sym, subst, arith}
use Rattle.esc_base.specs.Journal.{time_of}
use Rattle.esc_base.specs.Trace.{tick_of}
use Rattle.am32wave.specs.declared.next.NextEvent.{NextEvent}
use Rattle.am32wave.specs.declared.next.NextNote.{NextNote}
use Rattle.am32wave.proofs.Merging.{NoEventBefore, NoNoteBefore, take_note, take_event}
use Rattle.am32wave.proofs.ahead.Merge.take.Goals as goal

pub returns-then-time_of-tick_of-clause-says : goal.returns-then-time_of-tick_of-clause-says
returns-then-time_of-tick_of-clause-says c nf nl ef el moments h =
    take_note c.args.self.now _ nf nl ef el moments c.in-Is-Is.note c.in-Is-Is.is-0 refl refl refl
    (subst (λ (x : NextEvent). NoEventBefore x (time_of c.in-Is-Is.note)) (sym c.in-Is-Is.is-1)
    (let a = c.time_of.ensures in let b = c.tick_of.ensures in omega arith)) h

pub returns-else-time_of-tick_of-clause-says : goal.returns-else-time_of-tick_of-clause-says
returns-else-time_of-tick_of-clause-says c nf nl ef el moments h =
    take_event c.args.self.now _ nf nl ef el moments c.in-Is-Is.event c.in-Is-Is.is-1 refl refl refl
    (subst (λ (x : NextNote). NoNoteBefore x (tick_of c.in-Is-Is.event)) (sym c.in-Is-Is.is-0)
    (let a = c.time_of.ensures in let b = c.tick_of.ensures in omega arith)) h

pub returns-in-Is-End-clause-says : goal.returns-in-Is-End-clause-says
returns-in-Is-End-clause-says c nf nl ef el moments h =
    take_note c.args.self.now _ nf nl ef el moments c.in-Is-End.note c.in-Is-End.is-0 refl refl refl
    (subst (λ (x : NextEvent). NoEventBefore x (time_of c.in-Is-End.note)) (sym c.in-Is-End.is-1) tt) h

pub returns-in-End-Is-clause-says : goal.returns-in-End-Is-clause-says
returns-in-End-Is-clause-says c nf nl ef el moments h =
    take_event c.args.self.now _ nf nl ef el moments c.in-End-Is.event c.in-End-Is.is-1 refl refl refl
    (subst (λ (x : NextNote). NoNoteBefore x (tick_of c.in-End-Is.event)) (sym c.in-End-Is.is-0) tt) h
