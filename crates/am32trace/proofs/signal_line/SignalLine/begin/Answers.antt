use Rattle.std.proofs.Common.{◌≡◌, ◌≤◌, ◌+◌, ℕ, sym, subst, Option, arith}
use Rattle.std.specs.Prelude.{IfSome, All}
use Rattle.am32trace.specs.declared.signal_line.Repeated.{Repeated}
use Rattle.am32trace.specs.Frames.{IsBefore}
use Rattle.am32trace.specs.Line.{left_of, pending, IsReady}
use Rattle.am32trace.proofs.Begun.{next_is}
use Rattle.am32trace.proofs.signal_line.SignalLine.begin.Goals as goal

pub returns-clause-well : goal.returns-clause-well
returns-clause-well c =
    let l = c.args.self.now in
    let r = c.in-Some.repeated in
    let well = c.requires.well in
    let ready : IsReady l.period (pending l) r = subst (λ (o : Option Repeated). IfSome o (IsReady l.period (pending l))) c.in-Some.is well.ready in
    let at : r.next.0 ≡ c.args.edge.t.0 = next_is l.mode l.repeated r c.args.edge c.in-Some.is c.requires.next in
    let most = well.rate.most in
    let sum : c.saturating_add.result ≡ r.next.0 + l.period = omega (arith, c.saturating_add.ensures, at, most, c.requires.early) in
    let near : c.saturating_add.result ≤ 17179869184 = omega (arith, sum, at, most, c.requires.early) in
    let apart = c.first_sent-self.ensures.within l.period well.rate.frames ready.short in
    record {
      rate = well.rate;
      on = c.first_sent-self.ensures.on;
      ready = record { short = ready.short; near = near; apart = subst (λ (n : ℕ). All (IsBefore n) (left_of c.first_sent-self.result)) (sym sum) apart };
    }
