use Rattle.std.proofs.Common.{ℕ, List, Option, subst}
use Rattle.am32wave.specs.Merged.{traced_plan, TracedShown}
use Rattle.am32wave.proofs.TracedShows.{traced_done}
use Rattle.am32wave.proofs.run.traced_main.Goals as goal

pub returns-in-Ok-clause-done : goal.returns-in-Ok-clause-done
returns-in-Ok-clause-done g c journal text events end is_journal j is_text reads =
    traced_done (traced_plan c.args.view c.args.stretch) c.in-Ok.status (g.S.Source.left c.show_traced.new.src) (g.T.Source.left c.args.trace.now) (g.T.Source.left c.show_traced.new.trace)
    (g.K.Sink.given c.args.out.now) (g.K.Sink.given c.show_traced.new.out) journal text events end j is_text reads
    (subst (λ (o : Option (List ℕ)). TracedShown (traced_plan c.args.view c.args.stretch) c.in-Ok.status o (g.S.Source.left c.show_traced.new.src) (g.T.Source.left c.args.trace.now)
    (g.T.Source.left c.show_traced.new.trace) (g.K.Sink.given c.args.out.now) (g.K.Sink.given c.show_traced.new.out)) is_journal c.in-Ok.ensures.ok)
