use Rattle.std.proofs.Common.{◌≡◌, sym, ◌∙◌, subst}
use Rattle.std.proofs.lemmas.Option.{same_Some}
use Rattle.am32wave.specs.declared.run.Form.{Form}
use Rattle.am32wave.specs.declared.run.Form.TheVariants as form
use Rattle.am32wave.specs.declared.status.Status.{Status}
use Rattle.am32wave.specs.declared.view.View.TheVariants as view
use Rattle.am32wave.specs.Shown.{FormFits, Shown}
use Rattle.am32wave.proofs.PageTells.{wrote_page}
use Rattle.am32wave.proofs.Shows.{done_or_fault}
use Rattle.am32wave.proofs.run.wave_main.Goals as goal

pub returns-in-Ok-clause-done : goal.returns-in-Ok-clause-done
returns-in-Ok-clause-done g c f is journal left h =
    done_or_fault c.in-Some.form c.in-Ok.status (g.S.Source.left c.args.src.now) (g.S.Source.left c.show.new.src) (g.K.Sink.given c.args.out.now)
    (g.K.Sink.given c.show.new.out) journal left h c.in-Ok.ensures.ok

pub returns-in-Ok-clause-page : goal.returns-in-Ok-clause-page
returns-in-Ok-clause-page g c s is done =
    let same : c.in-Some.form ≡ form.Drawn view.Page s = same_Some _ _ (sym c.in-Some.is ∙ is) in
    let fits = subst FormFits same c.show.ensures.fits in
    wrote_page s (g.S.Source.left c.args.src.now) (g.K.Sink.given c.args.out.now) (g.K.Sink.given c.show.new.out) fits.0 fits.1
    (subst (λ (st : Status). Shown (form.Drawn view.Page s) st (g.S.Source.left c.args.src.now) (g.S.Source.left c.show.new.src)
    (g.K.Sink.given c.args.out.now) (g.K.Sink.given c.show.new.out)) done
    (subst (λ (f : Form). Shown f c.in-Ok.status (g.S.Source.left c.args.src.now) (g.S.Source.left c.show.new.src)
    (g.K.Sink.given c.args.out.now) (g.K.Sink.given c.show.new.out)) same c.in-Ok.ensures.ok))
