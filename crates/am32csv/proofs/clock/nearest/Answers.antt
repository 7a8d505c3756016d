use Rattle.std.proofs.Common.{◌+◌, ◌*◌, ◌∙◌, ap}
use Rattle.am32csv.proofs.Ticks.{rounded}
use Rattle.am32csv.proofs.clock.nearest.Goals as goal

pub returns : goal.returns
returns c =
    rounded (c.args.n * c.args.of) c.args.parts c.in_ok-rounded.rounded c.requires.some
    (let a = c.in_ok-product.ensures.1 in
    let b = c.in_ok-doubled.ensures.1 in
    let d = c.in_ok-rounded.ensures.1 in
    d ∙ ap (λ n. n + c.args.parts) (b ∙ ap (λ n. n * 2) a))
