use Rattle.std.proofs.Common.{◌≡◌, ◌*◌, ◌∙◌, ap, refl, arith}
use Rattle.trace_tools.proofs.Rounding.{nearest_below, nearest_above}
use Rattle.trace_tools.proofs.number.Decimal.ticks.Goals as goal

pub returns-then-self-power-clause-nearest : goal.returns-then-self-power-clause-nearest
returns-then-self-power-clause-nearest c =
    nearest_below c.args.self.units c.args.self.decimals c.args.power c.in_ok-ticks.ticks (omega arith)
    (let a : c.in_ok-us.us ≡ c.args.self.units * c.power_of_ten.result = c.in_ok-us.ensures.1 in
    let b : c.in_ok-ticks.ticks ≡ c.in_ok-us.us * 48 = c.in_ok-ticks.ensures.1 in
    b ∙ ap (λ n. n * 48) (a ∙ ap (λ n. c.args.self.units * n) c.power_of_ten.ensures.power))

pub returns-clause-nearest : goal.returns-clause-nearest
returns-clause-nearest c =
    nearest_above c.args.self.units c.args.self.decimals c.args.power c.power_of_ten-parts.result _ (omega arith) c.power_of_ten-parts.ensures.power refl
