-- A rounded quotient.
use Rattle.std.proofs.Common.{◌≡◌, ◌≤◌, ℕ, ◌+◌, ◌*◌, ◌/◌, sym, ◌∙◌, subst, arith}
use Rattle.trace_tools.specs.Nearest.{IsNearest}
use Rattle.trace_tools.proofs.Rounding.{nearest_div}

pub rounded : (n d doubled : ℕ) → 1 ≤ d → doubled ≡ n * 2 + d → IsNearest (doubled / (2 * d)) n d
rounded n d doubled some e =
    subst (λ (x : ℕ). IsNearest (x / (2 * d)) n d) (let twice : 2 * n + d ≡ n * 2 + d = omega arith in twice ∙ sym e) (nearest_div n d some)
