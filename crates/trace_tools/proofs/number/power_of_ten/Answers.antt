use Rattle.std.proofs.Common.{◌≡◌, ◌^◌, arith}
use Rattle.trace_tools.proofs.Powers.{pow_some, pow_most}
use Rattle.trace_tools.proofs.number.power_of_ten.Goals as goal

pub overflow_mul-power : goal.overflow_mul-power
overflow_mul-power c =
    let h : c.loop.power ≡ 10 ^ c.loop.counter = c.loop.invariant in
    let most = pow_most c.loop.counter (omega arith) in
    omega arith

pub returns-clause-some : goal.returns-clause-some
returns-clause-some c =
    let h : c.loop.power ≡ 10 ^ c.loop.counter = c.loop.invariant in
    let some = pow_some c.loop.counter in
    omega arith

pub returns-clause-most : goal.returns-clause-most
returns-clause-most c =
    let h : c.loop.power ≡ 10 ^ c.loop.counter = c.loop.invariant in
    let most = pow_most c.loop.counter (omega arith) in
    omega arith
