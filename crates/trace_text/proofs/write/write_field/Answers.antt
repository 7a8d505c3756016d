use Rattle.std.proofs.Common.{◌≡◌, ◌+◌, decimal, arith}
use Rattle.trace_text.proofs.Written.{digit_field, digits_field}
use Rattle.trace_text.proofs.write.write_field.Goals as goal

pub returns-then-n-lt10-clause-written : goal.returns-then-n-lt10-clause-written
returns-then-n-lt10-clause-written c = digit_field c.args.buffer.now c.args.at c.args.n (omega arith) (omega arith)

pub returns-clause-written : goal.returns-clause-written
returns-clause-written c =
    let w = c.write_digits in
    let start : w.result ≡ c.args.at + 1 = omega arith in
    digits_field c.args.buffer.now w.new.buf (decimal c.args.n) c.args.at _ (omega arith) (omega arith)
    (rw start at w.ensures.before) (rw start at w.ensures.written)
