use Rattle.std.proofs.Common.{◌+◌, ◌-◌, ◌/◌, ◌%◌, ◌++◌, [], ◌∷◌, List, ℕ, sym, ◌∙◌, ap, arith, append_assoc, append-nil}
use Rattle.trace_text.specs.Text.{bits}
use Rattle.trace_text.proofs.Bits.{no_bits, bits_more}
use Rattle.trace_text.proofs.write.Line.+push_bits.Goals as goal

pub returns-then-count-gt0-clause-bytes : goal.returns-then-count-gt0-clause-bytes
returns-then-count-gt0-clause-bytes t c =
    let old = c.args.self.now.bytes in
    let lowest = 48 + c.args.b % 2 in
    c.push_byte.ensures.bytes ∙ ap (λ (l : List ℕ). l ++ lowest ∷ []) c.push_bits.ensures.bytes
    ∙ append_assoc old (bits (c.args.count - 1) (c.args.b / 2)) (lowest ∷ [])
    ∙ ap (λ (l : List ℕ). old ++ l) (sym (bits_more c.args.count (c.args.count - 1) c.args.b (omega arith)))

pub returns-else-count-gt0-clause-bytes : goal.returns-else-count-gt0-clause-bytes
returns-else-count-gt0-clause-bytes t c =
    let old = c.args.self.now.bytes in
    sym (ap (λ (l : List ℕ). old ++ l) (ap (λ (n : ℕ). bits n c.args.b) (omega arith) ∙ no_bits c.args.b) ∙ append-nil old)
