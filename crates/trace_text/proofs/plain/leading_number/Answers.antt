use Rattle.std.proofs.Common.{◌+◌, ◌*◌, ◌-◌, ◌<◌, ℕ, take, get_or, length, sym, ◌∙◌, ap, arith}
use Rattle.std.specs.Char.{is_ascii_digit}
use Rattle.std.proofs.lemmas.Grind.{pow_more}
use Rattle.std.proofs.lemmas.List.Folds.{list_all_more}
use Rattle.std.proofs.lemmas.Int.Digits.{digits_value_more}
use Rattle.trace_text.specs.Line.{number}
use Rattle.trace_text.proofs.Digits.{digit_of, digit_most}
use Rattle.trace_text.proofs.plain.leading_number.Goals as goal

pub loop-len-preserved : goal.loop-len-preserved
loop-len-preserved c =
    let i = c.loop-len.len in
    let bytes = c.args.bytes.now in
    let lt : i < length bytes = omega arith in
    let is = c.if-not-is_ascii_digit.ensures.value in
    record {
      most = omega arith;
      digits = rw (list_all_more is_ascii_digit bytes i 0 lt, c.loop-len.invariant.digits) (sym is);
      value = ap (λ (v : ℕ). v * 10 + (get_or bytes i 0 - 48)) c.loop-len.invariant.value
          ∙ ap (λ (d : ℕ). number (take i bytes) * 10 + d) (sym (digit_of (get_or bytes i 0) (sym is))) ∙ sym (digits_value_more 10 bytes i lt);
      small = let more = pow_more 10 i in let most = digit_most (get_or bytes i 0) (sym is) in omega arith;
    }
