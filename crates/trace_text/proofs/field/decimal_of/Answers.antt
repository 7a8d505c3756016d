use Rattle.std.proofs.Common.{◌+◌, ◌*◌, ◌-◌, ◌<◌, ℕ, min, take, get_or, length, sym, ◌∙◌, ap}
use Rattle.std.specs.Char.{is_ascii_digit}
use Rattle.std.proofs.lemmas.List.Folds.{list_all_more}
use Rattle.std.proofs.lemmas.Int.Digits.{digits_value_more}
use Rattle.trace_text.specs.Line.{number}
use Rattle.trace_text.proofs.Digits.{digit_of, capped}
use Rattle.trace_text.proofs.field.decimal_of.Goals as goal

pub loop-digit-preserved : goal.loop-digit-preserved
loop-digit-preserved c =
    let i = c.loop-digit.digit-index in
    let ds = c.args.digits.now in
    let lt : i < length ds = c.loop-digit-test.true in
    let is = c.if-not-is_ascii_digit.ensures.value in
    record {
      digits = rw (list_all_more is_ascii_digit ds i 0 lt, c.loop-digit.invariant.digits) (sym is);
      value =
          capped (number (take i ds)) c.loop-digit.n c.saturating_mul.result c.saturating_add-n.result
          (get_or ds i 0 - 48) c.loop-digit.invariant.value c.saturating_mul.ensures c.saturating_add-n.ensures
          ∙ ap (λ (v : ℕ). min v 18446744073709551615)
          (ap (λ (d : ℕ). number (take i ds) * 10 + d) (sym (digit_of (get_or ds i 0) (sym is))) ∙ sym (digits_value_more 10 ds i lt));
    }
