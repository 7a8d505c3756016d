use Rattle.std.proofs.Common.{◌+◌, ◌*◌, ◌-◌, ◌<◌, ◌==◌, ◌||◌, ℕ, min, take, get_or, length, sym, ◌∙◌, ap}
use Rattle.std.specs.Str.Parse.{digits_value}
use Rattle.std.proofs.lemmas.List.{take_all}
use Rattle.std.proofs.lemmas.List.Folds.{list_all_more}
use Rattle.std.proofs.lemmas.Int.Digits.{digits_value_more}
use Rattle.trace_text.proofs.Digits.{capped_bits}
use Rattle.trace_text.proofs.NoteBack.{bits_are, two_digit_of}
use Rattle.trace_text.proofs.note_parse.bits.Goals as goal

pub loop-digit-preserved : goal.loop-digit-preserved
loop-digit-preserved c =
    let i = c.loop-digit.digit-index in
    let ds = c.args.digits.now in
    let lt : i < length ds = c.loop-digit-test.true in
    let is = sym c.is_binary.ensures ∙ c.if-not-is_binary.false in
    record {
      passed = rw (list_all_more (λ x. x == 48 || x == 49) ds i 0 lt, c.loop-digit.invariant.passed) is;
      value =
          capped_bits (digits_value 2 (take i ds)) c.loop-digit.b c.saturating_mul.result c.saturating_add-b.result
          (get_or ds i 0 - 48) c.loop-digit.invariant.value c.saturating_mul.ensures c.saturating_add-b.ensures
          ∙ ap (λ (v : ℕ). min v 4294967295)
          (ap (λ (d : ℕ). digits_value 2 (take i ds) * 2 + d) (sym (two_digit_of (get_or ds i 0) is)) ∙ sym (digits_value_more 2 ds i lt));
    }

pub returns-clause-value : goal.returns-clause-value
returns-clause-value c =
    let ds = c.args.digits.now in
    let whole = take_all c.loop-digit.digit-index ds c.loop-digit-test.false in
    (bits_are ds c.loop-digit.b c.if-digits-ne21.false (rw whole at c.loop-digit.invariant.passed) (rw whole at c.loop-digit.invariant.value)).0

pub returns-clause-fits : goal.returns-clause-fits
returns-clause-fits c =
    let ds = c.args.digits.now in
    let whole = take_all c.loop-digit.digit-index ds c.loop-digit-test.false in
    (bits_are ds c.loop-digit.b c.if-digits-ne21.false (rw whole at c.loop-digit.invariant.passed) (rw whole at c.loop-digit.invariant.value)).1
