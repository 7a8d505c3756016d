use Rattle.std.proofs.Common.{◌≡◌, true, sym, ◌∙◌}
use Rattle.dshot_frame.specs.Verdict.{is_span, span}
use Rattle.dshot_frame.proofs.Words.{passes}
use Rattle.dshot_frame.proofs.judge.verdict.Goals as goal

pub returns-in-Some-clause-judged : goal.returns-in-Some-clause-judged
returns-in-Some-clause-judged c =
    let spans : is_span c.mode_numbers-numbers.result.bit (span c.args.burst.now) ≡ true =
    rw (← c.at.ensures.edge, ← c.at-2.ensures.edge) (sym c.spans_a_frame.ensures ∙ c.if-not-spans_a_frame.false) in
    rw (← c.mode_numbers-numbers.ensures.table)
    (passes c.mode_numbers-numbers.result.bit c.mode_numbers-numbers.result.inverted c.args.burst.now c.in-Some.word c.read_frame.result
    (sym c.len.ensures.len ∙ c.if-len.false) (sym c.begins_active.ensures ∙ c.if-not-begins_active.false) spans c.in-Some.ensures c.read_frame.ensures.said)
