use Rattle.std.proofs.Common.{sym, ◌∙◌, ap, arith}
use Rattle.trace_text.specs.Line.{said_in}
use Rattle.trace_text.proofs.Saying.{said-fields, time_back, too_late}
use Rattle.trace_text.proofs.item.Place.parse.Goals as goal

pub returns-then-t-self-clause-said : goal.returns-then-t-self-clause-said
returns-then-t-self-clause-said c =
    let parts = rw c.in-Some.is at c.split_field.ensures in
    let valid = c.in-Some-decimal_of.ensures.valid in
    let value = c.in-Some-decimal_of.ensures.value in
    sym (said-fields c.args.self.now c.args.line.now c.requires.few c.requires.short ∙ ap (said_in c.args.self.now) parts
    ∙ time_back c.args.self.now c.split_field.result.0.now c.in-Some.rest.now (sym valid) (omega arith))

pub returns-then-t-gt-LAST_TICK-clause-said : goal.returns-then-t-gt-LAST_TICK-clause-said
returns-then-t-gt-LAST_TICK-clause-said c =
    let parts = rw c.in-Some.is at c.split_field.ensures in
    let valid = c.in-Some-decimal_of.ensures.valid in
    let value = c.in-Some-decimal_of.ensures.value in
    sym (said-fields c.args.self.now c.args.line.now c.requires.few c.requires.short ∙ ap (said_in c.args.self.now) parts
    ∙ too_late c.args.self.now c.split_field.result.0.now c.in-Some.rest.now (sym valid) (omega arith) (omega arith))
