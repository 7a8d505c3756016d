use Rattle.std.proofs.Common.{◌∷◌, List, ℕ, Some, sym, ◌∙◌, ap}
use Rattle.trace_text.specs.declared.parse.LineKind.{LineKind}
use Rattle.trace_text.specs.Line.{said_in}
use Rattle.trace_text.proofs.Saying.{end_trailing}
use Rattle.trace_text.proofs.item.Place.parse_rest.Goals as goal

pub returns-in-End-Some-clause-said : goal.returns-in-End-Some-clause-said
returns-in-End-Some-clause-said c time d at =
    let parts = rw c.in-End-Some.is-1 at c.split_field.ensures in
    sym (ap (λ (fs : List (List ℕ)). said_in c.args.self.now (time ∷ fs)) parts
    ∙ end_trailing c.args.self.now time d (rw at c.requires.in_time.0) (rw at c.requires.in_time.1) c.split_field.result.0.now c.in-End-Some.field-0-1.now
    (sym c.kind_named.ensures ∙ c.in-Some.is ∙ ap (λ (k : LineKind). Some k) c.in-End-Some.is-0))
