use Rattle.std.proofs.Common.{◌∷◌, List, ℕ, sym, ◌∙◌, ap}
use Rattle.trace_text.specs.Line.{said_in}
use Rattle.trace_text.proofs.Fields.{first_part, some_part, last_part}
use Rattle.trace_text.proofs.Saying.{bad_value, trailing, good}
use Rattle.trace_text.proofs.item.Place.parse_value.Goals as goal

pub returns-in_default-clause-said : goal.returns-in_default-clause-said
returns-in_default-clause-said c time name d at k =
    let value = c.split_field.result.0.now in
    let parts = first_part c.args.rest.now value c.split_field.result.1 c.split_field.ensures in
    sym (ap (λ (fs : List (List ℕ)). said_in c.args.self.now (time ∷ name ∷ fs)) parts.1
    ∙ bad_value c.args.self.now time d (rw at c.requires.in_time.0) (rw at c.requires.in_time.1) name c.args.kind
    k c.requires.not_end c.args.t at value parts.0 (sym c.event.ensures.event ∙ c.in_default.is))

pub returns-then-is_some-clause-said : goal.returns-then-is_some-clause-said
returns-then-is_some-clause-said c time name d at k =
    let value = c.split_field.result.0.now in
    let parts = some_part c.args.rest.now value c.split_field.result.1 c.split_field.ensures (sym c.is_some.ensures ∙ c.if-is_some.true) in
    sym (ap (λ (fs : List (List ℕ)). said_in c.args.self.now (time ∷ name ∷ fs)) parts.1
    ∙ trailing c.args.self.now time d (rw at c.requires.in_time.0) (rw at c.requires.in_time.1) name c.args.kind k
    c.requires.not_end c.args.t at value parts.0 c.in-Some.event (sym c.event.ensures.event ∙ c.in-Some.is))

pub returns-clause-said : goal.returns-clause-said
returns-clause-said c time name d at k =
    let value = c.split_field.result.0.now in
    let parts = last_part c.args.rest.now value c.split_field.result.1 c.split_field.ensures (sym c.is_some.ensures ∙ c.if-is_some.false) in
    sym (ap (λ (fs : List (List ℕ)). said_in c.args.self.now (time ∷ name ∷ fs)) parts
    ∙ good c.args.self.now time d (rw at c.requires.in_time.0) (rw at c.requires.in_time.1) name c.args.kind k c.requires.not_end
    c.args.t at value c.in-Some.event (sym c.event.ensures.event ∙ c.in-Some.is) (sym c.is_too_close.ensures ∙ c.if-is_too_close.false))
