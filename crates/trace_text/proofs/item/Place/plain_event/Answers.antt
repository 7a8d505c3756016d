use Rattle.std.proofs.Common.{◌∙◌, Option, Bool, get_or, sym, refl, ap, arith}
use Rattle.std.specs.Prelude.{option_map}
use Rattle.esc_base.specs.declared.event.Event.TheVariants as event
use Rattle.trace_text.specs.declared.parse.LineKind.TheVariants as kind
use Rattle.trace_text.specs.Line.{has_plain_start}
use Rattle.trace_text.proofs.AtOnce.{five, is_line, is_said}
use Rattle.trace_text.proofs.item.Place.plain_event.Goals as goal

pub returns-in-69-clause-line : goal.returns-in-69-clause-line
returns-in-69-clause-line c =
    let behind = c.split_at.result.1.now in
    let tail = five behind 69 (omega arith) c.if-behind-ne32.false c.in-69.is c.if-behind-ne32-2.false c.if-behind-ne10.false in
    is_line c.args.bytes.now c.leading_number-time.result.1 69 (get_or behind 3 0) tail.0 c.in_ok-level.level
    (omega arith) (omega arith) (sym c.split_at.ensures.back ∙ tail.1)
    c.leading_number-time.ensures.digits (sym c.level.ensures ∙ c.in_ok-level.was) refl

pub returns-in-69-clause-said : goal.returns-in-69-clause-said
returns-in-69-clause-said c =
    let behind = c.split_at.result.1.now in
    let tail = five behind 69 (omega arith) c.if-behind-ne32.false c.in-69.is c.if-behind-ne32-2.false c.if-behind-ne10.false in
    let says = sym c.level.ensures ∙ c.in_ok-level.was in
    is_said c.args.bytes.now c.leading_number-time.result.1 69 (get_or behind 3 0) tail.0 c.in_ok-level.level
    (omega arith) (omega arith) (sym c.split_at.ensures.back ∙ tail.1)
    c.leading_number-time.ensures.digits says c.args.self.now kind.Edge (record { 0 = c.leading_number-time.result.0 })
    (event.Edge (record { 0 = c.leading_number-time.result.0 }) c.in_ok-level.level)
    c.requires.few (sym (ap has_plain_start c.split_at.ensures.front) ∙ sym c.if-not-starts_plainly.ensures)
    (sym c.leading_number-time.ensures.value) (omega arith) (omega arith) refl refl refl
    (ap (λ (o : Option Bool). option_map (λ level. event.Edge (record { 0 = c.leading_number-time.result.0 }) level) o) says) refl

pub returns-in-67-clause-line : goal.returns-in-67-clause-line
returns-in-67-clause-line c =
    let behind = c.split_at.result.1.now in
    let tail = five behind 67 (omega arith) c.if-behind-ne32.false c.in-67.is c.if-behind-ne32-2.false c.if-behind-ne10.false in
    is_line c.args.bytes.now c.leading_number-time.result.1 67 (get_or behind 3 0) tail.0 c.in_ok-level.level
    (omega arith) (omega arith) (sym c.split_at.ensures.back ∙ tail.1)
    c.leading_number-time.ensures.digits (sym c.level.ensures ∙ c.in_ok-level.was) refl

pub returns-in-67-clause-said : goal.returns-in-67-clause-said
returns-in-67-clause-said c =
    let behind = c.split_at.result.1.now in
    let tail = five behind 67 (omega arith) c.if-behind-ne32.false c.in-67.is c.if-behind-ne32-2.false c.if-behind-ne10.false in
    let says = sym c.level.ensures ∙ c.in_ok-level.was in
    is_said c.args.bytes.now c.leading_number-time.result.1 67 (get_or behind 3 0) tail.0 c.in_ok-level.level
    (omega arith) (omega arith) (sym c.split_at.ensures.back ∙ tail.1)
    c.leading_number-time.ensures.digits says c.args.self.now kind.Comp (record { 0 = c.leading_number-time.result.0 })
    (event.Comp (record { 0 = c.leading_number-time.result.0 }) c.in_ok-level.level)
    c.requires.few (sym (ap has_plain_start c.split_at.ensures.front) ∙ sym c.if-not-starts_plainly.ensures)
    (sym c.leading_number-time.ensures.value) (omega arith) (omega arith) refl refl refl
    (ap (λ (o : Option Bool). option_map (λ level. event.Comp (record { 0 = c.leading_number-time.result.0 }) level) o) says) refl
