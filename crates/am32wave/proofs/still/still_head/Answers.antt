use Rattle.std.proofs.Common.{ℕ, ◌*◌, ◌/◌, ◌∙◌, ap}
use Rattle.am32wave.specs.declared.still.TheConstants.{STILL_HEAD, BEFORE_QUARTER, BEFORE_HALF, BEFORE_THREE_QUARTERS, BEFORE_SPAN, BEFORE_ROWS}
use Rattle.am32wave.specs.Pieces.{time_text}
use Rattle.am32wave.proofs.Parts.{still_of}
use Rattle.am32wave.proofs.still.still_head.Goals as goal

pub returns-clause-text : goal.returns-clause-text
returns-clause-text c =
    still_of STILL_HEAD.now BEFORE_QUARTER.now BEFORE_HALF.now BEFORE_THREE_QUARTERS.now BEFORE_SPAN.now BEFORE_ROWS.now _ _ _ _ _ _ _ _ _ _ c.time.ensures.text
    (c.time-2.ensures.text ∙ ap (λ (n : ℕ). time_text (n / 4)) c.span-span.ensures)
    (c.time-3.ensures.text ∙ ap (λ (n : ℕ). time_text (n / 2)) c.span-span.ensures)
    (c.time-4.ensures.text ∙ ap (λ (n : ℕ). time_text (n / 4 * 3)) c.span-span.ensures)
    (c.time-5.ensures.text ∙ ap time_text c.span-span.ensures)
