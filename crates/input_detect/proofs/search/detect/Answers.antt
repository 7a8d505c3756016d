use Rattle.std.proofs.Common.{◌&&◌, sym, ◌∙◌, ap}
use Rattle.esc_base.specs.declared.signal.Mode.TheVariants.{Unknown}
use Rattle.input_detect.specs.Detect.{allows, fits, modes, seen_of}
use Rattle.input_detect.proofs.Left.{find-passed_over}
use Rattle.input_detect.proofs.search.detect.Goals as goal

pub loop-mode-preserved : goal.loop-mode-preserved
loop-mode-preserved c =
    c.loop-mode.invariant
    ∙ ap seen_of (find-passed_over (λ m. allows c.args.input m && fits m c.args.burst.now c.args.servo.now) modes c.loop-mode.mode-index Unknown
    c.loop-mode-test.true (sym c.is_answer.ensures ∙ c.if-is_answer.false))
