use Rattle.std.proofs.Common.{◌≤◌, ◌∙◌, sym, subst, arith}
use Rattle.std.specs.Prelude.{length}
use Rattle.trace_text.specs.Ahead.{unread}
use Rattle.am32trace.specs.Script.{IsOneLine}
use Rattle.am32trace.proofs.LinesCut.{line_found, none_found}
use Rattle.am32trace.proofs.script_lines.ScriptLines.find.Goals as goal

pub returns-in-Some-clause-found : goal.returns-in-Some-clause-found
returns-in-Some-clause-found g c = line_found (unread c.loop.self.held) c.in-Some.n (sym c.line_feed.ensures ∙ c.in-Some.is)

pub returns-in-Ok-false-clause-no_feed : goal.returns-in-Ok-false-clause-no_feed
returns-in-Ok-false-clause-no_feed g c =
    let u = unread c.loop.self.held in
    let short : length u ≤ 1200 = omega (arith, c.len.ensures, c.if-len-gt-LONGEST_LINE.false) in
    let same = c.in-Ok-false.ensures.none c.in-Ok-false.field-0-test in
    subst IsOneLine (sym same) (none_found u (sym c.line_feed.ensures ∙ c.in_default.is) short)
