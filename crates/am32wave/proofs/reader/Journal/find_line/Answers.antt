use Rattle.std.proofs.Common.{List, ℕ, sym, ◌∙◌, ap, subst, arith, length, take}
use Rattle.trace_text.specs.Ahead.{unread, ahead, NoLineFeed}
use Rattle.am32wave.specs.Reading.{IsNoNote}
use Rattle.am32wave.proofs.Lines.{found, none_found, too_long, cut_off, part_only}
use Rattle.am32wave.proofs.reader.Journal.find_line.Goals as goal

pub returns-in-Some-clause-found : goal.returns-in-Some-clause-found
returns-in-Some-clause-found g c = found (unread c.loop-n.self.held) c.in-Some.n (sym c.line_feed.ensures ∙ c.in-Some.is)

pub returns-then-len-gt-LONGEST_LINE-clause-stops : goal.returns-then-len-gt-LONGEST_LINE-clause-stops
returns-then-len-gt-LONGEST_LINE-clause-stops g c =
    subst IsNoNote c.loop-n.invariant.ahead
    (too_long (unread c.loop-n.self.held) (g.S.Source.left c.loop-n.src) (none_found (unread c.loop-n.self.held) (sym c.line_feed.ensures ∙ c.in_default.is))
    (omega arith))

pub returns-in-Err-clause-stops : goal.returns-in-Err-clause-stops
returns-in-Err-clause-stops g c =
    let same = c.in-Err.ensures.kept in
    part_only (unread c.fill.new.self) (g.S.Source.left c.fill.new.src) (ahead c.args.self.now.held (g.S.Source.left c.args.src.now))
    (sym (c.fill.ensures.ahead ∙ c.loop-n.invariant.ahead))
    (subst (λ (bytes : List ℕ). NoLineFeed (take 46 bytes)) (sym same) (none_found (unread c.loop-n.self.held) (sym c.line_feed.ensures ∙ c.in_default.is)))
    (let len = c.len.ensures in let short = c.if-len-gt-LONGEST_LINE.false in let grew = ap (λ (bytes : List ℕ). length bytes) same in omega arith)

pub returns-in-Ok-false-2-clause-stops : goal.returns-in-Ok-false-2-clause-stops
returns-in-Ok-false-2-clause-stops g c =
    let same = c.in-Ok-false.ensures.none c.in-Ok-false.field-0-test in
    let some = c.if-len-eq0.false in
    let size = c.len-else-this.ensures in
    cut_off (unread c.fill.new.self) (g.S.Source.left c.fill.new.src) (ahead c.args.self.now.held (g.S.Source.left c.args.src.now))
    (sym (c.fill.ensures.ahead ∙ c.loop-n.invariant.ahead))
    (subst (λ (bytes : List ℕ). NoLineFeed (take 46 bytes)) (sym same) (none_found (unread c.loop-n.self.held) (sym c.line_feed.ensures ∙ c.in_default.is)))
    (omega arith)
    (let len = c.len.ensures in let short = c.if-len-gt-LONGEST_LINE.false in let grew = ap (λ (bytes : List ℕ). length bytes) same in omega arith)
    (c.in-Ok-false.ensures.end c.in-Ok-false.field-0-test)
