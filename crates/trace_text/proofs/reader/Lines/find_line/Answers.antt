use Rattle.std.proofs.Common.{sym, ◌∙◌, arith, take, List, ℕ, subst, ap, length}
use Rattle.trace_text.specs.Ahead.{unread, ahead, place, NoLineFeed}
use Rattle.trace_text.proofs.Answering.{line_found, none_found, none_ended, too_long, no_end}
use Rattle.trace_text.proofs.reader.Lines.find_line.Goals as goal

pub returns-in-Some-clause-found : goal.returns-in-Some-clause-found
returns-in-Some-clause-found g c = line_found (unread c.loop-n.self.held) c.in-Some.n (sym c.line_feed.ensures ∙ c.in-Some.is)

pub returns-then-len-gt-LONGEST_LINE-clause-answers : goal.returns-then-len-gt-LONGEST_LINE-clause-answers
returns-then-len-gt-LONGEST_LINE-clause-answers g c =
    too_long (place c.args.self.now) (unread c.loop-n.self.held) (g.S.Source.left c.loop-n.src)
    (ahead c.args.self.now.held (g.S.Source.left c.args.src.now)) (ahead c.loop-n.self.held (g.S.Source.left c.loop-n.src))
    c.requires c.loop-n.invariant.ahead (none_found (unread c.loop-n.self.held) (sym c.line_feed.ensures ∙ c.in_default.is)) (omega arith)

pub returns-in-Ok-false-clause-answers : goal.returns-in-Ok-false-clause-answers
returns-in-Ok-false-clause-answers g c =
    let same = c.in-Ok-false.ensures.none c.in-Ok-false.field-0-test in
    no_end (place c.args.self.now) (unread c.fill.new.self) (g.S.Source.left c.fill.new.src)
    (ahead c.args.self.now.held (g.S.Source.left c.args.src.now)) (ahead c.fill.new.self (g.S.Source.left c.fill.new.src))
    c.requires (c.fill.ensures.ahead ∙ c.loop-n.invariant.ahead) (c.in-Ok-false.ensures.end c.in-Ok-false.field-0-test)
    (subst (λ (xs : List ℕ). NoLineFeed (take 41 xs)) (sym same) (none_found (unread c.loop-n.self.held) (sym c.line_feed.ensures ∙ c.in_default.is)))
    (let len = c.len.ensures in let short = c.if-len-gt-LONGEST_LINE.false in let grew = ap (λ (xs : List ℕ). length xs) same in omega arith)

pub returns-in-Err-clause-no_event : goal.returns-in-Err-clause-no_event
returns-in-Err-clause-no_event g c =
    let same = c.in-Err.ensures.kept in
    none_ended (place c.args.self.now) (unread c.fill.new.self) (g.S.Source.left c.fill.new.src) (ahead c.args.self.now.held (g.S.Source.left c.args.src.now))
    c.requires (c.fill.ensures.ahead ∙ c.loop-n.invariant.ahead)
    (subst (λ (xs : List ℕ). NoLineFeed (take 41 xs)) (sym same) (none_found (unread c.loop-n.self.held) (sym c.line_feed.ensures ∙ c.in_default.is)))
    (let len = c.len.ensures in let short = c.if-len-gt-LONGEST_LINE.false in let grew = ap (λ (xs : List ℕ). length xs) same in omega arith)
