use Rattle.std.proofs.Common.{◌≤◌, ◌∙◌, ap, subst, refl, Option, ℕ, length, drop, arith}
use Rattle.std.specs.Prelude.{IfSome, IfNone}
use Rattle.std.specs.Io.KnownBytes.{IsAtEnd}
use Rattle.std.proofs.lemmas.List.{take_all, drop_all}
use Rattle.trace_text.specs.Ahead.{unread}
use Rattle.am32trace.specs.Script.{IsCut, IsOneLine}
use Rattle.am32trace.proofs.LinesCut.{took_line, took_rest, took_none, drop_more, empty}
use Rattle.am32trace.proofs.script_lines.ScriptLines.next.Goals as goal

pub returns-in-Some-clause-some : goal.returns-in-Some-clause-some
returns-in-Some-clause-some g c = λ yes.
    let u = unread c.find.new.self.held in
    took_line c.args.self.now _ (g.S.Source.left c.args.src.now) (g.S.Source.left c.find.new.src) u c.take.new.self.line.items c.if-self.false
    c.in_ok-n.ensures.ahead c.in-Some.n (c.take.ensures.same ∙ c.in_ok-n.ensures.same ∙ c.if-self.false)
    (subst (λ (o : Option ℕ). IfSome o (λ n. IsCut n u)) c.in-Some.is c.in_ok-n.ensures.found) c.take.ensures.line
    (c.skip.ensures ∙ ap (drop 1) c.take.ensures.rest ∙ drop_more c.in-Some.n u)

pub returns-in-None-clause-some : goal.returns-in-None-clause-some
returns-in-None-clause-some g c = λ yes.
    let u = unread c.find.new.self.held in
    let len : length u ≤ c.len-n.result = omega (arith, c.len-n.ensures) in
    took_rest c.args.self.now _ (g.S.Source.left c.args.src.now) (g.S.Source.left c.find.new.src) u c.take-in-None.new.self.line.items c.if-self.false
    c.in_ok-n.ensures.ahead refl (subst (λ (o : Option ℕ). IfNone o (IsOneLine u)) c.in-None.is c.in_ok-n.ensures.no_feed)
    (subst (λ (o : Option ℕ). IfNone o (IsAtEnd (g.S.Source.left c.find.new.src))) c.in-None.is c.in_ok-n.ensures.end)
    (c.take-in-None.ensures.line ∙ take_all c.len-n.result u len) (c.take-in-None.ensures.rest ∙ drop_all c.len-n.result u len)

pub returns-in-None-clause-none : goal.returns-in-None-clause-none
returns-in-None-clause-none g c = λ no.
    let u = unread c.find.new.self.held in
    let len : length u ≤ c.len-n.result = omega (arith, c.len-n.ensures) in
    took_none c.args.self.now _ (g.S.Source.left c.args.src.now) (g.S.Source.left c.find.new.src) u c.take-in-None.new.self.line.items c.if-self.false
    c.in_ok-n.ensures.ahead refl (empty u c.len-n.result c.len-n.ensures no)
    (subst (λ (o : Option ℕ). IfNone o (IsAtEnd (g.S.Source.left c.find.new.src))) c.in-None.is c.in_ok-n.ensures.end)
    (c.take-in-None.ensures.rest ∙ drop_all c.len-n.result u len)
