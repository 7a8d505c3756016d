use Rattle.std.proofs.Common.{◌==◌, ◌∙◌, ℕ, List, ap, arith, position, take}
use Rattle.std.proofs.lemmas.List.{length-take, length-drop}
use Rattle.trace_text.proofs.Taking.{window}
use Rattle.trace_text.proofs.piece.Held.line_feed.Goals as goal

pub returns : goal.returns
returns c =
    let h = c.args.self.now in
    let whole = length-take h.len h.buffer in
    let held = length-drop h.at (take h.len h.buffer) in
    let n = c.len.ensures in
    let k = c.min-looked_at.ensures in
    c.position_of.ensures ∙ ap (λ (xs : List ℕ). position (λ b. b == 10) xs) (window h.buffer h.at h.len c.args.most c.min-looked_at.result h.within (omega arith))
