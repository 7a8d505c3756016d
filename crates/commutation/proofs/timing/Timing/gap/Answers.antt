use Rattle.std.proofs.Common.{◌≡◌, ◌≤◌, ◌∷◌, take, slice_set, ap, arith, ℕ, List}
use Rattle.commutation.specs.Kept.{Kept}
use Rattle.commutation.proofs.TimedNotes.{gap_timed}
use Rattle.commutation.proofs.TurnList.{turned}
use Rattle.commutation.proofs.timing.Timing.gap.Goals as goal

pub returns-clause-kept : goal.returns-clause-kept
returns-clause-kept c =
    let before = c.self.inside in
    let most : before.turn_count ≤ 7 = omega arith in
    let turns_are : take c.min-self-inside.result (slice_set c.rotate_right.new.self 0 c.args.q.0) ≡ take 7 (c.args.q.0 ∷ take before.turn_count before.turns) =
    turned before.turns c.rotate_right.new.self before.turn_count c.min-self-inside.result
    c.args.q.0 c.self.told c.rotate_right.ensures.after most c.min-self-inside.ensures in
    let make : List ℕ → Kept =
    λ (turns : List ℕ). record { advance = before.advance; pace = record { interval = before.interval; last = before.last }; turns = turns } in
    rw (← c.self.view_is) (ap make turns_are)

pub returns-clause-timed : goal.returns-clause-timed
returns-clause-timed c = λ s back timed. rw (returns-clause-kept c) (gap_timed c.args.self.now back c.args.q s timed)
