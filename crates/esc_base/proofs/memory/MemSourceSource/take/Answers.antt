use Rattle.std.proofs.Common.{◌≡◌, ℕ, ◌+◌, List, ◌++◌, Some, take, drop, refl}
use Rattle.std.proofs.lemmas.List.{take-append-drop, drop-drop}
use Rattle.esc_base.proofs.memory.MemSourceSource.take.Goals as goal

-- a front of what is left, and the rest
given_front : (bytes given held rest : List ℕ) (at n : ℕ) → take n given ≡ take n rest → rest ≡ drop at held → held ≡ bytes
    → Some (drop at bytes) ≡ Some (take n given ++ drop (at + n) bytes)
given_front bytes given held rest at n taken left is =
    rw (taken, left, is, ← drop-drop n at bytes, take-append-drop n (drop at bytes)) refl

pub returns-clause-gives : goal.returns-clause-gives
returns-clause-gives c =
    given_front c.args.self.now.bytes.items c.copy_front.new.to c.as_slice.result.now c.split_at.result.1.now c.args.self.now.at c.min-n.result
    c.copy_front.ensures c.split_at.ensures.back c.as_slice.ensures.value
