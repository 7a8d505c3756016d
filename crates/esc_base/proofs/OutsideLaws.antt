-- What was given or taken in two pieces, and what holds of a call that failed.
use Rattle.std.proofs.Common.{◌≡◌, ℕ, List, ◌++◌, Option, Some, None, Result, Ok, Err, OnErr, refl, sym, ap, append_assoc}
use Rattle.std.specs.Io.KnownBytes.{append_known}

pub append_known-twice : (o : Option (List ℕ)) (xs ys : List ℕ) → append_known o (xs ++ ys) ≡ append_known (append_known o xs) ys
append_known-twice (Some bs) xs ys = ap (λ (x : List ℕ). Some x) (sym (append_assoc bs xs ys))
append_known-twice None xs ys = refl

-- what holds anyway holds of an error
pub on_err : {T E P : Type 0} (r : Result T E) → P → OnErr r P
on_err (Ok x) p = tt
on_err (Err x) p = p
