-- The modes that are left to try.
use Rattle.std.proofs.Common.{◌≡◌, ◌<◌, ◌+◌, ℕ, zero, suc, Bool, false, List, [], ◌∷◌, length, get_or, drop, refl, arith}
use Rattle.std.specs.List.{find}
use Rattle.esc_base.specs.declared.signal.Mode.{Mode}

pub find-passed_over : (p : Mode → Bool) (xs : List Mode) (i : ℕ) (d : Mode) → i < length xs → p (get_or xs i d) ≡ false
    → find p (drop i xs) ≡ find p (drop (i + 1) xs)
find-passed_over p [] i d lt h = absurd (omega arith)
find-passed_over p (x ∷ xs) zero d lt h = rw h refl
find-passed_over p (x ∷ xs) (suc i) d lt h =
    let next : suc i + 1 ≡ suc (i + 1) = omega arith in
    rw next (find-passed_over p xs i d (omega arith) h)
