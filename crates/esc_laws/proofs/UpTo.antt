-- The notes up to a tick.
use Rattle.std.proofs.Common.{◌≡◌, ◌<◌, ◌≤◌, ℕ, Bool, true, false, nat_le, if◌then◌else◌, List, [], ◌∷◌, ◌++◌, All, refl, ap}
use Rattle.std.proofs.lemmas.Bool.{le-leb, lt-leb}
use Rattle.std.proofs.lemmas.List.Elements.{All-head, All-tail}
use Rattle.esc_base.specs.declared.note.Note.{Note}
use Rattle.esc_base.specs.Journal.{time_of}
use Rattle.esc_laws.specs.Chopped.{upto}

-- those of a front that stands by then all, and more of those behind it
pub up_to_all : (t : ℕ) (front rest : List Note) → All (λ n. time_of n ≤ t) front → upto t (front ++ rest) ≡ front ++ upto t rest
up_to_all t [] rest a = refl
up_to_all t (n ∷ front) rest a =
    rw (le-leb (time_of n) t (All-head (λ x. time_of x ≤ t) n front a))
    (ap (λ (l : List Note). n ∷ l) (up_to_all t front rest (All-tail (λ x. time_of x ≤ t) n front a)))

-- none of those that stand later
pub up_to_none : (t : ℕ) (rest : List Note) → All (λ n. t < time_of n) rest → upto t rest ≡ []
up_to_none t [] a = refl
up_to_none t (n ∷ rest) a = rw (lt-leb (time_of n) t (All-head (λ x. t < time_of x) n rest a)) refl

pub up_to_before : (t : ℕ) (notes after : List Note) → All (λ n. t < time_of n) after → upto t (notes ++ after) ≡ upto t notes
up_to_before t [] after a = up_to_none t after a
up_to_before t (n ∷ notes) after a = by_time (nat_le (time_of n) t) (up_to_before t notes after a)
  where
    by_time : (v : Bool) → upto t (notes ++ after) ≡ upto t notes
        → (if v then n ∷ upto t (notes ++ after) else []) ≡ (if v then n ∷ upto t notes else [])
    by_time true e = ap (λ (l : List Note). n ∷ l) e
    by_time false e = refl
