-- Bytes stand in places: those that are known, and those that may be any.
use Rattle.std.proofs.Common.{◌≡◌, ℕ, ◌+◌, zero, suc, List, [], ◌∷◌, ◌++◌, length, drop, map, replicate, Option, Some, None, refl, arith}
use Rattle.esc_laws.specs.Saves.{any_places, Holds}

pub holds_self : (cells : List ℕ) → Holds (map Some cells) cells
holds_self [] = tt
holds_self (c ∷ cells) = (refl, holds_self cells)

pub holds_drop : (n : ℕ) (places : List (Option ℕ)) (cells : List ℕ) → Holds places cells → Holds (drop n places) (drop n cells)
holds_drop zero places cells h = h
holds_drop (suc n) [] [] h = tt
holds_drop (suc n) [] (c ∷ cells) h = absurd h
holds_drop (suc n) (p ∷ places) [] h = absurd h
holds_drop (suc n) (None ∷ places) (c ∷ cells) h = holds_drop n places cells h
holds_drop (suc n) (Some byte ∷ places) (c ∷ cells) h = holds_drop n places cells h.1

pub holds_append : (ps qs : List (Option ℕ)) (cs ds : List ℕ) → Holds ps cs → Holds qs ds → Holds (ps ++ qs) (cs ++ ds)
holds_append [] qs [] ds h k = k
holds_append [] qs (c ∷ cs) ds h k = absurd h
holds_append (p ∷ ps) qs [] ds h k = absurd h
holds_append (None ∷ ps) qs (c ∷ cs) ds h k = holds_append ps qs cs ds h k
holds_append (Some byte ∷ ps) qs (c ∷ cs) ds h k = (h.0, holds_append ps qs cs ds h.1 k)

-- behind bytes that are known
pub holds_behind : (front : List ℕ) (places : List (Option ℕ)) (cells : List ℕ) → Holds (map Some front ++ places) (front ++ cells) → Holds places cells
holds_behind [] places cells h = h
holds_behind (c ∷ front) places cells h = holds_behind front places cells h.1

holds_none : (n : ℕ) (cells : List ℕ) → length cells ≡ n → Holds (replicate n None) cells
holds_none zero [] e = tt
holds_none zero (c ∷ cells) e = absurd (omega arith)
holds_none (suc n) [] e = absurd (omega arith)
holds_none (suc n) (c ∷ cells) e = holds_none n cells (omega arith)

pub holds_any : (n : ℕ) (cells : List ℕ) → length cells ≡ n → Holds (any_places n) cells
unfolding any_places
holds_any n cells e = holds_none n cells e
