-- What erasing and programming make of a flash's bytes.
use Rattle.std.proofs.Common.{◌≡◌, ◌≤◌, ◌<◌, ℕ, ◌+◌, suc, zero, List, [], ◌∷◌, ◌++◌, length, take, drop, refl, sym, ap, arith, append_assoc, slice_index_or, slice_set, bit_and}
use Rattle.std.proofs.lemmas.List.{drop-drop, length-drop, length-replicate, length-take-le}
use Rattle.esc_base.specs.Flash.{and_front, blank, blanked}

pub length-blank : (n : ℕ) → length (blank n) ≡ n
unfolding blank
length-blank n = length-replicate n 255

-- one more byte is programmed
pub and_step : (cells bytes : List ℕ) (i : ℕ) → i < length bytes → length bytes ≤ length cells
    → slice_set (and_front cells (take i bytes)) i (bit_and (slice_index_or (and_front cells (take i bytes)) i 0) (slice_index_or bytes i 0))
    ≡ and_front cells (take (suc i) bytes)
and_step [] [] i lt le = absurd (omega arith)
and_step [] (b ∷ bs) i lt le = absurd (omega arith)
and_step (c ∷ cs) [] i lt le = absurd (omega arith)
and_step (c ∷ cs) (b ∷ bs) zero lt le = refl
and_step (c ∷ cs) (b ∷ bs) (suc i) lt le = ap (λ (l : List ℕ). bit_and c b ∷ l) (and_step cs bs i (omega arith) (omega arith))

-- a part that was set to erased bytes, in its place
pub blanked_part : (cells new : List ℕ) (at n k : ℕ) → k ≡ n → at + n ≤ length cells → new ≡ blank (length (take k (drop at cells)))
    → take at cells ++ (new ++ drop k (drop at cells)) ≡ blanked cells at n
blanked_part cells new at n k same within is =
    let few : n ≤ length (drop at cells) = simp length-drop (omega arith) in
    let new_is : new ≡ blank n = rw (is, same, length-take-le n (drop at cells) few) refl in
    let rest_is : drop n (drop at cells) ≡ drop (at + n) cells = drop-drop n at cells in
    rw (new_is, same, rest_is) (sym (append_assoc (take at cells) (blank n) (drop (at + n) cells)))
