-- The newest sector change at the front of seven places.
use Rattle.std.proofs.Common.{◌≡◌, ◌≤◌, ℕ, zero, suc, ◌+◌, ◌-◌, min, List, [], ◌∷◌, ◌++◌, length, take, drop, slice_set, refl, arith}

shifted : (a b c d e f g q n : ℕ) → n ≤ 7 → take (min (n + 1) 7) (q ∷ a ∷ b ∷ c ∷ d ∷ e ∷ f ∷ []) ≡ take 7 (q ∷ take n (a ∷ b ∷ c ∷ d ∷ e ∷ f ∷ g ∷ []))
shifted a b c d e f g q zero h = refl
shifted a b c d e f g q (suc zero) h = refl
shifted a b c d e f g q (suc (suc zero)) h = refl
shifted a b c d e f g q (suc (suc (suc zero))) h = refl
shifted a b c d e f g q (suc (suc (suc (suc zero)))) h = refl
shifted a b c d e f g q (suc (suc (suc (suc (suc zero))))) h = refl
shifted a b c d e f g q (suc (suc (suc (suc (suc (suc zero)))))) h = refl
shifted a b c d e f g q (suc (suc (suc (suc (suc (suc (suc zero))))))) h = refl
shifted a b c d e f g q n h = absurd (omega arith)

turned_at : (places : List ℕ) (n q : ℕ) → length places ≡ 7 → n ≤ 7
    → take (min (n + 1) 7) (slice_set (drop 6 places ++ take 6 places) 0 q) ≡ take 7 (q ∷ take n places)
turned_at (a ∷ b ∷ c ∷ d ∷ e ∷ f ∷ g ∷ []) n q seven h = shifted a b c d e f g q n h
turned_at places n q seven h = absurd (omega arith)

-- after a turn by one place the new change stands before the newest six
pub turned : (places new : List ℕ) (n count q : ℕ) → length places ≡ 7 → new ≡ drop (length places - 1) places ++ take (length places - 1) places → n ≤ 7
    → count ≡ min (n + 1) 7
    → take count (slice_set new 0 q) ≡ take 7 (q ∷ take n places)
turned places new n count q seven is most count_is = rw (is, count_is, seven) (turned_at places n q seven most)
