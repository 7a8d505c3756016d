-- What is ahead after bytes were taken from a source.
use Rattle.std.proofs.Common.{◌≡◌, ◌≤◌, ◌<◌, ℕ, ◌+◌, ◌-◌, min, List, [], ◌++◌, length, take, drop, Option, Some, None, Result, Ok, Err, IfOk, refl, sym, ◌∙◌, ap, subst, arith, append_assoc, length-take-le, length-drop, ◌⊎◌, inl, inr}
use Rattle.std.specs.Io.KnownBytes.{prepend_known, IsAtEnd}
use Rattle.std.proofs.Math.Seq.{take-append-add}
use Rattle.std.proofs.lemmas.List.{take-append-le, drop-take, take_all, length-take, take-append-drop}
use Rattle.std.proofs.lemmas.Bool.{cases_lt}
use borrow.Rule.Slice.PartMut.{put_mid, post_of}
use Rattle.esc_base.specs.declared.outside.Failed.{Failed}

pub at_end_after : (a b : Option (List ℕ)) → a ≡ prepend_known [] b → IsAtEnd a → IsAtEnd b
at_end_after a None e h = tt
at_end_after a (Some ys) e h = subst (λ (o : Option (List ℕ)). IsAtEnd o) e h

pub prepend_both : (xs ys : List ℕ) (b : Option (List ℕ)) → prepend_known xs (prepend_known ys b) ≡ prepend_known (xs ++ ys) b
prepend_both xs ys None = refl
prepend_both xs ys (Some zs) = ap (λ (l : List ℕ). Some l) (sym (append_assoc xs ys zs))

taken_front : (xs ys : List ℕ) (at k n : ℕ) → at ≤ length xs → n ≤ length ys → take (at + n) (put_mid at k xs ys) ≡ take at xs ++ take n ys
taken_front xs ys at k n le fits =
    let len : length (take at xs) ≡ at = length-take-le at xs le in
    ap (λ (m : ℕ). take (m + n) (take at xs ++ (ys ++ post_of at k xs))) (sym len)
    ∙ take-append-add (take at xs) (ys ++ post_of at k xs) n
    ∙ ap (λ (l : List ℕ). take at xs ++ l) (take-append-le n ys (post_of at k xs) fits)

-- what was held, and n bytes more
pub taken_behind : (xs ys : List ℕ) (at k n : ℕ) (a b : Option (List ℕ)) → at ≤ length xs → n ≤ length ys → a ≡ prepend_known (take n ys) b
    → prepend_known (take at xs) a ≡ prepend_known (take (at + n) (put_mid at k xs ys)) b
taken_behind xs ys at k n a b le fits e =
    ap (λ (o : Option (List ℕ)). prepend_known (take at xs) o) e
    ∙ prepend_both (take at xs) (take n ys) b
    ∙ ap (λ (l : List ℕ). prepend_known l b) (sym (taken_front xs ys at k n le fits))

pub behind_if_ok : (r : Result ℕ Failed) (xs ys : List ℕ) (at k : ℕ) (a b : Option (List ℕ)) → at ≤ length xs → length ys + at ≡ length xs
    → IfOk r (λ n. n ≤ length (take (length xs - at) (drop at xs))) → IfOk r (λ n. a ≡ prepend_known (take n ys) b)
    → IfOk r (λ n. prepend_known (take at xs) a ≡ prepend_known (take (at + n) (put_mid at k xs ys)) b)
behind_if_ok (Ok n) xs ys at k a b le len fits e =
    taken_behind xs ys at k n a b le (let room = length-take (length xs - at) (drop at xs) in let left = length-drop at xs in omega arith) e
behind_if_ok (Err f) xs ys at k a b le len fits e = tt

pub end_if_ok : (r : Result ℕ Failed) (ys : List ℕ) (a b : Option (List ℕ)) → IfOk r (λ n. a ≡ prepend_known (take n ys) b) → IfOk r (λ n. n ≡ 0 → IsAtEnd a)
    → IfOk r (λ n. n ≡ 0 → IsAtEnd b)
end_if_ok (Ok n) ys a b e h = λ z. at_end_after a b (subst (λ (m : ℕ). a ≡ prepend_known (take m ys) b) z e) (h z)
end_if_ok (Err f) ys a b e h = tt

take_both_at : (n m : ℕ) (xs : List ℕ) → (n < length xs) ⊎ (length xs ≤ n) → n ≤ m → take n (take m xs) ≡ take n xs
take_both_at n m xs (inl lt) le =
    sym (ap (take n) (sym (take-append-drop m xs)) ∙ take-append-le n (take m xs) (drop m xs) (let e = length-take m xs in omega arith))
take_both_at n m xs (inr short) le = ap (take n) (take_all m xs (omega arith))

take_both : (n m : ℕ) (xs : List ℕ) → n ≤ m → take n (take m xs) ≡ take n xs
take_both n m xs le = take_both_at n m xs (cases_lt n (length xs)) le

take_twice_at : (n m : ℕ) (xs : List ℕ) → (m < n) ⊎ (n ≤ m) → take n (take m xs) ≡ take (min m n) xs
take_twice_at n m xs (inr le) = take_both n m xs le ∙ ap (λ (k : ℕ). take k xs) (omega arith)
take_twice_at n m xs (inl lt) = take_all n (take m xs) (let e = length-take m xs in omega arith) ∙ ap (λ (k : ℕ). take k xs) (omega arith)

-- the first n of the bytes from `at` to `len`
pub window : (xs : List ℕ) (at len n k : ℕ) → at ≤ len → k ≡ min (len - at) n → take ((at + k) - at) (drop at xs) ≡ take n (drop at (take len xs))
window xs at len n k le e =
    ap (λ (m : ℕ). take m (drop at xs)) (omega arith)
    ∙ sym (take_twice_at n (len - at) (drop at xs) (cases_lt (len - at) n))
    ∙ ap (take n) (sym (drop-take at (len - at) xs))
    ∙ ap (λ (m : ℕ). take n (drop at (take m xs))) (omega arith)
