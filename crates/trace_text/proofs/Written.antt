-- A space and a number, written into a line's bytes.
use Rattle.std.proofs.Common.{◌≡◌, ℕ, ◌+◌, ◌<◌, List, [], ◌∷◌, ◌++◌, length, take, drop, slice_set, sym, ◌∙◌, ap, arith, append_assoc, take-take}
use Rattle.std.proofs.Math.Seq.{take-add, take-append_seam}
use Rattle.std.proofs.lemmas.List.{take_more_set, drop-set-lt, length-set}
use Rattle.std.proofs.lemmas.Grind.{take-set_at}
use Rattle.std.proofs.lemmas.Fmt.{decimal_digit}
use Rattle.std.specs.Fmt.{decimal}

pub digit_field : (buffer : List ℕ) (at n : ℕ) → at + 1 < length buffer → n < 10
    → take (at + 2) (slice_set (slice_set buffer at 32) (at + 1) (48 + n)) ≡ take at buffer ++ 32 ∷ decimal n
digit_field buffer at n fits small =
    let spaced : List ℕ = slice_set buffer at 32 in
    let long = length-set buffer at 32 in
    take-set_at spaced (at + 1) (at + 2) (48 + n) (omega arith) (omega arith)
    ∙ ap (λ (xs : List ℕ). xs ++ (48 + n) ∷ []) (take_more_set buffer at 32 (omega arith))
    ∙ append_assoc (take at buffer) (32 ∷ []) ((48 + n) ∷ [])
    ∙ ap (λ (xs : List ℕ). take at buffer ++ 32 ∷ xs) (sym (decimal_digit n small))

pub digits_field : (buffer written digits : List ℕ) (at end : ℕ) → end ≡ at + 1 + length digits → at < length written
    → take (at + 1) written ≡ take (at + 1) buffer → drop (at + 1) written ≡ digits ++ drop end buffer
    → take end (slice_set written at 32) ≡ take at buffer ++ 32 ∷ digits
digits_field buffer written digits at end is fits before behind =
    let front : take at written ≡ take at buffer =
    sym (take-take at (at + 1) written (omega arith)) ∙ ap (take at) before ∙ take-take at (at + 1) buffer (omega arith) in
    ap (λ (n : ℕ). take n (slice_set written at 32)) is
    ∙ take-add (at + 1) (length digits) (slice_set written at 32)
    ∙ ap (λ (xs : List ℕ). xs ++ take (length digits) (drop (at + 1) (slice_set written at 32))) (take_more_set written at 32 fits)
    ∙ ap (λ (xs : List ℕ). (take at written ++ 32 ∷ []) ++ take (length digits) xs) (drop-set-lt (at + 1) written at 32 (omega arith) ∙ behind)
    ∙ ap (λ (xs : List ℕ). (take at written ++ 32 ∷ []) ++ xs) (take-append_seam digits (drop end buffer))
    ∙ append_assoc (take at written) (32 ∷ []) digits
    ∙ ap (λ (xs : List ℕ). xs ++ 32 ∷ digits) front
