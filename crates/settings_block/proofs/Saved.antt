-- What a save changes of the flash.
use Rattle.std.proofs.Common.{◌≡◌, ◌≤◌, ℕ, List, ◌++◌, length, take, drop, Option, Some, None, refl, ◌∙◌, ap, subst, arith, append_assoc}
use Rattle.std.specs.Option.{option_map}
use Rattle.std.proofs.lemmas.List.{length-take-le}
use Rattle.std.proofs.Math.Seq.{take-append_seam}
use Rattle.esc_base.specs.Flash.{blank, erased, ChangesWithin, IsWhole}
use Rattle.settings_block.specs.Stored.{KeepsBelow}

pub map_map : (f g : List ℕ → List ℕ) (o : Option (List ℕ)) → option_map f (option_map g o) ≡ option_map (λ cells. f (g cells)) o
map_map f g None = refl
map_map f g (Some cells) = refl

-- the front of a list, before other lists
front_same : (k : ℕ) (xs ys zs : List ℕ) → k ≤ length xs → take k (take k xs ++ ys ++ zs) ≡ take k xs
front_same k xs ys zs le =
    let len : length (take k xs) ≡ k = length-take-le k xs le in
    let seam : take (length (take k xs)) (take k xs ++ (ys ++ zs)) ≡ take k xs = take-append_seam (take k xs) (ys ++ zs) in
    ap (λ (l : List ℕ). take k l) (append_assoc (take k xs) ys zs) ∙ subst (λ (n : ℕ). take n (take k xs ++ (ys ++ zs)) ≡ take k xs) len seam

below_some : (old mid new : List ℕ) (n : ℕ) → mid ≡ erased old 31 → take 31744 new ≡ take 31744 mid → length old ≡ 32768 → take 31744 new ≡ take 31744 old
below_some old mid new n e same whole =
    same ∙ ap (λ (l : List ℕ). take 31744 l) e ∙ front_same 31744 old (blank 1024) (drop 32768 old) (omega arith)

-- bytes below the last page are as before, once it was erased and programming it failed
pub below_erased : (old mid new : Option (List ℕ)) (n : ℕ) → mid ≡ option_map (λ cells. erased cells 31) old → ChangesWithin 31744 n mid new → IsWhole old
    → KeepsBelow 31744 old new
below_erased None None None n e c whole = tt
below_erased None None (Some new) n e c whole = absurd c
below_erased None (Some mid) new n e c whole = absurd (let g = e in cc)
below_erased (Some old) None new n e c whole = absurd (let g = e in cc)
below_erased (Some old) (Some mid) None n e c whole = absurd c
below_erased (Some old) (Some mid) (Some new) n e c whole = below_some old mid new n (let g = e in cc) c.0 whole
