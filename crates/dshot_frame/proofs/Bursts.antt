-- The starts and widths of a burst's bits, by the place of its edges.
use Rattle.std.proofs.Common.{◌≡◌, ◌<◌, ℕ, zero, suc, ◌+◌, ◌-◌, ◌*◌, List, [], ◌∷◌, length, slice_index, refl, ap, ap₂, ◌∙◌, arith}
use Rattle.esc_base.specs.declared.signal.Edge.{Edge}
use Rattle.edge_capture.specs.Edges.{edge_at}
use Rattle.dshot_frame.specs.Verdict.{starts, widths, steps}

pub length-widths : (edges : List Edge) (n : ℕ) → length edges ≡ 2 * n → length (widths edges) ≡ n
length-widths [] n h = omega arith
length-widths (e ∷ []) n h = absurd (omega arith)
length-widths (e ∷ f ∷ rest) zero h = absurd (omega arith)
length-widths (e ∷ f ∷ rest) (suc n) h = ap suc (length-widths rest n (omega arith))

pub length-starts : (edges : List Edge) (n : ℕ) → length edges ≡ 2 * n → length (starts edges) ≡ n
length-starts [] n h = omega arith
length-starts (e ∷ []) n h = absurd (omega arith)
length-starts (e ∷ f ∷ rest) zero h = absurd (omega arith)
length-starts (e ∷ f ∷ rest) (suc n) h = ap suc (length-starts rest n (omega arith))

pub length-steps : (xs : List ℕ) → length (steps xs) ≡ length xs - 1
length-steps [] = refl
length-steps (a ∷ []) = refl
length-steps (a ∷ b ∷ rest) = let h = length-steps (b ∷ rest) in omega arith

pub starts_at : (edges : List Edge) (i : ℕ) → 2 * i + 1 < length edges → slice_index (starts edges) i ≡ (edge_at edges (2 * i)).t.0
starts_at [] i h = absurd (omega arith)
starts_at (e ∷ []) i h = absurd (omega arith)
starts_at (e ∷ f ∷ rest) zero h = refl
starts_at (e ∷ f ∷ rest) (suc i) h =
    let k : 2 * suc i ≡ suc (suc (2 * i)) = omega arith in
    rw k (starts_at rest i (omega arith))

pub widths_at : (edges : List Edge) (i : ℕ) → 2 * i + 1 < length edges
    → slice_index (widths edges) i ≡ (edge_at edges (2 * i + 1)).t.0 - (edge_at edges (2 * i)).t.0
widths_at [] i h = absurd (omega arith)
widths_at (e ∷ []) i h = absurd (omega arith)
widths_at (e ∷ f ∷ rest) zero h = refl
widths_at (e ∷ f ∷ rest) (suc i) h =
    let k : 2 * suc i ≡ suc (suc (2 * i)) = omega arith in
    let l : 2 * suc i + 1 ≡ suc (suc (2 * i + 1)) = omega arith in
    rw (l, k) (widths_at rest i (omega arith))

pub steps_at : (xs : List ℕ) (i : ℕ) → i + 1 < length xs → slice_index (steps xs) i ≡ slice_index xs (i + 1) - slice_index xs i
steps_at [] i h = absurd (omega arith)
steps_at (a ∷ []) i h = absurd (omega arith)
steps_at (a ∷ b ∷ rest) zero h = refl
steps_at (a ∷ b ∷ rest) (suc i) h =
    let k : suc i + 1 ≡ suc (i + 1) = omega arith in
    rw k (steps_at (b ∷ rest) i (omega arith))

pub step_between : (edges : List Edge) (i : ℕ) → length edges ≡ 32 → 0 < i → i < 16
    → slice_index (steps (starts edges)) (i - 1) ≡ (edge_at edges (2 * i)).t.0 - (edge_at edges (2 * i - 2)).t.0
step_between edges zero h after lt = absurd (omega arith)
step_between edges (suc i) h after lt =
    let l = length-starts edges 16 h in
    let before : suc i - 1 ≡ i = omega arith in
    let one_more : suc i ≡ i + 1 = omega arith in
    let two_less : 2 * (i + 1) - 2 ≡ 2 * i = omega arith in
    rw (before, one_more, two_less)
    (steps_at (starts edges) i (omega arith) ∙ ap₂ (λ (m n : ℕ). m - n) (starts_at edges (i + 1) (omega arith)) (starts_at edges i (omega arith)))
