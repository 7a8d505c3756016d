-- The text of the settings, line by line.
use Rattle.std.proofs.Common.{◌≡◌, ◌∙◌, ℕ, List, ◌++◌, ap}
use Rattle.am32sim.specs.Show.{field_line}

-- one line more, behind what stands there
pub line_more : (t u name : List ℕ) (v w : ℕ) (front : List ℕ) → u ≡ t ++ field_line name v → t ≡ front → v ≡ w → u ≡ front ++ field_line name w
line_more t u name v w front e f g = e ∙ ap (λ (xs : List ℕ). xs ++ field_line name v) f ∙ ap (λ (n : ℕ). front ++ field_line name n) g
