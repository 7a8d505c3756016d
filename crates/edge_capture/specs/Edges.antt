-- Lists of edges.
use Rattle.std.specs.Prelude.{ℕ, ◌-◌, ◌<◌, ◌≤◌, Bool, false, List, [], ◌∷◌, length, slice_index_or}
use Rattle.esc_base.specs.declared.signal.Edge.{Edge}

abbrev pub blank : Edge
blank = record { t = record { 0 = 0 }; level = false }

abbrev pub edge_at : List Edge → ℕ → Edge
edge_at edges i = slice_index_or edges i blank

-- the tick of the last edge, or 0 where there is none
abbrev pub last_at : List Edge → ℕ
last_at edges = (edge_at edges (length edges - 1)).t.0

-- the last edge rises
abbrev pub last_rose : List Edge → Bool
last_rose edges = (edge_at edges (length edges - 1)).level

-- the edges' ticks don't fall
abbrev pub IsInOrder : List Edge → Type 0
IsInOrder edges = (i j : ℕ) → i ≤ j → j < length edges → (edge_at edges i).t.0 ≤ (edge_at edges j).t.0

-- the edges' ticks don't fall, from t on
abbrev pub Rising : ℕ → List Edge → Type 0
Rising t [] = Unit {0}
Rising t (e ∷ rest) = (t ≤ e.t.0) × Rising e.t.0 rest
