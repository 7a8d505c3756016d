-- The ticks of sector changes, the newest first, and the electrical period that they make.
use Rattle.std.specs.Prelude.{◌≤◌, ℕ, ◌-◌, ◌/◌, nat_le, if◌then◌else◌, List, [], ◌∷◌, length, slice_index, Option, Some, None}
use Rattle.esc_base.specs.Times.{microsecond}

-- the ticks of the newest six gaps together, which seven changes bound, or 0 with fewer changes
abbrev pub six_of : List ℕ → ℕ
six_of turns = if nat_le 7 (length turns) then slice_index turns 0 - slice_index turns 6 else 0

-- the electrical period, which is that time in whole microseconds; none with fewer changes
abbrev pub period_of : List ℕ → Option ℕ
period_of turns = if nat_le 7 (length turns) then Some (six_of turns / microsecond) else None

-- the gaps between neighbouring changes, the newest first
abbrev pub gaps_of : List ℕ → List ℕ
gaps_of [] = []
gaps_of (q ∷ []) = []
gaps_of (q ∷ (p ∷ turns)) = (q - p) ∷ gaps_of (p ∷ turns)

-- the ticks don't rise from newer changes to older ones
abbrev pub IsFalling : List ℕ → Type 0
IsFalling [] = Unit {0}
IsFalling (q ∷ []) = Unit {0}
IsFalling (q ∷ (p ∷ turns)) = (p ≤ q) × IsFalling (p ∷ turns)
