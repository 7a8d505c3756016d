-- What a call that failed says.
use Rattle.std.specs.Prelude.{◌≡◌, ◌⊎◌, ℕ, ◌<◌, List, ◌++◌, Option}
use Rattle.std.specs.Io.KnownBytes.{append_known}

-- a count of faults rose: it is greater, or it stays at its greatest value, 2^64 - 1
abbrev pub Rose : ℕ → ℕ → Type 0
Rose before after = (before < after) ⊎ ((before ≡ 18446744073709551615) × (after ≡ before))

-- a front of the piece was appended, where the bytes are told
pub record AppendsFront (before : Option (List ℕ)) (piece : List ℕ) (after : Option (List ℕ)) : Type 0 where
  pub front : List ℕ
  pub rest : List ℕ
  pub is_front : front ++ rest ≡ piece
  pub appended : after ≡ append_known before front
