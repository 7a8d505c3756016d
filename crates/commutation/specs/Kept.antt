-- What a `Timing` keeps, and how each call changes it.
use Rattle.std.specs.Prelude.{ℕ, List, [], ◌∷◌, take}
use Rattle.esc_base.specs.declared.tick.Tick.{Tick}
use Rattle.commutation.specs.Pace.{first_pace, paced, Pace}

pub record Kept : Type 0 where
  -- by how many eighths of the interval a sector change comes earlier, 0 to 3
  pub advance : ℕ
  pub pace : Pace
  -- the ticks of the newest sector changes since the restart, at most seven, the newest first
  pub turns : List ℕ

abbrev pub fresh : ℕ → Kept
fresh advance = record { advance = advance; pace = first_pace; turns = [] }

-- a drive starts
abbrev pub after_restart : Kept → Kept
after_restart c = fresh c.advance

-- a crossing at z
abbrev pub after_crossing : Kept → Tick → Kept
after_crossing c z = record c { pace = paced c.pace z }

-- a sector change at q
abbrev pub after_gap : Kept → ℕ → Kept
after_gap c q = record c { turns = take 7 (q ∷ c.turns) }
