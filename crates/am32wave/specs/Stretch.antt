-- Stretches of a run.
use Rattle.std.specs.Prelude.{ℕ, Bool, ◌&&◌, ltb, leb}
use Rattle.am32wave.specs.declared.view.Stretch.{Stretch}

-- the whole run: each tick of a journal is below 2^32
abbrev pub whole : Stretch
whole = record { from = 0; to = 4294967295 }

abbrev pub is_within : Stretch → ℕ → Bool
is_within s t = leb s.from t && leb t s.to

-- the stretch begins behind the one tick, and at the other or before it
abbrev pub enters : Stretch → ℕ → ℕ → Bool
enters s before t = ltb before s.from && leb s.from t
