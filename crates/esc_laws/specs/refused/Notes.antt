-- Shown of the laws, and no law.
-- The notes that small journals are written with, each at its tick.
use Rattle.std.specs.Prelude.{ℕ, zero, suc, List, [], ◌∷◌}
use Rattle.esc_base.specs.declared.note.Note.{Note}
use Rattle.esc_base.specs.declared.note.Note.TheVariants as note
use Rattle.esc_base.specs.Numbers.{as_tick}

-- I and O of a kind by its number
abbrev pub enters : ℕ → ℕ → Note
enters t k = note.Enter (as_tick t) k

abbrev pub leaves : ℕ → ℕ → Note
leaves t k = note.Leave (as_tick t) k

-- W and the four F
abbrev pub window : ℕ → ℕ → Note
window t m = note.Window (as_tick t) m

abbrev pub good : ℕ → ℕ → Note
good t value = note.Good (as_tick t) value 0

abbrev pub bad : ℕ → ℕ → Note
bad t why = note.Bad (as_tick t) why

abbrev pub found : ℕ → ℕ → Note
found t m = note.Detected (as_tick t) m

abbrev pub nothing : ℕ → Note
nothing t = note.Nothing (as_tick t)

-- K with its number, marks and demand, A, X, M and P
abbrev pub ticks : ℕ → ℕ → ℕ → ℕ → Note
ticks t n marks demand = note.Control (as_tick t) n marks demand

abbrev pub arms : ℕ → Note
arms t = note.Armed (as_tick t)

abbrev pub loses : ℕ → ℕ → Note
loses t cause = note.Lost (as_tick t) cause

abbrev pub acts : ℕ → ℕ → Note
acts t command = note.Command (as_tick t) command

abbrev pub saves : ℕ → ℕ → Note
saves t result = note.Saved (as_tick t) result

-- G, Q and Z
abbrev pub switches : ℕ → ℕ → ℕ → Note
switches t high low = note.Gate (as_tick t) high low

abbrev pub turns : ℕ → ℕ → Note
turns t sector = note.Step (as_tick t) sector

abbrev pub crosses : ℕ → Note
crosses t = note.Cross (as_tick t)

-- the load of the settings, and the first window
abbrev pub first_two : List Note
first_two = note.Up (as_tick 0) 0 ∷ window 0 0 ∷ []

-- so many good frames with this value, and then these notes
abbrev pub frames : ℕ → ℕ → List Note → List Note
frames zero value rest = rest
frames (suc n) value rest = good 100 value ∷ frames n value rest

-- so many sector changes, and then these notes
abbrev pub rows : ℕ → List Note → List Note
rows zero rest = rest
rows (suc n) rest = turns 2500 1 ∷ rows n rest
