-- Two laws of drive, which follow from `Controlled` alone.
use Rattle.std.specs.Prelude.{◌≡◌, ◌≢◌, ◌≤◌, ◌<◌, ℕ, ◌+◌, true, List, [], ◌∷◌, ◌++◌, reverse, Some}
use Rattle.esc_base.specs.declared.tick.Tick.{Tick}
use Rattle.esc_base.specs.declared.note.Note.{Note}
use Rattle.esc_base.specs.declared.note.Note.TheVariants as note
use Rattle.esc_base.specs.Times.{timeout, least_throttle}
use Rattle.arming.specs.Throttle.{on_of}
use Rattle.arming.specs.ControlAt.{armed_at, newest_at}
use Rattle.arming.specs.Controlled.{owed, Lost, Controlled}

-- the newest good frame is throttle, stands after an A with no X since, and asks for at least this demand
abbrev pub IsAskedFor : ℕ → List Note → Type 0
IsAskedFor demand [] = ⊥
IsAskedFor demand (note.Good t v q ∷ back) = (least_throttle ≤ v) × ((armed_at back ≡ true) × (demand ≤ on_of v))
IsAskedFor demand (note.Lost t c ∷ back) = ⊥
IsAskedFor demand (n ∷ back) = IsAskedFor demand back

-- drive follows only frames checked since arming
abbrev pub DriveFollowsFrames : Type 0
DriveFollowsFrames =
    (before after : List Note) (t : Tick) (n s d : ℕ) → Controlled (before ++ note.Control t n s d ∷ after) → 0 < d → IsAskedFor d (reverse before)

-- no good frame stands in these notes, and only control ticks with numbers below the limit
abbrev pub IsSilentBelow : ℕ → List Note → Type 0
IsSilentBelow limit [] = Unit {0}
IsSilentBelow limit (note.Good t v q ∷ notes) = ⊥
IsSilentBelow limit (note.Control t n s d ∷ notes) = (n < limit) × IsSilentBelow limit notes
IsSilentBelow limit (n ∷ notes) = IsSilentBelow limit notes

abbrev pub IsTimeout : Note → Type 0
IsTimeout (note.Lost t c) = c ≡ 0
IsTimeout n = ⊥

-- the first of these notes, if there is one, is a timeout
abbrev pub IsFollowedByTimeout : List Note → Type 0
IsFollowedByTimeout [] = Unit {0}
IsFollowedByTimeout (n ∷ notes) = IsTimeout n

-- From any place that isn't between a K and the timeout that it owes: if no good frame comes, the first K that is `timeout`
-- control ticks or more past the newest good frame or timeout has demand 0, and the note right after it is a timeout.
abbrev pub SilenceEndsDrive : Type 0
SilenceEndsDrive =
    (before silence after : List Note) (t : Tick) (n s d : ℕ)
    → owed (reverse before) ≢ Some (Lost 0)
    → IsSilentBelow (newest_at (reverse before) + timeout) silence
    → newest_at (reverse before) + timeout ≤ n
    → Controlled (before ++ silence ++ note.Control t n s d ∷ after)
    → (d ≡ 0) × IsFollowedByTimeout after
