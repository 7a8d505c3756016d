-- When a sector may change, and to which one. In a journal's lines Q is a sector change, Z an accepted zero crossing and K a control
-- tick with its demand.
use Rattle.std.specs.Prelude.{◌≡◌, ◌≤◌, ℕ, ◌+◌, ◌-◌, Bool, true, false, not, ◌&&◌, ◌||◌, ◌==◌, nat_le, if◌then◌else◌, List, [], ◌∷◌, reverse}
use Rattle.esc_base.specs.declared.note.Note.{Note}
use Rattle.esc_base.specs.declared.note.Note.TheVariants as note
use Rattle.esc_base.specs.Journal.{Each}
use Rattle.esc_base.specs.Times.{forced_limit, stuck_changes}
use Rattle.commutation.specs.Sectors.{next_sector}
use Rattle.commutation.specs.Pace.{wait_of}
use Rattle.commutation.specs.Drive.{interval_at, rests_at, starts}

-- the sector of the newest Q, 0 before any
abbrev pub sector_at : List Note → ℕ
sector_at [] = 0
sector_at (note.Step t s ∷ back) = s
sector_at (n ∷ back) = sector_at back

-- how far a drive has come: there is none; it has no Q yet; its newest Q is at this tick, with no Z after it; and with a Z after it,
-- at the second tick
pub data Turn : Type 0 where
  Idle : Turn
  Started : Turn
  Turned : ℕ → Turn
  Crossed : ℕ → ℕ → Turn

abbrev pub crossed_by : Turn → ℕ → Turn
crossed_by (Turned q) z = Crossed q z
crossed_by turn z = turn

abbrev pub turn_at : List Note → Turn
turn_at [] = Idle
turn_at (note.Control t n s d ∷ back) = if d == 0 then Idle else if rests_at back then Started else turn_at back
turn_at (note.Step t s ∷ back) = Turned t.0
turn_at (note.Cross t ∷ back) = crossed_by (turn_at back) t.0
turn_at (n ∷ back) = turn_at back

-- a Q may come at t: at any tick as the first one of a drive; else no earlier than the wait after the Z since the Q before, or by
-- force `forced_limit` after that Q, where there is no such Z
abbrev pub MayTurn : ℕ → ℕ → Turn → ℕ → Type 0
MayTurn advance interval Idle t = ⊥
MayTurn advance interval Started t = Unit {0}
MayTurn advance interval (Turned q) t = q + forced_limit ≤ t
MayTurn advance interval (Crossed q z) t = z + wait_of advance interval ≤ t

-- a Q fits the notes before it, with the direction at its place: its sector is the next one, and its time has come
pub record IsTurn (advance : ℕ) (forward : Bool) (back : List Note) (t s : ℕ) : Type 0 where
  pub sector : s ≡ next_sector (sector_at back) forward
  pub time : MayTurn advance (interval_at back) (turn_at back) t

abbrev pub TurnRule : ℕ → (List Note → Bool) → List Note → Note → Type 0
TurnRule advance forward back (note.Step t s) = IsTurn advance (forward back) back t.0 s
TurnRule advance forward back n = Unit {0}

-- each Q of a journal fits the notes before it; `forward` is the direction at a place, by the notes before it, the newest first
abbrev pub Commutated : ℕ → (List Note → Bool) → List Note → Type 0
Commutated advance forward notes = Each (λ before n. TurnRule advance forward (reverse before) n) [] notes

-- a Q here is forced: no Z stands since the Q before it
abbrev pub is_forced : Turn → Bool
is_forced (Turned q) = true
is_forced turn = false

-- how many of the newest Q in a row were forced; a Z ends the row, and so does the start of a drive
abbrev pub forced_at : List Note → ℕ
forced_at [] = 0
forced_at (note.Control t n s d ∷ back) = if starts d back then 0 else forced_at back
forced_at (note.Cross t ∷ back) = 0
forced_at (note.Step t s ∷ back) = if is_forced (turn_at back) then forced_at back + 1 else 0
forced_at (n ∷ back) = forced_at back

-- `stuck_changes` forced Q stood in a row since the newest K with demand 0, which a later Z doesn't take back
abbrev pub stuck_at : List Note → Bool
stuck_at [] = false
stuck_at (note.Control t n s d ∷ back) = not (d == 0) && stuck_at back
stuck_at (note.Step t s ∷ back) = stuck_at back || (is_forced (turn_at back) && nat_le (stuck_changes - 1) (forced_at back))
stuck_at (n ∷ back) = stuck_at back
