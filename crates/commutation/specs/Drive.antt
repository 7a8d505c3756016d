-- A drive at a place of a journal, from the notes before that place, the newest first. Nothing is kept: each definition looks
-- back. In a journal's lines K is a control tick with its demand, Q a sector change and Z an accepted zero crossing.
use Rattle.std.specs.Prelude.{◌≡◌, ℕ, Bool, true, ◌&&◌, ◌==◌, nat_lt, if◌then◌else◌, List, [], ◌∷◌, take, Option, None}
use Rattle.esc_base.specs.declared.note.Note.{Note}
use Rattle.esc_base.specs.declared.note.Note.TheVariants as note
use Rattle.commutation.specs.Pace.{first_pace, paced, wait_of, Pace}
use Rattle.commutation.specs.Turns.{period_of}
use Rattle.commutation.specs.Kept.{Kept}

-- no drive: the newest K has demand 0, or there is none
abbrev pub rests_at : List Note → Bool
rests_at [] = true
rests_at (note.Control t n s d ∷ back) = d == 0
rests_at (n ∷ back) = rests_at back

-- a K with this demand starts a drive here
abbrev pub starts : ℕ → List Note → Bool
starts d back = nat_lt 0 d && rests_at back

-- the interval between crossings, and the newest crossing since the start of the drive
abbrev pub pace_at : List Note → Pace
pace_at [] = first_pace
pace_at (note.Control t n s d ∷ back) = if starts d back then first_pace else pace_at back
pace_at (note.Cross t ∷ back) = paced (pace_at back) t
pace_at (n ∷ back) = pace_at back

abbrev pub interval_at : List Note → ℕ
interval_at back = (pace_at back).interval

abbrev pub wait_at : ℕ → List Note → ℕ
wait_at advance back = wait_of advance (interval_at back)

-- the ticks of all Q since the start of the drive, the newest first
abbrev pub turns_at : List Note → List ℕ
turns_at [] = []
turns_at (note.Control t n s d ∷ back) = if starts d back then [] else turns_at back
turns_at (note.Step t s ∷ back) = t.0 ∷ turns_at back
turns_at (n ∷ back) = turns_at back

-- the electrical period in microseconds: the newest Q's tick less that of the sixth before it; none outside a drive, and none
-- with fewer than seven Q since its start
abbrev pub period_at : List Note → Option ℕ
period_at back = if rests_at back then None else period_of (turns_at back)

-- what a timing keeps is what these notes say
pub record Timed (c : Kept) (back : List Note) : Type 0 where
  pub pace_is : c.pace ≡ pace_at back
  pub turns_are : c.turns ≡ take 7 (turns_at back)
