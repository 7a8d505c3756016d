-- A law, or what a law is said with: what `Legal` means rests on this.
-- The search for a sector's crossing: what the activations of CMP after a Q have to bring, and how many of them there may be.
use Rattle.std.specs.Prelude.{◌≡◌, ◌<◌, ℕ, ◌+◌, max, Bool, true, false, not, ◌&&◌, ◌||◌, ◌==◌, if◌then◌else◌, nat_le, List, [], ◌∷◌, reverse, Option, Some, None}
use Rattle.esc_base.specs.declared.event.Event.{Event}
use Rattle.esc_base.specs.declared.note.Note.{Note}
use Rattle.esc_base.specs.declared.note.Note.TheVariants as note
use Rattle.esc_base.specs.Journal.{Each}
use Rattle.esc_base.specs.Times.{rejected_blanking}
use Rattle.esc_base.specs.Trace.{differ}
use Rattle.commutation.specs.Commutated.{Turn, Turned, turn_at}
use Rattle.zero_cross.specs.Comparator.{Held, held, Steady, is_steady}
use Rattle.esc_laws.specs.Crossed.{blanked_at, expects_at}

-- how far the two activations of CMP after a Q have come
pub data Sight : Type 0 where
  -- nothing is claimed: no Q stands since the newest K with demand 0, or CMP was open at it, or both activations are over
  Away : Sight
  -- a Q, whose activation is open
  Begun : Sight
  -- the first activation is called for from this tick on
  Awaits : ℕ → Sight
  -- the first one is open, entered at this tick
  First : ℕ → Sight
  -- it is over; from the second tick on the second one is called for, while the comparator is steady at the expected level
  -- from the first tick on, at which the first one was entered
  Settles : ℕ → ℕ → Sight
  -- the second one is open: the tick at which the first one was entered, and whether a Z stands in the second
  Second : ℕ → Bool → Sight

-- CMP is entered at t, or returns
abbrev pub sight_entered : Sight → ℕ → Sight
sight_entered (Awaits u) t = First t
sight_entered (Settles i u) t = Second i false
sight_entered s t = s

abbrev pub sight_left : Sight → ℕ → Sight
sight_left (First i) t = Settles i (t + 24)
sight_left (Second i z) t = Away
sight_left s t = s

-- COMM returns at t; blanking ends at this tick
abbrev pub sight_begun : Sight → ℕ → ℕ → Sight
sight_begun Begun blanked t = Awaits (max blanked t)
sight_begun s blanked t = s

abbrev pub sight_crossed : Sight → Sight
sight_crossed (Second i z) = Second i true
sight_crossed s = s

abbrev pub cmp_open_at : List Note → Bool
cmp_open_at [] = false
cmp_open_at (note.Enter t k ∷ back) = k == 4 || cmp_open_at back
cmp_open_at (note.Leave t k ∷ back) = not (k == 4) && cmp_open_at back
cmp_open_at (n ∷ back) = cmp_open_at back

abbrev pub sight_at : List Note → Sight
sight_at [] = Away
sight_at (note.Enter t k ∷ back) = if k == 4 then sight_entered (sight_at back) t.0 else sight_at back
sight_at (note.Leave t k ∷ back) =
    if k == 4 then sight_left (sight_at back) t.0 else if k == 6 then sight_begun (sight_at back) (blanked_at back) t.0 else sight_at back
sight_at (note.Control t n s d ∷ back) = if d == 0 then Away else sight_at back
sight_at (note.Step t s ∷ back) = if cmp_open_at back then Away else Begun
sight_at (note.Cross t ∷ back) = sight_crossed (sight_at back)
sight_at (n ∷ back) = sight_at back

-- CMP is called for after a Q: first when blanking is over and the Q's activation has returned; and then 24 ticks after the
-- return of the first activation, while the comparator is steady at the expected level from the first one's entry on
abbrev pub calls_cmp : Held → Bool → Sight → ℕ → Bool
calls_cmp h expects (Awaits u) t = nat_le u t
calls_cmp h expects (Settles i u) t = nat_le u t && is_steady h expects i
calls_cmp h expects s t = false

-- an activation of CMP is open that was entered behind the newest Q
abbrev pub is_looking : List Note → Bool
is_looking [] = false
is_looking (note.Enter t k ∷ back) = k == 4 || is_looking back
is_looking (note.Leave t k ∷ back) = not (k == 4) && is_looking back
is_looking (note.Step t s ∷ back) = false
is_looking (n ∷ back) = is_looking back

-- the tick at which the newest such activation returned
abbrev pub looked_at : List Note → Option ℕ
looked_at [] = None
looked_at (note.Leave t k ∷ back) = if k == 4 && is_looking back then Some t.0 else looked_at back
looked_at (note.Step t s ∷ back) = None
looked_at (n ∷ back) = looked_at back

-- so long after it
abbrev pub is_over : Option ℕ → ℕ → Bool
is_over None t = false
is_over (Some o) t = nat_le (o + rejected_blanking) t

-- the newest sector has no Z
abbrev pub awaits_crossing : Turn → Bool
awaits_crossing (Turned q) = true
awaits_crossing turn = false

-- And each change of the comparator is heard: while a sector has no Z, from 400 ticks after the return of CMP's newest activation
-- on CMP is called for wherever the comparator has the expected level.
abbrev pub calls_watch : Held → Bool → List Note → ℕ → Bool
calls_watch h expects back t = awaits_crossing (turn_at back) && (is_over (looked_at back) t && not (differ h.level expects))

-- a Z stands in the second activation after a Q that returns at t, where the comparator was steady at the expected level from
-- the entry of the first one on
abbrev pub HasCrossed : List Event → Bool → Sight → ℕ → Type 0
HasCrossed trace expects (Second i z) t = Steady trace expects i t → z ≡ true
HasCrossed trace expects s t = Unit {0}

-- how many I of CMP stand since the newest Q, at or after the tick of the comparator's newest change
abbrev pub quiet_at : ℕ → List Note → ℕ
quiet_at since [] = 0
quiet_at since (note.Step t s ∷ back) = 0
quiet_at since (note.Enter t k ∷ back) = if k == 4 then (if nat_le since t.0 then quiet_at since back + 1 else 0) else quiet_at since back
quiet_at since (n ∷ back) = quiet_at since back

-- Of five I of CMP in a row, a Q stands between the first and the fifth, or the comparator changes after the first one and up
-- to the fifth. And CMP returns with a Z where one is owed.
abbrev pub SearchRule : List Event → (List Note → Bool) → List Note → Note → Type 0
SearchRule trace forward back (note.Enter t k) = k ≡ 4 → quiet_at (held trace t.0).since back < 4
SearchRule trace forward back (note.Leave t k) = k ≡ 4 → HasCrossed trace (expects_at forward back) (sight_at back) t.0
SearchRule trace forward back n = Unit {0}

abbrev pub Searched : List Event → (List Note → Bool) → List Note → Type 0
Searched trace forward notes = Each (λ before n. SearchRule trace forward (reverse before) n) [] notes
