-- The dead time in a journal, each place by the notes before it, the newest first. A G is a change of the gate word.
use Rattle.std.specs.Prelude.{◌≡◌, ◌≤◌, ◌+◌, ℕ, true, false, ◌&&◌, ◌==◌, if◌then◌else◌, List, [], ◌∷◌, reverse}
use Rattle.esc_base.specs.declared.gate.Leg.{Leg}
use Rattle.esc_base.specs.declared.note.Note.{Note}
use Rattle.esc_base.specs.declared.note.Note.TheVariants as note
use Rattle.esc_base.specs.Journal.{Each}
use Rattle.esc_base.specs.Legs.{is_on, IsApart}
use Rattle.esc_base.specs.Numbers.{as_tick}
use Rattle.esc_base.specs.Times.{dead_time}
use Rattle.gate_driver.specs.Gated.{Gated, went_off, at_leg}

-- the word of the high switches that are on, and that of the low ones
abbrev pub high_at : List Note → ℕ
high_at [] = 0
high_at (note.Gate t hi lo ∷ back) = hi
high_at (n ∷ back) = high_at back

abbrev pub low_at : List Note → ℕ
low_at [] = 0
low_at (note.Gate t hi lo ∷ back) = lo
low_at (n ∷ back) = low_at back

-- the tick from which on the high switch of a leg no longer keeps the low one off: 48 after it last went off, 0 if it never did
abbrev pub high_free_at : Leg → List Note → ℕ
high_free_at x [] = 0
high_free_at x (note.Gate t hi lo ∷ back) = if went_off (high_at back) hi x then t.0 + dead_time else high_free_at x back
high_free_at x (n ∷ back) = high_free_at x back

-- the tick from which on the low switch of a leg no longer keeps the high one off
abbrev pub low_free_at : Leg → List Note → ℕ
low_free_at x [] = 0
low_free_at x (note.Gate t hi lo ∷ back) = if went_off (low_at back) lo x then t.0 + dead_time else low_free_at x back
low_free_at x (n ∷ back) = low_free_at x back

-- A G has another word than before and no leg with both switches on, and where it turns a switch on, the other one of its
-- leg has never been on, or last went off 48 ticks before or earlier; one that goes off in this very G went off now.
pub record GateSafe (back : List Note) (t hi lo : ℕ) (now : List Note) : Type 0 where
  pub other_word : ((hi == high_at back) && (lo == low_at back)) ≡ false
  pub apart : IsApart hi lo
  pub high_waits : (x : Leg) → is_on hi x ≡ true → is_on (high_at back) x ≡ false → low_free_at x now ≤ t
  pub low_waits : (x : Leg) → is_on lo x ≡ true → is_on (low_at back) x ≡ false → high_free_at x now ≤ t

-- a G keeps the dead time
abbrev pub IsSafe : List Note → Note → Type 0
IsSafe back (note.Gate t hi lo) = GateSafe back t.0 hi lo (note.Gate t hi lo ∷ back)
IsSafe back n = Unit {0}

-- each G of a journal does
abbrev pub DeadSafe : List Note → Type 0
DeadSafe notes = Each (λ before n. IsSafe (reverse before) n) [] notes

-- ---- what is kept, and what the notes say

-- the notes say that these switches are on, and when each went off
pub record IsTied (g : Gated) (hi lo : ℕ) (back : List Note) : Type 0 where
  pub hi_is : high_at back ≡ hi
  pub lo_is : low_at back ≡ lo
  pub hi_free : (x : Leg) → high_free_at x back ≡ at_leg g.hi_free x
  pub lo_free : (x : Leg) → low_free_at x back ≡ at_leg g.lo_free x

-- the notes after a step at t that leaves this word: a G where it is another one than before
abbrev pub with_gate : List Note → ℕ → ℕ → ℕ → List Note
with_gate back t hi lo = if (hi == high_at back) && (lo == low_at back) then back else note.Gate (as_tick t) hi lo ∷ back
