-- Only switches of the newest sector's pair are on (as `Driven` says), and at a change of sector the new pair's low leg is nearly free.
use Rattle.std.specs.Prelude.{◌≡◌, ◌≤◌, ◌<◌, ◌+◌, ◌-◌, ℕ, true, List, [], ◌∷◌}
use Rattle.esc_base.specs.Times.{pwm_period, dead_time}
use Rattle.esc_base.specs.declared.gate.Leg.{Leg}
use Rattle.esc_base.specs.declared.note.Note.{Note}
use Rattle.esc_base.specs.Legs.{is_on}
use Rattle.commutation.specs.Sectors.{high_of, low_of}
use Rattle.esc_base.specs.declared.note.Note.TheVariants as note
use Rattle.esc_laws.specs.Steps.{Turned}
use Rattle.esc_chopping.specs.View.{View, view, told_by, moved_by, by_of}
use Rattle.gate_driver.specs.Gated.{at_leg}

-- the switches that are on are in the pair of the newest Q; before any Q none is on
pub record InPair (v : View) : Type 0 where
  pub high : (x : Leg) → is_on v.hi x ≡ true → (high_of v.sector ≡ x) × (0 < v.sector)
  pub low : (x : Leg) → is_on v.lo x ≡ true → (low_of v.sector ≡ x) × (0 < v.sector)
  pub sector : v.sector ≤ 6

-- at a Q the high switch of the new pair's low leg has been off for 8 ticks
abbrev pub NoteFits : View → Note → Type 0
NoteFits v (note.Step t s) = (at_leg v.hi_free (low_of s) ≤ t.0 + (dead_time - 8)) × (0 < s)
NoteFits v n = Unit {0}

-- at each note of a step
abbrev pub EachNote : View → List Note → Type 0
EachNote v [] = Unit {0}
EachNote v (n ∷ notes) = NoteFits v n × InPair (told_by v n) × EachNote (told_by v n) notes

abbrev pub PairFits : List Turned → Turned → Type 0
PairFits before e = EachNote (moved_by (view before) (by_of e) e.tick) e.notes

-- a step's notes stand at its tick
abbrev pub AllAt : ℕ → List Note → Type 0
AllAt t [] = Unit {0}
AllAt t (note.Step u s ∷ notes) = (u.0 ≡ t) × AllAt t notes
AllAt t (n ∷ notes) = AllAt t notes

abbrev pub TimesFit : List Turned → Turned → Type 0
TimesFit before e = AllAt e.tick e.notes

-- none of these is a Q
abbrev pub NoSteps : List Note → Type 0
NoSteps [] = Unit {0}
NoSteps (note.Step u s ∷ notes) = ⊥
NoSteps (n ∷ notes) = NoSteps notes

abbrev pub NoStep : ℕ → List Turned → Turned → Type 0
NoStep p before e = p ≤ e.tick → e.tick < p + pwm_period → NoSteps e.notes
