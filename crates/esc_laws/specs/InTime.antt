-- What events and turns ask of time.
use Rattle.std.specs.Prelude.{◌≤◌, ◌+◌, ℕ, List, [], ◌∷◌}
use Rattle.esc_base.specs.declared.event.Event.{Event}
use Rattle.esc_base.specs.declared.note.Note.{Note}
use Rattle.esc_base.specs.declared.note.Note.TheVariants as note
use Rattle.esc_base.specs.Trace.{tick_of}
use Rattle.commutation.specs.Sectors.{low_of}
use Rattle.gate_driver.specs.DeadSafe.{high_free_at}

-- the events' ticks don't fall, and none is below this one
abbrev pub IsInTime : ℕ → List Event → Type 0
IsInTime t [] = Unit {0}
IsInTime t (e ∷ trace) = (t ≤ tick_of e) × IsInTime (tick_of e) trace

-- at a Q the high switch of the new pair's low leg has been off for 8 ticks at least
abbrev pub TurnWaits : List Note → Note → Type 0
TurnWaits back (note.Step t s) = high_free_at (low_of s) back ≤ t.0 + 40
TurnWaits back n = Unit {0}
