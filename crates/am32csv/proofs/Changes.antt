-- The changes of the line that were written, one by one.
use Rattle.std.proofs.Common.{◌≡◌, ℕ, Bool, true, false, not, List, [], ◌∷◌, ◌++◌, Option, refl, sym, ◌∙◌, ap}
use mathlib.Core.Bool.{beq}
use Rattle.esc_base.specs.declared.tick.Tick.{Tick}
use Rattle.esc_base.specs.declared.event.Event.{Event}
use Rattle.esc_base.specs.declared.event.Event.TheVariants as event
use Rattle.trace_tools.specs.Written.{HasWritten}
use Rattle.am32csv.specs.declared.capture.Capture.{Capture}
use Rattle.am32csv.specs.Captured.{AreChanges, level_behind, Keeps, GoesOn}

changes_more : (level : Bool) (events : List Event) (t : Tick) (changed : Bool) → AreChanges level events → changed ≡ not (level_behind level events)
    → AreChanges level (events ++ event.Edge t changed ∷ [])
changes_more level [] t changed h e = (e, tt)
changes_more level (event.Edge u l ∷ events) t changed h e = (h.0, changes_more l events t changed h.1 e)
changes_more level (event.Comp u l ∷ events) t changed h e = absurd h
changes_more level (event.Serial u b ∷ events) t changed h e = absurd h
changes_more level (event.Stall u n ∷ events) t changed h e = absurd h

level_more : (level : Bool) (events : List Event) (t : Tick) (changed : Bool) → level_behind level (events ++ event.Edge t changed ∷ []) ≡ changed
level_more level [] t changed = refl
level_more level (event.Edge u l ∷ events) t changed = level_more l events t changed
level_more level (event.Comp u l ∷ events) t changed = level_more level events t changed
level_more level (event.Serial u b ∷ events) t changed = level_more level events t changed
level_more level (event.Stall u n ∷ events) t changed = level_more level events t changed

pub nothing_yet : (c : Capture) (given : Option (List ℕ)) → HasWritten c.writer given given [] → c.written ≡ false → Keeps c given given
nothing_yet c given w low = record { events = []; written = w; changes = tt; level = low }

-- a change was written
pub one_change : (c d : Capture) (a b : Option (List ℕ)) (t : Tick) (level : Bool)
    → ((first : Option (List ℕ)) (events : List Event) → HasWritten c.writer first a events → HasWritten d.writer first b (events ++ event.Edge t level ∷ []))
    → level ≡ not c.written → d.written ≡ level → GoesOn c a d b
one_change c d a b t level w other same first k = record {
  events = k.events ++ event.Edge t level ∷ [];
  written = w first k.events k.written;
  changes = changes_more false k.events t level k.changes (other ∙ ap not k.level);
  level = same ∙ sym (level_more false k.events t level);
}

pub other_level : (a b : Bool) → beq a b ≡ false → a ≡ not b
other_level true true h = cc
other_level true false h = refl
other_level false true h = refl
other_level false false h = cc
