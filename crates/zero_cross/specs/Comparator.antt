-- The comparator over a trace: its level, and where it is steady.
use Rattle.std.specs.Prelude.{◌≡◌, ◌<◌, ◌≤◌, ℕ, Bool, false, not, ◌&&◌, nat_le, if◌then◌else◌, List, All}
use Rattle.std.specs.List.{fold}
use Rattle.esc_base.specs.declared.event.Event.{Event}
use Rattle.esc_base.specs.declared.event.Event.TheVariants as event
use Rattle.esc_base.specs.Trace.{differ}

-- the comparator's level, and the tick of its newest change, 0 for none
pub record Held : Type 0 where
  pub level : Bool
  pub since : ℕ

-- an event at t, if it counts, gives this level; an equal one again is no change
abbrev pub held_to : Bool → ℕ → Held → Bool → Held
held_to counts t h level = if counts && differ h.level level then record { level = level; since = t } else h

-- of the events those up to tick u count
abbrev pub held_next : ℕ → Held → Event → Held
held_next u h (event.Comp t level) = held_to (nat_le t.0 u) t.0 h level
held_next u h (event.Edge t level) = h
held_next u h (event.Serial t byte) = h
held_next u h (event.Stall t n) = h

-- the comparator at tick u; its level is 0 at the start
unfoldable pub held : List Event → ℕ → Held
held trace u = fold (held_next u) (record { level = false; since = 0 }) trace

-- an event after a and up to b leaves the comparator at this level
abbrev pub HasLevel : Bool → ℕ → ℕ → Event → Type 0
HasLevel v a b (event.Comp t level) = a < t.0 → t.0 ≤ b → level ≡ v
HasLevel v a b e = Unit {0}

-- the comparator is steady at this level on [a, b]: it has it at a, and no event up to b takes it away
abbrev pub Steady : List Event → Bool → ℕ → ℕ → Type 0
Steady trace v a b = ((held trace a).level ≡ v) × All (HasLevel v a b) trace

-- the same by the newest change up to b, for the comparator at b
abbrev pub is_steady : Held → Bool → ℕ → Bool
is_steady h v a = not (differ h.level v) && nat_le h.since a
