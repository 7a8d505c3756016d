-- Why an event, or the end, isn't written.
use Rattle.std.specs.Prelude.{◌≡◌, ◌<◌, ◌≤◌, ◌⊎◌, ℕ, true}
use Rattle.esc_base.specs.declared.event.Event.{Event}
use Rattle.esc_base.specs.declared.event.Event.TheVariants as event
use Rattle.esc_base.specs.Trace.{tick_of}
use Rattle.trace_text.specs.declared.item.Place.{Place}
use Rattle.trace_text.specs.Line.{soon_after}
use Rattle.trace_tools.specs.declared.writer.Unwritten.{Unwritten}
use Rattle.trace_tools.specs.declared.writer.Unwritten.TheVariants as why

-- a serial byte less than 20000 ticks after the one before
abbrev pub IsTooClose : Place → Event → Type 0
IsTooClose p (event.Serial t byte) = soon_after p.serial t ≡ true
IsTooClose p e = ⊥

-- a stall that isn't of 1 to 16777216 ticks
abbrev pub IsBadStall : Event → Type 0
IsBadStall (event.Stall t n) = (n < 1) ⊎ (16777216 < n)
IsBadStall e = ⊥

-- why an event may not follow at a place
abbrev pub IsUnfit : Place → Event → Unwritten → Type 0
IsUnfit p e why.TimeBack = tick_of e < p.time.0
IsUnfit p e why.TooLate = 1073741824 < tick_of e
IsUnfit p e why.TooClose = IsTooClose p e
IsUnfit p e why.BadStall = IsBadStall e
IsUnfit p e why.TooMany = 16777215 ≤ p.line
IsUnfit p e why.Sink = ⊥

-- why it isn't written: the sink failed, or it may not follow
abbrev pub IsCause : Type 0 → Place → Event → Unwritten → Type 0
IsCause failed p e why.Sink = failed
IsCause failed p e w = IsUnfit p e w

-- why an end at t isn't written
abbrev pub IsEndCause : Type 0 → Place → ℕ → Unwritten → Type 0
IsEndCause failed p t why.Sink = failed
IsEndCause failed p t why.TimeBack = t < p.time.0
IsEndCause failed p t why.TooLate = 1073741824 < t
IsEndCause failed p t w = ⊥
