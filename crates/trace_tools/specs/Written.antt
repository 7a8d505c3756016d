-- What a writer has written, and that the simulator's reader accepts it.
use Rattle.std.specs.Prelude.{◌≡◌, ℕ, ◌<◌, List, ◌++◌, Option, codes}
use Rattle.std.specs.Fmt.{decimal}
use Rattle.std.specs.Io.KnownBytes.{append_known}
use Rattle.esc_base.specs.declared.event.Event.{Event}
use Rattle.esc_base.specs.declared.event.Event.TheVariants as event
use Rattle.trace_text.specs.Read.{Read, Trace, read_from}
use Rattle.trace_text.specs.Ahead.{with_events}
use Rattle.trace_tools.specs.declared.writer.Writer.{Writer}

-- the END line
abbrev pub end_bytes : ℕ → List ℕ
end_bytes t = decimal t ++ codes " END\n"

-- a serial byte is one
abbrev pub IsByte : Event → Type 0
IsByte (event.Edge t level) = Unit {0}
IsByte (event.Comp t level) = Unit {0}
IsByte (event.Serial t byte) = byte < 256
IsByte (event.Stall t n) = Unit {0}

-- To what a sink was given at first a text was appended. Its events are these, and whatever stands behind it is read from the
-- place at which the writer is.
pub record HasWritten (w : Writer) (first now : Option (List ℕ)) (events : List Event) : Type 0 where
  pub text : List ℕ
  pub appended : now ≡ append_known first text
  pub goes_on : (more : List ℕ) → Read (text ++ more) ≡ with_events events (read_from w.place more)

-- a whole trace was appended, with these events and this end
pub record IsTrace (first now : Option (List ℕ)) (events : List Event) (end : ℕ) : Type 0 where
  pub text : List ℕ
  pub appended : now ≡ append_known first text
  pub accepted : Read text ≡ Trace events end
