-- What a flight has written.
use Rattle.std.specs.Prelude.{◌≡◌, ◌≤◌, ℕ, Bool, true, false, List, [], ◌∷◌, ◌++◌, Option, Some, None, All}
use Rattle.esc_base.specs.declared.signal.Edge.{Edge}
use Rattle.esc_base.specs.declared.event.Event.{Event}
use Rattle.esc_base.specs.declared.event.Event.TheVariants as event
use Rattle.trace_tools.specs.declared.writer.Writer.{Writer}
use Rattle.trace_tools.specs.Written.{HasWritten, IsTrace}
use Rattle.am32trace.specs.declared.signal_line.SignalLine.{SignalLine}
use Rattle.am32trace.specs.declared.flight.Flight.{Flight}
use Rattle.am32trace.specs.declared.flight.Planned.{Planned}
use Rattle.am32trace.specs.declared.flight.Planned.TheVariants as planned
use Rattle.esc_base.specs.Trace.{tick_of}
use Rattle.am32trace.specs.declared.action.Directive.{Directive}
use Rattle.am32trace.specs.declared.action.Directive.TheVariants as line
use Rattle.esc_base.specs.declared.tick.Tick.{Tick}
use Rattle.am32trace.specs.Frames.{IsFrom}
use Rattle.am32trace.specs.Asked.{Due, Sender, asked_by, due_before, no_signal}
use Rattle.std.specs.Option.{option_to_list}
use Rattle.am32trace.specs.Script.{IsScript}
use Rattle.am32trace.specs.Line.{Transmission, IsHeard, all_edges, messages_of, pending, next_edge, sender_of, sender_after, due_now, Begins, IsWell}

-- what the events say of the signal line, in their order
unfoldable pub edges_in : List Event → List Edge
edges_in [] = []
edges_in (event.Edge t level ∷ events) = record { t = t; level = level } ∷ edges_in events
edges_in (event.Comp t level ∷ events) = edges_in events
edges_in (event.Serial t byte ∷ events) = edges_in events
edges_in (event.Stall t n ∷ events) = edges_in events

-- ---- the whole flight

-- A trace that the reader accepts was appended. Its edges are those of some transmissions, one after the other, but for those of
-- the last one that come at its end or later. Each of them that is a frame as it should be is heard as that frame. The messages among them are
-- these, no fewer and no more.
pub record IsFlight (first now : Option (List ℕ)) (due : List Due) (end : ℕ) : Type 0 where
  pub events : List Event
  pub log : List Transmission
  pub cut_off : List Edge
  pub accepted : IsTrace first now events end
  pub edges : edges_in events ++ cut_off ≡ all_edges log
  pub cut_later : All (IsFrom end) cut_off
  pub heard : All IsHeard log
  pub messages : messages_of log ≡ due

-- the messages are those that a script's lines ask for, of which the last one that says anything ends the trace
pub record IsFlown (says : List ℕ → Option Directive → Type 0) (left first now : Option (List ℕ)) : Type 0 where
  pub lines : List Directive
  pub end : Tick
  pub script : IsScript says left (lines ++ line.End end ∷ [])
  pub flight : IsFlight first now (asked_by no_signal (lines ++ line.End end ∷ [])) end.0

-- ---- a flight on its way

-- the same up to here; what the line still has of the last transmission is to come
pub record Keeps (f : Flight) (first now : Option (List ℕ)) (due : List Due) : Type 0 where
  pub events : List Event
  pub log : List Transmission
  pub written : HasWritten f.writer first now events
  pub edges : edges_in events ++ pending f.signal ≡ all_edges log
  pub heard : All IsHeard log
  pub messages : messages_of log ≡ due

-- these messages have begun, and the sender is this one now
pub record GoesOn (f : Flight) (before : Option (List ℕ)) (g : Flight) (after : Option (List ℕ)) (due : List Due) (sender : Sender) : Type 0 where
  pub keeps : (first : Option (List ℕ)) (sent : List Due) → Keeps f first before sent → Keeps g first after (sent ++ due)
  pub well : IsWell g.signal
  pub is : sender_of g.signal ≡ sender

abbrev pub Ends : Flight → Option (List ℕ) → Option (List ℕ) → List Due → ℕ → Type 0
Ends f before after due end = (first : Option (List ℕ)) (sent : List Due) → Keeps f first before sent → IsFlight first after (sent ++ due) end

-- the messages are those that a line asks for, if anything
pub record Follows (asked : Option Directive) (f : Flight) (before : Option (List ℕ)) (g : Flight) (after : Option (List ℕ)) : Type 0 where
  pub due : List Due
  pub goes_on : GoesOn f before g after due (sender_of g.signal)
  pub adds : (more : List Directive) → asked_by (sender_of f.signal) (option_to_list asked ++ more) ≡ due ++ asked_by (sender_of g.signal) more

-- it is a line that ends the trace
pub record IsLast (asked : Option Directive) (f : Flight) (before after : Option (List ℕ)) : Type 0 where
  pub end : Tick
  pub is : asked ≡ Some (line.End end)
  pub ends : Ends f before after (due_before (sender_of f.signal) end.0) end.0

-- a line of a script was followed, and the flight has ended or not
abbrev pub Followed : Bool → Option Directive → Flight → Option (List ℕ) → Flight → Option (List ℕ) → Type 0
Followed true asked f before g after = IsLast asked f before after
Followed false asked f before g after = Follows asked f before g after

-- one event was written
abbrev pub Writes : Writer → Option (List ℕ) → Event → Writer → Option (List ℕ) → Type 0
Writes w before e x after = (first : Option (List ℕ)) (events : List Event) → HasWritten w first before events → HasWritten x first after (events ++ e ∷ [])

-- nothing was written, and some transmissions may have begun
pub record Sets (f g : Flight) (due : List Due) (sender : Sender) : Type 0 where
  pub writer : g.writer ≡ f.writer
  pub begins : Begins (pending f.signal) (pending g.signal) due
  pub well : IsWell g.signal
  pub is : sender_of g.signal ≡ sender

-- ---- planned events

abbrev pub event_of : Planned → Event
event_of (planned.Signal e) = event.Edge e.t e.level
event_of (planned.Comparator t level) = event.Comp t level
event_of (planned.Serial t byte) = event.Serial t byte

-- an edge that is planned is the signal line's next one
abbrev pub IsPlanned : SignalLine → Planned → Type 0
IsPlanned l (planned.Signal e) = next_edge l ≡ Some e
IsPlanned l (planned.Comparator t level) = Unit {0}
IsPlanned l (planned.Serial t byte) = Unit {0}

-- no edge of the signal line comes before what is planned
abbrev pub NoneBefore : Option Planned → Option Edge → Type 0
NoneBefore p None = Unit {0}
NoneBefore None (Some e) = ⊥
NoneBefore (Some p) (Some e) = tick_of (event_of p) ≤ e.t.0

abbrev pub NotLater : Option Planned → Option Planned → Type 0
NotLater p None = Unit {0}
NotLater None (Some q) = ⊥
NotLater (Some p) (Some q) = tick_of (event_of p) ≤ tick_of (event_of q)

-- the signal line's next edge, if there is one, comes at t or later
abbrev pub IsReached : ℕ → Option Edge → Type 0
IsReached t None = Unit {0}
IsReached t (Some e) = t ≤ e.t.0

abbrev pub due_with : SignalLine → Planned → List Due
due_with l (planned.Signal e) = due_now l
due_with l (planned.Comparator t level) = []
due_with l (planned.Serial t byte) = []

abbrev pub sender_with : SignalLine → Planned → Sender
sender_with l (planned.Signal e) = sender_after l
sender_with l (planned.Comparator t level) = sender_of l
sender_with l (planned.Serial t byte) = sender_of l
