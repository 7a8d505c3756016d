-- What is on the signal line, and what was sent on it.
use Rattle.std.specs.Prelude.{◌≡◌, ℕ, ◌+◌, ◌≤◌, ◌<◌, false, List, [], ◌∷◌, ◌++◌, length, Option, Some, None, IfSome, slice_get, flat_map, All}
use Rattle.esc_base.specs.declared.signal.Edge.{Edge}
use Rattle.esc_base.specs.declared.signal.Frame.{Frame}
use Rattle.esc_base.specs.declared.signal.Mode.{Mode}
use Rattle.dshot_frame.specs.Sent.{HasFrames}
use Rattle.am32trace.specs.declared.frame_out.Spoil.{Spoil}
use Rattle.am32trace.specs.declared.signal_line.SignalLine.{SignalLine}
use Rattle.am32trace.specs.declared.signal_line.Sending.{Sending}
use Rattle.am32trace.specs.declared.signal_line.Sending.TheVariants as sending
use Rattle.am32trace.specs.declared.signal_line.Repeated.{Repeated}
use Rattle.am32trace.specs.declared.signal_line.Message.{Message}
use Rattle.am32trace.specs.declared.signal_line.Message.TheVariants as message
use Rattle.am32trace.specs.Asked.{Due, FrameAt, SpoiltAt, PulseAt, LevelAt, Sender, due_of, delayed, IsRate}
use Rattle.am32trace.specs.Frames.{rest_of, first_edge, IsSent, IsSpoilt, IsBefore}

-- ---- what was sent: some edges at a time, in the order of their times
pub data Transmission : Type 0 where
  -- a frame as it should be, which began at this tick
  Sent : Mode → ℕ → Frame → List Edge → Transmission
  -- a frame with something wrong
  Spoiled : Mode → ℕ → Frame → Spoil → List Edge → Transmission
  -- a servo pulse: its first edge, and its width
  Pulse : Edge → ℕ → Transmission
  -- one edge of noise
  Noise : Edge → Transmission
  -- a level that the script asks for
  Level : Edge → Transmission

abbrev pub edges_of : Transmission → List Edge
edges_of (Sent m s frame edges) = edges
edges_of (Spoiled m s frame spoil edges) = edges
edges_of (Pulse e width) = e ∷ record { t = record { 0 = e.t.0 + width }; level = false } ∷ []
edges_of (Noise e) = e ∷ []
edges_of (Level e) = e ∷ []

-- a frame as it should be has the exact edges of its word, and its receiver hears that frame; a spoilt one has those edges but for
-- what is wrong
abbrev pub IsHeard : Transmission → Type 0
IsHeard (Sent m s frame edges) = HasFrames m → IsSent m s frame edges
IsHeard (Spoiled m s frame spoil edges) = HasFrames m → IsSpoilt m s frame spoil edges
IsHeard (Pulse e width) = Unit {0}
IsHeard (Noise e) = Unit {0}
IsHeard (Level e) = Unit {0}

abbrev pub all_edges : List Transmission → List Edge
all_edges log = flat_map edges_of log

-- what was asked for; an edge of noise is nothing of its own
abbrev pub asked_as : Transmission → List Due
asked_as (Sent m s frame edges) = FrameAt m s frame ∷ []
asked_as (Spoiled m s frame spoil edges) = SpoiltAt m s frame spoil ∷ []
asked_as (Pulse e width) = PulseAt e.t.0 width ∷ []
asked_as (Noise e) = []
asked_as (Level e) = LevelAt e.t.0 e.level ∷ []

abbrev pub messages_of : List Transmission → List Due
messages_of log = flat_map asked_as log

-- ---- what is on the line

-- the edges that it still has; each edge of noise is a transmission of its own
abbrev pub left_of : Sending → List Edge
left_of sending.Nothing = []
left_of (sending.Frame f) = rest_of f
left_of (sending.Pulse t) = record { t = t; level = false } ∷ []
left_of (sending.Noise n) = []

abbrev pub pending : SignalLine → List Edge
pending l = left_of l.sending

abbrev pub next_message : Mode → Option Repeated → Option Edge
next_message m None = None
next_message m (Some r) = Some (first_edge m r.next)

abbrev pub next_by : Sending → Mode → Option Repeated → Option Edge
next_by sending.Nothing m r = next_message m r
next_by (sending.Frame f) m r = slice_get (rest_of f) 0
next_by (sending.Pulse t) m r = Some (record { t = t; level = false })
next_by (sending.Noise n) m r = Some n.next

-- the next edge
abbrev pub next_edge : SignalLine → Option Edge
next_edge l = next_by l.sending l.mode l.repeated

-- ---- its sender

-- noise leaves out what would begin before its end
abbrev pub coming : ℕ → Sending → Option Repeated → Option Repeated
coming period sending.Nothing r = r
coming period (sending.Frame f) r = r
coming period (sending.Pulse t) r = r
coming period (sending.Noise n) r = delayed period n.until.0 r

abbrev pub sender_of : SignalLine → Sender
sender_of l = record { mode = l.mode; period = l.period; repeated = coming l.period l.sending l.repeated; spoil = l.spoil }

-- ---- messages don't overlap

-- what is on the line isn't over
abbrev pub IsOn : Sending → Type 0
IsOn sending.Nothing = Unit {0}
IsOn (sending.Frame f) = 0 < length (rest_of f)
IsOn (sending.Pulse t) = Unit {0}
IsOn (sending.Noise n) = (n.next.t.0 ≤ n.until.0) × (n.until.0 ≤ 8589934592)

abbrev pub IsMessage : Sending → Type 0
IsMessage sending.Nothing = Unit {0}
IsMessage (sending.Frame f) = Unit {0}
IsMessage (sending.Pulse t) = Unit {0}
IsMessage (sending.Noise n) = ⊥

abbrev pub IsShort : ℕ → Message → Type 0
IsShort period (message.Frame p) = Unit {0}
IsShort period (message.Pulse width) = width ≤ period

-- the next message begins once these edges were sent
pub record IsReady (period : ℕ) (edges : List Edge) (r : Repeated) : Type 0 where
  pub short : IsShort period r.message
  pub near : r.next.0 ≤ 17179869184
  pub apart : All (IsBefore r.next.0) edges

pub record IsWell (l : SignalLine) : Type 0 where
  pub rate : IsRate l.mode l.period
  pub on : IsOn l.sending
  pub ready : IfSome l.repeated (IsReady l.period (pending l))

-- ---- what one step changes

-- what was to come and is to come now: some transmissions have begun, and these messages among them
pub record Begins (before after : List Edge) (due : List Due) : Type 0 where
  pub begun : List Transmission
  pub edges : after ≡ before ++ all_edges begun
  pub heard : All IsHeard begun
  pub messages : messages_of begun ≡ due

-- the same where an edge was sent
abbrev pub Adds : Edge → List Edge → List Edge → List Due → Type 0
Adds e before after due = Begins before (e ∷ after) due

-- what begins with the next edge: a message where nothing is on the line
abbrev pub first_due : Mode → Option Spoil → Option Repeated → List Due
first_due m spoil None = []
first_due m spoil (Some r) = due_of m r.message spoil r.next.0 ∷ []

abbrev pub due_on : Sending → List Due → List Due
due_on sending.Nothing due = due
due_on (sending.Frame f) due = []
due_on (sending.Pulse t) due = []
due_on (sending.Noise n) due = []

abbrev pub due_now : SignalLine → List Due
due_now l = due_on l.sending (first_due l.mode l.spoil l.repeated)

abbrev pub beaten : ℕ → Option Repeated → Option Repeated
beaten period None = None
beaten period (Some r) = Some (record { message = r.message; next = record { 0 = r.next.0 + period } })

-- the sender once its next message has begun
abbrev pub stepped : Sender → Sender
stepped s = record { mode = s.mode; period = s.period; repeated = beaten s.period s.repeated; spoil = None }

abbrev pub sender_on : Sending → Sender → Sender
sender_on sending.Nothing s = stepped s
sender_on (sending.Frame f) s = s
sender_on (sending.Pulse t) s = s
sender_on (sending.Noise n) s = s

abbrev pub sender_after : SignalLine → Sender
sender_after l = sender_on l.sending (sender_of l)
