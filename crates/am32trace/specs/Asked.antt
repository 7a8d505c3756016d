-- Which messages the lines of a script ask for, and when each of them begins.
use Rattle.std.specs.Prelude.{◌≡◌, ℕ, zero, suc, ◌+◌, ◌-◌, ◌*◌, ◌≤◌, ◌<◌, Bool, true, if◌then◌else◌, List, [], ◌∷◌, ◌++◌, Option, Some, None}
use Rattle.std.specs.Int.{div_ceil}
use Rattle.esc_base.specs.declared.signal.Frame.{Frame}
use Rattle.esc_base.specs.declared.signal.Mode.{Mode}
use Rattle.esc_base.specs.declared.signal.Mode.TheVariants as mode
use Rattle.edge_capture.specs.Modes.{numbers}
use Rattle.am32trace.specs.declared.action.Action.{Action}
use Rattle.am32trace.specs.declared.action.Action.TheVariants as action
use Rattle.am32trace.specs.declared.action.Directive.{Directive}
use Rattle.am32trace.specs.declared.action.Directive.TheVariants as line
use Rattle.am32trace.specs.declared.frame_out.Spoil.{Spoil}
use Rattle.am32trace.specs.declared.signal_line.Message.{Message}
use Rattle.am32trace.specs.declared.signal_line.Message.TheVariants as message
use Rattle.am32trace.specs.declared.signal_line.Repeated.{Repeated}

-- ---- a message or a level that is due, with the tick at which it begins
pub data Due : Type 0 where
  -- a frame as it should be
  FrameAt : Mode → ℕ → Frame → Due
  -- a frame with something wrong
  SpoiltAt : Mode → ℕ → Frame → Spoil → Due
  -- a servo pulse of so many ticks
  PulseAt : ℕ → ℕ → Due
  -- a level of the line
  LevelAt : ℕ → Bool → Due

abbrev pub due_of : Mode → Message → Option Spoil → ℕ → Due
due_of m (message.Frame p) None s = FrameAt m s p.frame
due_of m (message.Frame p) (Some spoil) s = SpoiltAt m s p.frame spoil
due_of m (message.Pulse width) spoil s = PulseAt s width

-- ---- the beat: the times first, first + period, first + 2 * period, ..

-- so many of them come before t
abbrev pub beats_before : ℕ → ℕ → ℕ → ℕ
beats_before period first t = div_ceil (t - first) period

-- the first one that doesn't
abbrev pub beat_from : ℕ → ℕ → ℕ → ℕ
beat_from period first t = first + beats_before period first t * period

-- so many messages, the k-th of which begins at first + k * period; what is to be wrong is wrong with the first
unfoldable pub train : Mode → ℕ → Message → Option Spoil → ℕ → ℕ → List Due
train m period what spoil first zero = []
train m period what spoil first (suc k) = due_of m what spoil first ∷ train m period what None (first + period) k

-- ---- a sender: what it sends again and again, when the next one is due, and what is to be wrong with that
pub record Sender : Type 0 where
  pub mode : Mode
  pub period : ℕ
  pub repeated : Option Repeated
  pub spoil : Option Spoil

abbrev pub fresh : Mode → ℕ → Sender
fresh m period = record { mode = m; period = period; repeated = None; spoil = None }

-- before the first line there is no signal
abbrev pub no_signal : Sender
no_signal = fresh mode.Unknown 1

abbrev pub train_before : Mode → ℕ → Option Spoil → ℕ → Option Repeated → List Due
train_before m period spoil t None = []
train_before m period spoil t (Some r) = train m period r.message spoil r.next.0 (beats_before period r.next.0 t)

-- the messages that begin before t
abbrev pub due_before : Sender → ℕ → List Due
due_before s t = train_before s.mode s.period s.spoil t s.repeated

-- the messages before t left out
abbrev pub delayed : ℕ → ℕ → Option Repeated → Option Repeated
delayed period t None = None
delayed period t (Some r) = Some (record { message = r.message; next = record { 0 = beat_from period r.next.0 t } })

abbrev pub unless_sent : Option Spoil → ℕ → Option Spoil
unless_sent spoil zero = spoil
unless_sent spoil (suc k) = None

abbrev pub spoil_left : ℕ → ℕ → Option Spoil → Option Repeated → Option Spoil
spoil_left period t spoil None = spoil
spoil_left period t spoil (Some r) = unless_sent spoil (beats_before period r.next.0 t)

-- the sender once those were sent
abbrev pub moved_on : Sender → ℕ → Sender
moved_on s t = record {
  mode = s.mode;
  period = s.period;
  repeated = delayed s.period t s.repeated;
  spoil = spoil_left s.period t s.spoil s.repeated;
}

-- ---- what a line changes at its time

-- a new message keeps the beat of the one before
abbrev pub next_or : ℕ → Option Repeated → ℕ
next_or t None = t
next_or t (Some r) = r.next.0

abbrev pub with_repeated : Sender → Option Repeated → Sender
with_repeated s r = record { mode = s.mode; period = s.period; repeated = r; spoil = s.spoil }

abbrev pub says : Sender → ℕ → Message → Sender
says s t what = with_repeated s (Some (record { message = what; next = record { 0 = next_or t s.repeated } }))

abbrev pub with_spoil : Sender → Option Spoil → Sender
with_spoil s spoil = record { mode = s.mode; period = s.period; repeated = s.repeated; spoil = spoil }

abbrev pub told : Sender → ℕ → Action → Sender
told s t (action.Send payload) = says s t (message.Frame payload)
told s t (action.Pulse width) = says s t (message.Pulse width)
told s t action.Off = with_repeated s None
told s t (action.Spoil spoil) = with_spoil s (Some spoil)
told s t (action.Noise ticks) = with_repeated s (delayed s.period (t + ticks) s.repeated)
told s t a = s

-- what begins with the line itself
abbrev pub at_once : Mode → ℕ → Action → List Due
at_once m t (action.Frame payload spoil) = due_of m (message.Frame payload) spoil t ∷ []
at_once m t (action.Line level) = LevelAt t level ∷ []
at_once m t a = []

abbrev pub due_by : Sender → ℕ → Action → List Due
due_by s t a = due_before s t ++ at_once s.mode t a

abbrev pub sender_by : Sender → ℕ → Action → Sender
sender_by s t a = told (moved_on s t) t a

-- the line of an inverted signal goes high at tick 0
abbrev pub at_rest : Mode → List Due
at_rest m = if (numbers m).inverted then LevelAt 0 true ∷ [] else []

-- ---- all lines: between two of them the messages that begin before the later one, up to the end
unfoldable pub asked_by : Sender → List Directive → List Due
asked_by s [] = []
asked_by s (line.Signal m period ∷ lines) = at_rest m ++ asked_by (fresh m period) lines
asked_by s (line.At t a ∷ lines) = due_by s t.0 a ++ asked_by (sender_by s t.0 a) lines
asked_by s (line.End t ∷ lines) = due_before s t.0

-- ---- what a line that is followed says at most

-- messages of a signal are over before the next one begins
pub record IsRate (m : Mode) (period : ℕ) : Type 0 where
  pub positive : 0 < period
  pub most : period ≤ 4294967296
  pub frames : 16 * (numbers m).bit ≤ period
  pub pulses : m ≡ mode.Servo → 115200 ≤ period

abbrev pub IsSoundAction : Action → Type 0
IsSoundAction (action.Pulse width) = width ≤ 115200
IsSoundAction (action.Noise ticks) = ticks ≤ 4294967296
IsSoundAction a = Unit {0}

abbrev pub IsSound : Directive → Type 0
IsSound (line.Signal m period) = IsRate m period
IsSound (line.At t a) = IsSoundAction a
IsSound (line.End t) = Unit {0}
