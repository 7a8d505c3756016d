-- The wires of a wave: their names, their widths in bits, and what they show.
use Rattle.std.specs.Prelude.{ℕ, ◌/◌, ◌%◌, Bool, true, false, List, [], ◌∷◌, ◌++◌, codes}
use Rattle.esc_base.specs.declared.gate.Leg.TheVariants as leg
use Rattle.esc_base.specs.declared.kind.Kind.{Kind}
use Rattle.esc_base.specs.declared.kind.Kind.TheVariants as kind
use Rattle.esc_base.specs.Legs.{is_on}
use Rattle.esc_base.specs.Numbers.{bit_of}
use Rattle.am32wave.specs.declared.picture.Heard.{Heard}
use Rattle.am32wave.specs.declared.picture.Heard.TheVariants as heard
use Rattle.am32wave.specs.declared.scene.Scene.{Scene}
use Rattle.am32wave.specs.declared.wire.Wire.{Wire}
use Rattle.am32wave.specs.declared.wire.Wire.TheVariants as wire
use Rattle.am32wave.specs.Picture.{is_open}

-- the journal's, in the order in which they are declared and in which their changes stand
abbrev pub wires : List Wire
wires =
    wire.High leg.A
    ∷ wire.High leg.B
    ∷ wire.High leg.C
    ∷ wire.Low leg.A
    ∷ wire.Low leg.B
    ∷ wire.Low leg.C
    ∷ wire.Sector
    ∷ wire.Crossings
    ∷ wire.Period
    ∷ wire.Armed
    ∷ wire.Demand
    ∷ wire.Stuck
    ∷ wire.Fuse
    ∷ wire.Session
    ∷ wire.Cause
    ∷ wire.Losses
    ∷ wire.Window
    ∷ wire.Mode
    ∷ wire.Good
    ∷ wire.Detected
    ∷ wire.Nothing
    ∷ wire.Bad
    ∷ wire.Value
    ∷ wire.Telemetry
    ∷ wire.Command
    ∷ wire.Commands
    ∷ wire.Saves
    ∷ wire.Reply
    ∷ wire.Replies
    ∷ wire.Open kind.Main
    ∷ wire.Open kind.Uart
    ∷ wire.Open kind.Tick
    ∷ wire.Open kind.Cap
    ∷ wire.Open kind.Cmp
    ∷ wire.Open kind.Pwm
    ∷ wire.Open kind.Comm
    ∷ []

-- with the two that a trace gives, or without them
abbrev pub wires_of : Bool → List Wire
wires_of false = wires
wires_of true = wires ++ wire.Line ∷ wire.Comparator ∷ []

abbrev pub handler_name : Kind → List ℕ
handler_name kind.Main = codes "handler_main"
handler_name kind.Uart = codes "handler_uart"
handler_name kind.Tick = codes "handler_tick"
handler_name kind.Cap = codes "handler_cap"
handler_name kind.Cmp = codes "handler_cmp"
handler_name kind.Pwm = codes "handler_pwm"
handler_name kind.Comm = codes "handler_comm"

abbrev pub name : Wire → List ℕ
name (wire.High leg.A) = codes "high_a"
name (wire.High leg.B) = codes "high_b"
name (wire.High leg.C) = codes "high_c"
name (wire.Low leg.A) = codes "low_a"
name (wire.Low leg.B) = codes "low_b"
name (wire.Low leg.C) = codes "low_c"
name wire.Sector = codes "sector"
name wire.Crossings = codes "crossings"
name wire.Period = codes "period_us"
name wire.Armed = codes "armed"
name wire.Demand = codes "demand"
name wire.Stuck = codes "stuck"
name wire.Fuse = codes "fuse"
name wire.Session = codes "session"
name wire.Cause = codes "lost_cause"
name wire.Losses = codes "losses"
name wire.Window = codes "window"
name wire.Mode = codes "mode"
name wire.Good = codes "good"
name wire.Detected = codes "detected"
name wire.Nothing = codes "nothing"
name wire.Bad = codes "bad"
name wire.Value = codes "frame_value"
name wire.Telemetry = codes "telemetry"
name wire.Command = codes "command"
name wire.Commands = codes "commands"
name wire.Saves = codes "saves"
name wire.Reply = codes "reply"
name wire.Replies = codes "replies"
name (wire.Open k) = handler_name k
name wire.Line = codes "signal_line"
name wire.Comparator = codes "comparator"

-- 1 to 32
abbrev pub width : Wire → ℕ
width wire.Sector = 3
width wire.Mode = 3
width wire.Bad = 3
width wire.Cause = 2
width wire.Command = 6
width wire.Demand = 11
width wire.Value = 11
width wire.Reply = 21
width wire.Crossings = 32
width wire.Period = 32
width wire.Losses = 32
width wire.Commands = 32
width wire.Saves = 32
width wire.Replies = 32
width w = 1

abbrev pub is_window_open : Heard → ℕ
is_window_open heard.Open = 1
is_window_open h = 0

abbrev pub is_good : Heard → ℕ
is_good heard.Good = 1
is_good h = 0

abbrev pub is_detected : Heard → ℕ
is_detected heard.Detected = 1
is_detected h = 0

abbrev pub is_nothing : Heard → ℕ
is_nothing heard.Nothing = 1
is_nothing h = 0

-- why the window was bad, by its number; 0 for one that wasn't
abbrev pub reason : Heard → ℕ
reason (heard.Bad w) = w
reason h = 0

abbrev pub value : Wire → Scene → ℕ
value (wire.High x) s = bit_of (is_on s.picture.drive.high x)
value (wire.Low x) s = bit_of (is_on s.picture.drive.low x)
value wire.Sector s = s.picture.drive.sector
value wire.Crossings s = s.picture.drive.crossings
value wire.Period s = s.picture.drive.period
value wire.Armed s = bit_of s.picture.control.armed
value wire.Demand s = s.picture.control.demand
value wire.Stuck s = s.picture.control.marks % 2
value wire.Fuse s = s.picture.control.marks / 2 % 2
value wire.Session s = s.picture.control.marks / 4 % 2
value wire.Cause s = s.picture.control.cause
value wire.Losses s = s.picture.control.losses
value wire.Window s = is_window_open s.picture.signal.heard
value wire.Mode s = s.picture.signal.mode
value wire.Good s = is_good s.picture.signal.heard
value wire.Detected s = is_detected s.picture.signal.heard
value wire.Nothing s = is_nothing s.picture.signal.heard
value wire.Bad s = reason s.picture.signal.heard
value wire.Value s = s.picture.signal.value
value wire.Telemetry s = s.picture.signal.telemetry
value wire.Command s = s.picture.control.command
value wire.Commands s = s.picture.control.commands
value wire.Saves s = s.picture.control.saves
value wire.Reply s = s.picture.signal.reply
value wire.Replies s = s.picture.signal.replies
value (wire.Open k) s = bit_of (is_open s.picture.handlers k)
value wire.Line s = bit_of s.levels.line
value wire.Comparator s = bit_of s.levels.comparator
