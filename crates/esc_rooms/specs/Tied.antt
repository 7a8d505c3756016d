-- What ties the core and the registers to what the notes and the trace say, by where CAP, TICK and MAIN stand. Each fact holds
-- between any two steps, whatever higher kinds do meanwhile.
use Rattle.std.specs.Prelude.{◌≡◌, ◌<◌, ◌≤◌, ◌+◌, ◌-◌, ◌/◌, ◌⊎◌, ℕ, Bool, true, false, List, length, take, Option, Some, None, All}
use Rattle.esc_base.specs.declared.kind.Kind.{Kind}
use Rattle.esc_base.specs.declared.event.Event.{Event}
use Rattle.esc_base.specs.declared.signal.Edge.{Edge}
use Rattle.esc_base.specs.declared.signal.Mode.{Mode}
use Rattle.esc_base.specs.declared.note.Note.{Note}
use Rattle.esc_base.specs.Trace.{line}
use Rattle.esc_base.specs.Times.{least_pause, rest, control_period}
use Rattle.esc_base.specs.Numbers.{mode_of}
use Rattle.edge_capture.specs.Burst.{burst, close}
use Rattle.edge_capture.specs.Edges.{IsInOrder}
use Rattle.edge_capture.specs.Modes.{most}
use Rattle.edge_capture.specs.Window.{Window}
use Rattle.timer_regs.specs.Bank.{Bank}
use Rattle.settings_block.specs.declared.stored.Loaded.{Loaded}
use Rattle.arming.specs.ControlAt.{asked_at}
use Rattle.interrupt_machine.specs.Open.{innermost, is_open}
use Rattle.esc_core.specs.declared.state.CapAt.{CapAt}
use Rattle.esc_core.specs.declared.state.CapAt.TheVariants as cap
use Rattle.esc_core.specs.declared.state.TickAt.{TickAt}
use Rattle.esc_core.specs.declared.state.TickAt.TheVariants as tick
use Rattle.esc_core.specs.declared.state.MainAt.{MainAt}
use Rattle.esc_core.specs.declared.state.MainAt.TheVariants as main
use Rattle.esc_core.specs.declared.orders.Orders.{Orders}
use Rattle.esc_core.specs.Brain.{Brain}
use Rattle.esc_core.specs.Firmware.{left_of, need_of}
use Rattle.gate_driver.specs.DeadSafe.{IsTied}
use Rattle.esc_laws.specs.Saves.{settings_at, spin_at}
use Rattle.esc_laws.specs.Rested.{first_rested}
use Rattle.esc_laws.specs.Place.{Signal, Listens, Judged, Owes, Tells, Replies, Rests, Place}
use Rattle.esc_laws.specs.RestFrom.{IsSet}

-- what the core, the registers and the notes say of the signal line
pub record CapView : Type 0 where
  pub trace : List Event
  pub time : ℕ
  pub window : Window
  pub taken : Bool
  pub timer : Option ℕ
  pub mode : Mode
  pub copied : List Edge
  pub paused : Bool
  pub entered : ℕ
  pub windows : ℕ
  pub verdicts : ℕ

abbrev pub cap_view : List Event → Brain → Bank → Place → CapView
cap_view trace c b p = record {
  trace = trace;
  time = b.time;
  window = b.window;
  taken = b.taken;
  timer = b.timer;
  mode = c.window;
  copied = c.burst;
  paused = c.paused;
  entered = p.cap_entered;
  windows = p.windows;
  verdicts = p.verdicts;
}

-- the capture has heard what the window that opened at w in this mode hears of the trace
pub record Hears (v : CapView) (w m : ℕ) : Type 0 where
  pub armed : v.window.armed ≡ true
  pub mode : v.window.mode ≡ mode_of m
  pub opened : v.window.opened ≡ w
  pub edges : v.window.edges ≡ burst (line v.trace).edges w (mode_of m)
  pub core_mode : v.mode ≡ mode_of m
  pub running : v.paused ≡ false
  pub no_timer : v.timer ≡ None

-- CAP was entered at or after the window's close, and has noted nothing
pub record IsClosing (v : CapView) (w m : ℕ) : Type 0 where
  pub hears : Hears v w m
  pub closed_at : ℕ
  pub closes : close (line v.trace).edges w (mode_of m) ≡ Some closed_at
  pub waits : closed_at ≤ v.entered
  pub entered : v.entered ≤ v.time
  pub taken : v.taken ≡ true
  pub no_window : v.windows ≡ 0
  pub no_verdict : v.verdicts ≡ 0

-- and has copied all edges of the burst but so many
pub record IsCopying (v : CapView) (w m rest : ℕ) : Type 0 where
  pub closing : IsClosing v w m
  pub copied : v.copied ≡ take (length v.window.edges - rest) v.window.edges
  pub some : 1 ≤ rest
  pub within : rest ≤ length v.window.edges

-- the window listens, and no close of it was taken
pub record IsListening (v : CapView) (w m : ℕ) : Type 0 where
  pub hears : Hears v w m
  pub untaken : v.taken ≡ false

-- a verdict stands, and the window timer is not set
pub record IsJudged (v : CapView) : Type 0 where
  pub verdict : v.verdicts ≡ 1
  pub taken : v.taken ≡ true
  pub running : v.paused ≡ false
  pub no_timer : v.timer ≡ None

-- the window that opened at w in this mode has closed, and CAP has copied its burst
pub record HasBurst (v : CapView) (w m : ℕ) : Type 0 where
  pub closed_at : ℕ
  pub closes : close (line v.trace).edges w (mode_of m) ≡ Some closed_at
  pub past : closed_at ≤ v.time
  pub copied : v.copied ≡ burst (line v.trace).edges w (mode_of m)
  pub core_mode : v.mode ≡ mode_of m

-- the window timer is set
pub record IsPaused (v : CapView) : Type 0 where
  pub taken : v.taken ≡ true
  pub paused : v.paused ≡ true

-- it was reached when CAP was entered, and CAP has noted nothing
pub record IsOver (v : CapView) (from : ℕ) : Type 0 where
  pub taken : v.taken ≡ true
  pub paused : v.paused ≡ true
  pub no_timer : v.timer ≡ None
  pub rested : first_rested (line v.trace).edges from ≤ v.entered
  pub entered : v.entered ≤ v.time
  pub no_window : v.windows ≡ 0
  pub no_verdict : v.verdicts ≡ 0

-- what a CAP that is about to return has done
abbrev pub CapIsDone : CapView → Type 0
CapIsDone v = (v.verdicts ≡ 1) ⊎ ((v.verdicts ≡ 0) × (v.windows ≡ 1))

abbrev pub SignalTied : Signal → CapAt → CapView → Type 0
SignalTied (Listens w m) cap.Shut v = IsListening v w m
SignalTied (Listens w m) cap.Start v = IsClosing v w m
SignalTied (Listens w m) (cap.Copy rest) v = IsCopying v w m rest
SignalTied (Listens w m) cap.Judge v = IsClosing v w m × (v.copied ≡ v.window.edges)
SignalTied (Listens w m) cap.Back v = IsListening v w m × CapIsDone v
SignalTied (Judged f opens) cap.Open v = IsJudged v × (opens ≡ true)
SignalTied (Judged f opens) (cap.Pause at) v = IsJudged v × ((opens ≡ false) × (at ≡ f + least_pause))
SignalTied (Judged f opens) cap.Back v = IsPaused v × ((opens ≡ false) × (v.verdicts ≡ 1))
SignalTied (Owes w m) cap.Period v = IsJudged v × HasBurst v w m
SignalTied (Tells w m told) (cap.Reply period) v = IsJudged v × (HasBurst v w m × (period ≡ told))
SignalTied (Replies end) (cap.Pause at) v = IsJudged v × (at ≡ end)
SignalTied (Replies end) cap.Back v = IsPaused v × (v.verdicts ≡ 1)
SignalTied (Rests from latest r) cap.Shut v = IsPaused v × (from ≤ latest)
SignalTied (Rests from latest r) cap.Start v = IsOver v from
-- at the other places CAP doesn't stand
SignalTied s at v = ⊥

-- from the step that arms it on, until CAP is entered
abbrev pub TimerTied : Signal → CapAt → List Edge → ℕ → Option ℕ → Type 0
TimerTied (Judged f opens) cap.Back edges since timer = IsSet edges (f + least_pause) since timer
TimerTied (Replies end) cap.Back edges since timer = IsSet edges end since timer
TimerTied (Rests from latest r) cap.Shut edges since timer = IsSet edges from r timer
TimerTied s at edges since timer = Unit {0}

-- the edges that the capture has heard
pub record WindowSound (w : Window) (time : ℕ) : Type 0 where
  pub past : All (λ e. e.t.0 ≤ time) w.edges
  pub order : IsInOrder w.edges
  pub few : length w.edges ≤ most w.mode

-- how far TICK has come: the control tick's number that was read, the time, and the K since its entry
abbrev pub TickTied : TickAt → ℕ → ℕ → ℕ → Type 0
TickTied tick.Shut read time ticks = Unit {0}
TickTied tick.Raise read time ticks = (read < time / control_period) × (ticks ≡ 0)
TickTied tick.Read read time ticks = (read < time / control_period) × (ticks ≡ 0)
TickTied at read time ticks = ticks ≡ 1

-- how far MAIN has come: whether a save is asked for, and the P since its entry
abbrev pub MainTied : MainAt → Bool → ℕ → Type 0
MainTied main.Shut save saves = Unit {0}
MainTied main.Work save saves = (save ≡ true) × (saves ≡ 0)
MainTied main.Back save saves = saves ≡ 1

-- the settings in memory, the spin, and whether a save is asked for, are what the notes say, the newest first
pub record OrdersTied (loaded : Loaded) (o : Orders) (back : List Note) : Type 0 where
  pub settings_are : o.settings ≡ settings_at loaded.settings back
  pub spin_is : o.spin ≡ spin_at back
  pub save_is : o.save_asked ≡ asked_at back

-- the notes tell the word of switches, and when each went off
abbrev pub WordTold : Brain → Bank → List Note → Type 0
WordTold c b back = IsTied c.drive.gates b.hi b.lo back

-- what holds between any two steps of the core, the registers and the open kinds
pub record Keeps (c : Brain) (b : Bank) (stack : List Kind) : Type 0 where
  pub hold : c.hold ≤ 8
  -- the mask stands long enough for the innermost handler to lower it; and a handler at a masked place is the innermost one
  pub enough : b.masked ≡ true → (k : Kind) → innermost stack ≡ Some k → need_of c k ≤ c.hold
  pub masked : (k : Kind) → need_of c k ≤ 8 → (b.masked ≡ true) × (innermost stack ≡ Some k)
  pub live : (k : Kind) → is_open stack k ≡ true → 0 < left_of c k
  pub shut : (k : Kind) → is_open stack k ≡ false → left_of c k ≡ 0
