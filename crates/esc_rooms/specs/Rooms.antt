-- What ties the core and the registers to the notes and the trace: what all handlers share, and a tie for each handler.
-- Each fact holds between any two steps. A tie is a function of what it reads, so it stands by computation after each step
-- that leaves that.
use Rattle.std.specs.Prelude.{◌≡◌, ◌≢◌, ◌<◌, ◌≤◌, ◌/◌, ◌%◌, ℕ, Bool, true, List, [], ◌∷◌, Option, Some, None, All, false}
use Rattle.esc_base.specs.Times.{control_period, pwm_period}
use Rattle.esc_base.specs.declared.kind.Kind.{Kind}
use Rattle.esc_base.specs.declared.kind.Kind.TheVariants as kind
use Rattle.esc_base.specs.declared.event.Event.{Event}
use Rattle.esc_base.specs.declared.note.Note.{Note}
use Rattle.esc_base.specs.declared.note.Note.TheVariants as note
use Rattle.esc_base.specs.declared.signal.Edge.{Edge}
use Rattle.esc_base.specs.Journal.{time_of}
use Rattle.esc_base.specs.Trace.{line, tick_of}
use Rattle.edge_capture.specs.Edges.{Rising}
use Rattle.settings_block.specs.declared.stored.Loaded.{Loaded}
use Rattle.arming.specs.Kept.{Kept}
use Rattle.arming.specs.Stands.{Stands}
use Rattle.esc_core.specs.Line.{Line}
use Rattle.esc_core.specs.declared.orders.Orders.{Orders}
use Rattle.esc_core.specs.Stepped.{Stepped}
use Rattle.esc_base.specs.Legs.{is_on}
use Rattle.commutation.specs.Sectors.{high_of}
use Rattle.esc_core.specs.Firmware.{left_of, need_of, uart_left}
use Rattle.esc_base.specs.Numbers.{kind_number, as_tick}
use Rattle.timer_regs.specs.Bank.{Bank}
use Rattle.timer_regs.specs.Rest.{rests_from}
use Rattle.interrupt_machine.specs.Did.{accessed}
use Rattle.interrupt_machine.specs.Open.{kind_of}
use Rattle.arming.specs.ControlAt.{demand_at, session_at}
use Rattle.commutation.specs.Drive.{pace_at, wait_at, turns_at, rests_at}
use Rattle.zero_cross.specs.Comparator.{held}
use Rattle.commutation.specs.Commutated.{sector_at, turn_at, forced_at, stuck_at}
use Rattle.gate_driver.specs.Gated.{Gated, gates_after, high_wait}
use Rattle.gate_driver.specs.Acted.{KeepsDeadTime}
use Rattle.esc_laws.specs.Driven.{IsDriven}
use Rattle.esc_laws.specs.Crossed.{blanked_at, expects_at}
use Rattle.esc_laws.specs.Asked.{cmp_entries, looks_since}
use Rattle.esc_laws.specs.Searched.{is_looking, looked_at, sight_at, cmp_open_at, quiet_at}
use Rattle.esc_rooms.specs.CrossTied.{CrossView, CrossTied, ends_drive}
use Rattle.esc_rooms.specs.PeriodTied.{sums_gaps, PeriodTied}
use Rattle.esc_laws.specs.Saves.{advance_of, forward_at}
use Rattle.esc_laws.specs.Nested.{NestRuleAt}
use Rattle.esc_laws.specs.Said.{NoteKeeps}
use Rattle.esc_laws.specs.Calls.{pwm_asked_at, pwm_entered_at, turned_at, turns_in, turn_was_due, postponed_at}
use Rattle.esc_rooms.specs.DriveTied.{PwmTied, FlagTied, DutyTied, Rests, DriveView, DriveTied}
use Rattle.esc_rooms.specs.Tied.{SignalTied, CapView, cap_view, WindowSound, TimerTied, TickTied, MainTied, OrdersTied, WordTold}
use Rattle.esc_laws.specs.RestFrom.{IsRestFrom}
use Rattle.esc_laws.specs.Looks.{Made}
use Rattle.esc_rooms.specs.World.{World, so_far, noted, step_notes, after_step, open_left}
use Rattle.esc_laws.specs.InTime.{IsInTime}

-- ---- what all handlers share

-- the line's changes stand in the order of their ticks, up to this one
abbrev pub StandUntil : ℕ → List Edge → Type 0
StandUntil t edges = All (λ e. e.t.0 ≤ t) edges × Rising 0 edges

-- no byte waits, none is to be sent, and the session is as the notes say
pub record LineTied (s : Line) (session : Bool) : Type 0 where
  pub none_waits : s.packets.waiting ≡ []
  pub none_left : s.left ≡ []
  pub session_is : s.active ≡ session

-- what is outside: the trace, and the registers that its events set
pub record OutsideTied (trace : List Event) (now_level now_comp : Bool) (rests time : ℕ) : Type 0 where
  pub level : now_level ≡ (line trace).level
  pub edges : StandUntil time (line trace).edges
  pub rested : IsRestFrom (line trace).edges rests
  -- all events of the trace have come, in order, and the comparator is as they left it
  pub events : All (λ e. tick_of e ≤ time) trace
  pub in_time : IsInTime 0 trace
  pub comparator : now_comp ≡ (held trace time).level
  pub small : time < 2147483648

pub record Grounded (loaded : Loaded) (trace : List Event) (kept : Kept) (o : Orders) (s : Line) (now_level now_comp : Bool) (rests : ℕ) (time : ℕ)
    (back : List Note) : Type 0 where
  pub control : Stands kept back
  pub orders : OrdersTied loaded o back
  pub line : LineTied s (session_at back)
  pub outside : OutsideTied trace now_level now_comp rests time

abbrev pub Ground : World → Type 0
Ground w = Grounded w.loaded w.trace w.core.control w.core.orders w.core.line w.bank.level w.bank.comp (rests_from w.bank.changed) w.bank.time w.back

-- ---- a tie for each handler

-- what CAP's tie speaks of
abbrev pub cap_seen : World → CapView
cap_seen w = cap_view w.trace w.core w.bank (so_far w)

-- the period that it reads for a reply
abbrev pub PeriodTie : World → Type 0
PeriodTie w =
    PeriodTied w.core.drive.timing.turns (sums_gaps w.core.comm_at w.core.drive.turn.at) (ends_drive w.core.tick_at) w.bank.period w.bank.sector
    (turns_at w.back) (rests_at w.back)

abbrev pub CapTie : World → Type 0
CapTie w =
    SignalTied (so_far w).signal w.core.cap_at (cap_seen w)
    × WindowSound w.bank.window w.bank.time
    × TimerTied (so_far w).signal w.core.cap_at (line w.trace).edges w.made.cap_past w.bank.timer
    × PeriodTie w

-- the number that was read last is that of control's newest tick; and the duty is the demand, or all is off
abbrev pub TickTie : World → Type 0
TickTie w =
    TickTied w.core.tick_at w.bank.number_read w.bank.time (so_far w).ticks × (w.bank.number_read ≡ w.core.control.number) ×
    (w.bank.number_read ≤ w.bank.time / control_period) × DutyTied w.core.tick_at w.bank.duty (demand_at w.back)
    × (demand_at w.back ≡ 0
    → Rests w.core.tick_at w.core.pwm_at w.core.comm_at w.bank.hi w.bank.lo w.bank.flag w.bank.comm w.core.drive.postponed w.bank.stuck)

abbrev pub PwmTie : World → Type 0
PwmTie w =
    PwmTied w.core.pwm_at w.made.pwm_own w.made.sampled (demand_at w.back) w.bank.sector
    × FlagTied w.core.tick_at w.bank.flag (pwm_asked_at w.back) (demand_at w.back) (pwm_entered_at w.back) w.bank.time

-- what the drive's tie speaks of
abbrev pub drive_seen : World → DriveView
drive_seen w = record {
  drive = w.core.drive;
  comm_at = w.core.comm_at;
  cmp_at = w.core.cmp_at;
  tick_at = w.core.tick_at;
  time = w.bank.time;
  hi = w.bank.hi;
  lo = w.bank.lo;
  sector = w.bank.sector;
  timer = w.bank.comm;
  stuck = w.bank.stuck;
  past = w.made.comm_past;
  demand = demand_at w.back;
  told_sector = sector_at w.back;
  turned_at = turned_at w.back;
  forward = forward_at w.loaded.settings w.back;
  turn = turn_at w.back;
  wait = wait_at (advance_of w.loaded.settings) w.back;
  told_forced = forced_at w.back;
  told_stuck = stuck_at w.back;
  turns_in = turns_in w.back;
  was_due = turn_was_due (advance_of w.loaded.settings) w.back;
  told_postponed = postponed_at w.back;
}

-- what the tie of the search for a crossing speaks of
abbrev pub cross_seen : World → CrossView
cross_seen w = record {
  search = w.core.drive.crossing;
  pace = w.core.drive.timing.pace;
  advance = w.core.drive.timing.advance;
  postponed = w.core.drive.postponed;
  cmp_at = w.core.cmp_at;
  comm_at = w.core.comm_at;
  turn_at = w.core.drive.turn.at;
  tick_at = w.core.tick_at;
  time = w.bank.time;
  level = w.bank.comp;
  changed = w.bank.comp_changed;
  enabled = w.bank.comp_enabled;
  timer = w.bank.crossing;
  held = held w.trace w.bank.time;
  past = w.made.cmp_past;
  turn = turn_at w.back;
  told_pace = pace_at w.back;
  told_advance = advance_of w.loaded.settings;
  blanked = blanked_at w.back;
  expects = expects_at (forward_at w.loaded.settings) w.back;
  sight = sight_at w.back;
  told_open = cmp_open_at w.back;
  quiet = λ since. quiet_at since w.back;
  entries = cmp_entries w.back;
  looks = looks_since w.back;
  looking = is_looking w.back;
  looked = looked_at w.back;
}

abbrev pub MainTie : World → Type 0
MainTie w = MainTied w.core.main_at w.core.orders.save_asked (so_far w).saves

abbrev pub Tie : Kind → World → Type 0
Tie kind.Cap w = CapTie w
Tie kind.Tick w = TickTie w
Tie kind.Main w = MainTie w
Tie kind.Pwm w = PwmTie w
Tie kind.Comm w = DriveTied (drive_seen w)
Tie kind.Cmp w = CrossTied (cross_seen w)
-- no serial byte is fed yet, and none is to be sent, so UART never opens
Tie kind.Uart w = (uart_left w.core.uart_at ≡ 0) × (w.bank.receive ≡ None) × (w.bank.sends ≡ false)

abbrev pub Ties : World → Type 0
Ties w = (j : Kind) → Tie j w

-- the handlers above this one are shut, as they are while it makes a step
abbrev pub Above : Kind → World → Type 0
Above k w = (j : Kind) → kind_number k < kind_number j → left_of w.core j ≡ 0

-- no handler stands under the mask, as it is while the mask is down
abbrev pub Unheld : World → Type 0
Unheld w = (j : Kind) → 8 < need_of w.core j

-- none but this one does, as it is while it makes a step
abbrev pub HoldsAlone : Kind → World → Type 0
HoldsAlone k w = (j : Kind) → j ≢ k → 8 < need_of w.core j

-- these steps stand before now
pub record Past (made : Made) (t : ℕ) : Type 0 where
  pub cap : made.cap_past ≤ t
  pub comm : made.comm_past ≤ t
  pub cmp : made.cmp_past ≤ t

-- ---- what a step of a handler keeps

-- the kind whose own steps alone give a note. An I is given by an entry, and a G by a step of any kind; the others that are
-- not named don't stand in a journal yet.
abbrev pub owner : Note → Option Kind
owner (note.Leave t k) = Some (kind_of k)
owner (note.Window t m) = Some kind.Cap
owner (note.Good t v q) = Some kind.Cap
owner (note.Detected t m) = Some kind.Cap
owner (note.Nothing t) = Some kind.Cap
owner (note.Bad t w) = Some kind.Cap
owner (note.Command t c) = Some kind.Cap
owner (note.Period t period) = Some kind.Cap
owner (note.Reply t s b) = Some kind.Cap
owner (note.Control t n s d) = Some kind.Tick
owner (note.Armed t) = Some kind.Tick
owner (note.Lost t c) = Some kind.Tick
owner (note.Saved t r) = Some kind.Main
owner (note.Step t s) = Some kind.Comm
owner (note.Cross t) = Some kind.Cmp
owner n = None

-- a note of its own stands at its tick and fits where it stands
pub record Fits (k : Kind) (w : World) (n : Note) : Type 0 where
  pub at : time_of n ≡ w.bank.time
  pub owned : owner n ≡ Some k
  pub keeps : NoteKeeps w.loaded w.nest w.trace (so_far w) w.back n

abbrev pub AllFit : Kind → World → List Note → Type 0
AllFit k w [] = Unit {0}
AllFit k w (n ∷ notes) = Fits k w n × AllFit k (noted w n) notes

-- the gate word becomes another one
abbrev pub WordMoves : Bank → Bank → Type 0
WordMoves b after = after.hi ≡ b.hi → after.lo ≡ b.lo → ⊥

-- the G of a changed word fits before the step's own notes
pub record GateFits (w : World) (after : Bank) (gates : Gated) : Type 0 where
  pub nest : NestRuleAt (advance_of w.loaded.settings) w.nest (so_far w) w.back (note.Gate (as_tick w.bank.time) after.hi after.lo)
  pub dead_time : KeepsDeadTime w.bank gates after
  pub driven : IsDriven w.back (note.Gate (as_tick w.bank.time) after.hi after.lo)

-- PWM's write is what the position that it has read asks for
pub record Chops (w : World) (after : Bank) : Type 0 where
  pub on : w.made.sampled % pwm_period < demand_at w.back → 0 < w.bank.sector → high_wait w.core.drive.gates w.bank (high_of w.bank.sector) ≡ None
      → is_on after.hi (high_of w.bank.sector) ≡ true
  pub off : demand_at w.back ≤ w.made.sampled % pwm_period → after.hi ≡ 0

-- While there is a demand, only COMM writes the low switches, and besides it only PWM's fifth own step the high ones. PWM
-- doesn't return before that step, and has no note of its own but its return.
pub record DriveKeeps (k : Kind) (w : World) (s : Stepped) : Type 0 where
  pub low : k ≢ kind.Comm → 0 < demand_at w.back → (accessed w.bank s.access).lo ≡ w.bank.lo
  pub high : k ≢ kind.Comm → (k ≡ kind.Pwm → w.made.pwm_own ≢ 4) → 0 < demand_at w.back → (accessed w.bank s.access).hi ≡ w.bank.hi
  pub chops : k ≡ kind.Pwm → w.made.pwm_own ≡ 4 → Chops w (accessed w.bank s.access)
  pub back : k ≡ kind.Pwm → s.over ≡ true → 4 ≤ w.made.pwm_own
  pub silent : k ≡ kind.Pwm → s.notes ≡ []

-- what a step does to the gates: what the core keeps of them follows exactly, and a G fits where the word becomes another one
pub record GatesKeep (k : Kind) (w : World) (s : Stepped) : Type 0 where
  pub off_times : s.core.drive.gates ≡ gates_after w.core.drive.gates w.bank (accessed w.bank s.access)
  pub fits : WordTold w.core w.bank w.back → WordMoves w.bank (accessed w.bank s.access) → GateFits w (accessed w.bank s.access) s.core.drive.gates
  pub drive : DriveKeeps k w s

-- the notes before a step's own, its G among them, tell the gates that the step leaves
abbrev pub StepTold : World → Stepped → Type 0
StepTold w s = WordTold s.core (accessed w.bank s.access) w.back

pub record StepKeeps (k : Kind) (outer : List Kind) (w : World) (s : Stepped) : Type 0 where
  pub gates : GatesKeep k w s
  pub fits : StepTold w s → AllFit k w (step_notes w.bank.time k s)
  pub ground : Ground (after_step k w s)
  pub tie : StepTold w s → Tie k (after_step k w s)
  pub others : (j : Kind) → j ≢ k → Tie j w → Tie j (after_step k w s)
  pub stack_is : (so_far (after_step k w s)).stack ≡ open_left k outer s
