-- What stands after some notes: each part looks back over them for the newest that says something of it, or counts.
use Rattle.std.specs.Prelude.{ℕ, ◌+◌, ◌%◌, Bool, true, false, ◌==◌, if◌then◌else◌, List, [], ◌∷◌, Option, Some, None, unwrap_or}
use Rattle.std.specs.List.{count_by}
use Rattle.esc_base.specs.declared.note.Note.{Note}
use Rattle.esc_base.specs.declared.note.Note.TheVariants as note
use Rattle.esc_base.specs.declared.kind.Kind.{Kind}
use Rattle.esc_base.specs.declared.kind.Kind.TheVariants as kind
use Rattle.esc_base.specs.Journal.{time_of}
use Rattle.esc_base.specs.Numbers.{bit_of}
use Rattle.am32wave.specs.declared.picture.Drive.{Drive}
use Rattle.am32wave.specs.declared.picture.Control.{Control}
use Rattle.am32wave.specs.declared.picture.Heard.{Heard}
use Rattle.am32wave.specs.declared.picture.Heard.TheVariants as heard
use Rattle.am32wave.specs.declared.picture.Signal.{Signal}
use Rattle.am32wave.specs.declared.picture.Handlers.{Handlers}
use Rattle.am32wave.specs.declared.picture.Picture.{Picture}

-- what the newest note that tells something tells, or this where none does
abbrev pub newest : {A : Type 0} → (Note → Option A) → A → List Note → A
newest tells first [] = first
newest tells first (n ∷ notes) = newest tells (unwrap_or (tells n) first) notes

-- how many of these notes there are, as a number of 32 bits
abbrev pub count : (Note → Bool) → List Note → ℕ
count is notes = count_by is notes % 4294967296

-- ---- the motor

abbrev pub high_told : Note → Option ℕ
high_told (note.Gate t hi lo) = Some hi
high_told n = None

abbrev pub low_told : Note → Option ℕ
low_told (note.Gate t hi lo) = Some lo
low_told n = None

abbrev pub sector_told : Note → Option ℕ
sector_told (note.Step t s) = Some s
sector_told n = None

abbrev pub is_crossing : Note → Bool
is_crossing (note.Cross t) = true
is_crossing n = false

-- 0 for no period
abbrev pub period_told : Note → Option ℕ
period_told (note.Period t p) = Some (unwrap_or p 0)
period_told n = None

abbrev pub drive : List Note → Drive
drive notes = record {
  high = newest high_told 0 notes;
  low = newest low_told 0 notes;
  sector = newest sector_told 0 notes;
  crossings = count is_crossing notes;
  period = newest period_told 0 notes;
}

-- ---- control

abbrev pub armed_told : Note → Option Bool
armed_told (note.Armed t) = Some true
armed_told (note.Lost t c) = Some false
armed_told n = None

abbrev pub demand_told : Note → Option ℕ
demand_told (note.Control t n s d) = Some d
demand_told n = None

abbrev pub marks_told : Note → Option ℕ
marks_told (note.Control t n s d) = Some s
marks_told n = None

-- 1 more than the cause of a loss, and 0 where control arms
abbrev pub cause_told : Note → Option ℕ
cause_told (note.Armed t) = Some 0
cause_told (note.Lost t c) = Some (c + 1)
cause_told n = None

abbrev pub command_told : Note → Option ℕ
command_told (note.Command t c) = Some c
command_told n = None

abbrev pub is_loss : Note → Bool
is_loss (note.Lost t c) = true
is_loss n = false

abbrev pub is_command : Note → Bool
is_command (note.Command t c) = true
is_command n = false

abbrev pub is_save : Note → Bool
is_save (note.Saved t r) = true
is_save n = false

abbrev pub control : List Note → Control
control notes = record {
  armed = newest armed_told false notes;
  demand = newest demand_told 0 notes;
  marks = newest marks_told 0 notes;
  cause = newest cause_told 0 notes;
  command = newest command_told 0 notes;
  losses = count is_loss notes;
  commands = count is_command notes;
  saves = count is_save notes;
}

-- ---- the signal line

abbrev pub heard_told : Note → Option Heard
heard_told (note.Window t m) = Some heard.Open
heard_told (note.Good t v q) = Some heard.Good
heard_told (note.Detected t m) = Some heard.Detected
heard_told (note.Nothing t) = Some heard.Nothing
heard_told (note.Bad t w) = Some (heard.Bad w)
heard_told n = None

abbrev pub mode_told : Note → Option ℕ
mode_told (note.Window t m) = Some m
mode_told (note.Detected t m) = Some m
mode_told n = None

abbrev pub value_told : Note → Option ℕ
value_told (note.Good t v q) = Some v
value_told n = None

abbrev pub telemetry_told : Note → Option ℕ
telemetry_told (note.Good t v q) = Some q
telemetry_told n = None

abbrev pub reply_told : Note → Option ℕ
reply_told (note.Reply t s b) = Some b
reply_told n = None

abbrev pub is_reply : Note → Bool
is_reply (note.Reply t s b) = true
is_reply n = false

abbrev pub signal : List Note → Signal
signal notes = record {
  heard = newest heard_told heard.Nowhere notes;
  mode = newest mode_told 0 notes;
  value = newest value_told 0 notes;
  telemetry = newest telemetry_told 0 notes;
  reply = newest reply_told 0 notes;
  replies = count is_reply notes;
}

-- ---- the handlers

-- whether the handler of the kind with a number is open
abbrev pub open_told : ℕ → Note → Option Bool
open_told j (note.Enter t k) = if k == j then Some true else None
open_told j (note.Leave t k) = if k == j then Some false else None
open_told j n = None

abbrev pub handlers : List Note → Handlers
handlers notes = record {
  main = newest (open_told 0) false notes;
  uart = newest (open_told 1) false notes;
  tick = newest (open_told 2) false notes;
  cap = newest (open_told 3) false notes;
  cmp = newest (open_told 4) false notes;
  pwm = newest (open_told 5) false notes;
  comm = newest (open_told 6) false notes;
}

abbrev pub is_open : Handlers → Kind → Bool
is_open h kind.Main = h.main
is_open h kind.Uart = h.uart
is_open h kind.Tick = h.tick
is_open h kind.Cap = h.cap
is_open h kind.Cmp = h.cmp
is_open h kind.Pwm = h.pwm
is_open h kind.Comm = h.comm

-- how many handlers are open
abbrev pub depth : Handlers → ℕ
depth h =
    bit_of h.main + bit_of h.uart + bit_of h.tick + bit_of h.cap + bit_of h.cmp + bit_of h.pwm + bit_of h.comm

-- ---- all of it

abbrev pub picture : List Note → Picture
picture notes = record { drive = drive notes; control = control notes; signal = signal notes; handlers = handlers notes }

-- the time of the newest note, 0 before the first
abbrev pub last_time : List Note → ℕ
last_time notes = newest (λ n. Some (time_of n)) 0 notes

-- ---- a note more: what the note tells, and else what stood before

abbrev pub with_drive : Drive → Note → Drive
with_drive d n = record {
  high = unwrap_or (high_told n) d.high;
  low = unwrap_or (low_told n) d.low;
  sector = unwrap_or (sector_told n) d.sector;
  crossings = if is_crossing n then (d.crossings + 1) % 4294967296 else d.crossings;
  period = unwrap_or (period_told n) d.period;
}

abbrev pub with_control : Control → Note → Control
with_control c n = record {
  armed = unwrap_or (armed_told n) c.armed;
  demand = unwrap_or (demand_told n) c.demand;
  marks = unwrap_or (marks_told n) c.marks;
  cause = unwrap_or (cause_told n) c.cause;
  command = unwrap_or (command_told n) c.command;
  losses = if is_loss n then (c.losses + 1) % 4294967296 else c.losses;
  commands = if is_command n then (c.commands + 1) % 4294967296 else c.commands;
  saves = if is_save n then (c.saves + 1) % 4294967296 else c.saves;
}

abbrev pub with_signal : Signal → Note → Signal
with_signal s n = record {
  heard = unwrap_or (heard_told n) s.heard;
  mode = unwrap_or (mode_told n) s.mode;
  value = unwrap_or (value_told n) s.value;
  telemetry = unwrap_or (telemetry_told n) s.telemetry;
  reply = unwrap_or (reply_told n) s.reply;
  replies = if is_reply n then (s.replies + 1) % 4294967296 else s.replies;
}

-- with the handler of the kind with a number open, or not
abbrev pub with_open : Handlers → ℕ → Bool → Handlers
with_open h k now = record {
  main = if k == 0 then now else h.main;
  uart = if k == 1 then now else h.uart;
  tick = if k == 2 then now else h.tick;
  cap = if k == 3 then now else h.cap;
  cmp = if k == 4 then now else h.cmp;
  pwm = if k == 5 then now else h.pwm;
  comm = if k == 6 then now else h.comm;
}

abbrev pub with_handlers : Handlers → Note → Handlers
with_handlers h n = record {
  main = unwrap_or (open_told 0 n) h.main;
  uart = unwrap_or (open_told 1 n) h.uart;
  tick = unwrap_or (open_told 2 n) h.tick;
  cap = unwrap_or (open_told 3 n) h.cap;
  cmp = unwrap_or (open_told 4 n) h.cmp;
  pwm = unwrap_or (open_told 5 n) h.pwm;
  comm = unwrap_or (open_told 6 n) h.comm;
}

abbrev pub with_note : Picture → Note → Picture
with_note p n = record {
  drive = with_drive p.drive n;
  control = with_control p.control n;
  signal = with_signal p.signal n;
  handlers = with_handlers p.handlers n;
}
