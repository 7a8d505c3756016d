-- The steps of CAP: it reads the edges of a closed window, judges them, and opens the next window or sets the window
-- timer; where the timer was set it opens a window. A good frame of an inverted mode gets a reply, and the window timer is
-- set for its end.
use Rattle.std.specs.Prelude.{ℕ, ◌+◌, ◌-◌, min, Bool, true, false, ◌&&◌, ◌==◌, nat_le, nat_lt, if◌then◌else◌, List, [], ◌∷◌, ◌++◌, length, Option, Some, None}
use Rattle.esc_base.specs.declared.signal.Edge.{Edge}
use Rattle.esc_base.specs.declared.signal.Frame.{Frame}
use Rattle.esc_base.specs.declared.signal.Mode.{Mode}
use Rattle.esc_base.specs.declared.signal.Mode.TheVariants.{D300Inv, D600Inv}
use Rattle.esc_base.specs.declared.note.Note.{Note}
use Rattle.esc_base.specs.declared.note.Note.TheVariants as note
use Rattle.esc_base.specs.Numbers.{as_tick, bit_of, mode_number, why_number}
use Rattle.esc_base.specs.Times.{least_pause}
use Rattle.edge_capture.specs.Edges.{last_at}
use Rattle.timer_regs.specs.Bank.{Bank}
use Rattle.timer_regs.specs.Effects.{read_value}
use Rattle.timer_regs.specs.declared.regs.Reg.TheVariants as reg
use Rattle.interrupt_machine.specs.Did.{NoAccess, Reads, Writes}
use Rattle.dshot_commands.specs.declared.act.Act.{Act}
use Rattle.dshot_commands.specs.Act.{acting, number_of}
use Rattle.arming.specs.Kept.{after_found, after_frame}
use Rattle.esc_core.specs.declared.state.CapAt.{CapAt}
use Rattle.esc_core.specs.declared.state.CapAt.TheVariants as cap
use Rattle.input_detect.specs.declared.window.Judgement.{Judgement}
use Rattle.input_detect.specs.declared.window.Judgement.TheVariants.{Good, Bad, Found, Nothing}
use Rattle.gcr_reply.specs.Reply.{reply_of}
use Rattle.esc_core.specs.Reply.{period_of, starts_from, ends_from}
use Rattle.esc_core.specs.Brain.{Brain}
use Rattle.input_detect.specs.Judge.{judged}
use Rattle.settings_block.specs.Settings.{servo_of}
use Rattle.esc_core.specs.Orders.{obeyed_if}
use Rattle.esc_core.specs.Stepped.{Stepped, goes_on, goes_back}

-- the edge that a register shows
abbrev pub edge_of : ℕ → Edge
edge_of v = if nat_lt v 2147483648 then record { t = as_tick v; level = false } else record { t = as_tick (v - 2147483648); level = true }

-- an edge that a burst may go on with
abbrev pub takes : List Edge → Edge → Bool
takes burst e = nat_lt (length burst) 32 && nat_le (last_at burst) e.t.0

-- the edge that is read next
abbrev pub next_edge : Brain → Bank → Edge
next_edge c b = edge_of (read_value b (reg.CapEdge (length c.burst)))

-- a window opens in the mode of control
abbrev pub opens : Brain → Bank → Stepped
opens c b = record {
  core = record c { cap_at = cap.Back; window = c.control.mode; paused = false };
  access = Writes reg.CapArm (mode_number c.control.mode);
  notes = note.Window (as_tick b.time) (mode_number c.control.mode) ∷ [];
  over = false;
}

abbrev pub command_note : ℕ → Option Act → List Note
command_note t None = []
command_note t (Some act) = note.Command (as_tick t) (number_of act) ∷ []

-- the pause after a bad window, from the tick of its verdict
abbrev pub pause_from : ℕ → ℕ
pause_from t = t + least_pause

-- the act of a good frame's command, where it acts
abbrev pub act_in : Brain → Frame → Option Act
act_in c frame = acting (after_frame c.control frame.value).run.frames frame.value

-- a good frame of an inverted mode is answered; after any other the next window opens at once
abbrev pub after_good : Mode → CapAt
after_good D300Inv = cap.Period
after_good D600Inv = cap.Period
after_good m = cap.Open

abbrev pub judge_step : Judgement → Brain → Bank → Stepped
judge_step (Good frame) c b = record {
  core = record c { cap_at = after_good c.window; control = after_frame c.control frame.value; orders = obeyed_if c.orders (act_in c frame) };
  access = NoAccess;
  notes = note.Good (as_tick b.time) frame.value (bit_of frame.telemetry) ∷ command_note b.time (act_in c frame);
  over = false;
}
judge_step (Bad why) c b = record {
  core = record c { cap_at = cap.Pause (pause_from b.time) };
  access = NoAccess;
  notes = note.Bad (as_tick b.time) (why_number why) ∷ [];
  over = false;
}
judge_step (Found mode) c b = record {
  core = record c { cap_at = cap.Open; control = after_found c.control mode };
  access = NoAccess;
  notes = note.Detected (as_tick b.time) (mode_number mode) ∷ [];
  over = false;
}
judge_step Nothing c b = record {
  core = record c { cap_at = cap.Pause (pause_from b.time) };
  access = NoAccess;
  notes = note.Nothing (as_tick b.time) ∷ [];
  over = false;
}

-- a window has at most 32 edges
abbrev pub after_edges : ℕ → CapAt
after_edges n = if n == 0 then cap.Back else cap.Copy (min n 32)

abbrev pub after_copy : ℕ → CapAt
after_copy rest = if nat_le rest 1 then cap.Judge else cap.Copy (rest - 1)

-- the period that is read for a reply
abbrev pub period_read : Bank → Option ℕ
period_read b = period_of (read_value b reg.Period)

abbrev pub period_step : Brain → Bank → Stepped
period_step c b = record {
  core = record c { cap_at = cap.Reply (period_read b) };
  access = Reads reg.Period;
  notes = note.Period (as_tick b.time) (period_read b) ∷ [];
  over = false;
}

-- the start of the reply that is loaded now
abbrev pub reply_from : Brain → Bank → ℕ
reply_from c b = starts_from c.burst b.time

-- the reply that tells a period is loaded, and the window timer will be set for the reply's end
abbrev pub reply_step : Option ℕ → Brain → Bank → Stepped
reply_step period c b = record {
  core = record c { cap_at = cap.Pause (ends_from c.window (reply_from c b)) };
  access = Writes reg.Reply (reply_of period);
  notes = note.Reply (as_tick b.time) (as_tick (reply_from c b)) (reply_of period) ∷ [];
  over = false;
}

abbrev pub cap_step : CapAt → Brain → Bank → Stepped
cap_step cap.Start c b =
    if c.paused then opens c b
    else goes_on (record c { burst = []; cap_at = after_edges (read_value b reg.CapState) }) (Reads reg.CapState)
cap_step (cap.Copy rest) c b =
    goes_on
    (if takes c.burst (next_edge c b)
    then record c { burst = c.burst ++ next_edge c b ∷ []; cap_at = after_copy rest }
    else record c { cap_at = cap.Back })
    (Reads (reg.CapEdge (length c.burst)))
cap_step cap.Judge c b = judge_step (judged c.window c.burst c.orders.settings.input (servo_of c.orders.settings)) c b
cap_step cap.Open c b = opens c b
cap_step cap.Period c b = period_step c b
cap_step (cap.Reply period) c b = reply_step period c b
cap_step (cap.Pause at) c b = goes_on (record c { cap_at = cap.Back; paused = true }) (Writes reg.CapAt at)
cap_step cap.Back c b = goes_back (record c { cap_at = cap.Shut })
cap_step cap.Shut c b = goes_back (record c { cap_at = cap.Shut })
