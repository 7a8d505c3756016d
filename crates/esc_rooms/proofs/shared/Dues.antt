-- What the notes call for is due by the registers; and what the ties to the newest window become as time goes on or the
-- trace grows.
use Rattle.std.proofs.Common.{◌≡◌, ◌≤◌, ◌+◌, ℕ, Bool, true, not, ◌==◌, nat_le, max, List, length, Some, None, refl, sym, ◌∙◌, arith}
use Rattle.std.proofs.lemmas.Bool.{and_parts, or_left, or_right, leb-true, cond-false, not-true}
use Rattle.esc_base.specs.declared.kind.Kind.TheVariants as kind
use Rattle.esc_base.specs.declared.signal.Edge.{Edge}
use Rattle.esc_base.specs.declared.signal.Mode.{Mode}
use Rattle.esc_base.specs.declared.event.Event.{Event}
use Rattle.esc_base.specs.Trace.{line}
use Rattle.edge_capture.specs.Edges.{last_at}
use Rattle.edge_capture.specs.Burst.{burst, close, close_of, is_closed, wait}
use Rattle.edge_capture.specs.Window.{window_closed}
use Rattle.timer_regs.specs.Bank.{Bank}
use Rattle.timer_regs.specs.Effects.{is_readable, after_entry}
use Rattle.interrupt_machine.specs.Open.{due_now}
use Rattle.esc_core.specs.declared.state.CapAt.{CapAt}
use Rattle.esc_core.specs.declared.state.CapAt.TheVariants as cap
use Rattle.esc_core.specs.Brain.{Brain}
use Rattle.esc_core.specs.Firmware.{entered_core}
use Rattle.esc_base.specs.declared.note.Note.TheVariants as note
use Rattle.esc_base.specs.Numbers.{mode_of, as_tick}
use Rattle.esc_laws.specs.Place.{Signal, Listens, Judged, Owes, Tells, Replies, Rests, Place, next}
use Rattle.esc_laws.specs.Rested.{first_rested}
use Rattle.esc_laws.specs.Seen.{calls_cap}
use Rattle.esc_rooms.specs.Tied.{CapView, cap_view, Hears, IsClosing, IsListening, IsJudged, HasBurst, IsPaused, IsOver, SignalTied, TimerTied}
use Rattle.esc_rooms.proofs.shared.Facts.{due_window, due_timer, cap_due_window, cap_due_timer}
use Rattle.esc_laws.proofs.Growth.{reached_closed}
use Rattle.esc_laws.proofs.Rests.{first_by}

-- ---- a window that is closed by the trace is closed by the registers, and back

heard_closed : (v : CapView) (w m : ℕ) → Hears v w m → is_closed (mode_of m) (burst (line v.trace).edges w (mode_of m)) v.time ≡ true
    → window_closed v.window v.time ≡ true
heard_closed v w m h c = rw (h.armed, h.mode, h.edges) c

closed_heard : (v : CapView) (w m : ℕ) → Hears v w m → window_closed v.window v.time ≡ true
    → is_closed (mode_of m) (burst (line v.trace).edges w (mode_of m)) v.time ≡ true
closed_heard v w m h c = rw (h.armed, h.mode, h.edges) at c

-- a CAP that the notes call for is due
pub cap_called : (due : Bool) (s : Signal) (trace : List Event) (c : Brain) (b : Bank) (p : Place) (since : ℕ) → SignalTied s cap.Shut (cap_view trace c b p)
    → TimerTied s cap.Shut (line trace).edges since b.timer → calls_cap trace s b.time ≡ true → due_now due b kind.Cap ≡ true
cap_called due (Listens w m) trace c b p since i timer e =
    cap_due_window due b
    (heard_closed (cap_view trace c b p) w m i.hears (sym (reached_closed (mode_of m) (burst (line trace).edges w (mode_of m)) b.time) ∙ e))
    i.untaken
cap_called due (Rests from latest r) trace c b p since i timer e =
    cap_due_timer due b timer.at timer.armed
    (let order = i.1 in let s = timer.soon (max latest r) (omega arith) (omega arith) in let l = leb-true
    (first_rested (line trace).edges (max latest r)) b.time e in omega arith)
cap_called due s trace c b p since i timer e = absurd i

-- ---- CAP is entered

-- the tick at which a closed window closed
pub record ClosedBy (m : Mode) (heard : List Edge) (t : ℕ) : Type 0 where
  pub at : ℕ
  pub closes : close_of m heard ≡ Some at
  pub past : at ≤ t

closed_by : (m : Mode) (heard : List Edge) (t : ℕ) → is_closed m heard t ≡ true → ClosedBy m heard t
closed_by m heard t e =
    let parts = and_parts (not (length heard == 0)) (nat_le (last_at heard + wait m heard) t) e in
    record {
      at = last_at heard + wait m heard;
      closes = cond-false (length heard == 0) None (Some (last_at heard + wait m heard))
          (not-true (length heard == 0) parts.0);
      past = leb-true (last_at heard + wait m heard) t parts.1;
    }

-- the place after an I of CAP
abbrev pub cap_place : Place → ℕ → Place
cap_place p t = next p (note.Enter (as_tick t) 3)

pub cap_entered : (due : Bool) (s : Signal) (trace : List Event) (c : Brain) (b : Bank) (p : Place) (since : ℕ) → p.signal ≡ s
    → SignalTied s cap.Shut (cap_view trace c b p) → TimerTied s cap.Shut (line trace).edges since b.timer → due_now due b kind.Cap ≡ true
    → SignalTied (cap_place p b.time).signal cap.Start (cap_view trace (entered_core c kind.Cap) (after_entry b kind.Cap) (cap_place p b.time))
cap_entered due (Listens w m) trace c b p since e i timer d =
    let readable : is_readable b ≡ true = due_window due b i.hears.no_timer d in
    let by = closed_by (mode_of m) (burst (line trace).edges w (mode_of m)) b.time (closed_heard (cap_view trace c b p) w m i.hears readable) in
    rw e (record {
      hears = record {
        armed = i.hears.armed;
        mode = i.hears.mode;
        opened = i.hears.opened;
        edges = i.hears.edges;
        core_mode = i.hears.core_mode;
        running =
            i.hears.running;
        no_timer = refl;
      };
      closed_at = by.at;
      closes = by.closes;
      waits = by.past;
      entered = omega arith;
      taken = or_right b.taken (is_readable b) readable;
      no_window = refl;
      no_verdict = refl;
    })
cap_entered due (Rests from latest r) trace c b p since e i timer d =
    rw e (record {
      taken = or_left b.taken (is_readable b) i.0.taken;
      paused = i.0.paused;
      no_timer = refl;
      rested = (
          let reached = due_timer due b timer.at timer.armed i.0.taken d in
          let by = first_by (line trace).edges from timer.at timer.rested timer.late in
          omega arith);
      entered = omega arith;
      no_window = refl;
      no_verdict = refl;
    })
cap_entered due s trace c b p since e i timer d = absurd i

-- ---- time goes on, or the trace grows

-- a later view, in which windows have heard what they hear of the longer trace
pub record Follows (v v' : CapView) : Type 0 where
  pub later : v.time ≤ v'.time
  pub taken : v'.taken ≡ v.taken
  pub timer : v.timer ≡ None → v'.timer ≡ None
  pub mode : v'.mode ≡ v.mode
  pub copied : v'.copied ≡ v.copied
  pub paused : v'.paused ≡ v.paused
  pub entered : v'.entered ≡ v.entered
  pub windows : v'.windows ≡ v.windows
  pub verdicts : v'.verdicts ≡ v.verdicts
  pub hears : (w m : ℕ) → Hears v w m → Hears v' w m
  pub settled : (w m : ℕ) → IsClosing v w m → v'.window.edges ≡ v.window.edges
  pub closes : (w m c : ℕ) → close (line v.trace).edges w (mode_of m) ≡ Some c → c ≤ v.time → close (line v'.trace).edges w (mode_of m) ≡ Some c
  pub bursts : (w m c : ℕ) → close (line v.trace).edges w (mode_of m) ≡ Some c → c ≤ v.time
      → burst (line v'.trace).edges w (mode_of m) ≡ burst (line v.trace).edges w (mode_of m)
  pub rested : (t : ℕ) → first_rested (line v.trace).edges t ≤ v.time → first_rested (line v'.trace).edges t ≤ first_rested (line v.trace).edges t

closing_follows : (v v' : CapView) (w m : ℕ) → Follows v v' → IsClosing v w m → IsClosing v' w m
closing_follows v v' w m f i = record {
  hears = f.hears w m i.hears;
  closed_at = i.closed_at;
  closes = f.closes w m i.closed_at i.closes (let a = i.waits in let b = i.entered in omega arith);
  waits = rw f.entered i.waits;
  entered = (let a = i.entered in let b = f.later in let e = f.entered in omega arith);
  taken = f.taken ∙ i.taken;
  no_window = f.windows ∙ i.no_window;
  no_verdict = f.verdicts ∙ i.no_verdict;
}

listening_follows : (v v' : CapView) (w m : ℕ) → Follows v v' → IsListening v w m → IsListening v' w m
listening_follows v v' w m f i = record { hears = f.hears w m i.hears; untaken = f.taken ∙ i.untaken }

judged_follows : (v v' : CapView) → Follows v v' → IsJudged v → IsJudged v'
judged_follows v v' f i = record { verdict = f.verdicts ∙ i.verdict; taken = f.taken ∙ i.taken; running = f.paused ∙ i.running; no_timer = f.timer i.no_timer }

paused_follows : (v v' : CapView) → Follows v v' → IsPaused v → IsPaused v'
paused_follows v v' f i = record { taken = f.taken ∙ i.taken; paused = f.paused ∙ i.paused }

over_follows : (v v' : CapView) (at : ℕ) → Follows v v' → IsOver v at → IsOver v' at
over_follows v v' at f i = record {
  taken = f.taken ∙ i.taken;
  paused = f.paused ∙ i.paused;
  no_timer = f.timer i.no_timer;
  rested = (let a = i.rested in let b = i.entered in let r = f.rested at (omega arith) in let e = f.entered in omega arith);
  entered = (let a = i.entered in let b = f.later in let e = f.entered in omega arith);
  no_window = f.windows ∙ i.no_window;
  no_verdict = f.verdicts ∙ i.no_verdict;
}

burst_follows : (v v' : CapView) (w m : ℕ) → Follows v v' → HasBurst v w m → HasBurst v' w m
burst_follows v v' w m f h = record {
  closed_at = h.closed_at;
  closes = f.closes w m h.closed_at h.closes h.past;
  past = (let a = h.past in let b = f.later in omega arith);
  copied = f.copied ∙ h.copied ∙ sym (f.bursts w m h.closed_at h.closes h.past);
  core_mode = f.mode ∙ h.core_mode;
}

pub signal_follows : (s : Signal) (at : CapAt) (v v' : CapView) → Follows v v' → SignalTied s at v → SignalTied s at v'
signal_follows (Listens w m) cap.Shut v v' f i = listening_follows v v' w m f i
signal_follows (Listens w m) cap.Start v v' f i = closing_follows v v' w m f i
signal_follows (Listens w m) (cap.Copy rest) v v' f i = record {
  closing = closing_follows v v' w m f i.closing;
  copied = rw (f.copied, f.settled w m i.closing) i.copied;
  some = i.some;
  within = rw (f.settled w m i.closing) i.within;
}
signal_follows (Listens w m) cap.Judge v v' f i = (closing_follows v v' w m f i.0, rw (f.copied, f.settled w m i.0) i.1)
signal_follows (Listens w m) cap.Back v v' f i = (listening_follows v v' w m f i.0, rw (f.verdicts, f.windows) i.1)
signal_follows (Judged at opens_next) cap.Open v v' f i = (judged_follows v v' f i.0, i.1)
signal_follows (Judged at opens_next) (cap.Pause t) v v' f i = (judged_follows v v' f i.0, i.1)
signal_follows (Judged at opens_next) cap.Back v v' f i = (paused_follows v v' f i.0, (i.1.0, f.verdicts ∙ i.1.1))
signal_follows (Owes w m) cap.Period v v' f i = (judged_follows v v' f i.0, burst_follows v v' w m f i.1)
signal_follows (Tells w m told) (cap.Reply period) v v' f i = (judged_follows v v' f i.0, (burst_follows v v' w m f i.1.0, i.1.1))
signal_follows (Replies end) (cap.Pause t) v v' f i = (judged_follows v v' f i.0, i.1)
signal_follows (Replies end) cap.Back v v' f i = (paused_follows v v' f i.0, f.verdicts ∙ i.1)
signal_follows (Rests from latest r) cap.Shut v v' f i = (paused_follows v v' f i.0, i.1)
signal_follows (Rests from latest r) cap.Start v v' f i = over_follows v v' from f i
signal_follows s at v v' f i = absurd i

-- the same view at a later tick
pub time_follows : (v : CapView) (u : ℕ) → v.time ≤ u → Follows v (record v { time = u })
time_follows v u le = record {
  later = le;
  taken = refl;
  timer = λ n. n;
  mode = refl;
  copied = refl;
  paused = refl;
  entered = refl;
  windows = refl;
  verdicts = refl;
  hears =
      λ w m h. record {
        armed = h.armed;
        mode = h.mode;
        opened = h.opened;
        edges = h.edges;
        core_mode = h.core_mode;
        running = h.running;
        no_timer =
            h.no_timer;
      };
  settled = λ w m i. refl;
  closes = λ w m c e l. e;
  bursts = λ w m c e l. refl;
  rested = λ t le. omega arith;
}
