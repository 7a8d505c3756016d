-- CAP's steps keep the ties: it reads the edges, opens a window or sets the timer, replies, and returns.
use Rattle.std.proofs.Common.{◌≡◌, ◌≤◌, ◌<◌, ◌+◌, ℕ, Bool, true, false, if◌then◌else◌, List, [], ◌∷◌, ◌++◌, length, Option, None, refl, sym, subst, arith, ◌⊎◌, inl, inr}
use Rattle.esc_base.specs.declared.kind.Kind.{Kind}
use Rattle.esc_base.specs.declared.kind.Kind.TheVariants as kind
use Rattle.esc_base.specs.Times.{least_pause}
use Rattle.esc_base.specs.declared.signal.Mode.{Mode}
use Rattle.esc_base.specs.declared.signal.Mode.TheVariants as mode
use Rattle.esc_base.specs.declared.note.Note.{Note}
use Rattle.esc_base.specs.declared.note.Note.TheVariants as note
use Rattle.esc_base.specs.Numbers.{mode_number, as_tick}
use Rattle.esc_base.specs.Trace.{line}
use Rattle.edge_capture.specs.Modes.{most}
use Rattle.timer_regs.specs.Bank.{Bank}
use Rattle.timer_regs.specs.Rest.{rests_from}
use Rattle.timer_regs.specs.Effects.{read_value}
use Rattle.timer_regs.specs.declared.regs.Reg.TheVariants as reg
use Rattle.interrupt_machine.specs.Did.{Reads}
use Rattle.esc_core.specs.declared.state.CapAt.{CapAt}
use Rattle.esc_core.specs.declared.state.CapAt.TheVariants as cap
use Rattle.input_detect.specs.Judge.{judged}
use Rattle.settings_block.specs.Settings.{servo_of}
use Rattle.esc_core.specs.Stepped.{goes_on}
use Rattle.esc_core.specs.Cap.{after_edges, after_copy, next_edge, opens, period_read, period_step, reply_from, reply_step, takes, cap_step}
use Rattle.esc_core.specs.Firmware.{cap_left, tick_need}
use Rattle.commutation.specs.Drive.{turns_at, rests_at, period_at}
use Rattle.gcr_reply.specs.Reply.{reply_of}
use Rattle.gcr_reply.proofs.Replies.{reply_of-tells}
use Rattle.esc_laws.specs.Place.{Signal, Listens, Judged, Owes, Tells, Replies, Rests}
use Rattle.esc_laws.specs.Windowed.{Answers, AnswersAt, OpensAt}
use Rattle.esc_rooms.specs.Tied.{IsClosing, IsCopying, IsJudged, HasBurst, SignalTied, TimerTied, WindowSound}
use Rattle.esc_rooms.specs.World.{World, so_far}
use Rattle.esc_core.specs.declared.state.CommAt.TheVariants as comm
use Rattle.esc_rooms.specs.Rooms.{Ground, cap_seen, PeriodTie, StepKeeps}
use Rattle.esc_rooms.proofs.cmp.CrossFacts.{tick_unmasked}
use Rattle.esc_rooms.proofs.cap.Period.{sum_tells}
use Rattle.esc_rooms.proofs.cap.Ties.{start_tied, copy_goes, copy_tied}
use Rattle.esc_rooms.proofs.cap.JudgedTies.{period_tied, reply_starts, reply_tied, opens_tied, pause_tied, replied_tied, back_tied, back_timer, back_done, back_may, back_replied}
use Rattle.esc_laws.proofs.Rests.{set_now}
use Rattle.esc_rooms.proofs.shared.RoomSteps.{quiet_gates, ground_noted, inside, popped, if_true, if_false}
use Rattle.esc_laws.specs.NoteLaw as owed
use Rattle.esc_rooms.proofs.cap.Judgements.{judged_answers, cap_judge_preserves}

most_edges : (m : Mode) (n : ℕ) → n ≤ most m → n ≤ 32
most_edges mode.Servo n le = omega arith
most_edges m n le = le

pub window_few : (b : Bank) → WindowSound b.window b.time → length b.window.edges ≤ 32
window_few b w = most_edges b.window.mode (length b.window.edges) w.few

-- ---- it reads the edges

cap_start_preserves : (x : World) (outer : List Kind) (w m : ℕ) → Ground x → PeriodTie x → WindowSound x.bank.window x.bank.time
    → (so_far x).signal ≡ Listens w m
    → IsClosing (cap_seen x) w m → (so_far x).stack ≡ kind.Cap ∷ outer
    → StepKeeps kind.Cap outer x (goes_on (record x.core { burst = []; cap_at = after_edges (read_value x.bank reg.CapState) }) (Reads reg.CapState))
cap_start_preserves x outer w m g per sound e k on = record {
  gates = quiet_gates kind.Cap x _ (λ e. cc) refl refl refl;
  fits = λ told. tt;
  ground = g;
  tie = λ told. (start_tied x.trace x.core x.bank (so_far x) w m e (window_few x.bank sound) k, sound, rw e tt, per);
  others = elim [ kind.Cap ↦ λ ne t. absurd (ne refl) | j ↦ λ ne t. t ];
  stack_is = on;
}

cap_copy_preserves : (v : Bool) (x : World) (outer : List Kind) (w m left : ℕ) → v ≡ true → Ground x → PeriodTie x → WindowSound x.bank.window x.bank.time
    → (so_far x).signal ≡ Listens w m → IsCopying (cap_seen x) w m left → (so_far x).stack ≡ kind.Cap ∷ outer
    → StepKeeps kind.Cap outer x (goes_on (
    if v
    then record x.core { burst = x.core.burst ++ next_edge x.core x.bank ∷ []; cap_at = after_copy left }
    else record x.core { cap_at = cap.Back }) (Reads (reg.CapEdge (length x.core.burst))))
cap_copy_preserves true x outer w m left v g per sound e k on = record {
  gates = quiet_gates kind.Cap x _ (λ e. cc) refl refl refl;
  fits = λ told. tt;
  ground = g;
  tie = λ told. (copy_tied x.trace x.core x.bank (so_far x) w m left e sound g.outside.small k, sound, rw e tt, per);
  others = elim [ kind.Cap ↦ λ ne t. absurd (ne refl) | j ↦ λ ne t. t ];
  stack_is = on;
}
cap_copy_preserves false x outer w m left v g per sound e k on = cc

-- ---- it opens a window, or sets the timer

cap_open_preserves : (x : World) (outer : List Kind) (s : Signal) → Ground x → PeriodTie x → (so_far x).signal ≡ s
    → OpensAt x.trace s (so_far x).cap_entered x.bank.time
    → x.bank.timer ≡ None
    → ((so_far x).verdicts ≡ 1) ⊎ (((so_far x).verdicts ≡ 0) × ((so_far x).windows ≡ 0)) → (so_far x).stack ≡ kind.Cap ∷ outer
    → StepKeeps kind.Cap outer x (opens x.core x.bank)
cap_open_preserves x outer s g per e may none done on = record {
  gates = quiet_gates kind.Cap x _ (λ e. cc) refl refl refl;
  fits = λ told. (
    record {
      at = refl;
      owned = refl;
      keeps = record {
        laws = elim [ owed.Windows ↦ (rw e may, g.control.ties.mode_is) | owed.Nests ↦ inside (so_far x).stack kind.Cap outer on | l ↦ tt ];
        waits = tt;
      };
    },
    tt,
  );
  ground = ground_noted x (note.Window (as_tick x.bank.time) (mode_number x.core.control.mode)) refl refl tt refl g;
  tie = λ told. (
    opens_tied x.trace x.core x.bank (so_far x) g.outside.edges.0 none done,
    record { past = λ k d l. absurd (omega arith); order = λ a b le l. absurd (omega arith); few = omega arith },
    tt,
    per,
  );
  others = elim [ kind.Cap ↦ λ ne t. absurd (ne refl) | j ↦ λ ne t. t ];
  stack_is = on;
}

cap_pause_preserves : (x : World) (outer : List Kind) (f at : ℕ) (opens_next : Bool) → Ground x → PeriodTie x → WindowSound x.bank.window x.bank.time
    → (so_far x).signal ≡ Judged f opens_next → IsJudged (cap_seen x) → opens_next ≡ false → at ≡ f + least_pause
    → (so_far x).stack ≡ kind.Cap ∷ outer → StepKeeps kind.Cap outer x (cap_step (cap.Pause at) x.core x.bank)
cap_pause_preserves x outer f at opens_next g per sound e k shut is on = record {
  gates = quiet_gates kind.Cap x _ (λ e. cc) refl refl refl;
  fits = λ told. tt;
  ground = g;
  tie = λ told. (
    pause_tied x.trace x.core x.bank (so_far x) f at opens_next e k shut,
    sound,
    rw (e, is) (set_now (line x.trace).edges (f + least_pause) x.bank.time (rests_from x.bank.changed) g.outside.edges.0 g.outside.rested),
    per,
  );
  others = elim [ kind.Cap ↦ λ ne t. absurd (ne refl) | j ↦ λ ne t. t ];
  stack_is = on;
}

cap_replied_preserves : (x : World) (outer : List Kind) (end at : ℕ) → Ground x → PeriodTie x → WindowSound x.bank.window x.bank.time
    → (so_far x).signal ≡ Replies end → IsJudged (cap_seen x) → at ≡ end
    → (so_far x).stack ≡ kind.Cap ∷ outer → StepKeeps kind.Cap outer x (cap_step (cap.Pause at) x.core x.bank)
cap_replied_preserves x outer end at g per sound e k is on = record {
  gates = quiet_gates kind.Cap x _ (λ e. cc) refl refl refl;
  fits = λ told. tt;
  ground = g;
  tie = λ told. (
    replied_tied x.trace x.core x.bank (so_far x) end at e k,
    sound,
    rw (e, is) (set_now (line x.trace).edges end x.bank.time (rests_from x.bank.changed) g.outside.edges.0 g.outside.rested),
    per,
  );
  others = elim [ kind.Cap ↦ λ ne t. absurd (ne refl) | j ↦ λ ne t. t ];
  stack_is = on;
}

-- ---- it replies

cap_period_preserves : (x : World) (outer : List Kind) (w m : ℕ) → Ground x → PeriodTie x → WindowSound x.bank.window x.bank.time
    → (so_far x).signal ≡ Owes w m → IsJudged (cap_seen x) → HasBurst (cap_seen x) w m → period_read x.bank ≡ period_at x.back
    → (so_far x).stack ≡ kind.Cap ∷ outer → StepKeeps kind.Cap outer x (period_step x.core x.bank)
cap_period_preserves x outer w m g per sound e k heard is on = record {
  gates = quiet_gates kind.Cap x _ (λ e. cc) refl refl refl;
  fits = λ told. (
    record {
      at = refl;
      owned = refl;
      keeps = record { laws = elim [ owed.Replies ↦ rw e is | owed.Nests ↦ inside (so_far x).stack kind.Cap outer on | l ↦ tt ]; waits = tt };
    },
    tt,
  );
  ground = ground_noted x (note.Period (as_tick x.bank.time) (period_read x.bank)) refl refl tt refl g;
  tie = λ told. (period_tied x.trace x.core x.bank (so_far x) w m e k heard, sound, rw e tt, per);
  others = elim [ kind.Cap ↦ λ ne t. absurd (ne refl) | j ↦ λ ne t. t ];
  stack_is = on;
}

cap_reply_preserves : (x : World) (outer : List Kind) (w m : ℕ) (told_period period : Option ℕ) → Ground x → PeriodTie x → WindowSound x.bank.window x.bank.time
    → (so_far x).signal ≡ Tells w m told_period → IsJudged (cap_seen x) → HasBurst (cap_seen x) w m → period ≡ told_period
    → (so_far x).stack ≡ kind.Cap ∷ outer → StepKeeps kind.Cap outer x (reply_step period x.core x.bank)
cap_reply_preserves x outer w m told_period period g per sound e k heard is on = record {
  gates = quiet_gates kind.Cap x _ (λ e. cc) refl refl refl;
  fits = λ told. (
    record {
      at = refl;
      owned = refl;
      keeps = record {
        laws = elim [
          | owed.Replies ↦ rw (e, ← is) (record { start_is = reply_starts (cap_seen x) w m x.bank.time heard; bits_are = reply_of-tells period })
          | owed.Nests ↦ inside (so_far x).stack kind.Cap outer on
          | l ↦ tt
        ];
        waits = tt;
      };
    },
    tt,
  );
  ground = ground_noted x (note.Reply (as_tick x.bank.time) (as_tick (reply_from x.core x.bank)) (reply_of period)) refl refl tt refl g;
  tie = λ told. (reply_tied x.trace x.core x.bank (so_far x) w m told_period period e k heard, sound, rw e tt, per);
  others = elim [ kind.Cap ↦ λ ne t. absurd (ne refl) | j ↦ λ ne t. t ];
  stack_is = on;
}

-- the register tells the period by the notes: COMM is shut, and TICK isn't under the mask
period_read_told : (x : World) → PeriodTie x → x.core.comm_at ≡ comm.Shut → 8 < tick_need x.core.tick_at → period_read x.bank ≡ period_at x.back
period_read_told x per shut need =
    sum_tells x.bank.period (turns_at x.back) (rests_at x.back) per.falls (per.period_is (rw shut refl) (tick_unmasked x.core.tick_at need))

-- ---- it returns

cap_return_preserves : (x : World) (outer : List Kind) → Ground x → PeriodTie x → SignalTied (so_far x).signal cap.Back (cap_seen x)
    → WindowSound x.bank.window x.bank.time → TimerTied (so_far x).signal cap.Back (line x.trace).edges x.made.cap_past x.bank.timer
    → x.made.cap_past ≤ x.bank.time → (so_far x).stack ≡ kind.Cap ∷ outer
    → StepKeeps kind.Cap outer x (cap_step cap.Back x.core x.bank)
cap_return_preserves x outer g per tied sound timer past on = record {
  gates = quiet_gates kind.Cap x _ (λ e. cc) refl refl refl;
  fits = λ told. (
    record {
      at = refl;
      owned = refl;
      keeps = record {
        laws = elim [
          | owed.Windows ↦ λ e. back_may x.trace x.core x.bank (so_far x) (so_far x).signal tied
          | owed.Replies ↦ λ e. back_replied x.trace x.core x.bank (so_far x) (so_far x).signal tied
          | owed.Drives ↦ λ e. cc
          | owed.Searches ↦ λ e. cc
          | owed.Nests ↦ (inside (so_far x).stack kind.Cap outer on, back_done x.trace x.core x.bank (so_far x) (so_far x).signal tied)
          | l ↦ tt
        ];
        waits = tt;
      };
    },
    tt,
  );
  ground = ground_noted x (note.Leave (as_tick x.bank.time) 3) refl refl tt refl g;
  tie = λ told. (
    back_tied x.trace x.core x.bank (so_far x) (so_far x).signal x.bank.time refl tied,
    sound,
    back_timer (so_far x).signal (cap_seen x) (line x.trace).edges x.made.cap_past x.bank.time x.bank.timer tied past timer,
    per,
  );
  others = elim [ kind.Cap ↦ λ ne t. absurd (ne refl) | j ↦ λ ne t. t ];
  stack_is = popped (so_far x).stack kind.Cap outer on;
}

-- ---- all its steps

answered : (x : World) (s : Signal) (w m t : ℕ) (n : Note) → s ≡ Listens w m → Answers x.loaded x.trace w m (so_far x).cap_entered t n
    → AnswersAt x.loaded x.trace s (so_far x).cap_entered t n
answered x s w m t n e a = rw e a

pub cap_steps_preserve : (s : Signal) (at : CapAt) (x : World) (outer : List Kind) → Ground x → PeriodTie x → WindowSound x.bank.window x.bank.time
    → (so_far x).signal ≡ s
    → SignalTied s at (cap_seen x) → TimerTied s at (line x.trace).edges x.made.cap_past x.bank.timer → x.made.cap_past ≤ x.bank.time
    → (so_far x).stack ≡ kind.Cap ∷ outer → x.core.comm_at ≡ comm.Shut → 8 < tick_need x.core.tick_at → 0 < cap_left at
    → StepKeeps kind.Cap outer x (cap_step at x.core x.bank)
cap_steps_preserve s cap.Shut x outer g per sound e k timer past on shut need left = absurd (omega arith)
cap_steps_preserve s cap.Back x outer g per sound e k timer past on shut need left =
    cap_return_preserves x outer g per (subst (λ (r : Signal). SignalTied r cap.Back (cap_seen x)) (sym e) k) sound
    (subst (λ (r : Signal). TimerTied r cap.Back (line x.trace).edges x.made.cap_past x.bank.timer) (sym e) timer) past on
cap_steps_preserve (Listens w m) cap.Start x outer g per sound e k timer past on shut need left = if_false x.core.paused kind.Cap outer x _ _ k.hears.running
    (cap_start_preserves x outer w m g per sound e k on)
cap_steps_preserve (Listens w m) (cap.Copy rest) x outer g per sound e k timer past on shut need left =
    cap_copy_preserves (takes x.core.burst (next_edge x.core x.bank)) x outer w m rest
    (copy_goes x.trace x.core x.bank (so_far x) w m rest (window_few x.bank sound) sound g.outside.small k) g per sound e k on
cap_steps_preserve (Listens w m) cap.Judge x outer g per sound e k timer past on shut need left =
    cap_judge_preserves (judged x.core.window x.core.burst x.core.orders.settings.input (servo_of x.core.orders.settings)) x outer w m g per sound e k.0 k.1
    (answered x (so_far x).signal w m x.bank.time _ e (judged_answers x w m g k.0 k.1)) on shut
cap_steps_preserve (Judged f opens_next) cap.Open x outer g per sound e k timer past on shut need left =
    cap_open_preserves x outer (Judged f opens_next) g per e k.1 k.0.no_timer (inl k.0.verdict) on
cap_steps_preserve (Judged f opens_next) (cap.Pause at) x outer g per sound e k timer past on shut need left =
    cap_pause_preserves x outer f at opens_next g per sound e k.0 k.1.0 k.1.1 on
cap_steps_preserve (Owes w m) cap.Period x outer g per sound e k timer past on shut need left =
    cap_period_preserves x outer w m g per sound e k.0 k.1 (period_read_told x per shut need) on
cap_steps_preserve (Tells w m told) (cap.Reply period) x outer g per sound e k timer past on shut need left =
    cap_reply_preserves x outer w m told period g per sound e k.0 k.1.0 k.1.1 on
cap_steps_preserve (Replies end) (cap.Pause at) x outer g per sound e k timer past on shut need left =
    cap_replied_preserves x outer end at g per sound e k.0 k.1 on
cap_steps_preserve (Rests from latest r) cap.Start x outer g per sound e k timer past on shut need left =
    if_true x.core.paused kind.Cap outer x _ _ k.paused (cap_open_preserves x outer (Rests from latest r) g per e
    (record { rested = k.rested; entered_before = k.entered }) k.no_timer (inr (k.no_verdict, k.no_window)) on)
cap_steps_preserve s at x outer g per sound e k timer past on shut need left = absurd k
