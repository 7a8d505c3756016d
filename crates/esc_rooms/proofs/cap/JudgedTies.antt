-- CAP's tie after it has judged: the reply, the next window, the return.
use Rattle.std.proofs.Common.{◌≡◌, ◌≤◌, ◌+◌, ℕ, Bool, true, false, ◌==◌, max, if◌then◌else◌, List, [], ◌∷◌, ◌++◌, length, Option, Some, None, refl, sym, ◌∙◌, ap, arith, All, ◌⊎◌, inl, inr}
use Rattle.std.proofs.lemmas.Bool.{ne_eqb}
use Rattle.esc_base.specs.declared.signal.Edge.{Edge}
use Rattle.esc_base.specs.declared.signal.Mode.{Mode}
use Rattle.esc_base.specs.declared.signal.Mode.TheVariants as mode
use Rattle.esc_base.specs.declared.event.Event.{Event}
use Rattle.esc_base.specs.declared.note.Note.TheVariants as note
use Rattle.esc_base.specs.Trace.{line}
use Rattle.esc_base.specs.Numbers.{mode_number, mode_of, as_tick, bit_of}
use Rattle.edge_capture.specs.Edges.{last_at}
use Rattle.edge_capture.specs.Burst.{burst, wait}
use Rattle.esc_base.specs.Times.{least_pause}
use Rattle.timer_regs.specs.Bank.{Bank}
use Rattle.timer_regs.specs.Rest.{put_off}
use Rattle.timer_regs.specs.declared.regs.Reg.TheVariants as reg
use Rattle.interrupt_machine.specs.Did.{NoAccess, Writes, accessed}
use Rattle.esc_base.specs.declared.signal.Frame.{Frame}
use Rattle.dshot_commands.specs.declared.act.Act.{Act}
use Rattle.arming.specs.Kept.{after_frame}
use Rattle.esc_core.specs.declared.state.CapAt.{CapAt}
use Rattle.esc_core.specs.declared.state.CapAt.TheVariants as cap
use Rattle.esc_core.specs.Brain.{Brain}
use Rattle.esc_core.specs.Orders.{obeyed_if}
use Rattle.esc_core.specs.Reply.{starts_from, ends_from}
use Rattle.esc_core.specs.Cap.{after_good, command_note, opens, period_step, reply_from, reply_step}
use Rattle.esc_laws.specs.Place.{Signal, Silent, Listens, Judged, Owes, Tells, Replies, Rests, Place, framed, next, rested, reply_end}
use Rattle.esc_laws.specs.Replied.{reply_start, HasReplied}
use Rattle.esc_laws.specs.Windowed.{MayReturn}
use Rattle.esc_rooms.specs.Tied.{CapView, cap_view, Hears, IsClosing, IsListening, IsJudged, HasBurst, IsPaused, SignalTied, TimerTied}
use Rattle.esc_laws.proofs.Modes.{mode_of-number}
use Rattle.esc_laws.proofs.Rests.{set_later, set_grows}
use Rattle.edge_capture.proofs.Stable.{burst_before}
use Rattle.esc_rooms.proofs.cap.Ties.{some_edges, TiedAfter}

-- it judges
closing_burst : (v : CapView) (w m : ℕ) → IsClosing v w m → v.copied ≡ v.window.edges → HasBurst v w m
closing_burst v w m i e = record {
  closed_at = i.closed_at;
  closes = i.closes;
  past = (let a = i.waits in let b = i.entered in omega arith);
  copied = e ∙ i.hears.edges;
  core_mode = i.hears.core_mode;
}

-- after a good frame it reads the period in the bidirectional modes, and else opens a window
framed_tied : (x : Mode) (s : Signal) (w m t : ℕ) (v : CapView) → mode_of m ≡ x → s ≡ Listens w m → IsJudged v → HasBurst v w m
    → SignalTied (framed s t) (after_good x) v
framed_tied mode.D300Inv s w m t v f e j h = rw (e, f) (j, h)
framed_tied mode.D600Inv s w m t v f e j h = rw (e, f) (j, h)
framed_tied mode.Unknown s w m t v f e j h = rw (e, f) (j, refl)
framed_tied mode.D300 s w m t v f e j h = rw (e, f) (j, refl)
framed_tied mode.D600 s w m t v f e j h = rw (e, f) (j, refl)
framed_tied mode.Servo s w m t v f e j h = rw (e, f) (j, refl)

pub good_tied : (o : Option Act) (frame : Frame) (trace : List Event) (c : Brain) (b : Bank) (p : Place) (w m : ℕ) → p.signal ≡ Listens w m
    → IsClosing (cap_view trace c b p) w m → c.burst ≡ b.window.edges
    → TiedAfter trace b p (record {
      core = record c { cap_at = after_good c.window; control = after_frame c.control frame.value; orders = obeyed_if c.orders o };
      access = NoAccess;
      notes = note.Good (as_tick b.time) frame.value (bit_of frame.telemetry) ∷ command_note b.time o;
      over = false;
    })
good_tied None frame trace c b p w m e i same =
    let h = closing_burst (cap_view trace c b p) w m i same in
    framed_tied c.window p.signal w m b.time _ (sym i.hears.core_mode) e
    (record { verdict = ap (λ (n : ℕ). n + 1) i.no_verdict; taken = i.taken; running = i.hears.running; no_timer = i.hears.no_timer })
    (record { closed_at = h.closed_at; closes = h.closes; past = h.past; copied = h.copied; core_mode = h.core_mode })
good_tied (Some act) frame trace c b p w m e i same =
    let h = closing_burst (cap_view trace c b p) w m i same in
    framed_tied c.window p.signal w m b.time _ (sym i.hears.core_mode) e
    (record { verdict = ap (λ (n : ℕ). n + 1) i.no_verdict; taken = i.taken; running = i.hears.running; no_timer = i.hears.no_timer })
    (record { closed_at = h.closed_at; closes = h.closes; past = h.past; copied = h.copied; core_mode = h.core_mode })

-- the window timer isn't set by then
none_at_open : (s : Signal) (edges : List Edge) (since : ℕ) (timer : Option ℕ) → TimerTied s cap.Open edges since timer
none_at_open Silent edges since timer = tt
none_at_open s edges since timer = tt

none_at_period : (s : Signal) (edges : List Edge) (since : ℕ) (timer : Option ℕ) → TimerTied s cap.Period edges since timer
none_at_period Silent edges since timer = tt
none_at_period s edges since timer = tt

pub framed_timer : (x : Mode) (s : Signal) (edges : List Edge) (since t : ℕ) (timer : Option ℕ) → TimerTied (framed s t) (after_good x) edges since timer
framed_timer mode.D300Inv s edges since t timer = none_at_period (framed s t) edges since timer
framed_timer mode.D600Inv s edges since t timer = none_at_period (framed s t) edges since timer
framed_timer x s edges since t timer = none_at_open (framed s t) edges since timer

-- it reads the period
pub period_tied : (trace : List Event) (c : Brain) (b : Bank) (p : Place) (w m : ℕ) → p.signal ≡ Owes w m → IsJudged (cap_view trace c b p)
    → HasBurst (cap_view trace c b p) w m → TiedAfter trace b p (period_step c b)
period_tied trace c b p w m e i h =
    rw e (
      record { verdict = i.verdict; taken = i.taken; running = i.running; no_timer = i.no_timer },
      (record { closed_at = h.closed_at; closes = h.closes; past = h.past; copied = h.copied; core_mode = h.core_mode }, refl),
    )

-- it loads the reply: that starts when the frame's last edge and the load allow
some_heard : (n l t : ℕ) → 1 ≤ n → max t (if n == 0 then 0 else l) ≡ max t l
some_heard n l t some = rw (ne_eqb n 0 (λ e. omega arith)) refl

pub reply_starts : (v : CapView) (w m t : ℕ) → HasBurst v w m → starts_from v.copied t ≡ reply_start (burst (line v.trace).edges w (mode_of m)) t
reply_starts v w m t h =
    let heard : List Edge = burst (line v.trace).edges w (mode_of m) in
    let some : 1 ≤ length heard = some_edges (length heard) (last_at heard + wait (mode_of m) heard) h.closed_at h.closes in
    rw h.copied (some_heard (length heard) (last_at heard + 1440) (t + 1) some)

reply_ends : (x : Mode) (s : ℕ) → ends_from x s ≡ reply_end x s
reply_ends mode.D600Inv s = refl
reply_ends mode.Unknown s = refl
reply_ends mode.D300 s = refl
reply_ends mode.D600 s = refl
reply_ends mode.D300Inv s = refl
reply_ends mode.Servo s = refl

pub reply_tied : (trace : List Event) (c : Brain) (b : Bank) (p : Place) (w m : ℕ) (told period : Option ℕ) → p.signal ≡ Tells w m told
    → IsJudged (cap_view trace c b p) → HasBurst (cap_view trace c b p) w m → TiedAfter trace b p (reply_step period c b)
reply_tied trace c b p w m told period e i h =
    rw e (
      record { verdict = i.verdict; taken = i.taken; running = i.running; no_timer = i.no_timer },
      ap (λ (x : Mode). ends_from x (reply_from c b)) h.core_mode ∙ reply_ends (mode_of m) (reply_from c b),
    )

-- it opens a window
opened_hears : (trace : List Event) (c : Brain) (b : Bank) (p : Place) (m : Mode) → All (λ e. e.t.0 ≤ b.time) (line trace).edges → b.timer ≡ None
    → c.control.mode ≡ m
    → Hears (cap_view trace (record c { cap_at = cap.Back; window = m; paused = false }) (accessed b (Writes reg.CapArm (mode_number m))) p) b.time
    (mode_number m)
opened_hears trace c b p m past none is = record {
  armed = refl;
  mode = refl;
  opened = refl;
  edges = sym (burst_before (line trace).edges b.time (mode_of (mode_number m)) past);
  core_mode = sym (mode_of-number m);
  running = refl;
  no_timer = none;
}

pub opens_tied : (trace : List Event) (c : Brain) (b : Bank) (p : Place) → All (λ e. e.t.0 ≤ b.time) (line trace).edges → b.timer ≡ None
    → (p.verdicts ≡ 1) ⊎ ((p.verdicts ≡ 0) × (p.windows ≡ 0)) → TiedAfter trace b p (opens c b)
opens_tied trace c b p past none done = (
  record {
    hears = opened_hears trace c b (next p (note.Window (as_tick b.time)
        (mode_number c.control.mode))) c.control.mode past none refl;
    untaken = refl;
  },
  one_window p done,
)
  where
    one_window : (p : Place) → (p.verdicts ≡ 1) ⊎ ((p.verdicts ≡ 0) × (p.windows ≡ 0)) → (p.verdicts ≡ 1) ⊎ ((p.verdicts ≡ 0) × (p.windows + 1 ≡ 1))
    one_window p (inl v) = inl v
    one_window p (inr n) = inr (n.0, ap (λ (x : ℕ). x + 1) n.1)

-- it sets the window timer, after a frame that gets no reply, and after a reply
pub pause_tied : (trace : List Event) (c : Brain) (b : Bank) (p : Place) (f at : ℕ) (opens_next : Bool) → p.signal ≡ Judged f opens_next
    → IsJudged (cap_view trace c b p) → opens_next ≡ false
    → TiedAfter trace b p (record { core = record c { cap_at = cap.Back; paused = true }; access = Writes reg.CapAt at; notes = []; over = false })
pause_tied trace c b p f at opens_next e i shuts = rw e (record { taken = i.taken; paused = refl }, (shuts, i.verdict))

pub replied_tied : (trace : List Event) (c : Brain) (b : Bank) (p : Place) (end at : ℕ) → p.signal ≡ Replies end → IsJudged (cap_view trace c b p)
    → TiedAfter trace b p (record { core = record c { cap_at = cap.Back; paused = true }; access = Writes reg.CapAt at; notes = []; over = false })
replied_tied trace c b p end at e i = rw e (record { taken = i.taken; paused = refl }, i.verdict)

-- it returns
pub back_tied : (trace : List Event) (c : Brain) (b : Bank) (p : Place) (s : Signal) (t : ℕ) → p.signal ≡ s → SignalTied s cap.Back (cap_view trace c b p)
    → SignalTied (next p (note.Leave (as_tick t) 3)).signal cap.Shut (cap_view trace (record c { cap_at = cap.Shut }) b (next p (note.Leave (as_tick t) 3)))
back_tied trace c b p Silent t e i = absurd i
back_tied trace c b p (Listens w m) t e i =
    let k : IsListening (cap_view trace c b p) w m = i.0 in
    rw e (record {
      hears = record {
        armed = k.hears.armed;
        mode = k.hears.mode;
        opened = k.hears.opened;
        edges = k.hears.edges;
        core_mode =
            k.hears.core_mode;
        running = k.hears.running;
        no_timer = k.hears.no_timer;
      };
      untaken = k.untaken;
    })
back_tied trace c b p (Judged f opens_next) t e i =
    let k : IsPaused (cap_view trace c b p) = i.0 in
    rw e (record { taken = k.taken; paused = k.paused }, omega arith)
back_tied trace c b p (Replies end) t e i =
    let k : IsPaused (cap_view trace c b p) = i.0 in
    rw e (record { taken = k.taken; paused = k.paused }, omega arith)
back_tied trace c b p (Owes w m) t e i = absurd i
back_tied trace c b p (Tells w m period) t e i = absurd i
back_tied trace c b p (Rests from latest r) t e i = absurd i

-- the window timer while it is set
pub back_timer : (s : Signal) (v : CapView) (edges : List Edge) (since t : ℕ) (timer : Option ℕ) → SignalTied s cap.Back v → since ≤ t
    → TimerTied s cap.Back edges since timer → TimerTied (rested s t) cap.Shut edges (t + 1) timer
back_timer Silent v edges since t timer i le k = absurd i
back_timer (Listens w m) v edges since t timer i le k = tt
back_timer (Judged f opens_next) v edges since t timer i le k = set_later edges (f + least_pause) since t timer le k
back_timer (Replies end) v edges since t timer i le k = set_later edges end since t timer le k
back_timer (Owes w m) v edges since t timer i le k = absurd i
back_timer (Tells w m period) v edges since t timer i le k = absurd i
back_timer (Rests from latest r) v edges since t timer i le k = absurd i

pub timer_off : (s : Signal) (edges : List Edge) (since : ℕ) (timer : Option ℕ) → TimerTied s cap.Start edges since timer
timer_off Silent edges since timer = tt
timer_off s edges since timer = tt

pub timer_grows : (s : Signal) (at : CapAt) (edges : List Edge) (x : Edge) (since : ℕ) (timer : Option ℕ) → All (λ e. e.t.0 ≤ x.t.0) edges
    → TimerTied s at edges since timer → TimerTied s at (edges ++ x ∷ []) since (put_off timer x.t.0)
timer_grows (Judged f opens_next) cap.Back edges x since timer until k = set_grows edges x (f + least_pause) since timer until k
timer_grows (Replies end) cap.Back edges x since timer until k = set_grows edges x end since timer until k
timer_grows (Rests from latest r) cap.Shut edges x since timer until k = set_grows edges x from r timer until k
timer_grows s at edges x since timer until k = k

-- what it has done by then
pub back_done : (trace : List Event) (c : Brain) (b : Bank) (p : Place) (s : Signal) → SignalTied s cap.Back (cap_view trace c b p)
    → (p.verdicts ≡ 1) ⊎ ((p.verdicts ≡ 0) × (p.windows ≡ 1))
back_done trace c b p (Listens w m) i = i.1
back_done trace c b p (Judged f opens_next) i = inl i.1.1
back_done trace c b p (Replies end) i = inl i.1
back_done trace c b p s i = absurd i

pub back_may : (trace : List Event) (c : Brain) (b : Bank) (p : Place) (s : Signal) → SignalTied s cap.Back (cap_view trace c b p) → MayReturn s
back_may trace c b p (Judged f opens_next) i = i.1.0
back_may trace c b p s i = tt

-- and no reply is owed
pub back_replied : (trace : List Event) (c : Brain) (b : Bank) (p : Place) (s : Signal) → SignalTied s cap.Back (cap_view trace c b p) → HasReplied s
back_replied trace c b p (Owes w m) i = absurd i
back_replied trace c b p (Tells w m period) i = absurd i
back_replied trace c b p s i = tt
