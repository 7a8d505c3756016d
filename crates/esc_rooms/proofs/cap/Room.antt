-- CAP's row of the laws: where it is called and entered, and its tie as time goes on and events come.
use Rattle.std.proofs.Common.{◌≡◌, ◌≤◌, ℕ, Bool, true, false, if◌then◌else◌, List, [], ◌∷◌, ◌++◌, None, refl, sym, ap, subst, arith}
use Rattle.esc_base.specs.declared.kind.Kind.TheVariants as kind
use Rattle.esc_base.specs.declared.signal.Edge.{Edge}
use Rattle.esc_base.specs.declared.event.Event.{Event}
use Rattle.esc_base.specs.declared.event.Event.TheVariants as event
use Rattle.esc_base.specs.Numbers.{as_tick}
use Rattle.esc_base.specs.Trace.{Line, line, tick_of, differ}
use Rattle.esc_base.proofs.TraceLaws.{line-push}
use Rattle.timer_regs.specs.Rest.{put_off}
use Rattle.timer_regs.specs.Effects.{after_line}
use Rattle.esc_core.specs.declared.state.CapAt.{CapAt}
use Rattle.esc_core.specs.declared.state.CapAt.TheVariants as cap
use Rattle.esc_core.specs.Firmware.{cap_left, waits_of}
use Rattle.esc_rooms.specs.Tied.{cap_view, SignalTied, TimerTied}
use Rattle.esc_rooms.specs.World.{World, so_far, at_time, after_outside}
use Rattle.esc_rooms.proofs.shared.DriveFacts.{comm_shut}
use Rattle.esc_rooms.specs.Rooms.{Ground, cap_seen, CapTie}
use Rattle.esc_laws.proofs.Pushes.{All-later}
use Rattle.esc_rooms.proofs.shared.Facts.{cap_shut}
use Rattle.esc_rooms.proofs.cap.JudgedTies.{timer_off, timer_grows}
use Rattle.esc_rooms.proofs.shared.Lines.{plain_follows, edge_now, edge_bank, edge_follows, rising_push, edge_sound, line_changes, line_same}
use Rattle.esc_rooms.proofs.shared.Dues.{cap_called, cap_entered, signal_follows, time_follows}
use Rattle.esc_rooms.proofs.shared.Law.{HandlerLaw}
use Rattle.esc_rooms.proofs.cap.Asked.{cap_asked}
use Rattle.esc_rooms.proofs.cap.Steps.{cap_steps_preserve}

-- ---- it is called and entered

shut_tie : (w : World) → CapTie w → cap_left w.core.cap_at ≡ 0 → SignalTied (so_far w).signal cap.Shut (cap_seen w)
shut_tie w t none = subst (λ (at : CapAt). SignalTied (so_far w).signal at (cap_seen w)) (cap_shut w.core.cap_at none) t.0

shut_timer : (w : World) → CapTie w → cap_left w.core.cap_at ≡ 0 → TimerTied (so_far w).signal cap.Shut (line w.trace).edges w.made.cap_past w.bank.timer
shut_timer w t none =
    subst (λ (at : CapAt). TimerTied (so_far w).signal at (line w.trace).edges w.made.cap_past w.bank.timer) (cap_shut w.core.cap_at none) t.2

-- ---- time goes on, and events come

cap_later : (w : World) (u : ℕ) → w.bank.time ≤ u → CapTie w → CapTie (at_time w u)
cap_later w u from t = (
  signal_follows (so_far w).signal w.core.cap_at (cap_seen w) (cap_view w.trace w.core (at_time w u).bank (so_far w))
      (time_follows (cap_seen w) u from) t.0,
  record { past = All-later (λ e. e.t.0) w.bank.window.edges w.bank.time u from t.1.past; order = t.1.order; few = t.1.few },
  t.2,
  t.3,
)

cap_other_event : (w : World) (e : Event) → line (w.trace ++ e ∷ []) ≡ line w.trace → w.bank.time ≤ tick_of e → CapTie w
    → CapTie (record w { trace = w.trace ++ e ∷ [] })
cap_other_event w e same le t = (
  signal_follows (so_far w).signal w.core.cap_at (cap_seen w) (cap_view (w.trace ++ e ∷ []) w.core w.bank (so_far w))
      (plain_follows w.trace e w.core w.bank (so_far w) same le) t.0,
  t.1,
  rw same t.2,
  t.3,
)

cap_edge : (v : Bool) (w : World) (level : Bool) → differ w.bank.level level ≡ v → Ground w → CapTie w
    → CapTie (record w {
      trace = w.trace ++ event.Edge
          (as_tick w.bank.time) level ∷ [];
      bank = record w.bank {
        level = (if v then edge_bank w.bank level else w.bank).level;
        window =
            (if v then edge_bank w.bank level else w.bank).window;
        timer = (if v then edge_bank w.bank level else w.bank).timer;
        changed =
            (if v then edge_bank w.bank level else w.bank).changed;
      };
    })
cap_edge true w level d g t = (
  signal_follows (so_far w).signal w.core.cap_at (cap_seen w)
      (cap_view (w.trace ++ event.Edge (as_tick w.bank.time) level ∷ []) w.core (edge_bank w.bank level) (so_far w))
      (edge_follows w.trace w.core w.bank (so_far w) level
      (rising_push (line w.trace).edges (edge_now w.bank level) 0 g.outside.edges.1 g.outside.edges.0 (omega arith))
      (ap (λ (l : Line). l.edges) (line_changes w.trace w.bank level (subst (λ (l : Bool). differ l level ≡ true) g.outside.level d)))) t.0,
  edge_sound w.bank.window (edge_now w.bank level) t.1,
  subst (λ (edges : List Edge). TimerTied (so_far w).signal w.core.cap_at edges w.made.cap_past (put_off w.bank.timer w.bank.time))
      (sym (ap (λ (l : Line). l.edges) (line_changes w.trace w.bank level (subst (λ (l : Bool). differ l level ≡ true) g.outside.level d))))
      (timer_grows (so_far w).signal w.core.cap_at (line w.trace).edges (edge_now w.bank level) w.made.cap_past w.bank.timer g.outside.edges.0 t.2),
  t.3,
)
cap_edge false w level d g t =
    cap_other_event w (event.Edge (as_tick w.bank.time) level) (line_same w.trace w.bank level (subst (λ (l : Bool). differ l level
    ≡ false) g.outside.level d)) (omega arith) t

cap_outside : (w : World) (e : Event) → tick_of e ≡ w.bank.time → Ground w → CapTie w → CapTie (after_outside w e)
cap_outside w (event.Edge at level) is g t =
    subst
    (λ (n : ℕ). CapTie
    (record w {
      trace = w.trace ++ event.Edge
          (as_tick n) level ∷ [];
      bank = record w.bank {
        level = (after_line w.bank level).level;
        window = (after_line w.bank level).window;
        timer =
            (after_line w.bank level).timer;
        changed = (after_line w.bank level).changed;
      };
    }))
    (sym is)
    (cap_edge (differ w.bank.level level) w level refl g t)
cap_outside w (event.Comp at level) is g t = cap_other_event w (event.Comp at level) (line-push w.trace (event.Comp at level)) (omega arith) t
cap_outside w (event.Serial at byte) is g t = cap_other_event w (event.Serial at byte) (line-push w.trace (event.Serial at byte)) (omega arith) t
cap_outside w (event.Stall at n) is g t = cap_other_event w (event.Stall at n) (line-push w.trace (event.Stall at n)) (omega arith) t

pub cap_law : HandlerLaw kind.Cap
cap_law = record {
  called = λ w i s. cap_called (waits_of w.core) (so_far w).signal w.trace w.core w.bank (so_far w) w.made.cap_past
      (shut_tie w (i.rest.ties kind.Cap) i.shut)
      (shut_timer w (i.rest.ties kind.Cap) i.shut) s;
  asked = λ w i. (
    tt,
    cap_asked (so_far w).signal w.trace w.core w.bank (so_far w)
        (cap_entered (waits_of w.core) (so_far w).signal w.trace w.core w.bank (so_far w) w.made.cap_past refl (shut_tie w (i.rest.ties kind.Cap) i.shut)
        (shut_timer w (i.rest.ties kind.Cap) i.shut) i.due),
  );
  entered = λ w i. (
    cap_entered (waits_of w.core) (so_far w).signal w.trace w.core w.bank (so_far w) w.made.cap_past refl (shut_tie w (i.rest.ties kind.Cap) i.shut)
        (shut_timer w (i.rest.ties kind.Cap) i.shut) i.due,
    (i.rest.ties kind.Cap).1,
    timer_off (so_far w).signal (line w.trace).edges w.made.cap_past None,
    (i.rest.ties kind.Cap).3,
  );
  beside = λ w i. elim [ kind.Cap ↦ λ ne. absurd (ne refl) | j ↦ λ ne. i.rest.ties j ];
  steps = λ w answers outer given i.
      cap_steps_preserve (so_far w).signal w.core.cap_at w outer i.rest.ground (i.rest.ties kind.Cap).3 (i.rest.ties kind.Cap).1 refl (i.rest.ties kind.Cap).0
      (i.rest.ties kind.Cap).2 i.past.cap i.on
      (comm_shut w.core.comm_at w.core.drive.turn.at (i.above kind.Comm (omega arith))) (i.alone kind.Tick (λ e. cc)) i.left;
  later = λ w u from small i. cap_later w u from (i.ties kind.Cap);
  outside = λ w e i. cap_outside w e i.now i.rest.ground (i.rest.ties kind.Cap);
}
