-- What all handlers share as time goes on, and at an event from outside.
use Rattle.std.proofs.Common.{◌≡◌, ◌≤◌, ◌<◌, ℕ, Bool, true, false, if◌then◌else◌, [], ◌∷◌, ◌++◌, refl, sym, ◌∙◌, ap, subst, arith, All}
use Rattle.std.proofs.lemmas.List.Elements.{All-push}
use Rattle.esc_base.specs.declared.kind.Kind.{Kind}
use Rattle.esc_base.specs.declared.event.Event.{Event}
use Rattle.esc_base.specs.declared.event.Event.TheVariants as event
use Rattle.esc_base.specs.Numbers.{as_tick}
use Rattle.esc_base.specs.Trace.{Line, line, tick_of, differ}
use Rattle.esc_base.proofs.TraceLaws.{line-push}
use Rattle.timer_regs.specs.Bank.{Bank}
use Rattle.timer_regs.specs.Effects.{after_line}
use Rattle.zero_cross.specs.Comparator.{Held, held}
use Rattle.esc_rooms.specs.World.{World, at_time, line_event, comp_event, after_event, after_outside}
use Rattle.esc_laws.specs.InTime.{IsInTime}
use Rattle.esc_rooms.specs.Rooms.{Ground, Tie}
use Rattle.esc_laws.proofs.Pushes.{All-later}
use Rattle.esc_rooms.proofs.shared.Lines.{edge_now, edge_bank, line_changes, line_same, rising_push}
use Rattle.esc_laws.proofs.Rests.{rest_now}
use Rattle.esc_rooms.proofs.shared.Law.{AtEvent}
use Rattle.esc_rooms.proofs.log.Laws.{law}
use Rattle.esc_laws.proofs.Comparator.{held-push, held_stays, held_now, comp_now, in_time_push}

-- ---- time goes on

pub later_ground : (w : World) (u : ℕ) → w.bank.time ≤ u → u < 2147483648 → Ground w → Ground (at_time w u)
later_ground w u from small g = record {
  control = g.control;
  orders = g.orders;
  outside = record {
    level = g.outside.level;
    edges = (All-later (λ e. e.t.0) (line w.trace).edges w.bank.time u from g.outside.edges.0, g.outside.edges.1);
    rested = g.outside.rested;
    events = All-later (λ e. tick_of e) w.trace w.bank.time u from g.outside.events;
    in_time = g.outside.in_time;
    comparator = g.outside.comparator ∙ ap (λ (h : Held). h.level) (sym (held_stays w.trace w.bank.time u from g.outside.events));
    small = small;
  };
  line = g.line;
}

-- ---- an event at now

outside_is : (b : Bank) (e : Event)
    → after_event b e ≡ record b {
      level = (line_event b e).level;
      window = (line_event b e).window;
      timer = (line_event b e).timer;
      changed = (line_event b e).changed;
      comp = (comp_event b e).comp;
      comp_changed = (comp_event b e).comp_changed;
    }
outside_is b (event.Edge at level) = by_test (differ b.level level)
  where
    by_test : (v : Bool)
        → (if v then edge_bank b level else b) ≡ record b {
          level = (if v then edge_bank b level else b).level;
          window =
              (if v then edge_bank b level else b).window;
          timer = (if v then edge_bank b level else b).timer;
          changed =
              (if v then edge_bank b level else b).changed;
        }
    by_test true = refl
    by_test false = refl
outside_is b (event.Comp at level) = by_test (differ b.comp level)
  where
    comp_bank : Bank
    comp_bank = record b { comp = level; comp_changed = true }

    by_test : (v : Bool)
        → (if v then comp_bank else b) ≡ record b { comp = (if v then comp_bank else b).comp; comp_changed = (if v then comp_bank else b).comp_changed }
    by_test true = refl
    by_test false = refl
outside_is b e = refl

events_now : (w : World) (e : Event) → tick_of e ≡ w.bank.time → Ground w → All (λ x. tick_of x ≤ w.bank.time) (w.trace ++ e ∷ [])
events_now w e is g = All-push (λ x. tick_of x ≤ w.bank.time) w.trace e g.outside.events (omega arith)

in_time_now : (w : World) (e : Event) → tick_of e ≡ w.bank.time → Ground w → IsInTime 0 (w.trace ++ e ∷ [])
in_time_now w e is g = in_time_push w.trace e 0 (omega arith) g.outside.in_time
    (All-later tick_of w.trace w.bank.time (tick_of e) (omega arith) g.outside.events)

edge_ground : (v : Bool) (w : World) (level : Bool) → differ w.bank.level level ≡ v → Ground w
    → Ground (record w {
      trace = w.trace ++ event.Edge
          (as_tick w.bank.time) level ∷ [];
      bank = record w.bank { level = (if v then edge_bank w.bank level else w.bank).level; changed = (if v then edge_bank w.bank level else w.bank).changed };
    })
edge_ground true w level d g =
    let new = line_changes w.trace w.bank level (subst (λ (l : Bool). differ l level ≡ true) g.outside.level d) in
    record {
      control = g.control;
      orders = g.orders;
      outside = record {
        level = ap (λ (l : Line). l.level) (sym new);
        edges = rw new (
          All-push (λ y. y.t.0 ≤ w.bank.time) (line w.trace).edges (edge_now w.bank level) g.outside.edges.0 (omega arith),
          rising_push (line w.trace).edges (edge_now w.bank level) 0 g.outside.edges.1 g.outside.edges.0 (omega arith),
        );
        rested = rw new (rest_now (line w.trace).edges (edge_now w.bank level) g.outside.edges.0);
        events = events_now w (event.Edge (as_tick w.bank.time) level) refl g;
        in_time = in_time_now w (event.Edge (as_tick w.bank.time) level) refl g;
        comparator = rw (held-push w.trace (event.Edge (as_tick w.bank.time) level) w.bank.time) g.outside.comparator;
        small = g.outside.small;
      };
      line = g.line;
    }
edge_ground false w level d g =
    let same = line_same w.trace w.bank level (subst (λ (l : Bool). differ l level ≡ false) g.outside.level d) in
    record {
      control = g.control;
      orders = g.orders;
      outside = record {
        level = rw same g.outside.level;
        edges = rw same g.outside.edges;
        rested = rw same g.outside.rested;
        events = events_now w (event.Edge (as_tick w.bank.time) level) refl g;
        in_time = in_time_now w (event.Edge (as_tick w.bank.time) level) refl g;
        comparator = rw (held-push w.trace (event.Edge (as_tick w.bank.time) level) w.bank.time) g.outside.comparator;
        small = g.outside.small;
      };
      line = g.line;
    }

outside_ground : (w : World) (e : Event) → tick_of e ≡ w.bank.time → Ground w → Ground (after_outside w e)
outside_ground w (event.Edge at level) is g =
    subst
    (λ (n : ℕ). Ground
    (record w {
      trace = w.trace ++ event.Edge
          (as_tick n) level ∷ [];
      bank = record w.bank {
        level = (after_line w.bank level).level;
        window = (after_line w.bank level).window;
        timer =
            (after_line w.bank level).timer;
        changed = (after_line w.bank level).changed;
      };
    }))
    (sym is)
    (edge_ground (differ w.bank.level level) w level refl g)
outside_ground w (event.Comp at level) is g = record {
  control = g.control;
  orders = g.orders;
  outside = record {
    level = rw (line-push w.trace (event.Comp at level)) g.outside.level;
    edges = rw (line-push w.trace (event.Comp at level)) g.outside.edges;
    rested = rw (line-push w.trace (event.Comp at level)) g.outside.rested;
    events = events_now w (event.Comp at level) is g;
    in_time = in_time_now w (event.Comp at level) is g;
    comparator = comp_now w.bank (held w.trace w.bank.time) at.0 level g.outside.comparator
        ∙ ap (λ (h : Held). h.level) (sym (held_now w.trace at level w.bank.time is));
    small = g.outside.small;
  };
  line = g.line;
}
outside_ground w (event.Serial at byte) is g = record {
  control = g.control;
  orders = g.orders;
  outside = record {
    level = rw (line-push w.trace (event.Serial at byte)) g.outside.level;
    edges = rw (line-push w.trace (event.Serial at byte)) g.outside.edges;
    rested = rw (line-push w.trace (event.Serial at byte)) g.outside.rested;
    events = events_now w (event.Serial at byte) is g;
    in_time = in_time_now w (event.Serial at byte) is g;
    comparator = rw (held-push w.trace (event.Serial at byte) w.bank.time) g.outside.comparator;
    small = g.outside.small;
  };
  line = g.line;
}
outside_ground w (event.Stall at n) is g = record {
  control = g.control;
  orders = g.orders;
  outside = record {
    level = rw (line-push w.trace (event.Stall at n)) g.outside.level;
    edges = rw (line-push w.trace (event.Stall at n)) g.outside.edges;
    rested = rw (line-push w.trace (event.Stall at n)) g.outside.rested;
    events = events_now w (event.Stall at n) is g;
    in_time = in_time_now w (event.Stall at n) is g;
    comparator = rw (held-push w.trace (event.Stall at n) w.bank.time) g.outside.comparator;
    small = g.outside.small;
  };
  line = g.line;
}

pub event_ground : (w : World) (e : Event) → tick_of e ≡ w.bank.time → Ground w → Ground (record w { trace = w.trace ++ e ∷ []; bank = after_event w.bank e })
event_ground w e is g = subst (λ (b : Bank). Ground (record w { trace = w.trace ++ e ∷ []; bank = b })) (sym (outside_is w.bank e)) (outside_ground w e is g)

pub event_tie : (j : Kind) (w : World) (e : Event) → AtEvent e w → Tie j (record w { trace = w.trace ++ e ∷ []; bank = after_event w.bank e })
event_tie j w e i =
    subst (λ (b : Bank). Tie j (record w { trace = w.trace ++ e ∷ []; bank = b })) (sym (outside_is w.bank e)) ((law j).outside w e i)
