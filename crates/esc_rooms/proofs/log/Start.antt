-- The log of a run that has made no step.
use Rattle.std.proofs.Common.{◌≡◌, ◌≤◌, ℕ, true, false, [], ◌∷◌, reverse, refl, sym, ◌∙◌, ap, arith, lit<, lit≤, ◌+◌, inl}
use Rattle.std.proofs.lemmas.List.Elements.{All-nil}
use Rattle.esc_base.specs.Times.{rest}
use Rattle.esc_base.specs.declared.kind.Kind.{Kind}
use Rattle.esc_base.specs.declared.kind.Kind.TheVariants as kind
use Rattle.esc_base.specs.declared.note.Note.TheVariants as note
use Rattle.esc_base.specs.Trace.{Line, line, tick_of}
use Rattle.esc_base.specs.Numbers.{mode_of, as_tick}
use Rattle.edge_capture.proofs.Stable.{burst-nil}
use Rattle.edge_capture.specs.Burst.{burst}
use Rattle.settings_block.specs.declared.stored.Loaded.{Loaded}
use Rattle.interrupt_machine.specs.declared.nest.Nest.{Nest}
use Rattle.interrupt_machine.specs.Response.{Patient}
use Rattle.arming.specs.Kept.{start}
use Rattle.arming.specs.Stands.{Stands}
use Rattle.arming.proofs.FrameTies.{start_stands, other_stands}
use Rattle.fourway_packet.specs.Queue.{Queue}
use Rattle.esc_core.specs.Firmware.{left_of, need_of, new_core}
use Rattle.esc_laws.specs.Place.{Place}
use Rattle.esc_laws.specs.Seen.{sees}
use Rattle.esc_laws.specs.Steps.{stall_end, load_number, opening, journal, after, called}
use Rattle.esc_base.specs.declared.gate.Leg.{Leg}
use Rattle.esc_base.specs.declared.gate.Leg.TheVariants as leg
use Rattle.esc_base.specs.Legs.{is_on}
use Rattle.gate_driver.specs.Gated.{at_leg, no_legs}
use Rattle.esc_rooms.specs.DriveTied.{DriveTied}
use Rattle.esc_rooms.specs.Tied.{Keeps, WordTold}
use Rattle.esc_rooms.specs.World.{world}
use Rattle.esc_rooms.specs.Rooms.{Ground, Tie, drive_seen}
use Rattle.esc_rooms.specs.Logged.{Marks, Logged, first_bank}
use Rattle.zero_cross.specs.Comparator.{Held}
use Rattle.esc_laws.proofs.Comparator.{held-none}
use Rattle.esc_laws.proofs.Pushes.{after-none, free-none, made-none, called-none}
use Rattle.esc_laws.proofs.Opening.{place-opening, start_said}

line-none : line [] ≡ record { level = false; edges = [] }
unfolding line
line-none = refl

opening_stands : (loaded : Loaded) → Stands start (reverse (opening loaded))
opening_stands loaded =
    other_stands (note.Window (as_tick 0) 0) start (note.Up (as_tick 0) (load_number loaded.fault) ∷ []) refl refl tt
    (other_stands (note.Up (as_tick 0) (load_number loaded.fault)) start [] refl refl tt start_stands)

start_keeps : (loaded : Loaded) (packets : Queue) → Keeps (new_core loaded.settings packets) first_bank []
start_keeps loaded packets = record {
  hold = omega arith;
  enough = λ m. cc;
  masked = λ k n. absurd (none_masked k n);
  live = λ k o. cc;
  shut = λ k o. shut_at k;
}
  where
    shut_at : (k : Kind) → left_of (new_core loaded.settings packets) k ≡ 0
    shut_at kind.Main = refl
    shut_at k = refl

    none_masked : (k : Kind) → need_of (new_core loaded.settings packets) k ≤ 8 → ⊥
    none_masked kind.Main n = omega arith
    none_masked k n = omega arith

none_free : (x : Leg) → 0 ≡ at_leg no_legs x
none_free leg.A = refl
none_free leg.B = refl
none_free leg.C = refl

start_told : (loaded : Loaded) (packets : Queue) → WordTold (new_core loaded.settings packets) first_bank (reverse (journal loaded []))
start_told loaded packets = record { hi_is = refl; lo_is = refl; hi_free = none_free; lo_free = none_free }

start_marks : (loaded : Loaded) (nest : Nest) → Marks loaded nest [] first_bank [] []
start_marks loaded nest = record { said = start_said loaded nest [] 0; stack_is = ap (λ (p : Place). p.stack) (sym (place-opening loaded)) }

no_burst : [] ≡ burst (line []).edges 0 (mode_of 0)
no_burst = sym (ap (λ (l : Line). burst l.edges 0 (mode_of 0)) line-none ∙ burst-nil 0 (mode_of 0))

start_ground : (loaded : Loaded) (packets : Queue) (nest : Nest) → packets.waiting ≡ []
    → Ground (world loaded nest [] (new_core loaded.settings packets) first_bank [])
start_ground loaded packets nest none = record {
  control = opening_stands loaded;
  orders = record { settings_are = refl; spin_is = refl; save_is = refl };
  outside = record {
    level = ap (λ (l : Line). l.level) (sym line-none);
    edges = rw line-none (All-nil (λ e. e.t.0 ≤ 0), tt);
    rested = rw line-none (record { over = All-nil (λ e. e.t.0 + rest ≤ 0); first = λ t a. omega arith });
    events = All-nil (λ e. tick_of e ≤ 0);
    in_time = tt;
    comparator = ap (λ (h : Held). h.level) (sym (held-none 0));
    small = lit< tt;
  };
  line = record { none_waits = none; none_left = refl; session_is = refl };
}

none_on : (x : Leg) → is_on 0 x ≡ true → ⊥
none_on leg.A e = cc
none_on leg.B e = cc
none_on leg.C e = cc

-- nothing drives
start_drive : (loaded : Loaded) (packets : Queue) (nest : Nest) → DriveTied (drive_seen (world loaded nest [] (new_core loaded.settings packets) first_bank []))
start_drive loaded packets nest = record {
  switches = record {
    sector_is = refl;
    sectors = omega arith;
    pair = record { high = λ x e. absurd (none_on x e); low = λ x e. absurd (none_on x e) };
    held = λ x e. absurd (none_on x e);
    soon = λ x. rw (← none_free x) (omega arith);
    outer = λ s x ne. absurd (omega arith);
    unused = λ z x. sym (none_free x);
    past = omega arith;
  };
  newest = record { since = λ s. absurd (omega arith); to_is = λ e s. absurd (omega arith); at_low = λ e. cc };
  next = record { idle = λ z. refl; due = λ d. absurd (omega arith); first = λ z d. absurd (omega arith) };
  row = record {
    turned = λ d. absurd (omega arith);
    forced = refl;
    unforced = λ e. refl;
    rest_unmarked = λ z. refl;
    stuck = λ d. absurd (omega arith);
    marked = λ d. absurd (omega arith);
  };
  place = tt;
  low = λ e d s. absurd (omega arith);
  crossed = λ e. cc;
  postponed = λ e d. absurd (omega arith);
}

-- the first window listens, and the other handlers are shut
start_ties : (loaded : Loaded) (packets : Queue) (nest : Nest) (k : Kind) → Tie k (world loaded nest [] (new_core loaded.settings packets) first_bank [])
start_ties loaded packets nest kind.Cap = (
  record { hears = record { armed = refl; mode = refl; opened = refl; edges = no_burst; core_mode = refl; running = refl; no_timer = refl }; untaken = refl },
  record { past = λ k d l. absurd (omega arith); order = λ x y le l. absurd (omega arith); few = omega arith },
  tt,
  record { kept_are = refl; falls = tt; some = inl refl; period_is = λ s e. refl },
)
start_ties loaded packets nest kind.Tick = (
  tt,
  refl,
  omega arith,
  refl,
  λ z. record {
    rest = record { high_off = refl; low_off = refl; no_event = refl; disarmed = refl; prompt = refl; no_mark = refl };
    pwm_shut = refl;
    comm_shut = refl;
  },
)
start_ties loaded packets nest kind.Main = tt
start_ties loaded packets nest kind.Pwm = (
  tt,
  record {
    new = λ e. cc;
    asks = λ l e. absurd (omega arith);
    counted = λ l e c. absurd (omega arith);
    only = λ l e. absurd (omega arith);
    past = omega arith;
  },
)
start_ties loaded packets nest kind.Comm = start_drive loaded packets nest
start_ties loaded packets nest kind.Cmp = record {
  pace_is = refl;
  advance_is = refl;
  expects_is = refl;
  level_is = ap (λ (h : Held). h.level) (sym (held-none 0));
  open_is = refl;
  phase_is = tt;
  begins = λ e. cc;
  ends = λ e. cc;
  regs = λ b e. (refl, refl);
  below = λ since l. refl;
  few = lit≤ tt;
  seen = tt;
  begun = λ e. refl;
  late = tt;
  seldom = record { ordered = tt; ordered_since = tt; all = tt; since_turn = tt };
  watch = record { heard = λ o l. tt; none = λ o. absurd (o refl) };
}
start_ties loaded packets nest kind.Uart = (refl, refl, refl)

start_patient : (loaded : Loaded) (nest : Nest) → Patient nest 0 false [] (sees loaded [] (journal loaded []) 0) (called loaded nest [] [])
start_patient loaded nest = record {
  bound = λ k. rw (called-none loaded nest [] k) (omega arith);
  held = λ m. cc;
}

after_start : (cost : ℕ) → after cost [] [] ≡ 0
after_start cost = after-none cost [] ∙ free-none 0

pub logged_start : (loaded : Loaded) (packets : Queue) (nest : Nest) (cost : ℕ) → packets.waiting ≡ []
    → Logged loaded nest cost [] 0 (new_core loaded.settings packets) first_bank [] []
logged_start loaded packets nest cost none =
    let zero_after = after_start cost in
    record {
      keeps = start_keeps loaded packets;
      sorted = tt;
      marks = start_marks loaded nest;
      gates = start_told loaded packets;
      ground = start_ground loaded packets nest none;
      ties = start_ties loaded packets nest;
      patient = start_patient loaded nest;
      owes = λ k o. cc;
      reached = λ k o. cc;
      reached_by = λ k o. cc;
      fits = tt;
      drives = tt;
      past = omega arith;
      made_past = rw made-none (record { cap = omega arith; comm = omega arith; cmp = omega arith });
      awaits = record { open_step = λ o. omega arith; idle = λ o t from below f k. absurd (omega arith) };
      time = omega arith;
      put_off = λ u from below. absurd (omega arith);
      stalls = All-nil (λ e. stall_end e ≤ 0);
      at_next = λ o. absurd (o refl);
    }
