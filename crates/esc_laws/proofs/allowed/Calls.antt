-- The first ticks at which a kind is seen due, by computation.
use Rattle.std.proofs.Common.{◌≡◌, ◌≤◌, ◌<◌, ◌+◌, ◌-◌, ℕ, Bool, true, false, ◌&&◌, ◌||◌, nat_le, refl, arith}
use Rattle.std.proofs.lemmas.Bool.{le-leb, lt-leb}
use Rattle.settings_block.specs.declared.stored.Loaded.{Loaded}
use Rattle.zero_cross.specs.Comparator.{held}
use Rattle.edge_capture.specs.Burst.{burst}
use Rattle.esc_base.specs.Trace.{line}
use Rattle.commutation.specs.Pace.{wait_of}
use Rattle.esc_laws.specs.Place.{place}
use Rattle.esc_laws.specs.Rested.{first_rested}
use Rattle.esc_laws.specs.Saves.{advance_of}
use Rattle.esc_laws.specs.allowed.Calls.{CallsBegin}

neither : (a b : Bool) → ((a && false) || (b && false)) ≡ false
neither true true = refl
neither true false = refl
neither false true = refl
neither false false = refl

pub calls_begin : CallsBegin
unfolding place line burst first_rested held
calls_begin = record {
  first_control_tick = λ loaded. record { called = refl; not_before = refl };
  next_control_tick = λ loaded. record { called = refl; not_before = refl };
  window_closes = λ loaded. record { called = refl; not_before = refl };
  pause_ends = λ loaded. record { called = refl; not_before = refl };
  line_has_rested = λ loaded. record { called = refl; not_before = refl };
  reply_ends = λ loaded. record { called = refl; not_before = refl };
  no_save_is_asked_for = λ loaded t. refl;
  save_is_asked_for = λ loaded t. refl;
  save_was_made = λ loaded t. refl;
  demand_stands = λ loaded. refl;
  period_starts = λ loaded. record { called = refl; not_before = refl };
  demand_ends = λ loaded. record { called = refl; not_before = refl };
  drive_starts = λ loaded. refl;
  turn_is_forced = λ loaded. record { called = refl; not_before = refl };
  crossing_waits = λ loaded.
      let wait : ℕ = wait_of (advance_of loaded.settings) 24000 in
      record {
        called = rw (le-leb (9000 + wait) (9000 + wait) (omega arith)) refl;
        not_before = rw (lt-leb (9000 + wait) (9000 + wait - 1) (omega arith)) refl;
      };
  low_switch_may_turn_on = λ loaded. record { called = refl; not_before = refl };
  blanking_ends = λ loaded. record { called = refl; not_before = refl };
  filter_ends = λ loaded e. record { called = rw e refl; not_before = refl };
  watch_begins = λ loaded e. record { called = rw e refl; not_before = rw e refl };
  watch_hears = λ loaded e. record { called = rw e refl; not_before = rw e refl };
  watch_hears_no_other_level = λ loaded t e. rw e (neither (nat_le 8532 t) (nat_le 8908 t));
  level_came_later = λ loaded e. rw e refl;
}
