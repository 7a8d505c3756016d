-- MAIN's row of the laws, and its steps.
use Rattle.std.proofs.Common.{◌≡◌, ◌<◌, ◌+◌, ℕ, Bool, true, false, if◌then◌else◌, List, ◌∷◌, refl, sym, ◌∙◌, ap, arith}
use Rattle.esc_base.specs.declared.kind.Kind.{Kind}
use Rattle.esc_base.specs.declared.kind.Kind.TheVariants as kind
use Rattle.esc_base.specs.declared.note.Note.TheVariants as note
use Rattle.esc_base.specs.Numbers.{as_tick}
use Rattle.arming.proofs.FrameTies.{other_stands}
use Rattle.esc_core.specs.declared.state.MainAt.{MainAt}
use Rattle.esc_core.specs.declared.state.MainAt.TheVariants as main
use Rattle.esc_core.specs.Calls.{Answer, took_first}
use Rattle.esc_core.specs.Background.{result_of, saving_step, main_step}
use Rattle.esc_core.specs.Firmware.{main_left, waits_of}
use Rattle.esc_rooms.specs.Tied.{MainTied}
use Rattle.esc_rooms.specs.World.{World, so_far}
use Rattle.esc_rooms.specs.Rooms.{Ground, StepKeeps, LineTied}
use Rattle.esc_rooms.proofs.shared.Law.{HandlerLaw}
use Rattle.esc_rooms.proofs.shared.RoomSteps.{quiet_gates, ground_noted, inside, popped, if_true}
use Rattle.esc_rooms.proofs.main.Saves.{saved_tied}
use Rattle.esc_laws.specs.NoteLaw as owed
use Rattle.esc_core.specs.Brain.{Brain}
use Rattle.esc_core.specs.Line.{line_waits}

main_save_preserves : (w : World) (saved : Bool) (outer : List Kind) → Ground w → w.core.orders.save_asked ≡ true → (so_far w).saves ≡ 0
    → (so_far w).stack ≡ kind.Main ∷ outer
    → StepKeeps kind.Main outer w (saving_step saved (record w.core { main_at = main.Back }) w.bank)
main_save_preserves w saved outer g asked none on = record {
  gates = quiet_gates kind.Main w _ (λ e. cc) refl refl refl;
  fits = λ told. (
    record { at = refl; owned = refl; keeps = record { laws = elim [ owed.Nests ↦ inside (so_far w).stack kind.Main outer on | l ↦ tt ]; waits = tt } },
    tt,
  );
  ground = record {
    control = other_stands (note.Saved (as_tick w.bank.time) (result_of saved)) w.core.control w.back refl refl (sym g.orders.save_is ∙ asked) g.control;
    orders = saved_tied w.loaded w.core.orders (as_tick w.bank.time) (result_of saved) w.back g.orders;
    outside = g.outside;
    line = g.line;
  };
  tie = λ told. ap (λ (n : ℕ). n + 1) none;
  others = elim [ kind.Main ↦ λ ne t. absurd (ne refl) | j ↦ λ ne t. t ];
  stack_is = on;
}

main_steps_preserve : (at : MainAt) (w : World) (answers : List Answer) (outer : List Kind) → Ground w → MainTied at w.core.orders.save_asked (so_far w).saves
    → (so_far w).stack ≡ kind.Main ∷ outer → 0 < main_left at
    → StepKeeps kind.Main outer w (main_step answers at w.core w.bank)
main_steps_preserve main.Shut w answers outer g t on left = absurd (omega arith)
main_steps_preserve main.Work w answers outer g t on left =
    if_true w.core.orders.save_asked kind.Main outer w _ _ t.0 (main_save_preserves w (took_first answers) outer g t.0 t.1 on)
main_steps_preserve main.Back w answers outer g t on left = record {
  gates = quiet_gates kind.Main w _ (λ e. cc) refl refl refl;
  fits = λ told. (
    record {
      at = refl;
      owned = refl;
      keeps = record {
        laws = elim [
          | owed.Windows ↦ λ e. cc
          | owed.Replies ↦ λ e. cc
          | owed.Drives ↦ λ e. cc
          | owed.Searches ↦ λ e. cc
          | owed.Nests ↦ (inside (so_far w).stack kind.Main outer on, t)
          | l ↦ tt
        ];
        waits = tt;
      };
    },
    tt,
  );
  ground = ground_noted w (note.Leave (as_tick w.bank.time) 0) refl refl tt refl g;
  tie = λ told. tt;
  others = elim [ kind.Main ↦ λ ne t. absurd (ne refl) | j ↦ λ ne t. t ];
  stack_is = popped (so_far w).stack kind.Main outer on;
}

-- while no byte waits MAIN is due for a save alone
waits_if : (c : Brain) → c.orders.save_asked ≡ true → waits_of c ≡ true
waits_if c e = rw e refl

asked_by : (v w : Bool) → w ≡ false → (if v then true else w) ≡ true → v ≡ true
asked_by true w e d = refl
asked_by false w e d = absurd (let f : true ≡ false = sym d ∙ e in cc)

asked_if : (c : Brain) → {s : Bool} → LineTied c.line s → waits_of c ≡ true → c.orders.save_asked ≡ true
asked_if c l d = asked_by c.orders.save_asked (line_waits c.line) (rw l.none_waits refl) d

pub main_law : HandlerLaw kind.Main
main_law = record {
  called = λ w i s. waits_if w.core (i.rest.ground.orders.save_is ∙ s);
  asked = λ w i. (tt, tt);
  entered = λ w i. (asked_if w.core i.rest.ground.line i.due, refl);
  beside = λ w i. elim [ kind.Main ↦ λ ne. absurd (ne refl) | j ↦ λ ne. i.rest.ties j ];
  steps = λ w answers outer given i. main_steps_preserve w.core.main_at w answers outer i.rest.ground (i.rest.ties kind.Main) i.on i.left;
  later = λ w u from small i. (i.ties kind.Main);
  outside = λ w e i. (i.rest.ties kind.Main);
}
