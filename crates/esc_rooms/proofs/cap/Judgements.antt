-- CAP's step that judges a window's burst.
use Rattle.std.proofs.Common.{◌≡◌, ◌+◌, ℕ, true, false, List, ◌∷◌, Option, Some, None, refl, ◌∙◌, ap}
use Rattle.esc_base.specs.declared.kind.Kind.{Kind}
use Rattle.esc_base.specs.declared.kind.Kind.TheVariants as kind
use Rattle.esc_base.specs.declared.signal.Frame.{Frame}
use Rattle.esc_base.specs.declared.note.Note.{Note}
use Rattle.esc_base.specs.declared.note.Note.TheVariants as note
use Rattle.esc_base.specs.Numbers.{mode_number, why_number, as_tick, bit_of}
use Rattle.interrupt_machine.specs.Did.{NoAccess}
use Rattle.dshot_commands.specs.declared.act.Act.{Act}
use Rattle.dshot_commands.specs.declared.act.Act.TheVariants.{Beacon, Direction, ThreeD, Save, Extended, Spin}
use Rattle.dshot_commands.specs.Act.{act_of, number_of}
use Rattle.arming.specs.Kept.{after_frame}
use Rattle.arming.specs.Stands.{Stands, with_frame}
use Rattle.arming.proofs.FrameTies.{found_stands, frame_stands}
use Rattle.esc_core.specs.declared.state.MainAt.{MainAt}
use Rattle.esc_core.specs.declared.state.MainAt.TheVariants as main
use Rattle.input_detect.specs.declared.window.Judgement.{Judgement}
use Rattle.input_detect.specs.declared.window.Judgement.TheVariants.{Good, Bad, Found, Nothing}
use Rattle.esc_core.specs.declared.orders.Orders.{Orders}
use Rattle.input_detect.specs.Judge.{judged}
use Rattle.servo_input.specs.declared.servo.Servo.{Servo}
use Rattle.servo_input.specs.declared.servo.InputKind.{InputKind}
use Rattle.settings_block.specs.declared.settings.Settings.{Settings}
use Rattle.settings_block.specs.Settings.{servo_of}
use Rattle.esc_core.specs.Orders.{obeyed_if}
use Rattle.esc_core.specs.Cap.{act_in, after_good, command_note, judge_step}
use Rattle.esc_laws.specs.Place.{Listens}
use Rattle.esc_laws.specs.Windowed.{verdict_note, Answers, AnswersAt}
use Rattle.esc_rooms.specs.Tied.{IsClosing, WindowSound, MainTied}
use Rattle.esc_rooms.specs.World.{World, so_far}
use Rattle.esc_core.specs.declared.state.CommAt.TheVariants as comm
use Rattle.esc_laws.specs.Saves.{forward_at}
use Rattle.esc_rooms.proofs.shared.DriveFacts.{redirected}
use Rattle.esc_rooms.specs.Rooms.{drive_seen, Ground, cap_seen, PeriodTie, StepKeeps}
use Rattle.esc_rooms.proofs.main.Saves.{input_kept, servo_kept, acting_named, obeyed_tied, orders_other}
use Rattle.esc_rooms.proofs.cap.JudgedTies.{good_tied, framed_timer}
use Rattle.esc_rooms.proofs.shared.RoomSteps.{quiet_gates, ground_noted, inside}
use Rattle.esc_laws.specs.NoteLaw as owed

-- ---- it judges

pub judged_answers : (x : World) (w m : ℕ) → Ground x → IsClosing (cap_seen x) w m → x.core.burst ≡ x.bank.window.edges
    → Answers x.loaded x.trace w m (so_far x).cap_entered x.bank.time (verdict_note x.bank.time
    (judged x.core.window x.core.burst x.core.orders.settings.input (servo_of x.core.orders.settings)))
judged_answers x w m g i e =
    let allowed : x.core.orders.settings.input ≡ x.loaded.settings.input = ap (λ (s : Settings). s.input) g.orders.settings_are
    ∙ input_kept x.loaded.settings x.back in
    let servo : servo_of x.core.orders.settings ≡ servo_of x.loaded.settings = ap servo_of g.orders.settings_are ∙ servo_kept x.loaded.settings x.back in
    record {
      closed_at = i.closed_at;
      closes = i.closes;
      waits = i.waits;
      entered_before = i.entered;
      verdict_is = ap (λ (a : InputKind). verdict_note x.bank.time (judged x.core.window x.core.burst a (servo_of x.core.orders.settings))) allowed
          ∙ ap (λ (s : Servo). verdict_note x.bank.time (judged x.core.window x.core.burst x.loaded.settings.input s)) servo
          ∙ rw (i.hears.core_mode, e, i.hears.edges) refl;
    }

-- an act keeps a save asked for
save_stays_asked : (at : MainAt) (o : Orders) (a : Option Act) (saves : ℕ) → MainTied at o.save_asked saves → MainTied at (obeyed_if o a).save_asked saves
save_stays_asked main.Shut o a saves m = tt
save_stays_asked main.Back o a saves m = m
save_stays_asked main.Work o a saves m = (obeyed_save o a m.0, m.1)
  where
    obeyed_save : (o : Orders) (a : Option Act) → o.save_asked ≡ true → (obeyed_if o a).save_asked ≡ true
    obeyed_save o None e = e
    obeyed_save o (Some (Beacon beacon)) e = e
    obeyed_save o (Some (Direction side)) e = e
    obeyed_save o (Some (ThreeD is_on)) e = e
    obeyed_save o (Some Save) e = refl
    obeyed_save o (Some (Extended is_on)) e = e
    obeyed_save o (Some (Spin side)) e = e

judge_good_preserves : (o : Option Act) (x : World) (outer : List Kind) (frame : Frame) (w m : ℕ) → Ground x → PeriodTie x
    → WindowSound x.bank.window x.bank.time
    → (so_far x).signal ≡ Listens w m → IsClosing (cap_seen x) w m → x.core.burst ≡ x.bank.window.edges
    → AnswersAt x.loaded x.trace (so_far x).signal (so_far x).cap_entered x.bank.time (verdict_note x.bank.time (Good frame))
    → (so_far x).stack ≡ kind.Cap ∷ outer → x.core.comm_at ≡ comm.Shut
    → ((act : Act) → o ≡ Some act → act_of (number_of act) ≡ Some act)
    → Stands (after_frame x.core.control frame.value) (with_frame (as_tick x.bank.time) frame.value (bit_of frame.telemetry) o x.back)
    → StepKeeps kind.Cap outer x (record {
      core = record x.core { cap_at = after_good x.core.window; control = after_frame x.core.control frame.value; orders = obeyed_if x.core.orders o };
      access = NoAccess;
      notes = note.Good (as_tick x.bank.time) frame.value (bit_of frame.telemetry) ∷ command_note x.bank.time o;
      over = false;
    })
judge_good_preserves None x outer frame w m g per sound e k same answers on shut named st = record {
  gates = quiet_gates kind.Cap x _ (λ e. cc) refl refl refl;
  fits = λ told. (
    record {
      at = refl;
      owned = refl;
      keeps = record { laws = elim [ owed.Windows ↦ answers | owed.Nests ↦ inside (so_far x).stack kind.Cap outer on | l ↦ tt ]; waits = tt };
    },
    tt,
  );
  ground = record {
    control = st;
    orders = orders_other x.loaded x.core.orders (note.Good (as_tick x.bank.time) frame.value (bit_of frame.telemetry)) x.back refl g.orders;
    outside = g.outside;
    line = g.line;
  };
  tie = λ told. (
    good_tied None frame x.trace x.core x.bank (so_far x) w m e k same,
    sound,
    framed_timer x.core.window (so_far x).signal _ _ x.bank.time _,
    per,
  );
  others = elim [ kind.Cap ↦ λ ne t. absurd (ne refl) | j ↦ λ ne t. t ];
  stack_is = on;
}
judge_good_preserves (Some act) x outer frame w m g per sound e k same answers on shut named st =
    let n : Note = note.Good (as_tick x.bank.time) frame.value (bit_of frame.telemetry) in
    let here = inside (so_far x).stack kind.Cap outer on in
    record {
      gates = quiet_gates kind.Cap x _ (λ e. cc) refl refl refl;
      fits = λ told. (
        record { at = refl; owned = refl; keeps = record { laws = elim [ owed.Windows ↦ answers | owed.Nests ↦ here | l ↦ tt ]; waits = tt } },
        (record { at = refl; owned = refl; keeps = record { laws = elim [ owed.Nests ↦ here | l ↦ tt ]; waits = tt } }, tt),
      );
      ground = record {
        control = st;
        orders = obeyed_tied x.loaded x.core.orders act (as_tick x.bank.time) (n ∷ x.back) (named act refl)
            (orders_other x.loaded x.core.orders n x.back refl g.orders);
        outside = g.outside;
        line = g.line;
      };
      tie = λ told. (
        good_tied (Some act) frame x.trace x.core x.bank (so_far x) w m e k same,
        sound,
        framed_timer x.core.window (so_far x).signal _ _ x.bank.time _,
        per,
      );
      others = elim [
        | kind.Cap ↦ λ ne t. absurd (ne refl)
        | kind.Main ↦ λ ne t. save_stays_asked x.core.main_at x.core.orders (Some act) (so_far x).saves t
        | kind.Comm ↦ λ ne t. redirected (drive_seen x) (forward_at x.loaded.settings (note.Command (as_tick x.bank.time) (number_of act) ∷ n ∷ x.back)) shut t
        | j ↦ λ ne t. t
      ];
      stack_is = on;
    }

pub cap_judge_preserves : (j : Judgement) (x : World) (outer : List Kind) (w m : ℕ) → Ground x → PeriodTie x → WindowSound x.bank.window x.bank.time
    → (so_far x).signal ≡ Listens w m → IsClosing (cap_seen x) w m → x.core.burst ≡ x.bank.window.edges
    → AnswersAt x.loaded x.trace (so_far x).signal (so_far x).cap_entered x.bank.time (verdict_note x.bank.time j) → (so_far x).stack ≡ kind.Cap ∷ outer
    → x.core.comm_at ≡ comm.Shut
    → StepKeeps kind.Cap outer x (judge_step j x.core x.bank)
cap_judge_preserves (Good frame) x outer w m g per sound e k same answers on shut =
    judge_good_preserves (act_in x.core frame) x outer frame w m g per sound e k same answers on shut
    (λ act e. acting_named (after_frame x.core.control frame.value).run.frames frame.value act e)
    (frame_stands x.core.control x.back (as_tick x.bank.time) frame.value (bit_of frame.telemetry) g.control)
cap_judge_preserves (Bad why) x outer w m g per sound e k same answers on shut = record {
  gates = quiet_gates kind.Cap x _ (λ e. cc) refl refl refl;
  fits = λ told. (
    record {
      at = refl;
      owned = refl;
      keeps = record { laws = elim [ owed.Windows ↦ answers | owed.Nests ↦ inside (so_far x).stack kind.Cap outer on | l ↦ tt ]; waits = tt };
    },
    tt,
  );
  ground = ground_noted x (note.Bad (as_tick x.bank.time) (why_number why)) refl refl tt refl g;
  tie = λ told. (
    (record { verdict = ap (λ (n : ℕ). n + 1) k.no_verdict; taken = k.taken; running = k.hears.running; no_timer = k.hears.no_timer }, (refl, refl)),
    sound,
    tt,
    per,
  );
  others = elim [ kind.Cap ↦ λ ne t. absurd (ne refl) | j ↦ λ ne t. t ];
  stack_is = on;
}
cap_judge_preserves (Found mode) x outer w m g per sound e k same answers on shut = record {
  gates = quiet_gates kind.Cap x _ (λ e. cc) refl refl refl;
  fits = λ told. (
    record {
      at = refl;
      owned = refl;
      keeps = record { laws = elim [ owed.Windows ↦ answers | owed.Nests ↦ inside (so_far x).stack kind.Cap outer on | l ↦ tt ]; waits = tt };
    },
    tt,
  );
  ground = record {
    control = found_stands x.core.control x.back (as_tick x.bank.time) mode g.control;
    orders = orders_other x.loaded x.core.orders (note.Detected (as_tick x.bank.time) (mode_number mode)) x.back refl g.orders;
    outside = g.outside;
    line = g.line;
  };
  tie = λ told. (
    (
      record {
        verdict = ap (λ (n : ℕ). n + 1) k.no_verdict;
        taken = k.taken;
        running = k.hears.running;
        no_timer =
            k.hears.no_timer;
      },
      refl,
    ),
    sound,
    tt,
    per,
  );
  others = elim [ kind.Cap ↦ λ ne t. absurd (ne refl) | j ↦ λ ne t. t ];
  stack_is = on;
}
cap_judge_preserves Nothing x outer w m g per sound e k same answers on shut = record {
  gates = quiet_gates kind.Cap x _ (λ e. cc) refl refl refl;
  fits = λ told. (
    record {
      at = refl;
      owned = refl;
      keeps = record { laws = elim [ owed.Windows ↦ answers | owed.Nests ↦ inside (so_far x).stack kind.Cap outer on | l ↦ tt ]; waits = tt };
    },
    tt,
  );
  ground = ground_noted x (note.Nothing (as_tick x.bank.time)) refl refl tt refl g;
  tie = λ told. (
    (record { verdict = ap (λ (n : ℕ). n + 1) k.no_verdict; taken = k.taken; running = k.hears.running; no_timer = k.hears.no_timer }, (refl, refl)),
    sound,
    tt,
    per,
  );
  others = elim [ kind.Cap ↦ λ ne t. absurd (ne refl) | j ↦ λ ne t. t ];
  stack_is = on;
}
