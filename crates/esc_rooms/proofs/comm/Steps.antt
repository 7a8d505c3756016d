-- COMM's steps keep the ties: the crossing timer, the period, its own timer, and its return.
use Rattle.std.proofs.Common.{◌≡◌, ◌<◌, ◌⊎◌, inl, inr, ℕ, Bool, true, false, not, ◌&&◌, ◌||◌, nat_lt, nat_le, if◌then◌else◌, List, Option, Some, refl, sym, ◌∙◌, ap, subst, arith}
use Rattle.std.proofs.lemmas.Bool.{or_left, or_right}
use Rattle.esc_base.specs.Times.{stuck_changes}
use Rattle.esc_base.specs.declared.kind.Kind.{Kind}
use Rattle.esc_base.specs.declared.kind.Kind.TheVariants as kind
use Rattle.esc_base.specs.declared.note.Note.TheVariants as note
use Rattle.esc_base.specs.Numbers.{as_tick}
use Rattle.timer_regs.specs.declared.regs.Reg.TheVariants as reg
use Rattle.interrupt_machine.specs.Did.{Access, Writes, accessed}
use Rattle.commutation.specs.Sectors.{low_of}
use Rattle.commutation.specs.Commutated.{sector_at}
use Rattle.gate_driver.specs.declared.to_sector.ChangeAt.{ChangeAt}
use Rattle.esc_core.specs.declared.state.CommAt.{CommAt}
use Rattle.esc_core.specs.declared.state.CommAt.TheVariants as comm
use Rattle.esc_core.specs.declared.state.TickAt.{TickAt}
use Rattle.esc_core.specs.declared.state.TickAt.TheVariants as tick
use Rattle.esc_core.specs.Drive.{is_stuck, due_at}
use Rattle.esc_core.specs.Comm.{comm_step}
use Rattle.esc_core.specs.Stepped.{Stepped, goes_on}
use Rattle.esc_core.specs.Firmware.{comm_left, tick_need}
use Rattle.esc_laws.specs.Saves.{advance_of}
use Rattle.esc_laws.specs.Calls.{turns_in, postponed_at, low_is_on, HasTurned, HasCaughtUp}
use Rattle.esc_rooms.specs.DriveTied.{DriveView, LowTied, TimerKept, Resumes, Resumed, HasActed, OnOrHeld, OnOrLate, low_on}
use Rattle.esc_rooms.specs.World.{World, so_far}
use Rattle.commutation.specs.Turns.{six_of}
use Rattle.commutation.specs.Drive.{turns_at, rests_at}
use Rattle.esc_rooms.specs.CrossTied.{ends_drive}
use Rattle.esc_rooms.specs.PeriodTied.{PeriodTied}
use Rattle.esc_rooms.specs.Rooms.{StepTold, StepKeeps, PeriodTie, drive_seen, cross_seen}
use Rattle.esc_rooms.proofs.shared.RoomSteps.{ground_noted, quiet_gates, inside, popped}
use Rattle.zero_cross.specs.declared.phase.Phase.{Phase}
use Rattle.zero_cross.specs.Kept.{until}
use Rattle.esc_core.specs.Drive.{arms as arms_crossing}
use Rattle.esc_rooms.proofs.cmp.CrossFacts.{cmp_unmasked, tick_unmasked}
use Rattle.esc_rooms.proofs.cmp.BesideComm.{moved_cross, armed_cross, left_cross}
use Rattle.esc_rooms.proofs.comm.Facts.{same_words, moved_view, comm_moves, IsComm, place_tie, before_step, same_to, same_marked}
use Rattle.esc_rooms.proofs.cap.Period.{period_kept, period_written, driven_on}
use Rattle.esc_rooms.proofs.comm.Preserves.{same_sums, beside_tick, no_commute, same_search, comm_step_preserves}
use Rattle.esc_rooms.proofs.comm.Turns.{comm_decide_preserves}
use Rattle.esc_rooms.proofs.comm.Switches.{comm_turn_preserves, comm_low_preserves}
use Rattle.esc_laws.specs.NoteLaw as owed

-- ---- it arms the crossing timer, and writes the period

-- its other places read nothing of where it stands, its timer and the mark
acted_moved : (w : World) (place : CommAt) (timer : Option ℕ) (stuck : Bool) → HasActed (drive_seen w)
    → HasActed (moved_view (drive_seen w) w.core.drive place timer stuck (postponed_at w.back) w.bank.hi w.bank.lo)
acted_moved w place timer stuck a = record { some = a.some; done = done_kept a.done }
  where
    done_kept : ((turns_in w.back ≡ 1) × OnOrHeld (drive_seen w)) ⊎ Resumed (drive_seen w)
        → ((turns_in w.back ≡ 1) × OnOrHeld (moved_view (drive_seen w) w.core.drive place timer stuck (postponed_at w.back) w.bank.hi w.bank.lo))
        ⊎ Resumed (moved_view (drive_seen w) w.core.drive place timer stuck (postponed_at w.back) w.bank.hi w.bank.lo)
    done_kept (inl d) = inl d
    done_kept (inr r) = inr (record { none = r.none; not_due = r.not_due; postponed = r.postponed; low = r.low; prompt = r.prompt })

comm_blank_preserves : (at : ChangeAt) (w : World) (outer : List Kind) → IsComm w outer comm.Blank at
    → StepKeeps kind.Comm outer w (comm_step comm.Blank w.core w.bank)
comm_blank_preserves at w outer i =
    let t = i.ties kind.Comm in
    let u = i.ties kind.Cmp in
    let tied : HasActed (drive_seen w) = place_tie w outer comm.Blank at i in
    let begun = u.begins (sym (same_search w outer comm.Blank at i)) in
    let by : arms_crossing (until w.core.drive.crossing.phase) ≡ Writes reg.CmpAt (cross_seen w).blanked =
    ap (λ (p : Phase). arms_crossing (until p)) begun.blank in
    subst (λ (a : Access). StepKeeps kind.Comm outer w (goes_on (record w.core { comm_at = comm.Period }) a)) (sym by) (record {
      gates = quiet_gates kind.Comm w _ (λ f. cc) refl refl refl;
      fits = λ told. tt;
      ground = i.ground;
      tie = λ told. comm_moves (drive_seen w) 2 w.core.drive comm.Period w.bank.comm w.bank.stuck (postponed_at w.back) w.bank.hi w.bank.lo
          (no_commute w i.alone) t (record {
            words = same_words (drive_seen w) w.core.drive refl t;
            change_is = refl;
            turned_is = refl;
            forced_is = refl;
            before = before_step w outer comm.Blank at i;
            since_is = omega arith;
            to_is = λ f s. same_to w outer comm.Blank at i refl s;
            at_low = t.newest.at_low;
            stuck_is = t.row.stuck;
            marked = λ l f. cc;
            place_is = acted_moved w comm.Period w.bank.comm w.bank.stuck tied;
            low = λ f. cc;
            waits = λ f. cc;
          });
      others = elim [
        | kind.Comm ↦ λ ne v. absurd (ne refl)
        | kind.Tick ↦ λ ne v. beside_tick w outer comm.Blank comm.Period at w.core.drive w.bank.hi w.bank.lo w.bank.sector w.bank.comm w.bank.stuck i v
        | kind.Cap ↦ λ ne u. (u.0, u.1, u.2, period_kept w _ (same_sums w outer comm.Blank at i) u.3)
        | kind.Cmp ↦ λ ne v. armed_cross (cross_seen w) comm.Period (sym (same_search w outer comm.Blank at i)) refl (λ e. cc)
            (cmp_unmasked w.core.cmp_at (i.alone kind.Cmp (λ e. cc))) v
        | j ↦ λ ne v. v
      ];
      stack_is = i.on;
    })

writes_period : (w : World) (outer : List Kind) (at : ChangeAt) → IsComm w outer comm.Period at → PeriodTie w
    → PeriodTied w.core.drive.timing.turns false (ends_drive w.core.tick_at) (six_of w.core.drive.timing.turns) w.bank.sector (turns_at w.back)
    (rests_at w.back)
writes_period w outer at i p = period_written _ _ _ _ w.bank.sector (turns_at w.back) (rests_at w.back) (driven_on w.back i.drives) p

comm_period_preserves : (at : ChangeAt) (w : World) (outer : List Kind) → IsComm w outer comm.Period at
    → StepKeeps kind.Comm outer w (comm_step comm.Period w.core w.bank)
comm_period_preserves at w outer i =
    let t = i.ties kind.Comm in
    let tied : HasActed (drive_seen w) = place_tie w outer comm.Period at i in
    record {
      gates = quiet_gates kind.Comm w _ (λ f. cc) refl refl refl;
      fits = λ told. tt;
      ground = i.ground;
      tie = λ told. comm_moves (drive_seen w) 2 w.core.drive comm.Arm w.bank.comm w.bank.stuck (postponed_at w.back) w.bank.hi w.bank.lo
          (no_commute w i.alone) t (record {
            words = same_words (drive_seen w) w.core.drive refl t;
            change_is = refl;
            turned_is = refl;
            forced_is = refl;
            before = before_step w outer comm.Period at i;
            since_is = omega arith;
            to_is = λ f s. same_to w outer comm.Period at i refl s;
            at_low = t.newest.at_low;
            stuck_is = t.row.stuck;
            marked = λ l f. cc;
            place_is = acted_moved w comm.Arm w.bank.comm w.bank.stuck tied;
            low = λ f. cc;
            waits = λ f. cc;
          });
      others = elim [
        | kind.Comm ↦ λ ne u. absurd (ne refl)
        | kind.Tick ↦ λ ne u. beside_tick w outer comm.Period comm.Arm at w.core.drive w.bank.hi w.bank.lo w.bank.sector w.bank.comm w.bank.stuck i u
        | kind.Cap ↦ λ ne u. (u.0, u.1, u.2, writes_period w outer at i u.3)
        | kind.Cmp ↦ λ ne u. moved_cross (cross_seen w) comm.Arm w.core.drive.turn.at w.core.drive.postponed (same_search w outer comm.Period at i) (λ e. cc)
            u.late u
        | j ↦ λ ne u. u
      ];
      stack_is = i.on;
    }

-- ---- it arms its timer, and returns

comm_arm_preserves : (full : Bool) (at : ChangeAt) (w : World) (outer : List Kind) → nat_le stuck_changes w.core.drive.forced ≡ full
    → IsComm w outer comm.Arm at
    → StepKeeps kind.Comm outer w (goes_on (record w.core { comm_at = if full then comm.Stick else comm.Back }) (Writes reg.CommAt (due_at w.core.drive)))
comm_arm_preserves true at w outer e i =
    let t = i.ties kind.Comm in
    let tied : HasActed (drive_seen w) = place_tie w outer comm.Arm at i in
    comm_step_preserves w outer comm.Arm comm.Stick at w.core.drive.gates w.core.drive.turn w.core.drive.postponed (Some (due_at w.core.drive)) w.bank.stuck
    w.bank.hi w.bank.lo _ i refl (λ f. cc) (omega arith) refl refl (record {
      gates = quiet_gates kind.Comm w _ (λ f. cc) refl refl refl;
      words = same_words (drive_seen w) w.core.drive refl t;
      to_is = λ f s. same_to w outer comm.Arm at i refl s;
      at_low = t.newest.at_low;
      stuck_is = t.row.stuck;
      marked = λ l f. cc;
      place_is = ((acted_moved w comm.Stick (Some (due_at w.core.drive)) w.bank.stuck tied, refl), e);
      late = (i.ties kind.Cmp).late;
    })
comm_arm_preserves false at w outer e i =
    let t = i.ties kind.Comm in
    let tied : HasActed (drive_seen w) = place_tie w outer comm.Arm at i in
    comm_step_preserves w outer comm.Arm comm.Back at w.core.drive.gates w.core.drive.turn w.core.drive.postponed (Some (due_at w.core.drive)) w.bank.stuck
    w.bank.hi w.bank.lo _ i refl (λ f. cc) (omega arith) refl refl (record {
      gates = quiet_gates kind.Comm w _ (λ f. cc) refl refl refl;
      words = same_words (drive_seen w) w.core.drive refl t;
      to_is = λ f s. same_to w outer comm.Arm at i refl s;
      at_low = t.newest.at_low;
      stuck_is = t.row.stuck;
      marked = λ l f g. (let z : false ≡ true = sym e ∙ g in cc);
      place_is = (acted_moved w comm.Back (Some (due_at w.core.drive)) w.bank.stuck tied, refl);
      late = (i.ties kind.Cmp).late;
    })

comm_stick_preserves : (at : ChangeAt) (w : World) (outer : List Kind) → IsComm w outer comm.Stick at
    → StepKeeps kind.Comm outer w (comm_step comm.Stick w.core w.bank)
comm_stick_preserves at w outer i =
    let t = i.ties kind.Comm in
    let tied = place_tie w outer comm.Stick at i in
    let stuck : Bool = w.bank.stuck || true in
    let set : stuck ≡ true = or_right w.bank.stuck true refl in
    comm_step_preserves w outer comm.Stick comm.Back at w.core.drive.gates w.core.drive.turn w.core.drive.postponed w.bank.comm stuck w.bank.hi w.bank.lo _ i
    refl (λ f. cc) (omega arith) refl refl (record {
      gates = quiet_gates kind.Comm w _ (λ f. cc) refl refl refl;
      words = same_words (drive_seen w) w.core.drive refl t;
      to_is = λ f s. same_to w outer comm.Stick at i refl s;
      at_low = t.newest.at_low;
      stuck_is = λ l. t.row.stuck l ∙ or_right w.bank.stuck (is_stuck w.core.drive) tied.1 ∙ sym (or_left stuck (is_stuck w.core.drive) set);
      marked = λ l f g. set;
      place_is = (acted_moved w comm.Back w.bank.comm stuck tied.0.0, tied.0.1);
      late = (i.ties kind.Cmp).late;
    })

-- what the notes say of the low switch
low_told : (w : World) (s : Stepped) → s.core.drive.gates ≡ w.core.drive.gates → (accessed w.bank s.access).lo ≡ w.bank.lo → StepTold w s
    → w.bank.sector ≡ sector_at w.back
    → low_is_on w.back ≡ low_on (drive_seen w)
low_told w s e lo told sector = rw (told.lo_is, lo, ← sector) refl

comm_return_preserves : (at : ChangeAt) (w : World) (outer : List Kind) → IsComm w outer comm.Back at
    → StepKeeps kind.Comm outer w (comm_step comm.Back w.core w.bank)
comm_return_preserves at w outer i =
    let t = i.ties kind.Comm in
    let tied = place_tie w outer comm.Back at i in
    let s : Stepped = comm_step comm.Back w.core w.bank in
    let to : w.core.drive.turn.to ≡ w.bank.sector = same_to w outer comm.Back at i refl tied.0.some in
    record {
      gates = quiet_gates kind.Comm w _ (λ f. cc) refl refl refl;
      fits = λ told. (
        record {
          at = refl;
          owned = refl;
          keeps = record {
            laws = elim [
              | owed.Windows ↦ λ k. cc
              | owed.Replies ↦ λ k. cc
              | owed.Drives ↦ λ k. cc
              | owed.Searches ↦ λ e. cc
              | owed.Nests ↦ (inside (so_far w).stack kind.Comm outer i.on, has_done told to tied.0.done)
              | l ↦ tt
            ];
            waits = tt;
          };
        },
        tt,
      );
      ground = ground_noted w (note.Leave (as_tick w.bank.time) 6) refl refl tt refl i.ground;
      tie = λ told.
          comm_moves (drive_seen w) 3 w.core.drive comm.Shut w.bank.comm w.bank.stuck (nat_lt 0 (turns_in w.back) && not (low_is_on w.back)) w.bank.hi
          w.bank.lo (no_commute w i.alone) t
          (record {
            words = same_words (drive_seen w) w.core.drive refl t;
            change_is = refl;
            turned_is = refl;
            forced_is = refl;
            before = before_step w outer comm.Back at i;
            since_is = omega arith;
            to_is = λ f x. to;
            at_low = t.newest.at_low;
            stuck_is = t.row.stuck;
            marked = λ l f. same_marked w outer comm.Back at i refl l;
            place_is = tt;
            low = λ f l. keeps_timer w.core.tick_at (i.alone kind.Tick (λ e. cc)) (inl (tied.1, on_or_late tied.0.done));
            waits = λ f late. waits_so told late tied.0.done;
          });
      others = elim [
        | kind.Comm ↦ λ ne u. absurd (ne refl)
        | kind.Tick ↦ λ ne u. beside_tick w outer comm.Back comm.Shut at w.core.drive w.bank.hi w.bank.lo w.bank.sector w.bank.comm w.bank.stuck i u
        | kind.Cap ↦ λ ne u. (u.0, u.1, u.2, period_kept w _ (same_sums w outer comm.Back at i) u.3)
        | kind.Cmp ↦ λ ne u. left_cross (cross_seen w) (sym (same_search w outer comm.Back at i)) (tick_unmasked w.core.tick_at (i.alone kind.Tick (λ e. cc))) u
        | j ↦ λ ne u. u
      ];
      stack_is = popped (so_far w).stack kind.Comm outer i.on;
    }
  where
    view : DriveView
    view = moved_view (drive_seen w) w.core.drive comm.Shut w.bank.comm w.bank.stuck (nat_lt 0 (turns_in w.back) && not (low_is_on w.back)) w.bank.hi w.bank.lo

    low_same : StepTold w (comm_step comm.Back w.core w.bank) → low_is_on w.back ≡ low_on (drive_seen w)
    low_same told = low_told w (comm_step comm.Back w.core w.bank) refl refl told (i.ties kind.Comm).switches.sector_is

    has_done : StepTold w (comm_step comm.Back w.core w.bank) → w.core.drive.turn.to ≡ w.bank.sector
        → ((turns_in w.back ≡ 1) × OnOrHeld (drive_seen w)) ⊎ Resumed (drive_seen w) → HasTurned w.back ⊎ HasCaughtUp (advance_of w.loaded.settings) w.back
    has_done told to (inl (one, inl o)) = inl (record { one = one; low = inl (low_same told ∙ o.0) })
    has_done told to (inl (one, inr h)) =
        inl (record {
          one = one;
          low = inr (rw (told.hi_free (low_of (sector_at w.back)), ← (i.ties kind.Comm).switches.sector_is, ← to) h.2);
        })
    has_done told to (inr r) = inr (record { none = r.none; not_due = r.not_due; postponed = r.postponed; low = low_same told ∙ r.low })

    on_or_late : ((turns_in w.back ≡ 1) × OnOrHeld (drive_seen w)) ⊎ Resumed (drive_seen w)
        → OnOrLate (drive_seen w)
    on_or_late (inl (one, inl o)) = inl o
    on_or_late (inl (one, inr h)) = inr (h.0, h.1)
    on_or_late (inr r) = inl (r.low, r.prompt)

    keeps_timer : (at : TickAt) → 8 < tick_need at → TimerKept view → LowTied at view
    keeps_timer tick.Shut l k = k
    keeps_timer tick.Raise l k = k
    keeps_timer tick.Read l k = k
    keeps_timer (tick.Off at) l k = tt
    keeps_timer tick.DutyOff l k = tt
    keeps_timer tick.DriveOff l k = tt
    keeps_timer (tick.DutyOn start) l k = absurd (omega arith)
    keeps_timer tick.Start l k = absurd (omega arith)
    keeps_timer tick.Lower l k = k
    keeps_timer tick.Back l k = k

    waits_so : StepTold w (comm_step comm.Back w.core w.bank) → w.core.drive.postponed ≡ true
        → ((turns_in w.back ≡ 1) × OnOrHeld (drive_seen w)) ⊎ Resumed (drive_seen w) → (nat_lt 0 (turns_in w.back) && not (low_is_on w.back)) ≡ true
    waits_so told late (inl (one, inl o)) = (let z : true ≡ false = sym late ∙ o.1 in cc)
    waits_so told late (inl (one, inr h)) = rw (one, low_same told, h.1) refl
    waits_so told late (inr r) = (let z : true ≡ false = sym late ∙ r.prompt in cc)

pub comm_steps_preserve : (place : CommAt) (w : World) (outer : List Kind) → IsComm w outer place w.core.drive.turn.at
    → 0 < comm_left place w.core.drive.turn.at
    → StepKeeps kind.Comm outer w (comm_step place w.core w.bank)
comm_steps_preserve comm.Shut w outer i left = absurd (omega arith)
comm_steps_preserve comm.Decide w outer i left = comm_decide_preserves (nat_le w.core.drive.change w.bank.time) w outer refl i
comm_steps_preserve comm.Turn w outer i left = comm_turn_preserves w.core.drive.turn.at w outer i
comm_steps_preserve comm.Low w outer i left =
    let tied : Resumes (drive_seen w) = place_tie w outer comm.Low w.core.drive.turn.at i in
    comm_low_preserves w outer (record {
      ground = i.ground;
      ties = i.ties;
      on = i.on;
      place_is = i.place_is;
      change_is = (i.ties kind.Comm).newest.at_low tied.late;
      drives = i.drives;
      past = i.past;
      alone = i.alone;
    })
comm_steps_preserve comm.Blank w outer i left = comm_blank_preserves w.core.drive.turn.at w outer i
comm_steps_preserve comm.Period w outer i left = comm_period_preserves w.core.drive.turn.at w outer i
comm_steps_preserve comm.Arm w outer i left = comm_arm_preserves (nat_le stuck_changes w.core.drive.forced) w.core.drive.turn.at w outer refl i
comm_steps_preserve comm.Stick w outer i left = comm_stick_preserves w.core.drive.turn.at w outer i
comm_steps_preserve comm.Back w outer i left = comm_return_preserves w.core.drive.turn.at w outer i
