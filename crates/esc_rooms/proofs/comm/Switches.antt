-- COMM's steps that turn the switches of the new pair on.
use Rattle.std.proofs.Common.{◌+◌, ◌≡◌, ◌≢◌, ◌≤◌, ◌<◌, inl, inr, ℕ, Bool, true, false, nat_lt, bit_or, List, Option, Some, None, refl, sym, ◌∙◌, ap, subst, arith}
use Rattle.esc_base.specs.declared.gate.Leg.{Leg}
use Rattle.esc_base.specs.declared.kind.Kind.{Kind}
use Rattle.esc_base.specs.declared.kind.Kind.TheVariants as kind
use Rattle.esc_base.specs.Legs.{mask_of, is_on}
use Rattle.timer_regs.specs.Bank.{Bank}
use Rattle.timer_regs.specs.Effects.{read_value, written}
use Rattle.timer_regs.specs.declared.regs.Reg.TheVariants as reg
use Rattle.commutation.specs.Sectors.{high_of, low_of}
use Rattle.gate_driver.specs.declared.to_sector.ChangeAt.{ChangeAt}
use Rattle.gate_driver.specs.declared.to_sector.ChangeAt.TheVariants as change
use Rattle.gate_driver.specs.Gated.{Gated, at_leg, offs, gates_after, low_wait, high_wait}
use Rattle.gate_driver.specs.Change.{low_step, high_step, duty_step, place_step}
use Rattle.gate_driver.proofs.Bits.{or_on, or_is, off_is}
use Rattle.gate_driver.proofs.DeadTime.{may_turn_on, high_on_keeps, low_on_keeps}
use Rattle.esc_core.specs.declared.drive.Drive.{Drive}
use Rattle.esc_core.specs.declared.state.CommAt.{CommAt}
use Rattle.esc_core.specs.declared.state.CommAt.TheVariants as comm
use Rattle.esc_core.specs.Drive.{low_free}
use Rattle.esc_core.specs.Stepped.{goes_on}
use Rattle.interrupt_machine.specs.Did.{Access, accessed}
use Rattle.esc_rooms.specs.CrossTied.{begins_search}
use Rattle.esc_rooms.specs.PeriodTied.{sums_gaps}
use Rattle.esc_core.specs.Comm.{turned, turn_step, resumed, resumed_step}
use Rattle.esc_laws.specs.Driven.{InPair}
use Rattle.esc_laws.specs.Calls.{postponed_at}
use Rattle.esc_rooms.specs.DriveTied.{IsUp, Resumes, low_on, CommTied, comm_since, turn_since, is_turning, is_marking}
use Rattle.esc_rooms.specs.World.{World}
use Rattle.esc_rooms.specs.Rooms.{StepKeeps, drive_seen, cross_seen}
use Rattle.esc_rooms.proofs.shared.RoomSteps.{quiet_gates}
use Rattle.esc_rooms.proofs.shared.DriveFacts.{pair_apart, low_leg_off}
use Rattle.zero_cross.specs.Kept.{until}
use Rattle.esc_rooms.proofs.cmp.BesideComm.{prompt_late, late_blank}
use Rattle.esc_rooms.proofs.comm.Facts.{moved_view, Words, high_words, low_words, IsComm, place_tie, same_to, comm_gates, waits_free}
use Rattle.esc_rooms.proofs.comm.Preserves.{same_search, drive_by, comm_step_preserves}
use Rattle.esc_rooms.proofs.comm.Turns.{turn_tie, clear_high_preserves, clear_low_preserves, set_sector_preserves}

-- ---- the low switch

-- where it has to wait, it is off, and the high one of its leg went off less than 48 ticks ago
low_waits : (w : World) (outer : List Kind) (place : CommAt) (at : ChangeAt) (until : ℕ) → IsComm w outer place at → 0 < w.bank.sector
    → w.core.drive.turn.to ≡ w.bank.sector → low_wait w.core.drive.gates w.bank (low_of w.core.drive.turn.to) ≡ Some until
    → (w.bank.time < low_free w.core.drive) × (low_on (drive_seen w) ≡ false)
low_waits w outer place at until i some to e =
    let t = i.ties kind.Comm in
    let off : is_on w.bank.hi (low_of w.core.drive.turn.to) ≡ false =
    rw to (low_leg_off w.bank.sector w.bank.hi w.bank.lo t.switches.sectors t.switches.pair) in
    let later : w.bank.time < low_free w.core.drive =
    waits_free w.bank.hi (low_free w.core.drive) (low_of w.core.drive.turn.to) w.bank.time until off e in (
      later,
      off_is (low_on (drive_seen w)) (λ on. (
          let free : at_leg w.core.drive.gates.hi_free (low_of w.bank.sector) ≤ w.bank.time = t.switches.held (low_of w.bank.sector) on in
          let free' : low_free w.core.drive ≤ w.bank.time = rw to free in
          omega arith)),
    )

-- what turning it on leaves
low_pair : (w : World) (outer : List Kind) (place : CommAt) (at : ChangeAt) → IsComm w outer place at → 0 < w.bank.sector → w.core.drive.turn.to ≡ w.bank.sector
    → InPair w.bank.sector w.bank.hi (bit_or w.bank.lo (mask_of (low_of w.core.drive.turn.to)))
low_pair w outer place at i some to =
    let t = i.ties kind.Comm in
    record {
      high = t.switches.pair.high;
      low = λ x on. elim (or_is w.bank.lo (low_of w.core.drive.turn.to) x on) [
        | inl s ↦ (ap low_of (sym to) ∙ s, some)
        | inr o ↦ t.switches.pair.low x o
      ];
    }

low_after : (w : World) (outer : List Kind) (place : CommAt) (at : ChangeAt) (d : Drive) → IsComm w outer place at → 0 < w.bank.sector
    → w.core.drive.turn.to ≡ w.bank.sector → low_wait w.core.drive.gates w.bank (low_of w.core.drive.turn.to) ≡ None
    → d.gates.hi_free ≡ offs w.core.drive.gates.hi_free w.bank.hi w.bank.hi w.bank.time
    → Words (drive_seen w) d w.bank.hi (bit_or w.bank.lo (mask_of (low_of w.core.drive.turn.to)))
low_after w outer place at d i some to e f =
    let t = i.ties kind.Comm in
    let x : Leg = low_of w.core.drive.turn.to in
    let may = may_turn_on w.bank.hi (at_leg w.core.drive.gates.hi_free x) x w.bank.time e in
    low_words (drive_seen w) d (bit_or w.bank.lo (mask_of x)) f (low_pair w outer place at i some to)
    (λ y on. elim (or_is w.bank.lo x y on) [
      | inl s ↦ inr (subst (λ (z : Leg). at_leg w.core.drive.gates.hi_free z ≤ w.bank.time) s may.free)
      | inr o ↦ inl o
    ]) t

low_is : (w : World) → w.core.drive.turn.to ≡ w.bank.sector → is_on (bit_or w.bank.lo (mask_of (low_of w.core.drive.turn.to))) (low_of w.bank.sector) ≡ true
low_is w to = subst (λ (s : ℕ). is_on (bit_or w.bank.lo (mask_of (low_of w.core.drive.turn.to))) (low_of s) ≡ true) to
    (or_on w.bank.lo (low_of w.core.drive.turn.to))

low_on_preserves : (wait : Option ℕ) (w : World) (outer : List Kind) → low_wait w.core.drive.gates w.bank (low_of w.core.drive.turn.to) ≡ wait
    → IsComm w outer comm.Turn change.Low
    → StepKeeps kind.Comm outer w (turned change.Low (low_step wait w.core.drive.turn w.core.drive.gates w.bank) w.core w.bank)
low_on_preserves None w outer e i =
    let t = i.ties kind.Comm in
    let g : Gated = w.core.drive.gates in
    let x : Leg = low_of w.core.drive.turn.to in
    let after : Bank = written w.bank reg.GlSet (mask_of x) in
    let tied = turn_tie w outer change.Low i in
    let to : w.core.drive.turn.to ≡ w.bank.sector = same_to w outer comm.Turn change.Low i refl tied.1 in
    comm_step_preserves w outer comm.Turn comm.Turn change.Low (gates_after g w.bank after) (record {
      to = w.core.drive.turn.to;
      at = change.Position;
    }) false w.bank.comm
    w.bank.stuck w.bank.hi (bit_or w.bank.lo (mask_of x)) _ i refl (λ f. cc) (omega arith) refl refl (record {
      gates = comm_gates w outer comm.Turn change.Low _ i refl
          (low_on_keeps g (gates_after g w.bank after) w.bank after x refl refl refl e
          (pair_apart w.bank.sector w.bank.hi w.bank.lo t.switches.sectors t.switches.pair))
          (low_pair w outer comm.Turn change.Low i tied.1 to);
      words = low_after w outer comm.Turn change.Low (record w.core.drive { gates = gates_after g w.bank after }) i tied.1 to e refl;
      to_is = λ f s. to;
      at_low = λ f. cc;
      stuck_is = t.row.stuck;
      marked = λ l f. cc;
      place_is = record { one = tied.0; some = tied.1; low = low_is w to; prompt = refl };
      late = prompt_late w.core.cmp_at w.core.drive.crossing.phase;
    })
low_on_preserves (Some until) w outer e i =
    let t = i.ties kind.Comm in
    let u = i.ties kind.Cmp in
    let tied = turn_tie w outer change.Low i in
    let to : w.core.drive.turn.to ≡ w.bank.sector = same_to w outer comm.Turn change.Low i refl tied.1 in
    let late = low_waits w outer comm.Turn change.Low until i tied.1 to e in
    comm_step_preserves w outer comm.Turn comm.Blank change.Low w.core.drive.gates w.core.drive.turn true w.bank.comm w.bank.stuck w.bank.hi w.bank.lo _ i
    refl (λ f. cc)
    (omega arith) refl refl (record {
      gates = quiet_gates kind.Comm w _ (λ f. cc) refl refl refl;
      words = t.switches;
      to_is = λ f s. to;
      at_low = λ f. i.change_is;
      stuck_is = t.row.stuck;
      marked = λ l f. cc;
      place_is = record {
        some = tied.1;
        done = inl (tied.0, inr (refl, late.1, (let p = t.switches.past in let l = late.0 in omega arith)));
      };
      late = late_blank w.core.cmp_at w.core.drive.crossing.phase true (cross_seen w).blanked
          (u.begins (sym (same_search w outer comm.Turn change.Low i))).blank;
    })

-- a postponed one, which may turn on now
low_resumed_preserves : (wait : Option ℕ) (w : World) (outer : List Kind) → low_wait w.core.drive.gates w.bank (low_of w.core.drive.turn.to) ≡ wait
    → IsComm w outer comm.Low change.Low
    → StepKeeps kind.Comm outer w (resumed (low_step wait w.core.drive.turn w.core.drive.gates w.bank) w.core)
low_resumed_preserves None w outer e i =
    let t = i.ties kind.Comm in
    let g : Gated = w.core.drive.gates in
    let x : Leg = low_of w.core.drive.turn.to in
    let after : Bank = written w.bank reg.GlSet (mask_of x) in
    let tied : Resumes (drive_seen w) = place_tie w outer comm.Low change.Low i in
    let to : w.core.drive.turn.to ≡ w.bank.sector = same_to w outer comm.Low change.Low i refl tied.some in
    comm_step_preserves w outer comm.Low comm.Arm change.Low (gates_after g w.bank after) (record {
      to = w.core.drive.turn.to;
      at = change.Position;
    }) false w.bank.comm
    w.bank.stuck w.bank.hi (bit_or w.bank.lo (mask_of x)) _ i refl (λ f. cc) (omega arith) refl refl (record {
      gates = comm_gates w outer comm.Low change.Low _ i refl
          (low_on_keeps g (gates_after g w.bank after) w.bank after x refl refl refl e
          (pair_apart w.bank.sector w.bank.hi w.bank.lo t.switches.sectors t.switches.pair))
          (low_pair w outer comm.Low change.Low i tied.some to);
      words = low_after w outer comm.Low change.Low (record w.core.drive { gates = gates_after g w.bank after }) i tied.some to e refl;
      to_is = λ f s. to;
      at_low = λ f. cc;
      stuck_is = t.row.stuck;
      marked = λ l f. cc;
      place_is = record {
        some = tied.some;
        done = inr (record { none = tied.none; not_due = tied.not_due; postponed = tied.postponed; low = low_is w to; prompt = refl });
      };
      late = prompt_late w.core.cmp_at w.core.drive.crossing.phase;
    })
low_resumed_preserves (Some until) w outer e i =
    let tied : Resumes (drive_seen w) = place_tie w outer comm.Low change.Low i in
    let to : w.core.drive.turn.to ≡ w.bank.sector = same_to w outer comm.Low change.Low i refl tied.some in
    let late = low_waits w outer comm.Low change.Low until i tied.some to e in
    absurd (let l = late.0 in let f = tied.free in omega arith)

-- ---- the high switch

-- a step that turns nothing on, in a change whose low switch is on: to the next place of the change, or behind it
comm_quiet_preserves : (w : World) (outer : List Kind) (at to : ChangeAt) (next : CommAt) (access : Access) → IsComm w outer comm.Turn at
    → is_turning comm.Turn at ≡ false
    → IsUp (drive_seen w) → accessed w.bank access ≡ record w.bank { accesses = (accessed w.bank access).accesses } → next ≢ comm.Shut
    → comm_since next to ≤ turn_since at + 1
    → sums_gaps next to ≡ sums_gaps comm.Turn at → begins_search next to ≡ begins_search comm.Turn at → is_marking next to ≡ true
    → CommTied next (moved_view (drive_seen w) (drive_by w w.core.drive.gates (record { to = w.core.drive.turn.to; at = to }) w.core.drive.postponed) next
    w.bank.comm w.bank.stuck (postponed_at w.back) w.bank.hi w.bank.lo)
    → StepKeeps kind.Comm outer w (goes_on (record w.core {
      comm_at = next;
      drive = drive_by w w.core.drive.gates (record { to = w.core.drive.turn.to; at = to }) w.core.drive.postponed;
    }) access)
comm_quiet_preserves w outer at to next access i same up stays on since sums search marks place =
    let t = i.ties kind.Comm in
    comm_step_preserves w outer comm.Turn next at w.core.drive.gates (record {
      to = w.core.drive.turn.to;
      at =
          to;
    }) w.core.drive.postponed w.bank.comm w.bank.stuck
    w.bank.hi w.bank.lo access i stays on since sums search (record {
      gates = quiet_gates kind.Comm w _ (λ f. cc) refl (ap (λ (b : Bank). b.hi) stays) (ap (λ (b : Bank). b.lo) stays);
      words = t.switches;
      to_is = λ f s. same_to w outer comm.Turn at i same up.some;
      at_low = λ f. (let z : true ≡ false = sym f ∙ up.prompt in cc);
      stuck_is = t.row.stuck;
      marked = λ l f. absurd (let z : true ≡ false = sym marks ∙ f in cc);
      place_is = place;
      late = (i.ties kind.Cmp).late;
    })

position_preserves : (w : World) (outer : List Kind) → IsComm w outer comm.Turn change.Position
    → StepKeeps kind.Comm outer w (turn_step change.Position w.core w.bank)
position_preserves w outer i =
    let up : IsUp (drive_seen w) = turn_tie w outer change.Position i in
    comm_quiet_preserves w outer change.Position (change.Duty (read_value w.bank reg.PwmPos)) comm.Turn _ i refl up refl (λ f. cc) (omega arith) refl refl refl
    (record { one = up.one; some = up.some; low = up.low; prompt = up.prompt })

duty_preserves : (below : Bool) (position : ℕ) (w : World) (outer : List Kind) → IsComm w outer comm.Turn (change.Duty position)
    → StepKeeps kind.Comm outer w (turned (change.Duty position) (duty_step below w.core.drive.turn w.core.drive.gates) w.core w.bank)
duty_preserves true position w outer i =
    let up : IsUp (drive_seen w) = turn_tie w outer (change.Duty position) i in
    comm_quiet_preserves w outer (change.Duty position) change.High comm.Turn _ i refl up refl (λ f. cc) (omega arith) refl refl refl
    (record { one = up.one; some = up.some; low = up.low; prompt = up.prompt })
duty_preserves false position w outer i =
    let up : IsUp (drive_seen w) = turn_tie w outer (change.Duty position) i in
    comm_quiet_preserves w outer (change.Duty position) change.Over comm.Blank _ i refl up refl (λ f. cc) (omega arith) refl refl refl
    (record { some = up.some; done = inl (up.one, inl (up.low, up.prompt)) })

high_preserves : (wait : Option ℕ) (w : World) (outer : List Kind) → high_wait w.core.drive.gates w.bank (high_of w.core.drive.turn.to) ≡ wait
    → IsComm w outer comm.Turn change.High
    → StepKeeps kind.Comm outer w (turned change.High (high_step wait w.core.drive.turn w.core.drive.gates w.bank) w.core w.bank)
high_preserves None w outer e i =
    let t = i.ties kind.Comm in
    let g : Gated = w.core.drive.gates in
    let x : Leg = high_of w.core.drive.turn.to in
    let hi : ℕ = bit_or w.bank.hi (mask_of x) in
    let after : Bank = written w.bank reg.GhSet (mask_of x) in
    let tied : IsUp (drive_seen w) = turn_tie w outer change.High i in
    let to : w.core.drive.turn.to ≡ w.bank.sector = same_to w outer comm.Turn change.High i refl tied.some in
    let pair : InPair w.bank.sector hi w.bank.lo = record {
      high = λ y on. elim (or_is w.bank.hi x y on) [ inl s ↦ (ap high_of (sym to) ∙ s, tied.some) | inr o ↦ t.switches.pair.high y o ];
      low = t.switches.pair.low;
    } in
    comm_step_preserves w outer comm.Turn comm.Blank change.High (gates_after g w.bank after) (record { to = w.core.drive.turn.to; at = change.Over })
    w.core.drive.postponed w.bank.comm w.bank.stuck hi w.bank.lo _ i refl (λ f. cc) (omega arith) refl refl (record {
      gates = comm_gates w outer comm.Turn change.High _ i refl
          (high_on_keeps g (gates_after g w.bank after) w.bank after x refl refl refl e
          (pair_apart w.bank.sector w.bank.hi w.bank.lo t.switches.sectors t.switches.pair)) pair;
      words = high_words (drive_seen w) (record w.core.drive { gates = gates_after g w.bank after }) hi refl pair t;
      to_is = λ f s. to;
      at_low = λ f. (let z : true ≡ false = sym f ∙ tied.prompt in cc);
      stuck_is = t.row.stuck;
      marked = λ l f. cc;
      place_is = record { some = tied.some; done = inl (tied.one, inl (tied.low, tied.prompt)) };
      late = (i.ties kind.Cmp).late;
    })
high_preserves (Some until) w outer e i =
    let up : IsUp (drive_seen w) = turn_tie w outer change.High i in
    comm_quiet_preserves w outer change.High w.core.drive.turn.at comm.Blank _ i refl up refl (λ f. cc) (omega arith) refl refl refl
    (record { some = up.some; done = inl (up.one, inl (up.low, up.prompt)) })

pub comm_turn_preserves : (at : ChangeAt) (w : World) (outer : List Kind) → IsComm w outer comm.Turn at
    → StepKeeps kind.Comm outer w (turn_step at w.core w.bank)
comm_turn_preserves change.ClearHigh w outer i = clear_high_preserves w outer i
comm_turn_preserves change.ClearLow w outer i = clear_low_preserves w outer i
comm_turn_preserves change.SetSector w outer i = set_sector_preserves w outer i
comm_turn_preserves change.Low w outer i = low_on_preserves (low_wait w.core.drive.gates w.bank (low_of w.core.drive.turn.to)) w outer refl i
comm_turn_preserves change.Position w outer i = position_preserves w outer i
comm_turn_preserves (change.Duty position) w outer i = duty_preserves (nat_lt position w.bank.duty) position w outer i
comm_turn_preserves change.High w outer i = high_preserves (high_wait w.core.drive.gates w.bank (high_of w.core.drive.turn.to)) w outer refl i
comm_turn_preserves change.Over w outer i = absurd (turn_tie w outer change.Over i)

pub comm_low_preserves : (w : World) (outer : List Kind) → IsComm w outer comm.Low change.Low → StepKeeps kind.Comm outer w (resumed_step w.core w.bank)
comm_low_preserves w outer i =
    subst (λ (at : ChangeAt). StepKeeps kind.Comm outer w (resumed (place_step at w.core.drive.turn w.core.drive.gates w.bank) w.core)) (sym i.change_is)
    (low_resumed_preserves (low_wait w.core.drive.gates w.bank (low_of w.core.drive.turn.to)) w outer refl i)
