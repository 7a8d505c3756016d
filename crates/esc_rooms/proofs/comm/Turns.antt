-- COMM's first steps: it decides, and changes the sector.
use Rattle.std.proofs.Common.{◌≡◌, ◌≤◌, ◌<◌, ◌+◌, ◌-◌, inl, inr, ℕ, zero, suc, min, Bool, true, false, ◌&&◌, ◌||◌, ◌==◌, nat_le, bit_and, if◌then◌else◌, List, ◌∷◌, take, refl, sym, ◌∙◌, ap, subst, arith}
use Rattle.std.proofs.lemmas.Bool.{cases_lt, leb-true, leb-false, le-leb}
use Rattle.std.proofs.lemmas.Bool.Decides.{nat_tests}
use Rattle.esc_base.specs.Times.{forced_limit, stuck_changes, dead_time}
use Rattle.esc_base.specs.declared.kind.Kind.{Kind}
use Rattle.esc_base.specs.declared.kind.Kind.TheVariants as kind
use Rattle.esc_base.specs.declared.note.Note.{Note}
use Rattle.esc_base.specs.declared.note.Note.TheVariants as note
use Rattle.esc_base.specs.Legs.{mask_of}
use Rattle.esc_base.specs.Numbers.{as_tick}
use Rattle.timer_regs.specs.Bank.{Bank}
use Rattle.timer_regs.specs.Effects.{written}
use Rattle.timer_regs.specs.declared.regs.Reg.TheVariants as reg
use Rattle.interrupt_machine.specs.Did.{NoAccess}
use Rattle.arming.specs.ControlAt.{demand_at}
use Rattle.commutation.specs.Sectors.{high_of, low_of, next_sector}
use Rattle.commutation.specs.Commutated.{Turn, Idle, Started, Turned, Crossed, MayTurn, sector_at, turn_at, is_forced, forced_at, stuck_at}
use Rattle.commutation.specs.Drive.{interval_at, turns_at, rests_at}
use Rattle.commutation.proofs.Order.{next_within, next_keeps}
use Rattle.gate_driver.specs.declared.chop.Chop.TheVariants as chop
use Rattle.gate_driver.specs.declared.to_sector.ChangeAt.{ChangeAt}
use Rattle.gate_driver.specs.declared.to_sector.ChangeAt.TheVariants as change
use Rattle.gate_driver.specs.Gated.{Gated, at_leg, gates_after}
use Rattle.gate_driver.specs.Change.{change_to}
use Rattle.gate_driver.proofs.Bits.{on_and, only_kept, off_is}
use Rattle.gate_driver.proofs.DeadTime.{high_off_keeps, low_off_keeps}
use Rattle.esc_core.specs.declared.drive.Drive.{Drive}
use Rattle.esc_core.specs.declared.state.CommAt.TheVariants as comm
use Rattle.esc_core.specs.declared.state.PwmAt.{PwmAt}
use Rattle.esc_core.specs.declared.state.PwmAt.TheVariants as pwm
use Rattle.esc_core.specs.Orders.{is_forward}
use Rattle.esc_core.specs.Drive.{after_turn}
use Rattle.esc_core.specs.Comm.{begins, waits_for, decided, turned, turn_step}
use Rattle.esc_core.specs.Stepped.{goes_on}
use Rattle.esc_core.specs.Firmware.{pwm_need}
use Rattle.settings_block.specs.declared.settings.Settings.{Settings}
use Rattle.esc_laws.specs.Driven.{InPair}
use Rattle.esc_laws.specs.Saves.{settings_at, advance_of, forward_at}
use Rattle.esc_laws.specs.Calls.{turn_was_due}
use Rattle.esc_rooms.specs.DriveTied.{ChangeTied, IsUnforced, Turns, Decides, PwmTied, TurnTied}
use Rattle.esc_rooms.specs.World.{World, so_far, after_step}
use Rattle.esc_rooms.specs.PeriodTied.{PeriodTied}
use Rattle.esc_rooms.specs.Rooms.{Ground, Tie, StepKeeps, PeriodTie, drive_seen, cross_seen}
use Rattle.esc_rooms.proofs.cap.Period.{period_turned, newest_turn}
use Rattle.esc_rooms.proofs.shared.RoomSteps.{ground_noted, quiet_gates, inside}
use Rattle.esc_rooms.proofs.shared.DriveFacts.{pair_apart}
use Rattle.zero_cross.specs.declared.phase.Phase.TheVariants as phase
use Rattle.esc_base.specs.Times.{least_blanking}
use Rattle.zero_cross.specs.Sector.{blanking_of, level_of}
use Rattle.zero_cross.specs.Kept.{Kept, after_begin}
use Rattle.commutation.specs.Pace.{Pace, wait_of}
use Rattle.commutation.specs.Drive.{interval_at}
use Rattle.esc_rooms.specs.CrossTied.{ends_drive}
use Rattle.esc_rooms.proofs.cmp.CrossFacts.{cmp_unmasked, tick_unmasked}
use Rattle.esc_rooms.proofs.cmp.BesideComm.{prompt_late, turned_cross}
use Rattle.esc_rooms.proofs.comm.Facts.{same_words, high_words, low_words, IsComm, place_tie, before_step, same_to, same_marked, comm_gates}
use Rattle.esc_laws.specs.NoteLaw as owed
use Rattle.esc_rooms.proofs.comm.Preserves.{beside_tick, no_commute, comm_step_preserves}

-- ---- the period register

-- a Q comes later than the one before
gaps_turned : (w : World) (outer : List Kind) (to : ℕ) → IsComm w outer comm.Turn change.SetSector → 0 < to → PeriodTie w
    → PeriodTied (take 7 (w.bank.time ∷ w.core.drive.timing.turns)) true (ends_drive w.core.tick_at) w.bank.period to (w.bank.time ∷ turns_at w.back)
    (rests_at w.back)
gaps_turned w outer to i some p = period_turned _ _ _ _ w.bank.sector to w.bank.time (turns_at w.back) (rests_at w.back) some before p
  where
    before : (q : ℕ) (turns : List ℕ) → turns_at w.back ≡ q ∷ turns → 0 < w.bank.sector → q < w.bank.time
    before q turns e s = (
        let at = newest_turn w.back q turns e in
        let since = before_step w outer comm.Turn change.SetSector i s in
        omega arith)

-- ---- it decides

direction_is : (w : World) → Ground w → is_forward w.core.orders ≡ forward_at w.loaded.settings w.back
direction_is w g =
    ap (λ (s : Settings). s.direction == w.core.orders.spin) g.orders.settings_are
    ∙ ap (λ (n : ℕ). (settings_at w.loaded.settings w.back).direction == n) g.orders.spin_is

decide_turn_preserves : (w : World) (outer : List Kind) → w.core.drive.change ≤ w.bank.time → IsComm w outer comm.Decide w.core.drive.turn.at
    → StepKeeps kind.Comm outer w (begins w.core w.bank)
decide_turn_preserves w outer due i =
    let t = i.ties kind.Comm in
    let to : ℕ = next_sector w.bank.sector (is_forward w.core.orders) in
    let d : Drive = record w.core.drive { turn = change_to to; postponed = false } in
    let tied : Decides (drive_seen w) = place_tie w outer comm.Decide w.core.drive.turn.at i in
    comm_step_preserves w outer comm.Decide comm.Turn w.core.drive.turn.at d.gates d.turn d.postponed w.bank.comm w.bank.stuck w.bank.hi w.bank.lo _ i refl
    (λ f. cc) (omega arith) refl refl (record {
      gates = quiet_gates kind.Comm w _ (λ e. cc) refl refl refl;
      words = same_words (drive_seen w) d refl t;
      to_is = λ e. cc;
      at_low = λ e. cc;
      stuck_is = t.row.stuck;
      marked = λ l f. same_marked w outer comm.Decide w.core.drive.turn.at i refl l;
      place_is = record {
        none = tied.none;
        to_is = ap (λ (n : ℕ). next_sector n (is_forward w.core.orders)) t.switches.sector_is
            ∙ ap (λ (f : Bool). next_sector (sector_at w.back) f) (direction_is w i.ground);
        due = due;
        prompt = refl;
      };
      late = prompt_late w.core.cmp_at w.core.drive.crossing.phase;
    })

-- where no change is due, the low switch is postponed
decide_low_preserves : (late : Bool) (w : World) (outer : List Kind) → w.core.drive.postponed ≡ late → w.bank.time < w.core.drive.change
    → IsComm w outer comm.Decide w.core.drive.turn.at
    → StepKeeps kind.Comm outer w (goes_on (record w.core { comm_at = waits_for late }) NoAccess)
decide_low_preserves false w outer e early i =
    let tied : Decides (drive_seen w) = place_tie w outer comm.Decide w.core.drive.turn.at i in
    absurd (elim tied.due [ inl l ↦ (let x = l in omega arith) | inr p ↦ (let z : true ≡ false = sym p.0 ∙ e in cc) ])
decide_low_preserves true w outer e early i =
    let t = i.ties kind.Comm in
    let tied : Decides (drive_seen w) = place_tie w outer comm.Decide w.core.drive.turn.at i in
    comm_step_preserves w outer comm.Decide comm.Low w.core.drive.turn.at w.core.drive.gates w.core.drive.turn w.core.drive.postponed w.bank.comm w.bank.stuck
    w.bank.hi w.bank.lo _ i refl (λ f. cc) (omega arith) refl refl (record {
      gates = quiet_gates kind.Comm w _ (λ e. cc) refl refl refl;
      words = same_words (drive_seen w) w.core.drive refl t;
      to_is = λ f. same_to w outer comm.Decide w.core.drive.turn.at i refl;
      at_low = t.newest.at_low;
      stuck_is = t.row.stuck;
      marked = λ l f. same_marked w outer comm.Decide w.core.drive.turn.at i refl l;
      place_is = record {
        none = tied.none;
        not_due = off_is (turn_was_due (advance_of w.loaded.settings) w.back) (λ f. (let x = tied.was_due f in absurd (omega arith)));
        postponed = tied.postponed e;
        some = some w.bank.sector refl;
        free = elim tied.due [ inl l ↦ absurd (let x = l in omega arith) | inr p ↦ p.1 ];
        late = e;
      };
      late = (i.ties kind.Cmp).late;
    })
  where
    some : (s : ℕ) → w.bank.sector ≡ s → 0 < w.bank.sector
    some zero z = absurd (let first = (i.ties kind.Comm).next.first z i.drives in omega arith)
    some (suc n) z = omega arith

pub comm_decide_preserves : (v : Bool) (w : World) (outer : List Kind) → nat_le w.core.drive.change w.bank.time ≡ v
    → IsComm w outer comm.Decide w.core.drive.turn.at
    → StepKeeps kind.Comm outer w (decided v w.core w.bank)
comm_decide_preserves true w outer e i = decide_turn_preserves w outer (leb-true w.core.drive.change w.bank.time e) i
comm_decide_preserves false w outer e i = decide_low_preserves w.core.drive.postponed w outer refl (leb-false w.core.drive.change w.bank.time e) i

-- ---- the change of sector

pub turn_tie : (w : World) (outer : List Kind) (at : ChangeAt) → IsComm w outer comm.Turn at → TurnTied at (drive_seen w)
turn_tie w outer at i = subst (λ (a : ChangeAt). TurnTied a (drive_seen w)) i.change_is (place_tie w outer comm.Turn at i)

pub clear_high_preserves : (w : World) (outer : List Kind) → IsComm w outer comm.Turn change.ClearHigh
    → StepKeeps kind.Comm outer w (turn_step change.ClearHigh w.core w.bank)
clear_high_preserves w outer i =
    let t = i.ties kind.Comm in
    let g : Gated = w.core.drive.gates in
    let to : ℕ = w.core.drive.turn.to in
    let mask : ℕ = 7 - (7 - mask_of (high_of to)) in
    let hi : ℕ = bit_and w.bank.hi mask in
    let after : Bank = written w.bank reg.GhClr (7 - mask_of (high_of to)) in
    let d : Drive = record w.core.drive { gates = gates_after g w.bank after; turn = record { to = to; at = change.ClearLow } } in
    let tied : Turns (drive_seen w) = turn_tie w outer change.ClearHigh i in
    let pair : InPair w.bank.sector hi w.bank.lo = record { high = λ x on. t.switches.pair.high x (on_and w.bank.hi mask x on); low = t.switches.pair.low } in
    comm_step_preserves w outer comm.Turn comm.Turn change.ClearHigh d.gates d.turn d.postponed w.bank.comm w.bank.stuck hi w.bank.lo _ i refl (λ f. cc)
    (omega arith) refl refl (record {
      gates = comm_gates w outer comm.Turn change.ClearHigh _ i refl
          (high_off_keeps (gates_after g w.bank after) w.bank after mask refl refl
          (pair_apart w.bank.sector w.bank.hi w.bank.lo t.switches.sectors t.switches.pair)) pair;
      words = high_words (drive_seen w) d hi refl pair t;
      to_is = λ e. cc;
      at_low = λ e. (let z : true ≡ false = sym e ∙ tied.prompt in cc);
      stuck_is = t.row.stuck;
      marked = λ l f. same_marked w outer comm.Turn change.ClearHigh i refl l;
      place_is = (record { none = tied.none; to_is = tied.to_is; due = tied.due; prompt = tied.prompt }, only_kept w.bank.hi (high_of to));
      late = (i.ties kind.Cmp).late;
    })

pub clear_low_preserves : (w : World) (outer : List Kind) → IsComm w outer comm.Turn change.ClearLow
    → StepKeeps kind.Comm outer w (turn_step change.ClearLow w.core w.bank)
clear_low_preserves w outer i =
    let t = i.ties kind.Comm in
    let g : Gated = w.core.drive.gates in
    let to : ℕ = w.core.drive.turn.to in
    let mask : ℕ = 7 - (7 - mask_of (low_of to)) in
    let lo : ℕ = bit_and w.bank.lo mask in
    let after : Bank = written w.bank reg.GlClr (7 - mask_of (low_of to)) in
    let d : Drive = record w.core.drive { gates = gates_after g w.bank after; turn = record { to = to; at = change.SetSector } } in
    let tied = turn_tie w outer change.ClearLow i in
    let pair : InPair w.bank.sector w.bank.hi lo = record { high = t.switches.pair.high; low = λ x on. t.switches.pair.low x (on_and w.bank.lo mask x on) } in
    comm_step_preserves w outer comm.Turn comm.Turn change.ClearLow d.gates d.turn d.postponed w.bank.comm w.bank.stuck w.bank.hi lo _ i refl (λ f. cc)
    (omega arith) refl refl (record {
      gates = comm_gates w outer comm.Turn change.ClearLow _ i refl
          (low_off_keeps (gates_after g w.bank after) w.bank after mask refl refl
          (pair_apart w.bank.sector w.bank.hi w.bank.lo t.switches.sectors t.switches.pair)) pair;
      words = low_words (drive_seen w) d lo refl pair (λ x on. inl (on_and w.bank.lo mask x on)) t;
      to_is = λ e. cc;
      at_low = λ e. (let z : true ≡ false = sym e ∙ tied.0.prompt in cc);
      stuck_is = t.row.stuck;
      marked = λ l f. same_marked w outer comm.Turn change.ClearLow i refl l;
      place_is = (
        record { none = tied.0.none; to_is = tied.0.to_is; due = tied.0.due; prompt = tied.0.prompt },
        tied.1,
        only_kept w.bank.lo (low_of to),
      );
      late = (i.ties kind.Cmp).late;
    })

-- the Q

may_turn : (turn : Turn) (advance interval change time : ℕ) → ChangeTied (wait_of advance interval) turn change time → change ≤ time
    → MayTurn advance interval turn time
may_turn Idle advance interval change time c l = absurd c
may_turn Started advance interval change time c l = tt
may_turn (Turned q) advance interval change time c l = (let e : change ≡ q + forced_limit = c in omega arith)
may_turn (Crossed q z) advance interval change time c l = (let e : change ≡ z + wait_of advance interval = c in omega arith)

forced_next : (turn : Turn) (turned : Bool) (forced f wait change time : ℕ) → ChangeTied wait turn change time → turned ≡ is_forced turn
    → forced ≡ min stuck_changes f
    → (IsUnforced turn → f ≡ 0)
    → (if turned then min stuck_changes (forced + 1) else forced) ≡ min stuck_changes (if is_forced turn then f + 1 else 0)
forced_next Idle turned forced f wait change time c e g z = absurd c
forced_next Started turned forced f wait change time c e g z = rw (e, g, z tt) refl
forced_next (Turned q) turned forced f wait change time c e g z = rw (e, g) (omega arith)
forced_next (Crossed q x) turned forced f wait change time c e g z = rw (e, g, z tt) refl

same_told : (told stuck a x : Bool) → told ≡ (stuck || a) → (a ≡ true → stuck ≡ true) → (told || x) ≡ (stuck || x)
same_told told true a x e m = rw e refl
same_told told false true x e m = (let z : false ≡ true = m refl in cc)
same_told told false false x e m = rw e refl

no_more : (a b : Bool) → ((a || b) || false) ≡ (a || b)
no_more true b = refl
no_more false true = refl
no_more false false = refl

stuck_next : (turn : Turn) (turned told stuck : Bool) (forced f wait change time : ℕ) → ChangeTied wait turn change time → turned ≡ is_forced turn
    → forced ≡ min stuck_changes f
    → told ≡ (stuck || nat_le stuck_changes forced) → (nat_le stuck_changes forced ≡ true → stuck ≡ true)
    → (told || (is_forced turn && nat_le (stuck_changes - 1) f)) ≡ (stuck || nat_le stuck_changes (if turned then min stuck_changes (forced + 1) else forced))
stuck_next Idle turned told stuck forced f wait change time c e g s m = absurd c
stuck_next Started turned told stuck forced f wait change time c e g s m = rw (e, s) (no_more stuck (nat_le stuck_changes forced))
stuck_next (Turned q) turned told stuck forced f wait change time c e g s m =
    rw (e, ← full f) (same_told told stuck (nat_le stuck_changes forced) (nat_le stuck_changes (min stuck_changes (min stuck_changes f + 1))) s m ∙ rw g refl)
  where
    full : (f : ℕ) → nat_le stuck_changes (min stuck_changes (min stuck_changes f + 1)) ≡ nat_le (stuck_changes - 1) f
    full f = elim (cases_lt f (stuck_changes - 1)) [
      | inl l ↦ rw (below f l, below_60 f l) refl
      | inr g ↦ rw (le-leb (stuck_changes - 1) f g, le-leb stuck_changes (min stuck_changes (min stuck_changes f + 1)) (omega arith)) refl
    ]
      where
        below : (f : ℕ) → f < (stuck_changes - 1) → nat_le (stuck_changes - 1) f ≡ false
        below f l = grind (arith, nat_tests)

        not_le : (m n : ℕ) → n < m → nat_le m n ≡ false
        not_le m n l = grind (arith, nat_tests)

        below_60 : (f : ℕ) → f < (stuck_changes - 1) → nat_le stuck_changes (min stuck_changes (min stuck_changes f + 1)) ≡ false
        below_60 f l = not_le stuck_changes (min stuck_changes (min stuck_changes f + 1)) (omega arith)
stuck_next (Crossed q x) turned told stuck forced f wait change time c e g s m = rw (e, s) (no_more stuck (nat_le stuck_changes forced))

-- PWM has been interrupted where it has read nothing that it will use
resumes_pwm : (at : PwmAt) (own sampled demand sector sector' : ℕ) → 8 < pwm_need at → PwmTied at own sampled demand sector
    → PwmTied at own sampled demand sector'
resumes_pwm pwm.Shut own sampled demand sector sector' l t = tt
resumes_pwm (pwm.Run chop.Raise) own sampled demand sector sector' l t = t
resumes_pwm (pwm.Run chop.Over) own sampled demand sector sector' l t = t
resumes_pwm pwm.Back own sampled demand sector sector' l t = t
resumes_pwm (pwm.Run chop.Position) own sampled demand sector sector' l t = absurd (omega arith)
resumes_pwm (pwm.Run (chop.Duty position)) own sampled demand sector sector' l t = absurd (omega arith)
resumes_pwm (pwm.Run (chop.Sector below)) own sampled demand sector sector' l t = absurd (omega arith)
resumes_pwm (pwm.Run (chop.Write leg)) own sampled demand sector sector' l t = absurd (omega arith)
resumes_pwm (pwm.Run chop.Lower) own sampled demand sector sector' l t = absurd (omega arith)

-- at a Q the high switch of the new pair's low leg has been off for 8 ticks
long_off : (w : World) (outer : List Kind) → IsComm w outer comm.Turn change.SetSector
    → at_leg w.core.drive.gates.hi_free (low_of w.core.drive.turn.to) ≤ w.bank.time + (dead_time - 8)
long_off w outer i = by_sector w.bank.sector refl
  where
    by_sector : (s : ℕ) → w.bank.sector ≡ s → at_leg w.core.drive.gates.hi_free (low_of w.core.drive.turn.to) ≤ w.bank.time + (dead_time - 8)
    by_sector zero z = (let e = (i.ties kind.Comm).switches.unused z (low_of w.core.drive.turn.to) in omega arith)
    by_sector (suc n) z =
        let t = i.ties kind.Comm in
        let some : 0 < w.bank.sector = omega arith in
        let tied = (turn_tie w outer change.SetSector i).0 in
        let from : w.core.drive.turn.to ≡ next_sector w.bank.sector (forward_at w.loaded.settings w.back) =
        tied.to_is ∙ ap (λ (s : ℕ). next_sector s (forward_at w.loaded.settings w.back)) (sym t.switches.sector_is) in
        let keeps = next_keeps w.bank.sector (forward_at w.loaded.settings w.back) some t.switches.sectors in
        let off = t.switches.outer some (low_of w.core.drive.turn.to) (λ e. keeps.1.0 (e ∙ ap low_of from)) in
        let since = before_step w outer comm.Turn change.SetSector i some in
        omega arith

-- the search begins anew
begins_cross : (w : World) (outer : List Kind) → IsComm w outer comm.Turn change.SetSector → Tie kind.Cmp w
    → Tie kind.Cmp (after_step kind.Comm w (turn_step change.SetSector w.core w.bank))
begins_cross w outer i u =
    let search : Kept = after_begin w.core.drive.turn.to (is_forward w.core.orders) w.bank.time w.core.drive.timing.pace.interval in
    turned_cross (cross_seen w) comm.Turn change.Low search w.bank.time (w.bank.time + blanking_of (interval_at w.back))
    (level_of (forward_at w.loaded.settings w.back) w.core.drive.turn.to) (λ since. 0) refl (λ e. cc)
    (cmp_unmasked w.core.cmp_at (i.alone kind.Cmp (λ e. cc))) (tick_unmasked w.core.tick_at (i.alone kind.Tick (λ e. cc)))
    (ap (λ (p : Pace). phase.Blank (as_tick (w.bank.time + blanking_of p.interval))) u.pace_is)
    (ap (λ (f : Bool). level_of f w.core.drive.turn.to) (direction_is w i.ground)) (λ since. refl) (long (interval_at w.back)) u
  where
    long : (interval : ℕ) → w.bank.time + least_blanking ≤ w.bank.time + blanking_of interval
    long interval = omega arith

pub set_sector_preserves : (w : World) (outer : List Kind) → IsComm w outer comm.Turn change.SetSector
    → StepKeeps kind.Comm outer w (turn_step change.SetSector w.core w.bank)
set_sector_preserves w outer i =
    let t = i.ties kind.Comm in
    let to : ℕ = w.core.drive.turn.to in
    let tied = turn_tie w outer change.SetSector i in
    let within = next_within (sector_at w.back) (forward_at w.loaded.settings w.back) (rw t.switches.sector_is at t.switches.sectors) in
    let some : 0 < to = rw tied.0.to_is within.0 in
    let most : to ≤ 6 = rw tied.0.to_is within.1 in
    let n : Note = note.Step (as_tick w.bank.time) to in
    let due = t.next.due i.drives in
    let d : Drive = after_turn (record w.core.drive { turn = record { to = to; at = change.Low } }) w.bank.time in
    let pair : InPair to w.bank.hi w.bank.lo = record { high = λ x on. (tied.1 x on, some); low = λ x on. (tied.2 x on, some) } in
    record {
      gates = quiet_gates kind.Comm w _ (λ e. cc) refl refl refl;
      fits = λ told. (
        record {
          at = refl;
          owned = refl;
          keeps = record {
            laws = elim [
              | owed.Drives ↦ (i.drives, rw (told.hi_is, told.lo_is) pair)
              | owed.Turns ↦ record {
                sector = tied.0.to_is;
                time = may_turn (turn_at w.back) (advance_of w.loaded.settings) (interval_at w.back) w.core.drive.change w.bank.time due tied.0.due;
              }
              | owed.Nests ↦ inside (so_far w).stack kind.Comm outer i.on
              | l ↦ tt
            ];
            waits = rw (told.hi_free (low_of to)) (long_off w outer i);
          };
        },
        tt,
      );
      ground = ground_noted w n refl refl tt refl i.ground;
      tie = λ told. record {
        switches = record {
          sector_is = refl;
          sectors = most;
          pair = pair;
          held = t.switches.held;
          soon = t.switches.soon;
          outer = λ s x ne. t.switches.soon x;
          unused = λ z x. absurd (omega arith);
          past = omega arith;
        };
        newest = record { since = λ s. omega arith; to_is = λ e s. refl; at_low = λ e. refl };
        next = record { idle = λ z. absurd (let l = i.drives in omega arith); due = λ l. refl; first = λ z l. absurd (omega arith) };
        row = record {
          turned = λ l. refl;
          forced = forced_next (turn_at w.back) w.core.drive.turned w.core.drive.forced (forced_at w.back)
              (drive_seen w).wait w.core.drive.change w.bank.time due
              (t.row.turned i.drives) t.row.forced t.row.unforced;
          unforced = λ e. absurd e;
          rest_unmarked = λ z. absurd (let l = i.drives in omega arith);
          stuck = λ l. stuck_next (turn_at w.back) w.core.drive.turned (stuck_at w.back) w.bank.stuck w.core.drive.forced (forced_at w.back)
              (drive_seen w).wait w.core.drive.change w.bank.time due (t.row.turned i.drives) t.row.forced (t.row.stuck i.drives)
              (same_marked w outer comm.Turn change.SetSector i refl i.drives);
          marked = λ l e. cc;
        };
        place = (ap (λ (x : ℕ). x + 1) tied.0.none, some);
        low = λ e. cc;
        crossed = λ e. absurd (let z : false ≡ true = sym (no_commute w i.alone) ∙ e in cc);
        postponed = λ e. cc;
      };
      others = elim [
        | kind.Comm ↦ λ ne u. absurd (ne refl)
        | kind.Tick ↦ λ ne u. beside_tick w outer comm.Turn comm.Turn change.SetSector d w.bank.hi w.bank.lo to w.bank.comm w.bank.stuck i u
        | kind.Pwm ↦ λ ne u. (
          resumes_pwm w.core.pwm_at w.made.pwm_own w.made.sampled (demand_at w.back) w.bank.sector to (i.alone kind.Pwm (λ e. cc)) u.0,
          u.1,
        )
        | kind.Cap ↦ λ ne u. (u.0, u.1, u.2, gaps_turned w outer to i some u.3)
        | kind.Cmp ↦ λ ne u. begins_cross w outer i u
        | j ↦ λ ne u. u
      ];
      stack_is = i.on;
    }
