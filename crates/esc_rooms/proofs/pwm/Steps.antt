-- PWM's steps keep the ties: its write of the high switches, and its return.
use Rattle.std.proofs.Common.{◌≡◌, ◌<◌, ◌%◌, inl, inr, ℕ, Bool, true, false, not, ◌==◌, nat_lt, bit_and, bit_or, if◌then◌else◌, List, [], Option, Some, None, refl, sym, ◌∙◌, ap, subst, arith}
use Rattle.std.specs.Int.Bits.{and_zero_r}
use Rattle.std.proofs.lemmas.Bool.{lt-ltb, le-ltb}
use Rattle.esc_base.specs.Times.{pwm_period}
use Rattle.esc_base.specs.declared.gate.Leg.{Leg}
use Rattle.esc_base.specs.declared.kind.Kind.{Kind}
use Rattle.esc_base.specs.declared.kind.Kind.TheVariants as kind
use Rattle.esc_base.specs.declared.note.Note.TheVariants as note
use Rattle.esc_base.specs.Numbers.{as_tick}
use Rattle.esc_base.specs.Legs.{mask_of, is_on}
use Rattle.timer_regs.specs.Bank.{Bank}
use Rattle.timer_regs.specs.Effects.{written}
use Rattle.timer_regs.specs.declared.regs.Reg.TheVariants as reg
use Rattle.interrupt_machine.specs.Open.{innermost}
use Rattle.interrupt_machine.specs.Did.{Reads, Writes, accessed}
use Rattle.arming.specs.ControlAt.{demand_at}
use Rattle.commutation.specs.Sectors.{high_of}
use Rattle.gate_driver.specs.declared.chop.Chop.TheVariants as chop
use Rattle.gate_driver.specs.Gated.{Gated, gates_after, high_wait}
use Rattle.gate_driver.specs.Acted.{KeepsDeadTime}
use Rattle.gate_driver.specs.Chop.{chopped_leg, on_step, write_step, HasChopped}
use Rattle.gate_driver.proofs.Bits.{all_off, or_on, or_is}
use Rattle.gate_driver.proofs.OffTimes.{gates_same}
use Rattle.gate_driver.proofs.DeadTime.{same_keeps, high_off_keeps, high_on_keeps}
use Rattle.esc_core.specs.declared.state.PwmAt.{PwmAt}
use Rattle.esc_core.specs.declared.state.PwmAt.TheVariants as pwm
use Rattle.esc_core.specs.Pwm.{chopped, pwm_step}
use Rattle.esc_core.specs.Stepped.{Stepped}
use Rattle.esc_core.specs.Firmware.{pwm_left}
use Rattle.esc_laws.specs.Driven.{InPair}
use Rattle.esc_rooms.proofs.shared.Facts.{not_zero, above_zero}
use Rattle.esc_rooms.specs.World.{World, so_far}
use Rattle.esc_rooms.specs.Rooms.{Ties, Chops, GateFits, GatesKeep, StepKeeps, drive_seen}
use Rattle.esc_rooms.proofs.shared.RoomSteps.{ground_noted, inside, popped}
use Rattle.esc_rooms.proofs.shared.DriveFacts.{pair_apart, with_high}
use Rattle.esc_rooms.proofs.pwm.Preserves.{IsPwm, own_tie, open_drives, tick_beside, still_gates, pwm_step_preserves}
use Rattle.esc_laws.specs.NoteLaw as owed

-- ---- the write

-- what it asks for is what was read
chops_of : (leg : Option Leg) (below : Bool) (s : ℕ) (g : Gated) (b after : Bank) → leg ≡ chopped_leg below s → HasChopped leg g b after
    → (below ≡ true → 0 < s → high_wait g b (high_of s) ≡ None → is_on after.hi (high_of s) ≡ true) × (below ≡ false → after.hi ≡ 0)
chops_of leg below s g b after e h = by_test below refl (subst (λ (l : Option Leg). HasChopped l g b after) e h)
  where
    some_leg : (s : ℕ) → 0 < s → chopped_leg true s ≡ Some (high_of s)
    some_leg s l = rw (not_zero s l) refl

    by_test : (v : Bool) → below ≡ v → HasChopped (chopped_leg below s) g b after
        → (below ≡ true → 0 < s → high_wait g b (high_of s) ≡ None → is_on after.hi (high_of s) ≡ true) × (below ≡ false → after.hi ≡ 0)
    by_test true q c = (
      λ d l none. subst (λ (x : Option Leg). HasChopped x g b after) (ap (λ (v : Bool). chopped_leg v s) q ∙ some_leg s l) c none,
      λ d. (let z : true ≡ false = sym q ∙ d in cc),
    )
    by_test false q c = (
      λ d. (let z : true ≡ false = sym d ∙ q in cc),
      λ d. subst (λ (x : Option Leg). HasChopped x g b after) (ap (λ (v : Bool). chopped_leg v s) q) c,
    )

chopped_sector : (below : Bool) (s : ℕ) (x : Leg) → Some x ≡ chopped_leg below s → (high_of s ≡ x) × (0 < s)
chopped_sector true s x e = by_zero (s == 0) refl e
  where
    by_zero : (v : Bool) → (s == 0) ≡ v → Some x ≡ (if not (s == 0) then Some (high_of s) else None) → (high_of s ≡ x) × (0 < s)
    by_zero true q e = absurd (let z : Some x ≡ None = e ∙ rw q refl in cc)
    by_zero false q e = (same (e ∙ rw q refl), above_zero s q)
      where
        same : Some x ≡ Some (high_of s) → high_of s ≡ x
        same f = cc
chopped_sector false s x e = absurd (let z : Some x ≡ None = e in cc)

-- what holds before the write
record AtWrite (leg : Option Leg) (w : World) (outer : List Kind) : Type 0 where
  at : IsPwm w outer (pwm.Run (chop.Write leg))
  own : w.made.pwm_own ≡ 4
  leg_is : leg ≡ chopped_leg (nat_lt (w.made.sampled % pwm_period) (demand_at w.back)) w.bank.sector
  drives : 0 < demand_at w.back

write_chops : (leg : Option Leg) (w : World) (outer : List Kind) (after : Bank) → AtWrite leg w outer → HasChopped leg w.core.drive.gates w.bank after
    → Chops w after
write_chops leg w outer after i h =
    let by = chops_of leg (nat_lt (w.made.sampled % pwm_period) (demand_at w.back)) w.bank.sector w.core.drive.gates w.bank after i.leg_is h in
    record {
      on = λ l s none. by.0 (lt-ltb (w.made.sampled % pwm_period) (demand_at w.back) l) s none;
      off = λ l. by.1 (le-ltb (w.made.sampled % pwm_period) (demand_at w.back) l);
    }

-- a write that changes the word of high switches
write_word : (leg : Option Leg) (w : World) (outer : List Kind) (s : Stepped) (after : Bank) → AtWrite leg w outer
    → s.core.drive.gates ≡ gates_after w.core.drive.gates w.bank after
    → after ≡ accessed w.bank s.access → s.over ≡ false → s.notes ≡ [] → after.lo ≡ w.bank.lo → InPair w.bank.sector after.hi w.bank.lo
    → KeepsDeadTime w.bank s.core.drive.gates after
    → HasChopped leg w.core.drive.gates w.bank after → GatesKeep kind.Pwm w s
write_word leg w outer s after i off_times same over silent lo pair dead h = record {
  off_times = subst (λ (b : Bank). s.core.drive.gates ≡ gates_after w.core.drive.gates w.bank b) same off_times;
  fits = λ told moved. subst (λ (b : Bank). GateFits w b s.core.drive.gates) same (record {
    nest = rw (ap innermost i.at.on) tt;
    dead_time = dead;
    driven = (
      λ z. absurd (let l = i.drives in omega arith),
      rw (← (i.at.ties kind.Comm).switches.sector_is, lo) pair,
    );
  });
  drive = record {
    low = λ o d. subst (λ (b : Bank). b.lo ≡ w.bank.lo) same lo;
    high = λ o p d. absurd (p refl i.own);
    chops = λ is own. subst (λ (b : Bank). Chops w b) same (write_chops leg w outer after i h);
    back = λ is e. (let z : false ≡ true = sym over ∙ e in cc);
    silent = λ is. silent;
  };
}

write_on_preserves : (wait : Option ℕ) (x : Leg) (w : World) (outer : List Kind) → high_wait w.core.drive.gates w.bank x ≡ wait → AtWrite (Some x) w outer
    → StepKeeps kind.Pwm outer w (chopped (chop.Write (Some x)) (on_step wait x w.core.drive.gates w.bank) w.core)
write_on_preserves None x w outer e i =
    let t : Ties w = i.at.ties in
    let d = t kind.Comm in
    let hi : ℕ = bit_or w.bank.hi (mask_of x) in
    let g : Gated = w.core.drive.gates in
    let after : Bank = written w.bank reg.GhSet (mask_of x) in
    let sector = chopped_sector (nat_lt (w.made.sampled % pwm_period) (demand_at w.back)) w.bank.sector x i.leg_is in
    let pair : InPair w.bank.sector hi w.bank.lo = record {
      high = λ y on. elim (or_is w.bank.hi x y on) [
        | inl s ↦ (sector.0 ∙ s, sector.1)
        | inr o ↦ d.switches.pair.high y o
      ];
      low = d.switches.pair.low;
    } in
    record {
      gates = write_word (Some x) w outer _ after i refl refl refl refl refl pair
          (high_on_keeps g (gates_after g w.bank after) w.bank after x refl refl refl e
          (pair_apart w.bank.sector w.bank.hi w.bank.lo d.switches.sectors d.switches.pair))
          (λ none. or_on w.bank.hi x);
      fits = λ told. tt;
      ground = i.at.ground;
      tie = λ told. (rw i.own refl, (t kind.Pwm).1);
      others = elim [
        | kind.Pwm ↦ λ ne u. absurd (ne refl)
        | kind.Tick ↦ λ ne u. tick_beside w outer (pwm.Run (chop.Write (Some x))) (pwm.Run chop.Lower) hi i.at (λ s. cc) u
        | kind.Comm ↦ λ ne u. with_high (drive_seen w) hi i.at.comm_is pair u
        | j ↦ λ ne u. u
      ];
      stack_is = i.at.on;
    }
write_on_preserves (Some until) x w outer e i =
    let t : Ties w = i.at.ties in
    let d = t kind.Comm in
    record {
      gates = write_word (Some x) w outer _ w.bank i (gates_same w.core.drive.gates w.bank w.bank refl refl) refl refl refl refl d.switches.pair
          (same_keeps w.core.drive.gates w.bank w.bank refl refl (pair_apart w.bank.sector w.bank.hi w.bank.lo d.switches.sectors d.switches.pair))
          (λ none. (let z : Some until ≡ None = sym e ∙ none in cc));
      fits = λ told. tt;
      ground = i.at.ground;
      tie = λ told. (rw i.own refl, (t kind.Pwm).1);
      others = elim [
        | kind.Pwm ↦ λ ne u. absurd (ne refl)
        | kind.Tick ↦ λ ne u. tick_beside w outer (pwm.Run (chop.Write (Some x))) (pwm.Run chop.Lower) w.bank.hi i.at (λ s. cc) u
        | j ↦ λ ne u. u
      ];
      stack_is = i.at.on;
    }

pwm_write_preserves : (leg : Option Leg) (w : World) (outer : List Kind) → AtWrite leg w outer
    → StepKeeps kind.Pwm outer w (chopped (chop.Write leg) (write_step leg w.core.drive.gates w.bank) w.core)
pwm_write_preserves (Some x) w outer i = write_on_preserves (high_wait w.core.drive.gates w.bank x) x w outer refl i
pwm_write_preserves None w outer i =
    let t : Ties w = i.at.ties in
    let d = t kind.Comm in
    let hi : ℕ = bit_and w.bank.hi 0 in
    let g : Gated = w.core.drive.gates in
    let after : Bank = written w.bank reg.GhClr 7 in
    let pair : InPair w.bank.sector hi w.bank.lo = record {
      high = λ y on. absurd (let z = all_off w.bank.hi y in cc);
      low = d.switches.pair.low;
    } in
    record {
      gates = write_word None w outer _ after i refl refl refl refl refl pair
          (high_off_keeps (gates_after g w.bank after) w.bank after 0 refl refl
          (pair_apart w.bank.sector w.bank.hi w.bank.lo d.switches.sectors d.switches.pair))
          (and_zero_r w.bank.hi);
      fits = λ told. tt;
      ground = i.at.ground;
      tie = λ told. (rw i.own refl, (t kind.Pwm).1);
      others = elim [
        | kind.Pwm ↦ λ ne u. absurd (ne refl)
        | kind.Tick ↦ λ ne u. tick_beside w outer (pwm.Run (chop.Write None)) (pwm.Run chop.Lower) hi i.at (λ s. cc) u
        | kind.Comm ↦ λ ne u. with_high (drive_seen w) hi i.at.comm_is pair u
        | j ↦ λ ne u. u
      ];
      stack_is = i.at.on;
    }

-- ---- all its steps

pwm_return_preserves : (w : World) (outer : List Kind) → IsPwm w outer pwm.Back → StepKeeps kind.Pwm outer w (pwm_step pwm.Back w.core w.bank)
pwm_return_preserves w outer i = record {
  gates = still_gates w _ refl refl refl (λ own. (let o = own_tie w outer pwm.Back i in omega arith)) (λ over. (let o =
      own_tie w outer pwm.Back i in omega arith)) refl;
  fits = λ told. (
    record {
      at = refl;
      owned = refl;
      keeps = record {
        laws = elim [
          | owed.Windows ↦ λ k. cc
          | owed.Replies ↦ λ k. cc
          | owed.Drives ↦ λ k. cc
          | owed.Searches ↦ λ e. cc
          | owed.Nests ↦ (inside (so_far w).stack kind.Pwm outer i.on, tt)
          | l ↦ tt
        ];
        waits = tt;
      };
    },
    tt,
  );
  ground = ground_noted w (note.Leave (as_tick w.bank.time) 5) refl refl tt refl i.ground;
  tie = λ told. (tt, (i.ties kind.Pwm).1);
  others = elim [
    | kind.Pwm ↦ λ ne u. absurd (ne refl)
    | kind.Tick ↦ λ ne u. tick_beside w outer pwm.Back pwm.Shut w.bank.hi i (λ s. cc) u
    | j ↦ λ ne u. u
  ];
  stack_is = popped (so_far w).stack kind.Pwm outer i.on;
}

pub pwm_steps_preserve : (place : PwmAt) (w : World) (outer : List Kind) → IsPwm w outer place → 0 < pwm_left place
    → StepKeeps kind.Pwm outer w (pwm_step place w.core w.bank)
pwm_steps_preserve pwm.Shut w outer i left = absurd (omega arith)
pwm_steps_preserve (pwm.Run chop.Raise) w outer i left =
    let own = own_tie w outer (pwm.Run chop.Raise) i in
    pwm_step_preserves w outer (pwm.Run chop.Raise) (pwm.Run chop.Position) 8 (Writes reg.Mask 1) i refl (λ s. cc) (λ o. omega arith) (rw own refl)
pwm_steps_preserve (pwm.Run chop.Position) w outer i left =
    let own = own_tie w outer (pwm.Run chop.Position) i in
    pwm_step_preserves w outer (pwm.Run chop.Position) (pwm.Run (chop.Duty (w.bank.time % pwm_period))) w.core.hold (Reads reg.PwmPos) i refl (λ s. cc)
    (λ o. omega arith) (rw own (refl, refl))
pwm_steps_preserve (pwm.Run (chop.Duty position)) w outer i left =
    let own = own_tie w outer (pwm.Run (chop.Duty position)) i in
    pwm_step_preserves w outer (pwm.Run (chop.Duty position)) (pwm.Run (chop.Sector (nat_lt position w.bank.duty))) w.core.hold (Reads reg.Duty) i refl
    (λ s. cc) (λ o. (let n = own.0 in omega arith)) (rw own.0 (refl, rw (i.duty_is, own.1) refl))
pwm_steps_preserve (pwm.Run (chop.Sector below)) w outer i left =
    let own = own_tie w outer (pwm.Run (chop.Sector below)) i in
    pwm_step_preserves w outer (pwm.Run (chop.Sector below)) (pwm.Run (chop.Write (chopped_leg below w.bank.sector))) w.core.hold (Reads reg.Sector) i refl
    (λ s. cc) (λ o. (let n = own.0 in omega arith)) (rw own.0 (refl, ap (λ (v : Bool). chopped_leg v w.bank.sector) own.1))
pwm_steps_preserve (pwm.Run (chop.Write leg)) w outer i left =
    let own = own_tie w outer (pwm.Run (chop.Write leg)) i in
    pwm_write_preserves leg w outer (record { at = i; own = own.0; leg_is = own.1; drives = open_drives w outer (pwm.Run (chop.Write leg)) i (λ s. cc) })
pwm_steps_preserve (pwm.Run chop.Lower) w outer i left =
    let own = own_tie w outer (pwm.Run chop.Lower) i in
    pwm_step_preserves w outer (pwm.Run chop.Lower) pwm.Back w.core.hold (Writes reg.Mask 0) i refl (λ s. cc) (λ o. omega arith) (rw own refl)
pwm_steps_preserve (pwm.Run chop.Over) w outer i left = absurd (own_tie w outer (pwm.Run chop.Over) i)
pwm_steps_preserve pwm.Back w outer i left = pwm_return_preserves w outer i
