-- Small facts of the drive's ties.
use Rattle.std.proofs.Common.{◌≡◌, ◌≤◌, ◌<◌, ◌+◌, inl, inr, ℕ, min, Bool, true, false, not, ◌&&◌, if◌then◌else◌, Option, Some, refl, sym, ◌∙◌, ap, subst, arith}
use Rattle.esc_base.specs.Times.{dead_time}
use Rattle.esc_base.specs.declared.gate.Leg.{Leg}
use Rattle.esc_base.specs.Legs.{is_on, IsApart}
use Rattle.commutation.specs.Sectors.{high_of, low_of}
use Rattle.gate_driver.specs.declared.all_off.AllOff.TheVariants as off
use Rattle.gate_driver.specs.declared.to_sector.ChangeAt.{ChangeAt}
use Rattle.gate_driver.specs.Gated.{Legs, at_leg, offs}
use Rattle.gate_driver.proofs.Bits.{off_is}
use Rattle.gate_driver.proofs.OffTimes.{at_offs, off_stays}
use Rattle.esc_core.specs.declared.state.CommAt.{CommAt}
use Rattle.esc_core.specs.declared.state.CommAt.TheVariants as comm
use Rattle.esc_core.specs.declared.state.PwmAt.{PwmAt}
use Rattle.esc_core.specs.declared.state.PwmAt.TheVariants as pwm
use Rattle.esc_core.specs.declared.state.TickAt.{TickAt}
use Rattle.esc_core.specs.declared.state.TickAt.TheVariants as tick
use Rattle.esc_core.specs.Drive.{low_free}
use Rattle.esc_core.specs.Firmware.{comm_left, pwm_left, tick_left, tick_need}
use Rattle.esc_laws.specs.Driven.{InPair}
use Rattle.esc_rooms.specs.DriveTied.{DriveView, SwitchesTied, DriveTied, CommTied, IsStarted, TimerKept, LowTied, RestAt, Still, writes_duty}
use Rattle.esc_laws.proofs.Apart.{apart_legs}

-- ---- places

-- a handler without a step left is shut
pub comm_shut : (place : CommAt) (at : ChangeAt) → comm_left place at ≡ 0 → place ≡ comm.Shut
comm_shut comm.Shut at e = refl
comm_shut comm.Turn at e = absurd (omega arith)
comm_shut place at e = absurd (omega arith)

pub pwm_shut : (place : PwmAt) → pwm_left place ≡ 0 → place ≡ pwm.Shut
pwm_shut pwm.Shut e = refl
pwm_shut (pwm.Run at) e = absurd (omega arith)
pwm_shut pwm.Back e = absurd (omega arith)

pub tick_shut : (place : TickAt) → tick_left place ≡ 0 → place ≡ tick.Shut
tick_shut tick.Shut e = refl
tick_shut (tick.Off at) e = absurd (omega arith)
tick_shut place e = absurd (omega arith)

-- where TICK doesn't stand under the mask it isn't about to write DUTY, nothing drives at demand 0, and COMM_AT is kept
pub duty_written : (at : TickAt) → 8 < tick_need at → writes_duty at ≡ false
duty_written (tick.DutyOn start) l = absurd (omega arith)
duty_written at l = refl

pub rest_still : (at : TickAt) (hi lo : ℕ) (flag : Bool) (timer : Option ℕ) (postponed stuck : Bool) → 8 < tick_need at
    → RestAt at hi lo flag timer postponed stuck → Still hi lo flag timer postponed stuck
rest_still tick.Shut hi lo flag timer postponed stuck l r = r
rest_still tick.Raise hi lo flag timer postponed stuck l r = r
rest_still tick.Back hi lo flag timer postponed stuck l r = r
rest_still (tick.Off off.High) hi lo flag timer postponed stuck l r = absurd (omega arith)
rest_still (tick.Off off.Low) hi lo flag timer postponed stuck l r = absurd (omega arith)
rest_still (tick.Off off.Over) hi lo flag timer postponed stuck l r = absurd r
rest_still at hi lo flag timer postponed stuck l r = absurd (omega arith)

pub timer_kept : (at : TickAt) (v : DriveView) → 8 < tick_need at → LowTied at v → TimerKept v
timer_kept tick.Shut v l t = t
timer_kept tick.Raise v l t = t
timer_kept tick.Back v l t = t
timer_kept (tick.Off off.High) v l t = absurd (omega arith)
timer_kept (tick.Off off.Low) v l t = absurd (omega arith)
timer_kept (tick.Off off.Over) v l t = absurd (omega arith)
timer_kept at v l t = absurd (omega arith)

-- ---- legs

-- the switches of a pair are of two legs
pub pair_apart : (s hi lo : ℕ) → s ≤ 6 → InPair s hi lo → IsApart hi lo
pair_apart s hi lo le p x e = off_is (is_on lo x) (λ f. let h = p.high x e in let l = p.low x f in apart_legs s h.1 le (h.0 ∙ sym l.0))

pub low_leg_off : (s hi lo : ℕ) → s ≤ 6 → InPair s hi lo → is_on hi (low_of s) ≡ false
low_leg_off s hi lo le p = off_is (is_on hi (low_of s)) (λ e. let h = p.high (low_of s) e in apart_legs s h.1 le h.0)

-- ---- off times

soon_test : (a b : Bool) (t f : ℕ) → f ≤ t + dead_time → (if a && not b then t + dead_time else f) ≤ t + dead_time
soon_test true true t f l = l
soon_test true false t f l = omega arith
soon_test false b t f l = l

pub soon_word : (f : Legs) (w w' t : ℕ) (x : Leg) → at_leg f x ≤ t + dead_time → at_leg (offs f w w' t) x ≤ t + dead_time
soon_word f w w' t x l = rw (at_offs f w w' t x) (soon_test (is_on w x) (is_on w' x) t (at_leg f x) l)

-- ---- what holds of COMM_AT between two steps of COMM is carried on where the timer and the next change are

pub low_kept : (at : TickAt) (v v' : DriveView) → (TimerKept v → TimerKept v') → (IsStarted v → IsStarted v') → LowTied at v
    → LowTied at v'
low_kept tick.Shut v v' f g t = f t
low_kept tick.Raise v v' f g t = f t
low_kept tick.Read v v' f g t = f t
low_kept (tick.Off at) v v' f g t = tt
low_kept tick.DutyOff v v' f g t = tt
low_kept tick.DriveOff v v' f g t = tt
low_kept (tick.DutyOn start) v v' f g (inl e) = inl (e.0, g e.1)
low_kept (tick.DutyOn start) v v' f g (inr e) = inr (e.0, f e.1)
low_kept tick.Start v v' f g t = g t
low_kept tick.Lower v v' f g t = f t
low_kept tick.Back v v' f g t = f t

-- while COMM is shut a command may turn the direction
redirect_timer : (v : DriveView) (forward : Bool) → TimerKept v → TimerKept (record v { forward = forward })
redirect_timer v forward (inl e) = inl e
redirect_timer v forward (inr (at, e, l, c)) = inr (at, e, l, record { started = c.started; due = c.due })

pub redirected : (v : DriveView) (forward : Bool) → v.comm_at ≡ comm.Shut → DriveTied v → DriveTied (record v { forward = forward })
redirected v forward shut t = record {
  switches = t.switches;
  newest = t.newest;
  next = t.next;
  row = t.row;
  place = subst (λ (x : CommAt). CommTied x (record v { forward = forward })) (sym shut) tt;
  low = λ e d s. low_kept v.tick_at v (record v { forward = forward }) (redirect_timer v forward)
      (λ c. record { started = c.started; due = c.due }) (t.low e d s);
  crossed = t.crossed;
  postponed = t.postponed;
}

-- ---- another word of high switches, while COMM is shut

abbrev pub high_view : DriveView → ℕ → DriveView
high_view v hi = record v {
  hi = hi;
  drive = record v.drive {
    gates = record { hi_free = offs v.drive.gates.hi_free v.hi hi v.time; lo_free = offs v.drive.gates.lo_free v.lo v.lo v.time };
  };
}

-- the high switch of the newest change's low leg is off
pub change_low_off : (v : DriveView) → v.comm_at ≡ comm.Shut → DriveTied v → is_on v.hi (low_of v.drive.turn.to) ≡ false
change_low_off v shut t = off_is (is_on v.hi (low_of v.drive.turn.to)) (λ e. ends (t.switches.pair.high (low_of v.drive.turn.to) e))
  where
    ends : (high_of v.sector ≡ low_of v.drive.turn.to) × (0 < v.sector) → ⊥
    ends h = apart_legs v.sector h.1 t.switches.sectors (h.0 ∙ ap low_of (t.newest.to_is (rw shut refl) h.1))

timer_view : (v : DriveView) (hi : ℕ) → at_leg (offs v.drive.gates.hi_free v.hi hi v.time) (low_of v.drive.turn.to) ≡ low_free v.drive → TimerKept v
    → TimerKept (high_view v hi)
timer_view v hi same (inl (e, o)) =
    inl (e ∙ ap (λ (f : ℕ). Some (if v.drive.postponed then min v.drive.change f else v.drive.change)) (sym same), o)
timer_view v hi same (inr (at, e, l, c)) = inr (at, e, l, record { started = c.started; due = c.due })

pub high_switches : (v : DriveView) (hi : ℕ) → InPair v.sector hi v.lo
    → SwitchesTied v.sector v.told_sector v.hi v.lo v.time v.turned_at v.drive.gates.hi_free
    → SwitchesTied v.sector v.told_sector hi v.lo v.time v.turned_at (offs v.drive.gates.hi_free v.hi hi v.time)
high_switches v hi pair t =
    let f : Legs = v.drive.gates.hi_free in
    record {
      sector_is = t.sector_is;
      sectors = t.sectors;
      pair = pair;
      held = λ x e. rw (off_stays f v.hi hi v.time x (off_is (is_on v.hi x) (λ o. let a = pair_apart v.sector v.hi v.lo t.sectors t.pair x o in cc)))
          (t.held x e);
      soon = λ x. soon_word f v.hi hi v.time x (t.soon x);
      outer = λ s x ne. rw (off_stays f v.hi hi v.time x (off_is (is_on v.hi x) (λ e. ne (t.pair.high x e).0))) (t.outer s x ne);
      unused = λ z x. off_stays f v.hi hi v.time x (off_is (is_on v.hi x) (λ e. absurd (let a = (t.pair.high x e).1 in omega arith))) ∙ t.unused z x;
      past = t.past;
    }

pub with_high : (v : DriveView) (hi : ℕ) → v.comm_at ≡ comm.Shut → InPair v.sector hi v.lo → DriveTied v → DriveTied (high_view v hi)
with_high v hi shut pair t =
    let f : Legs = v.drive.gates.hi_free in
    let same : at_leg (offs f v.hi hi v.time) (low_of v.drive.turn.to) ≡ low_free v.drive =
    off_stays f v.hi hi v.time (low_of v.drive.turn.to) (change_low_off v shut t) in
    record {
      switches = high_switches v hi pair t.switches;
      newest = t.newest;
      next = t.next;
      row = t.row;
      place = subst (λ (x : CommAt). CommTied x (high_view v hi)) (sym shut) tt;
      low = λ e d s. low_kept v.tick_at v (high_view v hi) (timer_view v hi same) (λ c. record { started = c.started; due = c.due }) (t.low e d s);
      crossed = t.crossed;
      postponed = t.postponed;
    }
