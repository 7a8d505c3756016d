-- A step of PWM on the way to its return, without a note, that leaves the gates.
use Rattle.std.proofs.Common.{◌≡◌, ◌≢◌, ◌<◌, ◌≤◌, ◌∙◌, ℕ, true, false, List, [], ◌∷◌, inl, inr, refl, sym, ap, subst, arith}
use Rattle.std.proofs.lemmas.Bool.{cases_lt}
use Rattle.esc_base.specs.declared.kind.Kind.{Kind}
use Rattle.esc_base.specs.declared.kind.Kind.TheVariants as kind
use Rattle.timer_regs.specs.Bank.{Bank}
use Rattle.interrupt_machine.specs.Did.{Access, accessed}
use Rattle.arming.specs.ControlAt.{demand_at}
use Rattle.gate_driver.specs.declared.all_off.AllOff.TheVariants as off
use Rattle.gate_driver.proofs.OffTimes.{gates_same}
use Rattle.esc_core.specs.declared.state.PwmAt.{PwmAt}
use Rattle.esc_core.specs.declared.state.PwmAt.TheVariants as pwm
use Rattle.esc_core.specs.declared.state.CommAt.TheVariants as comm
use Rattle.esc_core.specs.declared.state.TickAt.{TickAt}
use Rattle.esc_core.specs.declared.state.TickAt.TheVariants as tick
use Rattle.esc_core.specs.Brain.{Brain}
use Rattle.esc_core.specs.Stepped.{Stepped, goes_on}
use Rattle.esc_core.specs.Firmware.{tick_need}
use Rattle.esc_laws.specs.Looks.{Made, made_next}
use Rattle.esc_rooms.specs.DriveTied.{PwmTied, DutyTied}
use Rattle.esc_rooms.specs.World.{World, so_far}
use Rattle.esc_rooms.specs.Rooms.{Ground, Tie, Ties, GatesKeep, StepKeeps}

-- ---- what holds before each own step of PWM

pub record IsPwm (w : World) (outer : List Kind) (place : PwmAt) : Type 0 where
  pub ground : Ground w
  pub ties : Ties w
  pub on : (so_far w).stack ≡ kind.Pwm ∷ outer
  pub place_is : w.core.pwm_at ≡ place
  pub comm_is : w.core.comm_at ≡ comm.Shut
  pub duty_is : w.bank.duty ≡ demand_at w.back

pub own_tie : (w : World) (outer : List Kind) (place : PwmAt) → IsPwm w outer place
    → PwmTied place w.made.pwm_own w.made.sampled (demand_at w.back) w.bank.sector
own_tie w outer place i =
    subst (λ (p : PwmAt). PwmTied p w.made.pwm_own w.made.sampled (demand_at w.back) w.bank.sector) i.place_is (i.ties kind.Pwm).0

pub duty_is : (at : TickAt) (duty demand : ℕ) → 8 < tick_need at → DutyTied at duty demand → duty ≡ demand
duty_is tick.Shut duty demand l t = t
duty_is tick.Raise duty demand l t = t
duty_is tick.Back duty demand l t = t
duty_is (tick.Off off.High) duty demand l t = absurd (omega arith)
duty_is (tick.Off off.Low) duty demand l t = absurd (omega arith)
duty_is (tick.Off off.Over) duty demand l t = absurd (omega arith)
duty_is at duty demand l t = absurd (omega arith)

-- while it is open there is a demand
pub open_drives : (w : World) (outer : List Kind) (place : PwmAt) → IsPwm w outer place → place ≢ pwm.Shut → 0 < demand_at w.back
open_drives w outer place i ne = elim (cases_lt 0 (demand_at w.back)) [
  | inl l ↦ l
  | inr z ↦ absurd (ne (sym i.place_is ∙ ((i.ties kind.Tick).4 (omega arith)).pwm_shut))
]

-- so TICK's tie holds beside it
pub tick_beside : (w : World) (outer : List Kind) (place next : PwmAt) (hi : ℕ) → IsPwm w outer place → place ≢ pwm.Shut → Tie kind.Tick w
    → Tie kind.Tick (record w { core = record w.core { pwm_at = next }; bank = record w.bank { hi = hi } })
tick_beside w outer place next hi i ne t = (t.0, t.1, t.2, t.3, λ z. absurd (let l = open_drives w outer place i ne in omega arith))

pub still_gates : (w : World) (s : Stepped) → s.core.drive.gates ≡ w.core.drive.gates → (accessed w.bank s.access).hi ≡ w.bank.hi
    → (accessed w.bank s.access).lo ≡ w.bank.lo → w.made.pwm_own ≢ 4 → (s.over ≡ true → 4 ≤ w.made.pwm_own) → s.notes ≡ [] → GatesKeep kind.Pwm w s
still_gates w s e hi lo early back silent = record {
  off_times = e ∙ gates_same w.core.drive.gates w.bank (accessed w.bank s.access) hi lo;
  fits = λ told moved. absurd (moved hi lo);
  drive = record { low = λ o d. lo; high = λ o p d. hi; chops = λ is own. absurd (early own); back = λ is over. back over; silent = λ is. silent };
}

-- ---- the step

-- it writes the mask at most
abbrev by_access : World → Access → Bank
by_access w access = record w.bank { accesses = (accessed w.bank access).accesses; masked = (accessed w.bank access).masked }

pub pwm_step_preserves : (w : World) (outer : List Kind) (place next : PwmAt) (hold : ℕ) (access : Access)
    → IsPwm w outer place → accessed w.bank access ≡ by_access w access → place ≢ pwm.Shut → w.made.pwm_own ≢ 4
    → PwmTied next (made_next kind.Pwm false w.bank.time w.made).pwm_own (made_next kind.Pwm false w.bank.time w.made).sampled (demand_at w.back) w.bank.sector
    → StepKeeps kind.Pwm outer w (goes_on (record w.core { hold = hold; pwm_at = next }) access)
pwm_step_preserves w outer place next hold access i writes ne early own =
    let c : Brain = record w.core { hold = hold; pwm_at = next } in
    let b : Bank = by_access w access in
    let m : Made = made_next kind.Pwm false w.bank.time w.made in
    record {
      gates = still_gates w _ refl (ap (λ (x : Bank). x.hi) writes) (ap (λ (x : Bank). x.lo) writes) early (λ over. cc) refl;
      fits = λ told. tt;
      ground = subst (λ (x : Bank). Ground (record w { core = c; bank = x; made = m })) (sym writes) i.ground;
      tie = λ told. subst (λ (x : Bank). Tie kind.Pwm (record w { core = c; bank = x; made = m })) (sym writes) (own, (i.ties kind.Pwm).1);
      others = λ j ne u. subst (λ (x : Bank). Tie j (record w { core = c; bank = x; made = m })) (sym writes) (beside j ne u);
      stack_is = i.on;
    }
  where
    beside : (j : Kind) → j ≢ kind.Pwm → Tie j w
        → Tie j (record w {
          core = record w.core { hold = hold; pwm_at = next };
          bank = by_access w access;
          made = made_next kind.Pwm false w.bank.time w.made;
        })
    beside kind.Pwm not_pwm u = absurd (not_pwm refl)
    beside kind.Tick not_pwm u = tick_beside w outer place next w.bank.hi i ne u
    beside j not_pwm u = u
