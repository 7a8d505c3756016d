-- A step of TICK on the way to its return, without a note, that neither asks control nor ends the drive.
use Rattle.std.proofs.Common.{◌≡◌, ◌≢◌, ◌<◌, ◌∙◌, ℕ, Bool, List, ◌∷◌, Option, refl, sym, ap, subst, false}
use Rattle.esc_base.specs.declared.kind.Kind.{Kind}
use Rattle.esc_base.specs.declared.kind.Kind.TheVariants as kind
use Rattle.timer_regs.specs.Bank.{Bank}
use Rattle.interrupt_machine.specs.Did.{Access, accessed}
use Rattle.arming.specs.ControlAt.{demand_at}
use Rattle.gate_driver.specs.Gated.{Gated}
use Rattle.esc_core.specs.declared.state.PwmAt.{PwmAt}
use Rattle.esc_core.specs.declared.state.PwmAt.TheVariants as pwm
use Rattle.esc_core.specs.declared.state.CommAt.TheVariants as comm
use Rattle.esc_core.specs.declared.state.CmpAt.TheVariants as cmp
use Rattle.esc_core.specs.declared.state.TickAt.{TickAt}
use Rattle.esc_core.specs.Brain.{Brain}
use Rattle.esc_core.specs.Stepped.{goes_on}
use Rattle.esc_laws.specs.Calls.{pwm_asked_at, pwm_entered_at}
use Rattle.esc_laws.specs.Looks.{Made, made_next}
use Rattle.esc_rooms.specs.Tied.{TickTied}
use Rattle.esc_rooms.specs.DriveTied.{DriveView, DriveTied, LowTied, FlagTied, PwmTied, DutyTied, RestAt}
use Rattle.esc_rooms.specs.CrossTied.{ends_drive}
use Rattle.esc_rooms.specs.World.{World, so_far}
use Rattle.esc_rooms.specs.Rooms.{Ground, Tie, Ties, GatesKeep, StepKeeps, drive_seen, cross_seen}
use Rattle.esc_rooms.proofs.cmp.CrossFacts.{cross_retimed}
use Rattle.esc_rooms.proofs.cap.Period.{period_retimed}

-- what holds before each own step of TICK
pub record IsTick (w : World) (outer : List Kind) (place : TickAt) : Type 0 where
  pub ground : Ground w
  pub ties : Ties w
  pub on : (so_far w).stack ≡ kind.Tick ∷ outer
  pub place_is : w.core.tick_at ≡ place
  pub comm_is : w.core.comm_at ≡ comm.Shut
  pub pwm_is : w.core.pwm_at ≡ pwm.Shut
  pub cmp_is : w.core.cmp_at ≡ cmp.Shut

pub ticks_tie : (w : World) (outer : List Kind) (place : TickAt) → IsTick w outer place → TickTied place w.bank.number_read w.bank.time (so_far w).ticks
ticks_tie w outer place i = subst (λ (p : TickAt). TickTied p w.bank.number_read w.bank.time (so_far w).ticks) i.place_is (i.ties kind.Tick).0

pub duty_tie : (w : World) (outer : List Kind) (place : TickAt) → IsTick w outer place → DutyTied place w.bank.duty (demand_at w.back)
duty_tie w outer place i = subst (λ (p : TickAt). DutyTied p w.bank.duty (demand_at w.back)) i.place_is (i.ties kind.Tick).3

pub rest_tie : (w : World) (outer : List Kind) (place : TickAt) → IsTick w outer place → demand_at w.back ≡ 0
    → RestAt place w.bank.hi w.bank.lo w.bank.flag w.bank.comm w.core.drive.postponed w.bank.stuck
rest_tie w outer place i z =
    subst (λ (p : TickAt). RestAt p w.bank.hi w.bank.lo w.bank.flag w.bank.comm w.core.drive.postponed w.bank.stuck) i.place_is ((i.ties kind.Tick).4 z).rest

pub low_tie : (w : World) (outer : List Kind) (place : TickAt) → IsTick w outer place → 0 < demand_at w.back → LowTied place (drive_seen w)
low_tie w outer place i l = subst (λ (p : TickAt). LowTied p (drive_seen w)) i.place_is ((i.ties kind.Comm).low i.comm_is l (rw i.cmp_is refl))

pub flag_tie : (w : World) (outer : List Kind) (place : TickAt) → IsTick w outer place
    → FlagTied place w.bank.flag (pwm_asked_at w.back) (demand_at w.back) (pwm_entered_at w.back) w.bank.time
flag_tie w outer place i =
    subst (λ (p : TickAt). FlagTied p w.bank.flag (pwm_asked_at w.back) (demand_at w.back) (pwm_entered_at w.back) w.bank.time) i.place_is (i.ties kind.Pwm).1

-- PWM is shut, whatever becomes of the demand
pub pwm_still : (w : World) (outer : List Kind) (place : TickAt) (demand : ℕ) → IsTick w outer place
    → PwmTied w.core.pwm_at w.made.pwm_own w.made.sampled demand w.bank.sector
pwm_still w outer place demand i = subst (λ (p : PwmAt). PwmTied p w.made.pwm_own w.made.sampled demand w.bank.sector) (sym i.pwm_is) tt

-- ---- the step

-- the registers that it may write
abbrev pub by_access : World → Access → ℕ → ℕ → ℕ → Bool → Option ℕ → Bank
by_access w access hi lo duty flag timer = record w.bank {
  accesses = (accessed w.bank access).accesses;
  masked = (accessed w.bank access).masked;
  hi = hi;
  lo = lo;
  duty = duty;
  flag = flag;
  comm = timer;
}

-- the core after it
abbrev pub core_by : World → TickAt → Gated → ℕ → Brain
core_by w next g hold = record w.core { hold = hold; tick_at = next; drive = record w.core.drive { gates = g } }

-- what COMM's tie speaks of after it
abbrev pub drive_by : World → TickAt → Gated → ℕ → ℕ → Option ℕ → DriveView
drive_by w next g hi lo timer = record (drive_seen w) { tick_at = next; drive = record w.core.drive { gates = g }; hi = hi; lo = lo; timer = timer }

-- what differs from step to step
pub record Goes (w : World) (next : TickAt) (g : Gated) (hold hi lo duty : ℕ) (flag : Bool) (timer : Option ℕ) (access : Access) : Type 0 where
  pub gates : GatesKeep kind.Tick w (goes_on (core_by w next g hold) access)
  pub ticks : TickTied next w.bank.number_read w.bank.time (so_far w).ticks
  pub duty_is : DutyTied next duty (demand_at w.back)
  pub rest : demand_at w.back ≡ 0 → RestAt next hi lo flag timer w.core.drive.postponed w.bank.stuck
  pub flag_is : FlagTied next flag (pwm_asked_at w.back) (demand_at w.back) (pwm_entered_at w.back) w.bank.time
  pub drive : DriveTied (drive_by w next g hi lo timer)

pub tick_step_preserves : (w : World) (outer : List Kind) (place next : TickAt) (g : Gated) (hold hi lo duty : ℕ) (flag : Bool) (timer : Option ℕ)
    (access : Access)
    → IsTick w outer place → accessed w.bank access ≡ by_access w access hi lo duty flag timer → ends_drive next ≡ ends_drive place
    → Goes w next g hold hi lo duty flag timer access
    → StepKeeps kind.Tick outer w (goes_on (core_by w next g hold) access)
tick_step_preserves w outer place next g hold hi lo duty flag timer access i writes ends s =
    let c : Brain = core_by w next g hold in
    let b : Bank = by_access w access hi lo duty flag timer in
    let m : Made = made_next kind.Tick false w.bank.time w.made in
    record {
      gates = s.gates;
      fits = λ told. tt;
      ground = subst (λ (x : Bank). Ground (record w { core = c; bank = x; made = m })) (sym writes) i.ground;
      tie = λ told. subst (λ (x : Bank). Tie kind.Tick (record w { core = c; bank = x; made = m })) (sym writes) (
        s.ticks,
        (i.ties kind.Tick).1,
        (i.ties kind.Tick).2,
        s.duty_is,
        λ z. record { rest = s.rest z; pwm_shut = i.pwm_is; comm_shut = i.comm_is },
      );
      others = λ j ne u. subst (λ (x : Bank). Tie j (record w { core = c; bank = x; made = m })) (sym writes) (beside j ne u);
      stack_is = i.on;
    }
  where
    beside : (j : Kind) → j ≢ kind.Tick → Tie j w
        → Tie j (record w {
          core = core_by w next g hold;
          bank = by_access w access hi lo duty flag timer;
          made = made_next kind.Tick false w.bank.time w.made;
        })
    beside kind.Tick ne u = absurd (ne refl)
    beside kind.Pwm ne u = (u.0, s.flag_is)
    beside kind.Comm ne u = s.drive
    beside kind.Cap ne u = (u.0, u.1, u.2, period_retimed w next (ends ∙ sym (ap ends_drive i.place_is)) u.3)
    beside kind.Cmp ne u = cross_retimed (cross_seen w) next (ends ∙ sym (ap ends_drive i.place_is)) u
    beside j ne u = u
