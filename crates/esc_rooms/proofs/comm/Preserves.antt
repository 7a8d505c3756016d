-- A step of COMM on the way to its return, without a note, in the same sector.
use Rattle.std.proofs.Common.{◌≡◌, ◌≢◌, ◌≤◌, ◌<◌, ◌+◌, ◌∙◌, ℕ, Bool, true, false, ◌||◌, List, Option, refl, sym, subst, arith}
use Rattle.esc_base.specs.declared.kind.Kind.{Kind}
use Rattle.esc_base.specs.declared.kind.Kind.TheVariants as kind
use Rattle.timer_regs.specs.Bank.{Bank}
use Rattle.interrupt_machine.specs.Did.{Access, accessed}
use Rattle.arming.specs.ControlAt.{demand_at}
use Rattle.commutation.specs.Commutated.{stuck_at}
use Rattle.gate_driver.specs.declared.to_sector.ChangeAt.{ChangeAt}
use Rattle.gate_driver.specs.declared.to_sector.ChangeAt.TheVariants as change
use Rattle.gate_driver.specs.Gated.{Gated}
use Rattle.gate_driver.specs.Change.{Change}
use Rattle.esc_core.specs.declared.drive.Drive.{Drive}
use Rattle.esc_core.specs.declared.state.CommAt.{CommAt}
use Rattle.esc_core.specs.declared.state.CommAt.TheVariants as comm
use Rattle.esc_core.specs.Brain.{Brain}
use Rattle.esc_core.specs.Drive.{is_stuck}
use Rattle.esc_core.specs.Stepped.{goes_on}
use Rattle.esc_laws.specs.Calls.{postponed_at}
use Rattle.esc_laws.specs.Looks.{Made, made_next}
use Rattle.esc_rooms.specs.DriveTied.{CommTied, comm_since, commutes, is_turning, is_marking}
use Rattle.esc_rooms.specs.CrossTied.{LateTied, begins_search}
use Rattle.esc_rooms.specs.PeriodTied.{sums_gaps}
use Rattle.esc_rooms.specs.World.{World}
use Rattle.esc_rooms.specs.Rooms.{Ground, Tie, HoldsAlone, GatesKeep, StepKeeps, drive_seen, cross_seen}
use Rattle.esc_rooms.proofs.cmp.CrossFacts.{cmp_unmasked, unmasked_commutes}
use Rattle.esc_rooms.proofs.cmp.BesideComm.{moved_cross}
use Rattle.esc_rooms.proofs.cap.Period.{period_kept}
use Rattle.esc_rooms.proofs.comm.Facts.{Words, moved_view, comm_moves, IsComm, before_step}

-- while COMM is open there is a demand, so TICK's tie holds
pub beside_tick : (w : World) (outer : List Kind) (place place' : CommAt) (at : ChangeAt) (d : Drive) (hi lo sector : ℕ) (timer : Option ℕ) (stuck : Bool)
    → IsComm w outer place at → Tie kind.Tick w
    → Tie kind.Tick (record w {
      core = record w.core { comm_at = place'; drive = d };
      bank = record w.bank { hi = hi; lo = lo; sector = sector; comm = timer; stuck = stuck };
    })
beside_tick w outer place place' at d hi lo sector timer stuck i u = (u.0, u.1, u.2, u.3, λ z. absurd (let l = i.drives in omega arith))

-- ---- the search for a crossing

pub no_commute : (w : World) → HoldsAlone kind.Comm w → commutes w.core.cmp_at ≡ false
no_commute w alone = unmasked_commutes w.core.cmp_at (cmp_unmasked w.core.cmp_at (alone kind.Cmp (λ e. cc)))

pub same_search : (w : World) (outer : List Kind) (place : CommAt) (at : ChangeAt) → IsComm w outer place at
    → begins_search place at ≡ begins_search w.core.comm_at w.core.drive.turn.at
same_search w outer place at i = rw (i.place_is, i.change_is) refl

-- ---- the period register

pub same_sums : (w : World) (outer : List Kind) (place : CommAt) (at : ChangeAt) → IsComm w outer place at
    → sums_gaps place at ≡ sums_gaps w.core.comm_at w.core.drive.turn.at
same_sums w outer place at i = rw (i.place_is, i.change_is) refl

-- ---- the step

-- the drive after it
abbrev pub drive_by : World → Gated → Change → Bool → Drive
drive_by w g turn late = record w.core.drive { gates = g; turn = turn; postponed = late }

-- the registers that it may write
abbrev pub by_access : World → Access → Option ℕ → Bool → ℕ → ℕ → Bank
by_access w access timer stuck hi lo = record w.bank { accesses = (accessed w.bank access).accesses; hi = hi; lo = lo; comm = timer; stuck = stuck }

-- what differs from step to step
pub record Goes (w : World) (next : CommAt) (d : Drive) (timer : Option ℕ) (stuck : Bool) (hi lo : ℕ) (access : Access) : Type 0 where
  pub gates : GatesKeep kind.Comm w (goes_on (record w.core { comm_at = next; drive = d }) access)
  pub words : Words (drive_seen w) d hi lo
  pub to_is : is_turning next d.turn.at ≡ false → 0 < w.bank.sector → d.turn.to ≡ w.bank.sector
  pub at_low : d.postponed ≡ true → d.turn.at ≡ change.Low
  pub stuck_is : 0 < demand_at w.back → stuck_at w.back ≡ (stuck || is_stuck d)
  pub marked : 0 < demand_at w.back → is_marking next d.turn.at ≡ false → is_stuck d ≡ true → stuck ≡ true
  pub place_is : CommTied next (moved_view (drive_seen w) d next timer stuck (postponed_at w.back) hi lo)
  pub late : LateTied w.core.cmp_at w.core.drive.crossing.phase d.postponed

-- what is seen by computation stands before it: the registers that are written, that COMM isn't shut, its steps since the Q, and
-- that nothing begins or ends of the sums of gaps and of the search
pub comm_step_preserves : (w : World) (outer : List Kind) (place next : CommAt) (at : ChangeAt) (g : Gated) (turn : Change) (late : Bool) (timer : Option ℕ)
    (stuck : Bool) (hi lo : ℕ) (access : Access)
    → IsComm w outer place at → accessed w.bank access ≡ by_access w access timer stuck hi lo → next ≢ comm.Shut
    → comm_since next turn.at ≤ comm_since place at + 1 → sums_gaps next turn.at ≡ sums_gaps place at → begins_search next turn.at ≡ begins_search place at
    → Goes w next (drive_by w g turn late) timer stuck hi lo access
    → StepKeeps kind.Comm outer w (goes_on (record w.core { comm_at = next; drive = drive_by w g turn late }) access)
comm_step_preserves w outer place next at g turn late timer stuck hi lo access i writes on since sums search s =
    let d : Drive = drive_by w g turn late in
    let c : Brain = record w.core { comm_at = next; drive = d } in
    let m : Made = made_next kind.Comm false w.bank.time w.made in
    let b : Bank = by_access w access timer stuck hi lo in
    let tie : Tie kind.Comm (record w { core = c; bank = b; made = m }) =
    comm_moves (drive_seen w) (comm_since place at) d next timer stuck (postponed_at w.back) hi lo (no_commute w i.alone) (i.ties kind.Comm) (record {
      words = s.words;
      change_is = refl;
      turned_is = refl;
      forced_is = refl;
      before = before_step w outer place at i;
      since_is = since;
      to_is = s.to_is;
      at_low = s.at_low;
      stuck_is = s.stuck_is;
      marked = s.marked;
      place_is = s.place_is;
      low = λ e. absurd (on e);
      waits = λ e. absurd (on e);
    }) in
    record {
      gates = s.gates;
      fits = λ told. tt;
      ground = subst (λ (x : Bank). Ground (record w { core = c; bank = x; made = m })) (sym writes) i.ground;
      tie = λ told. subst (λ (x : Bank). Tie kind.Comm (record w { core = c; bank = x; made = m })) (sym writes) tie;
      others = λ j ne u. subst (λ (x : Bank). Tie j (record w { core = c; bank = x; made = m })) (sym writes) (beside j ne u);
      stack_is = i.on;
    }
  where
    beside : (j : Kind) → j ≢ kind.Comm → Tie j w
        → Tie j (record w {
          core = record w.core { comm_at = next; drive = drive_by w g turn late };
          bank = by_access w access timer stuck hi lo;
          made = made_next kind.Comm false w.bank.time w.made;
        })
    beside kind.Comm ne u = absurd (ne refl)
    beside kind.Tick ne u = beside_tick w outer place next at (drive_by w g turn late) hi lo w.bank.sector timer stuck i u
    beside kind.Cap ne u = (u.0, u.1, u.2, period_kept w _ (sums ∙ same_sums w outer place at i) u.3)
    beside kind.Cmp ne u = moved_cross (cross_seen w) next turn.at late (search ∙ same_search w outer place at i) on s.late u
    beside j ne u = u
