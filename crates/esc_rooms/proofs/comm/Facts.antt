-- What the drive's tie becomes at a step of COMM.
use Rattle.std.proofs.Common.{◌≡◌, ◌≤◌, ◌<◌, ◌+◌, ◌⊎◌, inl, inr, ℕ, Bool, true, false, ◌||◌, nat_lt, if◌then◌else◌, List, ◌∷◌, Option, Some, None, refl, sym, ◌∙◌, ap, subst, arith}
use Rattle.std.proofs.lemmas.Bool.Decides.{nat_tests}
use Rattle.esc_base.specs.Times.{dead_time}
use Rattle.esc_base.specs.declared.gate.Leg.{Leg}
use Rattle.esc_base.specs.declared.kind.Kind.{Kind}
use Rattle.esc_base.specs.declared.kind.Kind.TheVariants as kind
use Rattle.esc_base.specs.Legs.{is_on}
use Rattle.interrupt_machine.specs.Did.{accessed}
use Rattle.interrupt_machine.specs.Open.{innermost}
use Rattle.arming.specs.ControlAt.{demand_at}
use Rattle.gate_driver.specs.declared.to_sector.ChangeAt.{ChangeAt}
use Rattle.gate_driver.specs.declared.to_sector.ChangeAt.TheVariants as change
use Rattle.gate_driver.specs.Gated.{at_leg, offs, wait_of, gates_after}
use Rattle.gate_driver.specs.Acted.{KeepsDeadTime}
use Rattle.gate_driver.proofs.OffTimes.{offs_same}
use Rattle.esc_core.specs.declared.drive.Drive.{Drive}
use Rattle.esc_core.specs.declared.state.CommAt.{CommAt}
use Rattle.esc_core.specs.declared.state.CommAt.TheVariants as comm
use Rattle.esc_core.specs.Drive.{is_stuck}
use Rattle.esc_core.specs.Stepped.{Stepped}
use Rattle.esc_laws.specs.Driven.{InPair}
use Rattle.esc_rooms.specs.DriveTied.{DriveView, SwitchesTied, DriveTied, CommTied, LowTied, comm_since, commutes, is_turning, is_marking}
use Rattle.esc_rooms.specs.World.{World, so_far}
use Rattle.esc_rooms.specs.Rooms.{Ground, Ties, HoldsAlone, GatesKeep, drive_seen}
use Rattle.esc_rooms.proofs.shared.DriveFacts.{high_switches}

-- ---- the switches, and the off times of the high ones

abbrev pub Words : DriveView → Drive → ℕ → ℕ → Type 0
Words v d hi lo = SwitchesTied v.sector v.told_sector hi lo v.time v.turned_at d.gates.hi_free

pub same_words : (v : DriveView) (d : Drive) → d.gates ≡ v.drive.gates → DriveTied v → Words v d v.hi v.lo
same_words v d e t = rw e t.switches

pub high_words : (v : DriveView) (d : Drive) (hi : ℕ) → d.gates.hi_free ≡ offs v.drive.gates.hi_free v.hi hi v.time → InPair v.sector hi v.lo → DriveTied v
    → Words v d hi v.lo
high_words v d hi e pair t = rw e (high_switches v hi pair t.switches)

pub low_words : (v : DriveView) (d : Drive) (lo : ℕ) → d.gates.hi_free ≡ offs v.drive.gates.hi_free v.hi v.hi v.time → InPair v.sector v.hi lo
    → ((x : Leg) → is_on lo x ≡ true → (is_on v.lo x ≡ true) ⊎ (at_leg v.drive.gates.hi_free x ≤ v.time)) → DriveTied v → Words v d v.hi lo
low_words v d lo e pair more t =
    rw (e, offs_same v.drive.gates.hi_free v.hi v.time) (record {
      sector_is = t.switches.sector_is;
      sectors = t.switches.sectors;
      pair = pair;
      held = λ x on. elim (more x on) [ inl o ↦ t.switches.held x o | inr l ↦ l ];
      soon = t.switches.soon;
      outer = t.switches.outer;
      unused = t.switches.unused;
      past = t.switches.past;
    })

-- ---- another place of COMM, in the same sector

abbrev pub moved_view : DriveView → Drive → CommAt → Option ℕ → Bool → Bool → ℕ → ℕ → DriveView
moved_view v d place timer stuck postponed hi lo = record v {
  drive = d;
  comm_at = place;
  timer = timer;
  stuck = stuck;
  told_postponed = postponed;
  hi = hi;
  lo = lo;
  past = v.time + 1;
}

pub record Moves (v : DriveView) (since : ℕ) (d : Drive) (place : CommAt) (timer : Option ℕ) (stuck postponed : Bool) (hi lo : ℕ) : Type 0 where
  pub words : Words v d hi lo
  pub change_is : d.change ≡ v.drive.change
  pub turned_is : d.turned ≡ v.drive.turned
  pub forced_is : d.forced ≡ v.drive.forced
  pub before : 0 < v.sector → v.turned_at + since ≤ v.time
  pub since_is : comm_since place d.turn.at ≤ since + 1
  pub to_is : is_turning place d.turn.at ≡ false → 0 < v.sector → d.turn.to ≡ v.sector
  pub at_low : d.postponed ≡ true → d.turn.at ≡ change.Low
  pub stuck_is : 0 < v.demand → v.told_stuck ≡ (stuck || is_stuck d)
  pub marked : 0 < v.demand → is_marking place d.turn.at ≡ false → is_stuck d ≡ true → stuck ≡ true
  pub place_is : CommTied place (moved_view v d place timer stuck postponed hi lo)
  pub low : place ≡ comm.Shut → 0 < v.demand → LowTied v.tick_at (moved_view v d place timer stuck postponed hi lo)
  pub waits : place ≡ comm.Shut → d.postponed ≡ true → postponed ≡ true

pub comm_moves : (v : DriveView) (since : ℕ) (d : Drive) (place : CommAt) (timer : Option ℕ) (stuck postponed : Bool) (hi lo : ℕ)
    → commutes v.cmp_at ≡ false → DriveTied v → Moves v since d place timer stuck postponed hi lo → DriveTied (moved_view v d place timer stuck postponed hi lo)
comm_moves v since d place timer stuck postponed hi lo none t m = record {
  switches = m.words;
  newest = record { since = λ s. (let a = m.before s in let b = m.since_is in omega arith); to_is = m.to_is; at_low = m.at_low };
  next = rw m.change_is t.next;
  row = record {
    turned = rw m.turned_is t.row.turned;
    forced = rw m.forced_is t.row.forced;
    unforced = t.row.unforced;
    rest_unmarked = t.row.rest_unmarked;
    stuck = m.stuck_is;
    marked = m.marked;
  };
  place = m.place_is;
  low = λ e l c. m.low e l;
  crossed = λ e. absurd (let z : false ≡ true = sym none ∙ e in cc);
  postponed = λ e l p. m.waits e p;
}

-- ---- what holds before each own step of COMM

pub record IsComm (w : World) (outer : List Kind) (place : CommAt) (at : ChangeAt) : Type 0 where
  pub ground : Ground w
  pub ties : Ties w
  pub on : (so_far w).stack ≡ kind.Comm ∷ outer
  pub place_is : w.core.comm_at ≡ place
  pub change_is : w.core.drive.turn.at ≡ at
  pub drives : 0 < demand_at w.back
  pub past : w.made.comm_past ≤ w.bank.time
  pub alone : HoldsAlone kind.Comm w

pub place_tie : (w : World) (outer : List Kind) (place : CommAt) (at : ChangeAt) → IsComm w outer place at → CommTied place (drive_seen w)
place_tie w outer place at i = subst (λ (p : CommAt). CommTied p (drive_seen w)) i.place_is (i.ties kind.Comm).place

pub before_step : (w : World) (outer : List Kind) (place : CommAt) (at : ChangeAt) → IsComm w outer place at → 0 < w.bank.sector
    → (drive_seen w).turned_at + comm_since place at ≤ w.bank.time
before_step w outer place at i some =
    let a : (drive_seen w).turned_at + comm_since w.core.comm_at w.core.drive.turn.at ≤ w.made.comm_past = (i.ties kind.Comm).newest.since some in
    let b : (drive_seen w).turned_at + comm_since place at ≤ w.made.comm_past = rw (← i.place_is, ← i.change_is) a in
    let p = i.past in
    omega arith

-- where a step doesn't begin or end a change of sector
pub same_to : (w : World) (outer : List Kind) (place : CommAt) (at : ChangeAt) → IsComm w outer place at → is_turning place at ≡ false → 0 < w.bank.sector
    → w.core.drive.turn.to ≡ w.bank.sector
same_to w outer place at i e = (i.ties kind.Comm).newest.to_is (rw (i.place_is, i.change_is) e)

pub same_marked : (w : World) (outer : List Kind) (place : CommAt) (at : ChangeAt) → IsComm w outer place at → is_marking place at ≡ false
    → 0 < demand_at w.back
    → is_stuck w.core.drive ≡ true → w.bank.stuck ≡ true
same_marked w outer place at i e l = (i.ties kind.Comm).row.marked l (rw (i.place_is, i.change_is) e)

-- a step that may change the word
pub comm_gates : (w : World) (outer : List Kind) (place : CommAt) (at : ChangeAt) (s : Stepped) → IsComm w outer place at
    → s.core.drive.gates ≡ gates_after w.core.drive.gates w.bank (accessed w.bank s.access)
    → KeepsDeadTime w.bank s.core.drive.gates (accessed w.bank s.access)
    → InPair w.bank.sector (accessed w.bank s.access).hi (accessed w.bank s.access).lo → GatesKeep kind.Comm w s
comm_gates w outer place at s i off_times dead pair = record {
  off_times = off_times;
  fits = λ told moved. record {
    nest = rw (ap innermost i.on) tt;
    dead_time = dead;
    driven = (λ z. absurd (let l = i.drives in omega arith), rw (← (i.ties kind.Comm).switches.sector_is) pair);
  };
  drive = record { low = λ o. absurd (o refl); high = λ o. absurd (o refl); chops = λ is. cc; back = λ is. cc; silent = λ is. cc };
}

-- ---- waiting

wait_at : (v : Bool) (other free : ℕ) (x : Leg) (t until : ℕ) → is_on other x ≡ false → nat_lt t free ≡ v
    → (if false then Some (t + dead_time) else if v then Some free else None) ≡ Some until → t < free
wait_at true other free x t until off e f = grind (arith, nat_tests)
wait_at false other free x t until off e f = absurd (let z : None ≡ Some until = f in cc)

-- a switch whose leg's other one is off waits for its free tick
pub waits_free : (other free : ℕ) (x : Leg) (t until : ℕ) → is_on other x ≡ false → wait_of other free x t ≡ Some until → t < free
waits_free other free x t until off e =
    wait_at (nat_lt t free) other free x t until off refl (rw off at e)
