-- What the ties of PWM and COMM become at a step of TICK.
use Rattle.std.proofs.Common.{◌≡◌, ◌≤◌, ◌<◌, ◌⊎◌, inl, inr, ℕ, Bool, true, false, not, ◌&&◌, ◌==◌, nat_lt, if◌then◌else◌, Some, None, refl, sym, ◌∙◌, subst, arith}
use Rattle.std.proofs.lemmas.Bool.Decides.{nat_tests}
use Rattle.esc_base.specs.declared.gate.Leg.{Leg}
use Rattle.esc_base.specs.Legs.{is_on}
use Rattle.commutation.specs.Commutated.{Idle, Started}
use Rattle.gate_driver.specs.declared.all_off.AllOff.TheVariants as off
use Rattle.gate_driver.specs.declared.to_sector.ChangeAt.{ChangeAt}
use Rattle.gate_driver.specs.declared.to_sector.ChangeAt.TheVariants as change
use Rattle.gate_driver.specs.Gated.{Legs, offs}
use Rattle.gate_driver.proofs.OffTimes.{offs_same}
use Rattle.esc_core.specs.declared.state.CommAt.{CommAt}
use Rattle.esc_core.specs.declared.state.CommAt.TheVariants as comm
use Rattle.esc_core.specs.declared.state.TickAt.{TickAt}
use Rattle.esc_core.specs.declared.state.TickAt.TheVariants as tick
use Rattle.esc_core.specs.Drive.{search_after}
use Rattle.esc_core.specs.Drive.{drive_after}
use Rattle.esc_rooms.proofs.shared.Facts.{above_zero}
use Rattle.esc_rooms.specs.DriveTied.{DriveView, DriveTied, CommTied, TurnTied, HasActed, OnOrHeld, Resumed, LowTied, commutes, ChangeTied, TimerKept, FlagTied, writes_duty}
use Rattle.std.proofs.lemmas.Bool.{eqb-true}

-- ---- PWM's flag

-- at another place that is about to write DUTY where this one is
pub same_flag : (at at' : TickAt) (flag asked : Bool) (demand entered time : ℕ) → writes_duty at' ≡ writes_duty at
    → FlagTied at flag asked demand entered time → FlagTied at' flag asked demand entered time
same_flag at at' flag asked demand entered time e f =
    record { new = rw e f.new; asks = rw e f.asks; counted = f.counted; only = f.only; past = f.past }

-- with no demand nothing is asked of it
pub none_flag : (at : TickAt) (flag asked : Bool) (demand entered time : ℕ) → writes_duty at ≡ false → demand ≡ 0 → entered ≤ time
    → FlagTied at flag asked demand entered time
none_flag at flag asked demand entered time e z past = record {
  new = λ w. (let x : false ≡ true = sym e ∙ w in cc);
  asks = λ l a. absurd (omega arith);
  counted = λ l a c. absurd (omega arith);
  only = λ l a. absurd (omega arith);
  past = past;
}

-- a K
pub asked_flag : (zero start : Bool) (flag : Bool) (d entered time : ℕ) → (d == 0) ≡ zero → entered ≤ time
    → FlagTied (if zero then tick.Off off.High else tick.DutyOn start) flag (not (d == 0)) d entered time
asked_flag true start flag d entered time e past = none_flag (tick.Off off.High) flag (not (d == 0)) d entered time refl (eqb-true d 0 e) past
asked_flag false start flag d entered time e past =
    let asks : not (d == 0) ≡ true = rw e refl in
    record { new = λ w. asks; asks = λ l a. inl refl; counted = λ l a c. (let z : true ≡ false = sym asks ∙ a in cc); only = λ l a. inl asks; past = past }

-- DUTY is written
pub duty_flag : (at : TickAt) (start : Bool) (flag asked : Bool) (demand entered time : ℕ) → writes_duty at ≡ false
    → FlagTied (tick.DutyOn start) flag asked demand entered time → FlagTied at true asked demand entered time
duty_flag at start flag asked demand entered time e f = record {
  new = λ w. (let x : false ≡ true = sym e ∙ w in cc);
  asks = λ l a. inr refl;
  counted = λ l a c. refl;
  only = λ l a. inl (f.new refl);
  past = f.past;
}

-- ---- the drive: TICK at another place

turn_retimed : (at : ChangeAt) (v : DriveView) (place : TickAt) → TurnTied at v → TurnTied at (record v { tick_at = place })
turn_retimed change.ClearHigh v place x = record { none = x.none; to_is = x.to_is; due = x.due; prompt = x.prompt }
turn_retimed change.ClearLow v place x = (record { none = x.0.none; to_is = x.0.to_is; due = x.0.due; prompt = x.0.prompt }, x.1)
turn_retimed change.SetSector v place x = (record { none = x.0.none; to_is = x.0.to_is; due = x.0.due; prompt = x.0.prompt }, x.1, x.2)
turn_retimed change.Low v place x = x
turn_retimed change.Position v place x = record { one = x.one; some = x.some; low = x.low; prompt = x.prompt }
turn_retimed (change.Duty position) v place x = record { one = x.one; some = x.some; low = x.low; prompt = x.prompt }
turn_retimed change.High v place x = record { one = x.one; some = x.some; low = x.low; prompt = x.prompt }
turn_retimed change.Over v place x = x

acted_retimed : (v : DriveView) (place : TickAt) → HasActed v → HasActed (record v { tick_at = place })
acted_retimed v place x = record { some = x.some; done = done x.done }
  where
    done : ((v.turns_in ≡ 1) × OnOrHeld v) ⊎ Resumed v → ((v.turns_in ≡ 1) × OnOrHeld (record v { tick_at = place })) ⊎ Resumed (record v { tick_at = place })
    done (inl d) = inl d
    done (inr r) = inr (record { none = r.none; not_due = r.not_due; postponed = r.postponed; low = r.low; prompt = r.prompt })

place_retimed : (at : CommAt) (v : DriveView) (place : TickAt) → CommTied at v → CommTied at (record v { tick_at = place })
place_retimed comm.Shut v place x = tt
place_retimed comm.Decide v place x = record { none = x.none; due = x.due; was_due = x.was_due; postponed = x.postponed }
place_retimed comm.Turn v place x = turn_retimed v.drive.turn.at v place x
place_retimed comm.Low v place x = record {
  none = x.none;
  not_due = x.not_due;
  postponed = x.postponed;
  some = x.some;
  free = x.free;
  late = x.late;
}
place_retimed comm.Blank v place x = acted_retimed v place x
place_retimed comm.Period v place x = acted_retimed v place x
place_retimed comm.Arm v place x = acted_retimed v place x
place_retimed comm.Stick v place x = ((acted_retimed v place x.0.0, x.0.1), x.1)
place_retimed comm.Back v place x = (acted_retimed v place x.0, x.1)

pub timer_retimed : (v : DriveView) (place : TickAt) → TimerKept v → TimerKept (record v { tick_at = place })
timer_retimed v place (inl e) = inl e
timer_retimed v place (inr (at, e, l, c)) = inr (at, e, l, record { started = c.started; due = c.due })

pub retimed : (v : DriveView) (place : TickAt) → (v.comm_at ≡ comm.Shut → 0 < v.demand → commutes v.cmp_at ≡ false
    → LowTied place (record v { tick_at = place })) → DriveTied v
    → DriveTied (record v { tick_at = place })
retimed v place low t = record {
  switches = t.switches;
  newest = t.newest;
  next = t.next;
  row = t.row;
  place = place_retimed v.comm_at v place t.place;
  low = low;
  crossed = t.crossed;
  postponed = t.postponed;
}

-- the timer is armed for now
pub timed : (v : DriveView) (place : TickAt) → v.comm_at ≡ comm.Shut → (0 < v.demand → LowTied place (record v { tick_at = place; timer = Some v.time }))
    → DriveTied v → DriveTied (record v { tick_at = place; timer = Some v.time })
timed v place shut low t = record {
  switches = t.switches;
  newest = t.newest;
  next = t.next;
  row = t.row;
  place = subst (λ (x : CommAt). CommTied x (record v { tick_at = place; timer = Some v.time })) (sym shut) tt;
  low = λ e l s. low l;
  crossed = t.crossed;
  postponed = t.postponed;
}

-- the low switches go off, with no demand
abbrev pub low_view : DriveView → ℕ → TickAt → DriveView
low_view v lo place = record v {
  lo = lo;
  tick_at = place;
  drive = record v.drive {
    gates = record { hi_free = offs v.drive.gates.hi_free v.hi v.hi v.time; lo_free = offs v.drive.gates.lo_free v.lo lo v.time };
  };
}

pub with_low : (v : DriveView) (lo : ℕ) (place : TickAt) → v.comm_at ≡ comm.Shut → commutes v.cmp_at ≡ false → v.demand ≡ 0
    → ((x : Leg) → is_on lo x ≡ true → is_on v.lo x ≡ true)
    → DriveTied v → DriveTied (low_view v lo place)
with_low v lo place shut none zero fewer t =
    let f : Legs = v.drive.gates.hi_free in
    let same = offs_same f v.hi v.time in
    record {
      switches = record {
        sector_is = t.switches.sector_is;
        sectors = t.switches.sectors;
        pair = record { high = t.switches.pair.high; low = λ x on. t.switches.pair.low x (fewer x on) };
        held = λ x on. rw same (t.switches.held x (fewer x on));
        soon = rw same t.switches.soon;
        outer = rw same t.switches.outer;
        unused = rw same t.switches.unused;
        past = t.switches.past;
      };
      newest = t.newest;
      next = t.next;
      row = t.row;
      place = subst (λ (x : CommAt). CommTied x (low_view v lo place)) (sym shut) tt;
      low = λ e l s. absurd (omega arith);
      crossed = λ e. absurd (let z : false ≡ true = sym none ∙ e in cc);
      postponed = λ e l. absurd (omega arith);
    }

-- the drive is off
abbrev pub off_view : DriveView → DriveView
off_view v = record v { tick_at = tick.Lower; drive = record v.drive { postponed = false }; timer = None; stuck = false }

pub driven_off : (v : DriveView) → v.comm_at ≡ comm.Shut → v.demand ≡ 0 → DriveTied v → DriveTied (off_view v)
driven_off v shut zero t = record {
  switches = t.switches;
  newest = record { since = t.newest.since; to_is = t.newest.to_is; at_low = λ e. cc };
  next = t.next;
  row = record {
    turned = t.row.turned;
    forced = t.row.forced;
    unforced = t.row.unforced;
    rest_unmarked = t.row.rest_unmarked;
    stuck = λ l. absurd (omega arith);
    marked = λ l. absurd (omega arith);
  };
  place = subst (λ (x : CommAt). CommTied x (off_view v)) (sym shut) tt;
  low = λ e l s. absurd (omega arith);
  crossed = λ e. ((t.crossed e).0, refl);
  postponed = λ e l. absurd (omega arith);
}

-- ---- a K

-- by whether its demand is 0, whether the one before was, and whether it starts a drive
abbrev pub asked_view : DriveView → Bool → Bool → Bool → Bool → ℕ → ℕ → DriveView
asked_view v zero was some start d wait = record v {
  wait = wait;
  tick_at = if zero then tick.Off off.High else tick.DutyOn start;
  drive = record (drive_after start v.time v.drive) { crossing = search_after zero v.drive.crossing };
  demand = d;
  turn = if zero then Idle else if was then Started else v.turn;
  told_forced = if some && was then 0 else v.told_forced;
  told_stuck = not zero && v.told_stuck;
}

some_lt : (n : ℕ) → (n == 0) ≡ false → nat_lt 0 n ≡ true
some_lt n e = grind (arith, nat_tests)

none_lt : (n : ℕ) → (n == 0) ≡ true → nat_lt 0 n ≡ false
none_lt n e = grind (arith, nat_tests)

-- where no drive was on nothing drives
pub record AskedIn (v : DriveView) : Type 0 where
  pub shut : v.comm_at ≡ comm.Shut
  pub kept : 0 < v.demand → TimerKept v
  pub prompt : v.demand ≡ 0 → v.drive.postponed ≡ false
  pub unmarked : v.demand ≡ 0 → v.stuck ≡ false

pub asked_drive : (zero was some start : Bool) (v : DriveView) (d wait : ℕ) → (was ≡ false → wait ≡ v.wait) → (d == 0) ≡ zero → (v.demand == 0) ≡ was
    → nat_lt 0 d ≡ some → start ≡ (some && was)
    → AskedIn v → DriveTied v → DriveTied (asked_view v zero was some start d wait)
asked_drive true was true start v d wait y e f g h i t = absurd (let z : true ≡ false = sym g ∙ none_lt d e in cc)
asked_drive true was false start v d wait y e f g h i t = subst (λ (s : Bool). DriveTied (asked_view v true was false s d wait)) (sym h) (record {
  switches = t.switches;
  newest = t.newest;
  next = record { idle = λ z. refl; due = λ l. absurd (let z = eqb-true d 0 e in omega arith); first = λ s l. absurd (let z = eqb-true d 0 e in omega arith) };
  row = record {
    turned = λ l. absurd (let z = eqb-true d 0 e in omega arith);
    forced = t.row.forced;
    unforced = λ z. absurd z;
    rest_unmarked = λ z. refl;
    stuck = λ l. absurd (let z = eqb-true d 0 e in omega arith);
    marked = λ l. absurd (let z = eqb-true d 0 e in omega arith);
  };
  place = subst (λ (x : CommAt). CommTied x (asked_view v true was false false d wait)) (sym i.shut) tt;
  low = λ s l m. tt;
  crossed = t.crossed;
  postponed = λ s l. absurd (let z = eqb-true d 0 e in omega arith);
})
asked_drive false was false start v d wait y e f g h i t = absurd (let z : false ≡ true = sym g ∙ some_lt d e in cc)
asked_drive false true true start v d wait y e f g h i t = subst (λ (s : Bool). DriveTied (asked_view v false true true s d wait)) (sym h) (record {
  switches = t.switches;
  newest = t.newest;
  next = record { idle = λ z. absurd (let l = above_zero d e in omega arith); due = λ l. omega arith; first = λ s l. omega arith };
  row = record {
    turned = λ l. refl;
    forced = refl;
    unforced = λ z. refl;
    rest_unmarked = λ z. absurd (let l = above_zero d e in omega arith);
    stuck = λ l. rw (t.row.rest_unmarked (eqb-true v.demand 0 f), i.unmarked (eqb-true v.demand 0 f)) refl;
    marked = λ l m s. cc;
  };
  place = subst (λ (x : CommAt). CommTied x (asked_view v false true true true d wait)) (sym i.shut) tt;
  low = λ s l m. inl (refl, record { started = refl; due = omega arith });
  crossed = t.crossed;
  postponed = λ s l p. (let z : false ≡ true = sym (i.prompt (eqb-true v.demand 0 f)) ∙ p in cc);
})
asked_drive false false true start v d wait y e f g h i t = subst (λ (s : Bool). DriveTied (asked_view v false false true s d wait)) (sym h) (record {
  switches = t.switches;
  newest = t.newest;
  next = record {
    idle = λ z. absurd (let l = above_zero d e in omega arith);
    due = λ l. subst (λ (x : ℕ). ChangeTied x v.turn v.drive.change v.time) (sym (y refl)) (t.next.due (above_zero v.demand f));
    first = λ s l. t.next.first s (above_zero v.demand f);
  };
  row = record {
    turned = λ l. t.row.turned (above_zero v.demand f);
    forced = t.row.forced;
    unforced = t.row.unforced;
    rest_unmarked = λ z. absurd (let l = above_zero d e in omega arith);
    stuck = λ l. t.row.stuck (above_zero v.demand f);
    marked = λ l. t.row.marked (above_zero v.demand f);
  };
  place = subst (λ (x : CommAt). CommTied x (asked_view v false false true false d wait)) (sym i.shut) tt;
  low = λ s l m. inr (refl, kept (i.kept (above_zero v.demand f)));
  crossed = t.crossed;
  postponed = λ s l. t.postponed i.shut (above_zero v.demand f);
})
  where
    kept : TimerKept v → TimerKept (asked_view v false false true false d wait)
    kept (inl e) = inl e
    kept (inr (at, e, l, c)) = inr (at, e, l, record { started = c.started; due = c.due })
