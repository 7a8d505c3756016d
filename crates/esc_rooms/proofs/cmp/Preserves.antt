-- A step of CMP on the way to its return, without a note, that leaves the commutation timer.
use Rattle.std.proofs.Common.{◌≡◌, ◌≢◌, ◌<◌, ◌∙◌, ℕ, Bool, true, false, List, ◌∷◌, Option, inl, inr, refl, sym, ap, subst}
use Rattle.esc_base.specs.declared.kind.Kind.{Kind}
use Rattle.esc_base.specs.declared.kind.Kind.TheVariants as kind
use Rattle.timer_regs.specs.Bank.{Bank}
use Rattle.interrupt_machine.specs.Did.{Access, accessed}
use Rattle.zero_cross.specs.declared.phase.Phase.{Phase}
use Rattle.zero_cross.specs.Kept.{Kept}
use Rattle.esc_core.specs.declared.state.CmpAt.{CmpAt}
use Rattle.esc_core.specs.declared.state.CommAt.{CommAt}
use Rattle.esc_core.specs.declared.state.CommAt.TheVariants as comm
use Rattle.esc_core.specs.Brain.{Brain}
use Rattle.esc_core.specs.Stepped.{goes_on}
use Rattle.esc_core.specs.Firmware.{tick_need}
use Rattle.esc_laws.specs.Looks.{Made, made_next}
use Rattle.esc_rooms.specs.DriveTied.{DriveView, DriveTied, CommTied, TimerKept, commutes}
use Rattle.esc_rooms.specs.CrossTied.{is_shut}
use Rattle.esc_rooms.specs.World.{World, so_far}
use Rattle.esc_rooms.specs.Rooms.{Ground, Tie, Ties, Past, StepKeeps, drive_seen, cross_seen}
use Rattle.esc_laws.proofs.Comparator.{since_past}
use Rattle.esc_rooms.proofs.shared.RoomSteps.{quiet_gates}
use Rattle.esc_rooms.proofs.shared.DriveFacts.{low_kept}
use Rattle.esc_rooms.proofs.cmp.CrossFacts.{tick_unmasked}
use Rattle.esc_rooms.proofs.cmp.Facts.{Stands, Free, Goes, stands, moves_by_phase, cmp_moves}

-- ---- what holds before each own step of CMP

pub free_at : (w : World) → w.core.comm_at ≡ comm.Shut → 8 < tick_need w.core.tick_at → Past w.made w.bank.time → Free (cross_seen w)
free_at w closed unmasked past = record {
  closed = closed;
  no_search = rw closed refl;
  goes = tick_unmasked w.core.tick_at unmasked;
  past = past.cmp;
  since = since_past w.trace w.bank.time;
}

pub record IsCmp (w : World) (outer : List Kind) (place : CmpAt) : Type 0 where
  pub ground : Ground w
  pub ties : Ties w
  pub on : (so_far w).stack ≡ kind.Cmp ∷ outer
  pub place_is : w.core.cmp_at ≡ place
  pub comm_is : w.core.comm_at ≡ comm.Shut
  pub unmasked : 8 < tick_need w.core.tick_at
  pub past : Past w.made w.bank.time

pub free_of : (w : World) (outer : List Kind) (place : CmpAt) → IsCmp w outer place → Free (cross_seen w)
free_of w outer place i = free_at w i.comm_is i.unmasked i.past

pub stands_at : (w : World) (outer : List Kind) (place : CmpAt) (p : Phase) → IsCmp w outer place → w.core.drive.crossing.phase ≡ p
    → Stands (cross_seen w) place p
stands_at w outer place p i e = stands (cross_seen w) place p i.place_is e (free_of w outer place i) (i.ties kind.Cmp)

-- ---- the drive beside a step that doesn't commute

abbrev pub searched_view : DriveView → CmpAt → Kept → DriveView
searched_view v at search = record v { cmp_at = at; drive = record v.drive { crossing = search } }

pub searched_drive : (v : DriveView) (at : CmpAt) (search : Kept) → v.comm_at ≡ comm.Shut → commutes v.cmp_at ≡ false → commutes at ≡ false → DriveTied v
    → DriveTied (searched_view v at search)
searched_drive v at search shut was is t = record {
  switches = t.switches;
  newest = t.newest;
  next = t.next;
  row = t.row;
  place = subst (λ (x : CommAt). CommTied x (searched_view v at search)) (sym shut) tt;
  low = λ e d s. low_kept v.tick_at v (searched_view v at search) timer (λ c. record { started = c.started; due = c.due }) (t.low e d was);
  crossed = λ e. absurd (let z : false ≡ true = sym is ∙ e in cc);
  postponed = t.postponed;
}
  where
    timer : TimerKept v → TimerKept (searched_view v at search)
    timer (inl e) = inl e
    timer (inr (n, e, l, c)) = inr (n, e, l, record { started = c.started; due = c.due })

-- a step without a note, that leaves the commutation timer
pub quiet_drive : (w : World) (outer : List Kind) (place at : CmpAt) (search : Kept) → commutes place ≡ false → commutes at ≡ false → IsCmp w outer place
    → DriveTied (searched_view (drive_seen w) at search)
quiet_drive w outer place at search was is i =
    searched_drive (drive_seen w) at search i.comm_is (subst (λ (x : CmpAt). commutes x ≡ false) (sym i.place_is) was) is (i.ties kind.Comm)

pub not_shut : (w : World) (outer : List Kind) (place : CmpAt) → is_shut place ≡ false → IsCmp w outer place → is_shut w.core.cmp_at ≡ false
not_shut w outer place e i = subst (λ (x : CmpAt). is_shut x ≡ false) (sym i.place_is) e

-- ---- the step

-- the registers that it may write
abbrev pub by_access : World → Access → Bool → Bool → Option ℕ → Bank
by_access w access changed enabled timer = record w.bank {
  accesses = (accessed w.bank access).accesses;
  masked = (accessed w.bank access).masked;
  comp_changed = changed;
  comp_enabled = enabled;
  crossing = timer;
}

-- the core after it
abbrev pub core_by : World → CmpAt → Kept → ℕ → Brain
core_by w next search hold = record w.core { hold = hold; cmp_at = next; drive = record w.core.drive { crossing = search } }

-- the phase p is the one that it leaves
pub cmp_step_preserves : (w : World) (outer : List Kind) (place next : CmpAt) (p : Phase) (search : Kept) (hold : ℕ) (changed enabled : Bool)
    (timer : Option ℕ) (access : Access)
    → IsCmp w outer place → accessed w.bank access ≡ by_access w access changed enabled timer → is_shut place ≡ false
    → commutes place ≡ false → commutes next ≡ false → search.phase ≡ p → search.expects ≡ w.core.drive.crossing.expects
    → Goes (cross_seen w) next p changed enabled timer
    → StepKeeps kind.Cmp outer w (goes_on (core_by w next search hold) access)
cmp_step_preserves w outer place next p search hold changed enabled timer access i writes open_at was is e f s =
    let c : Brain = core_by w next search hold in
    let b : Bank = by_access w access changed enabled timer in
    let m : Made = made_next kind.Cmp false w.bank.time w.made in
    record {
      gates = quiet_gates kind.Cmp w _ (λ e. cc) refl (ap (λ (x : Bank). x.hi) writes) (ap (λ (x : Bank). x.lo) writes);
      fits = λ told. tt;
      ground = subst (λ (x : Bank). Ground (record w { core = c; bank = x; made = m })) (sym writes) i.ground;
      tie = λ told. subst (λ (x : Bank). Tie kind.Cmp (record w { core = c; bank = x; made = m })) (sym writes)
          (cmp_moves (cross_seen w) next search changed enabled timer (not_shut w outer place open_at i) (free_of w outer place i) (i.ties kind.Cmp)
          (moves_by_phase (cross_seen w) next p search changed enabled timer e f s));
      others = λ j ne u. subst (λ (x : Bank). Tie j (record w { core = c; bank = x; made = m })) (sym writes) (beside j ne u);
      stack_is = i.on;
    }
  where
    beside : (j : Kind) → j ≢ kind.Cmp → Tie j w
        → Tie j (record w {
          core = core_by w next search hold;
          bank = by_access w access changed enabled timer;
          made = made_next kind.Cmp false w.bank.time w.made;
        })
    beside kind.Cmp ne u = absurd (ne refl)
    beside kind.Comm ne u = quiet_drive w outer place next search was is i
    beside j ne u = u

-- and that leaves the search and its registers
pub cmp_wait_preserves : (w : World) (outer : List Kind) (place next : CmpAt) (p : Phase) (hold : ℕ) (access : Access)
    → IsCmp w outer place → accessed w.bank access ≡ by_access w access w.bank.comp_changed w.bank.comp_enabled w.bank.crossing → is_shut place ≡ false
    → commutes place ≡ false → commutes next ≡ false → w.core.drive.crossing.phase ≡ p
    → Goes (cross_seen w) next p w.bank.comp_changed w.bank.comp_enabled w.bank.crossing
    → StepKeeps kind.Cmp outer w (goes_on (record w.core { hold = hold; cmp_at = next }) access)
cmp_wait_preserves w outer place next p hold access i writes open_at was is e s =
    cmp_step_preserves w outer place next p w.core.drive.crossing hold w.bank.comp_changed w.bank.comp_enabled w.bank.crossing access i writes open_at was is e
    refl s
