-- The search for a crossing beside a step of TICK.
use Rattle.std.proofs.Common.{◌≡◌, ◌≤◌, ◌<◌, ◌+◌, ℕ, Bool, true, false, not, ◌&&◌, if◌then◌else◌, None, refl, sym, ◌∙◌, subst, arith}
use Rattle.zero_cross.specs.declared.phase.Phase.{Phase}
use Rattle.zero_cross.specs.declared.phase.Phase.TheVariants as phase
use Rattle.commutation.specs.Commutated.{Turn, Idle, Started, Turned, Crossed}
use Rattle.commutation.specs.Pace.{Pace, first_pace}
use Rattle.gate_driver.specs.declared.all_off.AllOff.TheVariants as off
use Rattle.esc_core.specs.declared.state.CmpAt.{CmpAt}
use Rattle.esc_core.specs.declared.state.CmpAt.TheVariants as cmp
use Rattle.esc_core.specs.declared.state.CommAt.TheVariants as comm
use Rattle.esc_core.specs.declared.state.TickAt.{TickAt}
use Rattle.esc_core.specs.declared.state.TickAt.TheVariants as tick
use Rattle.esc_core.specs.Drive.{search_after}
use Rattle.esc_core.specs.Firmware.{cmp_left, cmp_need, tick_need}
use Rattle.esc_laws.specs.Searched.{Away}
use Rattle.esc_rooms.specs.DriveTied.{commutes}
use Rattle.esc_rooms.proofs.cmp.Seldom.{seldom_off}
use Rattle.esc_rooms.proofs.cmp.Watch.{watch_off}
use Rattle.esc_rooms.specs.CrossTied.{CrossView, CrossTied, PhaseTied, RegsTied, LateTied, HasNoQ, future, is_some, begins_search, ends_drive}

-- ---- places outside of the mask

abbrev pub cmp_masks : CmpAt → Bool
cmp_masks cmp.Shut = false
cmp_masks cmp.Raise = false
cmp_masks cmp.Back = false
cmp_masks at = true

pub cmp_unmasked : (at : CmpAt) → 8 < cmp_need at → cmp_masks at ≡ false
cmp_unmasked cmp.Shut l = refl
cmp_unmasked cmp.Raise l = refl
cmp_unmasked cmp.Back l = refl
cmp_unmasked cmp.Look l = absurd (omega arith)
cmp_unmasked cmp.Read l = absurd (omega arith)
cmp_unmasked cmp.Ack l = absurd (omega arith)
cmp_unmasked cmp.Arm l = absurd (omega arith)
cmp_unmasked cmp.Commute l = absurd (omega arith)
cmp_unmasked cmp.Lower l = absurd (omega arith)

pub unmasked_commutes : (at : CmpAt) → cmp_masks at ≡ false → commutes at ≡ false
unmasked_commutes cmp.Shut e = refl
unmasked_commutes cmp.Raise e = refl
unmasked_commutes cmp.Back e = refl
unmasked_commutes at e = cc

pub tick_unmasked : (at : TickAt) → 8 < tick_need at → ends_drive at ≡ false
tick_unmasked tick.Shut l = refl
tick_unmasked tick.Raise l = refl
tick_unmasked tick.Read l = refl
tick_unmasked (tick.Off off.High) l = absurd (omega arith)
tick_unmasked (tick.Off off.Low) l = absurd (omega arith)
tick_unmasked (tick.Off off.Over) l = absurd (omega arith)
tick_unmasked tick.DutyOff l = absurd (omega arith)
tick_unmasked tick.DriveOff l = absurd (omega arith)
tick_unmasked (tick.DutyOn start) l = refl
tick_unmasked tick.Start l = refl
tick_unmasked tick.Lower l = refl
tick_unmasked tick.Back l = refl

pub cmp_shut : (at : CmpAt) → cmp_left at ≡ 0 → at ≡ cmp.Shut
cmp_shut cmp.Shut e = refl
cmp_shut at e = absurd (omega arith)

pub is_false : (v : Bool) → v ≡ false → v ≡ true → ⊥
is_false v e f = let z = sym e ∙ f in cc

-- ---- TICK at another place

pub cross_retimed : (v : CrossView) (place : TickAt) → ends_drive place ≡ ends_drive v.tick_at → CrossTied v → CrossTied (record v { tick_at = place })
cross_retimed v place same t = record {
  pace_is = t.pace_is;
  advance_is = t.advance_is;
  expects_is = t.expects_is;
  level_is = t.level_is;
  open_is = t.open_is;
  phase_is = t.phase_is;
  begins = t.begins;
  ends = λ e. t.ends (sym same ∙ e);
  regs = λ b e. t.regs b (sym same ∙ e);
  below = t.below;
  few = t.few;
  seen = t.seen;
  begun = t.begun;
  late = t.late;
  seldom = t.seldom;
  watch = t.watch;
}

-- a K, by whether its demand is 0, whether the one before was, and whether it starts a drive
abbrev pub cross_asked : CrossView → Bool → Bool → Bool → Bool → Pace → CrossView
cross_asked v zero was some start pace = record v {
  tick_at = if zero then tick.Off off.High else tick.DutyOn start;
  search = search_after zero v.search;
  pace = pace;
  turn = if zero then Idle else if was then Started else v.turn;
  told_pace = if some && was then first_pace else v.told_pace;
  sight = if zero then Away else v.sight;
}

off_phase : (p : Phase) (turn : Turn) (changed : Bool) (since blanked time past : ℕ) → HasNoQ turn → PhaseTied p turn changed since blanked time past
    → p ≡ phase.Off
off_phase phase.Off Idle changed since blanked time past n t = refl
off_phase phase.Off Started changed since blanked time past n t = refl
off_phase (phase.Blank end) Idle changed since blanked time past n t = absurd t.0
off_phase (phase.Blank end) Started changed since blanked time past n t = absurd t.0
off_phase phase.Watch Idle changed since blanked time past n t = absurd t.0
off_phase phase.Watch Started changed since blanked time past n t = absurd t.0
off_phase (phase.Filter end) Idle changed since blanked time past n t = absurd t.0
off_phase (phase.Filter end) Started changed since blanked time past n t = absurd t.0
off_phase phase.Done Idle changed since blanked time past n t = absurd t
off_phase phase.Done Started changed since blanked time past n t = absurd t
off_phase p (Turned q) changed since blanked time past n t = absurd n
off_phase p (Crossed q z) changed since blanked time past n t = absurd n

started_phase : (p : Phase) (changed : Bool) (since blanked time past : ℕ) → p ≡ phase.Off → PhaseTied p Started changed since blanked time past
started_phase phase.Off changed since blanked time past e = tt
started_phase p changed since blanked time past e = cc

few_off : (at : CmpAt) (q n : ℕ) (armed changed expected : Bool) → at ≡ cmp.Shut → q + n ≤ 3 → q + future at phase.Off armed changed expected ≤ 3
few_off cmp.Shut q n armed changed expected e l = omega arith
few_off at q n armed changed expected e l = cc

late_shut : (at : CmpAt) (p : Phase) (postponed : Bool) → at ≡ cmp.Shut → LateTied at p postponed
late_shut cmp.Shut p postponed e = tt
late_shut at p postponed e = cc

-- CMP and COMM are shut; `no_drive`: where there was no demand the drive had ended
pub asked_cross : (zero was some start : Bool) (v : CrossView) (pace : Pace) → v.cmp_at ≡ cmp.Shut → v.comm_at ≡ comm.Shut
    → begins_search v.comm_at v.turn_at ≡ false → ends_drive v.tick_at ≡ false → (was ≡ true → HasNoQ v.turn)
    → some ≡ not zero → pace ≡ (if some && was then first_pace else v.pace) → CrossTied v
    → CrossTied (cross_asked v zero was some start pace)
asked_cross true was some start v pace shut closed no_search goes none e p t =
    subst (λ (s : Bool). CrossTied (cross_asked v true was s start pace)) (sym e) (record {
      pace_is = subst (λ (s : Bool). pace ≡ (if s && was then first_pace else v.pace)) e p ∙ t.pace_is;
      advance_is = t.advance_is;
      expects_is = t.expects_is;
      level_is = t.level_is;
      open_is = t.open_is;
      phase_is = tt;
      begins = λ b. absurd (is_false _ no_search b);
      ends = λ b. record { off = refl; away = refl; shut = shut };
      regs = λ b f. cc;
      below = t.below;
      few = few_off v.cmp_at (v.quiet v.held.since) _ (is_some v.timer) v.changed _ shut t.few;
      seen = tt;
      begun = λ c. refl;
      late = late_shut v.cmp_at phase.Off v.postponed shut;
      seldom = seldom_off v.cmp_at v.search.phase v.time v.entries v.looks shut t.seldom;
      watch = watch_off v.cmp_at v.changed _ v.looking v.looked v.time v.past shut;
    })
asked_cross false true some start v pace shut closed no_search goes none e p t =
    let off : v.search.phase ≡ phase.Off = off_phase v.search.phase v.turn v.changed v.held.since v.blanked v.time v.past (none refl) t.phase_is in
    subst (λ (s : Bool). CrossTied (cross_asked v false true s start pace)) (sym e) (record {
      pace_is = subst (λ (s : Bool). pace ≡ (if s && true then first_pace else v.pace)) e p;
      advance_is = t.advance_is;
      expects_is = t.expects_is;
      level_is = t.level_is;
      open_is = t.open_is;
      phase_is = started_phase v.search.phase v.changed v.held.since v.blanked v.time v.past off;
      begins = t.begins;
      ends = λ b. cc;
      regs = λ b f. t.regs b goes;
      below = t.below;
      few = t.few;
      seen = t.seen;
      begun = t.begun;
      late = t.late;
      seldom = t.seldom;
      watch = t.watch;
    })
asked_cross false false some start v pace shut closed no_search goes none e p t =
    subst (λ (s : Bool). CrossTied (cross_asked v false false s start pace)) (sym e) (record {
      pace_is = subst (λ (s : Bool). pace ≡ (if s && false then first_pace else v.pace)) e p ∙ t.pace_is;
      advance_is = t.advance_is;
      expects_is = t.expects_is;
      level_is = t.level_is;
      open_is = t.open_is;
      phase_is = t.phase_is;
      begins = t.begins;
      ends = λ b. cc;
      regs = λ b f. t.regs b goes;
      below = t.below;
      few = t.few;
      seen = t.seen;
      begun = t.begun;
      late = t.late;
      seldom = t.seldom;
      watch = t.watch;
    })

-- the drive is off
abbrev pub cross_off : CrossView → CrossView
cross_off v = record v { tick_at = tick.Lower; postponed = false; timer = None; enabled = false }

off_regs : (at : CmpAt) (p : Phase) (time : ℕ) → at ≡ cmp.Shut → p ≡ phase.Off → RegsTied at p None false time
off_regs cmp.Shut phase.Off time e f = (refl, refl)
off_regs cmp.Shut p time e f = cc
off_regs at p time e f = cc

few_at_off : (at : CmpAt) (p : Phase) (q n : ℕ) (armed changed expected : Bool) → at ≡ cmp.Shut → p ≡ phase.Off → q + n ≤ 3
    → q + future at p armed changed expected ≤ 3
few_at_off cmp.Shut phase.Off q n armed changed expected e f l = omega arith
few_at_off cmp.Shut p q n armed changed expected e f l = cc
few_at_off at p q n armed changed expected e f l = cc

pub driven_cross : (v : CrossView) → ends_drive v.tick_at ≡ true → CrossTied v → CrossTied (cross_off v)
driven_cross v is t =
    let ends = t.ends is in
    record {
      pace_is = t.pace_is;
      advance_is = t.advance_is;
      expects_is = t.expects_is;
      level_is = t.level_is;
      open_is = t.open_is;
      phase_is = t.phase_is;
      begins = t.begins;
      ends = λ e. cc;
      regs = λ b e. off_regs v.cmp_at v.search.phase v.time ends.shut ends.off;
      below = t.below;
      few = few_at_off v.cmp_at v.search.phase (v.quiet v.held.since) _ false v.changed _ ends.shut ends.off t.few;
      seen = t.seen;
      begun = t.begun;
      late = late_shut v.cmp_at v.search.phase false ends.shut;
      seldom = t.seldom;
      watch = t.watch;
    }
