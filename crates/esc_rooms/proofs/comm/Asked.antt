-- What COMM is entered for: a change of sector, or a low switch that was left off.
use Rattle.std.proofs.Common.{◌≡◌, ◌≤◌, ◌<◌, ◌+◌, ◌⊎◌, inl, inr, ℕ, zero, suc, min, Bool, true, false, if◌then◌else◌, Option, None, refl, sym, ◌∙◌, subst, arith}
use Rattle.std.proofs.lemmas.Bool.{cases_lt, lt-ltb, or_left, or_right, leb-true, le-leb}
use Rattle.esc_base.specs.declared.kind.Kind.TheVariants as kind
use Rattle.esc_base.specs.Legs.{is_on}
use Rattle.esc_base.specs.Times.{is_reached}
use Rattle.arming.specs.ControlAt.{demand_at}
use Rattle.commutation.specs.Sectors.{low_of}
use Rattle.commutation.specs.Commutated.{Turn, Idle, Started, Turned, Crossed, sector_at, turn_at}
use Rattle.gate_driver.specs.DeadSafe.{high_free_at}
use Rattle.esc_core.specs.declared.state.CommAt.TheVariants as comm
use Rattle.esc_core.specs.Drive.{low_free, due_at}
use Rattle.esc_laws.specs.Saves.{advance_of}
use Rattle.esc_laws.specs.Calls.{calls_turn, calls_low, calls_comm, turn_is_due, low_is_on}
use Rattle.esc_rooms.specs.DriveTied.{DriveView, DriveTied, TimerKept, ChangeTied, low_on}
use Rattle.esc_rooms.specs.World.{World}
use Rattle.esc_rooms.specs.Rooms.{Ties, Unheld, drive_seen}
use Rattle.esc_rooms.proofs.shared.DriveFacts.{comm_shut, rest_still, timer_kept}
use Rattle.esc_rooms.proofs.cmp.CrossFacts.{cmp_unmasked, unmasked_commutes}
use Rattle.esc_rooms.proofs.shared.Law.{AtEntry}

pub entry_drives : (w : World) → Ties w → Unheld w → is_reached w.bank.comm w.bank.time ≡ true → 0 < demand_at w.back
entry_drives w t unheld due = elim (cases_lt 0 (demand_at w.back)) [
  | inl l ↦ l
  | inr z ↦ absurd (
      let still = rest_still w.core.tick_at w.bank.hi w.bank.lo w.bank.flag w.bank.comm w.core.drive.postponed w.bank.stuck (unheld kind.Tick)
      ((t kind.Tick).4 (omega arith)).rest in
      let r : is_reached None w.bank.time ≡ true = subst (λ (x : Option ℕ). is_reached x w.bank.time ≡ true) still.disarmed due in
      cc)
]

-- what brought it: the change, or the postponed switch
due_split : (late : Bool) (change free time : ℕ) → (if late then min change free else change) ≤ time → (change ≤ time) ⊎ ((late ≡ true) × (free ≤ time))
due_split false change free time l = inl l
due_split true change free time l = elim (cases_lt time change) [ inr a ↦ inl a | inl a ↦ inr (refl, omega arith) ]

pub brought : (v : DriveView) → TimerKept v → is_reached v.timer v.time ≡ true
    → (v.drive.change ≤ v.time) ⊎ ((v.drive.postponed ≡ true) × (low_free v.drive ≤ v.time))
brought v (inl (e, o)) due =
    due_split v.drive.postponed v.drive.change (low_free v.drive) v.time
    (leb-true (due_at v.drive) v.time (subst (λ (x : Option ℕ). is_reached x v.time ≡ true) e due))
brought v (inr (at, e, now, c)) due = inl c.due

-- so the notes call for it: for the change, or for the low switch, which is off
calls_change : (wait : ℕ) (turn : Turn) (change time : ℕ) → ChangeTied wait turn change time → change ≤ time → turn_is_due wait turn time ≡ true
calls_change wait Idle change time c l = absurd c
calls_change wait Started change time c l = refl
calls_change wait (Turned q) change time c l = le-leb (q + 240000) time (let s : change ≡ q + 240000 = c in omega arith)
calls_change wait (Crossed q z) change time c l = le-leb (z + wait) time (let s : change ≡ z + wait = c in omega arith)

late_off : (v : DriveView) → TimerKept v → v.drive.postponed ≡ true → (low_on v ≡ false) ⊎ (v.drive.change ≤ v.time)
late_off v (inl (e, inl o)) late = (let z : true ≡ false = sym late ∙ o.1 in cc)
late_off v (inl (e, inr h)) late = inl h.1
late_off v (inr (at, e, now, c)) late = inr c.due

pub comm_asked : (w : World) → AtEntry kind.Comm w → calls_comm (advance_of w.loaded.settings) w.back w.bank.time ≡ true
comm_asked w i = elim (brought (drive_seen w) kept i.due) [
  | inl change ↦ turn change
  | inr late ↦ by_sector w.bank.sector refl late.0 late.1
]
  where
    d : DriveTied (drive_seen w)
    d = i.rest.ties kind.Comm

    shut : w.core.comm_at ≡ comm.Shut
    shut = comm_shut w.core.comm_at w.core.drive.turn.at i.shut

    some : 0 < demand_at w.back
    some = entry_drives w i.rest.ties i.unheld i.due

    kept : TimerKept (drive_seen w)
    kept = timer_kept w.core.tick_at (drive_seen w) (i.unheld kind.Tick)
        (d.low shut some (unmasked_commutes w.core.cmp_at (cmp_unmasked w.core.cmp_at (i.unheld kind.Cmp))))

    turn : w.core.drive.change ≤ w.bank.time → calls_comm (advance_of w.loaded.settings) w.back w.bank.time ≡ true
    turn l = or_left (calls_turn (advance_of w.loaded.settings) w.back w.bank.time) (calls_low w.back w.bank.time)
        (calls_change (drive_seen w).wait (turn_at w.back) w.core.drive.change w.bank.time (d.next.due some) l)

    low : low_on (drive_seen w) ≡ false → high_free_at (low_of (sector_at w.back)) w.back ≤ w.bank.time
        → calls_comm (advance_of w.loaded.settings) w.back w.bank.time ≡ true
    low off free =
        let told : low_is_on w.back ≡ false =
        subst (λ (lo : ℕ). is_on lo (low_of (sector_at w.back)) ≡ false) (sym i.told.lo_is)
        (subst (λ (x : ℕ). is_on w.bank.lo (low_of x) ≡ false) d.switches.sector_is off) in
        or_right (calls_turn (advance_of w.loaded.settings) w.back w.bank.time) (calls_low w.back w.bank.time)
        (rw (lt-ltb 0 (demand_at w.back) some, told, le-leb (high_free_at (low_of (sector_at w.back)) w.back) w.bank.time free) refl)

    by_sector : (s : ℕ) → w.bank.sector ≡ s → w.core.drive.postponed ≡ true → low_free w.core.drive ≤ w.bank.time
        → calls_comm (advance_of w.loaded.settings) w.back w.bank.time ≡ true
    by_sector zero z late free = turn (d.next.first z some)
    by_sector (suc n) z late free =
        let to : w.core.drive.turn.to ≡ w.bank.sector = d.newest.to_is (rw shut refl) (omega arith) in
        elim (late_off (drive_seen w) kept late) [
          | inl off ↦ low off (rw (i.told.hi_free (low_of (sector_at w.back)), ← d.switches.sector_is, ← to) free)
          | inr change ↦ turn change
        ]
