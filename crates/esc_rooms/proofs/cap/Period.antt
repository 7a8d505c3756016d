-- The tie of the period register: what it tells a reply, and what becomes of it at a start, at a sector change, where COMM writes
-- the period and where TICK ends the drive.
use Rattle.std.proofs.Common.{◌≡◌, ◌≢◌, ◌<◌, ◌≤◌, ◌-◌, ◌/◌, ◌==◌, ◌⊎◌, inl, inr, ℕ, Bool, true, false, not, ◌&&◌, nat_le, if◌then◌else◌, List, [], ◌∷◌, length, take, slice_index, Some, None, refl, sym, ◌∙◌, ap, arith}
use Rattle.std.proofs.lemmas.Bool.{eq-eqb, ne_eqb, leb-true, le-leb}
use Rattle.std.proofs.lemmas.List.{take-take}
use Rattle.esc_base.specs.Times.{microsecond}
use Rattle.esc_base.specs.declared.note.Note.{Note}
use Rattle.esc_base.specs.declared.note.Note.TheVariants as note
use Rattle.arming.specs.ControlAt.{demand_at}
use Rattle.commutation.specs.Turns.{six_of, period_of}
use Rattle.commutation.specs.Drive.{starts, rests_at, turns_at}
use Rattle.gate_driver.specs.declared.all_off.AllOff.TheVariants as off
use Rattle.esc_core.specs.declared.drive.Drive.{Drive}
use Rattle.esc_core.specs.declared.state.TickAt.{TickAt}
use Rattle.esc_core.specs.declared.state.TickAt.TheVariants as tick
use Rattle.esc_core.specs.Drive.{drive_after}
use Rattle.esc_core.specs.Reply.{period_of as read_period}
use Rattle.esc_laws.specs.Calls.{turned_at}
use Rattle.esc_rooms.specs.CrossTied.{ends_drive}
use Rattle.esc_rooms.specs.PeriodTied.{sums_gaps, Falls, PeriodTied}
use Rattle.esc_rooms.specs.World.{World}
use Rattle.esc_rooms.specs.Rooms.{PeriodTie}

-- ---- what it tells

-- seven sector changes span some time
spans : (told : List ℕ) → 7 ≤ length told → Falls told → slice_index told 6 < slice_index told 0
spans [] l f = absurd (omega arith)
spans (a ∷ []) l f = absurd (omega arith)
spans (a ∷ (b ∷ [])) l f = absurd (omega arith)
spans (a ∷ (b ∷ (c ∷ []))) l f = absurd (omega arith)
spans (a ∷ (b ∷ (c ∷ (d ∷ [])))) l f = absurd (omega arith)
spans (a ∷ (b ∷ (c ∷ (d ∷ (x ∷ []))))) l f = absurd (omega arith)
spans (a ∷ (b ∷ (c ∷ (d ∷ (x ∷ (y ∷ [])))))) l f = absurd (omega arith)
spans (a ∷ (b ∷ (c ∷ (d ∷ (x ∷ (y ∷ (z ∷ told))))))) l f =
    let p = f.0 in let q = f.1.0 in let r = f.1.1.0 in let s = f.1.1.1.0 in let t = f.1.1.1.1.0 in let u = f.1.1.1.1.1.0 in
    omega arith

period_by : (many : Bool) (first last : ℕ) → (many ≡ true → last < first)
    → read_period (if many then first - last else 0) ≡ (if many then Some ((if many then first - last else 0) / microsecond) else None)
period_by true first last l = some (first - last) (let lt = l refl in omega arith)
  where
    some : (sum : ℕ) → sum ≢ 0 → (if sum == 0 then None else Some (sum / microsecond)) ≡ Some (sum / microsecond)
    some sum ne = rw (ne_eqb sum 0 ne) refl
period_by false first last l = refl

-- where COMM has written it and TICK doesn't end the drive, it is the period by the notes
pub sum_tells : (sum : ℕ) (told : List ℕ) (rests : Bool) → Falls told → sum ≡ (if rests then 0 else six_of told)
    → read_period sum ≡ (if rests then None else period_of told)
sum_tells sum told true f e = rw e refl
sum_tells sum told false f e =
    ap read_period e ∙ period_by (nat_le 7 (length told)) (slice_index told 0) (slice_index told 6)
    (λ many. spans told (leb-true 7 (length told) many) f)

-- ---- what becomes of it

-- six gaps lie between the newest seven sector changes
pub six_kept : (told : List ℕ) → six_of (take 7 told) ≡ six_of told
six_kept [] = refl
six_kept (a ∷ []) = refl
six_kept (a ∷ (b ∷ [])) = refl
six_kept (a ∷ (b ∷ (c ∷ []))) = refl
six_kept (a ∷ (b ∷ (c ∷ (d ∷ [])))) = refl
six_kept (a ∷ (b ∷ (c ∷ (d ∷ (x ∷ []))))) = refl
six_kept (a ∷ (b ∷ (c ∷ (d ∷ (x ∷ (y ∷ [])))))) = refl
six_kept (a ∷ (b ∷ (c ∷ (d ∷ (x ∷ (y ∷ (z ∷ told))))))) = rw (le-leb 7 (length (a ∷ (b ∷ (c ∷ (d ∷ (x ∷ (y ∷ (z ∷ told)))))))) (omega arith)) refl

-- whether there is no drive, by the demand
pub rests_is : (back : List Note) → (demand_at back == 0) ≡ rests_at back
rests_is [] = refl
rests_is (note.Control t n s d ∷ back) = refl
rests_is (n ∷ back) = rests_is back

pub rests_now : (back : List Note) → demand_at back ≡ 0 → rests_at back ≡ true
rests_now back z = sym (rests_is back) ∙ eq-eqb (demand_at back) 0 z

pub driven_on : (back : List Note) → 0 < demand_at back → rests_at back ≡ false
driven_on back l = sym (rests_is back) ∙ ne_eqb (demand_at back) 0 (λ e. omega arith)

-- the newest of the drive's sector changes is the newest Q
head_same : (p q : ℕ) (xs ys : List ℕ) → p ∷ xs ≡ q ∷ ys → p ≡ q
head_same p q xs ys e = ap (λ (l : List ℕ). slice_index l 0) e

by_start : (v : Bool) (all : List ℕ) (q at : ℕ) (turns : List ℕ) → (all ≡ q ∷ turns → at ≡ q) → (if v then [] else all) ≡ q ∷ turns → at ≡ q
by_start true all q at turns f e = absurd (let z = e in cc)
by_start false all q at turns f e = f e

pub newest_turn : (back : List Note) (q : ℕ) (turns : List ℕ) → turns_at back ≡ q ∷ turns → turned_at back ≡ q
newest_turn [] q turns e = absurd (let z = e in cc)
newest_turn (note.Control t n s d ∷ back) q turns e = by_start (starts d back) (turns_at back) q (turned_at back) turns (newest_turn back q turns) e
newest_turn (note.Step t s ∷ back) q turns e = head_same t.0 q (turns_at back) turns e
newest_turn (n ∷ back) q turns e = newest_turn back q turns e

-- COMM and TICK stand elsewhere
pub period_moved : (kept : List ℕ) (was summing ended ending : Bool) (period sector : ℕ) (told : List ℕ) (rests : Bool) → summing ≡ was → ending ≡ ended
    → PeriodTied kept was ended period sector told rests → PeriodTied kept summing ending period sector told rests
period_moved kept was summing ended ending period sector told rests e f p = rw (e, f) p

pub period_kept : (w : World) (summing : Bool) → summing ≡ sums_gaps w.core.comm_at w.core.drive.turn.at → PeriodTie w
    → PeriodTied w.core.drive.timing.turns summing (ends_drive w.core.tick_at) w.bank.period w.bank.sector (turns_at w.back) (rests_at w.back)
period_kept w summing e p = rw e p

pub period_retimed : (w : World) (place : TickAt) → ends_drive place ≡ ends_drive w.core.tick_at → PeriodTie w
    → PeriodTied w.core.drive.timing.turns (sums_gaps w.core.comm_at w.core.drive.turn.at) (ends_drive place) w.bank.period w.bank.sector (turns_at w.back)
    (rests_at w.back)
period_retimed w place e p = rw e p

-- TICK ends the drive
pub period_off : (kept : List ℕ) (summing ending : Bool) (was sector : ℕ) (told : List ℕ) (rests : Bool) → rests ≡ true
    → PeriodTied kept summing ending was sector told rests → PeriodTied kept summing false 0 sector told rests
period_off kept summing ending was sector told rests e p =
    record { kept_are = p.kept_are; falls = p.falls; some = p.some; period_is = λ s f. rw e refl }

-- COMM writes it
pub period_written : (kept : List ℕ) (was ending : Bool) (period sector : ℕ) (told : List ℕ) (rests : Bool) → rests ≡ false
    → PeriodTied kept was ending period sector told rests → PeriodTied kept false ending (six_of kept) sector told rests
period_written kept was ending period sector told rests e p = record {
  kept_are = p.kept_are;
  falls = p.falls;
  some = p.some;
  period_is = λ s f. rw e (ap six_of p.kept_are ∙ six_kept told);
}

-- a sector change at t
pub period_turned : (kept : List ℕ) (was ending : Bool) (period sector to t : ℕ) (told : List ℕ) (rests : Bool) → 0 < to
    → ((q : ℕ) (turns : List ℕ) → told ≡ q ∷ turns → 0 < sector → q < t)
    → PeriodTied kept was ending period sector told rests → PeriodTied (take 7 (t ∷ kept)) true ending period to (t ∷ told) rests
period_turned kept was ending period sector to t told rests some before p = record {
  kept_are = rw p.kept_are (ap (λ (turns : List ℕ). t ∷ turns) (take-take 6 7 told (omega arith)));
  falls = falls_on told p.falls p.some before;
  some = inr some;
  period_is = λ s f. cc;
}
  where
    falls_on : (told : List ℕ) → Falls told → (told ≡ []) ⊎ (0 < sector) → ((q : ℕ) (turns : List ℕ) → told ≡ q ∷ turns → 0 < sector → q < t)
        → Falls (t ∷ told)
    falls_on [] f some before = tt
    falls_on (q ∷ turns) f (inl none) before = absurd (let z = none in cc)
    falls_on (q ∷ turns) f (inr s) before = (before q turns refl s, f)

-- a K: a start begins anew, and a demand of 0 ends the drive
pub asked_period : (zero rests some start : Bool) (d : Drive) (t : ℕ) (summing : Bool) (period sector : ℕ) (told : List ℕ) → some ≡ not zero
    → start ≡ (some && rests) → PeriodTied d.timing.turns false false period sector told rests
    → PeriodTied (drive_after start t d).timing.turns summing (ends_drive (if zero then tick.Off off.High else tick.DutyOn start)) period sector
    (if some && rests then [] else told) zero
asked_period true rests true start d t summing period sector told e f p = absurd (let z = e in cc)
asked_period true rests false true d t summing period sector told e f p = absurd (let z = f in cc)
asked_period true rests false false d t summing period sector told e f p =
    record { kept_are = p.kept_are; falls = p.falls; some = p.some; period_is = λ s g. cc }
asked_period false rests false start d t summing period sector told e f p = absurd (let z = e in cc)
asked_period false true true true d t summing period sector told e f p =
    record { kept_are = refl; falls = tt; some = inl refl; period_is = λ s g. p.period_is refl refl }
asked_period false true true false d t summing period sector told e f p = absurd (let z = f in cc)
asked_period false false true true d t summing period sector told e f p = absurd (let z = f in cc)
asked_period false false true false d t summing period sector told e f p =
    record { kept_are = p.kept_are; falls = p.falls; some = p.some; period_is = λ s g. p.period_is refl refl }
