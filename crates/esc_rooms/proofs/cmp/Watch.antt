-- The watch for later changes of the comparator: each thing that CMP, COMM, events and time do keeps the tie, and what the notes call
-- for is due.
use Rattle.std.proofs.Common.{◌≡◌, ◌≤◌, ◌<◌, ◌+◌, ◌⊎◌, inl, inr, ℕ, Bool, true, false, not, ◌&&◌, ◌||◌, ◌==◌, nat_le, if◌then◌else◌, Option, Some, None, refl, sym, ◌∙◌, subst, arith}
use Rattle.std.proofs.lemmas.Bool.{and_parts, leb-true, le-leb}
use Rattle.esc_base.specs.Numbers.{as_tick}
use Rattle.esc_base.specs.Times.{is_reached, rejected_blanking}
use Rattle.zero_cross.specs.declared.phase.Phase.{Phase}
use Rattle.zero_cross.specs.declared.phase.Phase.TheVariants as phase
use Rattle.commutation.specs.Commutated.{Turn, Idle, Started, Turned, Crossed}
use Rattle.esc_core.specs.declared.state.CmpAt.{CmpAt}
use Rattle.esc_core.specs.declared.state.CmpAt.TheVariants as cmp
use Rattle.esc_laws.specs.Searched.{is_over, awaits_crossing}
use Rattle.esc_rooms.specs.CrossTied.{Armed, PhaseTied, HasNoQ, HasQ, HasZ, is_shut}
use Rattle.esc_rooms.specs.WatchTied.{Hears, IsLate, WatchAt, WatchTied}

-- ---- CMP's steps

open_not : (at : CmpAt) → is_shut at ≡ false → at ≡ cmp.Shut → ⊥
open_not at o e = let z : true ≡ false = subst (λ (a : CmpAt). is_shut a ≡ false) e o in cc

-- CMP was open and stays so
pub watch_moves : (at at' : CmpAt) (p p' : Phase) (changed changed' expected expected' looking : Bool) (looked : Option ℕ) (time past past' : ℕ)
    → is_shut at ≡ false → (WatchAt at p changed expected looking looked time past → WatchAt at' p' changed' expected' looking looked time past')
    → WatchTied at p changed expected looking looked time past → WatchTied at' p' changed' expected' looking looked time past'
watch_moves at at' p p' changed changed' expected expected' looking looked time past past' was moves t =
    record { heard = moves t.heard; none = λ o l. t.none (open_not at was) l }

pub hears_more : (p : Phase) (changed expected : Bool) (o o' : ℕ) → o ≤ o' → Hears p changed expected o → Hears p changed expected o'
hears_more phase.Off changed expected o o' l h = tt
hears_more (phase.Blank end) changed expected o o' l h = (let e : end.0 ≤ o + rejected_blanking = h in omega arith)
hears_more phase.Watch changed expected o o' l h = h
hears_more (phase.Filter end) changed expected o o' l h = (let e : end.0 ≤ o + rejected_blanking = h in omega arith)
hears_more phase.Done changed expected o o' l h = tt

-- it returns
pub watch_returned : (p : Phase) (changed expected looking : Bool) (looked : Option ℕ) (time past past' : ℕ) → past ≤ time
    → WatchTied cmp.Back p changed expected looking looked time past
    → WatchTied cmp.Shut p changed expected false (if looking then Some time else looked) time past'
watch_returned p changed expected true looked time past past' l t =
    record { heard = λ o e. (let s : time ≡ o = cc in hears_more p changed expected past o (rw (← s) l) (t.heard refl)); none = λ o. absurd (o refl) }
watch_returned p changed expected false looked time past past' l t =
    record { heard = λ o e. (let z : None ≡ Some o = sym (t.none (λ s. cc) refl) ∙ e in cc); none = λ o. absurd (o refl) }

-- ---- time, and a change of the comparator

late_later : (p : Phase) (t u : ℕ) → t ≤ u → IsLate p t → IsLate p u
late_later phase.Off t u l h = tt
late_later (phase.Blank end) t u l h = (let e : end.0 ≤ t = h in omega arith)
late_later phase.Watch t u l h = tt
late_later (phase.Filter end) t u l h = tt
late_later phase.Done t u l h = tt

pub watch_later : (at : CmpAt) (p : Phase) (changed expected looking : Bool) (looked : Option ℕ) (t u past : ℕ) → t ≤ u
    → WatchTied at p changed expected looking looked t past → WatchTied at p changed expected looking looked u past
watch_later at p changed expected looking looked t u past l w = record { heard = by_place at w.heard; none = w.none }
  where
    by_place : (at : CmpAt) → WatchAt at p changed expected looking looked t past → WatchAt at p changed expected looking looked u past
    by_place cmp.Raise h = λ e. late_later p t u l (h e)
    by_place cmp.Look h = λ e. late_later p t u l (h e)
    by_place cmp.Shut h = h
    by_place cmp.Read h = h
    by_place cmp.Ack h = h
    by_place cmp.Commute h = h
    by_place cmp.Arm h = h
    by_place cmp.Lower h = h
    by_place cmp.Back h = h

hears_change : (p : Phase) (changed expected expected' : Bool) (o : ℕ) → Hears p changed expected o → Hears p true expected' o
hears_change phase.Off changed expected expected' o h = tt
hears_change (phase.Blank end) changed expected expected' o h = h
hears_change phase.Watch changed expected expected' o h = λ e. refl
hears_change (phase.Filter end) changed expected expected' o h = h
hears_change phase.Done changed expected expected' o h = tt

pub watch_changes : (at : CmpAt) (p : Phase) (changed expected expected' looking : Bool) (looked : Option ℕ) (time past : ℕ)
    → WatchTied at p changed expected looking looked time past → WatchTied at p true expected' looking looked time past
watch_changes at p changed expected expected' looking looked time past w = record { heard = by_place at w.heard; none = w.none }
  where
    by_place : (at : CmpAt) → WatchAt at p changed expected looking looked time past → WatchAt at p true expected' looking looked time past
    by_place cmp.Shut h = λ o e. hears_change p changed expected expected' o (h o e)
    by_place cmp.Arm h = λ e. hears_change p changed expected expected' past (h e)
    by_place cmp.Lower h = λ e. hears_change p changed expected expected' past (h e)
    by_place cmp.Back h = λ e. hears_change p changed expected expected' past (h e)
    by_place cmp.Raise h = h
    by_place cmp.Look h = h
    by_place cmp.Read h = h
    by_place cmp.Ack h = h
    by_place cmp.Commute h = h

-- ---- the drive ends, while CMP is shut

pub watch_off : (at : CmpAt) (changed expected looking : Bool) (looked : Option ℕ) (time past : ℕ) → at ≡ cmp.Shut
    → WatchTied at phase.Off changed expected looking looked time past
watch_off cmp.Shut changed expected looking looked time past e = record { heard = λ o l. tt; none = λ o. absurd (o refl) }
watch_off at changed expected looking looked time past e = cc

-- ---- what the notes call for is due

due_at_end : (end o time : ℕ) (timer : Option ℕ) (w : Bool) → timer ≡ Some end → end ≤ o + rejected_blanking → o + rejected_blanking ≤ time
    → (is_reached timer time || w) ≡ true
due_at_end end o time timer w e l m = rw (e, le-leb end time (omega arith)) refl

-- the sector has no Z
has_q : (turn : Turn) → awaits_crossing turn ≡ true → HasQ turn
has_q (Turned q) e = tt
has_q Idle e = cc
has_q Started e = cc
has_q (Crossed q z) e = cc

not_z : (turn : Turn) → HasQ turn → HasZ turn → ⊥
not_z (Turned q) h z = z
not_z Idle h z = h
not_z Started h z = h
not_z (Crossed q y) h z = h

not_none : (turn : Turn) → HasQ turn → HasNoQ turn → ⊥
not_none (Turned q) h n = n
not_none Idle h n = h
not_none Started h n = h
not_none (Crossed q y) h n = h

or_up : (timer : Option ℕ) (time : ℕ) (enabled changed : Bool) → enabled ≡ true → changed ≡ true → (is_reached timer time || (enabled && changed)) ≡ true
or_up timer time enabled changed e c = rw (e, c) (by_test (is_reached timer time))
  where
    by_test : (v : Bool) → (v || true) ≡ true
    by_test true = refl
    by_test false = refl

due_heard : (p : Phase) (turn : Turn) (changed expected : Bool) (since blanked o time past : ℕ) (timer : Option ℕ) (enabled : Bool) → HasQ turn
    → PhaseTied p turn changed since blanked time past → Armed p timer enabled → Hears p changed expected o → o + rejected_blanking ≤ time → expected ≡ true
    → (is_reached timer time || (enabled && changed)) ≡ true
due_heard phase.Off turn changed expected since blanked o time past timer enabled q t a h l e = absurd (not_none turn q t)
due_heard (phase.Blank end) turn changed expected since blanked o time past timer enabled q t a h l e =
    due_at_end end.0 o time timer (enabled && changed) a.0 h l
due_heard phase.Watch turn changed expected since blanked o time past timer enabled q t a h l e = or_up timer time enabled changed a (h e)
due_heard (phase.Filter end) turn changed expected since blanked o time past timer enabled q t a h l e =
    due_at_end end.0 o time timer (enabled && changed) a.0 h l
due_heard phase.Done turn changed expected since blanked o time past timer enabled q t a h l e = absurd (not_z turn q t)

pub watch_due : (p : Phase) (turn : Turn) (changed expected looking : Bool) (looked : Option ℕ) (since blanked time past : ℕ) (timer : Option ℕ)
    (enabled : Bool) → PhaseTied p turn changed since blanked time past → Armed p timer enabled
    → WatchTied cmp.Shut p changed expected looking looked time past
    → (awaits_crossing turn && (is_over looked time && expected)) ≡ true → (is_reached timer time || (enabled && changed)) ≡ true
watch_due p turn changed expected looking looked since blanked time past timer enabled t a w e =
    let one = and_parts (awaits_crossing turn) (is_over looked time && expected) e in
    let two = and_parts (is_over looked time) expected one.1 in
    by_looked looked refl two.0 (has_q turn one.0) two.1
  where
    by_looked : (l : Option ℕ) → looked ≡ l → is_over l time ≡ true → HasQ turn → expected ≡ true → (is_reached timer time || (enabled && changed)) ≡ true
    by_looked None s o q x = cc
    by_looked (Some at) s o q x =
        due_heard p turn changed expected since blanked at time past timer enabled q t a (w.heard at s) (leb-true (at + rejected_blanking) time o) x
