-- What the fold calls, the notes call.
use Rattle.std.proofs.Common.{◌≡◌, ℕ, Bool, true, false, not, ◌&&◌, ◌||◌, nat_lt, nat_le, List, [], ◌∷◌, ◌++◌, reverse, refl, sym, subst, append_assoc, append-nil, All}
use Rattle.std.specs.List.{fold}
use Rattle.std.proofs.lemmas.List.{reverse-append}
use Rattle.std.proofs.lemmas.List.Elements.{All-head, All-tail}
use Rattle.std.proofs.lemmas.Bool.{and_parts}
use Rattle.esc_base.specs.declared.kind.Kind.{Kind}
use Rattle.esc_base.specs.declared.kind.Kind.TheVariants as kind
use Rattle.esc_base.specs.declared.event.Event.{Event}
use Rattle.esc_base.specs.declared.note.Note.{Note}
use Rattle.esc_base.specs.declared.note.Note.TheVariants as note
use Rattle.esc_base.specs.Numbers.{kind_number}
use Rattle.settings_block.specs.declared.stored.Loaded.{Loaded}
use Rattle.interrupt_machine.specs.declared.nest.Nest.TheVariants.{Full}
use Rattle.esc_laws.specs.Steps.{Turned, is_entry, journal, StepFits}
use Rattle.esc_laws.proofs.Pushes.{journal-push}
use Rattle.esc_base.specs.Legs.{is_on}
use Rattle.commutation.specs.Sectors.{low_of}
use Rattle.gate_driver.specs.DeadSafe.{low_at, high_free_at}
use Rattle.commutation.specs.Commutated.{sector_at}
use Rattle.esc_chopping.specs.View.{View, view, moved_by, told_by, by_kind, has_leave, pwm_called, comm_called}
use Rattle.esc_base.specs.Periods.{edges}
use Rattle.gate_driver.specs.Gated.{at_leg}
use Rattle.esc_laws.specs.Calls.{pwm_entered_at, pwm_asked_at, calls_pwm, calls_low}
use Rattle.esc_chopping.specs.FromSteps.{CallsSeen, SeesDrive}
use Rattle.esc_chopping.proofs.Pushes.{view-push, view-none}
use Rattle.esc_chopping.proofs.OfJournal.{Says, says_all}

pub record Asks (v : View) (back : List Note) : Type 0 where
  pub entered : v.entered ≡ pwm_entered_at back
  pub asked : v.asked ≡ pwm_asked_at back

-- a note that is no I
asks_note : (v : View) (back : List Note) (n : Note) → is_entry n ≡ false → Asks v back → Asks (told_by v n) (n ∷ back)
asks_note v back (note.Enter t k) e a = absurd (cc)
asks_note v back (note.Control t number marks d) e a = record { entered = a.entered; asked = refl }
asks_note v back (note.Gate t hi lo) e a = record { entered = a.entered; asked = a.asked }
asks_note v back (note.Step t s) e a = record { entered = a.entered; asked = a.asked }
asks_note v back n e a = record { entered = a.entered; asked = a.asked }

asks_notes : (v : View) (before notes : List Note) → All (λ n. is_entry n ≡ false) notes → Asks v (reverse before)
    → Asks (fold told_by v notes) (reverse (before ++ notes))
asks_notes v before [] e a = subst (λ (l : List Note). Asks v (reverse l)) (sym (append-nil before)) a
asks_notes v before (n ∷ notes) e a =
    subst (λ (l : List Note). Asks (fold told_by (told_by v n) notes) (reverse l)) (append_assoc before (n ∷ []) notes)
    (asks_notes (told_by v n) (before ++ n ∷ []) notes (All-tail (λ x. is_entry x ≡ false) n notes e)
    (subst (λ (l : List Note). Asks (told_by v n) l) (sym (reverse-append before (n ∷ [])))
    (asks_note v (reverse before) n (All-head (λ x. is_entry x ≡ false) n notes e) a)))

-- what a step that is no entry moves
asks_own : (k : Kind) (l : Bool) (v : View) (t : ℕ) (back : List Note) → Asks v back → Asks (moved_by v (by_kind k false l) t) back
asks_own kind.Comm l v t back a = record { entered = a.entered; asked = a.asked }
asks_own kind.Pwm l v t back a = record { entered = a.entered; asked = a.asked }
asks_own k l v t back a = a

-- an entry
asks_entry : (k : Kind) (l : Bool) (v : View) (t : ℕ) (back : List Note) → Asks v back
    → Asks (moved_by v (by_kind k true l) t) (note.Enter (record { 0 = t }) (kind_number k) ∷ back)
asks_entry kind.Pwm l v t back a = record { entered = refl; asked = refl }
asks_entry kind.Comm l v t back a = record { entered = a.entered; asked = a.asked }
asks_entry k l v t back a = record { entered = a.entered; asked = a.asked }

asks_step : (loaded : Loaded) (cost : ℕ) (trace : List Event) (before : List Turned) (k : Kind) (en : Bool) (t : ℕ) (ns : List Note)
    → StepFits loaded Full cost trace before (record { tick = t; kind = k; enters = en; notes = ns }) → Asks (view before) (reverse (journal loaded before))
    → Asks (fold told_by (moved_by (view before) (by_kind k en (has_leave ns)) t) ns) (reverse (journal loaded before ++ ns))
asks_step loaded cost trace before k true t ns f a =
    subst (λ (l : List Note). Asks (fold told_by (moved_by (view before) (by_kind k true (has_leave ns)) t) l) (reverse (journal loaded before ++ l)))
    (sym (f.entry refl))
    (subst (λ (l : List Note). Asks (moved_by (view before) (by_kind k true (has_leave ns)) t) l)
    (sym (reverse-append (journal loaded before) (note.Enter (record { 0 = t }) (kind_number k) ∷ [])))
    (asks_entry k (has_leave ns) (view before) t (reverse (journal loaded before)) a))
asks_step loaded cost trace before k false t ns f a =
    asks_notes (moved_by (view before) (by_kind k false (has_leave ns)) t) (journal loaded before) ns (f.no_entry refl)
    (asks_own k (has_leave ns) (view before) t (reverse (journal loaded before)) a)

pub asks_next : (loaded : Loaded) (cost : ℕ) (trace : List Event) (before : List Turned) (e : Turned) → StepFits loaded Full cost trace before e
    → Asks (view before) (reverse (journal loaded before)) → Asks (view (before ++ e ∷ [])) (reverse (journal loaded (before ++ e ∷ [])))
asks_next loaded cost trace before e f a =
    let r = asks_step loaded cost trace before e.kind e.enters e.tick e.notes f a in
    subst (λ (l : List Note). Asks (view (before ++ e ∷ [])) (reverse l)) (sym (journal-push loaded before e))
    (subst (λ (w : View). Asks w (reverse (journal loaded before ++ e.notes))) (sym (view-push before e)) (record { entered = r.entered; asked = r.asked }))

pub asks_start : (loaded : Loaded) → Asks (view []) (reverse (journal loaded []))
asks_start loaded = subst (λ (v : View). Asks v (reverse (journal loaded []))) (sym view-none) (record { entered = refl; asked = refl })

same_pwm : (v : View) (back : List Note) (t : ℕ) → Says v back → Asks v back → pwm_called v t ≡ true → calls_pwm back t ≡ true
same_pwm v back t s a q =
    let p : (nat_lt 0 v.demand && (v.asked || nat_lt (edges v.demand v.entered) (edges v.demand t))) ≡ true =
    (and_parts (nat_lt 0 v.demand && (v.asked || nat_lt (edges v.demand v.entered) (edges v.demand t))) (not v.pwm) q).0 in
    subst (λ (x : ℕ). (nat_lt 0 x && (pwm_asked_at back || nat_lt (edges x (pwm_entered_at back)) (edges x t))) ≡ true) s.demand
    (subst (λ (x : Bool). (nat_lt 0 v.demand && (x || nat_lt (edges v.demand (pwm_entered_at back)) (edges v.demand t))) ≡ true) a.asked
    (subst (λ (x : ℕ). (nat_lt 0 v.demand && (v.asked || nat_lt (edges v.demand x) (edges v.demand t))) ≡ true) a.entered p))

same_low : (v : View) (back : List Note) (t : ℕ) → Says v back → comm_called v t ≡ true → calls_low back t ≡ true
same_low v back t s q =
    let p : (nat_lt 0 v.demand && (not (is_on v.lo (low_of v.sector)) && nat_le (at_leg v.hi_free (low_of v.sector)) t)) ≡ true =
    (and_parts (nat_lt 0 v.demand && (not (is_on v.lo (low_of v.sector)) && nat_le (at_leg v.hi_free (low_of v.sector)) t)) (not v.comm) q).0 in
    subst (λ (x : ℕ). (nat_lt 0 x && (not (is_on (low_at back) (low_of (sector_at back))) && nat_le
    (high_free_at (low_of (sector_at back)) back) t)) ≡ true) s.demand
    (subst (λ (x : ℕ). (nat_lt 0 v.demand && (not (is_on x (low_of (sector_at back))) && nat_le (high_free_at (low_of (sector_at back)) back) t)) ≡ true) s.lo
    (subst (λ (x : ℕ). (nat_lt 0 v.demand && (not (is_on v.lo (low_of x)) && nat_le (high_free_at (low_of x) back) t)) ≡ true) s.sector
    (subst (λ (x : ℕ). (nat_lt 0 v.demand && (not (is_on v.lo (low_of v.sector)) && nat_le x t)) ≡ true) (s.hi_free (low_of v.sector)) p)))

-- Where `sees` has the rows of Calls.antt, it sees what the fold calls.
pub seen_of : (loaded : Loaded) (trace : List Event) (log : List Turned) → SeesDrive loaded trace → Asks (view log) (reverse (journal loaded log))
    → CallsSeen loaded trace log
seen_of loaded trace log d a = record {
  pwm = λ t q. d.pwm (journal loaded log) t (same_pwm (view log) (reverse (journal loaded log)) t (says_all loaded log) a q);
  comm = λ t q. d.low (journal loaded log) t (same_low (view log) (reverse (journal loaded log)) t (says_all loaded log) q);
}
