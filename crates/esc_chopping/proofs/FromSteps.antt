-- From the rules of steps to the laws that the theorem asks for.
use Rattle.std.proofs.Common.{reverse, ◌≡◌, ◌≢◌, ◌≤◌, ◌+◌, ◌⊎◌, inl, inr, ℕ, Bool, true, false, not, ◌&&◌, ◌==◌, if◌then◌else◌, List, [], ◌∷◌, ◌++◌, Some, refl, sym, ◌∙◌, ap, subst, arith, append_assoc, append-nil, All}
use Rattle.std.proofs.lemmas.Bool.{and_parts}
use Rattle.std.proofs.lemmas.Bool.Decides.{nat_tests}
use Rattle.esc_base.specs.declared.kind.Kind.{Kind}
use Rattle.esc_base.specs.declared.kind.Kind.TheVariants as kind
use Rattle.esc_base.specs.declared.event.Event.{Event}
use Rattle.esc_base.specs.declared.note.Note.{Note}
use Rattle.esc_base.specs.declared.note.Note.TheVariants as note
use Rattle.esc_base.specs.Numbers.{kind_number}
use Rattle.settings_block.specs.declared.stored.Loaded.{Loaded}
use Rattle.interrupt_machine.specs.declared.nest.Nest.TheVariants.{Full}
use Rattle.interrupt_machine.specs.Open.{innermost, outer_ones, is_open, IsStack}
use Rattle.interrupt_machine.specs.Response.{counts}
use Rattle.esc_laws.specs.Place.{Place, place}
use Rattle.esc_laws.specs.Seen.{sees}
use Rattle.esc_laws.specs.Steps.{Turned, is_entry, journal, open_in, own_steps, called, is_called, free, EachStep, Awaits, StepFits}
use Rattle.esc_laws.proofs.Pushes.{place-push, journal-push, own-push, called-push}
use Rattle.esc_chopping.specs.View.{View, view, by_of, by_kind, has_leave, pwm_called, comm_called, is_comm, wait_next as waits_next}
use Rattle.esc_chopping.specs.Log.{BothIdle, NonePassed}
use Rattle.esc_chopping.specs.Laws.{IsTurn, StepMade, DriveFits}
use Rattle.esc_chopping.specs.FromSteps.{OneBack, BridgeFits, CallsSeen, SeesDrive}
use Rattle.esc_chopping.proofs.Calls.{Asks, asks_next, asks_start, seen_of}
use Rattle.esc_base.specs.Range.{InRange}
use Rattle.esc_chopping.specs.Pairs.{PairFits}
use Rattle.esc_chopping.specs.Notes.{NotesFit}
use Rattle.esc_laws.specs.Chopped.{Chopped}
use Rattle.esc_chopping.proofs.Pushes.{view-push, view-none}
use Rattle.esc_chopping.proofs.OfJournal.{times_fit, is_chopped}
use Rattle.esc_chopping.proofs.High.{same_after, waits_after as pwm_waits_after}
use Rattle.std.proofs.lemmas.Bool.{and_from}
use Rattle.interrupt_machine.proofs.OpenKinds.{kind_of-number, innermost_first}
use Rattle.gate_driver.proofs.Bits.{off_is}
use Rattle.esc_chopping.proofs.OpenKinds.{none_above, none_twice, all_below, above_stack, enter_stack, front_entries, leaves_back, own_stack}

-- ---- what the view and the log agree on

record Linked (loaded : Loaded) (trace : List Event) (log : List Turned) : Type 0 where
  sorted : IsStack (open_in loaded log)
  comm : (view log).comm ≡ is_open (open_in loaded log) kind.Comm
  pwm : (view log).pwm ≡ is_open (open_in loaded log) kind.Pwm
  comm_own : (view log).comm_own ≡ own_steps kind.Comm log
  pwm_own : (view log).pwm_own ≡ own_steps kind.Pwm log
  pwm_waits : (view log).pwm_waits ≤ called loaded Full trace log kind.Pwm
  comm_waits : (view log).comm_waits ≤ called loaded Full trace log kind.Comm
  asks : Asks (view log) (reverse (journal loaded log))

-- the open kinds after an entry, and after an own step
record StackOut (stack : List Kind) (k : Kind) (enters back : Bool) (stack' : List Kind) : Type 0 where
  entry : enters ≡ true → stack' ≡ k ∷ stack
  own : enters ≡ false → stack' ≡ (if back then outer_ones stack else stack)

open_out : (loaded : Loaded) (cost : ℕ) (trace : List Event) (before : List Turned) (e : Turned) → StepFits loaded Full cost trace before e → (b : OneBack e)
    → StackOut (open_in loaded before) e.kind e.enters b.back (open_in loaded (before ++ e ∷ []))
open_out loaded cost trace before e f b = record {
  entry = λ q.
      ap (λ (x : List Note). (place x).stack) (journal-push loaded before e ∙ ap (λ (x : List Note). journal loaded before ++ x) (f.entry q))
      ∙ ap (λ (p : Place). p.stack) (place-push (journal loaded before) (note.Enter (record { 0 = e.tick }) (kind_number e.kind)))
      ∙ enter_stack (place (journal loaded before)) e.tick (kind_number e.kind)
      ∙ ap (λ (k : Kind). k ∷ open_in loaded before) (kind_of-number e.kind);
  own = λ q.
      ap (λ (x : List Note). (place x).stack) (journal-push loaded before e ∙ ap (λ (x : List Note). journal loaded before ++ x) b.notes_are)
      ∙ own_stack (journal loaded before) b.front b.back e.tick (kind_number e.kind) (front_entries b.front _ (subst (λ (x : List Note). All
      (λ n. is_entry n ≡ false) x) b.notes_are (f.no_entry q))) b.none;
}

back_is : (e : Turned) (b : OneBack e) → has_leave e.notes ≡ b.back
back_is e b = ap has_leave b.notes_are ∙ leaves_back b.front b.back e.tick (kind_number e.kind) b.none

-- the innermost open kind is on top
-- whether a kind is open after a step
open_self : (stack stack' : List Kind) (k : Kind) (back : Bool) → IsStack stack → innermost stack ≡ Some k
    → stack' ≡ (if back then outer_ones stack else stack) → is_open stack' k ≡ not back
open_self stack stack' k true s top e = ap (λ (x : List Kind). is_open x k) e ∙ none_twice (outer_ones stack) k (subst IsStack (innermost_first stack k top) s)
open_self stack stack' k false s top e = ap (λ (x : List Kind). is_open x k) (e ∙ innermost_first stack k top) ∙ rw (same (kind_number k)) refl
  where
    same : (x : ℕ) → (x == x) ≡ true
    same x = grind (arith, nat_tests)

open_other : (stack stack' : List Kind) (k j : Kind) (back : Bool) → (kind_number k == kind_number j) ≡ false → innermost stack ≡ Some k
    → stack' ≡ (if back then outer_ones stack else stack) → is_open stack' j ≡ is_open stack j
open_other stack stack' k j true ne top e =
    ap (λ (x : List Kind). is_open x j) e ∙ sym (ap (λ (x : List Kind). is_open x j) (innermost_first stack k top) ∙ rw ne refl)
open_other stack stack' k j false ne top e = ap (λ (x : List Kind). is_open x j) e

open_entered : (stack stack' : List Kind) (k j : Kind) → (kind_number k == kind_number j) ≡ false → stack' ≡ k ∷ stack → is_open stack' j ≡ is_open stack j
open_entered stack stack' k j ne e = ap (λ (x : List Kind). is_open x j) e ∙ rw ne refl

-- what is known of a step
record StepIn (loaded : Loaded) (cost : ℕ) (trace : List Event) (before : List Turned) (k : Kind) (en : Bool) (t : ℕ) (ns : List Note) : Type 0 where
  link : Linked loaded trace before
  fits : StepFits loaded Full cost trace before (record { tick = t; kind = k; enters = en; notes = ns })
  bridge : BridgeFits loaded trace before (record { tick = t; kind = k; enters = en; notes = ns })

turn_is : (loaded : Loaded) (cost : ℕ) (trace : List Event) (before : List Turned) (k : Kind) (en : Bool) (t : ℕ) (ns : List Note)
    → StepIn loaded cost trace before k en t ns → IsTurn (view before) (by_kind k en (has_leave ns))
turn_is loaded cost trace before kind.Comm true t ns i = i.link.comm ∙ all_below (open_in loaded before) 6 6 (i.bridge.above refl) kind.Comm refl (omega arith)
turn_is loaded cost trace before kind.Comm false t ns i = record {
  is_open = i.link.comm ∙ ap (λ (x : List Kind). is_open x kind.Comm) (innermost_first (open_in loaded before) kind.Comm (i.fits.own refl));
  few = let a : own_steps kind.Comm (before ++ record { tick = t; kind = kind.Comm; enters = false; notes = ns } ∷ []) ≤ 24 = i.fits.few refl in
      let b : own_steps kind.Comm (before ++ record { tick = t; kind = kind.Comm; enters = false; notes = ns } ∷ []) ≡ own_steps kind.Comm before + 1 =
      own-push kind.Comm before (record { tick = t; kind = kind.Comm; enters = false; notes = ns }) in
      let c = i.link.comm_own in omega arith;
}
turn_is loaded cost trace before kind.Pwm true t ns i = record {
  comm = i.link.comm ∙ all_below (open_in loaded before) 5 6 (i.bridge.above refl) kind.Comm refl (omega arith);
  pwm = i.link.pwm ∙ all_below (open_in loaded before) 5 5 (i.bridge.above refl) kind.Pwm refl (omega arith);
}
turn_is loaded cost trace before kind.Pwm false t ns i =
    let top = innermost_first (open_in loaded before) kind.Pwm (i.fits.own refl) in
    let a : own_steps kind.Pwm (before ++ record { tick = t; kind = kind.Pwm; enters = false; notes = ns } ∷ []) ≤ 12 = i.fits.few refl in
    let b : own_steps kind.Pwm (before ++ record { tick = t; kind = kind.Pwm; enters = false; notes = ns } ∷ []) ≡ own_steps kind.Pwm before + 1 =
    own-push kind.Pwm before (record { tick = t; kind = kind.Pwm; enters = false; notes = ns }) in
    let c = i.link.pwm_own in
    record {
      comm = i.link.comm ∙ ap (λ (x : List Kind). is_open x kind.Comm) top
          ∙ none_above (outer_ones (open_in loaded before)) kind.Pwm kind.Comm (subst IsStack top i.link.sorted) (omega arith);
      is_open = i.link.pwm ∙ ap (λ (x : List Kind). is_open x kind.Pwm) top;
      few = omega arith;
      all = λ q. let d = i.bridge.pwm_back refl refl q in omega arith;
    }
turn_is loaded cost trace before k true t ns i = record {
  comm = i.link.comm ∙ all_below (open_in loaded before) (kind_number k) 6 (i.bridge.above refl) kind.Comm refl (omega arith);
  pwm = i.link.pwm ∙ all_below (open_in loaded before) (kind_number k) 5 (i.bridge.above refl) kind.Pwm refl (omega arith);
}
turn_is loaded cost trace before k false t ns i =
    let top = innermost_first (open_in loaded before) k (i.fits.own refl) in
    record {
      comm = i.link.comm ∙ ap (λ (x : List Kind). is_open x kind.Comm) top
          ∙ none_above (outer_ones (open_in loaded before)) k kind.Comm (subst IsStack top i.link.sorted) (omega arith);
      pwm = i.link.pwm ∙ ap (λ (x : List Kind). is_open x kind.Pwm) top
          ∙ none_above (outer_ones (open_in loaded before)) k kind.Pwm (subst IsStack top i.link.sorted) (omega arith);
    }

-- ---- the link after a step

abbrev pub step_of : Kind → Bool → ℕ → List Note → Turned
step_of k en t ns = record { tick = t; kind = k; enters = en; notes = ns }

sorted_own : (stack : List Kind) (back : Bool) → IsStack stack → IsStack (if back then outer_ones stack else stack)
sorted_own [] true s = s
sorted_own (k ∷ outer) true s = s.1
sorted_own stack false s = s

sorted_next : (loaded : Loaded) (cost : ℕ) (trace : List Event) (before : List Turned) (k : Kind) (en : Bool) (t : ℕ) (ns : List Note)
    → StepIn loaded cost trace before k en t ns → IsStack (open_in loaded (before ++ step_of k en t ns ∷ []))
sorted_next loaded cost trace before k true t ns i =
    let o = open_out loaded cost trace before (step_of k true t ns) i.fits i.bridge.one_back in
    subst IsStack (sym (o.entry refl)) (above_stack (open_in loaded before) k (i.bridge.above refl) i.link.sorted)
sorted_next loaded cost trace before k false t ns i =
    let o = open_out loaded cost trace before (step_of k false t ns) i.fits i.bridge.one_back in
    subst IsStack (sym (o.own refl)) (sorted_own (open_in loaded before) i.bridge.one_back.back i.link.sorted)

-- another kind's step has_leave whether it is open
others_next : (loaded : Loaded) (cost : ℕ) (trace : List Event) (before : List Turned) (k j : Kind) (en : Bool) (t : ℕ) (ns : List Note)
    → StepIn loaded cost trace before k en t ns → (kind_number k == kind_number j) ≡ false
    → is_open (open_in loaded (before ++ step_of k en t ns ∷ [])) j ≡ is_open (open_in loaded before) j
others_next loaded cost trace before k j true t ns i ne =
    let o = open_out loaded cost trace before (step_of k true t ns) i.fits i.bridge.one_back in
    open_entered (open_in loaded before) _ k j ne (o.entry refl)
others_next loaded cost trace before k j false t ns i ne =
    let o = open_out loaded cost trace before (step_of k false t ns) i.fits i.bridge.one_back in
    open_other (open_in loaded before) _ k j i.bridge.one_back.back ne (i.fits.own refl) (o.own refl)

self_entered : (loaded : Loaded) (cost : ℕ) (trace : List Event) (before : List Turned) (k : Kind) (t : ℕ) (ns : List Note)
    → StepIn loaded cost trace before k true t ns → is_open (open_in loaded (before ++ step_of k true t ns ∷ [])) k ≡ true
self_entered loaded cost trace before k t ns i =
    let o = open_out loaded cost trace before (step_of k true t ns) i.fits i.bridge.one_back in
    ap (λ (x : List Kind). is_open x k) (o.entry refl) ∙ rw (same (kind_number k)) refl
  where
    same : (x : ℕ) → (x == x) ≡ true
    same x = grind (arith, nat_tests)

self_own : (loaded : Loaded) (cost : ℕ) (trace : List Event) (before : List Turned) (k : Kind) (t : ℕ) (ns : List Note)
    → StepIn loaded cost trace before k false t ns → is_open (open_in loaded (before ++ step_of k false t ns ∷ [])) k ≡ not (has_leave ns)
self_own loaded cost trace before k t ns i =
    let o = open_out loaded cost trace before (step_of k false t ns) i.fits i.bridge.one_back in
    open_self (open_in loaded before) _ k i.bridge.one_back.back i.link.sorted (i.fits.own refl) (o.own refl)
    ∙ ap not (sym (back_is (step_of k false t ns) i.bridge.one_back))

record OpenNext (loaded : Loaded) (log : List Turned) : Type 0 where
  comm : (view log).comm ≡ is_open (open_in loaded log) kind.Comm
  pwm : (view log).pwm ≡ is_open (open_in loaded log) kind.Pwm
  comm_own : (view log).comm_own ≡ own_steps kind.Comm log
  pwm_own : (view log).pwm_own ≡ own_steps kind.Pwm log

open_next : (loaded : Loaded) (cost : ℕ) (trace : List Event) (before : List Turned) (k : Kind) (en : Bool) (t : ℕ) (ns : List Note)
    → StepIn loaded cost trace before k en t ns → OpenNext loaded (before ++ step_of k en t ns ∷ [])
open_next loaded cost trace before kind.Comm true t ns i = let s = same_after before (step_of kind.Comm true t ns) in record {
  comm = s.comm ∙ sym (self_entered loaded cost trace before kind.Comm t ns i);
  pwm = s.pwm ∙ i.link.pwm ∙ sym (others_next loaded cost trace before kind.Comm kind.Pwm true t ns i refl);
  comm_own = s.comm_own ∙ sym (own-push kind.Comm before (step_of kind.Comm true t ns));
  pwm_own = s.pwm_own ∙ i.link.pwm_own ∙ sym (own-push kind.Pwm before (step_of kind.Comm true t ns));
}
open_next loaded cost trace before kind.Comm false t ns i = let s = same_after before (step_of kind.Comm false t ns) in record {
  comm = s.comm ∙ sym (self_own loaded cost trace before kind.Comm t ns i);
  pwm = s.pwm ∙ i.link.pwm ∙ sym (others_next loaded cost trace before kind.Comm kind.Pwm false t ns i refl);
  comm_own = s.comm_own ∙ ap (λ (n : ℕ). n + 1) i.link.comm_own ∙ sym (own-push kind.Comm before (step_of kind.Comm false t ns));
  pwm_own = s.pwm_own ∙ i.link.pwm_own ∙ sym (own-push kind.Pwm before (step_of kind.Comm false t ns));
}
open_next loaded cost trace before kind.Pwm true t ns i = let s = same_after before (step_of kind.Pwm true t ns) in record {
  comm = s.comm ∙ i.link.comm ∙ sym (others_next loaded cost trace before kind.Pwm kind.Comm true t ns i refl);
  pwm = s.pwm ∙ sym (self_entered loaded cost trace before kind.Pwm t ns i);
  comm_own = s.comm_own ∙ i.link.comm_own ∙ sym (own-push kind.Comm before (step_of kind.Pwm true t ns));
  pwm_own = s.pwm_own ∙ sym (own-push kind.Pwm before (step_of kind.Pwm true t ns));
}
open_next loaded cost trace before kind.Pwm false t ns i = let s = same_after before (step_of kind.Pwm false t ns) in record {
  comm = s.comm ∙ i.link.comm ∙ sym (others_next loaded cost trace before kind.Pwm kind.Comm false t ns i refl);
  pwm = s.pwm ∙ sym (self_own loaded cost trace before kind.Pwm t ns i);
  comm_own = s.comm_own ∙ i.link.comm_own ∙ sym (own-push kind.Comm before (step_of kind.Pwm false t ns));
  pwm_own = s.pwm_own ∙ ap (λ (n : ℕ). n + 1) i.link.pwm_own ∙ sym (own-push kind.Pwm before (step_of kind.Pwm false t ns));
}
open_next loaded cost trace before k en t ns i = let s = same_after before (step_of k en t ns) in record {
  comm = s.comm ∙ i.link.comm ∙ sym (others_next loaded cost trace before k kind.Comm en t ns i refl);
  pwm = s.pwm ∙ i.link.pwm ∙ sym (others_next loaded cost trace before k kind.Pwm en t ns i refl);
  comm_own = s.comm_own ∙ i.link.comm_own ∙ sym (own-push kind.Comm before (step_of k en t ns));
  pwm_own = s.pwm_own ∙ i.link.pwm_own ∙ sym (own-push kind.Pwm before (step_of k en t ns));
}

-- ---- the counts

wait_mono : (b a c b' a' c' : Bool) (w w' : ℕ) → (b ≡ true → b' ≡ true) → (a ≡ true → a' ≡ true) → c' ≡ c → w ≤ w'
    → waits_next b a c w ≤ (if b' && a' then (if c' then w' + 1 else w') else 0)
wait_mono true true true b' a' c' w w' f g e le = rw (f refl, g refl, e) (omega arith)
wait_mono true true false b' a' c' w w' f g e le = rw (f refl, g refl, e) le
wait_mono true false c b' a' c' w w' f g e le = omega arith
wait_mono false a c b' a' c' w w' f g e le = omega arith

pwm_is_called : (loaded : Loaded) (trace : List Event) (log : List Turned) (t : ℕ) → CallsSeen loaded trace log
    → (view log).pwm ≡ is_open (open_in loaded log) kind.Pwm → pwm_called (view log) t ≡ true → is_called loaded trace log t kind.Pwm ≡ true
pwm_is_called loaded trace log t c e q =
    let p = and_parts _ (not (view log).pwm) q in
    let r : not (is_open (open_in loaded log) kind.Pwm) ≡ true = ap not (sym e) ∙ p.1 in
    and_from (sees loaded trace (journal loaded log) t kind.Pwm) (not (is_open (open_in loaded log) kind.Pwm)) (c.pwm t q) r

comm_is_called : (loaded : Loaded) (trace : List Event) (log : List Turned) (t : ℕ) → CallsSeen loaded trace log
    → (view log).comm ≡ is_open (open_in loaded log) kind.Comm → comm_called (view log) t ≡ true → is_called loaded trace log t kind.Comm ≡ true
comm_is_called loaded trace log t c e q =
    let p = and_parts _ (not (view log).comm) q in
    let r : not (is_open (open_in loaded log) kind.Comm) ≡ true = ap not (sym e) ∙ p.1 in
    and_from (sees loaded trace (journal loaded log) t kind.Comm) (not (is_open (open_in loaded log) kind.Comm)) (c.comm t q) r

pwm_counts : (k : Kind) (en l : Bool) → counts Full kind.Pwm (Some k) ≡ not (is_comm (by_kind k en l))
pwm_counts kind.Comm true l = refl
pwm_counts kind.Comm false l = refl
pwm_counts kind.Pwm true l = refl
pwm_counts kind.Pwm false l = refl
pwm_counts k en l = refl

comm_counts : (k : Kind) → counts Full kind.Comm (Some k) ≡ true
comm_counts kind.Comm = refl
comm_counts k = refl

comm_waits_after : (before : List Turned) (e : Turned) → (view (before ++ e ∷ [])).comm_waits ≡ waits_next (comm_called (view before) e.tick)
    (comm_called (view (before ++ e ∷ [])) e.tick) true (view before).comm_waits
comm_waits_after before e = subst (λ (w : View). w.comm_waits ≡ waits_next (comm_called (view before) e.tick) (comm_called w e.tick) true
    (view before).comm_waits) (sym (view-push before e)) refl

link_next : (loaded : Loaded) (cost : ℕ) (trace : List Event) (before : List Turned) (e : Turned) → SeesDrive loaded trace
    → StepIn loaded cost trace before e.kind e.enters e.tick e.notes → Linked loaded trace (before ++ e ∷ [])
link_next loaded cost trace before e d i =
    let o = open_next loaded cost trace before e.kind e.enters e.tick e.notes i in
    let a = asks_next loaded cost trace before e i.fits i.link.asks in
    let c = seen_of loaded trace before d i.link.asks in
    let c' = seen_of loaded trace (before ++ e ∷ []) d a in
    record {
      sorted = sorted_next loaded cost trace before e.kind e.enters e.tick e.notes i;
      comm = o.comm;
      pwm = o.pwm;
      comm_own = o.comm_own;
      pwm_own = o.pwm_own;
      pwm_waits = rw (pwm_waits_after before e, called-push loaded Full trace before e kind.Pwm)
          (wait_mono (pwm_called (view before) e.tick) (pwm_called (view (before
          ++ e ∷ [])) e.tick) (not (is_comm (by_of e))) (is_called loaded trace before e.tick kind.Pwm) (is_called loaded trace (before
          ++ e ∷ []) e.tick kind.Pwm) (counts Full kind.Pwm (Some e.kind)) (view before).pwm_waits (called loaded Full trace before kind.Pwm)
          (pwm_is_called loaded trace before e.tick c i.link.pwm) (pwm_is_called loaded trace (before
          ++ e ∷ []) e.tick c' o.pwm) (pwm_counts e.kind e.enters (has_leave e.notes)) i.link.pwm_waits);
      comm_waits = rw (comm_waits_after before e, called-push loaded Full trace before e kind.Comm)
          (wait_mono (comm_called (view before) e.tick) (comm_called (view (before
          ++ e ∷ [])) e.tick) true (is_called loaded trace before e.tick kind.Comm) (is_called loaded trace (before
          ++ e ∷ []) e.tick kind.Comm) (counts Full kind.Comm (Some e.kind)) (view before).comm_waits (called loaded Full trace before kind.Comm)
          (comm_is_called loaded trace before e.tick c i.link.comm) (comm_is_called loaded trace (before
          ++ e ∷ []) e.tick c' o.comm) (comm_counts e.kind) i.link.comm_waits);
      asks = a;
    }

-- ---- no tick is passed over

rests_idle : (loaded : Loaded) (trace : List Event) (log : List Turned) (t : ℕ) → Linked loaded trace log → CallsSeen loaded trace log
    → open_in loaded log ≡ [] → ((k : Kind) → sees loaded trace (journal loaded log) t k ≡ false) → BothIdle (view log) t
rests_idle loaded trace log t l c e none = record {
  comm = l.comm ∙ ap (λ (x : List Kind). is_open x kind.Comm) e;
  pwm = l.pwm ∙ ap (λ (x : List Kind). is_open x kind.Pwm) e;
  pwm_called = off_is _ (λ q. clash _ (c.pwm t q) (none kind.Pwm));
  comm_called = off_is _ (λ q. clash _ (c.comm t q) (none kind.Comm));
}
  where
    clash : (v : Bool) → v ≡ true → v ≡ false → ⊥
    clash v e f = cc

idle_or_not : (stack : List Kind) → (stack ≡ []) ⊎ (stack ≢ [])
idle_or_not [] = inl refl
idle_or_not (k ∷ outer) = inr (λ e. cc)

step_passes : (loaded : Loaded) (cost : ℕ) (trace : List Event) (before : List Turned) (e : Turned) → Linked loaded trace before
    → CallsSeen loaded trace before → StepFits loaded Full cost trace before e → NonePassed cost trace before e.tick
step_passes loaded cost trace before e l c f t lo hi free = elim (idle_or_not (open_in loaded before)) [
  | inl q ↦ rests_idle loaded trace before t l c q (f.idle q t lo hi free)
  | inr q ↦ absurd (let a = f.open_step q in omega arith)
]

end_passes : (loaded : Loaded) (cost : ℕ) (trace : List Event) (log : List Turned) (until : ℕ) → Linked loaded trace log → CallsSeen loaded trace log
    → Awaits loaded cost trace until log → NonePassed cost trace log until
end_passes loaded cost trace log until l c f t lo hi free = elim (idle_or_not (open_in loaded log)) [
  | inl q ↦ rests_idle loaded trace log t l c q (f.idle q t lo hi free)
  | inr q ↦ absurd (let a = f.open_step q in omega arith)
]

-- ---- over the log

fits_from : (loaded : Loaded) (cost : ℕ) (trace : List Event) (d : SeesDrive loaded trace) (before rest : List Turned) → Linked loaded trace before
    → EachStep (StepFits loaded Full cost trace) before rest → EachStep (BridgeFits loaded trace) before rest
    → EachStep (StepMade cost trace) before rest × Linked loaded trace (before ++ rest)
fits_from loaded cost trace d before [] l f g = (tt, subst (λ (x : List Turned). Linked loaded trace x) (sym (append-nil before)) l)
fits_from loaded cost trace d before (e ∷ rest) l f g =
    let i : StepIn loaded cost trace before e.kind e.enters e.tick e.notes = record { link = l; fits = f.0; bridge = g.0 } in
    let n = link_next loaded cost trace before e d i in
    let more = fits_from loaded cost trace d (before ++ e ∷ []) rest n f.1 g.1 in
    let one : StepMade cost trace before e = record {
      later = f.0.later;
      none_passed = step_passes loaded cost trace before e l (seen_of loaded trace before d l.asks) f.0;
      turn = turn_is loaded cost trace before e.kind e.enters e.tick e.notes i;
      pwm_patient = let a = n.pwm_waits in let b = f.0.patient kind.Pwm in omega arith;
      comm_patient = let a = n.comm_waits in let b = f.0.patient kind.Comm in omega arith;
    } in
    ((one, more.0), subst (λ (x : List Turned). Linked loaded trace x) (append_assoc before (e ∷ []) rest) more.1)

start_linked : (loaded : Loaded) (trace : List Event) → Linked loaded trace []
unfolding place own_steps
start_linked loaded trace = record {
  sorted = tt;
  comm = ap (λ (v : View). v.comm) view-none;
  pwm = ap (λ (v : View). v.pwm) view-none;
  comm_own = ap (λ (v : View). v.comm_own) view-none;
  pwm_own = ap (λ (v : View). v.pwm_own) view-none;
  pwm_waits = rw (view-none) (omega arith);
  comm_waits = rw (view-none) (omega arith);
  asks = asks_start loaded;
}

notes_fit : (loaded : Loaded) (cost : ℕ) (trace : List Event) (before rest : List Turned) → EachStep (StepFits loaded Full cost trace) before rest
    → EachStep NotesFit before rest
notes_fit loaded cost trace before [] f = tt
notes_fit loaded cost trace before (e ∷ rest) f = (record { at_tick = f.0.at_tick; entry = f.0.entry }, notes_fit loaded cost trace (before ++ e ∷ []) rest f.1)

-- From the rules of steps, and the laws of the drive, `Chopped`.
pub chopped_of : (loaded : Loaded) (cost : ℕ) (trace : List Event) (log : List Turned) (until : ℕ) → 1 ≤ cost → cost ≤ 16
    → EachStep (StepFits loaded Full cost trace) [] log → Awaits loaded cost trace until log → SeesDrive loaded trace
    → EachStep (BridgeFits loaded trace) [] log
    → EachStep DriveFits [] log → EachStep PairFits [] log → All InRange (journal loaded log) → Chopped cost trace until (journal loaded log)
chopped_of loaded cost trace log until one few fits awaits d bridge drives pairs range =
    let r = fits_from loaded cost trace d [] log (start_linked loaded trace) fits bridge in
    let n = notes_fit loaded cost trace [] log fits in
    is_chopped loaded cost trace log until one few (record {
      fits = r.0;
      times = times_fit [] log n;
      pairs = pairs;
      drives = drives;
      all_made = end_passes loaded cost trace log until r.1 (seen_of loaded trace log d r.1.asks) awaits;
    }) n range
