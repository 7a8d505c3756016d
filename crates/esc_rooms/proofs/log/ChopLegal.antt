-- From the laws of a log to `Chopped` of its journal.
use Rattle.std.proofs.Common.{◌≡◌, ◌≢◌, ◌≤◌, ◌<◌, ◌+◌, ℕ, Bool, true, false, not, ◌==◌, if◌then◌else◌, List, [], ◌∷◌, ◌++◌, reverse, refl, sym, ◌∙◌, ap, subst, arith, append-nil, All}
use Rattle.std.specs.List.{fold}
use Rattle.std.proofs.lemmas.List.Elements.{All-head, All-tail}
use Rattle.std.proofs.lemmas.Bool.{and_parts, or_right}
use Rattle.std.proofs.lemmas.Bool.Decides.{nat_tests}
use Rattle.esc_base.specs.declared.gate.Leg.{Leg}
use Rattle.esc_base.specs.declared.gate.Leg.TheVariants as leg
use Rattle.esc_base.specs.declared.kind.Kind.{Kind}
use Rattle.esc_base.specs.declared.kind.Kind.TheVariants as kind
use Rattle.esc_base.specs.declared.event.Event.{Event}
use Rattle.esc_base.specs.declared.note.Note.{Note}
use Rattle.esc_base.specs.declared.note.Note.TheVariants as note
use Rattle.esc_base.specs.Journal.{Each, time_of}
use Rattle.esc_base.specs.Legs.{is_on}
use Rattle.esc_base.specs.Numbers.{kind_number}
use Rattle.esc_base.specs.Range.{InRange}
use Rattle.settings_block.specs.declared.stored.Loaded.{Loaded}
use Rattle.interrupt_machine.specs.declared.nest.Nest.{Nest}
use Rattle.interrupt_machine.specs.declared.nest.Nest.TheVariants.{Full}
use Rattle.arming.proofs.InOrder.{each_front, each_rest}
use Rattle.commutation.specs.Sectors.{high_of, low_of}
use Rattle.gate_driver.specs.Gated.{at_leg}
use Rattle.esc_laws.specs.Driven.{IsDriven}
use Rattle.esc_laws.specs.NoteLaw as owed
use Rattle.esc_laws.specs.Said.{NoteFits as Keeps}
use Rattle.esc_laws.specs.InTime.{TurnWaits}
use Rattle.esc_laws.specs.Calls.{calls_turn, calls_low}
use Rattle.esc_laws.specs.Steps.{Turned, opening, notes_in, journal, own_steps, ReturnsLast, EachStep, StepFits, Awaits}
use Rattle.esc_laws.specs.Looks.{Made, made_next, made}
use Rattle.esc_rooms.specs.ChopSteps.{told, ChopFits}
use Rattle.esc_chopping.specs.View.{View, view, told_by, moved_by, by_of, by_kind, has_leave}
use Rattle.esc_chopping.specs.View.By.{PwmSteps}
use Rattle.esc_chopping.specs.Laws.{is_quiet, is_comm_step, DriveFits}
use Rattle.esc_chopping.specs.Pairs.{NoteFits, InPair, EachNote, PairFits}
use Rattle.esc_laws.specs.Saves.{advance_of}
use Rattle.esc_chopping.specs.FromSteps.{OneBack, BridgeFits, SeesDrive}
use Rattle.esc_laws.specs.Chopped.{Chopped}
use Rattle.esc_laws.proofs.Pushes.{journal-push, made-push, made-none, own-push}
use Rattle.esc_laws.proofs.Notes.{all_front}
use Rattle.esc_chopping.proofs.Pushes.{view-push, view-none}
use Rattle.esc_chopping.proofs.High.{same_after}
use Rattle.esc_chopping.proofs.OfJournal.{Says, says_all, says_note, says_moved}
use Rattle.esc_chopping.proofs.FromSteps.{chopped_of, step_of}
use Rattle.std.proofs.lemmas.Bool.{leb-true}
use Rattle.arming.proofs.InOrder.{reverse-push}
use Rattle.std.proofs.lemmas.Bool.{not-true}

-- ---- PWM's own steps

record Agrees (v : View) (m : Made) (own : ℕ) : Type 0 where
  own_is : v.pwm_own ≡ m.pwm_own
  sampled_is : v.sampled ≡ m.sampled
  counted : m.pwm_own ≡ own

-- what a step makes of both
moves : (v : View) (m : Made) (own : ℕ) (k : Kind) (en l : Bool) (t : ℕ) → Agrees v m own
    → Agrees (moved_by v (by_kind k en l) t) (made_next k en t m) (if kind_number kind.Pwm == kind_number k then (if en then 0 else own + 1) else own)
moves v m own kind.Pwm true l t a = record { own_is = refl; sampled_is = a.sampled_is; counted = refl }
moves v m own kind.Pwm false l t a =
    record { own_is = ap (λ (x : ℕ). x + 1) a.own_is; sampled_is = rw (a.own_is, a.sampled_is) refl; counted = ap (λ (x : ℕ). x + 1) a.counted }
moves v m own kind.Comm true l t a = record { own_is = a.own_is; sampled_is = a.sampled_is; counted = a.counted }
moves v m own kind.Comm false l t a = record { own_is = a.own_is; sampled_is = a.sampled_is; counted = a.counted }
moves v m own kind.Cap true l t a = record { own_is = a.own_is; sampled_is = a.sampled_is; counted = a.counted }
moves v m own kind.Cap false l t a = record { own_is = a.own_is; sampled_is = a.sampled_is; counted = a.counted }
moves v m own k en l t a = record { own_is = a.own_is; sampled_is = a.sampled_is; counted = a.counted }

agrees_on : (before : List Turned) (e : Turned) → Agrees (view before) (made before) (own_steps kind.Pwm before)
    → Agrees (view (before ++ e ∷ [])) (made (before ++ e ∷ [])) (own_steps kind.Pwm (before ++ e ∷ []))
agrees_on before e a =
    let n = moves (view before) (made before) (own_steps kind.Pwm before) e.kind e.enters (has_leave e.notes) e.tick a in
    let s = same_after before e in
    record {
      own_is = s.pwm_own ∙ n.own_is ∙ sym (ap (λ (m : Made). m.pwm_own) (made-push before e));
      sampled_is = s.sampled ∙ n.sampled_is ∙ sym (ap (λ (m : Made). m.sampled) (made-push before e));
      counted = ap (λ (m : Made). m.pwm_own) (made-push before e) ∙ n.counted ∙ sym (own-push kind.Pwm before e);
    }

agrees_start : Agrees (view []) (made []) (own_steps kind.Pwm [])
unfolding own_steps
agrees_start = rw (view-none, made-none) (record { own_is = refl; sampled_is = refl; counted = refl })

-- ---- what writes the gates

quiet_comm : (v : View) (k : Kind) (en l : Bool) → is_quiet v (by_kind k en l) ≡ true → k ≡ kind.Comm → en ≡ true
quiet_comm v kind.Comm true l q is = refl
quiet_comm v kind.Comm false l q is = cc
quiet_comm v k en l q is = cc

low_comm : (k : Kind) (en l : Bool) → is_comm_step (by_kind k en l) ≡ false → k ≡ kind.Comm → en ≡ true
low_comm kind.Comm true l q is = refl
low_comm kind.Comm false l q is = cc
low_comm k en l q is = cc

quiet_pwm : (v : View) (k : Kind) (en l : Bool) → is_quiet v (by_kind k en l) ≡ true → k ≡ kind.Pwm → en ≡ false → v.pwm_own ≢ 4
quiet_pwm v kind.Pwm true l q is e four = cc
quiet_pwm v kind.Pwm false l q is e four = let z : false ≡ true = subst (λ (n : ℕ). not (n == 4) ≡ true) four q in cc
quiet_pwm v k en l q is e four = cc

pwm_steps : (k : Kind) (en l returns : Bool) → by_kind k en l ≡ PwmSteps returns → (k ≡ kind.Pwm) × (en ≡ false)
pwm_steps kind.Pwm false l r e = (refl, refl)
pwm_steps kind.Pwm true l r e = absurd (cc)
pwm_steps kind.Comm true l r e = absurd (cc)
pwm_steps kind.Comm false l r e = absurd (cc)
pwm_steps kind.Main en l r e = absurd (cc)
pwm_steps kind.Uart en l r e = absurd (cc)
pwm_steps kind.Tick en l r e = absurd (cc)
pwm_steps kind.Cap en l r e = absurd (cc)
pwm_steps kind.Cmp en l r e = absurd (cc)

some_sector : (s : ℕ) → not (s == 0) ≡ true → 0 < s
some_sector s e = grind (arith, nat_tests)

none_on : (x : Leg) → is_on 0 x ≡ false
none_on leg.A = refl
none_on leg.B = refl
none_on leg.C = refl

drive_fits : (loaded : Loaded) (before : List Turned) (e : Turned) → Agrees (view before) (made before) (own_steps kind.Pwm before)
    → ChopFits loaded before e → DriveFits before e
drive_fits loaded before e a c =
    let s : Says (view before) (told loaded before) = says_all loaded before in
    let s' : Says (view (before ++ e ∷ [])) (told loaded (before ++ e ∷ [])) = says_all loaded (before ++ e ∷ []) in
    record {
      quiet_high = λ d q. s'.hi
          ∙ c.high (quiet_comm (view before) e.kind e.enters (has_leave e.notes) q)
          (λ is own four. quiet_pwm (view before) e.kind e.enters (has_leave e.notes) q is own (a.own_is ∙ four)) (rw (← s.demand) d)
          ∙ sym s.hi;
      quiet_low = λ d q. s'.lo ∙ c.low (low_comm e.kind e.enters (has_leave e.notes) q) (rw (← s.demand) d) ∙ sym s.lo;
      chops = λ returns is four.
          let p = pwm_steps e.kind e.enters (has_leave e.notes) returns is in
          let w = c.chops p.0 p.1 (sym a.own_is ∙ four) in
          record {
            on = λ d may.
                let x = and_parts (not ((view before).sector == 0)) _ may in
                let y = and_parts (not (is_on (view before).lo (high_of (view before).sector))) _ x.1 in
                rw (s'.hi, s.sector)
                (w.on (rw (← a.sampled_is, ← s.demand) d) (rw (← s.sector) (some_sector (view before).sector x.0))
                (rw (← s.lo, ← s.sector) (not-true (is_on (view before).lo (high_of (view before).sector)) y.0))
                (rw (← s.sector, ← s.lo_free (high_of (view before).sector))
                (leb-true (at_leg (view before).lo_free (high_of (view before).sector)) e.tick y.1)));
            off = λ d x. rw (s'.hi, w.off (rw (← a.sampled_is, ← s.demand) d)) (none_on x);
          };
    }

-- ---- the return

record Back (t k : ℕ) (notes : List Note) : Type 0 where
  front : List Note
  back : Bool
  none : has_leave front ≡ false
  notes_are : notes ≡ front ++ (if back then note.Leave (record { 0 = t }) k ∷ [] else [])

back_of : (t : ℕ) (k : Kind) (notes : List Note) → ReturnsLast k notes → All (λ n. time_of n ≡ t) notes → Back t (kind_number k) notes
back_of t k [] r a = record { front = []; back = false; none = refl; notes_are = refl }
back_of t k (note.Leave u j ∷ notes) r a =
    let at : u.0 ≡ t = All-head (λ n. time_of n ≡ t) (note.Leave u j) notes a in
    record { front = []; back = true; none = refl; notes_are = rw (r.0, r.1, ← at) refl }
back_of t k (n ∷ notes) r a =
    let b = back_of t k notes r (All-tail (λ x. time_of x ≡ t) n notes a) in
    record { front = n ∷ b.front; back = b.back; none = b.none; notes_are = ap (λ (x : List Note). n ∷ x) b.notes_are }

one_back : (loaded : Loaded) (cost : ℕ) (trace : List Event) (before : List Turned) (t : ℕ) (k : Kind) (en : Bool) (ns : List Note)
    → StepFits loaded Full cost trace before (step_of k en t ns) → OneBack (step_of k en t ns)
one_back loaded cost trace before t k true ns f = record { front = ns; back = false; none = ap has_leave (f.entry refl); notes_are = sym (append-nil ns) }
one_back loaded cost trace before t k false ns f =
    let b = back_of t k ns (f.returns refl) f.at_tick in
    record { front = b.front; back = b.back; none = b.none; notes_are = b.notes_are }

bridge_fits : (loaded : Loaded) (cost : ℕ) (trace : List Event) (before : List Turned) (e : Turned)
    → Agrees (view before) (made before) (own_steps kind.Pwm before) → StepFits loaded Full cost trace before e → ChopFits loaded before e
    → BridgeFits loaded trace before e
bridge_fits loaded cost trace before e a f c = record {
  above = c.above;
  one_back = one_back loaded cost trace before e.tick e.kind e.enters e.notes f;
  pwm_back = λ is own l.
      let four : 4 ≤ (made before).pwm_own = c.back is own l in
      let n = a.counted in
      rw (own-push kind.Pwm before e, is, own) (omega arith);
}

-- ---- the pair

-- the switches that are on after a step's notes, and each rule of them
record Paired (v : View) (notes : List Note) : Type 0 where
  each : EachNote v notes
  after : InPair (fold told_by v notes)

record NotePaired (v : View) (n : Note) : Type 0 where
  fits : NoteFits v n
  after : InPair (told_by v n)

note_paired : (v : View) (back : List Note) (n : Note) → Says v back → IsDriven back n → TurnWaits back n → InRange n → InPair v → NotePaired v n
note_paired v back (note.Gate t hi lo) s d w r p =
    record { fits = tt; after = record { high = rw s.sector d.1.high; low = rw s.sector d.1.low; sector = p.sector } }
note_paired v back (note.Step t x) s d w r p = record {
  fits = (rw (s.hi_free (low_of x)) w, let lo = r.1.0 in omega arith);
  after = record { high = rw s.hi d.1.high; low = rw s.lo d.1.low; sector = r.1.1 };
}
note_paired v back (note.Control t n m d') s d w r p = record { fits = tt; after = record { high = p.high; low = p.low; sector = p.sector } }
note_paired v back n s d w r p = record { fits = tt; after = p }

paired : (loaded : Loaded) (nest : Nest) (trace : List Event) (v : View) (before notes : List Note) → Says v (reverse before)
    → Each (Keeps loaded nest trace) before notes → All InRange notes → InPair v → Paired v notes
paired loaded nest trace v before [] s k r p = record { each = tt; after = p }
paired loaded nest trace v before (n ∷ notes) s k r p =
    let one = note_paired v (reverse before) n s (k.0.laws owed.Drives) k.0.waits (All-head InRange n notes r) p in
    let s' : Says (told_by v n) (reverse (before ++ n ∷ [])) =
    subst (λ (l : List Note). Says (told_by v n) l) (sym (reverse-push before n)) (says_note v (reverse before) n s) in
    let more = paired loaded nest trace (told_by v n) (before ++ n ∷ []) notes s' k.1 (All-tail InRange n notes r) one.after in
    record { each = (one.fits, one.after, more.each); after = more.after }

pair_moved : (v : View) (k : Kind) (en l : Bool) (t : ℕ) → InPair v → InPair (moved_by v (by_kind k en l) t)
pair_moved v kind.Comm true l t p = record { high = p.high; low = p.low; sector = p.sector }
pair_moved v kind.Comm false l t p = record { high = p.high; low = p.low; sector = p.sector }
pair_moved v kind.Pwm true l t p = record { high = p.high; low = p.low; sector = p.sector }
pair_moved v kind.Pwm false l t p = record { high = p.high; low = p.low; sector = p.sector }
pair_moved v k en l t p = p

all_rest : (xs ys : List Note) → All InRange (xs ++ ys) → All InRange ys
all_rest [] ys a = a
all_rest (x ∷ xs) ys a = all_rest xs ys (All-tail InRange x (xs ++ ys) a)

pairs_from : (loaded : Loaded) (nest : Nest) (trace : List Event) (before rest : List Turned)
    → Each (Keeps loaded nest trace) (journal loaded before) (notes_in rest) → All InRange (notes_in rest) → InPair (view before)
    → EachStep PairFits before rest
pairs_from loaded nest trace before [] k r p = tt
pairs_from loaded nest trace before (e ∷ rest) k r p =
    let one = paired loaded nest trace (moved_by (view before) (by_of e) e.tick) (journal loaded before) e.notes
    (says_moved (view before) (by_of e) e.tick (told loaded before) (says_all loaded before))
    (each_front (Keeps loaded nest trace) (journal loaded before) e.notes (notes_in rest) k)
    (all_front InRange e.notes (notes_in rest) r) (pair_moved (view before) e.kind e.enters (has_leave e.notes) e.tick p) in
    let next : InPair (view (before ++ e ∷ [])) =
    subst InPair (sym (view-push before e)) (record { high = one.after.high; low = one.after.low; sector = one.after.sector }) in (
      one.each,
      pairs_from loaded nest trace (before ++ e ∷ []) rest
          (rw (journal-push loaded before e) (each_rest (Keeps loaded nest trace) (journal loaded before) e.notes (notes_in rest) k))
          (all_rest e.notes (notes_in rest) r) next,
    )

start_pair : InPair (view [])
start_pair = rw view-none (record {
  high = λ x on. absurd (let z : false ≡ true = sym (none_on x) ∙ on in cc);
  low =
      λ x on. absurd (let z : false ≡ true = sym (none_on x) ∙ on in cc);
  sector = omega arith;
})

-- ---- the whole log

drives_from : (loaded : Loaded) (before rest : List Turned) → Agrees (view before) (made before) (own_steps kind.Pwm before)
    → EachStep (ChopFits loaded) before rest → EachStep DriveFits before rest
drives_from loaded before [] a c = tt
drives_from loaded before (e ∷ rest) a c = (drive_fits loaded before e a c.0, drives_from loaded (before ++ e ∷ []) rest (agrees_on before e a) c.1)

bridge_from : (loaded : Loaded) (cost : ℕ) (trace : List Event) (before rest : List Turned) → Agrees (view before) (made before) (own_steps kind.Pwm before)
    → EachStep (StepFits loaded Full cost trace) before rest → EachStep (ChopFits loaded) before rest → EachStep (BridgeFits loaded trace) before rest
bridge_from loaded cost trace before [] a f c = tt
bridge_from loaded cost trace before (e ∷ rest) a f c = (
  bridge_fits loaded cost trace before e a f.0 c.0,
  bridge_from loaded cost trace (before ++ e ∷ []) rest (agrees_on before e a) f.1 c.1,
)

sees_drive : (loaded : Loaded) (trace : List Event) → SeesDrive loaded trace
sees_drive loaded trace = record {
  pwm = λ notes t e. e;
  low = λ notes t e. or_right (calls_turn (advance_of loaded.settings) (reverse notes) t) (calls_low (reverse notes) t) e;
}

rest_in_range : (loaded : Loaded) (log : List Turned) → All InRange (journal loaded log) → All InRange (notes_in log)
rest_in_range loaded log a = all_rest (opening loaded) (notes_in log) a

pub chopped_log : (loaded : Loaded) (nest : Nest) (cost : ℕ) (trace : List Event) (until : ℕ) (log : List Turned) → 1 ≤ cost → cost ≤ 16
    → EachStep (StepFits loaded Full cost trace) [] log → Awaits loaded cost trace until log → EachStep (ChopFits loaded) [] log
    → Each (Keeps loaded nest trace) (opening loaded) (notes_in log) → All InRange (journal loaded log)
    → Chopped cost trace until (journal loaded log)
chopped_log loaded nest cost trace until log some most fits awaits drives keeps range =
    chopped_of loaded cost trace log until some most fits awaits (sees_drive loaded trace)
    (bridge_from loaded cost trace [] log agrees_start fits drives)
    (drives_from loaded [] log agrees_start drives)
    (pairs_from loaded nest trace [] log keeps (rest_in_range loaded log range) start_pair)
    range
