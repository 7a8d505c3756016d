-- An entry and an own step carry the log on.
use Rattle.std.proofs.Common.{◌≡◌, ◌≢◌, ◌≤◌, ◌<◌, ◌+◌, ℕ, Bool, true, false, not, if◌then◌else◌, List, [], ◌∷◌, ◌++◌, length, reverse, Some, None, refl, sym, ◌∙◌, subst, arith, All, ◌⊎◌, inl, inr}
use Rattle.std.proofs.lemmas.Bool.{not-true, and_parts}
use Rattle.std.proofs.lemmas.List.Elements.{All-nil, All-cons, All-weaker}
use Rattle.esc_base.specs.declared.kind.Kind.{Kind}
use Rattle.esc_base.specs.declared.kind.Kind.TheVariants as kind
use Rattle.esc_base.specs.declared.event.Event.{Event}
use Rattle.esc_base.specs.declared.note.Note.{Note}
use Rattle.esc_base.specs.Numbers.{kind_number}
use Rattle.esc_base.specs.Journal.{time_of}
use Rattle.settings_block.specs.declared.stored.Loaded.{Loaded}
use Rattle.esc_base.specs.Numbers.{kind_number}
use Rattle.timer_regs.specs.Bank.{Bank}
use Rattle.timer_regs.specs.Effects.{after_entry}
use Rattle.interrupt_machine.specs.declared.nest.Nest.{Nest}
use Rattle.interrupt_machine.specs.declared.firmware.Did.{Did}
use Rattle.interrupt_machine.specs.declared.firmware.Did.TheVariants.{More, Return}
use Rattle.interrupt_machine.specs.Did.{most, accessed}
use Rattle.interrupt_machine.specs.Open.{is_open, innermost, highest, due_now, next_entry, IsAbove, IsStack}
use Rattle.interrupt_machine.specs.Response.{is_waiting}
use Rattle.interrupt_machine.specs.Turn.{open_after}
use Rattle.interrupt_machine.proofs.OpenKinds.{closed_above, entry_above, same_kind}
use Rattle.interrupt_machine.proofs.Waiting.{entry_patient, own_patient, entry_highest, entry_masked, highest_is_due, highest_most, self_open}
use Rattle.esc_core.specs.Brain.{Brain}
use Rattle.esc_core.specs.Stepped.{Stepped, is_return}
use Rattle.esc_core.specs.Calls.{Answer}
use Rattle.esc_core.specs.Firmware.{left_of, need_of, entered_core, kind_step, counted_down, waits_of}
use Rattle.esc_core.proofs.Bounds.{Bounds, need_some, mask_down, goes_bounds}
use Rattle.esc_laws.specs.Place.{Place}
use Rattle.esc_laws.specs.Seen.{sees, sees_at}
use Rattle.esc_laws.specs.Steps.{Turned, opening, notes_in, journal, after, uses, is_of, is_entry, is_gate, ReturnsLast, GateFirst, most_notes, own_steps, steps_since, entered_at, called, StepFits, Below}
use Rattle.esc_rooms.specs.Tied.{Keeps, WordTold}
use Rattle.esc_laws.specs.Looks.{made}
use Rattle.esc_rooms.specs.World.{world, enters, all_notes, open_left}
use Rattle.esc_rooms.specs.Logged.{Logged}
use Rattle.esc_laws.proofs.Pushes.{notes-push, own-push, made-push, since-push}
use Rattle.esc_laws.proofs.Stalls.{free_ended}
use Rattle.esc_rooms.proofs.shared.Facts.{of_self, of_other, some_open, outer_open, left_open, access_time}
use Rattle.esc_rooms.proofs.shared.Law.{AtRest, Highest, Given}
use Rattle.esc_rooms.proofs.log.Laws.{law}
use Rattle.esc_rooms.proofs.log.Stages.{world_of, IsOwn, enter_time, enter_stood, step_made}
use Rattle.esc_laws.proofs.Placed.{placed-is}
use Rattle.esc_rooms.proofs.log.Entries.{unheld_down, holds_alone, entered_others, entered_most, entry_above_all, keeps_entry, entry_above_kinds}
use Rattle.esc_rooms.proofs.log.OwnTurns.{steady, keeps_own}
use Rattle.esc_rooms.proofs.log.ChopSteps.{entry_chops, own_chops}
use Rattle.esc_rooms.proofs.log.Turns.{reached_on, reached_new, by_on, by_new, stood, at_rest, logged_after}

-- ---- what is seen due, and isn't open, is due

waits_due : (loaded : Loaded) (nest : Nest) (trace : List Event) (c : Brain) (b : Bank) (stack : List Kind) (log : List Turned) → Keeps c b stack
    → AtRest (world loaded nest trace c b log) → WordTold c b (reverse (journal loaded log))
    → ((j : Kind) → 8 < need_of c j) → (k : Kind) → sees loaded trace (journal loaded log) b.time k ≡ true → is_open stack k ≡ false
    → due_now (waits_of c) b k ≡ true
waits_due loaded nest trace c b stack log keeps rest told unheld k s f =
    (law k).called (world loaded nest trace c b log) (record { rest = rest; told = told; unheld = unheld; shut = keeps.shut k f })
    (subst (λ (p : Place). sees_at loaded trace p (reverse (journal loaded log)) b.time k ≡ true) (sym (placed-is (journal loaded log))) s)

pub sees_due : (loaded : Loaded) (nest : Nest) (trace : List Event) (c : Brain) (b : Bank) (stack : List Kind) (log : List Turned) → Keeps c b stack
    → AtRest (world loaded nest trace c b log) → WordTold c b (reverse (journal loaded log))
    → ((j : Kind) → 8 < need_of c j) → (k : Kind) → is_waiting (sees loaded trace (journal loaded log) b.time) stack k ≡ true
    → due_now (waits_of c) b k ≡ true
sees_due loaded nest trace c b stack log keeps rest told unheld k e =
    let parts = and_parts (sees loaded trace (journal loaded log) b.time k) (not (is_open stack k)) e in
    waits_due loaded nest trace c b stack log keeps rest told unheld k parts.0 (not-true (is_open stack k) parts.1)

-- ---- an entry

abbrev entry_of : ℕ → Kind → Turned
entry_of t k = record { tick = t; kind = k; enters = true; notes = enters k t ∷ [] }

empty_open : (stack : List Kind) (k : Kind) → stack ≡ [] → is_open stack k ≡ false
empty_open stack k e = rw e refl

entry_fits : (loaded : Loaded) (nest : Nest) (cost : ℕ) (trace : List Event) (c : Brain) (b : Bank) (stack : List Kind) (log : List Turned) (k : Kind)
    → Logged loaded nest cost trace b.time c b stack log → b.masked ≡ false
    → next_entry nest stack (due_now (waits_of c) b) ≡ Some k → ((j : Kind) → called loaded nest trace (log ++ entry_of b.time k ∷ []) j ≤ 8)
    → StepFits loaded nest cost trace log (entry_of b.time k)
entry_fits loaded nest cost trace c b stack log k l down chosen calls = record {
  later = l.past;
  free_at = free_ended trace b.time b.time l.stalls (omega arith);
  open_step = λ o. l.at_next (λ e. o (sym l.marks.stack_is ∙ e));
  idle = λ o. l.awaits.idle o;
  first = λ o. (
    refl,
    λ j s. highest_most (due_now (waits_of c) b) k j
        (waits_due loaded nest trace c b stack log l.keeps (at_rest loaded nest cost trace b.time c b stack log l) l.gates
        (unheld_down c b stack l.keeps down) j s
        (empty_open stack j (l.marks.stack_is ∙ o)))
        (entry_highest nest stack (due_now (waits_of c) b) k chosen),
  );
  entry = λ e. refl;
  own = λ e. cc;
  reached = λ e. cc;
  few = λ e. cc;
  at_tick = All-cons (λ n. time_of n ≡ b.time) (enters k b.time) [] refl (All-nil (λ n. time_of n ≡ b.time));
  no_entry = λ e. cc;
  returns = λ e. cc;
  gate_first = All-nil (λ m. is_gate m ≡ false);
  six = omega arith;
  patient = calls;
}

other_open : (k j : Kind) (stack : List Kind) → j ≢ k → is_open (k ∷ stack) j ≡ true → is_open stack j ≡ true
other_open k j stack ne o = sym (outer_open k j stack ne) ∙ o

-- an open kind has as many steps left as its places show
entry_owes : (c : Brain) (b : Bank) (stack : List Kind) (log : List Turned) (k : Kind)
    → ((j : Kind) → is_open stack j ≡ true → own_steps j log + left_of c j ≤ most j)
    → (j : Kind) → is_open (k ∷ stack) j ≡ true → own_steps j (log ++ entry_of b.time k ∷ []) + left_of (entered_core c k) j ≤ most j
entry_owes c b stack log k owes j o = elim (same_kind j k) [
  | inl s ↦ subst (λ (x : Kind). own_steps x (log ++ entry_of b.time k ∷ []) + left_of (entered_core c k) x ≤ most x) (sym s)
      (rw (own-push k log (entry_of b.time k), of_self k) (let m = entered_most k c in omega arith))
  | inr ne ↦ rw (own-push j log (entry_of b.time k), of_other j k ne, (entered_others k c j ne).0) (owes j (other_open k j stack ne o))
]

entry_reached : (cost : ℕ) (trace : List Event) (b : Bank) (stack : List Kind) (log : List Turned) (k : Kind) → (stack ≢ [] → b.time ≡ after cost trace log)
    → ((j : Kind) → is_open stack j ≡ true → after cost trace log ≡ uses cost trace (steps_since j log + 1) (entered_at j log))
    → (j : Kind) → is_open (k ∷ stack) j ≡ true
    → after cost trace (log ++ entry_of b.time k ∷ []) ≡ uses cost trace (steps_since j (log ++ entry_of b.time k ∷ []) + 1)
    (entered_at j (log ++ entry_of b.time k ∷ []))
entry_reached cost trace b stack log k at reached j o = elim (same_kind j k) [
  | inl s ↦ reached_new cost trace log (entry_of b.time k) j (subst (λ (x : Kind). is_of x (entry_of b.time k) ≡ true) (sym s) (of_self k))
  | inr ne ↦ reached_on cost trace log (entry_of b.time k) j (of_other j k ne) (at (some_open stack j (other_open k j stack ne o)))
      (reached j (other_open k j stack ne o))
]

entry_by : (cost : ℕ) (trace : List Event) (b : Bank) (stack : List Kind) (log : List Turned) (k : Kind) → (stack ≢ [] → b.time ≡ after cost trace log)
    → ((j : Kind) → is_open stack j ≡ true → after cost trace log ≡ uses cost trace (steps_since j log + 1) (entered_at j log))
    → (j : Kind) → is_open (k ∷ stack) j ≡ true → (t : ℕ) → Below t (log ++ entry_of b.time k ∷ [])
    → uses cost trace (steps_since j (log ++ entry_of b.time k ∷ [])) (entered_at j (log ++ entry_of b.time k ∷ [])) < t
entry_by cost trace b stack log k at reached j o t below = elim (same_kind j k) [
  | inl s ↦ by_new cost trace log (entry_of b.time k) j t (subst (λ (x : Kind). is_of x (entry_of b.time k) ≡ true) (sym s) (of_self k)) below
  | inr ne ↦ by_on cost trace log (entry_of b.time k) j t (of_other j k ne) (at (some_open stack j (other_open k j stack ne o)))
      (reached j (other_open k j stack ne o)) below
]

-- no higher kind is open or due
above_more : (stack : List Kind) (k j : Kind) → IsAbove (innermost stack) k → kind_number k < kind_number j → IsAbove (innermost stack) j
above_more [] k j a l = tt
above_more (i ∷ outer) k j a l = (let b : kind_number i < kind_number k = a in omega arith)

not_due : (due : Kind → Bool) (k j : Kind) → highest due ≡ Some k → kind_number k < kind_number j → due j ≡ false
not_due due k j h l = by_test (due j) refl
  where
    by_test : (v : Bool) → due j ≡ v → due j ≡ false
    by_test true e = absurd (let m = highest_most due k j e h in omega arith)
    by_test false e = e

entry_highest_of : (nest : Nest) (loaded : Loaded) (trace : List Event) (c : Brain) (b : Bank) (stack : List Kind) (log : List Turned) (k : Kind)
    → Keeps c b stack
    → IsStack stack → next_entry nest stack (due_now (waits_of c) b) ≡ Some k
    → Highest k (world_of loaded nest trace c b (made log) (notes_in log))
entry_highest_of nest loaded trace c b stack log k keeps sorted chosen = record {
  shut = λ j l. keeps.shut j (closed_above stack j sorted (above_more stack k j (entry_above nest stack (due_now (waits_of c) b) k chosen) l));
  none = λ j l. not_due (due_now (waits_of c) b) k j (entry_highest nest stack (due_now (waits_of c) b) k chosen) l;
}

pub entry_turn : (loaded : Loaded) (nest : Nest) (cost : ℕ) (trace : List Event) (c : Brain) (b : Bank) (stack : List Kind) (log : List Turned) (k : Kind)
    → 1 ≤ cost → Logged loaded nest cost trace b.time c b stack log
    → b.masked ≡ false → next_entry nest stack (due_now (waits_of c) b) ≡ Some k
    → Logged loaded nest cost trace (b.time + cost) (entered_core c k) (after_entry b k) (k ∷ stack) (log ++ entry_of b.time k ∷ [])
entry_turn loaded nest cost trace c b stack log k some l down chosen =
    let due = highest_is_due (due_now (waits_of c) b) k (entry_highest nest stack (due_now (waits_of c) b) k chosen) in
    let none : left_of c k ≡ 0 = l.keeps.shut k (closed_above stack k l.sorted (entry_above nest stack (due_now (waits_of c) b) k chosen)) in
    let still : (after_entry b k).masked ≡ false = entry_masked b k ∙ down in
    logged_after loaded nest cost trace c (entered_core c k) b (after_entry b k) stack (k ∷ stack) log (entry_of b.time k) some refl l (record {
      keeps = keeps_entry nest c b stack k l.keeps l.sorted down chosen;
      sorted = (entry_above nest stack (due_now (waits_of c) b) k chosen, l.sorted);
      time = enter_time k b;
      out =
          rw (made-push log (entry_of b.time k))
          (enter_stood k loaded nest trace c b (made log) (notes_in log) stack (stood loaded nest cost trace b.time c b stack log l) l.made_past none
          (unheld_down c b stack l.keeps down) due (entry_highest_of nest loaded trace c b stack log k l.keeps l.sorted chosen)
          (entry_above_all nest stack (due_now (waits_of c) b) k l.sorted chosen));
      patient =
          rw still
          (entry_patient nest stack (due_now (waits_of c) b) (sees loaded trace (journal loaded log) b.time)
          (sees loaded trace (journal loaded (log ++ entry_of b.time k ∷ [])) b.time) k c.hold (entered_core c k).hold (called loaded nest trace log)
          (sees_due loaded nest trace c b stack log l.keeps (at_rest loaded nest cost trace b.time c b stack log l) l.gates
          (unheld_down c b stack l.keeps down)) chosen (rw down at l.patient));
      owes = entry_owes c b stack log k l.owes;
      reached = entry_reached cost trace b stack log k l.at_next l.reached;
      reached_by = entry_by cost trace b stack log k l.at_next l.reached;
      fits = entry_fits loaded nest cost trace c b stack log k l down chosen;
      drive = entry_chops loaded log b.time k (subst (λ (st : List Kind). All (λ j. kind_number j < kind_number k) st) l.marks.stack_is
          (entry_above_kinds nest stack (due_now (waits_of c) b) k l.sorted chosen));
    })

-- ---- an own step

abbrev own_of : ℕ → Kind → List Note → Turned
own_of t k notes = record { tick = t; kind = k; enters = false; notes = notes }

left_stack : (v : Bool) (k : Kind) (outer : List Kind) → IsStack (k ∷ outer) → IsStack (if v then outer else k ∷ outer)
left_stack true k outer s = s.1
left_stack false k outer s = s

-- the mask is down after a return
left_goes : (v m : Bool) (k : Kind) (outer : List Kind) → (v ≡ true → m ≡ false) → ((if v then outer else k ∷ outer) ≡ k ∷ outer) ⊎ (m ≡ false)
left_goes true m k outer back = inr (back refl)
left_goes false m k outer back = inl refl

own_owes : (c c' : Brain) (outer : List Kind) (log : List Turned) (k : Kind) (t : ℕ) (notes : List Note) (v : Bool)
    → ((j : Kind) → is_open (k ∷ outer) j ≡ true → own_steps j log + left_of c j ≤ most j)
    → left_of c' k < left_of c k → ((j : Kind) → j ≢ k → left_of c' j ≡ left_of c j)
    → (j : Kind) → is_open (if v then outer else k ∷ outer) j ≡ true → own_steps j (log ++ own_of t k notes ∷ []) + left_of c' j ≤ most j
own_owes c c' outer log k t notes v owes less others j o = elim (same_kind j k) [
  | inl s ↦ subst (λ (x : Kind). own_steps x (log ++ own_of t k notes ∷ []) + left_of c' x ≤ most x) (sym s)
      (rw (own-push k log (own_of t k notes), of_self k) (let a = owes k (self_open k outer) in omega arith))
  | inr ne ↦ rw (own-push j log (own_of t k notes), of_other j k ne, others j ne) (owes j (left_open v k j outer o))
]

own_fits : (loaded : Loaded) (nest : Nest) (cost : ℕ) (trace : List Event) (c : Brain) (b : Bank) (outer : List Kind) (log : List Turned) (k : Kind)
    (notes : List Note)
    → Logged loaded nest cost trace b.time c b (k ∷ outer) log
    → All (IsOwn k b.time) notes → ReturnsLast k notes → GateFirst notes → length notes ≤ most_notes
    → ((j : Kind) → called loaded nest trace (log ++ own_of b.time k notes ∷ []) j ≤ 8)
    → StepFits loaded nest cost trace log (own_of b.time k notes)
own_fits loaded nest cost trace c b outer log k notes l own back first short calls =
    let inside : is_open (k ∷ outer) k ≡ true = self_open k outer in
    let at : b.time ≡ after cost trace log = l.at_next (λ e. cc) in
    record {
      later = l.past;
      free_at = free_ended trace b.time b.time l.stalls (omega arith);
      open_step = λ o. at;
      idle = λ o. l.awaits.idle o;
      first = λ o. (let z : k ∷ outer ≡ [] = l.marks.stack_is ∙ o in cc);
      entry = λ e. cc;
      own = λ e. rw (sym l.marks.stack_is) refl;
      reached = λ e. rw (since-push k log (own_of b.time k notes)) (at ∙ l.reached k inside);
      few = λ e. rw (own-push k log (own_of b.time k notes), of_self k) (let a = l.owes k inside in let left = l.keeps.live k inside in omega arith);
      at_tick = All-weaker (IsOwn k b.time) (λ n. time_of n ≡ b.time) (λ n p. p.0) notes own;
      no_entry = λ e. All-weaker (IsOwn k b.time) (λ n. is_entry n ≡ false) (λ n p. p.1) notes own;
      returns = λ e. back;
      gate_first = first;
      six = short;
      patient = calls;
    }

abbrev pub stepped_by : Kind → List Answer → Brain → Bank → Stepped
stepped_by k answers c b = kind_step k answers (counted_down c b) b

pub own_turn : (loaded : Loaded) (nest : Nest) (cost : ℕ) (trace : List Event) (c : Brain) (b : Bank) (outer : List Kind) (log : List Turned) (k : Kind)
    (answers : List Answer)
    → 1 ≤ cost → Given k (counted_down c b) answers → Logged loaded nest cost trace b.time c b (k ∷ outer) log
    → (b.masked ≡ false → next_entry nest (k ∷ outer) (due_now (waits_of c) b) ≡ None) → length (all_notes b k (stepped_by k answers c b)) ≤ most_notes
    → Logged loaded nest cost trace (b.time + cost) (stepped_by k answers c b).core (accessed b (stepped_by k answers c b).access)
    (open_left k outer (stepped_by k answers c b)) (log ++ own_of b.time k (all_notes b k (stepped_by k answers c b)) ∷ [])
own_turn loaded nest cost trace c b outer log k answers some given l none short =
    let s : Stepped = stepped_by k answers c b in
    let b' : Bank = accessed b s.access in
    let notes : List Note = all_notes b k s in
    let inside : is_open (k ∷ outer) k ≡ true = self_open k outer in
    let left : 0 < left_of c k = l.keeps.live k inside in
    let held : b.masked ≡ true → 0 < c.hold = (λ m. (let a = l.keeps.enough m k refl in let n = need_some k c in omega arith)) in
    let bound : Bounds k c b s = goes_bounds k answers c b left l.keeps.hold (steady k c b (k ∷ outer) l.keeps refl) in
    let step =
    step_made k answers loaded nest trace c b (made log) (notes_in log) outer (stood loaded nest cost trace b.time c b (k ∷ outer) log l)
    l.made_past
    (λ j above. l.keeps.shut j (closed_above (k ∷ outer) j l.sorted above)) (holds_alone c b k outer l.keeps) left given in
    logged_after loaded nest cost trace c s.core b b' (k ∷ outer) (open_left k outer s) log (own_of b.time k notes) some refl l (record {
      keeps = keeps_own k c b outer s l.sorted l.keeps bound;
      sorted = left_stack s.over k outer l.sorted;
      time = access_time b s.access;
      out = rw (made-push log (own_of b.time k notes)) step.0;
      patient =
          own_patient nest k outer (open_left k outer s) (due_now (waits_of c) b) (sees loaded trace (journal loaded log) b.time)
          (sees loaded trace (journal loaded (log ++ own_of b.time k notes ∷ [])) b.time) b.masked b'.masked c.hold s.core.hold (called loaded nest trace log)
          (λ m. sees_due loaded nest trace c b (k ∷ outer) log l.keeps (at_rest loaded nest cost trace b.time c b (k ∷ outer) log l) l.gates
          (unheld_down c b (k ∷ outer) l.keeps m)) none
          (left_goes s.over b'.masked k outer (mask_down k (need_of c k) c.hold b s bound.mask)) held (λ m. bound.mask.most) bound.mask.less l.patient;
      owes = own_owes c s.core outer log k b.time notes s.over l.owes bound.moves.less (λ j ne. (bound.moves.others j ne).0);
      reached = λ j o. reached_on cost trace log (own_of b.time k notes) j refl (l.at_next (λ e. cc)) (l.reached j (left_open s.over k j outer o));
      reached_by = λ j o t below.
          by_on cost trace log (own_of b.time k notes) j t refl (l.at_next (λ e. cc)) (l.reached j (left_open s.over k j outer o)) below;
      fits = own_fits loaded nest cost trace c b outer log k notes l step.1 step.2 step.4 short;
      drive = own_chops loaded nest trace c b s log k l.gates
          (subst (λ (ns : List Note). WordTold s.core b' (reverse (opening loaded ++ ns))) (sym (notes-push log (own_of b.time k notes))) step.0.gates)
          (l.ties kind.Comm).switches.sector_is step.3;
    })

-- the open kinds after it, by what the handler did
pub left_is : (k : Kind) (outer : List Kind) (did : Did) (v : Bool) → is_return did ≡ v → open_after k outer did ≡ (if v then outer else k ∷ outer)
left_is k outer (More own) v e = rw (sym e) refl
left_is k outer (Return own) v e = rw (sym e) refl
