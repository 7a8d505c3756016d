-- The wrong steps break the rules of steps.
use Rattle.std.proofs.Common.{◌≡◌, ◌<◌, ◌≤◌, ◌+◌, ℕ, true, false, List, [], ◌∷◌, ◌++◌, All, Some, refl, sym, ◌∙◌, ap, subst, arith, append-nil, append_assoc}
use Rattle.std.proofs.lemmas.List.Elements.{All-nil, All-cons, All-head, All-tail}
use Rattle.esc_base.specs.declared.kind.Kind.TheVariants as kind
use Rattle.esc_base.specs.declared.event.Event.{Event}
use Rattle.esc_base.specs.declared.event.Event.TheVariants as event
use Rattle.esc_base.specs.declared.note.Note.{Note}
use Rattle.esc_base.specs.declared.note.Note.TheVariants as note
use Rattle.esc_base.specs.Journal.{time_of}
use Rattle.esc_base.specs.Numbers.{as_tick, kind_number}
use Rattle.esc_base.specs.Trace.{line}
use Rattle.edge_capture.specs.Burst.{burst}
use Rattle.settings_block.specs.declared.stored.Loaded.{Loaded}
use Rattle.interrupt_machine.specs.declared.nest.Nest.{Nest}
use Rattle.interrupt_machine.specs.declared.nest.Nest.TheVariants.{Full}
use Rattle.interrupt_machine.specs.Open.{innermost}
use Rattle.esc_laws.specs.Place.{place}
use Rattle.esc_laws.specs.Rested.{first_rested}
use Rattle.esc_laws.specs.Seen.{sees}
use Rattle.esc_laws.specs.Steps.{Turned, opening, notes_in, journal, open_in, free, after, called, is_entry, is_gate, EachStep, StepFits, Awaits}
use Rattle.esc_laws.specs.refused.Notes.{enters, leaves, switches, ticks}
use Rattle.esc_laws.specs.refused.Steps.{entry, own, two_edges, cap_waits, two_later_edges, cap_rests, drive_waits, drive_starts, StepsRefuse}
use Rattle.esc_laws.proofs.Pushes.{journal-push, after-push, after-none, free-none, own-push}
use Rattle.esc_laws.proofs.Stalls.{free_later}

pub none_open : (loaded : Loaded) → open_in loaded [] ≡ []
unfolding place
none_open loaded = refl

from_0 : (cost : ℕ) → after cost [] [] ≡ 0
from_0 cost = after-none cost [] ∙ free-none 0

stalled : free (event.Stall (as_tick 100) 50 ∷ []) 120 ≡ 150
unfolding free
stalled = refl

stalled_at_once : free (event.Stall (as_tick 120) 50 ∷ []) 120 ≡ 170
unfolding free
stalled_at_once = refl

rested_open : (loaded : Loaded) → open_in loaded cap_rests ≡ []
unfolding place
rested_open loaded = refl

rested_after : (cost : ℕ) → after cost two_later_edges cap_rests ≡ 5002 + cost
unfolding after free
rested_after cost = refl

no_stall : (t : ℕ) → free two_later_edges t ≡ t
unfolding free
no_stall t = refl

calls_again : (loaded : Loaded) → sees loaded two_later_edges (journal loaded cap_rests) 6202 kind.Cap ≡ true
unfolding place line burst first_rested
calls_again loaded = refl

not_so_late : (loaded : Loaded) (nest : Nest) (cost : ℕ) → cost ≤ 1200 → StepFits loaded nest cost two_later_edges cap_rests (entry 6203 kind.Cap) → ⊥
not_so_late loaded nest cost le f =
    let from = rested_after cost in
    let z : true ≡ false = sym (calls_again loaded) ∙ f.idle (rested_open loaded) 6202 (omega arith) (omega arith) (no_stall 6202) kind.Cap in
    absurd (cc)

tick_open : (loaded : Loaded) → open_in loaded (entry 2400 kind.Tick ∷ []) ≡ kind.Tick ∷ []
unfolding place
tick_open loaded = refl

after_entry : after 2 [] (entry 2400 kind.Tick ∷ []) ≡ 2402
unfolding after free
after_entry = refl

late : (loaded : Loaded) (nest : Nest) → StepFits loaded nest 2 [] (entry 2400 kind.Tick ∷ []) (own 2404 kind.Tick []) → ⊥
late loaded nest f =
    let at = f.open_step (λ o. (let z : kind.Tick ∷ [] ≡ [] = sym (tick_open loaded) ∙ o in cc)) in
    let next = after_entry in
    omega arith

waited : (loaded : Loaded) → called loaded Full two_edges cap_waits kind.Cap ≡ 9
unfolding called place line burst
waited loaded = refl

before_cost : (cost : ℕ) (trace : List Event) (before : List Turned) (e later : Turned) → later.tick < e.tick + cost
    → after cost trace (before ++ e ∷ []) ≤ later.tick → ⊥
before_cost cost trace before e later lt le =
    let next = after-push cost trace before e in
    let past = free_later trace (e.tick + cost) in
    omega arith

drive_called : (loaded : Loaded) → called loaded Full [] drive_waits kind.Comm ≡ 9
unfolding called place line
drive_called loaded = refl

drive_called_pwm : (loaded : Loaded) → called loaded Full [] drive_waits kind.Pwm ≡ 9
unfolding called place line
drive_called_pwm loaded = refl

started_open : (loaded : Loaded) → open_in loaded drive_starts ≡ []
unfolding place
started_open loaded = refl

started_after : after 2 [] drive_starts ≡ 2404
unfolding after free
started_after = refl

-- with no event and no step, control tick 1 is due at 2400
no_log : (loaded : Loaded) (nest : Nest) (cost : ℕ) (log : List Turned) → [] ≡ notes_in log → EachStep (StepFits loaded nest cost []) [] log
    → Awaits loaded cost [] 2401 log → ⊥
no_log loaded nest cost [] none fits made =
    let from = from_0 cost in
    let z : true ≡ false = made.idle (none_open loaded) 2400 (omega arith) (omega arith) (free-none 2400) kind.Tick in
    absurd (cc)
no_log loaded nest cost (e ∷ log) none fits made =
    let i : e.notes ≡ note.Enter (as_tick e.tick) (kind_number e.kind) ∷ [] = fits.0.entry (fits.0.first (none_open loaded)).0 in
    let z : [] ≡ (note.Enter (as_tick e.tick) (kind_number e.kind) ∷ []) ++ notes_in log = none ∙ ap (λ (ns : List Note). ns ++ notes_in log) i in
    absurd (cc)

rest_is : (loaded : Loaded) (rest : List Note) → opening loaded ≡ opening loaded ++ rest → [] ≡ rest
rest_is loaded rest e = cc

-- ---- a window's close is left out

abbrev ticked : List Note
ticked = enters 2400 2 ∷ ticks 2402 1 0 0 ∷ leaves 2402 2 ∷ []

closed_in_time : All (λ n. time_of n ≤ 2402) ticked
closed_in_time =
    All-cons (λ n. time_of n ≤ 2402) (enters 2400 2) (ticks 2402 1 0 0 ∷ leaves 2402 2 ∷ []) (omega arith)
    (All-cons (λ n. time_of n ≤ 2402) (ticks 2402 1 0 0) (leaves 2402 2 ∷ []) (omega arith)
    (All-cons (λ n. time_of n ≤ 2402) (leaves 2402 2) [] (omega arith) (All-nil (λ n. time_of n ≤ 2402))))

none_left : (loaded : Loaded) → (place (opening loaded ++ ticked)).stack ≡ []
unfolding place
none_left loaded = refl

calls_cap_now : (loaded : Loaded) → sees loaded two_edges (opening loaded ++ ticked) 4200 kind.Cap ≡ true
unfolding place line burst
calls_cap_now loaded = refl

pub no_stall_there : (t : ℕ) → free two_edges t ≡ t
unfolding free
no_stall_there t = refl

-- a step without a note leaves a kind open
has_note : (loaded : Loaded) (nest : Nest) (cost : ℕ) (trace : List Event) (before : List Turned) (e : Turned) → StepFits loaded nest cost trace before e
    → open_in loaded (before ++ e ∷ []) ≡ [] → e.notes ≡ [] → ⊥
has_note loaded nest cost trace before e f none silent =
    let same : journal loaded (before ++ e ∷ []) ≡ journal loaded before =
    journal-push loaded before e ∙ ap (λ (ns : List Note). journal loaded before ++ ns) silent ∙ append-nil (journal loaded before) in
    let idle : open_in loaded before ≡ [] = ap (λ (ns : List Note). (place ns).stack) (sym same) ∙ none in
    let one : e.notes ≡ note.Enter (as_tick e.tick) (kind_number e.kind) ∷ [] = f.entry (f.first idle).0 in
    let z : [] ≡ note.Enter (as_tick e.tick) (kind_number e.kind) ∷ [] = sym silent ∙ one in
    cc

-- where no kind is open, the newest step stands at the newest note
ends_by : (loaded : Loaded) (nest : Nest) (cost t : ℕ) (before : List Turned) (e : Turned) (log : List Turned)
    → EachStep (StepFits loaded nest cost two_edges) before (e ∷ log) → open_in loaded (before ++ e ∷ log) ≡ []
    → All (λ n. time_of n ≤ t) (notes_in (e ∷ log)) → after cost two_edges (before ++ e ∷ log) ≤ t + cost
ends_by loaded nest cost t before e [] fits none past =
    let at : e.tick ≤ t = by_notes e.notes refl in
    rw (after-push cost two_edges before e, no_stall_there (e.tick + cost)) (omega arith)
  where
    by_notes : (ns : List Note) → e.notes ≡ ns → e.tick ≤ t
    by_notes [] s = absurd (has_note loaded nest cost two_edges before e fits.0 none s)
    by_notes (n ∷ ns) s =
        let a : time_of n ≤ t = All-head (λ m. time_of m ≤ t) n (ns ++ []) (subst (λ (x : List Note). All (λ m. time_of m ≤ t) (x ++ [])) s past) in
        let b : time_of n ≡ e.tick = All-head (λ m. time_of m ≡ e.tick) n ns (subst (λ (x : List Note). All (λ m. time_of m ≡ e.tick) x) s fits.0.at_tick) in
        omega arith
ends_by loaded nest cost t before e (next ∷ log) fits none past =
    subst (λ (l : List Turned). after cost two_edges l ≤ t + cost) (append_assoc before (e ∷ []) (next ∷ log))
    (ends_by loaded nest cost t (before ++ e ∷ []) next log fits.1
    (subst (λ (l : List Turned). open_in loaded l ≡ []) (sym (append_assoc before (e ∷ []) (next ∷ log))) none)
    (all_rest e.notes (notes_in (next ∷ log)) past))
  where
    all_rest : (xs ys : List Note) → All (λ n. time_of n ≤ t) (xs ++ ys) → All (λ n. time_of n ≤ t) ys
    all_rest [] ys a = a
    all_rest (x ∷ xs) ys a = all_rest xs ys (All-tail (λ n. time_of n ≤ t) x (xs ++ ys) a)

no_close : (loaded : Loaded) (nest : Nest) (cost : ℕ) (log : List Turned) → cost ≤ 16 → ticked ≡ notes_in log
    → EachStep (StepFits loaded nest cost two_edges) [] log → Awaits loaded cost two_edges 4201 log → ⊥
no_close loaded nest cost [] le same fits made = cc
no_close loaded nest cost (e ∷ log) le same fits made =
    let whole : opening loaded ++ ticked ≡ journal loaded (e ∷ log) = ap (λ (ns : List Note). opening loaded ++ ns) same in
    let none : open_in loaded (e ∷ log) ≡ [] = ap (λ (ns : List Note). (place ns).stack) (sym whole) ∙ none_left loaded in
    let ends = ends_by loaded nest cost 2402 [] e log fits none (subst (λ (ns : List Note). All (λ n. time_of n ≤ 2402) ns) same closed_in_time) in
    let f = made.idle none 4200 (omega arith) (omega arith) (no_stall_there 4200) kind.Cap in
    let c : sees loaded two_edges (journal loaded (e ∷ log)) 4200 kind.Cap ≡ true =
    subst (λ (ns : List Note). sees loaded two_edges ns 4200 kind.Cap ≡ true) whole (calls_cap_now loaded) in
    let z : true ≡ false = sym c ∙ f in
    absurd (cc)

ticked_is : (loaded : Loaded) (rest : List Note) → opening loaded ++ ticked ≡ opening loaded ++ rest → ticked ≡ rest
ticked_is loaded rest e = cc

-- ---- a step that was due before the one that was broken off

not_first : (loaded : Loaded) (nest : Nest) (cost : ℕ) (e : Turned) → StepFits loaded nest cost [] [] e → e.tick ≡ 4800 → ⊥
not_first loaded nest cost e f at =
    let from = from_0 cost in
    let z : true ≡ false = f.idle (none_open loaded) 2400 (omega arith) (omega arith) (free-none 2400) kind.Tick in
    absurd (cc)

first_time : (n m : Note) (xs ys : List Note) → n ∷ xs ≡ m ∷ ys → time_of n ≡ time_of m
first_time n m xs ys e = ap time_of (head n m xs ys e)
  where
    head : (n m : Note) (xs ys : List Note) → n ∷ xs ≡ m ∷ ys → n ≡ m
    head n m xs ys e = cc

no_break : (loaded : Loaded) (nest : Nest) (cost : ℕ) (log : List Turned) (broken : Turned) (front left_out : List Note) → broken.notes ≡ front ++ left_out
    → enters 4800 2 ∷ [] ≡ notes_in log ++ front → EachStep (StepFits loaded nest cost []) [] (log ++ broken ∷ []) → ⊥
no_break loaded nest cost [] broken front left_out split same fits =
    let one : broken.notes ≡ note.Enter (as_tick broken.tick) (kind_number broken.kind) ∷ [] = fits.0.entry (fits.0.first (none_open loaded)).0 in
    let both : enters 4800 2 ∷ left_out ≡ note.Enter (as_tick broken.tick) (kind_number broken.kind) ∷ [] =
    ap (λ (ns : List Note). ns ++ left_out) same ∙ sym split ∙ one in
    not_first loaded nest cost broken fits.0
    (sym (first_time (enters 4800 2) (note.Enter (as_tick broken.tick) (kind_number broken.kind)) left_out [] both))
no_break loaded nest cost (e ∷ log) broken front left_out split same fits =
    let one : e.notes ≡ note.Enter (as_tick e.tick) (kind_number e.kind) ∷ [] = fits.0.entry (fits.0.first (none_open loaded)).0 in
    let both : enters 4800 2 ∷ [] ≡ note.Enter (as_tick e.tick) (kind_number e.kind) ∷ (notes_in log ++ front) =
    same ∙ ap (λ (ns : List Note). (ns ++ notes_in log) ++ front) one in
    not_first loaded nest cost e fits.0
    (sym (first_time (enters 4800 2) (note.Enter (as_tick e.tick) (kind_number e.kind)) [] (notes_in log ++ front) both))

front_is : (loaded : Loaded) (rest : List Note) → opening loaded ++ enters 4800 2 ∷ [] ≡ opening loaded ++ rest → enters 4800 2 ∷ [] ≡ rest
front_is loaded rest e = cc

pub steps_refuse : StepsRefuse
steps_refuse = record {
  entry_without_its_note = λ trace before loaded nest cost f. (let e = f.entry refl in absurd (cc));
  entry_that_returns_at_once = λ trace before loaded nest cost f. (let e = f.entry refl in absurd (cc));
  entry_within_a_step =
      λ trace before loaded nest cost f. (let e : true ≡ false = All-head (λ n. is_entry n ≡ false) (enters 2402 3) [] (f.no_entry refl) in absurd (cc));
  save_within_a_step_of_tick = λ trace before loaded nest cost f. (let e = (f.returns refl).1 in absurd (cc));
  return_of_another_kind = λ trace before loaded nest cost f. (let e = (f.returns refl).0 in absurd (omega arith));
  note_at_another_tick = λ trace before loaded nest cost f. (let e = All-head (λ n. time_of n ≡ 2404) (ticks 2406 1 0 0) [] f.at_tick in absurd (omega arith));
  gate_behind_a_turn = λ trace before loaded nest cost f. (
      let e : true ≡ false = All-head (λ m. is_gate m ≡ false) (switches 2404 0 2) [] f.gate_first in absurd (cc));
  low_switch_off_and_on = λ trace before loaded nest cost f. (
      let e : true ≡ false = All-head (λ m. is_gate m ≡ false) (switches 2404 0 2) [] f.gate_first in absurd (cc));
  seven_notes = λ trace before a b c d e f g loaded nest cost s. (let few = s.six in absurd (omega arith));
  step_of_another_kind = λ trace loaded nest cost f. (
      let e = f.own refl in let t = tick_open loaded in let z : Some kind.Tick ≡ Some kind.Cap = ap innermost (sym t) ∙ e in cc);
  own_step_where_none_is_open = λ trace loaded nest cost f. (let e = (f.first (none_open loaded)).0 in absurd (cc));
  main_enters_before_tick = λ loaded nest cost f. (let e = (f.first (none_open loaded)).1 kind.Tick refl in absurd (omega arith));
  tick_enters_a_tick_late = λ loaded nest cost f. (
      let from = from_0 cost in
      let z : true ≡ false = f.idle (none_open loaded) 2400 (omega arith) (omega arith) (free-none 2400) kind.Tick in
      absurd (cc));
  cap_enters_late_after_nothing = not_so_late;
  own_step_late = late;
  step_before_the_cost = λ loaded nest cost trace before e later lt f. before_cost cost trace before e later lt f.later;
  step_at_the_start_of_a_stall = λ before loaded nest cost f. (let e = f.free_at in let s = stalled_at_once in absurd (omega arith));
  step_in_a_stall = λ before loaded nest cost f. (let e = f.free_at in let s = stalled in absurd (omega arith));
  step_49_of_tick = λ trace before t notes all loaded nest cost f. (let most = f.few refl in let next = own-push kind.Tick before
      (own t kind.Tick notes) in absurd (omega arith));
  open_after_48_steps = λ loaded log open_is all few. (let fewer = few kind.Tick (rw open_is refl) in absurd (omega arith));
  cap_waits_for_nine_steps = λ loaded cost each. (let most = each.1.1.1.1.1.1.1.1.1.0.patient kind.Cap in let nine = waited loaded in absurd (omega arith));
  comm_waits_for_nine_steps = λ loaded cost each. (let most = each.1.1.1.1.1.1.1.1.1.1.0.patient kind.Comm in let nine =
      drive_called loaded in absurd (omega arith));
  pwm_waits_for_nine_steps = λ loaded cost each. (let most = each.1.1.1.1.1.1.1.1.1.1.0.patient kind.Pwm in let nine =
      drive_called_pwm loaded in absurd (omega arith));
  pwm_enters_before_comm = λ loaded nest cost f. (let e = (f.first (started_open loaded)).1 kind.Comm refl in absurd (omega arith));
  start_waits_for_a_step = λ loaded nest f. (
      let from = started_after in
      let z : true ≡ false = f.idle (started_open loaded) 2404 (omega arith) (omega arith) (free-none 2404) kind.Comm in
      absurd (cc));
  closed_window_left_out = λ loaded nest cost le l. no_close loaded nest cost l.log le (ticked_is loaded l.rest l.begins ∙ l.steps_are) l.fits l.all_made;
  broken_step_too_late = λ loaded nest cost l. no_break loaded nest cost l.log l.broken l.front l.left_out l.split
      (front_is loaded (notes_in l.log ++ l.front) (l.notes_are ∙ append_assoc (opening loaded) (notes_in l.log) l.front)) l.fits;
  control_tick_left_out = λ loaded nest cost l. no_log loaded nest cost l.log (rest_is loaded l.rest l.begins ∙ l.steps_are) l.fits l.all_made;
}
