-- The small legal journals: the first by what a run that has made no step carries, the others step by step.
use Rattle.std.proofs.Common.{◌≡◌, ◌<◌, ◌≤◌, ◌+◌, ◌*◌, ◌/◌, inl, ℕ, true, false, nat_lt, nat_le, List, [], ◌∷◌, ◌++◌, reverse, refl, sym, ◌∙◌, subst, arith, lit<, All}
use Rattle.std.proofs.lemmas.Bool.{le-ltb}
use Rattle.std.proofs.lemmas.Bool.Decides.{nat_tests}
use Rattle.std.proofs.lemmas.List.Elements.{All-nil, All-cons, All-push}
use Rattle.esc_base.specs.declared.kind.Kind.{Kind}
use Rattle.esc_base.specs.declared.kind.Kind.TheVariants as kind
use Rattle.esc_base.specs.declared.note.Note.{Note}
use Rattle.esc_base.specs.declared.note.Note.TheVariants as note
use Rattle.esc_base.specs.Journal.{time_of}
use Rattle.esc_base.specs.Numbers.{kind_number, mode_of, as_tick}
use Rattle.esc_base.specs.Range.{InRange}
use Rattle.esc_base.specs.Trace.{line}
use Rattle.edge_capture.specs.Burst.{burst}
use Rattle.servo_input.specs.declared.servo.Servo.{Servo}
use Rattle.servo_input.specs.declared.servo.InputKind.{InputKind}
use Rattle.servo_input.specs.declared.servo.InputKind.TheVariants as input
use Rattle.input_detect.specs.Judge.{judged}
use Rattle.settings_block.specs.declared.stored.Loaded.{Loaded}
use Rattle.settings_block.specs.Settings.{servo_of}
use Rattle.interrupt_machine.specs.declared.nest.Nest.{Nest}
use Rattle.interrupt_machine.specs.declared.nest.Nest.TheVariants.{One, Full}
use Rattle.interrupt_machine.specs.Open.{is_open}
use Rattle.arming.specs.Controlled.{Controlled}
use Rattle.esc_laws.specs.Place.{place}
use Rattle.esc_laws.specs.Seen.{sees}
use Rattle.esc_laws.specs.Windowed.{verdict_note, Answers, WindowRule}
use Rattle.esc_laws.specs.Replied.{HasReplied}
use Rattle.esc_laws.specs.Saves.{advance_of}
use Rattle.esc_laws.specs.Asked.{AskRule}
use Rattle.esc_laws.specs.Nested.{IsAboveAll, NestRule}
use Rattle.esc_laws.specs.Steps.{Turned, opening, load_number, journal, open_in, free, after, uses, own_steps, steps_since, entered_at, called, is_entry, is_gate, StepFits, OpenFew}
use Rattle.esc_laws.specs.Legal.{Legal}
use Rattle.esc_laws.specs.Chopped.{disturbs}
use Rattle.esc_laws.specs.refused.Notes.{enters, leaves, nothing, ticks}
use Rattle.esc_laws.specs.refused.Steps.{entry, own, two_edges}
use Rattle.esc_laws.specs.allowed.Journals.{tick_and_verdict, SomeAreLegal}
use Rattle.esc_laws.specs.Said.{Said}
use Rattle.esc_laws.proofs.Notes.{said_push, lawful_of}
use Rattle.esc_laws.proofs.Opening.{first_in_range, start_said}
use Rattle.esc_laws.proofs.ChopFront.{chopped_none}
use Rattle.esc_laws.proofs.refused.Steps.{none_open, no_stall_there}
use Rattle.esc_laws.specs.NoteLaw as owed

-- no Q stands in them, and no step of COMM
none_opening : (loaded : Loaded) → All (λ n. disturbs n ≡ false) (opening loaded)
none_opening loaded = All-cons (λ n. disturbs n ≡ false) (note.Up (as_tick 0) (load_number loaded.fault)) (note.Window (as_tick 0) 0 ∷ []) refl
    (All-cons (λ n. disturbs n ≡ false) (note.Window (as_tick 0) 0) [] refl (All-nil (λ n. disturbs n ≡ false)))

none_one : (loaded : Loaded) → All (λ n. disturbs n ≡ false) (opening loaded ++ enters 2400 2 ∷ [])
none_one loaded = All-push (λ n. disturbs n ≡ false) (opening loaded) (enters 2400 2) (none_opening loaded) refl

none_all : (loaded : Loaded) → All (λ n. disturbs n ≡ false) (opening loaded ++ tick_and_verdict)
none_all loaded =
    let start : List Note = opening loaded ++ enters 2400 2 ∷ [] in
    let k : List Note = start ++ ticks 2402 1 0 0 ∷ [] in
    let o : List Note = k ++ leaves 2402 2 ∷ [] in
    let i : List Note = o ++ enters 4200 3 ∷ [] in
    let f : List Note = i ++ nothing 4202 ∷ [] in
    let quiet : Note → Type 0 = λ n. disturbs n ≡ false in
    All-push quiet f (leaves 4202 3)
    (All-push quiet i (nothing 4202)
    (All-push quiet o (enters 4200 3)
    (All-push quiet k (leaves 2402 2)
    (All-push quiet start (ticks 2402 1 0 0) (none_one loaded) refl)
    refl)
    refl)
    refl)
    refl

no_time : (loaded : Loaded) (nest : Nest) (cost : ℕ) → Legal loaded nest cost [] 0 (opening loaded)
no_time loaded nest cost =
    let said = start_said loaded nest [] 0 in
    record {
      rest = [];
      begins = refl;
      in_range = first_in_range loaded.fault;
      in_time = said.in_time;
      lawful = lawful_of loaded nest [] [] said.keeps;
      controlled = (record { paid = refl; tick = tt; save = tt }, (record { paid = refl; tick = tt; save = tt }, tt));
      chopped = λ full. chopped_none cost [] 0 (opening loaded) (none_opening loaded);
      log = [];
      steps_are = refl;
      fits = tt;
      below = All-nil (λ (e : Turned). e.tick < 0);
      all_made = record { open_step = λ o. omega arith; idle = λ o t le lt. absurd (omega arith) };
      open_few = λ k o. absurd (let z : is_open [] k ≡ true = subst (λ (st : List Kind). is_open st k ≡ true) (none_open loaded) o in cc);
    }

-- ---- the steps

abbrev tick_in : Turned
tick_in = entry 2400 kind.Tick

abbrev tick_out : Turned
tick_out = own 2402 kind.Tick (ticks 2402 1 0 0 ∷ leaves 2402 2 ∷ [])

abbrev cap_in : Turned
cap_in = entry 4200 kind.Cap

abbrev cap_out : Turned
cap_out = own 4202 kind.Cap (nothing 4202 ∷ leaves 4202 3 ∷ [])

abbrev one : List Turned
one = tick_in ∷ []

abbrev two : List Turned
two = tick_in ∷ tick_out ∷ []

abbrev three : List Turned
three = tick_in ∷ tick_out ∷ cap_in ∷ []

abbrev four : List Turned
four = tick_in ∷ tick_out ∷ cap_in ∷ cap_out ∷ []

after_none : after 2 two_edges [] ≡ 0
unfolding after free
after_none = refl

after_one : after 2 two_edges one ≡ 2402
unfolding after free
after_one = refl

after_two : after 2 two_edges two ≡ 2404
unfolding after free
after_two = refl

after_three : after 2 two_edges three ≡ 4202
unfolding after free
after_three = refl

after_four : after 2 two_edges four ≡ 4204
unfolding after free
after_four = refl

open_one : (loaded : Loaded) → open_in loaded one ≡ kind.Tick ∷ []
unfolding place
open_one loaded = refl

open_two : (loaded : Loaded) → open_in loaded two ≡ []
unfolding place
open_two loaded = refl

open_three : (loaded : Loaded) → open_in loaded three ≡ kind.Cap ∷ []
unfolding place
open_three loaded = refl

open_four : (loaded : Loaded) → open_in loaded four ≡ []
unfolding place
open_four loaded = refl

-- no tick is due before the next one, and the window isn't closed before 4200
tick_not_due : (n t : ℕ) → t < (n + 1) * 2400 → nat_lt n (t / 2400) ≡ false
tick_not_due n t lt = le-ltb n (t / 2400) (omega arith)

not_closed : (t : ℕ) → t < 4200 → nat_le 4200 t ≡ false
not_closed t lt = grind (arith, nat_tests)

none_due : (loaded : Loaded) (t : ℕ) (k : Kind) → t < 2400 → sees loaded two_edges (journal loaded []) t k ≡ false
unfolding place line burst
none_due loaded t kind.Tick lt = tick_not_due 0 t (omega arith)
none_due loaded t kind.Cap lt = not_closed t (omega arith)
none_due loaded t k lt = refl

none_due_later : (loaded : Loaded) (t : ℕ) (k : Kind) → t < 4200 → sees loaded two_edges (journal loaded two) t k ≡ false
unfolding place line burst
none_due_later loaded t kind.Tick lt = tick_not_due 1 t (omega arith)
none_due_later loaded t kind.Cap lt = not_closed t lt
none_due_later loaded t k lt = refl

tick_highest : (loaded : Loaded) (k : Kind) → sees loaded two_edges (journal loaded []) 2400 k ≡ true → kind_number k ≤ 2
unfolding place line burst
tick_highest loaded kind.Tick s = omega arith
tick_highest loaded k s = cc

cap_highest : (loaded : Loaded) (k : Kind) → sees loaded two_edges (journal loaded two) 4200 k ≡ true → kind_number k ≤ 3
unfolding place line burst
cap_highest loaded kind.Cap s = omega arith
cap_highest loaded k s = cc

none_waits_one : (loaded : Loaded) (nest : Nest) (k : Kind) → called loaded nest two_edges one k ≡ 0
unfolding called place line burst
none_waits_one loaded nest kind.Main = refl
none_waits_one loaded nest k = refl

none_waits_two : (loaded : Loaded) (nest : Nest) (k : Kind) → called loaded nest two_edges two k ≡ 0
unfolding called place line burst
none_waits_two loaded nest kind.Main = refl
none_waits_two loaded nest k = refl

none_waits_three : (loaded : Loaded) (nest : Nest) (k : Kind) → called loaded nest two_edges three k ≡ 0
unfolding called place line burst
none_waits_three loaded nest kind.Main = refl
none_waits_three loaded nest k = refl

none_waits_four : (loaded : Loaded) (nest : Nest) (k : Kind) → called loaded nest two_edges four k ≡ 0
unfolding called place line burst
none_waits_four loaded nest kind.Main = refl
none_waits_four loaded nest k = refl

fits_tick_in : (loaded : Loaded) (nest : Nest) → StepFits loaded nest 2 two_edges [] tick_in
fits_tick_in loaded nest =
    let from = after_none in
    record {
      later = omega arith;
      free_at = no_stall_there 2400;
      open_step = λ o. absurd (o (none_open loaded));
      idle = λ o t le lt f k. none_due loaded t k lt;
      first = λ o. (refl, λ k s. tick_highest loaded k s);
      entry = λ e. refl;
      own = λ e. cc;
      reached = λ e. cc;
      few = λ e. cc;
      at_tick = All-cons (λ n. time_of n ≡ 2400) (enters 2400 2) [] refl (All-nil (λ n. time_of n ≡ 2400));
      no_entry = λ e. cc;
      returns = λ e. cc;
      gate_first = All-nil (λ m. is_gate m ≡ false);
      six = omega arith;
      patient = λ k. (let none = none_waits_one loaded nest k in omega arith);
    }

reached_tick_out : 2402 ≡ uses 2 two_edges (steps_since kind.Tick two) (entered_at kind.Tick one)
unfolding steps_since entered_at free
reached_tick_out = refl

once_tick_out : own_steps kind.Tick two ≡ 1
unfolding own_steps
once_tick_out = refl

fits_tick_out : (loaded : Loaded) (nest : Nest) → StepFits loaded nest 2 two_edges one tick_out
fits_tick_out loaded nest =
    let from = after_one in
    let made = once_tick_out in
    record {
      later = omega arith;
      free_at = no_stall_there 2402;
      open_step = λ o. sym from;
      idle = λ o. absurd (let z : kind.Tick ∷ [] ≡ [] = sym (open_one loaded) ∙ o in cc);
      first = λ o. absurd (let z : kind.Tick ∷ [] ≡ [] = sym (open_one loaded) ∙ o in cc);
      entry = λ e. cc;
      own = λ e. rw (open_one loaded) refl;
      reached = λ e. reached_tick_out;
      few = λ e. omega arith;
      at_tick = All-cons (λ n. time_of n ≡ 2402) (ticks 2402 1 0 0) (leaves 2402 2 ∷ []) refl
          (All-cons (λ n. time_of n ≡ 2402) (leaves 2402 2) [] refl (All-nil (λ n. time_of n ≡ 2402)));
      no_entry = λ e. All-cons (λ n. is_entry n ≡ false) (ticks 2402 1 0 0) (leaves 2402 2 ∷ []) refl
          (All-cons (λ n. is_entry n ≡ false) (leaves 2402 2) [] refl (All-nil (λ n. is_entry n ≡ false)));
      returns = λ e. (refl, refl);
      gate_first = All-cons (λ m. is_gate m ≡ false) (leaves 2402 2) [] refl (All-nil (λ m. is_gate m ≡ false));
      six = omega arith;
      patient = λ k. (let none = none_waits_two loaded nest k in omega arith);
    }

fits_cap_in : (loaded : Loaded) (nest : Nest) → StepFits loaded nest 2 two_edges two cap_in
fits_cap_in loaded nest =
    let from = after_two in
    record {
      later = omega arith;
      free_at = no_stall_there 4200;
      open_step = λ o. absurd (o (open_two loaded));
      idle = λ o t le lt f k. none_due_later loaded t k lt;
      first = λ o. (refl, λ k s. cap_highest loaded k s);
      entry = λ e. refl;
      own = λ e. cc;
      reached = λ e. cc;
      few = λ e. cc;
      at_tick = All-cons (λ n. time_of n ≡ 4200) (enters 4200 3) [] refl (All-nil (λ n. time_of n ≡ 4200));
      no_entry = λ e. cc;
      returns = λ e. cc;
      gate_first = All-nil (λ m. is_gate m ≡ false);
      six = omega arith;
      patient = λ k. (let none = none_waits_three loaded nest k in omega arith);
    }

reached_cap_out : 4202 ≡ uses 2 two_edges (steps_since kind.Cap four) (entered_at kind.Cap three)
unfolding steps_since entered_at free
reached_cap_out = refl

once_cap_out : own_steps kind.Cap four ≡ 1
unfolding own_steps
once_cap_out = refl

fits_cap_out : (loaded : Loaded) (nest : Nest) → StepFits loaded nest 2 two_edges three cap_out
fits_cap_out loaded nest =
    let from = after_three in
    let made = once_cap_out in
    record {
      later = omega arith;
      free_at = no_stall_there 4202;
      open_step = λ o. sym from;
      idle = λ o. absurd (let z : kind.Cap ∷ [] ≡ [] = sym (open_three loaded) ∙ o in cc);
      first = λ o. absurd (let z : kind.Cap ∷ [] ≡ [] = sym (open_three loaded) ∙ o in cc);
      entry = λ e. cc;
      own = λ e. rw (open_three loaded) refl;
      reached = λ e. reached_cap_out;
      few = λ e. omega arith;
      at_tick = All-cons (λ n. time_of n ≡ 4202) (nothing 4202) (leaves 4202 3 ∷ []) refl
          (All-cons (λ n. time_of n ≡ 4202) (leaves 4202 3) [] refl (All-nil (λ n. time_of n ≡ 4202)));
      no_entry = λ e. All-cons (λ n. is_entry n ≡ false) (nothing 4202) (leaves 4202 3 ∷ []) refl
          (All-cons (λ n. is_entry n ≡ false) (leaves 4202 3) [] refl (All-nil (λ n. is_entry n ≡ false)));
      returns = λ e. (refl, refl);
      gate_first = All-cons (λ m. is_gate m ≡ false) (leaves 4202 3) [] refl (All-nil (λ m. is_gate m ≡ false));
      six = omega arith;
      patient = λ k. (let none = none_waits_four loaded nest k in omega arith);
    }

-- ---- the notes

above_none : (nest : Nest) (k : ℕ) → IsAboveAll nest [] k
above_none Full k = All-nil (λ j. kind_number j < k)
above_none One k = All-nil (λ j. (kind_number j ≡ 0) × (0 < k))

said_at : (loaded : Loaded) (nest : Nest) (t u : ℕ) (rest : List Note) → t ≤ u → Said loaded nest two_edges t rest → Said loaded nest two_edges u rest
said_at loaded nest t u rest le s =
    record {
      in_time = s.in_time;
      keeps = s.keeps;
      past = λ k d l. (let a = s.past k d l in omega arith);
    }

sees_nothing : (allowed : InputKind) (servo : Servo) (t : ℕ)
    → nothing t ≡ verdict_note t (judged (mode_of 0) (burst (line two_edges).edges 0 (mode_of 0)) allowed servo)
unfolding line burst
sees_nothing input.Any servo t = refl
sees_nothing input.DShot servo t = refl
sees_nothing input.Servo servo t = refl

answers : (loaded : Loaded) → Answers loaded two_edges 0 0 4200 4202 (nothing 4202)
unfolding line burst
answers loaded = record {
  closed_at = 4200;
  closes = refl;
  waits = omega arith;
  entered_before = omega arith;
  verdict_is =
      sees_nothing loaded.settings.input (servo_of loaded.settings) 4202;
}

rules_1 : (loaded : Loaded) (nest : Nest)
    → WindowRule loaded two_edges (opening loaded ++ ([])) (enters 2400 2) × NestRule (advance_of loaded.settings) nest (opening loaded ++ ([])) (enters 2400 2)
unfolding place
rules_1 loaded nest = (tt, (tt, above_none nest 2))

rules_2 : (loaded : Loaded) (nest : Nest)
    → WindowRule loaded two_edges (opening loaded ++ (enters 2400 2 ∷ [])) (ticks 2402 1 0 0)
    × NestRule (advance_of loaded.settings) nest (opening loaded ++ (enters 2400 2 ∷ [])) (ticks 2402 1 0 0)
unfolding place
rules_2 loaded nest = (tt, refl)

rules_3 : (loaded : Loaded) (nest : Nest)
    → WindowRule loaded two_edges (opening loaded ++ (enters 2400 2 ∷ ticks 2402 1 0 0 ∷ [])) (leaves 2402 2)
    × NestRule (advance_of loaded.settings) nest (opening loaded ++ (enters 2400 2 ∷ ticks 2402 1 0 0 ∷ [])) (leaves 2402 2)
unfolding place
rules_3 loaded nest = (λ e. cc, (refl, refl))

rules_4 : (loaded : Loaded) (nest : Nest)
    → WindowRule loaded two_edges (opening loaded ++ (enters 2400 2 ∷ ticks 2402 1 0 0 ∷ leaves 2402 2 ∷ [])) (enters 4200 3)
    × NestRule (advance_of loaded.settings) nest (opening loaded ++ (enters 2400 2 ∷ ticks 2402 1 0 0 ∷ leaves 2402 2 ∷ [])) (enters 4200 3)
unfolding place
rules_4 loaded nest = (tt, (tt, above_none nest 3))

rules_5 : (loaded : Loaded) (nest : Nest)
    → WindowRule loaded two_edges (opening loaded ++ (enters 2400 2 ∷ ticks 2402 1 0 0 ∷ leaves 2402 2 ∷ enters 4200 3 ∷ [])) (nothing 4202)
    × NestRule (advance_of loaded.settings) nest (opening loaded ++ (enters 2400 2 ∷ ticks 2402 1 0 0 ∷ leaves 2402 2 ∷ enters 4200 3 ∷ [])) (nothing 4202)
unfolding place
rules_5 loaded nest = (answers loaded, refl)

rules_6 : (loaded : Loaded) (nest : Nest)
    → WindowRule loaded two_edges (opening loaded ++ (enters 2400 2 ∷ ticks 2402 1 0 0 ∷ leaves 2402 2 ∷ enters 4200 3 ∷ nothing 4202 ∷ [])) (leaves 4202 3)
    × NestRule (advance_of loaded.settings) nest (opening loaded
    ++ (enters 2400 2 ∷ ticks 2402 1 0 0 ∷ leaves 2402 2 ∷ enters 4200 3 ∷ nothing 4202 ∷ [])) (leaves 4202 3)
unfolding place
rules_6 loaded nest = (λ e. refl, (refl, inl refl))

asks_cap : (loaded : Loaded)
    → AskRule loaded two_edges (place (opening loaded ++ (enters 2400 2 ∷ ticks 2402 1 0 0 ∷ leaves 2402 2 ∷ [])))
    (reverse (opening loaded ++ (enters 2400 2 ∷ ticks 2402 1 0 0 ∷ leaves 2402 2 ∷ []))) (enters 4200 3)
unfolding place line burst
asks_cap loaded = refl

none_owed : (loaded : Loaded)
    → HasReplied (place (opening loaded ++ (enters 2400 2 ∷ ticks 2402 1 0 0 ∷ leaves 2402 2 ∷ enters 4200 3 ∷ nothing 4202 ∷ []))).signal
unfolding place
none_owed loaded = tt

one_said : (loaded : Loaded) (nest : Nest) → Said loaded nest two_edges 2400 (enters 2400 2 ∷ [])
one_said loaded nest =
    said_push loaded nest two_edges 2400 [] (enters 2400 2) (start_said loaded nest two_edges 2400) refl (record { laws = elim [ owed.Windows ↦ (rules_1 loaded nest).0 | owed.Searches ↦ λ e. cc | owed.Nests ↦ (rules_1 loaded nest).1 | owed.Asks ↦ lit< tt | l ↦ tt ]; waits = tt })

all_said : (loaded : Loaded) (nest : Nest) → Said loaded nest two_edges 4202 tick_and_verdict
all_said loaded nest =
    let s2 = said_push loaded nest two_edges 2402 (enters 2400 2 ∷ []) (ticks 2402 1 0 0)
    (said_at loaded nest 2400 2402 (enters 2400 2 ∷ []) (omega arith) (one_said loaded nest)) refl (record { laws = elim [ owed.Windows ↦ (rules_2 loaded nest).0 | owed.Nests ↦ (rules_2 loaded nest).1 | l ↦ tt ]; waits = tt }) in
    let s3 = said_push loaded nest two_edges 2402 (enters 2400 2 ∷ ticks 2402 1 0 0 ∷ []) (leaves 2402 2) s2 refl
    (record { laws = elim [ owed.Windows ↦ (rules_3 loaded nest).0 | owed.Replies ↦ λ e. cc | owed.Drives ↦ λ e d. (refl, refl) | owed.Searches ↦ λ e. cc | owed.Nests ↦ (rules_3 loaded nest).1 | l ↦ tt ]; waits = tt }) in
    let s4 = said_push loaded nest two_edges 4200 (enters 2400 2 ∷ ticks 2402 1 0 0 ∷ leaves 2402 2 ∷ []) (enters 4200 3)
    (said_at loaded nest 2402 4200 (enters 2400 2 ∷ ticks 2402 1 0 0 ∷ leaves 2402 2 ∷ []) (omega arith) s3) refl (record { laws = elim [ owed.Windows ↦ (rules_4 loaded nest).0 | owed.Searches ↦ λ e. cc | owed.Nests ↦ (rules_4 loaded nest).1 | owed.Asks ↦ asks_cap loaded | l ↦ tt ]; waits = tt }) in
    let s5 = said_push loaded nest two_edges 4202 (enters 2400 2 ∷ ticks 2402 1 0 0 ∷ leaves 2402 2 ∷ enters 4200 3 ∷ []) (nothing 4202)
    (said_at loaded nest 4200 4202 (enters 2400 2 ∷ ticks 2402 1 0 0 ∷ leaves 2402 2 ∷ enters 4200 3 ∷ []) (omega arith) s4) refl
    (record { laws = elim [ owed.Windows ↦ (rules_5 loaded nest).0 | owed.Nests ↦ (rules_5 loaded nest).1 | l ↦ tt ]; waits = tt }) in
    said_push loaded nest two_edges 4202 (enters 2400 2 ∷ ticks 2402 1 0 0 ∷ leaves 2402 2 ∷ enters 4200 3 ∷ nothing 4202 ∷ []) (leaves 4202 3) s5 refl
    (record { laws = elim [ owed.Windows ↦ (rules_6 loaded nest).0 | owed.Replies ↦ λ e. none_owed loaded | owed.Drives ↦ λ e. cc | owed.Searches ↦ λ e. cc | owed.Nests ↦ (rules_6 loaded nest).1 | l ↦ tt ]; waits = tt })

one_controlled : (loaded : Loaded) → Controlled (opening loaded ++ enters 2400 2 ∷ [])
one_controlled loaded =
    (record { paid = refl; tick = tt; save = tt }, (record { paid = refl; tick = tt; save = tt }, (record { paid = refl; tick = tt; save = tt }, tt)))

all_controlled : (loaded : Loaded) → Controlled (opening loaded ++ tick_and_verdict)
all_controlled loaded = (
  record { paid = refl; tick = tt; save = tt },
  (
    record { paid = refl; tick = tt; save = tt },
    (
      record { paid = refl; tick = tt; save = tt },
      (
        record { paid = refl; tick = record { number_is = refl; rises = omega arith; marks_are = refl; demand_is = refl }; save = tt },
        (
          record { paid = refl; tick = tt; save = tt },
          (
            record { paid = refl; tick = tt; save = tt },
            (
              record { paid = refl; tick = tt; save = tt },
              (
                record { paid = refl; tick = tt; save = tt },
                tt,
              ),
            ),
          ),
        ),
      ),
    ),
  ),
)

one_in_range : (loaded : Loaded) → All InRange (opening loaded ++ enters 2400 2 ∷ [])
one_in_range loaded = All-push InRange (opening loaded) (enters 2400 2) (first_in_range loaded.fault) (lit< tt, omega arith)

all_in_range : (loaded : Loaded) → All InRange (opening loaded ++ tick_and_verdict)
all_in_range loaded =
    let start : List Note = opening loaded ++ enters 2400 2 ∷ [] in
    let k : List Note = start ++ ticks 2402 1 0 0 ∷ [] in
    let o : List Note = k ++ leaves 2402 2 ∷ [] in
    let i : List Note = o ++ enters 4200 3 ∷ [] in
    let f : List Note = i ++ nothing 4202 ∷ [] in
    All-push InRange f (leaves 4202 3)
    (All-push InRange i (nothing 4202)
    (All-push InRange o (enters 4200 3)
    (All-push InRange k (leaves 2402 2)
    (All-push InRange start (ticks 2402 1 0 0) (one_in_range loaded) (lit< tt, (lit< tt, (omega arith, omega arith))))
    (lit< tt, omega arith))
    (lit< tt, omega arith))
    (lit< tt))
    (lit< tt, omega arith)

-- ---- whole journals

one_few : (loaded : Loaded) → OpenFew loaded one
unfolding own_steps
one_few loaded kind.Main o = omega arith
one_few loaded k o = omega arith

tick_enters : (loaded : Loaded) (nest : Nest) → Legal loaded nest 2 two_edges 2401 (opening loaded ++ enters 2400 2 ∷ [])
tick_enters loaded nest =
    let from = after_one in
    record {
      rest = enters 2400 2 ∷ [];
      begins = refl;
      in_range = one_in_range loaded;
      in_time = (one_said loaded nest).in_time;
      lawful = lawful_of loaded nest two_edges (enters 2400 2 ∷ []) (one_said loaded nest).keeps;
      controlled = one_controlled loaded;
      chopped = λ full. chopped_none 2 two_edges 2401 (opening loaded ++ enters 2400 2 ∷ []) (none_one loaded);
      log = one;
      steps_are = refl;
      fits = (fits_tick_in loaded nest, tt);
      below = All-cons (λ e. e.tick < 2401) tick_in [] (omega arith) (All-nil (λ e. e.tick < 2401));
      all_made = record { open_step = λ o. omega arith; idle = λ o. absurd (let z : kind.Tick ∷ [] ≡ [] = sym (open_one loaded) ∙ o in cc) };
      open_few = one_few loaded;
    }

window_judged : (loaded : Loaded) (nest : Nest) → Legal loaded nest 2 two_edges 4203 (opening loaded ++ tick_and_verdict)
window_judged loaded nest =
    let from = after_four in
    record {
      rest = tick_and_verdict;
      begins = refl;
      in_range = all_in_range loaded;
      in_time = (all_said loaded nest).in_time;
      lawful = lawful_of loaded nest two_edges tick_and_verdict (all_said loaded nest).keeps;
      controlled = all_controlled loaded;
      chopped = λ full. chopped_none 2 two_edges 4203 (opening loaded ++ tick_and_verdict) (none_all loaded);
      log = four;
      steps_are = refl;
      fits = (fits_tick_in loaded nest, (fits_tick_out loaded nest, (fits_cap_in loaded nest, (fits_cap_out loaded nest, tt))));
      below = All-cons (λ e. e.tick < 4203) tick_in (tick_out ∷ cap_in ∷ cap_out ∷ []) (omega arith)
          (All-cons (λ e. e.tick < 4203) tick_out (cap_in ∷ cap_out ∷ []) (omega arith)
          (All-cons (λ e. e.tick < 4203) cap_in (cap_out ∷ []) (omega arith)
          (All-cons (λ e. e.tick < 4203) cap_out [] (omega arith) (All-nil (λ e. e.tick < 4203)))));
      all_made = record { open_step = λ o. absurd (o (open_four loaded)); idle = λ o t le lt. absurd (omega arith) };
      open_few = λ k o. absurd (let z : is_open [] k ≡ true = subst (λ (st : List Kind). is_open st k ≡ true) (open_four loaded) o in cc);
    }

pub some_are_legal : SomeAreLegal
some_are_legal = record { no_time_passes = no_time; tick_enters = tick_enters; a_window_is_judged = window_judged }
