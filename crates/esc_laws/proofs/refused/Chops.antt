-- The wrong journals break `Chopped`, each at one tick; and the other one keeps it.
use Rattle.std.proofs.Common.{◌≡◌, ◌<◌, ◌≤◌, ◌+◌, ◌-◌, ◌*◌, ◌⊎◌, inl, inr, ℕ, zero, suc, true, false, List, [], ◌∷◌, ◌++◌, reverse, All, refl, sym, ◌∙◌, ap, subst, arith, append_assoc, append-nil}
use Rattle.std.proofs.lemmas.Bool.{cases_lt, le-leb, lt-leb}
use Rattle.std.proofs.lemmas.List.{reverse-append}
use Rattle.std.proofs.lemmas.List.Elements.{All-head, All-tail, All-nil, All-cons}
use Rattle.esc_base.specs.declared.event.Event.{Event}
use Rattle.esc_base.specs.declared.event.Event.TheVariants as event
use Rattle.esc_base.specs.Numbers.{as_tick}
use Rattle.esc_base.specs.declared.gate.Leg.TheVariants as leg
use Rattle.esc_base.specs.declared.note.Note.{Note}
use Rattle.esc_base.specs.declared.note.Note.TheVariants as note
use Rattle.esc_base.specs.Journal.{time_of}
use Rattle.esc_base.specs.Legs.{is_on}
use Rattle.esc_base.specs.Trace.{tick_of}
use Rattle.arming.specs.ControlAt.{demand_at}
use Rattle.commutation.specs.Commutated.{sector_at}
use Rattle.gate_driver.specs.DeadSafe.{low_at, low_free_at}
use Rattle.esc_laws.specs.Steps.{stall_end}
use Rattle.esc_laws.specs.Chopped.{upto, by_tick, disturbs, Undisturbed, IsChopped, Chopped}
use Rattle.esc_laws.specs.refused.Notes.{enters, leaves, first_two, ticks, switches}
use Rattle.esc_laws.specs.refused.Chops.{drive, low_on, ChoppingRefuses, in_time, SomeAreChopped}
use Rattle.esc_laws.proofs.UpTo.{up_to_all, up_to_none, up_to_before}

-- ---- a drive whose newest K, Q and low switches stand early enough, and then gates alone

-- gates from tick 4000 on
abbrev GatesLate : List Note → Type 0
GatesLate [] = Unit {0}
GatesLate (note.Gate t high low ∷ rest) = (4000 ≤ t.0) × GatesLate rest
GatesLate (n ∷ rest) = ⊥

gates_late : (rest : List Note) → GatesLate rest → All (λ n. 3999 < time_of n) rest
gates_late [] g = All-nil (λ n. 3999 < time_of n)
gates_late (note.Gate t high low ∷ rest) g =
    let l : 4000 ≤ t.0 = g.0 in All-cons (λ n. 3999 < time_of n) (note.Gate t high low) rest (omega arith) (gates_late rest g.1)
gates_late (n ∷ rest) g = absurd g

-- gates leave the demand
gates_demand : (t : ℕ) (rest back : List Note) → GatesLate rest → demand_at (reverse (upto t rest) ++ back) ≡ demand_at back
gates_demand t [] back g = refl
gates_demand t (note.Gate u high low ∷ rest) back g = elim (cases_lt t u.0) [
  | inl l ↦ rw (lt-leb u.0 t l) refl
  | inr le ↦ rw (le-leb u.0 t le)
      (ap (λ (l : List Note). demand_at (l ++ back)) (reverse-append (note.Gate u high low ∷ []) (upto t rest))
      ∙ ap demand_at (append_assoc (reverse (upto t rest)) (note.Gate u high low ∷ []) back)
      ∙ gates_demand t rest (note.Gate u high low ∷ back) g.1)
]
gates_demand t (n ∷ rest) back g = absurd g

abbrev Calm : Note → Type 0
Calm n = 4000 ≤ time_of n → time_of n < 6000 → disturbs n ≡ false

gates_calm : (rest after : List Note) → GatesLate rest → All (λ n. 6000 ≤ time_of n) after → All Calm (rest ++ after)
gates_calm [] [] g a = All-nil Calm
gates_calm [] (n ∷ after) g a =
    All-cons Calm n after (λ lo hi. absurd (let l : 6000 ≤ time_of n = All-head (λ x. 6000 ≤ time_of x) n after a in omega arith))
    (gates_calm [] after tt (All-tail (λ x. 6000 ≤ time_of x) n after a))
gates_calm (note.Gate t high low ∷ rest) after g a = All-cons Calm (note.Gate t high low) (rest ++ after) (λ lo hi. refl) (gates_calm rest after g.1 a)
gates_calm (n ∷ rest) after g a = absurd g

early_calm : (front rest : List Note) → All (λ n. time_of n ≤ 3952) front → All Calm rest → All Calm (front ++ rest)
early_calm [] rest e a = a
early_calm (n ∷ front) rest e a =
    All-cons Calm n (front ++ rest) (λ lo hi. absurd (let l : time_of n ≤ 3952 = All-head (λ x. time_of x ≤ 3952) n front e in omega arith))
    (early_calm front rest (All-tail (λ x. time_of x ≤ 3952) n front e) a)

earlier : (t : ℕ) (front : List Note) → 3952 ≤ t → All (λ n. time_of n ≤ 3952) front → All (λ n. time_of n ≤ t) front
earlier t front le e = λ k l m. (let a = e k l m in omega arith)

later : (t : ℕ) (after : List Note) → t < 6000 → All (λ n. 6000 ≤ time_of n) after → All (λ n. t < time_of n) after
later t after lt a = λ k l m. (let b = a k l m in omega arith)

module _ (d : ℕ) (front rest after : List Note) (some : 0 < d) (early : All (λ n. time_of n ≤ 3952) front) (late : GatesLate rest)
    (behind : All (λ n. 6000 ≤ time_of n) after) (demand : demand_at (reverse front) ≡ d) (sector : sector_at (reverse front) ≡ 1)
    (free : low_free_at leg.A (reverse front) ≤ 4000) where
  abbrev whole : List Note
  whole = front ++ (rest ++ after)

  -- up to the end of the period
  same_by : (t : ℕ) → t < 6000 → by_tick t whole ≡ by_tick t (front ++ rest)
  same_by t lt =
      ap (λ (l : List Note). by_tick t l) (sym (append_assoc front rest after))
      ∙ ap (λ (l : List Note). reverse l) (up_to_before t (front ++ rest) after (later t after lt behind))

  -- and up to its start
  at_start : by_tick 3999 (front ++ rest) ≡ reverse front
  at_start =
      ap (λ (l : List Note). reverse l) (up_to_all 3999 front rest (earlier 3999 front (omega arith) early)
      ∙ ap (λ (l : List Note). front ++ l) (up_to_none 3999 rest (gates_late rest late)) ∙ append-nil front)

  within : (t : ℕ) → 4000 ≤ t + 48 → t < 6000 → demand_at (by_tick t whole) ≡ d
  within t lo hi =
      ap demand_at (same_by t hi
      ∙ ap (λ (l : List Note). reverse l) (up_to_all t front rest (earlier t front (omega arith) early)) ∙ reverse-append front (upto t rest))
      ∙ gates_demand t rest (reverse front) late ∙ demand

  sector_is : sector_at (by_tick 3999 whole) ≡ 1
  sector_is = ap sector_at (same_by 3999 (omega arith) ∙ at_start) ∙ sector

  undisturbed : Undisturbed 1 [] whole 4000 d
  undisturbed = record {
    drives = some;
    number = 2;
    starts = refl;
    demand = λ t lo hi. within t lo hi;
    stalls = All-nil (λ (e : Event). (stall_end e ≤ 3952) ⊎ (5999 < tick_of e));
    before = omega arith;
    sector = rw sector_is (omega arith);
    none = early_calm front (rest ++ after) early (gates_calm rest after late behind);
    free = rw (sector_is, same_by 3999 (omega arith), at_start) free;
  }

  -- so the law asks this of the notes up to the end of the period
  asked : (until : ℕ) → 6000 ≤ until → Chopped 1 [] until whole → IsChopped 1 6000 (front ++ rest) 4000 d 1
  asked until le c =
      let h = subst (λ (s : ℕ). IsChopped 1 until whole 4000 d s) sector_is (c 4000 d undisturbed) in
      record {
        high_on = λ t lt lo hi. rw (← same_by t lt) (h.high_on t (omega arith) lo hi);
        high_off = λ t lt lo hi. rw (← same_by t lt) (h.high_off t (omega arith) lo hi);
        low_on = λ t lt lo hi. rw (← same_by t lt) (h.low_on t (omega arith) lo hi);
        other_low_off = λ t lt lo hi. rw (← same_by t lt) (h.other_low_off t (omega arith) lo hi);
      }

-- ---- the wrong journals

-- the notes up to the start of the period, and with the low switch on
abbrev start : List Note
start = first_two ++ drive []

abbrev ready : List Note
ready = first_two ++ low_on []

-- each of these stands by then
abbrev AllBy : ℕ → List Note → Type 0
AllBy t [] = Unit {0}
AllBy t (n ∷ notes) = (time_of n ≤ t) × AllBy t notes

all_by : (t : ℕ) (notes : List Note) → AllBy t notes → All (λ n. time_of n ≤ t) notes
all_by t [] a = All-nil (λ n. time_of n ≤ t)
all_by t (n ∷ notes) a = All-cons (λ x. time_of x ≤ t) n notes a.0 (all_by t notes a.1)

start_early : All (λ n. time_of n ≤ 3952) start
start_early = all_by 3952 start (omega arith, (omega arith, (omega arith, (omega arith, tt))))

ready_early : All (λ n. time_of n ≤ 3952) ready
ready_early = all_by 3952 ready (omega arith, (omega arith, (omega arith, (omega arith, (omega arith, tt)))))

more_early : All (λ n. time_of n ≤ 3952) (first_two ++ low_on (ticks 3952 2 0 200 ∷ []))
more_early = all_by 3952 (first_two ++ low_on (ticks 3952 2 0 200 ∷ []))
    (omega arith, (omega arith, (omega arith, (omega arith, (omega arith, (omega arith, tt))))))

-- what the law asks of these gates behind them
asks : (rest after : List Note) → GatesLate rest → All (λ n. 6000 ≤ time_of n) after → (until : ℕ) → 6000 ≤ until
    → Chopped 1 [] until (ready ++ (rest ++ after)) → IsChopped 1 6000 (ready ++ rest) 4000 100 1
asks rest after late behind until le c = asked 100 ready rest after (omega arith) ready_early late behind refl refl (omega arith) until le c

pub chopping_refuses : ChoppingRefuses
chopping_refuses = record {
  high_comes_a_step_late = λ until after le behind c. (
      let h = asks (switches 4049 1 2 ∷ switches 4110 0 2 ∷ []) after (omega arith, (omega arith, tt)) behind until le c in
      let z = h.high_on 4048 (omega arith) (omega arith) (omega arith) in absurd (cc));
  high_goes_a_step_early = λ until after le behind c. (
      let h = asks (switches 4010 1 2 ∷ switches 4100 0 2 ∷ []) after (omega arith, (omega arith, tt)) behind until le c in
      let z = h.high_on 4100 (omega arith) (omega arith) (omega arith) in absurd (cc));
  high_stays_on_behind_its_duty = λ until after le behind c. (
      let h = asks (switches 4010 1 2 ∷ switches 4149 0 2 ∷ []) after (omega arith, (omega arith, tt)) behind until le c in
      let z = h.high_off 4148 (omega arith) (omega arith) (omega arith) in absurd (cc));
  no_gate_is_written = λ until after le behind c. (
      let h = asks [] after tt behind until le c in
      let z = h.high_on 4048 (omega arith) (omega arith) (omega arith) in absurd (cc));
  duty_of_the_demand_before = λ until after le behind c. (
      let h = asked 200 (first_two ++ low_on (ticks 3952 2 0 200 ∷ [])) (switches 4010 1 2 ∷ switches 4110 0 2 ∷ []) after (omega arith) more_early
      (omega arith, (omega arith, tt)) behind refl refl (omega arith) until le c in
      let z = h.high_on 4200 (omega arith) (omega arith) (omega arith) in absurd (cc));
  low_is_off = λ until after le behind c. (
      let h = asked 100 start (switches 4010 1 0 ∷ switches 4110 0 0 ∷ []) after (omega arith) start_early
      (omega arith, (omega arith, tt)) behind refl refl (omega arith) until le c in
      let z = h.low_on 4048 (omega arith) (omega arith) (omega arith) in absurd (cc));
  other_low_is_on = λ until after le behind c. (
      let h = asks (switches 4010 1 2 ∷ switches 4110 0 2 ∷ switches 4200 0 3 ∷ []) after (omega arith, (omega arith, (omega arith, tt))) behind until le c in
      let z = h.other_low_off 4200 (omega arith) (omega arith) (omega arith) in absurd (cc));
}

-- ---- the journal in time

abbrev on_time : List Note
on_time = switches 4048 1 2 ∷ switches 4148 0 2 ∷ []

one_period : Undisturbed 1 [] in_time 4000 100
one_period = undisturbed 100 ready on_time [] (omega arith) ready_early (omega arith, (omega arith, tt)) (All-nil (λ n. 6000 ≤ time_of n)) refl refl
    (omega arith)

on_early : All (λ n. time_of n ≤ 4048) (ready ++ switches 4048 1 2 ∷ [])
on_early = all_by 4048 (ready ++ switches 4048 1 2 ∷ []) (omega arith, (omega arith, (omega arith, (omega arith, (omega arith, (omega arith, tt))))))

-- while the high switch is on, and then
while_on : (t : ℕ) → 4048 ≤ t → t < 4148 → by_tick t in_time ≡ reverse (ready ++ switches 4048 1 2 ∷ [])
while_on t lo hi =
    ap (λ (l : List Note). reverse l) (up_to_all t (ready ++ switches 4048 1 2 ∷ []) (switches 4148 0 2 ∷ []) (λ k l m. (let a = on_early k l m in omega arith))
    ∙ ap (λ (l : List Note). (ready ++ switches 4048 1 2 ∷ []) ++ l) (rw (lt-leb 4148 t hi) refl) ∙ append-nil (ready ++ switches 4048 1 2 ∷ []))

all_early : All (λ n. time_of n ≤ 4148) in_time
all_early = all_by 4148 in_time (omega arith, (omega arith, (omega arith, (omega arith, (omega arith, (omega arith, (omega arith, tt)))))))

then_off : (t : ℕ) → 4148 ≤ t → by_tick t in_time ≡ reverse in_time
then_off t lo = ap (λ (l : List Note). reverse l) (up_to_all t in_time [] (λ k l m. (let a = all_early k l m in omega arith)))

low_by : (t : ℕ) → 4048 ≤ t → (is_on (low_at (by_tick t in_time)) leg.B ≡ true) × (is_on (low_at (by_tick t in_time)) leg.A ≡ false)
low_by t lo = elim (cases_lt t 4148) [
  | inl l ↦ rw (while_on t lo l) (refl, refl)
  | inr ge ↦ rw (then_off t ge) (refl, refl)
]

at_4000 : (d : ℕ) → 100 ≡ d → IsChopped 1 6000 in_time 4000 d 1
at_4000 d is = record {
  high_on = λ t lt lo hi. rw (while_on t lo (omega arith)) refl;
  high_off = λ t lt lo hi. rw (then_off t (omega arith)) refl;
  low_on = λ t lt lo hi. (low_by t lo).0;
  other_low_off = λ t lt lo hi. (low_by t lo).1;
}

at_period : (number d : ℕ) → Undisturbed 1 [] in_time (2000 * number) d
    → IsChopped 1 6000 in_time (2000 * number) d (sector_at (by_tick (2000 * number - 1) in_time))
at_period zero d y = absurd (let l = y.before in omega arith)
at_period (suc zero) d y = absurd (let l = y.sector in omega arith)
at_period (suc (suc zero)) d y = at_4000 d (y.demand 4000 (omega arith) (omega arith))
at_period (suc (suc (suc n))) d y = record {
  high_on = λ t lt lo hi. absurd (omega arith);
  high_off = λ t lt lo hi. absurd (omega arith);
  low_on = λ t lt lo hi. absurd (omega arith);
  other_low_off = λ t lt lo hi. absurd (omega arith);
}

-- a fact of all notes is one of those at the end
behind : (front rest : List Note) → All Calm (front ++ rest) → All Calm rest
behind [] rest a = a
behind (n ∷ front) rest a = behind front rest (All-tail Calm n (front ++ rest) a)

pub some_are_chopped : SomeAreChopped
some_are_chopped = record {
  in_time_is_chopped = λ p d y.
      subst (λ (q : ℕ). Undisturbed 1 [] in_time q d → IsChopped 1 6000 in_time q d (sector_at (by_tick (q - 1) in_time))) (sym y.starts)
      (at_period y.number d) y;
  one_is_undisturbed = one_period;
  comm_disturbs = λ d y. (
      let e = All-head (Calm) (enters 5000 6) (leaves 5010 6 ∷ []) (behind (first_two ++ low_on (switches 4048 1 2 ∷ switches 4148 0 2 ∷ []))
      (enters 5000 6 ∷ leaves 5010 6 ∷ []) y.none) in
      let z : true ≡ false = e (omega arith) (omega arith) in cc);
  stall_disturbs = λ d y. elim (All-head (λ (e : Event). (stall_end e ≤ 3952) ⊎ (5999 < tick_of e)) (event.Stall (as_tick 4500) 10) [] y.stalls) [
    | inl l ↦ absurd (omega arith)
    | inr l ↦ absurd (omega arith)
  ];
  late_low_disturbs = λ d y. (let f = y.free in absurd (omega arith));
}
