-- A due kind that waits is entered after at most 8 masked steps and one further step.
use Rattle.std.proofs.Common.{◌≡◌, ◌≢◌, ◌<◌, ◌≤◌, ◌+◌, ℕ, Bool, true, false, not, ◌&&◌, ◌==◌, if◌then◌else◌, List, [], ◌∷◌, ◌++◌, length, Option, Some, None, refl, sym, ◌∙◌, ap, subst, arith, ◌⊎◌, inl, inr, pos_of_ne-zero, lit<}
use Rattle.std.proofs.Math.Numerals.{lt_of_le_of_ne}
use Rattle.std.proofs.lemmas.Bool.{cases_Bool, cases_lt, and_parts, not-true, leb-true, leb-false, lt-ltb, le-ltb, eqb-true, eqb-false, ne_eqb, lt-leb, or_left, or_parts, eq-eqb}
use Rattle.std.specs.List.{find}
use Rattle.std.proofs.lemmas.Bool.Decides.{nat_tests}
use Rattle.std.proofs.lemmas.List.Sums.{fold_push}
use Rattle.esc_base.specs.declared.kind.Kind.{Kind}
use Rattle.esc_base.specs.declared.kind.Kind.TheVariants as kind
use Rattle.esc_base.specs.Numbers.{kind_number}
use Rattle.timer_regs.specs.Bank.{Bank}
use Rattle.timer_regs.specs.Effects.{after_entry}
use Rattle.interrupt_machine.specs.declared.nest.Nest.{Nest}
use Rattle.interrupt_machine.specs.declared.nest.Nest.TheVariants.{One, Full}
use Rattle.interrupt_machine.specs.Open.{innermost, outer_ones, is_open, by_priority, highest, may_enter, enters_above, next_entry, IsStack}
use Rattle.interrupt_machine.specs.Response.{is_waiting, is_behind, counts, Moment, Stepped, Passed, stepper, wait_next, waited_next, waited, room, Patient, Responds}
use Rattle.interrupt_machine.proofs.OpenKinds.{number_same, closed_above}

pub waited-push : (nest : Nest) (log : List Moment) (m : Moment) (k : Kind) → waited nest (log ++ m ∷ []) k ≡ waited_next nest k (waited nest log k) m
unfolding waited
waited-push nest log m k = fold_push (waited_next nest k) 0 log m

-- ---- tests

waits_parts : (due : Kind → Bool) (stack : List Kind) (k : Kind) → is_waiting due stack k ≡ true → (due k ≡ true) × (is_open stack k ≡ false)
waits_parts due stack k e = let b = and_parts (due k) (not (is_open stack k)) e in (b.0, not-true (is_open stack k) b.1)

-- ---- the highest due kind

-- every kind is one of them
listed : (k : Kind) → is_open by_priority k ≡ true
listed kind.Main = refl
listed k = refl

-- each is higher than those after it
falling : IsStack by_priority
falling = (lit< tt, (lit< tt, (lit< tt, (lit< tt, (lit< tt, (lit< tt, (tt, tt)))))))

first_most : (h : Kind) (rest : List Kind) (k : Kind) → IsStack (h ∷ rest) → is_open (h ∷ rest) k ≡ true → kind_number k ≤ kind_number h
first_most h rest k falls within = elim (cases_lt (kind_number h) (kind_number k)) [
  | inl higher ↦ absurd (let z : true ≡ false = sym within ∙ closed_above (h ∷ rest) k falls higher in cc)
  | inr not_higher ↦ omega arith
]

most_in : (due : Kind → Bool) (kinds : List Kind) (j k : Kind) → IsStack kinds → is_open kinds k ≡ true → due k ≡ true → find due kinds ≡ Some j
    → kind_number k ≤ kind_number j
most_in due [] j k falls within d e = absurd (let z : false ≡ true = within in cc)
most_in due (h ∷ rest) j k falls within d e = elim (cases_Bool (due h)) [
  | inl here ↦ (
      let z : Some h ≡ Some j = rw here at e in
      let s : h ≡ j = cc in
      subst (λ (x : Kind). kind_number k ≤ kind_number x) s (first_most h rest k falls within))
  | inr not_here ↦ (
      let other : kind_number h ≡ kind_number k → ⊥ =
      (λ n. let z : true ≡ false = sym d ∙ subst (λ (x : Kind). due x ≡ false) (number_same h k n) not_here in cc) in
      most_in due rest j k falls.1 (rw (ne_eqb (kind_number h) (kind_number k) other) at within) d (rw not_here at e))
]

-- no due kind is higher than the highest one
pub highest_most : (due : Kind → Bool) (j k : Kind) → due k ≡ true → highest due ≡ Some j → kind_number k ≤ kind_number j
highest_most due j k d e = most_in due by_priority j k falling (listed k) d e

none_here : (v : Bool) (h : Kind) (rest : Option Kind) → (if v then Some h else rest) ≡ None → (v ≡ false) × (rest ≡ None)
none_here true h rest e = cc
none_here false h rest e = (refl, e)

none_in : (due : Kind → Bool) (kinds : List Kind) (k : Kind) → is_open kinds k ≡ true → find due kinds ≡ None → due k ≡ false
none_in due [] k within e = absurd (let z : false ≡ true = within in cc)
none_in due (h ∷ rest) k within e =
    let none = none_here (due h) h (find due rest) e in
    elim (cases_Bool (kind_number h == kind_number k)) [
      | inl same ↦ subst (λ (x : Kind). due x ≡ false) (number_same h k (eqb-true (kind_number h) (kind_number k) same)) none.0
      | inr other ↦ none_in due rest k (rw other at within) none.1
    ]

-- where there is no highest kind, none is due
pub highest_none : (due : Kind → Bool) (k : Kind) → highest due ≡ None → due k ≡ false
highest_none due k e = none_in due by_priority k (listed k) e

first_is_due : (due : Kind → Bool) (kinds : List Kind) (j : Kind) → find due kinds ≡ Some j → due j ≡ true
first_is_due due [] j e = (let z : None ≡ Some j = e in cc)
first_is_due due (h ∷ rest) j e = elim (cases_Bool (due h)) [
  | inl here ↦ (let z : Some h ≡ Some j = rw here at e in let s : h ≡ j = cc in subst (λ (x : Kind). due x ≡ true) s here)
  | inr not_here ↦ first_is_due due rest j (rw not_here at e)
]

-- the highest kind is due
pub highest_is_due : (due : Kind → Bool) (j : Kind) → highest due ≡ Some j → due j ≡ true
highest_is_due due j e = first_is_due due by_priority j e

-- what enters is the highest due kind
entry_at : (nest : Nest) (inner : Option Kind) (o : Option Kind) (j : Kind) → enters_above nest inner o ≡ Some j → o ≡ Some j
entry_at nest inner None j e = cc
entry_at nest inner (Some h) j e = kept (may_enter nest inner h) h j e
  where
    kept : (v : Bool) (h j : Kind) → (if v then Some h else None) ≡ Some j → Some h ≡ Some j
    kept true h j e = e
    kept false h j e = cc

pub entry_highest : (nest : Nest) (stack : List Kind) (due : Kind → Bool) (j : Kind) → next_entry nest stack due ≡ Some j → highest due ≡ Some j
entry_highest nest stack due j e = entry_at nest (innermost stack) (highest due) j e

-- where none enters, the highest due kind may not
none_at : (nest : Nest) (inner : Option Kind) (h : Kind) → enters_above nest inner (Some h) ≡ None → may_enter nest inner h ≡ false
none_at nest inner h e = (none_here (may_enter nest inner h) h None e).0

-- ---- one step

-- an entry of a kind that is the highest due one counts for no other kind that waits
entry_uncounted : (nest : Nest) (k j : Kind) → kind_number k ≤ kind_number j → k ≢ j → counts nest k (Some j) ≡ false
entry_uncounted Full k j le ne = lt-leb (kind_number j) (kind_number k) (lt_of_le_of_ne le (λ s. ne (number_same k j s)))
entry_uncounted One k j le ne = ne_eqb (kind_number j) 0 (λ z. ne (number_same k j (omega arith)))

-- a counted step of the innermost kind: it isn't higher than the one that waits, which the rank doesn't keep out
not_behind : (nest : Nest) (k j : Kind) → counts nest k (Some j) ≡ true → is_behind nest (Some j) k ≡ false
not_behind Full k j e = le-ltb (kind_number k) (kind_number j) (leb-true (kind_number j) (kind_number k) e)
not_behind One k j e = let z = eqb-true (kind_number j) 0 e in le-ltb 0 (kind_number j) (omega arith)

-- a step that doesn't count is that of a kind that goes first
behind_by : (nest : Nest) (k j : Kind) → counts nest k (Some j) ≡ false → is_behind nest (Some j) k ≡ true
behind_by Full k j e = lt-ltb (kind_number k) (kind_number j) (leb-false (kind_number j) (kind_number k) e)
behind_by One k j e = lt-ltb 0 (kind_number j) (pos_of_ne-zero (eqb-false (kind_number j) 0 e))

-- a due kind that the innermost one may be interrupted by
may_above : (nest : Nest) (k j h : Kind) → counts nest k (Some j) ≡ true → k ≢ j → kind_number k ≤ kind_number h → may_enter nest (Some j) h ≡ true
may_above Full k j h e ne le =
    let below : kind_number j < kind_number k = lt_of_le_of_ne (leb-true (kind_number j) (kind_number k) e) (λ s. ne (number_same k j (sym s))) in
    lt-ltb (kind_number j) (kind_number h) (omega arith)
may_above One k j h e ne le = main_below (kind_number j) (kind_number k) (kind_number h) e (λ s. ne (number_same k j (sym s))) le
  where
    main_below : (j k h : ℕ) → (j == 0) ≡ true → (j ≡ k → ⊥) → k ≤ h → ((j == 0) && not (h == 0)) ≡ true
    main_below j k h e ne le = grind (arith, nat_tests)

-- where the mask is down and no kind enters, no counted step keeps a due kind out
none_kept : (nest : Nest) (j k : Kind) (outer : List Kind) (due : Kind → Bool) → counts nest k (Some j) ≡ true → k ≢ j → due k ≡ true
    → next_entry nest (j ∷ outer) due ≡ None → ⊥
none_kept nest j k outer due c ne d e = by_highest (highest due) refl
  where
    by_highest : (o : Option Kind) → highest due ≡ o → ⊥
    by_highest None h = let f = highest_none due k h in (let z = sym d ∙ f in cc)
    by_highest (Some h) s =
        let m = may_above nest k j h c ne (highest_most due h k d s) in
        let f = none_at nest (Some j) h (subst (λ (x : Option Kind). enters_above nest (Some j) x ≡ None) s e) in
        (let z = sym m ∙ f in cc)

-- ---- the count after a step

drop_rest : (x r : ℕ) → x + r ≤ 8 → x ≤ 8
drop_rest x r le = omega arith

rest_zero : (v m : Bool) (x h : ℕ) → m ≡ false → x ≤ 8 → x + (if v then 0 else room m h) ≤ 8
rest_zero true m x h e le = omega arith
rest_zero false true x h e le = cc
rest_zero false false x h e le = omega arith

rest_behind : (v m : Bool) (x h : ℕ) → v ≡ true → x ≤ 8 → x + (if v then 0 else room m h) ≤ 8
rest_behind true m x h e le = omega arith
rest_behind false m x h e le = cc

rest_room : (v m : Bool) (h : ℕ) → (m ≡ true → h ≤ 8) → 0 + (if v then 0 else room m h) ≤ 8
rest_room true m h f = omega arith
rest_room false true h f = let le = f refl in omega arith
rest_room false false h f = omega arith

rest_kept : (v m : Bool) (x h : ℕ) → x + room m h ≤ 8 → x + (if v then 0 else room m h) ≤ 8
rest_kept true m x h le = let r = drop_rest x (room m h) le in omega arith
rest_kept false m x h le = le

less_room : (m m' : Bool) (h h' x : ℕ) → m ≡ true → 0 < h → (m' ≡ true → h' < h) → x + room m h ≤ 8 → (x + 1) + room m' h' ≤ 8
less_room true true h h' x e p f g = let l = f refl in omega arith
less_room true false h h' x e p f g = omega arith
less_room false m' h h' x e p f g = cc

-- a kind that doesn't wait afterwards has waited for none
wait_over : (nest : Nest) (k : Kind) (b a : Bool) (by : Option Kind) (w : ℕ) → a ≡ false → wait_next nest k b a by w ≡ 0
wait_over nest k true a by w e = rw e refl
wait_over nest k false a by w e = refl

-- nor one that didn't wait before
wait_fresh : (nest : Nest) (k : Kind) (b a : Bool) (by : Option Kind) (w : ℕ) → b ≡ false → wait_next nest k b a by w ≡ 0
wait_fresh nest k true a by w e = cc
wait_fresh nest k false a by w e = refl

wait_uncounted : (nest : Nest) (k : Kind) (b a : Bool) (by : Option Kind) (w : ℕ) → b ≡ true → a ≡ true → counts nest k by ≡ false
    → wait_next nest k b a by w ≡ w
wait_uncounted nest k b a by w e f c = rw (e, f, c) refl

wait_counted : (nest : Nest) (k : Kind) (b a : Bool) (by : Option Kind) (w : ℕ) → b ≡ true → a ≡ true → counts nest k by ≡ true
    → wait_next nest k b a by w ≡ w + 1
wait_counted nest k b a by w e f c = rw (e, f, c) refl

pub self_open : (j : Kind) (stack : List Kind) → is_open (j ∷ stack) j ≡ true
self_open j stack = or_left (kind_number j == kind_number j) (is_open stack j) (eq-eqb (kind_number j) (kind_number j) refl)

other_kind : (k j : Kind) (stack : List Kind) → is_open (j ∷ stack) k ≡ false → k ≢ j
other_kind k j stack f s = eqb-false (kind_number j) (kind_number k) (or_parts (kind_number j == kind_number k) (is_open stack k) f).0 (sym (ap kind_number s))

-- after an entry; what is seen due before it is due
pub entry_patient : (nest : Nest) (stack : List Kind) (due seen seen' : Kind → Bool) (j : Kind) (hold hold' : ℕ) (w : Kind → ℕ)
    → ((k : Kind) → is_waiting seen stack k ≡ true → due k ≡ true) → next_entry nest stack due ≡ Some j → Patient nest hold false stack seen w
    → Patient nest hold' false (j ∷ stack) seen' (λ k. wait_next nest k (is_waiting seen stack k) (is_waiting seen' (j ∷ stack) k) (Some j) (w k))
entry_patient nest stack due seen seen' j hold hold' w sees chosen p = record {
  bound = λ k. rest_zero (is_behind nest (Some j) k) false _ hold' refl (elim (cases_Bool (is_waiting seen' (j ∷ stack) k)) [
    | inr over ↦ rw (wait_over nest k (is_waiting seen stack k) (is_waiting seen' (j ∷ stack) k) (Some j) (w k) over) (omega arith)
    | inl after ↦ elim (cases_Bool (is_waiting seen stack k)) [
      | inl before ↦ (
          let ne = other_kind k j stack (waits_parts seen' (j ∷ stack) k after).1 in
          let le = highest_most due j k (sees k before) (entry_highest nest stack due j chosen) in
          rw (wait_uncounted nest k (is_waiting seen stack k) (is_waiting seen' (j ∷ stack) k) (Some j) (w k) before after (entry_uncounted nest k j le ne))
          (drop_rest (w k) _ (p.bound k)))
      | inr fresh ↦ rw (wait_fresh nest k (is_waiting seen stack k) (is_waiting seen' (j ∷ stack) k) (Some j) (w k) fresh) (omega arith)
    ]
  ]);
  held = λ m. cc;
}

-- after a step of the innermost kind, which goes on, or returns with the mask down; what is seen due while the mask is
-- down is due
pub own_patient : (nest : Nest) (j : Kind) (outer stack' : List Kind) (due seen seen' : Kind → Bool) (masked masked' : Bool) (hold hold' : ℕ) (w : Kind → ℕ)
    → (masked ≡ false → (k : Kind) → is_waiting seen (j ∷ outer) k ≡ true → due k ≡ true) → (masked ≡ false → next_entry nest (j ∷ outer) due ≡ None)
    → (stack' ≡ j ∷ outer) ⊎ (masked' ≡ false)
    → (masked ≡ true → 0 < hold) → (masked' ≡ true → hold' ≤ 8) → (masked ≡ true → masked' ≡ true → hold' < hold)
    → Patient nest hold masked (j ∷ outer) seen w
    → Patient nest hold' masked' stack' seen' (λ k. wait_next nest k (is_waiting seen (j ∷ outer) k) (is_waiting seen' stack' k) (Some j) (w k))
own_patient nest j outer stack' due seen seen' masked masked' hold hold' w sees none goes some most less p = record {
  bound = λ k. elim (cases_Bool (is_waiting seen' stack' k)) [
    | inr over ↦ rw (wait_over nest k (is_waiting seen (j ∷ outer) k) (is_waiting seen' stack' k) (Some j) (w k) over)
        (rest_room (is_behind nest (innermost stack') k) masked' hold' most)
    | inl after ↦ elim (cases_Bool (is_waiting seen (j ∷ outer) k)) [
      | inr fresh ↦ rw (wait_fresh nest k (is_waiting seen (j ∷ outer) k) (is_waiting seen' stack' k) (Some j) (w k) fresh)
          (rest_room (is_behind nest (innermost stack') k) masked' hold' most)
      | inl before ↦ (
          let parts = waits_parts seen (j ∷ outer) k before in
          let ne = other_kind k j outer parts.1 in
          elim (cases_Bool (counts nest k (Some j))) [
            | inl c ↦ rw (wait_counted nest k (is_waiting seen (j ∷ outer) k) (is_waiting seen' stack' k) (Some j) (w k) before after c)
                (elim (cases_Bool masked) [
                  | inl m ↦ rest_kept (is_behind nest (innermost stack') k) masked' (w k + 1) hold'
                      (less_room masked masked' hold hold' (w k) m (some m) (less m) (rw (not_behind nest k j c) at (p.bound k)))
                  | inr m ↦ absurd (none_kept nest j k outer due c ne (sees m k before) (none m))
                ])
            | inr n ↦ rw (wait_uncounted nest k (is_waiting seen (j ∷ outer) k) (is_waiting seen' stack' k) (Some j) (w k) before after n) (
                let le = drop_rest (w k) _ (p.bound k) in
                elim goes [
                  | inl s ↦ rest_behind (is_behind nest (innermost stack') k) masked' (w k) hold' (rw s (behind_by nest k j n)) le
                  | inr u ↦ rest_zero (is_behind nest (innermost stack') k) masked' (w k) hold' u le
                ])
          ])
    ]
  ];
  held = most;
}

-- after time has passed, or the outside has acted: what was seen due may no longer be, and what wasn't may be
pub pass_patient : (nest : Nest) (stack : List Kind) (seen seen' : Kind → Bool) (masked : Bool) (hold : ℕ) (w : Kind → ℕ)
    → Patient nest hold masked stack seen w
    → Patient nest hold masked stack seen' (λ k. wait_next nest k (is_waiting seen stack k) (is_waiting seen' stack k) None (w k))
pass_patient nest stack seen seen' masked hold w p = record {
  bound = λ k. elim (cases_Bool (is_waiting seen' stack k)) [
    | inr over ↦ rw (wait_over nest k (is_waiting seen stack k) (is_waiting seen' stack k) None (w k) over)
        (rest_room (is_behind nest (innermost stack) k) masked hold p.held)
    | inl after ↦ elim (cases_Bool (is_waiting seen stack k)) [
      | inl before ↦ rw (wait_uncounted nest k (is_waiting seen stack k) (is_waiting seen' stack k) None (w k) before after refl) (p.bound k)
      | inr fresh ↦ rw (wait_fresh nest k (is_waiting seen stack k) (is_waiting seen' stack k) None (w k) fresh)
          (rest_room (is_behind nest (innermost stack) k) masked hold p.held)
    ]
  ];
  held = p.held;
}

-- the same where the count is by steps alone
pub grow_patient : (nest : Nest) (stack : List Kind) (seen seen' : Kind → Bool) (masked : Bool) (hold : ℕ) (w : Kind → ℕ)
    → Patient nest hold masked stack seen w → Patient nest hold masked stack seen' w
grow_patient nest stack seen seen' masked hold w p = record { bound = p.bound; held = p.held }

-- equal counts
pub same_patient : (nest : Nest) (hold : ℕ) (masked : Bool) (stack : List Kind) (due : Kind → Bool) (w w' : Kind → ℕ) → ((k : Kind) → w' k ≡ w k)
    → Patient nest hold masked stack due w → Patient nest hold masked stack due w'
same_patient nest hold masked stack due w w' e p = record {
  bound = λ k. rw (e k) (p.bound k);
  held = p.held;
}

-- ---- along a log

pub patient_most : (nest : Nest) (hold : ℕ) (masked : Bool) (stack : List Kind) (due : Kind → Bool) (w : Kind → ℕ) → Patient nest hold masked stack due w
    → (k : Kind) → w k ≤ 8
patient_most nest hold masked stack due w p k = drop_rest (w k) _ (p.bound k)

responds : (nest : Nest) (hold : ℕ) (masked : Bool) (stack : List Kind) (due : Kind → Bool) (log : List Moment)
    → Patient nest hold masked stack due (waited nest log) → Responds nest hold masked stack due log
responds nest hold masked stack due log p = record { patient = p; most = patient_most nest hold masked stack due (waited nest log) p }

waited-none : (nest : Nest) (k : Kind) → waited nest [] k ≡ 0
unfolding waited
waited-none nest k = refl

-- at the start
pub start_responds : (nest : Nest) (hold : ℕ) (due : Kind → Bool) → Responds nest hold false [] due []
start_responds nest hold due = responds nest hold false [] due [] (record {
  bound = λ k. rest_zero false false (waited nest [] k) hold refl (rw (waited-none nest k) (omega arith));
  held = λ m. cc;
})

pub longer : (j : Kind) (stack : List Kind) → stepper stack (j ∷ stack) ≡ Some j
longer j stack = rw (lt-ltb (length stack) (length (j ∷ stack)) (omega arith)) refl

pub same_long : (j : Kind) (outer : List Kind) → stepper (j ∷ outer) (j ∷ outer) ≡ Some j
same_long j outer = rw (le-ltb (length (j ∷ outer)) (length (j ∷ outer)) (omega arith)) refl

pub shorter : (j : Kind) (outer : List Kind) → stepper (j ∷ outer) outer ≡ Some j
shorter j outer = rw (le-ltb (length (j ∷ outer)) (length outer) (omega arith)) refl

entry_responds : (nest : Nest) (hold hold' : ℕ) (stack : List Kind) (due due' : Kind → Bool) (j : Kind) (log : List Moment)
    → next_entry nest stack due ≡ Some j → Responds nest hold false stack due log
    → Responds nest hold' false (j ∷ stack) due' (log ++ Stepped stack due (j ∷ stack) due' ∷ [])
entry_responds nest hold hold' stack due due' j log chosen r =
    responds nest hold' false (j ∷ stack) due' _ (same_patient nest hold' false (j ∷ stack) due' _ _
    (λ k. waited-push nest log (Stepped stack due (j ∷ stack) due') k
    ∙ ap (λ (by : Option Kind). wait_next nest k (is_waiting due stack k) (is_waiting due' (j ∷ stack) k) by (waited nest log k)) (longer j stack))
    (entry_patient nest stack due due due' j hold hold' (waited nest log) (λ k s. (waits_parts due stack k s).0) chosen r.patient))

-- the entry as a step tells it
pub entry_logged : (nest : Nest) (hold hold' : ℕ) (masked masked' : Bool) (stack stack' : List Kind) (due due' : Kind → Bool) (j : Kind)
    → masked ≡ false → masked' ≡ false → stack' ≡ j ∷ stack → next_entry nest stack due ≡ Some j
    → (log : List Moment) → Responds nest hold masked stack due log → Responds nest hold' masked' stack' due' (log ++ Stepped stack due stack' due' ∷ [])
entry_logged nest hold hold' masked masked' stack stack' due due' j m m' s chosen log r =
    rw (s, m') (entry_responds nest hold hold' stack due due' j log chosen (rw m at r))

own_responds : (nest : Nest) (hold hold' : ℕ) (masked masked' : Bool) (j : Kind) (outer stack' : List Kind) (due due' : Kind → Bool)
    → (masked ≡ false → next_entry nest (j ∷ outer) due ≡ None) → (stack' ≡ j ∷ outer) ⊎ (masked' ≡ false) → stepper (j ∷ outer) stack' ≡ Some j
    → (masked ≡ true → 0 < hold) → (masked' ≡ true → hold' ≤ 8) → (masked ≡ true → masked' ≡ true → hold' < hold)
    → (log : List Moment) → Responds nest hold masked (j ∷ outer) due log
    → Responds nest hold' masked' stack' due' (log ++ Stepped (j ∷ outer) due stack' due' ∷ [])
own_responds nest hold hold' masked masked' j outer stack' due due' none goes by some most less log r =
    responds nest hold' masked' stack' due' _ (same_patient nest hold' masked' stack' due' _ _
    (λ k. waited-push nest log (Stepped (j ∷ outer) due stack' due') k
    ∙ ap (λ (o : Option Kind). wait_next nest k (is_waiting due (j ∷ outer) k) (is_waiting due' stack' k) o (waited nest log k)) by)
    (own_patient nest j outer stack' due due due' masked masked' hold hold' (waited nest log) (λ m k s. (waits_parts due (j ∷ outer) k s).0) none goes some
    most less r.patient))

-- an own step that goes on
pub own_logged : (nest : Nest) (hold hold' : ℕ) (masked masked' : Bool) (stack : List Kind) (due due' : Kind → Bool) (j : Kind)
    → innermost stack ≡ Some j → (masked ≡ false → next_entry nest stack due ≡ None)
    → (masked ≡ true → 0 < hold) → (masked' ≡ true → hold' ≤ 8) → (masked ≡ true → masked' ≡ true → hold' < hold)
    → (log : List Moment) → Responds nest hold masked stack due log → Responds nest hold' masked' stack due' (log ++ Stepped stack due stack due' ∷ [])
own_logged nest hold hold' masked masked' [] due due' j i none some most less log r = cc
own_logged nest hold hold' masked masked' (x ∷ outer) due due' j i none some most less log r =
    own_responds nest hold hold' masked masked' x outer (x ∷ outer) due due' none (inl refl) (same_long x outer) some most less log r

-- and one that returns
pub back_logged : (nest : Nest) (hold hold' : ℕ) (masked masked' : Bool) (stack stack' : List Kind) (due due' : Kind → Bool) (j : Kind)
    → innermost stack ≡ Some j → stack' ≡ outer_ones stack → masked' ≡ false → (masked ≡ false → next_entry nest stack due ≡ None)
    → (masked ≡ true → 0 < hold) → (masked' ≡ true → hold' ≤ 8) → (masked ≡ true → masked' ≡ true → hold' < hold)
    → (log : List Moment) → Responds nest hold masked stack due log → Responds nest hold' masked' stack' due' (log ++ Stepped stack due stack' due' ∷ [])
back_logged nest hold hold' masked masked' [] stack' due due' j i s down none some most less log r = cc
back_logged nest hold hold' masked masked' (x ∷ outer) stack' due due' j i s down none some most less log r =
    rw s (own_responds nest hold hold' masked masked' x outer outer due due' none (inr down) (shorter x outer) some most less log r)

-- time passes, or the outside acts
pub pass_logged : (nest : Nest) (hold : ℕ) (masked : Bool) (stack : List Kind) (due due' : Kind → Bool) (log : List Moment)
    → Responds nest hold masked stack due log → Responds nest hold masked stack due' (log ++ Passed stack due due' ∷ [])
pass_logged nest hold masked stack due due' log r =
    responds nest hold masked stack due' _ (same_patient nest hold masked stack due' _ _
    (λ k. waited-push nest log (Passed stack due due') k)
    (pass_patient nest stack due due' masked hold (waited nest log) r.patient))

-- an entry leaves the mask
pub entry_masked : (b : Bank) (k : Kind) → (after_entry b k).masked ≡ b.masked
entry_masked b kind.Cap = refl
entry_masked b k = refl
