-- The open kinds: the one that enters is above them, and each of them has steps left.
use Rattle.std.proofs.Common.{◌≡◌, ◌≢◌, ◌<◌, ◌≤◌, ℕ, Bool, true, false, not, ◌&&◌, ◌||◌, ◌==◌, nat_lt, if◌then◌else◌, List, [], ◌∷◌, ◌++◌, Option, Some, None, is_none, is_some, refl, sym, ◌∙◌, ap, subst, arith, reverse, lit≤, ◌⊎◌, inl, inr, suc, length}
use Rattle.std.specs.List.{find}
use Rattle.std.proofs.lemmas.Bool.Decides.{nat_tests}
use Rattle.std.proofs.lemmas.List.{reverse-append}
use Rattle.std.proofs.lemmas.List.Folds.{find-append}
use Rattle.esc_base.specs.declared.kind.Kind.{Kind}
use Rattle.esc_base.specs.declared.kind.Kind.TheVariants as kind
use Rattle.esc_base.specs.Numbers.{kind_number}
use Rattle.interrupt_machine.specs.declared.nest.Nest.{Nest}
use Rattle.interrupt_machine.specs.declared.nest.Nest.TheVariants.{One, Full}
use Rattle.interrupt_machine.specs.Open.{innermost, is_open, above_cap, up_to_cap, by_priority, highest, may_enter, enters_above, next_entry, is_idle, IsStack, IsAbove, outer_ones, kind_of}
use Rattle.interrupt_machine.specs.Turn.{IsHeld}

-- the highest kind of two sets that agree
pub highest_same : (p q : Kind → Bool) → ((k : Kind) → p k ≡ q k) → highest p ≡ highest q
highest_same p q h = same_in by_priority
  where
    same_in : (kinds : List Kind) → find p kinds ≡ find q kinds
    same_in [] = refl
    same_in (k ∷ rest) = rw (h k, same_in rest) refl

-- the highest due kind: one above CAP, or else one of CAP and those below
pub highest_above : (due : Kind → Bool) (k : Kind) → find due above_cap ≡ Some k → highest due ≡ Some k
highest_above due k e = find-append due above_cap up_to_cap ∙ rw e refl

pub highest_below : (due : Kind → Bool) → find due above_cap ≡ None → highest due ≡ find due up_to_cap
highest_below due e = find-append due above_cap up_to_cap ∙ rw e refl

pub number_most : (k : Kind) → kind_number k ≤ 6
number_most kind.Main = lit≤ tt
number_most k = lit≤ tt

-- the kind that enters is a due one, and may enter
entry_may : (nest : Nest) (inner : Option Kind) (o : Option Kind) (k : Kind) → enters_above nest inner o ≡ Some k → may_enter nest inner k ≡ true
entry_may nest inner None k e = cc
entry_may nest inner (Some j) k e = may_at nest inner j k (may_enter nest inner j) refl e
  where
    may_at : (nest : Nest) (inner : Option Kind) (j k : Kind) (v : Bool) → may_enter nest inner j ≡ v → (if v then Some j else None) ≡ Some k
        → may_enter nest inner k ≡ true
    may_at nest inner j k true m e = let s : j ≡ k = cc in subst (λ (x : Kind). may_enter nest inner x ≡ true) s m
    may_at nest inner j k false m e = cc

below_by : (nest : Nest) (i k : Kind) → may_enter nest (Some i) k ≡ true → kind_number i < kind_number k
below_by One i k e = one_below (kind_number i) (kind_number k) e
  where
    one_below : (m n : ℕ) → ((m == 0) && not (n == 0)) ≡ true → m < n
    one_below m n e = grind (arith, nat_tests)
below_by Full i k e = full_below (kind_number i) (kind_number k) e
  where
    full_below : (m n : ℕ) → nat_lt m n ≡ true → m < n
    full_below m n e = grind (arith, nat_tests)

above_by : (nest : Nest) (inner : Option Kind) (k : Kind) → may_enter nest inner k ≡ true → IsAbove inner k
above_by nest None k e = tt
above_by nest (Some i) k e = below_by nest i k e

-- a kind that enters is above the innermost one
pub entry_above : (nest : Nest) (stack : List Kind) (due : Kind → Bool) (k : Kind) → next_entry nest stack due ≡ Some k → IsAbove (innermost stack) k
entry_above nest stack due k e = above_by nest (innermost stack) k (entry_may nest (innermost stack) (highest due) k e)

above_outer : (stack : List Kind) (i k : Kind) → IsAbove (innermost stack) i → kind_number i < kind_number k → IsAbove (innermost stack) k
above_outer [] i k a l = tt
above_outer (j ∷ outer) i k a l = let b : kind_number j < kind_number i = a in omega arith

other_number : (m n : ℕ) → m < n → (m == n) ≡ false
other_number m n l = grind (arith, nat_tests)

-- and isn't open
pub closed_above : (stack : List Kind) (k : Kind) → IsStack stack → IsAbove (innermost stack) k → is_open stack k ≡ false
closed_above [] k s a = refl
closed_above (i ∷ outer) k s a =
    let l : kind_number i < kind_number k = a in
    rw (other_number (kind_number i) (kind_number k) l) (closed_above outer k s.1 (above_outer outer i k s.0 l))

-- ---- kinds by their numbers

pub kind_of-number : (k : Kind) → kind_of (kind_number k) ≡ k
kind_of-number kind.Main = refl
kind_of-number k = refl

pub number_same : (j k : Kind) → kind_number j ≡ kind_number k → j ≡ k
number_same j k e = sym (kind_of-number j) ∙ ap kind_of e ∙ kind_of-number k

same_by : (j k : Kind) (v : Bool) → (kind_number j == kind_number k) ≡ v → (j ≡ k) ⊎ (j ≢ k)
same_by j k true e = inl (number_same j k (grind (arith, nat_tests)))
same_by j k false e = inr (λ s. let n : kind_number j ≡ kind_number k = ap kind_number s in absurd (differ (kind_number j) (kind_number k) e n))
  where
    differ : (m n : ℕ) → (m == n) ≡ false → m ≡ n → ⊥
    differ m n e s = grind (arith, nat_tests)

pub same_kind : (j k : Kind) → (j ≡ k) ⊎ (j ≢ k)
same_kind j k = same_by j k (kind_number j == kind_number k) refl

-- ---- what each open kind has left

-- after a step of the innermost kind that goes on
pub live_more : (before after : Kind → ℕ) (k : Kind) (outer : List Kind) → ((j : Kind) → is_open (k ∷ outer) j ≡ true → 0 < before j)
    → 0 < after k → ((j : Kind) → j ≢ k → after j ≡ before j) → (j : Kind) → is_open (k ∷ outer) j ≡ true → 0 < after j
live_more before after k outer live own others j o = elim (same_kind j k) [
  | inl s ↦ subst (λ (x : Kind). 0 < after x) (sym s) own
  | inr ne ↦ rw (others j ne) (live j o)
]

or_right : (a b : Bool) → b ≡ true → (a || b) ≡ true
or_right true b e = refl
or_right false b e = e

-- after a step of the innermost kind that returns
pub live_less : (before after : Kind → ℕ) (k : Kind) (outer : List Kind) → IsStack (k ∷ outer) → ((j : Kind) → is_open (k ∷ outer) j ≡ true → 0 < before j)
    → ((j : Kind) → j ≢ k → after j ≡ before j) → (j : Kind) → is_open outer j ≡ true → 0 < after j
live_less before after k outer stack live others j o = elim (same_kind j k) [
  | inl s ↦ absurd
      (let shut = closed_above outer k stack.1 stack.0 in
      let found : is_open outer k ≡ true = subst (λ (x : Kind). is_open outer x ≡ true) s o in
      (let z = sym found ∙ shut in cc))
  | inr ne ↦ rw (others j ne) (live j (or_right _ (is_open outer j) o))
]

-- after an entry
pub live_entry : (before after : Kind → ℕ) (k : Kind) (stack : List Kind) → ((j : Kind) → is_open stack j ≡ true → 0 < before j)
    → 1 ≤ after k → ((j : Kind) → j ≢ k → after j ≡ before j) → (j : Kind) → is_open (k ∷ stack) j ≡ true → 0 < after j
live_entry before after k stack live own others j o = elim (same_kind j k) [
  | inl s ↦ subst (λ (x : Kind). 0 < after x) (sym s) own
  | inr ne ↦ rw (others j ne) (live j (or_other k j stack ne o))
]
  where
    or_left : (m n : ℕ) (b : Bool) → (m ≡ n → ⊥) → ((m == n) || b) ≡ true → b ≡ true
    or_left m n true ne e = refl
    or_left m n false ne e = absurd (ne (grind (arith, nat_tests)))

    or_other : (k j : Kind) (stack : List Kind) → j ≢ k → is_open (k ∷ stack) j ≡ true → is_open stack j ≡ true
    or_other k j stack ne e = or_left (kind_number k) (kind_number j) (is_open stack j) (λ s. ne (sym (number_same k j s))) e

-- where one is the innermost, some are open
pub some_kinds : (stack : List Kind) (k : Kind) → innermost stack ≡ Some k → stack ≢ []
some_kinds [] k e = cc
some_kinds (j ∷ outer) k e = λ n. cc

-- the innermost kind is the first
pub innermost_first : (stack : List Kind) (k : Kind) → innermost stack ≡ Some k → stack ≡ k ∷ outer_ones stack
innermost_first [] k e = cc
innermost_first (i ∷ outer) k e = let s : i ≡ k = cc in ap (λ (x : Kind). x ∷ outer) s

pub live_popped : (before after : Kind → ℕ) (k : Kind) (stack stack' : List Kind) → innermost stack ≡ Some k → stack' ≡ outer_ones stack → IsStack stack
    → ((j : Kind) → is_open stack j ≡ true → 0 < before j) → ((j : Kind) → j ≢ k → after j ≡ before j) → (j : Kind) → is_open stack' j ≡ true → 0 < after j
live_popped before after k [] stack' i p s live others j o = cc
live_popped before after k (x ∷ outer) stack' i p s live others j o =
    let same : x ≡ k = cc in
    live_less before after x outer s live (λ y ne. others y (λ q. ne (q ∙ sym same))) j (subst (λ (l : List Kind). is_open l j ≡ true) p o)

pub reverse-push : (kinds : List Kind) (k : Kind) → reverse (kinds ++ k ∷ []) ≡ k ∷ reverse kinds
reverse-push kinds k = reverse-append kinds (k ∷ [])

-- where a due kind is left to enter, or the mask is held, and none enters, some handler is open
chosen : (nest : Nest) (h : Option Kind) → is_none h ≡ false → enters_above nest None h ≡ None → ⊥
chosen nest None some none = let z : true ≡ false = some in cc
chosen nest (Some k) some none = let z : Some k ≡ None = none in cc

pub some_open : (nest : Nest) (masked : Bool) (hold : ℕ) (stack : List Kind) (due : Kind → Bool) → is_idle stack due ≡ false
    → (masked ≡ true → IsHeld hold stack)
    → None ≡ (if masked then None else next_entry nest stack due) → stack ≡ [] → ⊥
some_open nest true hold stack due busy held none e = (held refl).0 e
some_open nest false hold [] due busy held none e = chosen nest (highest due) busy (sym none)
some_open nest false hold (k ∷ outer) due busy held none e = let z : (k ∷ outer) ≡ [] = e in cc

-- where no handler is open and none enters, the machine is idle, and else it isn't
idle_is : (nest : Nest) (masked : Bool) (hold : ℕ) (stack : List Kind) (due : Kind → Bool) → (masked ≡ true → IsHeld hold stack)
    → None ≡ (if masked then None else next_entry nest stack due) → length stack ≡ 0 → is_idle stack due ≡ true
idle_is nest masked hold stack due held none empty = of_value (is_idle stack due) refl
  where
    of_value : (v : Bool) → is_idle stack due ≡ v → is_idle stack due ≡ true
    of_value true e = e
    of_value false e = absurd (some_open nest masked hold stack due e held none (no_items stack empty))
      where
        no_items : (xs : List Kind) → length xs ≡ 0 → xs ≡ []
        no_items [] e = refl
        no_items (x ∷ xs) e = absurd (omega arith)

busy_entry : (nest : Nest) (masked : Bool) (stack : List Kind) (due : Kind → Bool) (k : Kind)
    → Some k ≡ (if masked then None else next_entry nest stack due) → is_idle stack due ≡ false
busy_entry nest true stack due k e = cc
busy_entry nest false [] due k e = entered (highest due) e
  where
    entered : (o : Option Kind) → Some k ≡ enters_above nest None o → is_none o ≡ false
    entered None e = cc
    entered (Some j) e = refl
busy_entry nest false (j ∷ outer) due k e = refl

not_zero : (depth n : ℕ) → depth ≡ suc n → (depth == 0) ≡ false
not_zero depth n e = grind (arith, nat_tests)

pub idle_closed : (nest : Nest) (masked : Bool) (hold : ℕ) (stack : List Kind) (due : Kind → Bool) (entry : Option Kind) (depth : ℕ) → is_some entry ≡ false
    → depth ≡ length stack → (masked ≡ true → IsHeld hold stack) → entry ≡ (if masked then None else next_entry nest stack due)
    → (depth == 0) ≡ is_idle stack due
idle_closed nest masked hold [] due None depth none is held e = ap (λ (n : ℕ). n == 0) is ∙ sym (idle_is nest masked hold [] due held e refl)
idle_closed nest masked hold (k ∷ outer) due None depth none is held e = not_zero depth (length outer) is
idle_closed nest masked hold stack due (Some k) depth none is held e = cc

pub idle_entered : (nest : Nest) (masked : Bool) (stack : List Kind) (due : Kind → Bool) (entry : Option Kind) → is_some entry ≡ true
    → entry ≡ (if masked then None else next_entry nest stack due) → false ≡ is_idle stack due
idle_entered nest masked stack due None some e = cc
idle_entered nest masked stack due (Some k) some e = sym (busy_entry nest masked stack due k e)

-- none of CAP and the kinds below it enters above CAP
none_above_cap : (nest : Nest) (c t u m : Bool)
    → enters_above nest (Some kind.Cap)
    (if c then Some kind.Cap else if t then Some kind.Tick else if u then Some kind.Uart else if m then Some kind.Main else None) ≡ None
none_above_cap One true t u m = refl
none_above_cap One false true u m = refl
none_above_cap One false false true m = refl
none_above_cap One false false false true = refl
none_above_cap One false false false false = refl
none_above_cap Full true t u m = refl
none_above_cap Full false true u m = refl
none_above_cap Full false false true m = refl
none_above_cap Full false false false true = refl
none_above_cap Full false false false false = refl

pub stays_in_cap : (nest : Nest) (inner : Option Kind) (due : Kind → Bool) → inner ≡ Some kind.Cap → None ≡ enters_above nest inner (find due up_to_cap)
stays_in_cap nest inner due e = rw e (sym (none_above_cap nest (due kind.Cap) (due kind.Tick) (due kind.Uart) (due kind.Main)))
