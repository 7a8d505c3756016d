-- Which kinds are open after notes: the stack of a place.
use Rattle.std.proofs.Common.{◌≡◌, ◌≤◌, ◌<◌, ℕ, Bool, true, false, ◌==◌, if◌then◌else◌, List, [], ◌∷◌, ◌++◌, refl, sym, ◌∙◌, ap, arith, append_assoc, append-nil, All}
use Rattle.std.proofs.lemmas.List.Elements.{All-head, All-tail, All-nil, All-cons}
use Rattle.std.proofs.lemmas.Bool.Decides.{nat_tests}
use Rattle.esc_base.specs.declared.kind.Kind.{Kind}
use Rattle.esc_base.specs.declared.note.Note.{Note}
use Rattle.esc_base.specs.declared.note.Note.TheVariants as note
use Rattle.esc_base.specs.Numbers.{kind_number}
use Rattle.interrupt_machine.specs.Open.{outer_ones, is_open, kind_of, IsStack}
use Rattle.esc_laws.specs.Place.{Place, place, next}
use Rattle.esc_laws.specs.Steps.{is_entry}
use Rattle.esc_laws.proofs.Pushes.{place-push}
use Rattle.esc_chopping.specs.View.{has_leave}

less_differs : (x y : ℕ) → x < y → (x == y) ≡ false
less_differs x y l = grind (arith, nat_tests)

-- ---- stacks

-- no kind above the innermost one is open
pub none_above : (stack : List Kind) (k j : Kind) → IsStack (k ∷ stack) → kind_number k < kind_number j → is_open (k ∷ stack) j ≡ false
none_above [] k j s l = rw (less_differs (kind_number k) (kind_number j) l) refl
none_above (h ∷ outer) k j s l = rw (less_differs (kind_number k) (kind_number j) l)
    (let a : kind_number h < kind_number k = s.0 in none_above outer h j s.1 (omega arith))

-- nor is it open twice
pub none_twice : (stack : List Kind) (k : Kind) → IsStack (k ∷ stack) → is_open stack k ≡ false
none_twice [] k s = refl
none_twice (h ∷ outer) k s = none_above outer h k s.1 s.0

pub all_below : (stack : List Kind) (k j : ℕ) → All (λ x. kind_number x < k) stack → (i : Kind) → kind_number i ≡ j → k ≤ j → is_open stack i ≡ false
all_below [] k j a i e le = refl
all_below (h ∷ stack) k j a i e le =
    let x : kind_number h < k = All-head (λ y. kind_number y < k) h stack a in
    rw (less_differs (kind_number h) (kind_number i) (omega arith)) (all_below stack k j (All-tail (λ y. kind_number y < k) h stack a) i e le)

pub above_stack : (stack : List Kind) (k : Kind) → All (λ x. kind_number x < kind_number k) stack → IsStack stack → IsStack (k ∷ stack)
above_stack [] k a s = (tt, s)
above_stack (h ∷ stack) k a s = (All-head (λ x. kind_number x < kind_number k) h stack a, s)

-- ---- the open kinds after a step

pub enter_stack : (p : Place) (t k : ℕ) → (next p (note.Enter (record { 0 = t }) k)).stack ≡ kind_of k ∷ p.stack
enter_stack p t k = by_tests (k == 3) (k == 2) (k == 0)
  where
    by_tests : (a b c : Bool) → (if a then record p {
      stack = kind_of k ∷ p.stack;
      cap_entered = t;
      windows = 0;
      verdicts = 0;
      last =
          t;
    } else if b then record p { stack = kind_of k ∷ p.stack; ticks = 0; last = t } else if c then record p {
      stack = kind_of k ∷ p.stack;
      saves =
          0;
      last = t;
    } else record p { stack = kind_of k ∷ p.stack; last = t }).stack ≡ kind_of k ∷ p.stack
    by_tests true b c = refl
    by_tests false true c = refl
    by_tests false false true = refl
    by_tests false false false = refl

quiet_next : (p : Place) (n : Note) → is_entry n ≡ false → has_leave (n ∷ []) ≡ false → (next p n).stack ≡ p.stack
quiet_next p (note.Enter t k) e l = absurd (cc)
quiet_next p (note.Leave t k) e l = absurd (cc)
quiet_next p n e l = refl

leaves_parts : (n : Note) (notes : List Note) → has_leave (n ∷ notes) ≡ false → (has_leave (n ∷ []) ≡ false) × (has_leave notes ≡ false)
leaves_parts (note.Leave t k) notes e = absurd (cc)
leaves_parts n notes e = (refl, e)

quiet_stack : (before notes : List Note) → All (λ n. is_entry n ≡ false) notes → has_leave notes ≡ false
    → (place (before ++ notes)).stack ≡ (place before).stack
quiet_stack before [] e l = ap (λ (x : List Note). (place x).stack) (append-nil before)
quiet_stack before (n ∷ notes) e l =
    let parts = leaves_parts n notes l in
    ap (λ (x : List Note). (place x).stack) (sym (append_assoc before (n ∷ []) notes))
    ∙ quiet_stack (before ++ n ∷ []) notes (All-tail (λ x. is_entry x ≡ false) n notes e) parts.1
    ∙ ap (λ (p : Place). p.stack) (place-push before n)
    ∙ quiet_next (place before) n (All-head (λ x. is_entry x ≡ false) n notes e) parts.0

pub front_entries : (xs ys : List Note) → All (λ n. is_entry n ≡ false) (xs ++ ys) → All (λ n. is_entry n ≡ false) xs
front_entries [] ys a = All-nil (λ n. is_entry n ≡ false)
front_entries (x ∷ xs) ys a = All-cons (λ n. is_entry n ≡ false) x xs (All-head (λ n. is_entry n ≡ false) x (xs ++ ys) a)
    (front_entries xs ys (All-tail (λ n. is_entry n ≡ false) x (xs ++ ys) a))

pub leaves_back : (front : List Note) (b : Bool) (t k : ℕ) → has_leave front ≡ false
    → has_leave (front ++ (if b then note.Leave (record { 0 = t }) k ∷ [] else [])) ≡ b
leaves_back [] true t k e = refl
leaves_back [] false t k e = refl
leaves_back (n ∷ front) b t k e = let parts = leaves_parts n front e in cons n (front ++ (if b then note.Leave (record { 0 = t }) k ∷ [] else [])) b parts.0
    (leaves_back front b t k parts.1)
  where
    cons : (x : Note) (rest : List Note) (c : Bool) → has_leave (x ∷ []) ≡ false → has_leave rest ≡ c → has_leave (x ∷ rest) ≡ c
    cons (note.Leave u j) rest c f g = absurd (cc)
    cons x rest c f g = g

pub own_stack : (before front : List Note) (b : Bool) (t k : ℕ) → All (λ n. is_entry n ≡ false) front → has_leave front ≡ false
    → (place (before ++ (front ++ (if b then note.Leave (record { 0 = t }) k ∷ [] else [])))).stack ≡
    (if b then outer_ones (place before).stack else (place before).stack)
own_stack before front false t k e l = ap (λ (x : List Note). (place (before ++ x)).stack) (append-nil front) ∙ quiet_stack before front e l
own_stack before front true t k e l =
    ap (λ (x : List Note). (place x).stack) (sym (append_assoc before front (note.Leave (record { 0 = t }) k ∷ [])))
    ∙ ap (λ (p : Place). p.stack) (place-push (before ++ front) (note.Leave (record { 0 = t }) k))
    ∙ ap outer_ones (quiet_stack before front e l)
