-- The comparator over a trace: steady by the newest change is steady by the definition, and a later event changes neither.
use Rattle.std.proofs.Common.{◌≡◌, ◌<◌, ◌≤◌, ℕ, Bool, true, false, not, ◌&&◌, if◌then◌else◌, nat_le, List, [], ◌∷◌, ◌++◌, All, refl, sym, ◌∙◌, ap, subst, arith}
use Rattle.std.specs.List.{fold}
use Rattle.std.proofs.lemmas.Bool.{and_parts, not-true}
use Rattle.std.proofs.lemmas.Bool.Decides.{nat_tests}
use Rattle.std.proofs.lemmas.List.Elements.{All-nil, All-cons, All-head, All-tail, All-push}
use Rattle.std.proofs.lemmas.List.Sums.{fold_push}
use Rattle.esc_base.specs.declared.event.Event.{Event}
use Rattle.esc_base.specs.declared.event.Event.TheVariants as event
use Rattle.esc_base.specs.declared.tick.Tick.{Tick}
use Rattle.esc_base.specs.Trace.{tick_of, differ}
use Rattle.timer_regs.specs.Bank.{Bank}
use Rattle.timer_regs.specs.Effects.{after_comp}
use Rattle.esc_laws.specs.InTime.{IsInTime}
use Rattle.zero_cross.specs.Comparator.{Held, held_to, held_next, held, HasLevel, Steady, is_steady}
use Rattle.std.proofs.lemmas.Bool.{le-leb}

-- at the start
abbrev pub low : Held
low = record { level = false; since = 0 }

pub held-push : (trace : List Event) (e : Event) (u : ℕ) → held (trace ++ e ∷ []) u ≡ held_next u (held trace u) e
unfolding held
held-push trace e u = fold_push (held_next u) low trace e

pub held-none : (u : ℕ) → held [] u ≡ low
unfolding held
held-none u = refl

-- ---- a later event changes nothing

later_next : (h : Held) (e : Event) (u : ℕ) → u < tick_of e → held_next u h e ≡ h
later_next h (event.Comp t level) u l = by_test (nat_le t.0 u) t.0 h level (grind (arith, nat_tests))
  where
    by_test : (v : Bool) (t : ℕ) (h : Held) (level : Bool) → v ≡ false → held_to v t h level ≡ h
    by_test true t h level e = cc
    by_test false t h level e = refl
later_next h (event.Edge t level) u l = refl
later_next h (event.Serial t byte) u l = refl
later_next h (event.Stall t n) u l = refl

pub held_before : (trace : List Event) (e : Event) (u : ℕ) → u < tick_of e → held (trace ++ e ∷ []) u ≡ held trace u
held_before trace e u l = held-push trace e u ∙ later_next (held trace u) e u l

pub steady_grows : (trace : List Event) (e : Event) (v : Bool) (a b : ℕ) → a ≤ b → b < tick_of e → Steady trace v a b → Steady (trace ++ e ∷ []) v a b
steady_grows trace e v a b le l s =
    (ap (λ (h : Held). h.level) (held_before trace e a (omega arith)) ∙ s.0, All-push (HasLevel v a b) trace e s.1 (level_of e l))
  where
    level_of : (e : Event) → b < tick_of e → HasLevel v a b e
    level_of (event.Comp t level) l = λ x y. absurd (omega arith)
    level_of (event.Edge t level) l = tt
    level_of (event.Serial t byte) l = tt
    level_of (event.Stall t n) l = tt

all_front : (P : Event → Type 0) (trace : List Event) (e : Event) → All P (trace ++ e ∷ []) → All P trace
all_front P [] e a = All-nil P
all_front P (x ∷ trace) e a = All-cons P x trace (All-head P x (trace ++ e ∷ []) a) (all_front P trace e (All-tail P x (trace ++ e ∷ []) a))

-- and back: what was steady by then was so before the event
pub steady_was : (trace : List Event) (e : Event) (v : Bool) (a b : ℕ) → a < tick_of e → Steady (trace ++ e ∷ []) v a b → Steady trace v a b
steady_was trace e v a b l s =
    (ap (λ (h : Held). h.level) (sym (held_before trace e a l)) ∙ s.0, all_front (HasLevel v a b) trace e s.1)

-- the newest change is no later than the tick that is asked for
since_next : (u : ℕ) (h : Held) (e : Event) → h.since ≤ u → (held_next u h e).since ≤ u
since_next u h (event.Comp t level) l = by_test (nat_le t.0 u) (differ h.level level) refl
  where
    by_test : (v d : Bool) → nat_le t.0 u ≡ v → (if v && d then record { level = level; since = t.0 } else h).since ≤ u
    by_test true true e = grind (arith, nat_tests)
    by_test true false e = l
    by_test false d e = l
since_next u h (event.Edge t level) l = l
since_next u h (event.Serial t byte) l = l
since_next u h (event.Stall t n) l = l

abbrev pub held_from : Held → List Event → ℕ → Held
held_from h trace u = fold (held_next u) h trace

since_from : (u : ℕ) (trace : List Event) (h : Held) → h.since ≤ u → (held_from h trace u).since ≤ u
since_from u [] h l = l
since_from u (e ∷ trace) h l = since_from u trace (held_next u h e) (since_next u h e l)

pub since_past : (trace : List Event) (u : ℕ) → (held trace u).since ≤ u
unfolding held
since_past trace u = since_from u trace low (omega arith)

-- ---- the changed bit: set by a change, cleared by CMP_ACK and CMP_EN; `acked` is the tick of the newest of these

pub bit_acked : (h : Held) (acked : ℕ) → h.since ≤ acked → false ≡ not (nat_le h.since acked)
bit_acked h acked l = grind (arith, nat_tests)

-- level expected and the bit down at the read: steady since the newest CMP_ACK
pub bit_steady : (h : Held) (v changed : Bool) (acked a : ℕ) → changed ≡ not (nat_le h.since acked)
    → acked ≤ a → changed ≡ false → differ h.level v ≡ false → is_steady h v a ≡ true
bit_steady h v changed acked a e l f d = rw d (grind (arith, nat_tests))

-- ---- the two forms say the same

-- the newest change isn't undone
grown : (v : Bool) (trace : List Event) (h : Held) (at u t : ℕ) (level : Bool) → h.since ≤ t → t ≤ at
    → ((g : Held) → g.since ≤ at → g.since ≤ (held_from g trace u).since)
    → h.since ≤ (held_from (if v then record { level = level; since = at } else h) trace u).since
grown true trace h at u t level l f rest = let a = rest (record { level = level; since = at }) (omega arith) in omega arith
grown false trace h at u t level l f rest = rest h (omega arith)

since_grows : (u : ℕ) (trace : List Event) (h : Held) (t : ℕ) → h.since ≤ t → IsInTime t trace → h.since ≤ (held_from h trace u).since
since_grows u [] h t l f = omega arith
since_grows u (event.Edge at lv ∷ trace) h t l f = since_grows u trace h at.0 (let a = f.0 in omega arith) f.1
since_grows u (event.Serial at bt ∷ trace) h t l f = since_grows u trace h at.0 (let a = f.0 in omega arith) f.1
since_grows u (event.Stall at nn ∷ trace) h t l f = since_grows u trace h at.0 (let a = f.0 in omega arith) f.1
since_grows u (event.Comp at level ∷ trace) h t l f =
    grown (nat_le at.0 u && differ h.level level) trace h at.0 u t level l f.0 (λ g le. since_grows u trace g at.0 le f.1)

-- events above tick a leave the state at a
skips : (trace : List Event) (h : Held) (t a : ℕ) → a < t → IsInTime t trace → held_from h trace a ≡ h
skips [] h t a l f = refl
skips (e ∷ trace) h t a l f =
    ap (λ (g : Held). held_from g trace a) (later_next h e a (let b = f.0 in omega arith)) ∙ skips trace h (tick_of e) a (let b = f.0 in omega arith) f.1

differ_is : (a b : Bool) → differ a b ≡ false → a ≡ b
differ_is true true e = refl
differ_is true false e = cc
differ_is false true e = cc
differ_is false false e = refl

differ_same : (a b : Bool) → a ≡ b → differ a b ≡ false
differ_same true b e = rw (sym e) refl
differ_same false b e = rw (sym e) refl

steady_since : (h : Held) (v : Bool) (a : ℕ) → is_steady h v a ≡ true → h.since ≤ a
steady_since h v a e = le_of h.since a (and_parts (not (differ h.level v)) (nat_le h.since a) e).1
  where
    le_of : (m n : ℕ) → nat_le m n ≡ true → m ≤ n
    le_of m n e = grind (arith, nat_tests)

steady_level : (h : Held) (v : Bool) (a : ℕ) → is_steady h v a ≡ true → h.level ≡ v
steady_level h v a e = differ_is h.level v (not-true (differ h.level v) (and_parts (not (differ h.level v)) (nat_le h.since a) e).0)

steady_is : (h : Held) (v : Bool) (a : ℕ) → h.level ≡ v → h.since ≤ a → is_steady h v a ≡ true
steady_is h v a e l = rw (differ_same h.level v e) (grind (arith, nat_tests))

abbrev pub Says : Held → List Event → Bool → ℕ → ℕ → Type 0
Says h trace v a b = ((held_from h trace a).level ≡ v) × All (HasLevel v a b) trace

-- one change more: up to a, from there to b, or above b
said_next : (ta tb d : Bool) (trace : List Event) (h : Held) (v level : Bool) (a b t : ℕ) → nat_le t a ≡ ta → nat_le t b ≡ tb → differ h.level level ≡ d
    → a ≤ b → h.since ≤ a → h.since ≤ t
    → IsInTime t trace
    → ((g : Held) → g.since ≤ a → g.since ≤ t → is_steady (held_from g trace b) v a ≡ true → Says g trace v a b)
    → is_steady (held_from (held_to tb t h level) trace b) v a ≡ true
    → ((held_from (held_to ta t h level) trace a).level ≡ v) × ((a < t → t ≤ b → level ≡ v) × All (HasLevel v a b) trace)
said_next true true d trace h v level a b t ea eb ed le l s f rest e =
    let le_t : t ≤ a = grind (arith, nat_tests) in
    let r = rest (held_to true t h level) (at_most d ed le_t) (by_now d ed) e in
    (r.0, ((λ x y. absurd (omega arith)), r.1))
  where
    at_most : (d : Bool) → differ h.level level ≡ d → t ≤ a → (held_to true t h level).since ≤ a
    at_most true ed x = rw ed x
    at_most false ed x = rw ed l

    by_now : (d : Bool) → differ h.level level ≡ d → (held_to true t h level).since ≤ t
    by_now true ed = rw ed (omega arith)
    by_now false ed = rw ed s
said_next true false d trace h v level a b t ea eb ed le l s f rest e = absurd (grind (arith, nat_tests))
said_next false true true trace h v level a b t ea eb ed le l s f rest e =
    let le_t : a < t = grind (arith, nat_tests) in
    let e2 : is_steady (held_from (record { level = level; since = t }) trace b) v a ≡ true = (rw ed at e) in
    absurd (let x = steady_since (held_from (record { level = level; since = t }) trace b) v a e2 in
    let y = since_grows b trace (record { level = level; since = t }) t (omega arith) f in omega arith)
said_next false true false trace h v level a b t ea eb ed le l s f rest e =
    let le_t : a < t = grind (arith, nat_tests) in
    let r = rest h l s (rw ed at e) in
    let same : h.level ≡ v = sym (ap (λ (g : Held). g.level) (skips trace h t a le_t f)) ∙ r.0 in
    (r.0, ((λ x y. sym (differ_is h.level level ed) ∙ same), r.1))
said_next false false d trace h v level a b t ea eb ed le l s f rest e =
    let r = rest h l s e in
    (r.0, ((λ x y. absurd (grind (arith, nat_tests))), r.1))

says : (trace : List Event) (h : Held) (v : Bool) (a b t : ℕ) → a ≤ b → h.since ≤ a → h.since ≤ t → IsInTime t trace
    → is_steady (held_from h trace b) v a ≡ true → Says h trace v a b
says [] h v a b t le l s f e = (steady_level h v a e, All-nil (HasLevel v a b))
says (event.Edge u lv ∷ trace) h v a b t le l s f e =
    let r = says trace h v a b u.0 le l (let x = f.0 in omega arith) f.1 e in (r.0, All-cons (HasLevel v a b) (event.Edge u lv) trace tt r.1)
says (event.Serial u bt ∷ trace) h v a b t le l s f e =
    let r = says trace h v a b u.0 le l (let x = f.0 in omega arith) f.1 e in (r.0, All-cons (HasLevel v a b) (event.Serial u bt) trace tt r.1)
says (event.Stall u nn ∷ trace) h v a b t le l s f e =
    let r = says trace h v a b u.0 le l (let x = f.0 in omega arith) f.1 e in (r.0, All-cons (HasLevel v a b) (event.Stall u nn) trace tt r.1)
says (event.Comp u level ∷ trace) h v a b t le l s f e =
    let r = said_next (nat_le u.0 a) (nat_le u.0 b) (differ h.level level) trace h v level a b u.0 refl refl refl le l (let x = f.0 in omega arith) f.1
    (λ g x y z. says trace g v a b u.0 le x y f.1 z) e in
    (r.0, All-cons (HasLevel v a b) (event.Comp u level) trace r.1.0 r.1.1)

pub steady_of : (trace : List Event) (v : Bool) (a b : ℕ) → a ≤ b → IsInTime 0 trace → is_steady (held trace b) v a ≡ true → Steady trace v a b
unfolding held
steady_of trace v a b le f e = says trace low v a b 0 le (omega arith) (omega arith) f e

back_next : (ta tb d : Bool) (trace : List Event) (h : Held) (v level : Bool) (a b t : ℕ) → nat_le t a ≡ ta → nat_le t b ≡ tb → differ h.level level ≡ d
    → a ≤ b → h.since ≤ a
    → IsInTime t trace
    → ((g : Held) → g.since ≤ a → Says g trace v a b → is_steady (held_from g trace b) v a ≡ true)
    → (held_from (held_to ta t h level) trace a).level ≡ v → (a < t → t ≤ b → level ≡ v) → All (HasLevel v a b) trace
    → is_steady (held_from (held_to tb t h level) trace b) v a ≡ true
back_next true true d trace h v level a b t ea eb ed le l f rest e c all = rest (held_to true t h level) (at_most d ed (grind (arith, nat_tests))) (e, all)
  where
    at_most : (d : Bool) → differ h.level level ≡ d → t ≤ a → (held_to true t h level).since ≤ a
    at_most true ed x = rw ed x
    at_most false ed x = rw ed l
back_next true false d trace h v level a b t ea eb ed le l f rest e c all = absurd (grind (arith, nat_tests))
back_next false true true trace h v level a b t ea eb ed le l f rest e c all =
    let le_t : a < t = grind (arith, nat_tests) in
    let same : h.level ≡ v = sym (ap (λ (g : Held). g.level) (skips trace h t a le_t f)) ∙ e in
    absurd (let x = sym ed ∙ differ_same h.level level (same ∙ sym (c le_t (grind (arith, nat_tests)))) in cc)
back_next false true false trace h v level a b t ea eb ed le l f rest e c all = rw ed (rest h l (e, all))
back_next false false d trace h v level a b t ea eb ed le l f rest e c all = rest h l (e, all)

heard : (trace : List Event) (h : Held) (v : Bool) (a b t : ℕ) → a ≤ b → h.since ≤ a → IsInTime t trace → Says h trace v a b
    → is_steady (held_from h trace b) v a ≡ true
heard [] h v a b t le l f s = steady_is h v a s.0 l
heard (event.Edge u lv ∷ trace) h v a b t le l f s =
    heard trace h v a b u.0 le l f.1 (s.0, All-tail (HasLevel v a b) (event.Edge u lv) trace s.1)
heard (event.Serial u bt ∷ trace) h v a b t le l f s =
    heard trace h v a b u.0 le l f.1 (s.0, All-tail (HasLevel v a b) (event.Serial u bt) trace s.1)
heard (event.Stall u nn ∷ trace) h v a b t le l f s =
    heard trace h v a b u.0 le l f.1 (s.0, All-tail (HasLevel v a b) (event.Stall u nn) trace s.1)
heard (event.Comp u level ∷ trace) h v a b t le l f s =
    back_next (nat_le u.0 a) (nat_le u.0 b) (differ h.level level) trace h v level a b u.0 refl refl refl le l f.1
    (λ g x z. heard trace g v a b u.0 le x f.1 z)
    s.0 (All-head (HasLevel v a b) (event.Comp u level) trace s.1) (All-tail (HasLevel v a b) (event.Comp u level) trace s.1)

pub steady_by : (trace : List Event) (v : Bool) (a b : ℕ) → a ≤ b → IsInTime 0 trace → Steady trace v a b → is_steady (held trace b) v a ≡ true
unfolding held
steady_by trace v a b le f s = heard trace low v a b 0 le (omega arith) f s

-- with no later event the state stays
same_next : (h : Held) (e : Event) (t u : ℕ) → t ≤ u → tick_of e ≤ t → held_next u h e ≡ held_next t h e
same_next h (event.Comp at level) t u le l = rw (le-leb at.0 u (omega arith), le-leb at.0 t l) refl
same_next h (event.Edge at level) t u le l = refl
same_next h (event.Serial at byte) t u le l = refl
same_next h (event.Stall at n) t u le l = refl

from_on : (trace : List Event) (h : Held) (t u : ℕ) → t ≤ u → All (λ e. tick_of e ≤ t) trace → held_from h trace u ≡ held_from h trace t
from_on [] h t u le all = refl
from_on (e ∷ trace) h t u le all =
    ap (λ (g : Held). held_from g trace u) (same_next h e t u le (All-head (λ (x : Event). tick_of x ≤ t) e trace all))
    ∙ from_on trace (held_next t h e) t u le (All-tail (λ (x : Event). tick_of x ≤ t) e trace all)

pub held_stays : (trace : List Event) (t u : ℕ) → t ≤ u → All (λ e. tick_of e ≤ t) trace → held trace u ≡ held trace t
unfolding held
held_stays trace t u le all = from_on trace low t u le all

-- one more event
pub in_time_push : (trace : List Event) (e : Event) (t : ℕ) → t ≤ tick_of e → IsInTime t trace → All (λ x. tick_of x ≤ tick_of e) trace
    → IsInTime t (trace ++ e ∷ [])
in_time_push [] e t l i all = (l, tt)
in_time_push (x ∷ trace) e t l i all = (
  i.0,
  in_time_push trace e (tick_of x) (All-head (λ (y : Event). tick_of y ≤ tick_of e) x trace all) i.1
      (All-tail (λ (y : Event). tick_of y ≤ tick_of e) x trace all),
)

-- ---- an event of the comparator at now

pub counted_now : (h : Held) (t u : ℕ) (level : Bool) → t ≡ u → held_to (nat_le t u) t h level ≡ held_to true t h level
counted_now h t u level e = rw (le-leb t u (omega arith)) refl

pub held_now : (trace : List Event) (at : Tick) (level : Bool) (u : ℕ) → at.0 ≡ u
    → held (trace ++ event.Comp at level ∷ []) u ≡ held_to true at.0 (held trace u) level
held_now trace at level u e = held-push trace (event.Comp at level) u ∙ counted_now (held trace u) at.0 u level e

pub comp_now : (b : Bank) (h : Held) (t : ℕ) (level : Bool) → b.comp ≡ h.level → (after_comp b level).comp ≡ (held_to true t h level).level
comp_now b h t level e = by_test (differ b.comp level) refl
  where
    by_test : (v : Bool) → differ b.comp level ≡ v → (after_comp b level).comp ≡ (held_to true t h level).level
    by_test true d = rw (d, subst (λ (x : Bool). differ x level ≡ true) e d) refl
    by_test false d = rw (d, subst (λ (x : Bool). differ x level ≡ false) e d) e
