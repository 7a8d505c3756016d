-- Later events change nothing of the crossings and of the search for them before.
use Rattle.std.proofs.Common.{◌≡◌, ◌<◌, ◌-◌, ℕ, Bool, true, false, ◌==◌, if◌then◌else◌, List, [], ◌∷◌, ◌++◌, All, arith}
use Rattle.std.proofs.lemmas.List.Elements.{All-nil, All-cons, All-head, All-tail}
use Rattle.esc_base.specs.declared.event.Event.{Event}
use Rattle.esc_base.specs.declared.note.Note.{Note}
use Rattle.esc_base.specs.declared.note.Note.TheVariants as note
use Rattle.esc_base.specs.Journal.{time_of}
use Rattle.esc_base.specs.Trace.{tick_of}
use Rattle.settings_block.specs.declared.stored.Loaded.{Loaded}
use Rattle.commutation.specs.Commutated.{Turn, Idle, Started, Turned, Crossed, turn_at}
use Rattle.interrupt_machine.specs.declared.nest.Nest.{Nest}
use Rattle.esc_laws.specs.Crossed.{blanked_at, expects_at, MayCross, CrossRule}
use Rattle.esc_laws.specs.Searched.{Sight, Away, Begun, Awaits, First, Settles, Second, sight_at, sight_entered, sight_left, sight_begun, sight_crossed, cmp_open_at, HasCrossed, SearchRule}
use Rattle.esc_laws.specs.Steps.{Turned as Step, notes_in, EachStep, StepFits, Below}
use Rattle.esc_laws.proofs.Comparator.{held_before, steady_grows, steady_was}

-- ---- Z

may_cross_grows : (trace : List Event) (e : Event) (expects : Bool) (blanked z : ℕ) (turn : Turn) → z < tick_of e → MayCross trace expects blanked turn z
    → MayCross (trace ++ e ∷ []) expects blanked turn z
may_cross_grows trace e expects blanked z Idle l c = c
may_cross_grows trace e expects blanked z Started l c = c
may_cross_grows trace e expects blanked z (Turned q) l c =
    record { steady = steady_grows trace e expects (z - 24) z (omega arith) l c.steady; blanked_before = c.blanked_before }
may_cross_grows trace e expects blanked z (Crossed q y) l c = c

pub cross_rule_grows : (trace : List Event) (e : Event) (forward : List Note → Bool) (back : List Note) (n : Note) → time_of n < tick_of e
    → CrossRule trace forward back n → CrossRule (trace ++ e ∷ []) forward back n
cross_rule_grows trace e forward back (note.Cross t) l c =
    may_cross_grows trace e (expects_at forward back) (blanked_at back) t.0 (turn_at back) l c
cross_rule_grows trace e forward back n l c = c

-- ---- the activations of CMP

-- the first one was entered below this tick
abbrev pub EntersBelow : ℕ → Sight → Type 0
EntersBelow t (First i) = i < t
EntersBelow t (Settles i u) = i < t
EntersBelow t (Second i z) = i < t
EntersBelow t s = Unit {0}

entered_below : (s : Sight) (t u : ℕ) → u < t → EntersBelow t s → EntersBelow t (sight_entered s u)
entered_below Away t u l b = tt
entered_below Begun t u l b = tt
entered_below (Awaits v) t u l b = l
entered_below (First i) t u l b = b
entered_below (Settles i v) t u l b = b
entered_below (Second i z) t u l b = b

left_below : (s : Sight) (t u : ℕ) → EntersBelow t s → EntersBelow t (sight_left s u)
left_below Away t u b = tt
left_below Begun t u b = tt
left_below (Awaits v) t u b = tt
left_below (First i) t u b = b
left_below (Settles i v) t u b = b
left_below (Second i z) t u b = tt

begun_below : (s : Sight) (t blanked u : ℕ) → EntersBelow t s → EntersBelow t (sight_begun s blanked u)
begun_below Away t blanked u b = tt
begun_below Begun t blanked u b = tt
begun_below (Awaits v) t blanked u b = tt
begun_below (First i) t blanked u b = b
begun_below (Settles i v) t blanked u b = b
begun_below (Second i z) t blanked u b = b

crossed_below : (s : Sight) (t : ℕ) → EntersBelow t s → EntersBelow t (sight_crossed s)
crossed_below Away t b = tt
crossed_below Begun t b = tt
crossed_below (Awaits v) t b = tt
crossed_below (First i) t b = b
crossed_below (Settles i v) t b = b
crossed_below (Second i z) t b = b

either_below : (v : Bool) (s s' : Sight) (t : ℕ) → EntersBelow t s → EntersBelow t s' → EntersBelow t (if v then s else s')
either_below true s s' t b b' = b
either_below false s s' t b b' = b'

pub sight_below : (n : Note) (back : List Note) (t : ℕ) → time_of n < t → EntersBelow t (sight_at back) → EntersBelow t (sight_at (n ∷ back))
sight_below (note.Enter u k) back t l b = either_below (k == 4) (sight_entered (sight_at back) u.0) (sight_at back) t
    (entered_below (sight_at back) t u.0 l b) b
sight_below (note.Leave u k) back t l b =
    either_below (k == 4) (sight_left (sight_at back) u.0) (if k == 6 then sight_begun (sight_at back) (blanked_at back) u.0 else sight_at back) t
    (left_below (sight_at back) t u.0 b)
    (either_below (k == 6) (sight_begun (sight_at back) (blanked_at back) u.0) (sight_at back) t (begun_below (sight_at back) t (blanked_at back) u.0 b) b)
sight_below (note.Control u n s d) back t l b = either_below (d == 0) Away (sight_at back) t tt b
sight_below (note.Step u s) back t l b = either_below (cmp_open_at back) Away Begun t tt tt
sight_below (note.Cross u) back t l b = crossed_below (sight_at back) t b
sight_below n back t l b = b

has_crossed_grows : (trace : List Event) (e : Event) (expects : Bool) (s : Sight) (t : ℕ) → EntersBelow (tick_of e) s → HasCrossed trace expects s t
    → HasCrossed (trace ++ e ∷ []) expects s t
has_crossed_grows trace e expects (Second i z) t b h = λ s. h (steady_was trace e expects i t b s)
has_crossed_grows trace e expects Away t b h = tt
has_crossed_grows trace e expects Begun t b h = tt
has_crossed_grows trace e expects (Awaits u) t b h = tt
has_crossed_grows trace e expects (First i) t b h = tt
has_crossed_grows trace e expects (Settles i u) t b h = tt

pub search_rule_grows : (trace : List Event) (e : Event) (forward : List Note → Bool) (back : List Note) (n : Note) → time_of n < tick_of e
    → EntersBelow (tick_of e) (sight_at back) → SearchRule trace forward back n → SearchRule (trace ++ e ∷ []) forward back n
search_rule_grows trace e forward back (note.Enter t k) l b s = λ is. rw (held_before trace e t.0 l) (s is)
search_rule_grows trace e forward back (note.Leave t k) l b s = λ is. has_crossed_grows trace e (expects_at forward back) (sight_at back) t.0 b (s is)
search_rule_grows trace e forward back n l b s = s

-- ---- the notes of steps that stand below a tick

both_below : (t : ℕ) (xs ys : List Note) → All (λ n. time_of n < t) xs → All (λ n. time_of n < t) ys → All (λ n. time_of n < t) (xs ++ ys)
both_below t [] ys a b = b
both_below t (x ∷ xs) ys a b =
    All-cons (λ n. time_of n < t) x (xs ++ ys) (All-head (λ n. time_of n < t) x xs a) (both_below t xs ys (All-tail (λ n. time_of n < t) x xs a) b)

at_below : (t u : ℕ) (xs : List Note) → u < t → All (λ n. time_of n ≡ u) xs → All (λ n. time_of n < t) xs
at_below t u [] l a = All-nil (λ n. time_of n < t)
at_below t u (x ∷ xs) l a =
    All-cons (λ n. time_of n < t) x xs (let e = All-head (λ n. time_of n ≡ u) x xs a in omega arith)
    (at_below t u xs l (All-tail (λ n. time_of n ≡ u) x xs a))

pub notes_below : (loaded : Loaded) (nest : Nest) (cost : ℕ) (trace : List Event) (t : ℕ) (before log : List Step)
    → EachStep (StepFits loaded nest cost trace) before log → Below t log → All (λ n. time_of n < t) (notes_in log)
notes_below loaded nest cost trace t before [] f b = All-nil (λ n. time_of n < t)
notes_below loaded nest cost trace t before (x ∷ log) f b =
    both_below t x.notes (notes_in log) (at_below t x.tick x.notes (All-head (λ y. y.tick < t) x log b) f.0.at_tick)
    (notes_below loaded nest cost trace t (before ++ x ∷ []) log f.1 (All-tail (λ y. y.tick < t) x log b))
