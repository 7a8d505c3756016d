-- Two lists of steps that fit and have the same notes are one: each step is told by the notes of its tick.
use Rattle.std.proofs.Common.{◌≡◌, ◌≢◌, ◌<◌, ◌+◌, ◌⊎◌, inl, inr, ℕ, Bool, true, false, List, [], ◌∷◌, ◌++◌, Some, None, Option, refl, ap, subst, sym, ◌∙◌, arith, All, append-nil, append_assoc}
use Rattle.std.specs.Prelude.{◌==◌, if◌then◌else◌}
use Rattle.std.proofs.lemmas.Bool.Decides.{nat_tests}
use Rattle.std.proofs.lemmas.List.Elements.{All-head, All-tail, All-cons, All-nil, All-append}
use Rattle.esc_base.specs.declared.event.Event.{Event}
use Rattle.esc_base.specs.declared.kind.Kind.{Kind}
use Rattle.esc_base.specs.declared.note.Note.{Note}
use Rattle.esc_base.specs.declared.note.Note.TheVariants as note
use Rattle.esc_base.specs.Numbers.{kind_number, as_tick}
use Rattle.esc_base.specs.Journal.{time_of}
use Rattle.settings_block.specs.declared.stored.Loaded.{Loaded}
use Rattle.interrupt_machine.specs.declared.nest.Nest.{Nest}
use Rattle.interrupt_machine.specs.Open.{innermost, kind_of}
use Rattle.interrupt_machine.proofs.OpenKinds.{kind_of-number}
use Rattle.esc_laws.specs.Legal.{Legal}
use Rattle.esc_laws.specs.Steps.{Turned, opening, notes_in, open_in, after, is_entry, EachStep, StepFits, Awaits, Below}
use Rattle.esc_laws.proofs.Pushes.{after-push}
use Rattle.esc_laws.proofs.Stalls.{free_later}

-- ---- notes at a tick, and later ones

front : ℕ → List Note → List Note
front t [] = []
front t (n ∷ rest) = if time_of n == t then n ∷ front t rest else []

behind : ℕ → List Note → List Note
behind t [] = []
behind t (n ∷ rest) = if time_of n == t then behind t rest else n ∷ rest

abbrev At : ℕ → List Note → Type 0
At t ns = All (λ n. time_of n ≡ t) ns

abbrev Later : ℕ → List Note → Type 0
Later t ns = All (λ n. t < time_of n) ns

front_is : (t : ℕ) (xs ys : List Note) → At t xs → Later t ys → front t (xs ++ ys) ≡ xs
unfolding front
front_is t [] [] a b = refl
front_is t [] (n ∷ ys) a b = let l = All-head (λ n. t < time_of n) n ys b in grind (arith, nat_tests)
front_is t (n ∷ xs) ys a b =
    let l : time_of n ≡ t = All-head (λ n. time_of n ≡ t) n xs a in
    let r = front_is t xs ys (All-tail (λ n. time_of n ≡ t) n xs a) b in grind (arith, nat_tests)

behind_is : (t : ℕ) (xs ys : List Note) → At t xs → Later t ys → behind t (xs ++ ys) ≡ ys
unfolding behind
behind_is t [] [] a b = refl
behind_is t [] (n ∷ ys) a b = let l = All-head (λ n. t < time_of n) n ys b in grind (arith, nat_tests)
behind_is t (n ∷ xs) ys a b =
    let l : time_of n ≡ t = All-head (λ n. time_of n ≡ t) n xs a in
    let r = behind_is t xs ys (All-tail (λ n. time_of n ≡ t) n xs a) b in grind (arith, nat_tests)

at_later : (t u : ℕ) (ns : List Note) → t < u → At u ns → Later t ns
at_later t u [] l a = All-nil (λ n. t < time_of n)
at_later t u (n ∷ ns) l a =
    let e : time_of n ≡ u = All-head (λ n. time_of n ≡ u) n ns a in
    All-cons (λ n. t < time_of n) n ns (omega arith) (at_later t u ns l (All-tail (λ n. time_of n ≡ u) n ns a))

-- all notes of further steps stand later than the tick of the step before
later_notes : (loaded : Loaded) (nest : Nest) (cost : ℕ) (trace : List Event) (t : ℕ) (before log : List Turned) → 0 < cost
    → EachStep (StepFits loaded nest cost trace) before log → t < after cost trace before → Later t (notes_in log)
later_notes loaded nest cost trace t before [] pos f l = All-nil (λ n. t < time_of n)
later_notes loaded nest cost trace t before (e ∷ log) pos f l =
    let a = f.0.later in
    let g = free_later trace (e.tick + cost) in
    let w = after-push cost trace before e in
    All-append (λ n. t < time_of n) e.notes (notes_in log) (at_later t e.tick e.notes (omega arith) f.0.at_tick)
    (later_notes loaded nest cost trace t (before ++ e ∷ []) log pos f.1 (rw w (omega arith)))

-- ---- one step

first_tick : List Note → ℕ
first_tick [] = 0
first_tick (n ∷ rest) = time_of n

entered : Note → ℕ
entered (note.Enter t k) = k
entered n = 0

first_kind : List Note → ℕ
first_kind [] = 0
first_kind (n ∷ rest) = entered n

begins : List Note → Bool
begins [] = false
begins (n ∷ rest) = is_entry n

begins_none : (ns : List Note) → All (λ n. is_entry n ≡ false) ns → begins ns ≡ false
unfolding begins
begins_none [] a = refl
begins_none (n ∷ rest) a = All-head (λ n. is_entry n ≡ false) n rest a

module _ (loaded : Loaded) (nest : Nest) (cost : ℕ) (trace : List Event) where
  abbrev Fits : List Turned → Turned → Type 0
  Fits before e = StepFits loaded nest cost trace before e

  -- whether a step is an entry is told by its notes
  enters_by : (before : List Turned) (e : Turned) → Fits before e → (i : Bool) → e.enters ≡ i → begins e.notes ≡ i
  unfolding begins
  enters_by before e f true w = rw (f.entry w) refl
  enters_by before e f false w = begins_none e.notes (f.no_entry w)

  kind_entered : (before : List Turned) (e : Turned) → Fits before e → e.enters ≡ true → e.kind ≡ kind_of (first_kind e.notes)
  unfolding first_kind entered
  kind_entered before e f w = rw (f.entry w) (sym (kind_of-number e.kind))

  kind_in : Option Kind → Kind → Kind
  kind_in None k = k
  kind_in (Some j) k = j

  kind_own : (before : List Turned) (e : Turned) (k : Kind) → Fits before e → e.enters ≡ false → e.kind ≡ kind_in (innermost (open_in loaded before)) k
  unfolding kind_in
  kind_own before e k f w = rw (f.own w) refl

  same : (e e' : Turned) → e.tick ≡ e'.tick → e.kind ≡ e'.kind → e.enters ≡ e'.enters → e.notes ≡ e'.notes → e ≡ e'
  same e e' a b c d = make e.tick e.kind e.enters e.notes e' a b c d where
    make : (t : ℕ) (k : Kind) (i : Bool) (ns : List Note) (x : Turned) → t ≡ x.tick → k ≡ x.kind → i ≡ x.enters → ns ≡ x.notes
        → ◌≡◌ {A = Turned} (record { tick = t; kind = k; enters = i; notes = ns }) x
    make t k i ns x a b c d = rw (a, b, c, d) refl

  kinds : (before : List Turned) (e e' : Turned) → Fits before e → Fits before e' → e.notes ≡ e'.notes → (i : Bool) → e.enters ≡ i → e'.enters ≡ i → e.kind ≡ e'.kind
  kinds before e e' f f' ns true w w' = kind_entered before e f w ∙ ap (λ (xs : List Note). kind_of (first_kind xs)) ns ∙ sym (kind_entered before e' f' w')
  kinds before e e' f f' ns false w w' = kind_own before e e.kind f w ∙ sym (kind_own before e' e.kind f' w')

  -- two steps after the same ones with the same notes, at one tick, are one
  same_step : (before : List Turned) (e e' : Turned) → Fits before e → Fits before e' → e.tick ≡ e'.tick → e.notes ≡ e'.notes → e ≡ e'
  same_step before e e' f f' t ns =
      let i = sym (enters_by before e f e.enters refl) ∙ ap begins ns ∙ enters_by before e' f' e'.enters refl in
      same e e' t (kinds before e e' f f' ns e.enters refl (sym i)) i ns

  is_empty : (s : List Kind) → (s ≡ []) ⊎ (s ≢ [])
  is_empty [] = inl refl
  is_empty (k ∷ s) = inr (λ h. grind arith)

  idle_tick : (before : List Turned) (e : Turned) (rest : List Note) → Fits before e → open_in loaded before ≡ [] → e.tick ≡ first_tick (e.notes ++ rest)
  unfolding first_tick
  idle_tick before e rest f o = rw (f.entry (f.first o).0) refl

  same_tick : (before : List Turned) (e e' : Turned) (rest rest' : List Note) → Fits before e → Fits before e' → e.notes ++ rest ≡ e'.notes ++ rest' → e.tick ≡ e'.tick
  same_tick before e e' rest rest' f f' w = elim (is_empty (open_in loaded before)) [
    | inl o ↦ idle_tick before e rest f o ∙ ap first_tick w ∙ sym (idle_tick before e' rest' f' o)
    | inr o ↦ f.open_step o ∙ sym (f'.open_step o)
  ]

  no_notes : (ns rest : List Note) (t : ℕ) (k : Kind) → ns ≡ note.Enter (as_tick t) (kind_number k) ∷ [] → ns ++ rest ≡ [] → ⊥
  no_notes ns rest t k w none = let a = sym (ap (λ (xs : List Note). xs ++ rest) w) ∙ none in grind arith

  -- no step is left where none awaits one
  no_more : (until : ℕ) (before : List Turned) (e : Turned) (rest : List Note) → Awaits loaded cost trace until before → Fits before e → e.tick < until
      → e.notes ++ rest ≡ [] → ⊥
  no_more until before e rest w f l none = elim (is_empty (open_in loaded before)) [
    | inl o ↦ no_notes e.notes rest e.tick e.kind (f.entry (f.first o).0) none
    | inr o ↦ let a = w.open_step o in let b = f.later in omega arith
  ]

  record Whole (until : ℕ) (before log : List Turned) : Type 0 where
    fits : EachStep (StepFits loaded nest cost trace) before log
    below : Below until log
    awaits : Awaits loaded cost trace until (before ++ log)

  later_in : (until : ℕ) (before : List Turned) (e : Turned) (log : List Turned) → 0 < cost → Whole until before (e ∷ log) → Later e.tick (notes_in log)
  later_in until before e log pos x =
      let g = free_later trace (e.tick + cost) in
      later_notes loaded nest cost trace e.tick (before ++ e ∷ []) log pos x.fits.1 (rw (after-push cost trace before e) (omega arith))

  rest_of : (until : ℕ) (before : List Turned) (e : Turned) (log : List Turned) → Whole until before (e ∷ log) → Whole until (before ++ e ∷ []) log
  rest_of until before e log x = record {
    fits = x.fits.1;
    below = All-tail (λ y. y.tick < until) e log x.below;
    awaits = subst (Awaits loaded cost trace until) (sym (append_assoc before (e ∷ []) log)) x.awaits;
  }

  ends : (until : ℕ) (before : List Turned) → Whole until before [] → Awaits loaded cost trace until before
  ends until before x = subst (Awaits loaded cost trace until) (append-nil before) x.awaits

  fixed : (until : ℕ) (before log log' : List Turned) → 0 < cost → notes_in log ≡ notes_in log' → Whole until before log → Whole until before log' → log ≡ log'
  fixed until before [] [] pos w x x' = refl
  fixed until before [] (e' ∷ log') pos w x x' =
      absurd (no_more until before e' (notes_in log') (ends until before x) x'.fits.0 (All-head (λ y. y.tick < until) e' log' x'.below) (sym w))
  fixed until before (e ∷ log) [] pos w x x' =
      absurd (no_more until before e (notes_in log) (ends until before x') x.fits.0 (All-head (λ y. y.tick < until) e log x.below) w)
  fixed until before (e ∷ log) (e' ∷ log') pos w x x' =
      let t = same_tick before e e' (notes_in log) (notes_in log') x.fits.0 x'.fits.0 w in
      let l = later_in until before e log pos x in
      let l' : Later e.tick (notes_in log') = subst (λ (u : ℕ). Later u (notes_in log')) (sym t) (later_in until before e' log' pos x') in
      let a' : At e.tick e'.notes = subst (λ (u : ℕ). At u e'.notes) (sym t) x'.fits.0.at_tick in
      let ns = sym (front_is e.tick e.notes (notes_in log) x.fits.0.at_tick l) ∙ ap (front e.tick) w ∙ front_is e.tick e'.notes (notes_in log') a' l' in
      let more = sym (behind_is e.tick e.notes (notes_in log) x.fits.0.at_tick l) ∙ ap (behind e.tick) w ∙ behind_is e.tick e'.notes (notes_in log') a' l' in
      let one = same_step before e e' x.fits.0 x'.fits.0 t ns in
      let y' : Whole until (before ++ e ∷ []) log' = subst (λ (z : Turned). Whole until (before ++ z ∷ []) log') (sym one) (rest_of until before e' log' x') in
      ap (λ (z : Turned). z ∷ log) one ∙ ap (λ (zs : List Turned). e' ∷ zs) (fixed until (before ++ e ∷ []) log log' pos more (rest_of until before e log x) y')

  rests : (notes : List Note) (xs ys : List Note) → notes ≡ opening loaded ++ xs → notes ≡ opening loaded ++ ys → xs ≡ ys
  rests notes xs ys a b = let c = sym a ∙ b in grind arith

  whole : (until : ℕ) (notes : List Note) (l : Legal loaded nest cost trace until notes) → Whole until [] l.log
  whole until notes l = record { fits = l.fits; below = l.below; awaits = l.all_made }

pub log_fixed : (loaded : Loaded) (nest : Nest) (cost : ℕ) (trace : List Event) (until : ℕ) (notes : List Note)
    → 0 < cost → (l l' : Legal loaded nest cost trace until notes) → l.log ≡ l'.log
log_fixed loaded nest cost trace until notes pos l l' =
    fixed loaded nest cost trace until [] l.log l'.log pos
    (sym l.steps_are ∙ rests loaded nest cost trace notes l.rest l'.rest l.begins l'.begins ∙ l'.steps_are)
    (whole loaded nest cost trace until notes l) (whole loaded nest cost trace until notes l')
