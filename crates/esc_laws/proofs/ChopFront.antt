-- `Chopped` of what stands where a write failed, and of a journal without a drive.
use Rattle.std.proofs.Common.{◌≡◌, ◌≤◌, ◌<◌, ◌+◌, ◌-◌, ◌*◌, ℕ, Bool, true, false, if◌then◌else◌, nat_le, List, [], ◌∷◌, ◌++◌, reverse, refl, sym, ◌∙◌, ap, arith, inl, inr, append_assoc, append-nil, All}
use Rattle.std.proofs.lemmas.List.{reverse-append}
use Rattle.std.proofs.lemmas.List.Elements.{All-head, All-tail, All-nil, All-cons, All-append, All-weaker}
use Rattle.std.proofs.lemmas.Bool.{cases_lt}
use Rattle.esc_base.specs.declared.event.Event.{Event}
use Rattle.esc_base.specs.declared.note.Note.{Note}
use Rattle.esc_base.specs.declared.note.Note.TheVariants as note
use Rattle.esc_base.specs.Journal.{time_of}
use Rattle.esc_base.specs.Numbers.{as_tick}
use Rattle.settings_block.specs.declared.stored.Loaded.{Loaded}
use Rattle.interrupt_machine.specs.declared.nest.Nest.{Nest}
use Rattle.arming.specs.ControlAt.{demand_at}
use Rattle.commutation.specs.Commutated.{sector_at}
use Rattle.esc_laws.specs.Steps.{Turned, opening, load_number, notes_in, journal, Below, EachStep, StepFits}
use Rattle.esc_laws.specs.Chopped.{upto, by_tick, disturbs, Undisturbed, Chopped}
use Rattle.esc_laws.proofs.Notes.{all_front}
use Rattle.std.proofs.lemmas.Bool.{le-leb, lt-leb}

-- ---- a front of one more step's notes

-- notes that stand at T don't count below T
below_front : (t u : ℕ) (notes front : List Note) → t < u → All (λ n. time_of n ≡ u) front → upto t (notes ++ front) ≡ upto t notes
below_front t u [] [] l a = refl
below_front t u [] (n ∷ front) l a =
    let e : time_of n ≡ u = All-head (λ x. time_of x ≡ u) n front a in
    rw (lt-leb (time_of n) t (omega arith)) refl
below_front t u (n ∷ notes) front l a =
    ap (λ (x : List Note). if nat_le (time_of n) t then n ∷ x else []) (below_front t u notes front l a)

-- all notes stand by this tick
pub all_upto : (t : ℕ) (notes : List Note) → All (λ n. time_of n ≤ t) notes → upto t notes ≡ notes
all_upto t [] a = refl
all_upto t (n ∷ notes) a =
    rw (le-leb (time_of n) t (All-head (λ x. time_of x ≤ t) n notes a))
    (ap (λ (x : List Note). n ∷ x) (all_upto t notes (All-tail (λ x. time_of x ≤ t) n notes a)))

front_tick : (t u : ℕ) (notes front : List Note) → t < u → All (λ n. time_of n ≡ u) front → by_tick t (notes ++ front) ≡ by_tick t notes
front_tick t u notes front l a = ap (λ (x : List Note). reverse x) (below_front t u notes front l a)

-- where a claim about a tick below T is made, the period is undisturbed by the whole steps too
undisturbed_before : (cost : ℕ) (trace : List Event) (until p d t : ℕ) (notes front : List Note) → t < until → p + 48 * cost ≤ t
    → All (λ n. time_of n < until) notes → All (λ n. time_of n ≡ until) front → Undisturbed cost trace (notes ++ front) p d
    → Undisturbed cost trace notes p d
undisturbed_before cost trace until p d t notes front lt late below at y = record {
  drives = y.drives;
  number = y.number;
  starts = y.starts;
  demand = λ u lo hi. elim (cases_lt u until) [
    | inl in_time ↦ ap demand_at (sym (front_tick u until notes front in_time at)) ∙ y.demand u lo hi
    | inr after ↦ (let last : until - 1 < until = omega arith in
        ap demand_at (same_later u after ∙ sym (front_tick (until - 1) until notes front last at)) ∙ y.demand (until - 1) (omega arith) (omega arith))
  ];
  stalls = y.stalls;
  before = y.before;
  sector = rw (← before_is) y.sector;
  none = all_front (λ n. p ≤ time_of n → time_of n < p + 2000 → disturbs n ≡ false) notes front y.none;
  free = rw (← before_is) y.free;
}
  where
    before_is : by_tick (p - 1) (notes ++ front) ≡ by_tick (p - 1) notes
    before_is = front_tick (p - 1) until notes front (omega arith) at

    same_later : (u : ℕ) → until ≤ u → by_tick u notes ≡ by_tick (until - 1) notes
    same_later u le = ap (λ (x : List Note). reverse x)
        (all_upto u notes (All-weaker (λ n. time_of n < until) (λ n. time_of n ≤ u) (λ n l. omega arith) notes below)
        ∙ sym (all_upto (until - 1) notes (All-weaker (λ n. time_of n < until) (λ n. time_of n ≤ until - 1) (λ n l. omega arith) notes below)))

chopped_on : (cost : ℕ) (trace : List Event) (until : ℕ) (notes front : List Note)
    → All (λ n. time_of n < until) notes → All (λ n. time_of n ≡ until) front → Chopped cost trace until notes → Chopped cost trace until (notes ++ front)
chopped_on cost trace until notes front below at c p d y = record {
  high_on = λ t lt late by.
      rw (front_tick t until notes front lt at, sector_is t lt late)
      ((c p d (undisturbed_before cost trace until p d t notes front lt late below at y)).high_on t lt late by);
  high_off = λ t lt late by.
      let since : p + 48 * cost ≤ t = omega arith in
      rw (front_tick t until notes front lt at, sector_is t lt since)
      ((c p d (undisturbed_before cost trace until p d t notes front lt since below at y)).high_off t lt late by);
  low_on = λ t lt late by.
      rw (front_tick t until notes front lt at, sector_is t lt late)
      ((c p d (undisturbed_before cost trace until p d t notes front lt late below at y)).low_on t lt late by);
  other_low_off = λ t lt late by.
      rw (front_tick t until notes front lt at, sector_is t lt late)
      ((c p d (undisturbed_before cost trace until p d t notes front lt late below at y)).other_low_off t lt late by);
}
  where
    sector_is : (t : ℕ) → t < until → p + 48 * cost ≤ t → sector_at (by_tick (p - 1) (notes ++ front)) ≡ sector_at (by_tick (p - 1) notes)
    sector_is t lt late = let some = y.before in ap sector_at (front_tick (p - 1) until notes front (omega arith) at)

-- the notes of whole steps stand below T
steps_below : (loaded : Loaded) (nest : Nest) (cost : ℕ) (trace : List Event) (until : ℕ) (before log : List Turned) → Below until log
    → EachStep (StepFits loaded nest cost trace) before log → All (λ n. time_of n < until) (notes_in log)
steps_below loaded nest cost trace until before [] b f = All-nil (λ n. time_of n < until)
steps_below loaded nest cost trace until before (e ∷ log) b f =
    let lt : e.tick < until = All-head (λ x. x.tick < until) e log b in
    All-append (λ n. time_of n < until) e.notes (notes_in log)
    (All-weaker (λ n. time_of n ≡ e.tick) (λ n. time_of n < until) (λ n is. omega arith) e.notes f.0.at_tick)
    (steps_below loaded nest cost trace until (before ++ e ∷ []) log (All-tail (λ x. x.tick < until) e log b) f.1)

-- nothing is claimed below tick 1
none_claimed : (cost : ℕ) (trace : List Event) (notes : List Note) → Chopped cost trace 0 notes
none_claimed cost trace notes p d y =
    record {
      high_on = λ t lt. absurd (omega arith);
      high_off = λ t lt. absurd (omega arith);
      low_on = λ t lt. absurd (omega arith);
      other_low_off = λ t lt. absurd (omega arith);
    }

pub chopped_front : (loaded : Loaded) (nest : Nest) (cost : ℕ) (trace : List Event) (until : ℕ) (log : List Turned) (front : List Note)
    → Below until log → EachStep (StepFits loaded nest cost trace) [] log → All (λ n. time_of n ≡ until) front → Chopped cost trace until (journal loaded log)
    → Chopped cost trace until (journal loaded log ++ front)
chopped_front loaded nest cost trace until log front below fits at c = elim (cases_lt 0 until) [
  | inl some ↦ chopped_on cost trace until (journal loaded log) front
      (All-append (λ n. time_of n < until) (opening loaded) (notes_in log)
      (All-cons (λ n. time_of n < until) (note.Up (as_tick 0) (load_number loaded.fault)) (note.Window (as_tick 0) 0 ∷ []) some
      (All-cons (λ n. time_of n < until) (note.Window (as_tick 0) 0) [] some (All-nil (λ n. time_of n < until))))
      (steps_below loaded nest cost trace until [] log below fits)) at c
  | inr none ↦ (let zero : until ≡ 0 = omega arith in rw zero (none_claimed cost trace (journal loaded log ++ front)))
]

-- ---- without a drive

same_sector : (t : ℕ) (notes back : List Note) → All (λ n. disturbs n ≡ false) notes → sector_at (reverse (upto t notes) ++ back) ≡ sector_at back
same_sector t [] back a = refl
same_sector t (n ∷ notes) back a = by_time (nat_le (time_of n) t) (same_sector t notes (n ∷ back) (All-tail (λ x. disturbs x ≡ false) n notes a))
  where
    one : (x : Note) → disturbs x ≡ false → sector_at (x ∷ back) ≡ sector_at back
    one (note.Step u s) e = absurd (cc)
    one x e = refl

    by_time : (v : Bool) → sector_at (reverse (upto t notes) ++ n ∷ back) ≡ sector_at (n ∷ back)
        → sector_at (reverse (if v then n ∷ upto t notes else []) ++ back) ≡ sector_at back
    by_time false more = refl
    by_time true more =
        ap sector_at (ap (λ (l : List Note). l ++ back) (reverse-append (n ∷ []) (upto t notes)) ∙ append_assoc (reverse (upto t notes)) (n ∷ []) back)
        ∙ more
        ∙ one n (All-head (λ x. disturbs x ≡ false) n notes a)

-- a journal without a Q, and without a step of COMM
pub chopped_none : (cost : ℕ) (trace : List Event) (until : ℕ) (notes : List Note) → All (λ n. disturbs n ≡ false) notes → Chopped cost trace until notes
chopped_none cost trace until notes a p d y =
    let none : sector_at (by_tick (p - 1) notes) ≡ 0 =
    ap sector_at (sym (append-nil (by_tick (p - 1) notes))) ∙ same_sector (p - 1) notes [] a in
    let some : 0 < sector_at (by_tick (p - 1) notes) = y.sector in
    absurd (omega arith)
