-- A whole step of the innermost handler, its return too: which notes it has, and what holds after it between any two steps.
use Rattle.std.proofs.Common.{◌≡◌, ◌≢◌, ◌≤◌, ◌<◌, ◌==◌, ℕ, length, arith, Bool, true, false, ◌&&◌, nat_lt, if◌then◌else◌, List, [], ◌∷◌, ◌++◌, Some, refl, sym, ◌∙◌, ap, subst, inl, inr, append_assoc}
use Rattle.std.proofs.lemmas.Bool.{le-ltb}
use Rattle.std.proofs.lemmas.List.{length-append}
use Rattle.esc_base.specs.declared.kind.Kind.{Kind}
use Rattle.esc_base.specs.declared.note.Note.{Note}
use Rattle.esc_base.specs.declared.note.Note.TheVariants as note
use Rattle.esc_base.specs.Numbers.{kind_number, as_tick}
use Rattle.timer_regs.specs.Bank.{Bank}
use Rattle.interrupt_machine.specs.declared.firmware.Did.{Did}
use Rattle.interrupt_machine.specs.declared.firmware.Did.TheVariants.{More, Return}
use Rattle.interrupt_machine.specs.declared.firmware.Own.TheVariants as own
use Rattle.interrupt_machine.specs.Did.{accessed, notes_of}
use Rattle.interrupt_machine.specs.Open.{innermost, is_open, IsStack}
use Rattle.interrupt_machine.specs.Turn.{gate_note, leave_note, own_notes}
use Rattle.interrupt_machine.proofs.OpenKinds.{live_more, live_less, same_kind}
use Rattle.esc_core.specs.Brain.{Brain}
use Rattle.esc_core.specs.Stepped.{Stepped, IsStepped, is_return}
use Rattle.esc_core.specs.Firmware.{left_of, need_of, is_stray}
use Rattle.esc_core.proofs.Bounds.{Bounds}
use Rattle.esc_laws.specs.Steps.{most_notes}
use Rattle.esc_rooms.specs.Tied.{Keeps}
use Rattle.esc_rooms.specs.World.{all_notes, open_left}
use Rattle.esc_rooms.proofs.shared.Facts.{access_time, outer_open, not_open}

-- ---- no step of a run is a stray one

pub steady : (k : Kind) (c : Brain) (b : Bank) (stack : List Kind) → Keeps c b stack → innermost stack ≡ Some k → is_stray k c b ≡ false
steady k c b stack keeps i = by_mask b.masked c.hold (need_of c k) (λ m. keeps.enough m k i)
  where
    by_mask : (m : Bool) (h n : ℕ) → (m ≡ true → n ≤ h) → (m && nat_lt h n) ≡ false
    by_mask true h n f = le-ltb h n (f refl)
    by_mask false h n f = refl

-- ---- its notes

leave_is : (did : Did) (b' : Bank) (k : Kind) (v : Bool) → is_return did ≡ v
    → leave_note b' k did ≡ (if v then note.Leave (as_tick b'.time) (kind_number k) ∷ [] else [])
leave_is (More own) b' k v e = rw (sym e) refl
leave_is (Return own) b' k v e = rw (sym e) refl

pub own_are : (k : Kind) (b b' : Bank) (s : Stepped) (did : Did) (c' : Brain) → IsStepped b s did c' b' → own_notes b.hi b.lo b' k did ≡ all_notes b k s
own_are k b b' s did c' i =
    let after : Bank = accessed b s.access in
    let leaves = leave_is did after k s.over i.over_is
    ∙ ap (λ (t : ℕ). if s.over then note.Leave (as_tick t) (kind_number k) ∷ [] else []) (access_time b s.access) in
    ap (λ (x : Bank). own_notes b.hi b.lo x k did) i.bank_is
    ∙ append_assoc (gate_note b.hi b.lo after) (notes_of did) (leave_note after k did)
    ∙ ap (λ (ns : List Note). gate_note b.hi b.lo after ++ ns)
    (ap (λ (ns : List Note). ns ++ leave_note after k did) i.notes_are ∙ ap (λ (ns : List Note). s.notes ++ ns) leaves)

-- they are few: a G, at most two of its own, and the return
few_gates : (v : Bool) (g : Note) → length (if v then [] else g ∷ []) ≤ 1
few_gates true g = omega arith
few_gates false g = omega arith

few_of : (did : Did) (after : Bank) (k : Kind) → length (notes_of did ++ leave_note after k did) ≤ 3
few_of (More own.None) after k = omega arith
few_of (More (own.One n)) after k = omega arith
few_of (More (own.Two n m)) after k = omega arith
few_of (Return own.None) after k = omega arith
few_of (Return (own.One n)) after k = omega arith
few_of (Return (own.Two n m)) after k = omega arith

pub own_few : (hi lo : ℕ) (after : Bank) (k : Kind) (did : Did) → length (own_notes hi lo after k did) ≤ most_notes
own_few hi lo after k did =
    let g = few_gates ((after.hi == hi) && (after.lo == lo)) (note.Gate (record { 0 = after.time }) after.hi after.lo) in
    let own = few_of did after k in
    rw (
      append_assoc (gate_note hi lo after) (notes_of did) (leave_note after k did),
      length-append (gate_note hi lo after)
          (notes_of did ++ leave_note after k did),
    )
    (omega arith)

-- ---- what holds between any two steps

inner_is : (v : Bool) (k j : Kind) (outer : List Kind) → v ≡ false → innermost (if v then outer else k ∷ outer) ≡ Some j → k ≡ j
inner_is true k j outer e i = cc
inner_is false k j outer e i = cc

live_left : (v : Bool) (k : Kind) (c c' : Brain) (outer : List Kind) → IsStack (k ∷ outer) → ((j : Kind) → is_open (k ∷ outer) j ≡ true → 0 < left_of c j)
    → ((j : Kind) → j ≢ k → left_of c' j ≡ left_of c j)
    → (v ≡ false → 0 < left_of c' k) → (j : Kind) → is_open (if v then outer else k ∷ outer) j ≡ true → 0 < left_of c' j
live_left true k c c' outer sorted live others more j o = live_less (left_of c) (left_of c') k outer sorted live others j o
live_left false k c c' outer sorted live others more j o = live_more (left_of c) (left_of c') k outer live (more refl) others j o

shut_left : (v : Bool) (k : Kind) (c c' : Brain) (outer : List Kind) → ((j : Kind) → is_open (k ∷ outer) j ≡ false → left_of c j ≡ 0)
    → ((j : Kind) → j ≢ k → left_of c' j ≡ left_of c j)
    → (v ≡ true → left_of c' k ≡ 0) → (j : Kind) → is_open (if v then outer else k ∷ outer) j ≡ false → left_of c' j ≡ 0
shut_left true k c c' outer shut others none j f = elim (same_kind j k) [
  | inl s ↦ subst (λ (x : Kind). left_of c' x ≡ 0) (sym s) (none refl)
  | inr ne ↦ others j ne ∙ shut j (outer_open k j outer ne ∙ f)
]
shut_left false k c c' outer shut others none j f = others j (not_open k j outer f).0 ∙ shut j f

still_inner : (v : Bool) (k : Kind) (outer : List Kind) → v ≡ false → innermost (if v then outer else k ∷ outer) ≡ Some k
still_inner true k outer e = cc
still_inner false k outer e = refl

some_kind : (k j : Kind) → Some k ≡ Some j → j ≡ k
some_kind k j e = cc

pub keeps_own : (k : Kind) (c : Brain) (b : Bank) (outer : List Kind) (s : Stepped) → IsStack (k ∷ outer) → Keeps c b (k ∷ outer) → Bounds k c b s
    → Keeps s.core (accessed b s.access) (open_left k outer s)
keeps_own k c b outer s sorted keeps bounds =
    let m = bounds.mask in
    record {
      hold = m.most;
      enough = λ up j i. (let e = m.enough up in subst (λ (x : Kind). need_of s.core x ≤ s.core.hold) (inner_is s.over k j outer e.1 i) e.0);
      masked = λ j n. elim (same_kind j k) [
        | inl e ↦ (
            let own = m.stands (λ n. (keeps.masked k n).0) (subst (λ (x : Kind). need_of s.core x ≤ 8) e n) in
            subst (λ (x : Kind). ((accessed b s.access).masked ≡ true) × (innermost (open_left k outer s) ≡ Some x)) (sym e)
            (own.0, still_inner s.over k outer own.1))
        | inr ne ↦ (let same = (bounds.moves.others j ne).1 in absurd (ne (some_kind k j (keeps.masked j (rw (← same) n)).1)))
      ];
      live = live_left s.over k c s.core outer sorted keeps.live (λ j ne. (bounds.moves.others j ne).0) bounds.moves.more;
      shut = shut_left s.over k c s.core outer keeps.shut (λ j ne. (bounds.moves.others j ne).0) bounds.moves.shut;
    }
