-- An entry: its note fits, the ties hold again, and the step fits the log.
use Rattle.std.proofs.Common.{◌≡◌, ◌≢◌, ◌≤◌, ◌<◌, ℕ, Bool, true, false, not, ◌&&◌, ◌==◌, if◌then◌else◌, List, [], ◌∷◌, Some, None, refl, sym, ◌∙◌, arith, subst, inl, inr, lit≤, All}
use Rattle.std.proofs.lemmas.Bool.{cases_lt}
use Rattle.std.proofs.lemmas.Bool.Decides.{nat_tests}
use Rattle.std.proofs.lemmas.List.Elements.{All-nil, All-cons}
use Rattle.esc_base.specs.declared.kind.Kind.{Kind}
use Rattle.esc_base.specs.declared.kind.Kind.TheVariants as kind
use Rattle.esc_base.specs.Numbers.{kind_number}
use Rattle.timer_regs.specs.Bank.{Bank}
use Rattle.timer_regs.specs.Effects.{after_entry}
use Rattle.interrupt_machine.specs.declared.nest.Nest.{Nest}
use Rattle.interrupt_machine.specs.declared.nest.Nest.TheVariants.{One, Full}
use Rattle.interrupt_machine.specs.Open.{innermost, due_now, may_enter, enters_above, next_entry, IsAbove, IsStack}
use Rattle.interrupt_machine.proofs.OpenKinds.{entry_above, live_entry, same_kind}
use Rattle.interrupt_machine.proofs.Waiting.{entry_highest, entry_masked}
use Rattle.interrupt_machine.specs.Did.{most}
use Rattle.esc_core.specs.Brain.{Brain}
use Rattle.esc_core.specs.Firmware.{entered_core, left_of, need_of, waits_of}
use Rattle.esc_laws.specs.Nested.{IsAboveAll}
use Rattle.esc_rooms.specs.Tied.{Keeps}
use Rattle.esc_rooms.proofs.shared.Facts.{not_open}

-- ---- a kind that enters is above all open ones

less_all : (stack : List Kind) (k : Kind) → IsStack stack → IsAbove (innermost stack) k → All (λ j. kind_number j < kind_number k) stack
less_all [] k s a = All-nil (λ j. kind_number j < kind_number k)
less_all (i ∷ outer) k s a =
    All-cons (λ j. kind_number j < kind_number k) i outer a (less_all outer k s.1 (above_outer outer i k s.0 a))
  where
    above_outer : (outer : List Kind) (i k : Kind) → IsAbove (innermost outer) i → kind_number i < kind_number k → IsAbove (innermost outer) k
    above_outer [] i k a l = tt
    above_outer (j ∷ rest) i k a l = let b : kind_number j < kind_number i = a in omega arith

-- below MAIN there is no room
alone : (i : Kind) (outer : List Kind) → kind_number i ≡ 0 → IsAbove (innermost outer) i → outer ≡ []
alone i [] z a = refl
alone i (j ∷ rest) z a = absurd (let b : kind_number j < kind_number i = a in omega arith)

main_open : (m n : ℕ) → ((m == 0) && not (n == 0)) ≡ true → (m ≡ 0) × (0 < n)
main_open m n e = (grind (arith, nat_tests), grind (arith, nat_tests))

above_all : (nest : Nest) (stack : List Kind) (k : Kind) → IsStack stack → IsAbove (innermost stack) k → may_enter nest (innermost stack) k ≡ true
    → IsAboveAll nest stack (kind_number k)
above_all Full stack k s a m = less_all stack k s a
above_all One [] k s a m = All-nil (λ j. (kind_number j ≡ 0) × (0 < kind_number k))
above_all One (i ∷ outer) k s a m =
    let main = main_open (kind_number i) (kind_number k) m in
    All-cons (λ j. (kind_number j ≡ 0) × (0 < kind_number k)) i outer main
    (rw (alone i outer main.0 s.0) (All-nil (λ j. (kind_number j ≡ 0) × (0 < kind_number k))))

pub entry_above_kinds : (nest : Nest) (stack : List Kind) (due : Kind → Bool) (k : Kind) → IsStack stack → next_entry nest stack due ≡ Some k
    → All (λ j. kind_number j < kind_number k) stack
entry_above_kinds nest stack due k s e = less_all stack k s (entry_above nest stack due k e)

entry_may : (nest : Nest) (stack : List Kind) (due : Kind → Bool) (k : Kind) → next_entry nest stack due ≡ Some k → may_enter nest (innermost stack) k ≡ true
entry_may nest stack due k e =
    let same : enters_above nest (innermost stack) (Some k) ≡ Some k = rw (entry_highest nest stack due k e) at e in
    may_by (may_enter nest (innermost stack) k) k same
  where
    may_by : (v : Bool) (k : Kind) → (if v then Some k else None) ≡ Some k → v ≡ true
    may_by true k e = refl
    may_by false k e = cc

pub entry_above_all : (nest : Nest) (stack : List Kind) (due : Kind → Bool) (k : Kind) → IsStack stack → next_entry nest stack due ≡ Some k
    → IsAboveAll nest stack (kind_number k)
entry_above_all nest stack due k s e = above_all nest stack k s (entry_above nest stack due k e) (entry_may nest stack due k e)

-- ---- which handlers stand under the mask

-- while it is down none does
pub unheld_down : (c : Brain) (b : Bank) (stack : List Kind) → Keeps c b stack → b.masked ≡ false → (j : Kind) → 8 < need_of c j
unheld_down c b stack keeps down j = elim (cases_lt 8 (need_of c j)) [
  | inl less ↦ less
  | inr n ↦ absurd (let up = (keeps.masked j n).0 in let z : false ≡ true = sym down ∙ up in cc)
]

-- nor while none is open
pub unheld_idle : (c : Brain) (b : Bank) → Keeps c b [] → (j : Kind) → 8 < need_of c j
unheld_idle c b keeps j = elim (cases_lt 8 (need_of c j)) [
  | inl less ↦ less
  | inr n ↦ absurd (let inner : None ≡ Some j = (keeps.masked j n).1 in cc)
]

-- besides the innermost one none does
pub holds_alone : (c : Brain) (b : Bank) (k : Kind) (outer : List Kind) → Keeps c b (k ∷ outer) → (j : Kind) → j ≢ k → 8 < need_of c j
holds_alone c b k outer keeps j ne = elim (cases_lt 8 (need_of c j)) [
  | inl less ↦ less
  | inr n ↦ absurd (let inner : Some k ≡ Some j = (keeps.masked j n).1 in ne (same j k inner))
]
  where
    same : (j k : Kind) → Some k ≡ Some j → j ≡ k
    same j k e = cc

-- ---- what holds between any two steps

-- the other handlers stay where they are
pub entered_others : (k : Kind) (c : Brain) (j : Kind) → j ≢ k → (left_of (entered_core c k) j ≡ left_of c j) × (need_of (entered_core c k) j ≡ need_of c j)
entered_others kind.Main c = elim [ kind.Main ↦ λ ne. absurd (ne refl) | j ↦ λ ne. (refl, refl) ]
entered_others kind.Uart c = elim [ kind.Uart ↦ λ ne. absurd (ne refl) | j ↦ λ ne. (refl, refl) ]
entered_others kind.Tick c = elim [ kind.Tick ↦ λ ne. absurd (ne refl) | j ↦ λ ne. (refl, refl) ]
entered_others kind.Cap c = elim [ kind.Cap ↦ λ ne. absurd (ne refl) | j ↦ λ ne. (refl, refl) ]
entered_others kind.Cmp c = elim [ kind.Cmp ↦ λ ne. absurd (ne refl) | j ↦ λ ne. (refl, refl) ]
entered_others kind.Pwm c = elim [ kind.Pwm ↦ λ ne. absurd (ne refl) | j ↦ λ ne. (refl, refl) ]
entered_others kind.Comm c = elim [ kind.Comm ↦ λ ne. absurd (ne refl) | j ↦ λ ne. (refl, refl) ]

entered_left : (k : Kind) (c : Brain) → 1 ≤ left_of (entered_core c k) k
entered_left kind.Main c = lit≤ tt
entered_left k c = lit≤ tt

pub entered_most : (k : Kind) (c : Brain) → left_of (entered_core c k) k ≤ most k
entered_most kind.Main c = lit≤ tt
entered_most k c = lit≤ tt

entered_hold : (k : Kind) (c : Brain) → (entered_core c k).hold ≡ c.hold
entered_hold kind.Main c = refl
entered_hold k c = refl

-- no handler begins under the mask
entered_need : (k : Kind) (c : Brain) → need_of (entered_core c k) k ≡ 9
entered_need kind.Main c = refl
entered_need k c = refl

none_masked : (k : Kind) (c : Brain) (b : Bank) (stack : List Kind) → Keeps c b stack → b.masked ≡ false → (j : Kind) → need_of (entered_core c k) j ≤ 8 → ⊥
none_masked k c b stack keeps down j n = elim (same_kind j k) [
  | inl e ↦
      (let nine = entered_need k c in let m : need_of (entered_core c k) k ≤ 8 = subst (λ (x : Kind). need_of (entered_core c k) x ≤ 8) e n in omega arith)
  | inr ne ↦ (let same = (entered_others k c j ne).1 in let up = (keeps.masked j (rw (← same) n)).0 in let z : false ≡ true = sym down ∙ up in cc)
]

pub keeps_entry : (nest : Nest) (c : Brain) (b : Bank) (stack : List Kind) (k : Kind) → Keeps c b stack → IsStack stack → b.masked ≡ false
    → next_entry nest stack (due_now (waits_of c) b) ≡ Some k
    → Keeps (entered_core c k) (after_entry b k) (k ∷ stack)
keeps_entry nest c b stack k keeps sorted down chosen =
    let still : (after_entry b k).masked ≡ false = entry_masked b k ∙ down in
    record {
      hold = rw (entered_hold k c) keeps.hold;
      enough = λ m. (let z = sym m ∙ still in cc);
      masked = λ j n. absurd (none_masked k c b stack keeps down j n);
      live = live_entry (left_of c) (left_of (entered_core c k)) k stack keeps.live (entered_left k c) (λ j ne. (entered_others k c j ne).0);
      shut = λ j f. (let p = not_open k j stack f in (entered_others k c j p.0).0 ∙ keeps.shut j p.1);
    }
