-- Bits whose edges are moved by at most a sixteenth of a bit are read as they were sent.
use Rattle.std.proofs.Common.{◌≡◌, ◌<◌, ◌≤◌, ℕ, zero, suc, ◌+◌, ◌-◌, ◌*◌, ◌/◌, Bool, true, false, not, nat_lt, List, [], ◌∷◌, length, refl, ap, ap₂, ◌∙◌, arith, lit<}
use Rattle.std.specs.List.{list_all}
use Rattle.std.proofs.lemmas.Bool.Decides.{nat_tests}
use Rattle.esc_base.specs.declared.signal.Edge.{Edge}
use Rattle.esc_base.specs.declared.signal.Mode.{Mode}
use Rattle.esc_base.specs.declared.signal.Mode.TheVariants.{Unknown, D300, D600, D300Inv, D600Inv, Servo}
use Rattle.edge_capture.specs.Edges.{edge_at}
use Rattle.edge_capture.specs.Modes.{numbers}
use Rattle.esc_base.specs.Bits.{xor, low_bits}
use Rattle.dshot_frame.specs.Bits.{reading}
use Rattle.dshot_frame.specs.Verdict.{starts, widths, steps, is_within, is_span, is_width, is_step, is_one, is_polar, is_timely, span, bits_of, verdict_with, verdict_of}
use Rattle.dshot_frame.specs.Sent.{active_width, edges_from, sent, IsNear, IsMoved, HasFrames}
use Rattle.dshot_frame.proofs.Words.{is_both}

within : (low high n : ℕ) → low ≤ n → n ≤ high → is_within low high n ≡ true
within low high n l h = grind (arith, nat_tests)

below : (a b : ℕ) → a < b → nat_lt a b ≡ true
below a b h = grind (arith, nat_tests)

not_below : (a b : ℕ) → b ≤ a → nat_lt a b ≡ false
not_below a b h = grind (arith, nat_tests)

-- a tick at most e from where it should be
record IsAbout (e s t : ℕ) : Type 0 where
  early : s ≤ t + e
  late : t ≤ s + e

width_near : (d e s t u : ℕ) (one : Bool) → e ≤ d → IsAbout e s t → IsAbout e (s + active_width (16 * d) one) u → is_width (16 * d) (u - t) ≡ true
width_near d e s t u true le a b = within (16 * d / 8) (15 * (16 * d) / 16) (u - t) (omega arith) (omega arith)
width_near d e s t u false le a b = within (16 * d / 8) (15 * (16 * d) / 16) (u - t) (omega arith) (omega arith)

one_near : (d e s t u : ℕ) (one : Bool) → 0 < d → e ≤ d → IsAbout e s t → IsAbout e (s + active_width (16 * d) one) u → is_one (16 * d) (u - t) ≡ one
one_near d e s t u true pos le a b = below (16 * d / 2) (u - t) (omega arith)
one_near d e s t u false pos le a b = not_below (16 * d / 2) (u - t) (omega arith)

step_near : (d e s t u : ℕ) → e ≤ d → IsAbout e s t → IsAbout e (s + 16 * d) u → is_step (16 * d) (u - t) ≡ true
step_near d e s t u le a b = within (3 * (16 * d) / 4) (5 * (16 * d) / 4) (u - t) (omega arith) (omega arith)

span_near : (d e s t u : ℕ) → e ≤ d → IsAbout e s t → IsAbout e (s + 15 * (16 * d)) u → is_span (16 * d) (u - t) ≡ true
span_near d e s t u le a b = within (105 * (16 * d) / 8) (135 * (16 * d) / 8) (u - t) (omega arith) (omega arith)

about : (e : ℕ) (exact moved : Edge) → IsNear e exact moved → IsAbout e exact.t.0 moved.t.0
about e exact moved n = record { early = n.not_early; late = n.not_late }

length-moved : (b e : ℕ) (inverted : Bool) (s : ℕ) (bits : List Bool) (moved : List Edge) → IsMoved e (edges_from b inverted s bits) moved
    → length moved ≡ 2 * length bits
length-moved b e inverted s [] [] m = refl
length-moved b e inverted s [] (f ∷ rest) m = absurd m
length-moved b e inverted s (one ∷ bits) [] m = absurd m
length-moved b e inverted s (one ∷ bits) (f ∷ []) m = absurd m.1
length-moved b e inverted s (one ∷ bits) (f ∷ g ∷ rest) m = let l = length-moved b e inverted (s + b) bits rest m.1.1 in omega arith

start_near : (b e : ℕ) (inverted : Bool) (s : ℕ) (bits : List Bool) (moved : List Edge) (i : ℕ) → i < length bits
    → IsMoved e (edges_from b inverted s bits) moved
    → IsAbout e (s + i * b) (edge_at moved (2 * i)).t.0
start_near b e inverted s [] moved i lt m = absurd (omega arith)
start_near b e inverted s (one ∷ bits) [] i lt m = absurd m
start_near b e inverted s (one ∷ bits) (f ∷ []) i lt m = absurd m.1
start_near b e inverted s (one ∷ bits) (f ∷ g ∷ rest) zero lt m = let a = about e _ f m.0 in record { early = omega arith; late = omega arith }
start_near b e inverted s (one ∷ bits) (f ∷ g ∷ rest) (suc i) lt m =
    let k : 2 * suc i ≡ suc (suc (2 * i)) = omega arith in
    let a = start_near b e inverted (s + b) bits rest i (omega arith) m.1.1 in
    rw k (record { early = omega arith; late = omega arith })

widths_near : (d e : ℕ) (inverted : Bool) (s : ℕ) (bits : List Bool) (moved : List Edge) → e ≤ d → IsMoved e (edges_from (16 * d) inverted s bits) moved
    → list_all (is_width (16 * d)) (widths moved) ≡ true
widths_near d e inverted s [] [] le m = refl
widths_near d e inverted s [] (f ∷ rest) le m = absurd m
widths_near d e inverted s (one ∷ bits) [] le m = absurd m
widths_near d e inverted s (one ∷ bits) (f ∷ []) le m = absurd m.1
widths_near d e inverted s (one ∷ bits) (f ∷ g ∷ rest) le m =
    is_both _ _ (width_near d e s f.t.0 g.t.0 one le (about e _ f m.0) (about e _ g m.1.0)) (widths_near d e inverted (s + 16 * d) bits rest le m.1.1)

bits_near : (d e : ℕ) (inverted : Bool) (s : ℕ) (bits : List Bool) (moved : List Edge) → 0 < d → e ≤ d → IsMoved e (edges_from (16 * d) inverted s bits) moved
    → bits_of (16 * d) moved ≡ bits
bits_near d e inverted s [] [] pos le m = refl
bits_near d e inverted s [] (f ∷ rest) pos le m = absurd m
bits_near d e inverted s (one ∷ bits) [] pos le m = absurd m
bits_near d e inverted s (one ∷ bits) (f ∷ []) pos le m = absurd m.1
bits_near d e inverted s (one ∷ bits) (f ∷ g ∷ rest) pos le m =
    ap₂ (λ (x : Bool) (xs : List Bool). x ∷ xs) (one_near d e s f.t.0 g.t.0 one pos le (about e _ f m.0) (about e _ g m.1.0))
    (bits_near d e inverted (s + 16 * d) bits rest pos le m.1.1)

steps_near : (d e : ℕ) (inverted : Bool) (s t : ℕ) (bits : List Bool) (moved : List Edge) → e ≤ d → IsAbout e s t
    → IsMoved e (edges_from (16 * d) inverted (s + 16 * d) bits) moved
    → list_all (is_step (16 * d)) (steps (t ∷ starts moved)) ≡ true
steps_near d e inverted s t [] [] le a m = refl
steps_near d e inverted s t [] (f ∷ rest) le a m = absurd m
steps_near d e inverted s t (one ∷ bits) [] le a m = absurd m
steps_near d e inverted s t (one ∷ bits) (f ∷ []) le a m = absurd m.1
steps_near d e inverted s t (one ∷ bits) (f ∷ g ∷ rest) le a m =
    is_both _ _ (step_near d e s t f.t.0 le a (about e _ f m.0)) (steps_near d e inverted (s + 16 * d) f.t.0 bits rest le (about e _ f m.0) m.1.1)

all_steps_near : (d e : ℕ) (inverted : Bool) (s : ℕ) (bits : List Bool) (moved : List Edge) → e ≤ d → IsMoved e (edges_from (16 * d) inverted s bits) moved
    → list_all (is_step (16 * d)) (steps (starts moved)) ≡ true
all_steps_near d e inverted s [] [] le m = refl
all_steps_near d e inverted s [] (f ∷ rest) le m = absurd m
all_steps_near d e inverted s (one ∷ bits) [] le m = absurd m
all_steps_near d e inverted s (one ∷ bits) (f ∷ []) le m = absurd m.1
all_steps_near d e inverted s (one ∷ bits) (f ∷ g ∷ rest) le m = steps_near d e inverted s f.t.0 bits rest le (about e _ f m.0) m.1.1

goes_active : (inverted level : Bool) → level ≡ not inverted → xor inverted level ≡ true
goes_active true true h = absurd (cc)
goes_active true false h = refl
goes_active false true h = refl
goes_active false false h = absurd (cc)

polar_near : (b e : ℕ) (inverted : Bool) (s : ℕ) (bits : List Bool) (moved : List Edge) → 0 < length bits → IsMoved e (edges_from b inverted s bits) moved
    → is_polar inverted moved ≡ true
polar_near b e inverted s [] moved pos m = absurd (omega arith)
polar_near b e inverted s (one ∷ bits) [] pos m = absurd m
polar_near b e inverted s (one ∷ bits) (f ∷ rest) pos m = goes_active inverted f.level (let n = m.0 in n.level_is)

moved_with : (d e : ℕ) (inverted : Bool) (s : ℕ) (bits : List Bool) (moved : List Edge) → length bits ≡ 16 → 0 < d → e ≤ d
    → IsMoved e (edges_from (16 * d) inverted s bits) moved → verdict_with (16 * d) inverted moved ≡ reading inverted bits
moved_with d e inverted s bits moved n pos le m =
    let count : length moved ≡ 32 = length-moved (16 * d) e inverted s bits moved m ∙ ap (λ (k : ℕ). 2 * k) n in
    let polar : is_polar inverted moved ≡ true = polar_near (16 * d) e inverted s bits moved (omega arith) m in
    let first = start_near (16 * d) e inverted s bits moved 0 (omega arith) m in
    let last = start_near (16 * d) e inverted s bits moved 15 (omega arith) m in
    let spans : is_span (16 * d) (span moved) ≡ true =
    span_near d e s (edge_at moved 0).t.0 (edge_at moved 30).t.0 le
    (record { early = omega arith; late = omega arith }) (record { early = omega arith; late = omega arith }) in
    let timely : is_timely (16 * d) moved ≡ true = is_both _ _ (widths_near d e inverted s bits moved le m) (all_steps_near d e inverted s bits moved le m) in
    rw (count, polar, spans, timely) (ap (reading inverted) (bits_near d e inverted s bits moved pos le m))

pub length-low_bits : (k n : ℕ) → length (low_bits k n) ≡ k
unfolding low_bits
length-low_bits zero n = refl
length-low_bits (suc k) n = ap suc (length-low_bits k n)

-- a word whose edges are moved by at most a sixteenth of a bit is read as its bits
pub verdict_of-moved : (m : Mode) (e s word : ℕ) (moved : List Edge) → HasFrames m → e ≤ (numbers m).bit / 16 → IsMoved e (sent m s word) moved
    → verdict_of m moved ≡ reading (numbers m).inverted (low_bits 16 word)
verdict_of-moved Unknown e s word moved h le mv = absurd (omega arith)
verdict_of-moved D300 e s word moved h le mv = moved_with 10 e false s (low_bits 16 word) moved (length-low_bits 16 word) (lit< tt) le mv
verdict_of-moved D600 e s word moved h le mv = moved_with 5 e false s (low_bits 16 word) moved (length-low_bits 16 word) (lit< tt) le mv
verdict_of-moved D300Inv e s word moved h le mv = moved_with 10 e true s (low_bits 16 word) moved (length-low_bits 16 word) (lit< tt) le mv
verdict_of-moved D600Inv e s word moved h le mv = moved_with 5 e true s (low_bits 16 word) moved (length-low_bits 16 word) (lit< tt) le mv
verdict_of-moved Servo e s word moved h le mv = absurd (omega arith)

unmoved : (edges : List Edge) → IsMoved 0 edges edges
unmoved [] = tt
unmoved (e ∷ edges) = (record { level_is = refl; not_early = omega arith; not_late = omega arith }, unmoved edges)

-- so are its exact edges
pub verdict_of-sent : (m : Mode) (s word : ℕ) → HasFrames m → verdict_of m (sent m s word) ≡ reading (numbers m).inverted (low_bits 16 word)
verdict_of-sent m s word h = verdict_of-moved m 0 s word (sent m s word) h (omega arith) (unmoved (sent m s word))
