-- No burst is good in two modes: its length, first level and span tell the mode.
use Rattle.std.proofs.Common.{◌≡◌, ℕ, Bool, true, false, not, ◌==◌, nat_le, if◌then◌else◌, List, length, refl, sym, ◌∙◌, arith}
use Rattle.std.proofs.lemmas.Bool.Decides.{nat_tests}
use Rattle.esc_base.specs.declared.signal.Edge.{Edge}
use Rattle.esc_base.specs.declared.signal.Mode.{Mode}
use Rattle.esc_base.specs.declared.signal.Mode.TheVariants as mode
use Rattle.esc_base.specs.declared.signal.Verdict.{Verdict}
use Rattle.esc_base.specs.declared.signal.Verdict.TheVariants.{Bad}
use Rattle.esc_base.specs.declared.signal.Why.TheVariants.{Count, Polarity, Span}
use Rattle.edge_capture.specs.Edges.{edge_at}
use Rattle.dshot_frame.specs.Verdict.{is_polar, is_span, span, verdict_with}
use Rattle.servo_input.specs.declared.servo.Servo.{Servo}
use Rattle.input_detect.specs.Detect.{is_good, fits}

-- the only mode in which a burst of so many edges, of this first level and span, can be good
abbrev mode_by : Bool → Bool → Bool → Mode
mode_by two high short =
    if two then mode.Servo
    else if high then (if short then mode.D600 else mode.D300)
    else (if short then mode.D600Inv else mode.D300Inv)

abbrev mode_told : List Edge → Mode
mode_told edges = mode_by (length edges == 2) (edge_at edges 0).level (nat_le (span edges) 1350)

-- what a good frame has passed
record Passed (bit : ℕ) (inverted : Bool) (edges : List Edge) : Type 0 where
  count : (length edges == 32) ≡ true
  polar : is_polar inverted edges ≡ true
  spans : is_span bit (span edges) ≡ true

passed_tests : (a b c : Bool) (v w x y : Verdict) → is_good v ≡ false → is_good w ≡ false → is_good x ≡ false
    → is_good (if not a then v else if not b then w else if not c then x else y) ≡ true → (a ≡ true) × (b ≡ true) × (c ≡ true)
passed_tests true true true v w x y bv bw bx h = (refl, refl, refl)
passed_tests true true false v w x y bv bw bx h = absurd (cc)
passed_tests true false c v w x y bv bw bx h = absurd (cc)
passed_tests false b c v w x y bv bw bx h = absurd (cc)

passed : (bit : ℕ) (inverted : Bool) (edges : List Edge) → is_good (verdict_with bit inverted edges) ≡ true → Passed bit inverted edges
passed bit inverted edges h =
    let t = passed_tests (length edges == 32) (is_polar inverted edges) (is_span bit (span edges)) (Bad Count) (Bad Polarity) (Bad Span) _ refl refl refl h in
    record { count = t.0; polar = t.1; spans = t.2 }

not_two : (n : ℕ) → (n == 32) ≡ true → (n == 2) ≡ false
not_two n h = grind (arith, nat_tests)

is_two : (a b c : Bool) → a ≡ true → mode_by a b c ≡ mode.Servo
is_two true b c h = refl
is_two false b c h = absurd (cc)

long : (n : ℕ) → is_span 160 n ≡ true → nat_le n 1350 ≡ false
long n h = grind (arith, nat_tests)

short : (n : ℕ) → is_span 80 n ≡ true → nat_le n 1350 ≡ true
short n h = grind (arith, nat_tests)

two_edges : (a : Bool) (v w : Verdict) → is_good v ≡ false → is_good (if not a then v else w) ≡ true → a ≡ true
two_edges true v w b h = refl
two_edges false v w b h = absurd (cc)

low : (level : Bool) → not level ≡ true → level ≡ false
low true h = absurd (cc)
low false h = refl

told : (m : Mode) (edges : List Edge) (servo : Servo) → fits m edges servo ≡ true → mode_told edges ≡ m
told mode.Unknown edges servo h = absurd (cc)
told mode.D300 edges servo h = let p = passed 160 false edges h in rw (not_two (length edges) p.count, p.polar, long (span edges) p.spans) refl
told mode.D600 edges servo h = let p = passed 80 false edges h in rw (not_two (length edges) p.count, p.polar, short (span edges) p.spans) refl
told mode.D300Inv edges servo h =
    let p = passed 160 true edges h in rw (not_two (length edges) p.count, low (edge_at edges 0).level p.polar, long (span edges) p.spans) refl
told mode.D600Inv edges servo h =
    let p = passed 80 true edges h in rw (not_two (length edges) p.count, low (edge_at edges 0).level p.polar, short (span edges) p.spans) refl
told mode.Servo edges servo h = is_two (length edges == 2) _ _ (two_edges (length edges == 2) _ _ refl h)

pub one_mode : (m other : Mode) (edges : List Edge) (servo : Servo) → fits m edges servo ≡ true → fits other edges servo ≡ true → other ≡ m
one_mode m other edges servo h k = sym (told other edges servo k) ∙ told m edges servo h
