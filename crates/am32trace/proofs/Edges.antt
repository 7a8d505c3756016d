-- The edges of a frame, from the front on.
use Rattle.std.proofs.Common.{◌≡◌, ◌<◌, ◌≤◌, ℕ, zero, suc, ◌+◌, ◌-◌, ◌*◌, ◌/◌, ◌%◌, ◌^◌, Bool, true, false, not, ◌==◌, if◌then◌else◌, List, [], ◌∷◌, length, take, drop, Option, Some, None, refl, ◌∙◌, ap, arith}
use Rattle.std.specs.Prelude.{slice_get}
use Rattle.std.proofs.lemmas.List.{take_all}
use Rattle.std.specs.Prelude.{All}
use Rattle.std.proofs.lemmas.List.Elements.{All-nil, All-cons, All-take, All-drop}
use Rattle.esc_base.specs.declared.signal.Edge.{Edge}
use Rattle.esc_base.specs.declared.signal.Frame.{Frame}
use Rattle.esc_base.specs.declared.signal.Mode.{Mode}
use Rattle.esc_base.specs.declared.signal.Verdict.TheVariants.{Good}
use Rattle.edge_capture.specs.Modes.{numbers}
use Rattle.dshot_frame.specs.Sent.{active_width, edges_from, sent}
use Rattle.dshot_frame.specs.Verdict.{verdict_of}
use Rattle.esc_base.specs.Bits.{low_bits}
use Rattle.am32trace.specs.Flown.{IsReached}
use Rattle.am32trace.specs.Frames.{is_wide, width_of, edges_left, IsSent, IsBefore, IsFrom}

-- with no pulse too wide they are those that the frame's sender makes
pub left_exact : (bit : ℕ) (inverted : Bool) (s k word : ℕ) → edges_left bit inverted None s k word ≡ edges_from bit inverted s (low_bits k word)
unfolding edges_left low_bits
left_exact bit inverted s zero word = refl
left_exact bit inverted s (suc k) word =
    ap (λ (rest : List Edge).
    record { t = record { 0 = s }; level = not inverted }
    ∷ record { t = record { 0 = s + active_width bit (word / 2 ^ k % 2 == 1) }; level = inverted }
    ∷ rest)
    (left_exact bit inverted (s + bit) k word)

active_most : (bit : ℕ) (one : Bool) → active_width bit one ≤ bit
active_most bit true = omega arith
active_most bit false = omega arith

either_most : (b : Bool) (bit active : ℕ) → active ≤ bit → (if b then bit - 2 else active) ≤ bit
either_most true bit active h = omega arith
either_most false bit active h = h

width_most : (bit : ℕ) (wide : Option ℕ) (k word : ℕ) → width_of bit wide k word ≤ bit
width_most bit wide k word = either_most (is_wide wide k) bit (active_width bit (word / 2 ^ k % 2 == 1)) (active_most bit (word / 2 ^ k % 2 == 1))

length-left : (bit : ℕ) (inverted : Bool) (wide : Option ℕ) (s k word : ℕ) → length (edges_left bit inverted wide s k word) ≡ 2 * k
unfolding edges_left
length-left bit inverted wide s zero word = refl
length-left bit inverted wide s (suc k) word = let l = length-left bit inverted wide (s + bit) k word in omega arith

-- no edge comes behind the end of the last bit
within_left : (bit : ℕ) (inverted : Bool) (wide : Option ℕ) (s k word end : ℕ) → s + k * bit ≤ end → All (IsBefore end) (edges_left bit inverted wide s k word)
unfolding edges_left
within_left bit inverted wide s zero word end h = All-nil (IsBefore end)
within_left bit inverted wide s (suc k) word end h =
    let e : suc k * bit ≡ k * bit + bit = grind arith in
    let w = width_most bit wide k word in
    let begins : s ≤ end = omega (arith, e, h) in
    let falls : s + width_of bit wide k word ≤ end = omega (arith, e, h, w) in
    let first : Edge = record { t = record { 0 = s }; level = not inverted } in
    let second : Edge = record { t = record { 0 = s + width_of bit wide k word }; level = inverted } in
    let rest = edges_left bit inverted wide (s + bit) k word in
    All-cons (IsBefore end) first (second ∷ rest) begins
    (All-cons (IsBefore end) second rest falls (within_left bit inverted wide (s + bit) k word end (omega (arith, e, h))))

pub within_frame : (m : Mode) (wide : Option ℕ) (s word n : ℕ)
    → All (IsBefore (s + 16 * (numbers m).bit)) (take n (drop 0 (edges_left (numbers m).bit (numbers m).inverted wide s 16 word)))
within_frame m wide s word n =
    let end = s + 16 * (numbers m).bit in
    All-take (IsBefore end) n _
    (All-drop (IsBefore end) 0 _ (within_left (numbers m).bit (numbers m).inverted wide s 16 word end (omega arith)))

-- a whole frame, and what its receiver hears
pub is_sent : (m : Mode) (s word : ℕ) (frame : Frame) → verdict_of m (sent m s word) ≡ Good frame
    → IsSent m s frame (take 32 (drop 0 (edges_left (numbers m).bit (numbers m).inverted None s 16 word)))
is_sent m s word frame heard =
    let len = length-left (numbers m).bit (numbers m).inverted None s 16 word in
    let all = take_all 32 (edges_left (numbers m).bit (numbers m).inverted None s 16 word) (omega arith) in
    let exact = all ∙ left_exact (numbers m).bit (numbers m).inverted s 16 word in
    record { word = word; exact = exact; heard = ap (verdict_of m) exact ∙ heard }

pub not_false : (b : Bool) → not b ≡ false → b ≡ true
not_false true e = refl
not_false false e = cc

module _ (bit : ℕ) (inverted : Bool) (wide : Option ℕ) (s word : ℕ) where
  -- nothing is left
  pub none_left : (begun : Bool) (left edges : ℕ) → left ≡ 0 → take edges (drop (if begun then 1 else 0) (edges_left bit inverted wide s left word)) ≡ []
  unfolding edges_left
  none_left true zero zero e = refl
  none_left true zero (suc n) e = refl
  none_left false zero zero e = refl
  none_left false zero (suc n) e = refl
  none_left begun (suc k) edges e = absurd (omega arith)

  -- the edge that begins the next bit
  pub begins_bit : (left edges : ℕ) → 0 < left → 0 < edges
      → slice_get (take edges (drop 0 (edges_left bit inverted wide s left word))) 0 ≡ Some (record { t = record { 0 = s }; level = not inverted })
  unfolding edges_left
  begins_bit zero edges lt some = absurd (omega arith)
  begins_bit (suc k) zero lt some = absurd (omega arith)
  begins_bit (suc k) (suc n) lt some = refl

  -- the edge that ends its active part
  pub ends_active : (left edges : ℕ) → 0 < left → 0 < edges
      → slice_get (take edges (drop 1 (edges_left bit inverted wide s left word))) 0
      ≡ Some (record { t = record { 0 = s + width_of bit wide (left - 1) word }; level = inverted })
  unfolding edges_left
  ends_active zero edges lt some = absurd (omega arith)
  ends_active (suc k) zero lt some = absurd (omega arith)
  ends_active (suc k) (suc n) lt some = let same : suc k - 1 ≡ k = omega arith in rw same refl

  -- behind the whole bit
  pub behind_bit : (left edges : ℕ) → 0 < left
      → take (edges - 1) (drop 0 (edges_left bit inverted wide (s + bit) (left - 1) word))
      ≡ drop 1 (take edges (drop 1 (edges_left bit inverted wide s left word)))
  unfolding edges_left
  behind_bit zero edges lt = absurd (omega arith)
  behind_bit (suc k) zero lt = refl
  behind_bit (suc k) (suc n) lt = let same : suc n - 1 ≡ n = omega arith in let less : suc k - 1 ≡ k = omega arith in rw (same, less) refl

-- edges don't come before the first of them
from_left : (bit : ℕ) (inverted : Bool) (wide : Option ℕ) (s k word t : ℕ) → t ≤ s → All (IsFrom t) (edges_left bit inverted wide s k word)
unfolding edges_left
from_left bit inverted wide s zero word t h = All-nil (IsFrom t)
from_left bit inverted wide s (suc k) word t h =
    let first : Edge = record { t = record { 0 = s }; level = not inverted } in
    let second : Edge = record { t = record { 0 = s + width_of bit wide k word }; level = inverted } in
    let rest = edges_left bit inverted wide (s + bit) k word in
    All-cons (IsFrom t) first (second ∷ rest) h
    (All-cons (IsFrom t) second rest (omega (arith, h)) (from_left bit inverted wide (s + bit) k word t (omega (arith, h))))

-- where the first of those that are left comes at t or later, each does
pub from_first : (bit : ℕ) (inverted : Bool) (wide : Option ℕ) (s k word t n : ℕ) (begun : Bool)
    → IsReached t (slice_get (take n (drop (if begun then 1 else 0) (edges_left bit inverted wide s k word))) 0)
    → All (IsFrom t) (take n (drop (if begun then 1 else 0) (edges_left bit inverted wide s k word)))
unfolding edges_left
from_first bit inverted wide s k word t zero begun h = All-nil (IsFrom t)
from_first bit inverted wide s zero word t (suc n) false h = All-nil (IsFrom t)
from_first bit inverted wide s zero word t (suc n) true h = All-nil (IsFrom t)
from_first bit inverted wide s (suc k) word t (suc n) false h =
    All-take (IsFrom t) (suc n) (edges_left bit inverted wide s (suc k) word) (from_left bit inverted wide s (suc k) word t h)
from_first bit inverted wide s (suc k) word t (suc n) true h =
    let w = width_most bit wide k word in
    let second : Edge = record { t = record { 0 = s + width_of bit wide k word }; level = inverted } in
    let rest = edges_left bit inverted wide (s + bit) k word in
    All-take (IsFrom t) (suc n) (second ∷ rest)
    (All-cons (IsFrom t) second rest h (from_left bit inverted wide (s + bit) k word t (omega (arith, h, w))))
