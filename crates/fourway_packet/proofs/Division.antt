-- The CRC is the remainder of a division of polynomials.
use Rattle.std.proofs.Common.{◌≡◌, ◌≤◌, ◌<◌, ℕ, suc, ◌+◌, ◌-◌, ◌*◌, ◌/◌, ◌%◌, ◌^◌, Bool, true, false, ◌==◌, if◌then◌else◌, List, [], ◌∷◌, ◌++◌, refl, sym, ◌∙◌, ap, add-zero, zero-add, bit_and, bit_xor, arith}
use Rattle.std.specs.List.{fold}
use Rattle.std.specs.Int.Bits.{xor_assoc, xor_zero_l, xor_zero_r}
use Rattle.std.proofs.lemmas.Nat.{xor_block, xor_comm, xor_lt}
use Rattle.std.proofs.lemmas.Nat.Bits.{shr_and_one}
use Rattle.std.proofs.lemmas.List.Sums.{fold_push}
use Rattle.std.proofs.lemmas.Grind.{fold-append}
use Rattle.std.proofs.lemmas.Bool.Decides.{nat_tests}
use Rattle.esc_base.specs.Bits.{digit, xor, low_bits}
use Rattle.fourway_packet.specs.Crc.{shifted, shifted_by_byte, crc_of, number, product, bits_of, IsRemainder}

-- one bit of a byte more
pub next_bit : (crc next byte i end : ℕ) → i < 8 → next ≡ shifted crc (bit_and (byte / 2 ^ (7 - i)) 1 == 1)
    → fold shifted crc (low_bits (8 - i) byte) ≡ end → fold shifted next (low_bits (8 - (i + 1)) byte) ≡ end
unfolding low_bits
next_bit crc next byte i end lt is so_far =
    let here : 8 - i ≡ suc (7 - i) = omega arith in
    let after : 8 - (i + 1) ≡ 7 - i = omega arith in
    rw (after, is, shr_and_one byte (7 - i)) (rw here at so_far)

-- behind the last bit of a byte
pub last_bit : (crc byte i end : ℕ) → 8 ≤ i → fold shifted crc (low_bits (8 - i) byte) ≡ end → crc ≡ end
unfolding low_bits
last_bit crc byte i end le is = let none : 8 - i ≡ 0 = omega arith in rw none at is

-- ---- sums without carries

cancels : (p x l : ℕ) → bit_xor x x ≡ 0 → bit_xor (bit_xor p (bit_xor x l)) x ≡ bit_xor p l
cancels p x l self =
    xor_assoc p (bit_xor x l) x
    ∙ ap (λ (n : ℕ). bit_xor p n) (ap (λ (n : ℕ). bit_xor n x) (xor_comm x l) ∙ xor_assoc l x x ∙ ap (λ (n : ℕ). bit_xor l n) self ∙ xor_zero_r l)

meets : (p x y l : ℕ) → bit_xor y y ≡ 0 → bit_xor (bit_xor p (bit_xor x y)) (bit_xor l y) ≡ bit_xor p (bit_xor x l)
meets p x y l self =
    xor_assoc p (bit_xor x y) (bit_xor l y)
    ∙ ap (λ (n : ℕ). bit_xor p n)
    (
    xor_assoc x y (bit_xor l y)
    ∙ ap (λ (n : ℕ). bit_xor x n) (ap (λ (n : ℕ). bit_xor y n) (xor_comm l y) ∙ sym (xor_assoc y y l) ∙ ap (λ (n : ℕ). bit_xor n l) self ∙ xor_zero_l l)
    )

-- a digit behind a number
appended : (n d : ℕ) → d < 2 → bit_xor (n * 2) d ≡ n * 2 + d
appended n d lt =
    let blocks : bit_xor (n * 2 + 0) (0 + d) ≡ bit_xor n 0 * 2 + bit_xor 0 d = xor_block 1 n 0 0 d (omega arith) lt in
    simp (add-zero, zero-add, xor_zero_l, xor_zero_r) at blocks

-- a digit before sixteen others
in_front : (d l : ℕ) → l < 2 ^ 16 → bit_xor (d * 2 ^ 16) l ≡ d * 2 ^ 16 + l
in_front d l lt =
    let blocks : bit_xor (d * 2 ^ 16 + 0) (0 + l) ≡ bit_xor d 0 * 2 ^ 16 + bit_xor 0 l = xor_block 16 d 0 0 l (omega arith) lt in
    simp (add-zero, zero-add, xor_zero_l, xor_zero_r) at blocks

high_moves : (m d : ℕ) → bit_xor (m * 2 ^ 16) (d * 2 ^ 16) ≡ bit_xor m d * 2 ^ 16
high_moves m d =
    let blocks : bit_xor (m * 2 ^ 16 + 0) (d * 2 ^ 16 + 0) ≡ bit_xor m d * 2 ^ 16 + 0 = xor_block 16 m d 0 0 (omega arith) (omega arith) in
    simp add-zero at blocks

twice : (p r : ℕ) → bit_xor (p * 2) (r * 2) ≡ bit_xor p r * 2
twice p r =
    let blocks : bit_xor (p * 2 + 0) (r * 2 + 0) ≡ bit_xor p r * 2 + 0 = xor_block 1 p r 0 0 (omega arith) (omega arith) in
    simp add-zero at blocks

-- ---- one step of the division

digit_of : (n : ℕ) (b : Bool) → n < 2 → (n == 1) ≡ b → digit b ≡ n
digit_of n true lt e = grind (arith, nat_tests)
digit_of n false lt e = grind (arith, nat_tests)

-- what the sum is, by the bit that leaves and the bit that comes
sums : (p l : ℕ) (high bit : Bool)
    → bit_xor (bit_xor p (bit_xor (digit high * 2 ^ 16) l)) (digit bit * 2 ^ 16)
    ≡ bit_xor (bit_xor p (if xor high bit then 69665 else 0)) (if xor high bit then bit_xor l 4129 else l)
sums p l true true = cancels p 65536 l refl ∙ ap (λ (n : ℕ). bit_xor n l) (sym (xor_zero_r p))
sums p l true false = xor_zero_r (bit_xor p (bit_xor 65536 l)) ∙ sym (meets p 65536 4129 l refl)
sums p l false true =
    ap (λ (n : ℕ). bit_xor (bit_xor p n) 65536) (xor_zero_l l) ∙ xor_assoc p l 65536
    ∙ ap (λ (n : ℕ). bit_xor p n) (xor_comm l 65536) ∙ sym (meets p 65536 4129 l refl)
sums p l false false = xor_zero_r (bit_xor p (bit_xor 0 l)) ∙ ap (λ (n : ℕ). bit_xor p n) (xor_zero_l l) ∙ ap (λ (n : ℕ). bit_xor n l) (sym (xor_zero_r p))

high_digit : (r : ℕ) → r < 2 ^ 16 → r * 2 ≡ r / 2 ^ 15 * 2 ^ 16 + r * 2 % 2 ^ 16
high_digit r lt = omega arith

digit_lt : (b : Bool) → digit b < 2
digit_lt true = omega arith
digit_lt false = omega arith

divides_on : (m p r : ℕ) (bit : Bool) → r < 2 ^ 16 → m * 2 ^ 16 ≡ bit_xor p r
    → (m * 2 + digit bit) * 2 ^ 16 ≡ bit_xor (bit_xor (p * 2) (if xor (r / 2 ^ 15 == 1) bit then 69665 else 0)) (shifted r bit)
divides_on m p r bit lt e =
    let high = r / 2 ^ 15 == 1 in
    let low = r * 2 % 2 ^ 16 in
    let leaves : digit high ≡ r / 2 ^ 15 = digit_of (r / 2 ^ 15) high (omega arith) refl in
    let split : r * 2 ≡ bit_xor (digit high * 2 ^ 16) low =
    high_digit r lt ∙ ap (λ (n : ℕ). n * 2 ^ 16 + low) (sym leaves) ∙ sym (in_front (digit high) low (omega arith)) in
    let comes : (m * 2 + digit bit) * 2 ^ 16 ≡ bit_xor (m * 2 * 2 ^ 16) (digit bit * 2 ^ 16) =
    ap (λ (n : ℕ). n * 2 ^ 16) (sym (appended m (digit bit) (digit_lt bit))) ∙ sym (high_moves (m * 2) (digit bit)) in
    let before : m * 2 * 2 ^ 16 ≡ m * 2 ^ 16 * 2 = omega arith in
    let doubled : m * 2 * 2 ^ 16 ≡ bit_xor (p * 2) (r * 2) = before ∙ ap (λ (n : ℕ). n * 2) e ∙ sym (twice p r) in
    comes
    ∙ ap (λ (n : ℕ). bit_xor n (digit bit * 2 ^ 16)) (doubled ∙ ap (λ (n : ℕ). bit_xor (p * 2) n) split)
    ∙ sums (p * 2) low high bit

shifted_by : (b : Bool) (l : ℕ) → l < 2 ^ 16 → (if b then bit_xor l 4129 else l) < 2 ^ 16
shifted_by true l lt = xor_lt 16 l 4129 lt (omega arith)
shifted_by false l lt = lt

shifted_lt : (r : ℕ) (bit : Bool) → shifted r bit < 2 ^ 16
shifted_lt r bit = shifted_by (xor (r / 2 ^ 15 == 1) bit) (r * 2 % 2 ^ 16) (omega arith)

-- ---- all bits

product-push : (bits : List Bool) (b : Bool) → product (bits ++ b ∷ []) ≡ bit_xor (product bits * 2) (if b then 69665 else 0)
unfolding product
product-push bits b = fold_push (λ n bit. bit_xor (n * 2) (if bit then 69665 else 0)) 0 bits b

record Divided (m r : ℕ) : Type 0 where
  below : r < 2 ^ 16
  quotient : List Bool
  is : m * 2 ^ 16 ≡ bit_xor (product quotient) r

divided_by_all : (bits : List Bool) (m r : ℕ) → Divided m r → Divided (fold (λ n bit. n * 2 + digit bit) m bits) (fold shifted r bits)
divided_by_all [] m r d = d
divided_by_all (bit ∷ bits) m r d =
    divided_by_all bits (m * 2 + digit bit) (shifted r bit)
    (
    record {
      below = shifted_lt r bit;
      quotient = d.quotient ++ xor (r / 2 ^ 15 == 1) bit ∷ [];
      is =
          divides_on m (product d.quotient) r bit d.below d.is
          ∙ ap (λ (n : ℕ). bit_xor n (shifted r bit)) (sym (product-push d.quotient (xor (r / 2 ^ 15 == 1) bit)));
    }
    )

by_bytes : (bytes : List ℕ) (crc : ℕ) → fold shifted crc (bits_of bytes) ≡ fold shifted_by_byte crc bytes
unfolding shifted_by_byte
by_bytes [] crc = refl
by_bytes (byte ∷ bytes) crc = fold-append shifted crc (low_bits 8 byte) (bits_of bytes) ∙ by_bytes bytes (fold shifted crc (low_bits 8 byte))

pub crc_is_remainder : (bytes : List ℕ) → IsRemainder (bits_of bytes) (crc_of bytes)
unfolding number product crc_of
crc_is_remainder bytes =
    let start : Divided 0 0 = record { below = omega arith; quotient = []; is = refl } in
    let d = divided_by_all (bits_of bytes) 0 0 start in
    let same = by_bytes bytes 0 in
    record { below = rw same at d.below; quotient = d.quotient; divided = rw same at d.is }
