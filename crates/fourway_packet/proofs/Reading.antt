-- A packet is read from its bytes.
use Rattle.std.proofs.Common.{◌≡◌, ℕ, ◌-◌, Bool, ◌==◌, List, length, take, drop, slice_index, sym, ◌∙◌, ap}
use Rattle.std.proofs.Math.Seq.{take-length}
use Rattle.std.proofs.lemmas.List.{length-drop}
use Rattle.std.proofs.lemmas.Bool.{eq-eqb, ne_eqb}
use Rattle.byteorder.specs.Endian.{big_number}
use Rattle.fourway_packet.specs.declared.packet.Packet.TheVariants.{Whole, BadCrc}
use Rattle.fourway_packet.specs.Crc.{crc_of}
use Rattle.fourway_packet.specs.Cut.{covered_of, packet_by, packet_of}

whole_rest : (k : ℕ) (xs : List ℕ) → take (length xs - k) (drop k xs) ≡ drop k xs
whole_rest k xs = ap (λ (n : ℕ). take n (drop k xs)) (sym (length-drop k xs)) ∙ take-length (drop k xs)

-- what stands in the bytes of a packet, as they were read
pub record IsReadOf (bytes : List ℕ) (covered addr sum crc : ℕ) : Type 0 where
  pub covered_is : covered ≡ covered_of bytes
  pub addr_is : addr ≡ big_number 2 (take (length bytes - 2) (drop 2 bytes))
  pub sum_is : sum ≡ crc_of (take covered bytes)
  pub crc_is : crc ≡ big_number 2 (take (length bytes - covered) (drop covered bytes))

sums : (bytes : List ℕ) (covered addr sum crc : ℕ) → IsReadOf bytes covered addr sum crc
    → (crc_of (take (covered_of bytes) bytes) == big_number 2 (drop (covered_of bytes) bytes)) ≡ (sum == crc)
sums bytes covered addr sum crc r =
    let crc_is : crc ≡ big_number 2 (drop covered bytes) = r.crc_is ∙ ap (big_number 2) (whole_rest covered bytes) in
    ap (λ (n : ℕ). crc_of (take n bytes) == big_number 2 (drop n bytes)) (sym r.covered_is)
    ∙ sym (ap (λ (n : ℕ). n == crc) r.sum_is ∙ ap (λ (n : ℕ). crc_of (take covered bytes) == n) crc_is)

pub whole_read : (bytes params : List ℕ) (covered addr sum crc : ℕ) → IsReadOf bytes covered addr sum crc → sum ≡ crc
    → params ≡ take (covered - 5) (drop 5 bytes)
    → Whole (slice_index bytes 1) addr params ≡ packet_of bytes
unfolding packet_of
whole_read bytes params covered addr sum crc r same is =
    let right = sums bytes covered addr sum crc r ∙ eq-eqb sum crc same in
    let addr_is : addr ≡ big_number 2 (drop 2 bytes) = r.addr_is ∙ ap (big_number 2) (whole_rest 2 bytes) in
    let params_is : params ≡ take (covered_of bytes - 5) (drop 5 bytes) = is ∙ ap (λ (n : ℕ). take (n - 5) (drop 5 bytes)) r.covered_is in
    ap (λ (a : ℕ). Whole (slice_index bytes 1) a params) addr_is
    ∙ ap (λ (l : List ℕ). Whole (slice_index bytes 1) (big_number 2 (drop 2 bytes)) l) params_is
    ∙ sym (ap (λ (b : Bool). packet_by b bytes) right)

pub bad_read : (bytes : List ℕ) (covered addr sum crc : ℕ) → IsReadOf bytes covered addr sum crc → (sum ≡ crc → ⊥)
    → BadCrc (slice_index bytes 1) addr ≡ packet_of bytes
unfolding packet_of
bad_read bytes covered addr sum crc r other =
    let wrong = sums bytes covered addr sum crc r ∙ ne_eqb sum crc other in
    let addr_is : addr ≡ big_number 2 (drop 2 bytes) = r.addr_is ∙ ap (big_number 2) (whole_rest 2 bytes) in
    ap (λ (a : ℕ). BadCrc (slice_index bytes 1) a) addr_is ∙ sym (ap (λ (b : Bool). packet_by b bytes) wrong)
