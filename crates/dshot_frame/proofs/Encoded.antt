-- The word of a frame says that frame.
use Rattle.std.proofs.Common.{◌≡◌, ◌<◌, ◌≤◌, ℕ, zero, suc, ◌+◌, ◌*◌, ◌/◌, ◌%◌, ◌^◌, Bool, ◌==◌, nat_eq, List, length, refl, ap, ap₂, sym, ◌∙◌, arith}
use Rattle.std.specs.Prelude.{bit_and, bit_or}
use Rattle.std.proofs.lemmas.Nat.{mod-pow-add, and_mask}
use Rattle.std.proofs.lemmas.Grind.{or_after_shift}
use Rattle.esc_base.specs.declared.signal.Mode.{Mode}
use Rattle.esc_base.specs.declared.signal.Verdict.TheVariants.{Good}
use Rattle.edge_capture.specs.Modes.{numbers}
use Rattle.esc_base.specs.Bits.{digit, low_bits}
use Rattle.dshot_frame.specs.Bits.{number, checksum_of, reading}
use Rattle.dshot_frame.specs.Verdict.{verdict_of}
use Rattle.dshot_frame.specs.Sent.{sent, HasFrames}
use Rattle.dshot_frame.proofs.Moved.{length-low_bits, verdict_of-sent}
use Rattle.dshot_frame.proofs.Readings.{telemetry_at, word_good}
use Rattle.dshot_frame.proofs.Numbers.{digit_small, shifted_in}

digit_is : (n : ℕ) → n < 2 → digit (n == 1) ≡ n
digit_is zero h = refl
digit_is (suc zero) h = refl
digit_is (suc (suc n)) h = absurd (omega arith)

number-low_bits : (k n : ℕ) → number (low_bits k n) ≡ n % 2 ^ k
unfolding number low_bits
number-low_bits zero n = omega arith
number-low_bits (suc k) n =
    let one_more : suc k ≡ 1 + k = omega arith in
    rw (digit_is (n / 2 ^ k % 2) (omega arith), length-low_bits k n, number-low_bits k n, one_more) (sym (mod-pow-add n 1 k))

reading-encoded : (inverted : Bool) (value : ℕ) (telemetry : Bool) (upper sum : ℕ) → value ≤ 2047 → upper ≡ 2 * value + digit telemetry → sum < 16
    → ((bits : List Bool) → length bits ≡ 12 → upper ≡ number bits → sum ≡ number (checksum_of inverted bits))
    → reading inverted (low_bits 16 (upper * 16 + sum)) ≡ Good (record { value = value; telemetry = telemetry })
reading-encoded inverted value telemetry upper sum small u lt sums =
    let word : ℕ = upper * 16 + sum in
    let d = digit_small telemetry in
    let above : word / 16 ≡ upper = omega arith in
    let whole : word ≡ number (low_bits 16 word) = sym (number-low_bits 16 word ∙ omega arith) in
    let low : bit_and word 15 ≡ sum = and_mask word 4 ∙ omega arith in
    let value_is : word / 16 / 2 ≡ value = omega arith in
    let telemetry_is : nat_eq (bit_and (word / 16) 1) 1 ≡ telemetry = telemetry_at (word / 16) value telemetry (omega arith) in
    sym (word_good inverted word sum (low_bits 16 word) (length-low_bits 16 word) whole (λ bits n e. sums bits n (sym above ∙ e)) low)
    ∙ ap₂ (λ (v : ℕ) (t : Bool). Good (record { value = v; telemetry = t })) value_is telemetry_is

-- the word as the code shifts it together, its exact edges, and their verdict
pub verdict_of-encoded : (m : Mode) (s : ℕ) (inverted : Bool) (value asked : ℕ) (telemetry : Bool) (sum : ℕ)
    → HasFrames m → (numbers m).inverted ≡ inverted → value ≤ 2047 → asked ≡ digit telemetry → sum < 16
    → ((bits : List Bool) → length bits ≡ 12 → bit_or (value * 2 % 65536) asked ≡ number bits → sum ≡ number (checksum_of inverted bits))
    → verdict_of m (sent m s (bit_or (bit_or (value * 2 % 65536) asked * 16 % 65536) sum)) ≡ Good (record { value = value; telemetry = telemetry })
verdict_of-encoded m s inverted value asked telemetry sum h i small a lt sums =
    let upper : ℕ = bit_or (value * 2 % 65536) asked in
    let d = digit_small telemetry in
    let u : upper ≡ 2 * value + digit telemetry = shifted_in value asked telemetry (omega arith) a in
    let w : bit_or (upper * 16 % 65536) sum ≡ upper * 16 + sum = or_after_shift upper 16 65536 sum refl lt (omega arith) in
    ap (λ (word : ℕ). verdict_of m (sent m s word)) w
    ∙ verdict_of-sent m s (upper * 16 + sum) h
    ∙ ap (λ (b : Bool). reading b (low_bits 16 (upper * 16 + sum))) i
    ∙ reading-encoded inverted value telemetry upper sum small u lt sums
