-- The line so far, as a loop makes it, and a whole line.
use Rattle.std.proofs.Common.{◌≡◌, ◌<◌, ◌≤◌, ℕ, ◌+◌, ◌-◌, ◌*◌, ◌/◌, ◌%◌, ◌^◌, List, ap, sym, ◌∙◌, arith, lit<}
use Rattle.std.specs.Prelude.{bit_and, bit_or, bit_xor}
use Rattle.std.proofs.Math.Nat.{pow-le-pow_right}
use Rattle.std.proofs.lemmas.Nat.{and_mask, or_shifted, shr-shr, xor_block, xor_comm, xor_mod}
use Rattle.std.proofs.lemmas.Grind.{pow_more}
use Rattle.gcr_reply.specs.Line.{bits_of, IsLine}
use Rattle.gcr_reply.proofs.Bits.{changes-bits_of, xor_twice}

-- after so many of twenty bits, the line's changes are the highest bits
pub record IsSent (gcr sent line : ℕ) : Type 0 where
  pub within : sent ≤ 20
  pub small : line < 2 ^ sent
  pub changes : bit_xor line (line / 2) ≡ gcr / 2 ^ (20 - sent)

sent_fits : (sent line : ℕ) → sent < 20 → line < 2 ^ sent → line < 2 ^ 19
sent_fits sent line lt h = let p : 2 ^ sent ≤ 2 ^ 19 = pow-le-pow_right {n = 2} (lit< tt) {i = sent} {j = 19} (omega arith) in omega arith

-- the next level of the line
step : (line g level : ℕ) → level ≡ bit_xor line g % 2 → bit_xor line (line / 2) ≡ g / 2 → bit_xor (line * 2 + level) line ≡ g
step line g level e before =
    let low : level < 2 = omega arith in
    let split : line ≡ line / 2 * 2 + line % 2 = omega arith in
    let blocks : bit_xor (line * 2 + level) (line / 2 * 2 + line % 2) ≡ bit_xor line (line / 2) * 2 + bit_xor level (line % 2) =
    xor_block 1 line (line / 2) level (line % 2) low (omega arith) in
    let bit : bit_xor level (line % 2) ≡ g % 2 =
    ap (λ (b : ℕ). bit_xor b (line % 2)) (e ∙ xor_mod line g 1 ∙ xor_comm (line % 2) (g % 2)) ∙ xor_twice (g % 2) (line % 2) in
    ap (bit_xor (line * 2 + level)) split ∙ blocks ∙ omega arith

pub more_sent : (gcr sent line : ℕ) → sent < 20 → IsSent gcr sent line
    → IsSent gcr (sent + 1) (bit_or (line * 2 % 4294967296) (bit_and (bit_xor line (gcr / 2 ^ (19 - sent))) 1))
more_sent gcr sent line lt s =
    let g : ℕ = gcr / 2 ^ (19 - sent) in
    let level : ℕ = bit_and (bit_xor line g) 1 in
    let fits = sent_fits sent line lt s.small in
    let bit : level ≡ bit_xor line g % 2 = and_mask (bit_xor line g) 1 in
    let whole : line * 2 % 4294967296 ≡ line * 2 = omega arith in
    let joined : bit_or (line * 2 % 4294967296) level ≡ line * 2 + level = rw whole (or_shifted line 1 level (omega arith)) in
    let more : 2 ^ (sent + 1) ≡ 2 ^ sent * 2 = pow_more 2 sent in
    let half : (line * 2 + level) / 2 ≡ line = omega arith in
    let up : gcr / 2 ^ (20 - sent) ≡ g / 2 = ap (λ (k : ℕ). gcr / 2 ^ k) (omega arith) ∙ sym (shr-shr gcr (19 - sent) 1) in
    let same : 20 - (sent + 1) ≡ 19 - sent = omega arith in
    rw joined (record {
      within = omega arith;
      small = omega arith;
      changes = rw (half, same) (step line g level bit (s.changes ∙ up));
    })

-- a line that starts low
pub low_line : (bits : ℕ) (gcr : List ℕ) → bits < 2 ^ 20 → bits_of 20 (bit_xor bits (bits / 2)) ≡ gcr → IsLine bits gcr
unfolding bits_of
low_line bits gcr h e = record { of_21_bits = omega arith; starts_low = omega arith; changes_are = changes-bits_of 20 bits ∙ e }

pub line_is_low : (bits : ℕ) (gcr : List ℕ) → IsLine bits gcr → bits < 2 ^ 20
unfolding bits_of
line_is_low bits gcr l = let low = l.starts_low in let most = l.of_21_bits in omega arith

pub changes_of_line : (bits : ℕ) (gcr : List ℕ) → IsLine bits gcr → bits_of 20 (bit_xor bits (bits / 2)) ≡ gcr
changes_of_line bits gcr l = sym (changes-bits_of 20 bits) ∙ l.changes_are

pub all_sent : (gcr sent line : ℕ) → 20 ≤ sent → IsSent gcr sent line → IsLine line (bits_of 20 gcr)
all_sent gcr sent line le s =
    let end : sent ≡ 20 = let w = s.within in omega arith in
    let small : line < 2 ^ 20 = rw end at s.small in
    let changes : bit_xor line (line / 2) ≡ gcr / 2 ^ (20 - 20) = rw end at s.changes in
    low_line line (bits_of 20 gcr) small (ap (bits_of 20) (changes ∙ omega arith))
