-- The line that carries a word, and the reply.
use Rattle.std.proofs.Common.{◌≡◌, ◌<◌, ◌↔◌, ℕ, ◌/◌, ◌^◌, Option, Some, None, ap, sym, ◌∙◌, arith}
use Rattle.std.specs.Prelude.{bit_xor}
use Rattle.std.proofs.lemmas.Nat.{xor_lt}
use Rattle.gcr_reply.specs.Line.{bits_of, groups_of, IsLine, Carries}
use Rattle.gcr_reply.specs.Period.{IsPayload}
use Rattle.gcr_reply.specs.Reply.{ReplyBits, gcr_of, line_of, word_of, reply_of, twelve_of}
use Rattle.gcr_reply.proofs.Bits.{line_of-changes, line_of-lt, line_of-made, same_from_bits_of}
use Rattle.gcr_reply.proofs.Table.{bits_of-gcr_of, gcr_of-lt}
use Rattle.gcr_reply.proofs.Lines.{changes_of_line, line_is_low, low_line}
use Rattle.gcr_reply.proofs.Periods.{payload_told, same_payload, twelve_told}

pub changes_small : (bits : ℕ) → bits < 2 ^ 20 → bit_xor bits (bits / 2) < 2 ^ 20
changes_small bits h = xor_lt 20 bits (bits / 2) h (omega arith)

-- a line carries a word where its changes are the word's GCR bits
pub carries_gcr : (bits word : ℕ) → Carries bits word → gcr_of word ≡ bit_xor bits (bits / 2)
carries_gcr bits word c =
    let low : bits < 2 ^ 20 = line_is_low bits (groups_of word) c.line in
    same_from_bits_of 20 (gcr_of word) (bit_xor bits (bits / 2)) (gcr_of-lt word) (changes_small bits low)
    (bits_of-gcr_of word ∙ sym (changes_of_line bits (groups_of word) c.line))

pub gcr_carries : (bits word : ℕ) → bits < 2 ^ 20 → word < 2 ^ 16 → gcr_of word ≡ bit_xor bits (bits / 2) → Carries bits word
gcr_carries bits word low h e =
    record { of_16_bits = h; line = low_line bits (groups_of word) low (ap (bits_of 20) (sym e) ∙ bits_of-gcr_of word) }

-- one line alone carries a word
pub same_line : (a b word : ℕ) → Carries a word → Carries b word → a ≡ b
same_line a b word c d =
    sym (line_of-made 20 a (line_is_low a (groups_of word) c.line))
    ∙ ap (line_of 20) (sym (carries_gcr a word c) ∙ carries_gcr b word d)
    ∙ line_of-made 20 b (line_is_low b (groups_of word) d.line)

-- one reply alone tells a period
pub same_reply : (a b : ℕ) (period : Option ℕ) → ReplyBits a period → ReplyBits b period → a ≡ b
same_reply a b period r s =
    let same : s.word ≡ r.word = same_payload s.word r.word period s.payload r.payload in
    same_line a b r.word r.carried (rw same at s.carried)

-- what is made step by step tells the period
pub reply_of-tells : (period : Option ℕ) → ReplyBits (reply_of period) period
unfolding reply_of
reply_of-tells period =
    let twelve = twelve_told period in
    let payload = payload_told (twelve_of period) period twelve.0 twelve.1 in
    let small = gcr_of-lt (word_of period) in
    record {
      word = word_of period;
      carried = gcr_carries (reply_of period) (word_of period) (line_of-lt 20 (gcr_of (word_of period)) small) payload.0
          (sym (line_of-changes 20 (gcr_of (word_of period)) small));
      payload = payload.1;
    }

-- ---- what the code's answers say

pub low_bits : (bits : ℕ) → bits / 1048576 ≡ 0 → bits < 2 ^ 20
low_bits bits e = omega arith

-- a line that starts high carries no word
pub carries_none : (bits : ℕ) → (bits / 1048576 ≡ 0 → ⊥) → (word : ℕ) → (None ≡ Some word) ↔ Carries bits word
carries_none bits high word = (λ same. absurd (cc), λ c. let low = line_is_low bits (groups_of word) c.line in absurd (high (omega arith)))

pub carries_exactly : (bits : ℕ) (r : Option ℕ) → bits < 2 ^ 20
    → ((word : ℕ) → (r ≡ Some word) ↔ ((word < 2 ^ 16) × (gcr_of word ≡ bit_xor bits (bits / 2))))
    → (word : ℕ) → (r ≡ Some word) ↔ Carries bits word
carries_exactly bits r low exactly word = (
  λ same. let found = (exactly word).0 same in gcr_carries bits word low found.0 found.1,
  λ c. (exactly word).1 (c.of_16_bits, carries_gcr bits word c),
)

pub tells : (word gcr line : ℕ) (period : Option ℕ) → word < 2 ^ 16 → IsPayload word period
    → bits_of 20 gcr ≡ groups_of word → IsLine line (bits_of 20 gcr) → ReplyBits line period
tells word gcr line period h payload groups l =
    record { word = word; carried = record { of_16_bits = h; line = rw groups at l }; payload = payload }
