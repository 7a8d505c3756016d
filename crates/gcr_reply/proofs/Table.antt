-- The groups of the table, and the word that they stand for.
use Rattle.std.proofs.Common.{◌≡◌, ◌<◌, ℕ, zero, suc, ◌+◌, ◌*◌, ◌/◌, ◌%◌, ◌^◌, Bool, true, ◌&&◌, ◌==◌, nat_lt, List, [], ◌++◌, slice_index, ◌↔◌, Option, Some, None, refl, ap, sym, ◌∙◌, arith, append_assoc}
use Rattle.std.specs.Prelude.{bit_and, bit_or}
use Rattle.std.proofs.lemmas.Nat.{and_mask, or_shifted}
use Rattle.std.proofs.lemmas.List.{append-nil}
use Rattle.std.specs.List.{position_or_len}
use Rattle.std.proofs.lemmas.Bool.Decides.{Decides-below_and, Decides-eqb, Decides-ltb}
use Rattle.gcr_reply.specs.Line.{bits_of, table, groups_of}
use Rattle.gcr_reply.specs.Reply.{gcr_of}
use Rattle.gcr_reply.proofs.Bits.{bits_of-join}

abbrev all_below : (ℕ → Bool) → ℕ → Bool
all_below p zero = true
all_below p (suc n) = p n && all_below p n

-- where a group stands in the table
abbrev place_of : ℕ → ℕ
place_of five = position_or_len (λ group. group == five) table

place_of-table : (n : ℕ) → n < 16 → place_of (slice_index table n) ≡ n
place_of-table =
    (Decides-below_and (λ n. place_of (slice_index table n) == n) (λ n. place_of (slice_index table n) ≡ n)
    (all_below (λ n. place_of (slice_index table n) == n)) (λ n. Decides-eqb (place_of (slice_index table n)) n) refl (λ n. refl) 16).0 refl

-- each group stands for one nibble
pub same_nibble : (m n : ℕ) → m < 16 → n < 16 → slice_index table m ≡ slice_index table n → m ≡ n
same_nibble m n hm hn e = sym (place_of-table m hm) ∙ ap place_of e ∙ place_of-table n hn

pub five_bits : (n : ℕ) → n < 16 → slice_index table n < 32
five_bits =
    (Decides-below_and (λ n. nat_lt (slice_index table n) 32) (λ n. slice_index table n < 32)
    (all_below (λ n. nat_lt (slice_index table n) 32)) (λ n. Decides-ltb (slice_index table n) 32) refl (λ n. refl) 16).0 refl

-- four groups in a row
in_a_row : (a b c d : List ℕ) → ((a ++ b) ++ c) ++ d ≡ a ++ (b ++ (c ++ (d ++ [])))
in_a_row a b c d = simp (append_assoc, append-nil)

bits_of-groups : (a b c d : ℕ) → b < 32 → c < 32 → d < 32
    → bits_of 20 (((a * 32 + b) * 32 + c) * 32 + d) ≡ bits_of 5 a ++ (bits_of 5 b ++ (bits_of 5 c ++ (bits_of 5 d ++ [])))
bits_of-groups a b c d hb hc hd =
    bits_of-join 15 5 ((a * 32 + b) * 32 + c) d hd
    ∙ ap (λ (bits : List ℕ). bits ++ bits_of 5 d)
    (bits_of-join 10 5 (a * 32 + b) c hc ∙ ap (λ (bits : List ℕ). bits ++ bits_of 5 c) (bits_of-join 5 5 a b hb))
    ∙ in_a_row (bits_of 5 a) (bits_of 5 b) (bits_of 5 c) (bits_of 5 d)

-- a nibble's group
abbrev pub group_of : ℕ → ℕ
group_of n = slice_index table n

pub low_nibble : (n : ℕ) → n % 16 < 16
low_nibble n = omega arith

pub bits_of-gcr_of : (word : ℕ) → bits_of 20 (gcr_of word) ≡ groups_of word
bits_of-gcr_of word =
    let first : 0 + group_of (word / 4096 % 16) ≡ group_of (word / 4096 % 16) = omega arith in
    rw first
    (bits_of-groups (group_of (word / 4096 % 16)) (group_of (word / 256 % 16)) (group_of (word / 16 % 16)) (group_of (word % 16))
    (five_bits _ (low_nibble (word / 256))) (five_bits _ (low_nibble (word / 16))) (five_bits _ (low_nibble word)))

pub gcr_of-lt : (word : ℕ) → gcr_of word < 2 ^ 20
gcr_of-lt word =
    let a = five_bits _ (low_nibble (word / 4096)) in
    let b = five_bits _ (low_nibble (word / 256)) in
    let c = five_bits _ (low_nibble (word / 16)) in
    let d = five_bits _ (low_nibble word) in
    omega arith

-- four groups, as the code joins them
or_groups : (a b c d : ℕ) → a < 32 → b < 32 → c < 32 → d < 32
    → bit_or (bit_or (bit_or (a * 32768 % 4294967296) (b * 1024 % 4294967296)) (c * 32 % 4294967296)) d ≡ ((a * 32 + b) * 32 + c) * 32 + d
or_groups a b c d ha hb hc hd =
    let fits_a : a * 32768 % 4294967296 ≡ a * 32768 = omega arith in
    let fits_b : b * 1024 % 4294967296 ≡ b * 1024 = omega arith in
    let fits_c : c * 32 % 4294967296 ≡ c * 32 = omega arith in
    let two : bit_or (a * 32768) (b * 1024) ≡ (a * 32 + b) * 1024 = or_shifted a 15 (b * 1024) (omega arith) ∙ omega arith in
    let three : bit_or ((a * 32 + b) * 1024) (c * 32) ≡ ((a * 32 + b) * 32 + c) * 32 =
    or_shifted (a * 32 + b) 10 (c * 32) (omega arith) ∙ omega arith in
    rw (fits_a, fits_b, fits_c, two, three) (or_shifted ((a * 32 + b) * 32 + c) 5 d hd)

pub gcr_is : (word a b c d : ℕ) → word < 65536
    → a ≡ group_of (word / 4096) → b ≡ group_of (bit_and (word / 256) 15) → c ≡ group_of (bit_and (word / 16) 15) → d ≡ group_of (bit_and word 15)
    → bit_or (bit_or (bit_or (a * 32768 % 4294967296) (b * 1024 % 4294967296)) (c * 32 % 4294967296)) d ≡ gcr_of word
gcr_is word a b c d h ea eb ec ed =
    let top : word / 4096 ≡ word / 4096 % 16 = omega arith in
    let fa : a ≡ group_of (word / 4096 % 16) = ea ∙ ap group_of top in
    let fb : b ≡ group_of (word / 256 % 16) = eb ∙ ap group_of (and_mask (word / 256) 4) in
    let fc : c ≡ group_of (word / 16 % 16) = ec ∙ ap group_of (and_mask (word / 16) 4) in
    let fd : d ≡ group_of (word % 16) = ed ∙ ap group_of (and_mask word 4) in
    let la : a < 32 = rw fa (five_bits _ (low_nibble (word / 4096))) in
    let lb : b < 32 = rw fb (five_bits _ (low_nibble (word / 256))) in
    let lc : c < 32 = rw fc (five_bits _ (low_nibble (word / 16))) in
    let ld : d < 32 = rw fd (five_bits _ (low_nibble word)) in
    or_groups a b c d la lb lc ld ∙ omega arith

-- the nibble whose group it is
pub only_nibble : (k five : ℕ) → k < 16 → group_of k ≡ five → (n : ℕ) → (Some k ≡ Some n) ↔ ((n < 16) × (group_of n ≡ five))
only_nibble k five h e n = (
  λ same. let is : k ≡ n = cc in (omega arith, ap group_of (sym is) ∙ e),
  λ found. ap (λ (m : ℕ). Some m) (same_nibble k n h found.0 (e ∙ sym found.1)),
)

-- ---- the word of four groups

pub record HasGroups (bits a b c d : ℕ) : Type 0 where
  pub first : group_of a ≡ bits / 32768
  pub second : group_of b ≡ bits / 1024 % 32
  pub third : group_of c ≡ bits / 32 % 32
  pub fourth : group_of d ≡ bits % 32

groups_in : (bits a b c d : ℕ) → b < 32 → c < 32 → d < 32 → (((0 + a) * 32 + b) * 32 + c) * 32 + d ≡ bits
    → (a ≡ bits / 32768) × (b ≡ bits / 1024 % 32) × (c ≡ bits / 32 % 32) × (d ≡ bits % 32)
groups_in bits a b c d hb hc hd e = (omega arith, omega arith, omega arith, omega arith)

pub gcr_of-groups : (bits word : ℕ) → gcr_of word ≡ bits → HasGroups bits (word / 4096 % 16) (word / 256 % 16) (word / 16 % 16) (word % 16)
gcr_of-groups bits word e =
    let parts = groups_in bits (group_of (word / 4096 % 16)) (group_of (word / 256 % 16)) (group_of (word / 16 % 16)) (group_of (word % 16))
    (five_bits _ (low_nibble (word / 256))) (five_bits _ (low_nibble (word / 16))) (five_bits _ (low_nibble word)) e in
    record { first = parts.0; second = parts.1; third = parts.2; fourth = parts.3 }

-- no word has these bits
abbrev pub IsNoGcr : ℕ → Type 0
IsNoGcr bits = (word : ℕ) → word < 65536 → gcr_of word ≡ bits → ⊥

pub no_word : (r : Option ℕ) (bits : ℕ) → r ≡ None → IsNoGcr bits → (word : ℕ) → (r ≡ Some word) ↔ ((word < 65536) × (gcr_of word ≡ bits))
no_word r bits e none word = (λ same. absurd (cc), λ found. absurd (none word found.0 found.1))

-- a nibble that is not found
pub not_found : (r : Option ℕ) (five : ℕ) → r ≡ None → ((n : ℕ) → (r ≡ Some n) ↔ ((n < 16) × (group_of n ≡ five)))
    → (n : ℕ) → n < 16 → group_of n ≡ five → ⊥
not_found r five e clause n h g = let same = (clause n).1 (h, g) in cc

word_in : (a b c d : ℕ) → a < 16 → b < 16 → c < 16 → d < 16
    → bit_or (bit_or (bit_or (a * 4096 % 65536) (b * 256 % 65536)) (c * 16 % 65536)) d ≡ ((a * 16 + b) * 16 + c) * 16 + d
word_in a b c d ha hb hc hd =
    let fits_a : a * 4096 % 65536 ≡ a * 4096 = omega arith in
    let fits_b : b * 256 % 65536 ≡ b * 256 = omega arith in
    let fits_c : c * 16 % 65536 ≡ c * 16 = omega arith in
    let two : bit_or (a * 4096) (b * 256) ≡ (a * 16 + b) * 256 = or_shifted a 12 (b * 256) (omega arith) ∙ omega arith in
    let three : bit_or ((a * 16 + b) * 256) (c * 16) ≡ ((a * 16 + b) * 16 + c) * 16 = or_shifted (a * 16 + b) 8 (c * 16) (omega arith) ∙ omega arith in
    rw (fits_a, fits_b, fits_c, two, three) (or_shifted ((a * 16 + b) * 16 + c) 4 d hd)

gcr_of-word : (bits a b c d : ℕ) → a < 16 → b < 16 → c < 16 → d < 16 → HasGroups bits a b c d → gcr_of (((a * 16 + b) * 16 + c) * 16 + d) ≡ bits
gcr_of-word bits a b c d ha hb hc hd g =
    let v : ℕ = ((a * 16 + b) * 16 + c) * 16 + d in
    let ea : group_of (v / 4096 % 16) ≡ bits / 32768 = ap group_of (omega arith) ∙ g.first in
    let eb : group_of (v / 256 % 16) ≡ bits / 1024 % 32 = ap group_of (omega arith) ∙ g.second in
    let ec : group_of (v / 16 % 16) ≡ bits / 32 % 32 = ap group_of (omega arith) ∙ g.third in
    let ed : group_of (v % 16) ≡ bits % 32 = ap group_of (omega arith) ∙ g.fourth in
    rw (ea, eb, ec, ed) (omega arith)

same_word : (bits word a b c d : ℕ) → a < 16 → b < 16 → c < 16 → d < 16 → HasGroups bits a b c d → word < 65536 → gcr_of word ≡ bits
    → ((a * 16 + b) * 16 + c) * 16 + d ≡ word
same_word bits word a b c d ha hb hc hd g h e =
    let w = gcr_of-groups bits word e in
    let ea = same_nibble a (word / 4096 % 16) ha (low_nibble (word / 4096)) (g.first ∙ sym w.first) in
    let eb = same_nibble b (word / 256 % 16) hb (low_nibble (word / 256)) (g.second ∙ sym w.second) in
    let ec = same_nibble c (word / 16 % 16) hc (low_nibble (word / 16)) (g.third ∙ sym w.third) in
    let ed = same_nibble d (word % 16) hd (low_nibble word) (g.fourth ∙ sym w.fourth) in
    omega arith

pub only_word : (bits a b c d : ℕ) → a < 16 → b < 16 → c < 16 → d < 16 → HasGroups bits a b c d → (word : ℕ)
    → (Some (bit_or (bit_or (bit_or (a * 4096 % 65536) (b * 256 % 65536)) (c * 16 % 65536)) d) ≡ Some word) ↔ ((word < 65536) × (gcr_of word ≡ bits))
only_word bits a b c d ha hb hc hd g word =
    rw (word_in a b c d ha hb hc hd) (
      λ same. let is : ((a * 16 + b) * 16 + c) * 16 + d ≡ word = cc in (omega arith, ap gcr_of (sym is) ∙ gcr_of-word bits a b c d ha hb hc hd g),
      λ found. ap (λ (m : ℕ). Some m) (same_word bits word a b c d ha hb hc hd g found.0 found.1),
    )
