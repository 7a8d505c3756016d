-- A block is written as it was read, and read as it was written.
use Rattle.std.proofs.Common.{◌≡◌, ◌≢◌, ◌<◌, ℕ, ◌%◌, Bool, true, false, ◌&&◌, ◌==◌, nat_le, if◌then◌else◌, List, [], ◌∷◌, length, slice_index, slice_set, Ok, refl, sym, ◌∙◌, ap, arith}
use Rattle.std.proofs.lemmas.Bool.Decides.{nat_tests}
use Rattle.std.proofs.lemmas.List.{length-set, get_or-set_same, get_or-set_other, set-get_or}
use Rattle.esc_base.specs.Numbers.{bit_of}
use Rattle.servo_input.specs.declared.servo.InputKind.{InputKind}
use Rattle.servo_input.specs.declared.servo.InputKind.TheVariants as input
use Rattle.settings_block.specs.declared.settings.Settings.{Settings}
use Rattle.settings_block.specs.declared.field.Field.{Field}
use Rattle.settings_block.specs.Field.{advance_row, allows, byte_at, complementary_row, dead_band_row, direction_row, high_row, input_row, low_row, marker_row, neutral_row, poles_row, three_d_row, version_row}
use Rattle.settings_block.specs.Settings.{input_number, input_of, IsInRange}
use Rattle.settings_block.specs.Block.{block_of, bytes_of, read_of, settings_of, written}
use Rattle.settings_block.proofs.Faults.{complementary_allowed, input_allowed, sound_fault, three_d_allowed, Allowed, Sound}

-- these bytes stand in the block already
unfoldable Same : List (Field × ℕ) → List ℕ → Type 0
Same [] block = Unit {0}
Same (byte ∷ bytes) block = (byte.1 ≡ byte_at block byte.0) × Same bytes block

written_same : (bytes : List (Field × ℕ)) (block : List ℕ) → Same bytes block → written bytes block ≡ block
unfolding Same
written_same [] block same = refl
written_same (byte ∷ bytes) block same =
    let kept : slice_set block byte.0.offset byte.1 ≡ block = rw same.0 (set-get_or block byte.0.offset 0) in
    rw kept (written_same bytes block same.1)

most_of : (a b c : Bool) → ((a && b) && c) ≡ true → b ≡ true
most_of true true c e = refl
most_of true false c e = e
most_of false b c e = absurd (let g = e in cc)

bit_at : (b : Bool) (n : ℕ) → (n == 1) ≡ b → nat_le n 1 ≡ true → bit_of b ≡ n
bit_at true n e le = grind (arith, nat_tests)
bit_at false n e le = grind (arith, nat_tests)

bit_same : (field : Field) (n : ℕ) → field.most ≡ 1 → allows field n ≡ true → bit_of (n == 1) ≡ n
bit_same field n most e =
    bit_at (n == 1) n refl (rw most at (most_of (nat_le field.least n) (nat_le n field.most) (n % field.step == 0) e))

input_at : (a b : Bool) (n : ℕ) → (n == 1) ≡ a → (n == 2) ≡ b → nat_le n 2 ≡ true
    → input_number (if a then input.DShot else (if b then input.Servo else input.Any)) ≡ n
input_at true b n e f le = grind (arith, nat_tests)
input_at false true n e f le = grind (arith, nat_tests)
input_at false false n e f le = grind (arith, nat_tests)

input_same : (n : ℕ) → allows input_row n ≡ true → input_number (input_of n) ≡ n
input_same n e = input_at (n == 1) (n == 2) n refl refl (most_of (nat_le 0 n) (nat_le n 2) (n % 1 == 0) e)

-- a block without a fault is written as it was read
pub block_same : (block : List ℕ) → Sound block → block_of (settings_of block) ≡ block
unfolding Same
block_same block s =
    written_same (bytes_of (settings_of block)) block (
      sym s.marker,
      (
        sym s.version,
        (
          refl,
          (
            bit_same three_d_row (byte_at block three_d_row) refl (three_d_allowed block s),
            (
              bit_same complementary_row (byte_at block complementary_row) refl (complementary_allowed block s),
              (refl, (refl, (refl, (refl, (refl, (refl, (input_same (byte_at block input_row) (input_allowed block s), tt))))))),
            ),
          ),
        ),
      ),
    )

-- the byte at a place, where the bytes were written one after the other
seen : List (Field × ℕ) → ℕ → ℕ → ℕ
seen [] before k = before
seen (byte ∷ bytes) before k = seen bytes (if byte.0.offset == k then byte.1 else before) k

unfoldable Within : List (Field × ℕ) → ℕ → Type 0
Within [] n = Unit {0}
Within (byte ∷ bytes) n = (byte.0.offset < n) × Within bytes n

index_set : (b : Bool) (block : List ℕ) (at v k : ℕ) → (at == k) ≡ b → at < length block
    → slice_index (slice_set block at v) k ≡ (if b then v else slice_index block k)
index_set true block at v k e lt = let same : k ≡ at = grind (arith, nat_tests) in rw same (get_or-set_same block at v 0 lt)
index_set false block at v k e lt = let ne : k ≢ at = grind (arith, nat_tests) in get_or-set_other block at k v 0 ne

index_written : (bytes : List (Field × ℕ)) (block : List ℕ) (k : ℕ) → Within bytes (length block)
    → slice_index (written bytes block) k ≡ seen bytes (slice_index block k) k
unfolding Within seen
index_written [] block k within = refl
index_written (byte ∷ bytes) block k within =
    let first = index_set (byte.0.offset == k) block byte.0.offset byte.1 k refl within.0 in
    let rest : Within bytes (length (slice_set block byte.0.offset byte.1)) = rw (length-set block byte.0.offset byte.1) within.1 in
    index_written bytes (slice_set block byte.0.offset byte.1) k rest ∙ ap (λ (n : ℕ). seen bytes n k) first

-- a block holds the bytes of these settings
record Holds (block : List ℕ) (s : Settings) : Type 0 where
  marker : byte_at block marker_row ≡ 1
  version : byte_at block version_row ≡ 1
  direction : byte_at block direction_row ≡ s.direction
  three_d : byte_at block three_d_row ≡ bit_of s.three_d
  complementary : byte_at block complementary_row ≡ bit_of s.complementary
  advance : byte_at block advance_row ≡ s.advance
  poles : byte_at block poles_row ≡ s.poles
  low : byte_at block low_row ≡ s.low
  high : byte_at block high_row ≡ s.high
  neutral : byte_at block neutral_row ≡ s.neutral
  dead_band : byte_at block dead_band_row ≡ s.dead_band
  input : byte_at block input_row ≡ input_number s.input

within_block : (s : Settings) (n : ℕ) → n ≡ 48 → Within (bytes_of s) n
unfolding Within
within_block s n e = (
  omega arith,
  (
    omega arith,
    (
      omega arith,
      (
        omega arith,
        (
          omega arith,
          (
            omega arith,
            (omega arith, (omega arith, (omega arith, (omega arith, (omega arith, (omega arith, tt)))))),
          ),
        ),
      ),
    ),
  ),
)

holds : (s : Settings) → length s.rest.0 ≡ 48 → Holds (block_of s) s
unfolding seen
holds s len =
    let within = within_block s (length s.rest.0) len in
    let at = λ (k : ℕ). index_written (bytes_of s) s.rest.0 k within in
    record {
      marker = at 0;
      version = at 1;
      direction = at 17;
      three_d = at 18;
      complementary = at 20;
      advance = at 23;
      poles = at 27;
      low = at 32;
      high = at 33;
      neutral = at 34;
      dead_band = at 35;
      input = at 46;
    }

bit_allowed : (b : Bool) → allows three_d_row (bit_of b) ≡ true
bit_allowed true = refl
bit_allowed false = refl

number_allowed : (kind : InputKind) → allows input_row (input_number kind) ≡ true
number_allowed input.Any = refl
number_allowed input.DShot = refl
number_allowed input.Servo = refl

holds_sound : (block : List ℕ) (s : Settings) → Holds block s → IsInRange s → Sound block
unfolding Allowed
holds_sound block s h r = record {
  marker = h.marker;
  version = h.version;
  allowed = (
    rw h.direction r.direction,
    (
      rw h.three_d (bit_allowed s.three_d),
      (
        rw h.complementary (bit_allowed s.complementary),
        (
          rw h.advance r.advance,
          (
            rw h.poles r.poles,
            (rw h.low r.low, (rw h.high r.high, (rw h.neutral r.neutral, (rw h.dead_band r.dead_band, (rw h.input (number_allowed s.input), tt))))),
          ),
        ),
      ),
    ),
  );
}

bit_back : (b : Bool) → (bit_of b == 1) ≡ b
bit_back true = refl
bit_back false = refl

input_back : (kind : InputKind) → input_of (input_number kind) ≡ kind
input_back input.Any = refl
input_back input.DShot = refl
input_back input.Servo = refl

settings_back : (block : List ℕ) (s : Settings) → Holds block s → settings_of block ≡ record s { rest = record { 0 = block } }
settings_back block s h =
    rw (
      h.direction,
      h.three_d,
      bit_back s.three_d,
      h.complementary,
      bit_back s.complementary,
      h.advance,
      h.poles,
      h.low,
      h.high,
      h.neutral,
      h.dead_band,
      h.input,
      input_back s.input,
    ) refl

read_back_at : (block : List ℕ) (s : Settings) → Holds block s → IsInRange s → read_of block ≡ Ok (record s { rest = record { 0 = block } })
read_back_at block s h r = rw (sound_fault block (holds_sound block s h r), settings_back block s h) refl

-- the block of settings is read as it was written
pub read_back : (s : Settings) → length s.rest.0 ≡ 48 → IsInRange s → read_of (block_of s) ≡ Ok (record s { rest = record { 0 = block_of s } })
read_back s len r = read_back_at (block_of s) s (holds s len) r
