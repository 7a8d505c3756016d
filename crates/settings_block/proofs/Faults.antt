-- A block without a fault has every byte in its field's range.
use Rattle.std.proofs.Common.{◌≡◌, ℕ, Bool, true, false, not, ◌==◌, cond, if◌then◌else◌, List, [], ◌∷◌, Option, Some, None, refl, arith}
use Rattle.std.specs.List.{find}
use Rattle.std.specs.Option.{option_map}
use Rattle.std.proofs.lemmas.Bool.Decides.{nat_tests}
use Rattle.settings_block.specs.declared.block.BlockFault.{BlockFault}
use Rattle.settings_block.specs.declared.block.BlockFault.TheVariants.{Marker, Version, Range}
use Rattle.settings_block.specs.declared.field.Field.{Field}
use Rattle.settings_block.specs.Field.{allows, byte_at, complementary_row, input_row, marker_row, three_d_row, version_row}
use Rattle.settings_block.specs.Settings.{IsInRange}
use Rattle.settings_block.specs.Block.{fault_of, fields, range_fault, settings_of}

-- each field may hold its byte
unfoldable pub Allowed : List ℕ → List Field → Type 0
Allowed block [] = Unit {0}
Allowed block (field ∷ rest) = (allows field (byte_at block field) ≡ true) × Allowed block rest

pub record Sound (block : List ℕ) : Type 0 where
  pub marker : byte_at block marker_row ≡ 1
  pub version : byte_at block version_row ≡ 1
  pub allowed : Allowed block fields

none_at : (b : Bool) (field : Field) (rest : Option Field) → cond (not b) (Some field) rest ≡ None → (b ≡ true) × (rest ≡ None)
none_at true field rest e = (refl, e)
none_at false field rest e = absurd (let g = e in cc)

allowed_all : (block : List ℕ) (rest : List Field) → find (λ field. not (allows field (byte_at block field))) rest ≡ None → Allowed block rest
unfolding Allowed
allowed_all block [] e = tt
allowed_all block (field ∷ rest) e =
    let p = none_at (allows field (byte_at block field)) field (find (λ field. not (allows field (byte_at block field))) rest) e in
    (p.0, allowed_all block rest p.1)

-- and the other way round
none_in : (block : List ℕ) (rest : List Field) → Allowed block rest → find (λ field. not (allows field (byte_at block field))) rest ≡ None
unfolding Allowed
none_in block [] a = refl
none_in block (field ∷ rest) a = rw a.0 (none_in block rest a.1)

no_range : (o : Option Field) → option_map (λ field. Range field.offset) o ≡ None → o ≡ None
no_range None e = refl
no_range (Some field) e = absurd (let g = e in cc)

none_first : (b : Bool) (fault : BlockFault) (rest : Option BlockFault) → (if not b then Some fault else rest) ≡ None → (b ≡ true) × (rest ≡ None)
none_first true fault rest e = (refl, e)
none_first false fault rest e = absurd (let g = e in cc)

is_one : (n : ℕ) → (n == 1) ≡ true → n ≡ 1
is_one n e = grind (arith, nat_tests)

pub sound_block : (block : List ℕ) → fault_of block ≡ None → Sound block
sound_block block e =
    let p = none_first (byte_at block marker_row == 1) Marker (if not (byte_at block version_row == 1) then Some Version else range_fault block) e in
    let q = none_first (byte_at block version_row == 1) Version (range_fault block) p.1 in
    record {
      marker = is_one (byte_at block marker_row) p.0;
      version = is_one (byte_at block version_row) q.0;
      allowed = allowed_all block fields (no_range (find (λ field. not (allows field (byte_at block field))) fields) q.1);
    }

pub sound_fault : (block : List ℕ) → Sound block → fault_of block ≡ None
sound_fault block s = rw (s.marker, s.version, none_in block fields s.allowed) refl

pub sound_range : (block : List ℕ) → Sound block → IsInRange (settings_of block)
unfolding Allowed
sound_range block s =
    let a = s.allowed in
    record {
      direction = a.0;
      advance = a.1.1.1.0;
      poles = a.1.1.1.1.0;
      low = a.1.1.1.1.1.0;
      high = a.1.1.1.1.1.1.0;
      neutral = a.1.1.1.1.1.1.1.0;
      dead_band = a.1.1.1.1.1.1.1.1.0;
    }

pub three_d_allowed : (block : List ℕ) → Sound block → allows three_d_row (byte_at block three_d_row) ≡ true
unfolding Allowed
three_d_allowed block s = s.allowed.1.0

pub complementary_allowed : (block : List ℕ) → Sound block → allows complementary_row (byte_at block complementary_row) ≡ true
unfolding Allowed
complementary_allowed block s = s.allowed.1.1.0

pub input_allowed : (block : List ℕ) → Sound block → allows input_row (byte_at block input_row) ≡ true
unfolding Allowed
input_allowed block s = s.allowed.1.1.1.1.1.1.1.1.1.0
