-- The block's bytes.
use Rattle.std.specs.Prelude.{ℕ, not, ◌==◌, if◌then◌else◌, List, [], ◌∷◌, slice_set, find, Option, Some, None, Result, Ok, Err}
use Rattle.std.specs.Option.{option_map}
use Rattle.esc_base.specs.Numbers.{bit_of}
use Rattle.settings_block.specs.declared.field.Field.{Field}
use Rattle.settings_block.specs.declared.settings.Settings.{Settings}
use Rattle.settings_block.specs.declared.block.BlockFault.{BlockFault}
use Rattle.settings_block.specs.declared.block.BlockFault.TheVariants.{Marker, Version, Range}
use Rattle.settings_block.specs.Field.{advance_row, allows, byte_at, complementary_row, dead_band_row, direction_row, high_row, input_row, low_row, marker_row, neutral_row, poles_row, three_d_row, version_row}
pub use Rattle.settings_block.specs.Settings.{input_number, input_of}

-- the fields whose range is checked, by their offsets
abbrev pub fields : List Field
fields = direction_row ∷ three_d_row ∷ complementary_row ∷ advance_row ∷ poles_row ∷ low_row ∷ high_row ∷ neutral_row ∷ dead_band_row ∷ input_row ∷ []

-- the lowest offset whose byte is out of range
abbrev pub range_fault : List ℕ → Option BlockFault
range_fault block = option_map (λ field. Range field.offset) (find (λ field. not (allows field (byte_at block field))) fields)

-- the first fault of a block: no marker, another version, or the lowest byte out of range
abbrev pub fault_of : List ℕ → Option BlockFault
fault_of block =
    if not (byte_at block marker_row == marker_row.default) then Some Marker
    else (if not (byte_at block version_row == version_row.default) then Some Version
    else range_fault block)

-- the settings of a block without a fault
abbrev pub settings_of : List ℕ → Settings
settings_of block = record {
  direction = byte_at block direction_row;
  three_d = byte_at block three_d_row == 1;
  complementary = byte_at block complementary_row == 1;
  advance = byte_at block advance_row;
  poles = byte_at block poles_row;
  low = byte_at block low_row;
  high = byte_at block high_row;
  neutral = byte_at block neutral_row;
  dead_band = byte_at block dead_band_row;
  input = input_of (byte_at block input_row);
  rest = record { 0 = block };
}

abbrev pub read_by : Option BlockFault → List ℕ → Result Settings BlockFault
read_by None block = Ok (settings_of block)
read_by (Some fault) block = Err fault

abbrev pub read_of : List ℕ → Result Settings BlockFault
read_of block = read_by (fault_of block) block

-- a block with these bytes written over it in order, each at its field's offset
abbrev pub written : List (Field × ℕ) → List ℕ → List ℕ
written [] block = block
written (byte ∷ bytes) block = written bytes (slice_set block byte.0.offset byte.1)

abbrev pub bytes_of : Settings → List (Field × ℕ)
bytes_of s =
    (marker_row, marker_row.default) ∷ (version_row, version_row.default) ∷ (direction_row, s.direction) ∷ (three_d_row, bit_of s.three_d)
    ∷ (complementary_row, bit_of s.complementary) ∷ (advance_row, s.advance) ∷ (poles_row, s.poles)
    ∷ (low_row, s.low) ∷ (high_row, s.high) ∷ (neutral_row, s.neutral) ∷ (dead_band_row, s.dead_band) ∷ (input_row, input_number s.input) ∷ []

-- the block of these settings: their fields over the bytes that they were read from
abbrev pub block_of : Settings → List ℕ
block_of s = written (bytes_of s) s.rest.0
