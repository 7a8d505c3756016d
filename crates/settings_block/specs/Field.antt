-- The table of the block: where its fields stand, what they may hold, and what they hold by default.
use Rattle.std.specs.Prelude.{ℕ, ◌%◌, Bool, ◌==◌, ◌&&◌, nat_le, List, slice_index}
use Rattle.settings_block.specs.declared.field.Field.{Field}

-- the field may hold this byte
abbrev pub allows : Field → ℕ → Bool
allows field byte = (nat_le field.least byte && nat_le byte field.most) && (byte % field.step == 0)

-- the byte that a field has in a block
abbrev pub byte_at : List ℕ → Field → ℕ
byte_at block field = slice_index block field.offset

-- a field of one byte at this offset: what it holds at least and at most, in steps from 0 on, and by default
abbrev pub row : ℕ → ℕ → ℕ → ℕ → ℕ → Field
row offset least most step default = record { offset = offset; least = least; most = most; step = step; default = default }

-- that there is a block
abbrev pub marker_row : Field
marker_row = row 0 1 1 1 1

abbrev pub version_row : Field
version_row = row 1 1 1 1 1

-- which way the motor turns
abbrev pub direction_row : Field
direction_row = row 17 0 1 1 0

-- whether throttle has a forward and a reverse half
abbrev pub three_d_row : Field
three_d_row = row 18 0 1 1 0

-- complementary pulse width modulation
abbrev pub complementary_row : Field
complementary_row = row 20 0 1 1 0

-- the advance level of the commutation
abbrev pub advance_row : Field
advance_row = row 23 0 3 1 1

-- the magnetic poles of the motor, an even number
abbrev pub poles_row : Field
poles_row = row 27 2 64 2 14

-- the low end of servo pulses, the high one, and the middle
abbrev pub low_row : Field
low_row = row 32 0 255 1 128

abbrev pub high_row : Field
high_row = row 33 0 255 1 128

abbrev pub neutral_row : Field
neutral_row = row 34 0 255 1 128

-- the dead band round the middle, in microseconds
abbrev pub dead_band_row : Field
dead_band_row = row 35 0 100 1 50

-- the inputs that are allowed: 0 any, 1 DShot, 2 servo
abbrev pub input_row : Field
input_row = row 46 0 2 1 0
