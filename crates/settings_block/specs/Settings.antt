-- The settings in memory.
use Rattle.std.specs.Prelude.{◌≡◌, ◌<◌, ◌+◌, ◌*◌, ℕ, true, ◌==◌, min, if◌then◌else◌, replicate}
use Rattle.std.proofs.Common.{arith}
use Rattle.servo_input.specs.declared.servo.Servo.{Servo}
use Rattle.servo_input.specs.declared.servo.InputKind.{InputKind}
use Rattle.servo_input.specs.declared.servo.InputKind.TheVariants as input
use Rattle.dshot_commands.specs.declared.act.Act.{Act}
use Rattle.dshot_commands.specs.declared.act.Act.TheVariants.{Direction, ThreeD}
use Rattle.settings_block.specs.declared.settings.Settings.{Settings}
use Rattle.settings_block.specs.Field.{advance_row, allows, complementary_row, dead_band_row, direction_row, high_row, input_row, low_row, neutral_row, poles_row, three_d_row}

-- the fields that are numbers hold what the block allows
pub record IsInRange (s : Settings) : Type 0 where
  pub direction : allows direction_row s.direction ≡ true
  pub advance : allows advance_row s.advance ≡ true
  pub poles : allows poles_row s.poles ≡ true
  pub low : allows low_row s.low ≡ true
  pub high : allows high_row s.high ≡ true
  pub neutral : allows neutral_row s.neutral ≡ true
  pub dead_band : allows dead_band_row s.dead_band ≡ true

abbrev pub input_of : ℕ → InputKind
input_of byte = if byte == 1 then input.DShot else (if byte == 2 then input.Servo else input.Any)

abbrev pub input_number : InputKind → ℕ
input_number input.Any = 0
input_number input.DShot = 1
input_number input.Servo = 2

abbrev pub default_settings : Settings
default_settings = record {
  direction = direction_row.default;
  three_d = three_d_row.default == 1;
  complementary = complementary_row.default == 1;
  advance = advance_row.default;
  poles = poles_row.default;
  low = low_row.default;
  high = high_row.default;
  neutral = neutral_row.default;
  dead_band = dead_band_row.default;
  input = input_of input_row.default;
  rest = record { 0 = replicate 48 0 };
}

-- The ends of the range of servo pulses, in microseconds, from the settings' two bytes. Any low end is below any high end, so
-- the bound on the low one changes nothing.
pub ends_in_order : (low high : ℕ) → min (2 * low + 750) (2 * high + 1749) < 2 * high + 1750
ends_in_order low high = omega arith

abbrev pub servo_of : Settings → Servo
servo_of s = record { low_us = min (2 * s.low + 750) (2 * s.high + 1749); high_us = 2 * s.high + 1750; in_order = ends_in_order s.low s.high }

-- what a command changes of the settings
abbrev pub applied : Settings → Act → Settings
applied s (Direction side) = record s { direction = side }
applied s (ThreeD is_on) = record s { three_d = is_on }
applied s act = s
