-- The units of a capture's times.
use Rattle.std.specs.Prelude.{ℕ}
use Rattle.am32csv.specs.declared.layout.Clock.{Clock}
use Rattle.am32csv.specs.declared.layout.Clock.TheVariants as clock

-- A unit, 10^-15 seconds or the time of a sample, is so many parts of a tick of 48 MHz,
abbrev pub tick_parts : Clock → ℕ
tick_parts clock.Seconds = 48
tick_parts (clock.Samples rate) = 48000000

-- of which a tick has so many
abbrev pub parts_of : Clock → ℕ
parts_of clock.Seconds = 1000000000
parts_of (clock.Samples rate) = rate.hertz
