-- The detection of a signal mode, over a whole burst.
use Rattle.std.specs.Prelude.{◌<◌, Bool, true, false, List, [], ◌∷◌, Option, Some, None, ◌&&◌}
use Rattle.std.specs.List.{find}
use Rattle.esc_base.specs.declared.signal.Edge.{Edge}
use Rattle.esc_base.specs.declared.signal.Mode.{Mode}
use Rattle.esc_base.specs.declared.signal.Mode.TheVariants as mode
use Rattle.esc_base.specs.declared.signal.Verdict.{Verdict}
use Rattle.esc_base.specs.declared.signal.Verdict.TheVariants.{Good, Bad}
use Rattle.esc_base.specs.Numbers.{mode_number}
use Rattle.dshot_frame.specs.Verdict.{verdict_of}
use Rattle.servo_input.specs.Pulse.{pulse_of}
use Rattle.servo_input.specs.declared.servo.Servo.{Servo}
use Rattle.servo_input.specs.declared.servo.InputKind.{InputKind}
use Rattle.servo_input.specs.declared.servo.InputKind.TheVariants as input
use Rattle.input_detect.specs.declared.search.Seen.{Seen}
use Rattle.input_detect.specs.declared.search.Seen.TheVariants as seen

abbrev pub seen_of : Option Mode → Seen
seen_of None = seen.None
seen_of (Some m) = seen.Found m

-- a mode that was found is one of the five
abbrev pub IsFoundMode : Seen → Type 0
IsFoundMode seen.None = Unit {0}
IsFoundMode (seen.Found m) = 0 < mode_number m

abbrev pub is_good : Verdict → Bool
is_good (Good frame) = true
is_good (Bad why) = false

-- whether a burst is good in a mode; where the mode isn't known, none is
abbrev pub fits : Mode → List Edge → Servo → Bool
fits mode.Unknown edges servo = false
fits mode.D300 edges servo = is_good (verdict_of mode.D300 edges)
fits mode.D600 edges servo = is_good (verdict_of mode.D600 edges)
fits mode.D300Inv edges servo = is_good (verdict_of mode.D300Inv edges)
fits mode.D600Inv edges servo = is_good (verdict_of mode.D600Inv edges)
fits mode.Servo edges servo = is_good (pulse_of edges servo)

-- the modes in the order in which they are tried
abbrev pub modes : List Mode
modes = mode.D300 ∷ mode.D600 ∷ mode.D300Inv ∷ mode.D600Inv ∷ mode.Servo ∷ []

-- whether the settings allow a mode
abbrev pub allows : InputKind → Mode → Bool
allows input.Any m = true
allows input.DShot mode.Servo = false
allows input.DShot m = true
allows input.Servo mode.Servo = true
allows input.Servo m = false

-- the first allowed mode in which the burst is good
abbrev pub detect_of : List Edge → InputKind → Servo → Seen
detect_of edges kind servo = seen_of (find (λ m. allows kind m && fits m edges servo) modes)
