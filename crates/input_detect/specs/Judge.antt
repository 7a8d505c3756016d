-- What the edges of a window are, by the window's mode.
use Rattle.std.specs.Prelude.{◌≤◌, List}
use Rattle.esc_base.specs.declared.signal.Edge.{Edge}
use Rattle.esc_base.specs.declared.signal.Mode.{Mode}
use Rattle.esc_base.specs.declared.signal.Mode.TheVariants as mode
use Rattle.esc_base.specs.declared.signal.Verdict.{Verdict}
use Rattle.esc_base.specs.declared.signal.Verdict.TheVariants as verdict
use Rattle.esc_base.specs.Numbers.{mode_number}
use Rattle.dshot_frame.specs.Verdict.{verdict_of}
use Rattle.servo_input.specs.declared.servo.Servo.{Servo}
use Rattle.servo_input.specs.declared.servo.InputKind.{InputKind}
use Rattle.servo_input.specs.Pulse.{pulse_of}
use Rattle.input_detect.specs.declared.search.Seen.{Seen}
use Rattle.input_detect.specs.declared.search.Seen.TheVariants as seen
use Rattle.input_detect.specs.Detect.{detect_of}
use Rattle.input_detect.specs.declared.window.Judgement.{Judgement}
use Rattle.input_detect.specs.declared.window.Judgement.TheVariants.{Good, Bad, Found, Nothing}

abbrev pub by_verdict : Verdict → Judgement
by_verdict (verdict.Good frame) = Good frame
by_verdict (verdict.Bad why) = Bad why

abbrev pub by_detection : Seen → Judgement
by_detection (seen.Found mode) = Found mode
by_detection seen.None = Nothing

-- In a window with no mode yet, the edges show the first allowed mode in which they are good, and are never taken for a frame;
-- in any other they are a frame or a pulse of its mode.
abbrev pub judged : Mode → List Edge → InputKind → Servo → Judgement
judged mode.Unknown burst allowed servo = by_detection (detect_of burst allowed servo)
judged mode.D300 burst allowed servo = by_verdict (verdict_of mode.D300 burst)
judged mode.D600 burst allowed servo = by_verdict (verdict_of mode.D600 burst)
judged mode.D300Inv burst allowed servo = by_verdict (verdict_of mode.D300Inv burst)
judged mode.D600Inv burst allowed servo = by_verdict (verdict_of mode.D600Inv burst)
judged mode.Servo burst allowed servo = by_verdict (pulse_of burst servo)

-- a frame's value has 11 bits, and a mode that is found is a known one
abbrev pub IsJudged : Judgement → Type 0
IsJudged (Good frame) = frame.value ≤ 2047
IsJudged (Bad why) = Unit {0}
IsJudged (Found mode) = 1 ≤ mode_number mode
IsJudged Nothing = Unit {0}
