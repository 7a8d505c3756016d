-- A stretch of a run as a still picture, an SVG: each change paints its row from its tick on, over what stood there.
use Rattle.std.specs.Prelude.{ℕ, ◌-◌, ◌*◌, ◌/◌, ◌==◌, if◌then◌else◌, min, max, List, [], ◌∷◌, flat_map}
use Rattle.esc_base.specs.declared.gate.Leg.TheVariants as leg
use Rattle.esc_base.specs.declared.kind.Kind.TheVariants as kind
use Rattle.am32wave.specs.declared.still.TheConstants.{STILL_HEAD, BEFORE_QUARTER, BEFORE_HALF, BEFORE_THREE_QUARTERS, BEFORE_SPAN, BEFORE_ROWS, STILL_END}
use Rattle.am32wave.specs.declared.view.Stretch.{Stretch}
use Rattle.am32wave.specs.declared.wire.Wire.{Wire}
use Rattle.am32wave.specs.declared.wire.Wire.TheVariants as wire
use Rattle.am32wave.specs.Pieces.{time_text, level, box}
use Rattle.am32wave.specs.Wires.{width}

-- the row in which a wire is painted, from 1; 0 for none
abbrev pub row : Wire → ℕ
row wire.Line = 1
row wire.Window = 2
row wire.Armed = 3
row wire.Demand = 4
row wire.Comparator = 5
row (wire.High leg.A) = 6
row (wire.Low leg.A) = 7
row (wire.High leg.B) = 8
row (wire.Low leg.B) = 9
row (wire.High leg.C) = 10
row (wire.Low leg.C) = 11
row wire.Sector = 12
row wire.Crossings = 13
row (wire.Open kind.Main) = 14
row (wire.Open kind.Uart) = 15
row (wire.Open kind.Tick) = 16
row (wire.Open kind.Cap) = 17
row (wire.Open kind.Cmp) = 18
row (wire.Open kind.Pwm) = 19
row (wire.Open kind.Comm) = 20
row w = 0

-- the ticks across the picture
abbrev pub span : Stretch → ℕ
span s = max 1 (s.to - s.from)

-- where a tick stands, in thousandths of a percent of the span
abbrev pub place : Stretch → ℕ → ℕ
place s t = min 100000 ((t - s.from) * 100000 / span s)

-- a level, or a box with its value
abbrev pub mark : ℕ → ℕ → ℕ → ℕ → List ℕ
mark x y w v = if w == 1 then level x y v else box x y v

-- the new value of a wire at a tick; a row is 20 high
abbrev pub painted : Stretch → ℕ → Wire → ℕ → List ℕ
painted s t w v = if row w == 0 then [] else mark (place s t) (20 * row w) (width w) v

-- the names of the rows, and the times below them: where the stretch begins, and the quarters of it
abbrev pub still_head : Stretch → List ℕ
still_head s =
    flat_map (λ x. x) (STILL_HEAD.now ∷ time_text s.from
    ∷ BEFORE_QUARTER.now ∷ time_text (span s / 4)
    ∷ BEFORE_HALF.now ∷ time_text (span s / 2)
    ∷ BEFORE_THREE_QUARTERS.now ∷ time_text (span s / 4 * 3)
    ∷ BEFORE_SPAN.now ∷ time_text (span s) ∷ BEFORE_ROWS.now ∷ [])

abbrev pub still_end : List ℕ
still_end = STILL_END.now
