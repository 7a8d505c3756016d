-- The numbers of the signal modes. Times are ticks of 48 MHz.
use Rattle.std.specs.Prelude.{ℕ, ◌*◌, ◌%◌, Bool, true, false, ◌==◌, ◌&&◌, if◌then◌else◌, List, length}
use Rattle.esc_base.specs.declared.signal.Edge.{Edge}
use Rattle.esc_base.specs.declared.signal.Mode.{Mode}
use Rattle.esc_base.specs.declared.signal.Mode.TheVariants.{Unknown, D300, D600, D300Inv, D600Inv, Servo}
use Rattle.edge_capture.specs.declared.modes.ModeNumbers.{ModeNumbers}
use Rattle.edge_capture.specs.Edges.{last_rose}

-- a DShot frame has 16 bits of two edges each, and a rest of two bits ends it
abbrev pub dshot : ℕ → Bool → ModeNumbers
dshot bit inverted = record {
  bit = bit;
  inverted = inverted;
  idle_while_high = 2 * bit;
  idle = 2 * bit;
  most_edges = 32;
  falling_first = true;
}

abbrev pub numbers : Mode → ModeNumbers
numbers Unknown = record { bit = 0; inverted = false; idle_while_high = 120000; idle = 4000; most_edges = 32; falling_first = true }
numbers D300 = dshot 160 false
numbers D600 = dshot 80 false
numbers D300Inv = dshot 160 true
numbers D600Inv = dshot 80 true
numbers Servo = record { bit = 0; inverted = false; idle_while_high = 120000; idle = 120000; most_edges = 2; falling_first = false }

-- the number of heard edges with which a window closes at once
abbrev pub most : Mode → ℕ
most m = (numbers m).most_edges

-- a pulse may be high: the number of heard edges is odd, and the last one rose
abbrev pub may_be_high : List Edge → Bool
may_be_high heard = (length heard % 2 == 1) && last_rose heard

-- the idle limit after these heard edges: how long a window waits for a further one
abbrev pub limit : Mode → List Edge → ℕ
limit m heard = if may_be_high heard then (numbers m).idle_while_high else (numbers m).idle
