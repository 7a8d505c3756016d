-- What the definitions of Asked.antt come to.
use Rattle.std.specs.Prelude.{◌≡◌, ℕ, ◌+◌, ◌*◌, ◌<◌, ◌↔◌, length, Option, Some, None, slice_get}
use Rattle.esc_base.specs.declared.signal.Mode.{Mode}
use Rattle.am32trace.specs.declared.frame_out.Spoil.{Spoil}
use Rattle.am32trace.specs.declared.signal_line.Message.{Message}
use Rattle.am32trace.specs.Asked.{due_of, beats_before, train}

-- of the times of a beat, from the 0-th on, those and no others are counted that come before t
abbrev pub CountsBeats : Type 0
CountsBeats = (period first t k : ℕ) → 0 < period → (k < beats_before period first t) ↔ (first + k * period < t)

-- a train has as many messages as were asked for
abbrev pub HasAsMany : Type 0
HasAsMany = (m : Mode) (period : ℕ) (what : Message) (spoil : Option Spoil) (first n : ℕ) → length (train m period what spoil first n) ≡ n

-- the k-th message begins at first + k * period
abbrev pub EachAtItsBeat : Type 0
EachAtItsBeat = (m : Mode) (period : ℕ) (what : Message) (first n k : ℕ) → k < n
    → slice_get (train m period what None first n) k ≡ Some (due_of m what None (first + k * period))
