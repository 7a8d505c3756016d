-- The edges of a frame on its way.
use Rattle.std.specs.Prelude.{◌≡◌, ℕ, zero, suc, ◌≤◌, ◌+◌, ◌-◌, ◌/◌, ◌%◌, ◌^◌, Bool, false, not, ◌==◌, if◌then◌else◌, List, [], ◌∷◌, take, drop, bit_xor, Option, Some, None}
use Rattle.esc_base.specs.declared.tick.Tick.{Tick}
use Rattle.esc_base.specs.declared.signal.Edge.{Edge}
use Rattle.esc_base.specs.declared.signal.Frame.{Frame}
use Rattle.esc_base.specs.declared.signal.Mode.{Mode}
use Rattle.esc_base.specs.declared.signal.Verdict.TheVariants.{Good}
use Rattle.edge_capture.specs.Modes.{numbers}
use Rattle.dshot_frame.specs.Sent.{active_width, sent}
use Rattle.dshot_frame.specs.Verdict.{verdict_of}
use Rattle.am32trace.specs.declared.frame_out.FrameOut.{FrameOut}
use Rattle.am32trace.specs.declared.frame_out.Spoil.{Spoil}

-- the pulse of the bit behind which k bits stand is to be too wide
abbrev pub is_wide : Option ℕ → ℕ → Bool
is_wide None k = false
is_wide (Some bit) k = bit == 15 - k

-- for how long the bit behind which k bits stand is active
abbrev pub width_of : ℕ → Option ℕ → ℕ → ℕ → ℕ
width_of bit wide k word = if is_wide wide k then bit - 2 else active_width bit (word / 2 ^ k % 2 == 1)

-- the edges of the last bits of a word from s on, so many of them
unfoldable pub edges_left : ℕ → Bool → Option ℕ → ℕ → ℕ → ℕ → List Edge
edges_left bit inverted wide s zero word = []
edges_left bit inverted wide s (suc k) word =
    record { t = record { 0 = s }; level = not inverted }
    ∷ record { t = record { 0 = s + width_of bit wide k word }; level = inverted }
    ∷ edges_left bit inverted wide (s + bit) k word

-- the edges that a frame still has
abbrev pub rest_of : FrameOut → List Edge
rest_of f =
    take f.edges (drop (if f.has_begun then 1 else 0)
    (edges_left (numbers f.mode).bit (numbers f.mode).inverted f.wide f.begins.0 f.left f.word))

-- these are the exact edges of a frame that begins at s, and its receiver hears that frame
pub record IsSent (m : Mode) (s : ℕ) (frame : Frame) (edges : List Edge) : Type 0 where
  pub word : ℕ
  pub exact : edges ≡ sent m s word
  pub heard : verdict_of m edges ≡ Good frame

-- These are the edges of a frame that begins at s, but for what is wrong with it: flipped bits of its word, one pulse too wide, and
-- an end after some edges.
pub record IsSpoilt (m : Mode) (s : ℕ) (frame : Frame) (spoil : Spoil) (edges : List Edge) : Type 0 where
  pub word : ℕ
  pub of_frame : verdict_of m (sent m s word) ≡ Good frame
  pub but_for : edges ≡ take spoil.edges (edges_left (numbers m).bit (numbers m).inverted spoil.wide s 16 (bit_xor word spoil.flipped))

-- the edge that begins a message
abbrev pub first_edge : Mode → Tick → Edge
first_edge m t = record { t = t; level = not (numbers m).inverted }

-- an edge comes at a tick or earlier
abbrev pub IsBefore : ℕ → Edge → Type 0
IsBefore t e = e.t.0 ≤ t

-- an edge comes at a tick or later
abbrev pub IsFrom : ℕ → Edge → Type 0
IsFrom t e = t ≤ e.t.0
