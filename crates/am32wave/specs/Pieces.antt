-- The text of each piece.
use Rattle.std.specs.Prelude.{ℕ, ◌*◌, ◌/◌, ◌+◌, ◌%◌, ◌==◌, ◌≤◌, ◌<◌, if◌then◌else◌, List, [], ◌∷◌, ◌++◌, flat_map, codes, decimal}
use Rattle.esc_base.specs.Range.{InRange, IsWord}
use Rattle.trace_text.specs.Text.{hex, bits, note_bytes}
use Rattle.am32wave.specs.declared.pieces.Piece.{Piece}
use Rattle.am32wave.specs.declared.pieces.Piece.TheVariants as piece
use Rattle.am32wave.specs.declared.wire.Wire.{Wire}
use Rattle.am32wave.specs.Wires.{name, width}

-- three decimal digits
abbrev pub three_digits : ℕ → List ℕ
three_digits n = (48 + n / 100) ∷ (48 + n / 10 % 10) ∷ (48 + n % 10) ∷ []

-- a tick in microseconds, to the nanosecond below it: 48 ticks are a microsecond
abbrev pub time_text : ℕ → List ℕ
time_text t = decimal (t / 48) ++ 46 ∷ three_digits (t % 48 * 1000 / 48) ++ codes " us"

-- the picosecond at or below a tick: three ticks are 62500 picoseconds
abbrev pub stamp : ℕ → ℕ
stamp t = t * 62500 / 3

-- the tick of a stamp
abbrev pub tick_of : ℕ → ℕ
tick_of s = (3 * s + 2) / 62500

abbrev pub stamp_text : ℕ → List ℕ
stamp_text t = 35 ∷ decimal (stamp t) ++ 10 ∷ []

-- a wire is declared under a character
abbrev pub declaration : ℕ → Wire → List ℕ
declaration id w = codes "$var wire " ++ decimal (width w) ++ 32 ∷ id ∷ 32 ∷ name w ++ codes " $end\n"

-- a wire's new value: its one bit, or `b` and its bits and a blank, the highest bit first
abbrev pub change : ℕ → ℕ → ℕ → List ℕ
change id w v = if w == 1 then bits 1 v ++ id ∷ 10 ∷ [] else 98 ∷ bits w v ++ 32 ∷ id ∷ 10 ∷ []

-- ---- a change in a still picture, at so many thousandths of a percent, in the row at this height

abbrev pub percent : ℕ → List ℕ
percent x = decimal (x / 1000) ++ 46 ∷ three_digits (x % 1000) ++ 37 ∷ []

-- a shape of the picture: `h` rises, `l` falls, `b` is a box
abbrev pub shape : ℕ → ℕ → ℕ → List ℕ
shape id x y = codes "<use href=\"#" ++ id ∷ codes "\" x=\"" ++ percent x ++ codes "\" y=\"" ++ decimal y ++ codes "\"/>\n"

abbrev pub label : ℕ → ℕ → ℕ → List ℕ
label x y v = codes "<text x=\"" ++ percent x ++ codes "\" y=\"" ++ decimal y ++ codes "\">" ++ decimal v ++ codes "</text>\n"

abbrev pub level : ℕ → ℕ → ℕ → List ℕ
level x y v = shape (if v == 0 then 108 else 104) x y

abbrev pub box : ℕ → ℕ → ℕ → List ℕ
box x y v = shape 98 x y ++ label x y v

abbrev pub piece_text : Piece → List ℕ
piece_text (piece.Text s) = s.now
piece_text (piece.Number n) = decimal n
piece_text (piece.Byte b) = hex b
piece_text (piece.Bits b) = bits 21 b
piece_text (piece.Time t) = time_text t.0
piece_text (piece.Declaration id w) = declaration id w
piece_text (piece.Stamp t) = stamp_text t.0
piece_text (piece.Change id w v) = change id w v
piece_text (piece.Note n) = note_bytes n
piece_text (piece.Level x y v) = level x y v
piece_text (piece.Box x y v) = box x y v

abbrev pub text : List Piece → List ℕ
text pieces = flat_map piece_text pieces

-- a piece whose numbers have room: times below 2^32, names of one ASCII character, at most 32 bits
abbrev pub Fits : Piece → Type 0
Fits (piece.Time t) = IsWord t.0
Fits (piece.Declaration id w) = id < 128
Fits (piece.Stamp t) = IsWord t.0
Fits (piece.Change id w v) = (id < 128) × (w ≤ 32)
Fits (piece.Note n) = InRange n
Fits p = Unit {0}
