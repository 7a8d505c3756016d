-- The lines of notes and events, byte by byte.
use Rattle.std.specs.Prelude.{ℕ, zero, suc, ◌+◌, ◌/◌, ◌%◌, ◌≤◌, Bool, true, false, List, [], ◌∷◌, ◌++◌, map, None, Some, codes, flat_map, decimal}
use Rattle.std.specs.Fmt.{digit_glyph}
use Rattle.esc_base.specs.declared.event.Event.{Event}
use Rattle.esc_base.specs.declared.event.Event.TheVariants as event
use Rattle.esc_base.specs.declared.note.Note.{Note}
use Rattle.esc_base.specs.declared.note.Note.TheVariants as note
use Rattle.esc_base.specs.Times.{reply_bits}
use Rattle.esc_base.specs.Trace.{tick_of}
use Rattle.trace_text.specs.Ahead.{StallFits}

-- fields, with a space before each
abbrev pub spaced : List (List ℕ) → List ℕ
spaced fields = flat_map (λ field. 32 ∷ field) fields

-- a line: its first field, the others, and the line feed
abbrev pub line_of : List ℕ → List (List ℕ) → List ℕ
line_of first fields = first ++ (spaced fields ++ 10 ∷ [])

-- two lower-case hexadecimal digits
abbrev pub hex : ℕ → List ℕ
hex byte = digit_glyph false (byte / 16) ∷ digit_glyph false (byte % 16) ∷ []

-- the lowest k bits of a number, the highest of them first
unfoldable pub bits : ℕ → ℕ → List ℕ
bits zero b = []
bits (suc k) b = bits k (b / 2) ++ (48 + b % 2) ∷ []

abbrev pub level_number : Bool → ℕ
level_number false = 0
level_number true = 1

-- what is seen of a line that is written
pub record Written : Type 0 where
  pub bytes : List ℕ

-- ---- notes

-- the letter that a note's line begins with
abbrev pub letter : Note → ℕ
letter (note.Up t r) = 85
letter (note.Enter t k) = 73
letter (note.Leave t k) = 79
letter (note.Gate t hi lo) = 71
letter (note.Window t m) = 87
letter (note.Good t v q) = 70
letter (note.Detected t m) = 70
letter (note.Nothing t) = 70
letter (note.Bad t w) = 70
letter (note.Control t n s d) = 75
letter (note.Armed t) = 65
letter (note.Lost t c) = 88
letter (note.Command t c) = 77
letter (note.Saved t r) = 80
letter (note.Step t s) = 81
letter (note.Cross t) = 90
letter (note.Period t p) = 86
letter (note.Reply t s b) = 82
letter (note.Packet t cc kk) = 66
letter (note.Sent t xx) = 83
letter (note.Dropped t xx) = 76
letter (note.Watched t i n s) = 89

-- the fields after it: the tick, then the rest
abbrev pub note_fields : Note → List (List ℕ)
note_fields (note.Up t r) = decimal t.0 ∷ map decimal (r ∷ [])
note_fields (note.Enter t k) = decimal t.0 ∷ map decimal (k ∷ [])
note_fields (note.Leave t k) = decimal t.0 ∷ map decimal (k ∷ [])
note_fields (note.Gate t hi lo) = decimal t.0 ∷ map decimal (hi ∷ lo ∷ [])
note_fields (note.Window t m) = decimal t.0 ∷ map decimal (m ∷ [])
note_fields (note.Good t v q) = decimal t.0 ∷ codes "G" ∷ map decimal (v ∷ q ∷ [])
note_fields (note.Detected t m) = decimal t.0 ∷ codes "D" ∷ map decimal (m ∷ [])
note_fields (note.Nothing t) = decimal t.0 ∷ codes "N" ∷ []
note_fields (note.Bad t w) = decimal t.0 ∷ codes "B" ∷ map decimal (w ∷ [])
note_fields (note.Control t n s d) = decimal t.0 ∷ map decimal (n ∷ s ∷ d ∷ [])
note_fields (note.Armed t) = decimal t.0 ∷ []
note_fields (note.Lost t c) = decimal t.0 ∷ map decimal (c ∷ [])
note_fields (note.Command t c) = decimal t.0 ∷ map decimal (c ∷ [])
note_fields (note.Saved t r) = decimal t.0 ∷ map decimal (r ∷ [])
note_fields (note.Step t s) = decimal t.0 ∷ map decimal (s ∷ [])
note_fields (note.Cross t) = decimal t.0 ∷ []
note_fields (note.Period t None) = decimal t.0 ∷ codes "none" ∷ []
note_fields (note.Period t (Some p)) = decimal t.0 ∷ map decimal (p ∷ [])
note_fields (note.Reply t s b) = decimal t.0 ∷ decimal s.0 ∷ bits reply_bits b ∷ []
note_fields (note.Packet t cc kk) = decimal t.0 ∷ map hex (cc ∷ kk ∷ [])
note_fields (note.Sent t xx) = decimal t.0 ∷ map hex (xx ∷ [])
note_fields (note.Dropped t xx) = decimal t.0 ∷ map hex (xx ∷ [])
note_fields (note.Watched t i n s) = decimal t.0 ∷ map decimal (i ∷ n ∷ s ∷ [])

-- a note's line
abbrev pub note_bytes : Note → List ℕ
note_bytes n = line_of (letter n ∷ []) (note_fields n)

-- a journal's text: its notes' lines, one after the other
abbrev pub Text : List Note → List ℕ
Text notes = flat_map note_bytes notes

-- ---- events

abbrev pub event_fields : Event → List (List ℕ)
event_fields (event.Edge t level) = codes "E" ∷ decimal (level_number level) ∷ []
event_fields (event.Comp t level) = codes "C" ∷ decimal (level_number level) ∷ []
event_fields (event.Serial t byte) = codes "S" ∷ hex byte ∷ []
event_fields (event.Stall t n) = codes "J" ∷ decimal n ∷ []

-- an event's line
abbrev pub event_bytes : Event → List ℕ
event_bytes e = line_of (decimal (tick_of e)) (event_fields e)

-- an event that may stand in a trace
abbrev pub IsHeldByTrace : Event → Type 0
IsHeldByTrace e = (tick_of e ≤ 1073741824) × StallFits e
