-- A journal is a list of notes whose times never fall.
use Rattle.std.specs.Prelude.{ℕ, ◌≤◌, List, [], ◌∷◌, ◌++◌, All}
use Rattle.esc_base.specs.declared.note.Note.{Note}
use Rattle.esc_base.specs.declared.note.Note.TheVariants as note

-- the time of a note
abbrev pub time_of : Note → ℕ
time_of (note.Up t r) = t.0
time_of (note.Enter t k) = t.0
time_of (note.Leave t k) = t.0
time_of (note.Gate t hi lo) = t.0
time_of (note.Window t m) = t.0
time_of (note.Good t v q) = t.0
time_of (note.Detected t m) = t.0
time_of (note.Nothing t) = t.0
time_of (note.Bad t w) = t.0
time_of (note.Control t n s d) = t.0
time_of (note.Armed t) = t.0
time_of (note.Lost t c) = t.0
time_of (note.Command t c) = t.0
time_of (note.Saved t r) = t.0
time_of (note.Step t s) = t.0
time_of (note.Cross t) = t.0
time_of (note.Period t p) = t.0
time_of (note.Reply t s b) = t.0
time_of (note.Packet t cc kk) = t.0
time_of (note.Sent t xx) = t.0
time_of (note.Dropped t xx) = t.0
time_of (note.Watched t i n s) = t.0

-- each note fits the notes before it
abbrev pub Each : (List Note → Note → Type 0) → List Note → List Note → Type 0
Each Fits before [] = Unit {0}
Each Fits before (n ∷ rest) = Fits before n × Each Fits (before ++ n ∷ []) rest

-- no note before stands at a later time
abbrev pub IsLater : List Note → Note → Type 0
IsLater before n = All (λ b. time_of b ≤ time_of n) before

-- times never fall
abbrev pub Journal : List Note → Type 0
Journal notes = Each IsLater [] notes
