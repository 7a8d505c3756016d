-- The numbers that a journal's line may hold.
use Rattle.std.specs.Prelude.{◌≡◌, ℕ, ◌^◌, ◌<◌, ◌≤◌, Option, Some, None}
use Rattle.esc_base.specs.Times.{most_duty, most_throttle, reply_bits}
use Rattle.esc_base.specs.declared.signal.Verdict.{Verdict}
use Rattle.esc_base.specs.declared.signal.Verdict.TheVariants as verdict
use Rattle.esc_base.specs.declared.note.Note.{Note}
use Rattle.esc_base.specs.declared.note.Note.TheVariants as note

-- a number of 32 bits
abbrev pub IsWord : ℕ → Type 0
IsWord n = n < 4294967296

abbrev pub IsBetween : ℕ → ℕ → ℕ → Type 0
IsBetween low high n = (low ≤ n) × (n ≤ high)

abbrev pub IsPeriod : Option ℕ → Type 0
IsPeriod None = Unit {0}
IsPeriod (Some p) = IsWord p

-- a note is in range
abbrev pub InRange : Note → Type 0
InRange (note.Up t r) = (t.0 ≡ 0) × (r ≤ 3)
InRange (note.Enter t k) = IsWord t.0 × (k ≤ 6)
InRange (note.Leave t k) = IsWord t.0 × (k ≤ 6)
InRange (note.Gate t hi lo) = IsWord t.0 × ((hi ≤ 7) × (lo ≤ 7))
InRange (note.Window t m) = IsWord t.0 × (m ≤ 5)
InRange (note.Good t v q) = IsWord t.0 × ((v ≤ most_throttle) × (q ≤ 1))
InRange (note.Detected t m) = IsWord t.0 × IsBetween 1 5 m
InRange (note.Nothing t) = IsWord t.0
InRange (note.Bad t w) = IsWord t.0 × IsBetween 1 5 w
InRange (note.Control t n s d) = IsWord t.0 × (IsWord n × ((s ≤ 7) × (d ≤ most_duty)))
InRange (note.Armed t) = IsWord t.0
InRange (note.Lost t c) = IsWord t.0 × (c ≤ 2)
InRange (note.Command t c) = IsWord t.0 × (c ≤ 47)
InRange (note.Saved t r) = IsWord t.0 × (r ≤ 1)
InRange (note.Step t s) = IsWord t.0 × IsBetween 1 6 s
InRange (note.Cross t) = IsWord t.0
InRange (note.Period t p) = IsWord t.0 × IsPeriod p
InRange (note.Reply t s b) = IsWord t.0 × (IsWord s.0 × (b < 2 ^ reply_bits))
InRange (note.Packet t cc kk) = IsWord t.0 × ((cc < 256) × (kk < 256))
InRange (note.Sent t xx) = IsWord t.0 × (xx < 256)
InRange (note.Dropped t xx) = IsWord t.0 × (xx < 256)
InRange (note.Watched t i n s) = IsWord t.0 × (IsWord i × (IsWord n × (s ≤ 1)))

-- a frame's value has 11 bits
abbrev pub HasSmallValue : Verdict → Type 0
HasSmallValue (verdict.Good frame) = frame.value ≤ most_throttle
HasSmallValue (verdict.Bad why) = Unit {0}
