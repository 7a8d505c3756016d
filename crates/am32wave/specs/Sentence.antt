-- What each note says, in words.
use Rattle.std.specs.Prelude.{ℕ, ◌==◌, if◌then◌else◌, List, ◌++◌, Some, None, codes, decimal}
use Rattle.esc_base.specs.declared.note.Note.{Note}
use Rattle.esc_base.specs.declared.note.Note.TheVariants as note
use Rattle.trace_text.specs.Text.{hex, bits}
use Rattle.am32wave.specs.Pieces.{time_text}

abbrev pub mode_name : ℕ → List ℕ
mode_name m =
    if m == 0 then codes "no mode yet" else
    if m == 1 then codes "DShot300" else
    if m == 2 then codes "DShot600" else
    if m == 3 then codes "DShot300 inverted" else
    if m == 4 then codes "DShot600 inverted" else
    codes "servo pulses"

abbrev pub reason_name : ℕ → List ℕ
reason_name w =
    if w == 1 then codes "number of edges" else
    if w == 2 then codes "polarity" else
    if w == 3 then codes "span" else
    if w == 4 then codes "width of a bit" else
    codes "checksum"

abbrev pub cause_name : ℕ → List ℕ
cause_name c =
    if c == 0 then codes "timeout" else
    if c == 1 then codes "stuck" else
    codes "fuse"

abbrev pub kind_name : ℕ → List ℕ
kind_name k =
    if k == 0 then codes "MAIN" else
    if k == 1 then codes "UART" else
    if k == 2 then codes "TICK" else
    if k == 3 then codes "CAP" else
    if k == 4 then codes "CMP" else
    if k == 5 then codes "PWM" else
    codes "COMM"

abbrev pub loaded_name : ℕ → List ℕ
loaded_name r =
    if r == 0 then codes "the settings of the flash" else
    if r == 1 then codes "default settings: the block has no marker" else
    if r == 2 then codes "default settings: the block has another version" else
    codes "default settings: a value of the block is out of range"

abbrev pub saved_name : ℕ → List ℕ
saved_name r =
    if r == 0 then codes "settings saved" else
    codes "settings not saved: the flash failed"

abbrev pub legs_name : ℕ → List ℕ
legs_name word =
    if word == 0 then codes "none" else
    if word == 1 then codes "A" else
    if word == 2 then codes "B" else
    if word == 3 then codes "A B" else
    if word == 4 then codes "C" else
    if word == 5 then codes "A C" else
    if word == 6 then codes "B C" else
    codes "A B C"

abbrev pub marks_name : ℕ → List ℕ
marks_name s =
    if s == 0 then codes "" else
    if s == 1 then codes ", stuck" else
    if s == 2 then codes ", fuse" else
    if s == 3 then codes ", stuck, fuse" else
    if s == 4 then codes ", session" else
    if s == 5 then codes ", stuck, session" else
    if s == 6 then codes ", fuse, session" else
    codes ", stuck, fuse, session"

abbrev pub telemetry_name : ℕ → List ℕ
telemetry_name q =
    if q == 0 then codes "" else
    codes ", asks for telemetry"

abbrev pub watch_name : ℕ → List ℕ
watch_name s =
    if s == 0 then codes " gate words" else
    codes " gate words, and has tripped"

abbrev pub gates : ℕ → ℕ → List ℕ
gates hi lo = codes "gates: high " ++ legs_name hi ++ codes ", low " ++ legs_name lo

abbrev pub control : ℕ → ℕ → ℕ → List ℕ
control n s d = codes "control tick " ++ decimal n ++ codes ", demand " ++ decimal d ++ marks_name s

abbrev pub reply : ℕ → ℕ → List ℕ
reply s b = codes "reply " ++ bits 21 b ++ codes " begins at " ++ time_text s

abbrev pub packet : ℕ → ℕ → List ℕ
packet cc kk = codes "packet with command " ++ hex cc ++ codes ", acknowledged by " ++ hex kk

abbrev pub watched : ℕ → ℕ → ℕ → List ℕ
watched i n s = codes "watcher " ++ decimal i ++ codes " was told " ++ decimal n ++ watch_name s

abbrev pub words : Note → List ℕ
words (note.Up t r) = codes "start with " ++ loaded_name r
words (note.Enter t k) = codes "enter " ++ kind_name k
words (note.Leave t k) = codes "leave " ++ kind_name k
words (note.Gate t hi lo) = gates hi lo
words (note.Window t m) = codes "window opens: " ++ mode_name m
words (note.Good t v q) = codes "good frame " ++ decimal v ++ telemetry_name q
words (note.Detected t m) = codes "detected " ++ mode_name m
words (note.Nothing t) = codes "detected nothing"
words (note.Bad t w) = codes "bad frame: " ++ reason_name w
words (note.Control t n s d) = control n s d
words (note.Armed t) = codes "armed"
words (note.Lost t c) = codes "lost: " ++ cause_name c
words (note.Command t c) = codes "command " ++ decimal c ++ codes " acts"
words (note.Saved t r) = saved_name r
words (note.Step t s) = codes "sector " ++ decimal s
words (note.Cross t) = codes "zero crossing"
words (note.Period t None) = codes "no period"
words (note.Period t (Some p)) = codes "period " ++ decimal p ++ codes " us"
words (note.Reply t s b) = reply s.0 b
words (note.Packet t cc kk) = packet cc kk
words (note.Sent t xx) = codes "sent " ++ hex xx
words (note.Dropped t xx) = codes "lost a received byte: " ++ hex xx
words (note.Watched t i n s) = watched i n s
