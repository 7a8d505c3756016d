-- What one line of a trace says, and what is wrong with it.
use Rattle.std.specs.Prelude.{ℕ, ◌+◌, Bool, true, false, not, ◌&&◌, ◌||◌, ◌==◌, nat_lt, nat_le, if◌then◌else◌, List, [], ◌∷◌, length, Option, Some, None, Result, Ok, Err, is_some, is_none, unwrap_or, option_map, option_and_then, slice_get}
use Rattle.std.specs.List.{slice_split, list_all}
use Rattle.std.specs.Char.{digit_value, is_ascii_digit}
use Rattle.std.specs.Str.Parse.{digits_value}
use Rattle.esc_base.specs.declared.tick.Tick.{Tick}
use Rattle.esc_base.specs.declared.event.Event.{Event}
use Rattle.esc_base.specs.declared.event.Event.TheVariants as event
use Rattle.trace_text.specs.declared.item.Place.{Place}
use Rattle.trace_text.specs.declared.item.Refusal.{Refusal}
use Rattle.trace_text.specs.declared.item.Refusal.TheVariants.{TooLong, BadTime, TimeBack, TooLate, BadKind, BadValue, Trailing, TooClose, TooMany}
use Rattle.trace_text.specs.declared.parse.LineKind.{LineKind}
use Rattle.trace_text.specs.declared.parse.LineKind.TheVariants as kind
use Rattle.trace_text.specs.declared.parse.Entry.{Entry}
use Rattle.trace_text.specs.declared.parse.Entry.TheVariants as entry

-- ---- the parts of a line

-- the fields of a line, between its spaces: time, kind, value
abbrev pub fields : List ℕ → List (List ℕ)
fields line = slice_split (λ b. b == 32) line

-- some digits, and no leading zero but in `0` itself
abbrev pub has_plain_start : List ℕ → Bool
has_plain_start [] = false
has_plain_start (d ∷ []) = true
has_plain_start (d ∷ e ∷ digits) = not (d == 48)

-- a number in decimal digits
abbrev pub is_decimal : List ℕ → Bool
is_decimal digits = has_plain_start digits && list_all is_ascii_digit digits

abbrev pub number : List ℕ → ℕ
number digits = digits_value 10 digits

abbrev pub kind_of_letter : ℕ → Option LineKind
kind_of_letter b =
    if b == 69 then Some kind.Edge
    else (if b == 67 then Some kind.Comp
    else (if b == 83 then Some kind.Serial
    else (if b == 74 then Some kind.Stall
    else None)))

-- E, C, S, J or END
abbrev pub kind_of : List ℕ → Option LineKind
kind_of [] = None
kind_of (a ∷ []) = kind_of_letter a
kind_of (a ∷ b ∷ []) = None
kind_of (a ∷ b ∷ c ∷ []) = if (a == 69 && b == 78) && c == 68 then Some kind.End else None
kind_of (a ∷ b ∷ c ∷ d ∷ rest) = None

-- 0 or 1
abbrev pub level_of : List ℕ → Option Bool
level_of [] = None
level_of (b ∷ []) = if b == 48 then Some false else (if b == 49 then Some true else None)
level_of (b ∷ c ∷ rest) = None

-- two hexadecimal digits of either case
abbrev pub byte_of : List ℕ → Option ℕ
byte_of [] = None
byte_of (a ∷ []) = None
byte_of (a ∷ b ∷ []) = if nat_lt (digit_value a) 16 && nat_lt (digit_value b) 16 then Some (digits_value 16 (a ∷ b ∷ [])) else None
byte_of (a ∷ b ∷ c ∷ rest) = None

-- a number in decimal, within bounds
abbrev pub number_between : ℕ → ℕ → List ℕ → Option ℕ
number_between low high digits = if is_decimal digits && (nat_le low (number digits) && nat_le (number digits) high) then Some (number digits) else None

-- the event that a value of this kind says at time t; none where the kind has no such value
abbrev pub event_of : LineKind → Tick → List ℕ → Option Event
event_of kind.Edge t value = option_map (λ level. event.Edge t level) (level_of value)
event_of kind.Comp t value = option_map (λ level. event.Comp t level) (level_of value)
event_of kind.Serial t value = option_map (λ byte. event.Serial t byte) (byte_of value)
event_of kind.Stall t value = option_map (λ n. event.Stall t n) (number_between 1 16777216 value)
event_of kind.End t value = None

-- ---- what is wrong with a line

abbrev pub time_of : List (List ℕ) → ℕ
time_of fs = number (unwrap_or (slice_get fs 0) [])

abbrev pub kind_in : List (List ℕ) → Option LineKind
kind_in fs = option_and_then kind_of (slice_get fs 1)

abbrev pub event_in : List (List ℕ) → Option Event
event_in fs = option_and_then (λ k. option_and_then (event_of k (record { 0 = time_of fs })) (slice_get fs 2)) (kind_in fs)

abbrev pub is_end_kind : Option LineKind → Bool
is_end_kind None = false
is_end_kind (Some kind.Edge) = false
is_end_kind (Some kind.Comp) = false
is_end_kind (Some kind.Serial) = false
is_end_kind (Some kind.Stall) = false
is_end_kind (Some kind.End) = true

-- more than 16777216 lines
abbrev pub too_many : Place → Bool
too_many place = nat_le 16777216 place.line

-- more than 40 bytes
abbrev pub too_long : List ℕ → Bool
too_long line = nat_lt 40 (length line)

-- the line doesn't begin with a decimal time and a space
abbrev pub bad_time : List (List ℕ) → Bool
bad_time fs = is_none (slice_get fs 1) || not (is_decimal (unwrap_or (slice_get fs 0) []))

-- the time is below that of the line before
abbrev pub time_back : Place → List (List ℕ) → Bool
time_back place fs = nat_lt (time_of fs) place.time.0

-- the time is above the greatest one, 2^30
abbrev pub too_late : List (List ℕ) → Bool
too_late fs = nat_lt 1073741824 (time_of fs)

abbrev pub bad_kind : List (List ℕ) → Bool
bad_kind fs = is_none (kind_in fs)

-- the value is missing, or isn't one of the kind's; END has none
abbrev pub bad_value : List (List ℕ) → Bool
bad_value fs = not (is_end_kind (kind_in fs)) && is_none (event_in fs)

-- something follows the value, or END
abbrev pub trailing : List (List ℕ) → Bool
trailing fs = is_some (slice_get fs (if is_end_kind (kind_in fs) then 2 else 3))

abbrev pub soon_after : Option Tick → Tick → Bool
soon_after None t = false
soon_after (Some before) t = nat_lt t.0 (before.0 + 20000)

-- it is a serial byte less than 20000 ticks after the one before
abbrev pub too_close : Place → Option Event → Bool
too_close place None = false
too_close place (Some (event.Edge t level)) = false
too_close place (Some (event.Comp t level)) = false
too_close place (Some (event.Serial t byte)) = soon_after place.serial t
too_close place (Some (event.Stall t n)) = false

-- the first refusal that applies
abbrev pub first : List (Bool × Refusal) → Option Refusal
first [] = None
first (r ∷ rs) = if r.0 then Some r.1 else first rs

-- what can be wrong with the fields of a line, in the order of refusal, each with whether it applies
abbrev pub faults_in : Place → List (List ℕ) → List (Bool × Refusal)
faults_in place fs =
    (bad_time fs, BadTime)
    ∷ (time_back place fs, TimeBack)
    ∷ (too_late fs, TooLate)
    ∷ (bad_kind fs, BadKind)
    ∷ (bad_value fs, BadValue)
    ∷ (trailing fs, Trailing)
    ∷ (too_close place (event_in fs), TooClose)
    ∷ []

-- the same for a whole line
abbrev pub faults : Place → List ℕ → List (Bool × Refusal)
faults place line = (too_many place, TooMany) ∷ (too_long line, TooLong) ∷ faults_in place (fields line)

-- ---- what a line says

-- a line with no event is the END line
abbrev pub entry_of : ℕ → Option Event → Entry
entry_of time (Some e) = entry.Event e
entry_of time None = entry.End (record { 0 = time })

abbrev pub ok_unless : Option Refusal → Entry → Result Entry Refusal
ok_unless None e = Ok e
ok_unless (Some kind) e = Err kind

-- an event, END, or the first refusal, from the fields of a line
abbrev pub said_in : Place → List (List ℕ) → Result Entry Refusal
said_in place fs = ok_unless (first (faults_in place fs)) (entry_of (time_of fs) (event_in fs))

-- the same from a whole line, without its line feed
abbrev pub said : Place → List ℕ → Result Entry Refusal
said place line = ok_unless (first (faults place line)) (entry_of (time_of (fields line)) (event_in (fields line)))

-- what is remembered of the lines so far, after one more event
abbrev pub after_event : Place → Event → Place
after_event place (event.Edge t level) = record { line = place.line + 1; time = t; serial = place.serial }
after_event place (event.Comp t level) = record { line = place.line + 1; time = t; serial = place.serial }
after_event place (event.Serial t byte) = record { line = place.line + 1; time = t; serial = Some t }
after_event place (event.Stall t n) = record { line = place.line + 1; time = t; serial = place.serial }
