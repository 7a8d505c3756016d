-- A note's line, read back word by word.
use Rattle.std.proofs.Common.{min, ◌≡◌, ◌≤◌, ◌<◌, ℕ, zero, suc, ◌+◌, ◌-◌, ◌/◌, ◌%◌, ◌^◌, Bool, true, false, not, ◌&&◌, ◌||◌, ◌==◌, List, [], ◌∷◌, ◌++◌, length, take, drop, get_or, Some, None, refl, sym, ◌∙◌, ap, subst, arith, append-nil, length-append, ◌⊎◌, inl, inr}
use Rattle.std.specs.List.{All, list_all}
use Rattle.std.specs.Char.{digit_value, is_ascii_digit}
use Rattle.std.specs.Fmt.{decimal, digit_glyph}
use Rattle.std.specs.Str.Parse.{AllDigits, digits_value}
use Rattle.std.proofs.lemmas.Bool.{lt-ltb, le-leb, cases_lt}
use Rattle.std.proofs.lemmas.Bool.Decides.{nat_tests}
use Rattle.std.proofs.lemmas.Fmt.{decimal_is_IsNumeral, decimal_digit, first_decimal}
use Rattle.std.proofs.lemmas.Str.{digit_value-digit_char}
use Rattle.std.proofs.lemmas.Str.Parse.{digit_from_value}
use Rattle.std.proofs.lemmas.Int.Digits.{digits_value_push, digits_value-lt}
use Rattle.std.proofs.lemmas.List.Elements.{All-nil, All-cons, All-append, All-push, All-weaker}
use Rattle.std.proofs.lemmas.List.Folds.{list_all-append}
use Rattle.std.proofs.lemmas.List.Splits.{slice_split_none, slice_split_at}
use Rattle.std.proofs.Math.Nat.{pow-suc}
use Rattle.std.proofs.Math.Seq.{take-append_seam}
use Rattle.esc_base.specs.declared.note.Note.{Note}
use Rattle.esc_base.specs.declared.note.Note.TheVariants as note
use Rattle.esc_base.specs.Journal.{time_of}
use Rattle.esc_base.specs.Range.{InRange}
use Rattle.trace_text.specs.Line.{fields, has_plain_start, number_between, byte_of}
use Rattle.trace_text.specs.Text.{spaced, hex, bits, letter, note_fields, note_bytes}
use Rattle.trace_text.specs.NoteRead.{bits_of, is_none_word, note_of, word_at}
use Rattle.trace_text.proofs.Bits.{no_bits, bits_suc}

-- ---- a number in decimal

is_digit : (c : ℕ) → digit_value c < 10 → is_ascii_digit c ≡ true
is_digit c lt = let range = digit_from_value c lt in grind (arith, nat_tests)

pub all_digits : (ds : List ℕ) → AllDigits 10 ds → list_all is_ascii_digit ds ≡ true
all_digits [] h = refl
all_digits (c ∷ ds) h = rw (is_digit c h.0, all_digits ds h.1) refl

not_zero : (d : ℕ) → 48 < d → not (d == 48) ≡ true
not_zero d lt = grind (arith, nat_tests)

plain : (ds : List ℕ) → 48 < get_or ds 0 0 → has_plain_start ds ≡ true
plain [] lt = absurd (omega arith)
plain (d ∷ []) lt = refl
plain (d ∷ e ∷ ds) lt = not_zero d lt

pub starts_plainly : (n : ℕ) → n < 2 ^ 64 → (0 < n) ⊎ (n ≤ 0) → has_plain_start (decimal n) ≡ true
starts_plainly n small (inl some) = plain (decimal n) (first_decimal n some small)
starts_plainly n small (inr none) = ap (λ (m : ℕ). has_plain_start (decimal m)) (omega arith) ∙ ap has_plain_start (decimal_digit 0 (omega arith))

pub number_back : (low high n : ℕ) → low ≤ n → n ≤ high → n < 2 ^ 64 → number_between low high (decimal n) ≡ Some n
number_back low high n le ge small =
    let is = decimal_is_IsNumeral n small in
    rw (starts_plainly n small (cases_lt 0 n), all_digits (decimal n) is.0.1, is.1, le-leb low n le, le-leb n high ge) refl

-- ---- two hexadecimal digits

pub byte_back : (b : ℕ) → b < 256 → byte_of (hex b) ≡ Some b
byte_back b small =
    let high : digit_value (digit_glyph false (b / 16)) ≡ b / 16 = digit_value-digit_char (b / 16) (omega arith) in
    let low : digit_value (digit_glyph false (b % 16)) ≡ b % 16 = digit_value-digit_char (b % 16) (omega arith) in
    rw (high, low, lt-ltb (b / 16) 16 (omega arith), lt-ltb (b % 16) 16 (omega arith)) (ap (λ (n : ℕ). Some n) (omega arith))

-- ---- binary digits

bit_passes : (b : ℕ) → (48 + b % 2 == 48 || 48 + b % 2 == 49) ≡ true
bit_passes b = grind (arith, nat_tests)

bit_value : (b : ℕ) → digit_value (48 + b % 2) ≡ b % 2
bit_value b = grind (arith, nat_tests)

pub length-bits : (k b : ℕ) → length (bits k b) ≡ k
length-bits zero b = ap length (no_bits b)
length-bits (suc k) b = ap length (bits_suc k b) ∙ length-append (bits k (b / 2)) ((48 + b % 2) ∷ []) ∙ (let e = length-bits k (b / 2) in omega arith)

all_bits : (k b : ℕ) → list_all (λ c. c == 48 || c == 49) (bits k b) ≡ true
all_bits zero b = ap (list_all (λ c. c == 48 || c == 49)) (no_bits b)
all_bits (suc k) b =
    ap (list_all (λ c. c == 48 || c == 49)) (bits_suc k b)
    ∙ list_all-append (λ c. c == 48 || c == 49) (bits k (b / 2)) ((48 + b % 2) ∷ []) ∙ rw (all_bits k (b / 2), bit_passes b) refl

value-bits : (k b : ℕ) → b < 2 ^ k → digits_value 2 (bits k b) ≡ b
value-bits zero b lt = ap (digits_value 2) (no_bits b) ∙ omega arith
value-bits (suc k) b lt =
    ap (digits_value 2) (bits_suc k b) ∙ digits_value_push 2 (bits k (b / 2)) (48 + b % 2)
    ∙ (let e = value-bits k (b / 2) (let twice = pow-suc 2 k in omega arith) in let d = bit_value b in omega arith)

bits_back : (b : ℕ) → b < 2097152 → bits_of (bits 21 b) ≡ Some b
bits_back b small = rw (length-bits 21 b, all_bits 21 b, value-bits 21 b small) refl

is_two_digit : (c : ℕ) → (c == 48 || c == 49) ≡ true → digit_value c < 2
is_two_digit c h = grind (arith, nat_tests)

front_passes : (x y : Bool) → (x && y) ≡ true → (x ≡ true) × (y ≡ true)
front_passes true true e = (refl, refl)
front_passes true false e = cc
front_passes false y e = cc

binary : (ds : List ℕ) → list_all (λ c. c == 48 || c == 49) ds ≡ true → AllDigits 2 ds
binary [] h = tt
binary (c ∷ ds) h = let parts = front_passes (c == 48 || c == 49) (list_all (λ x. x == 48 || x == 49) ds) h in (is_two_digit c parts.0, binary ds parts.1)

pub two_digit_of : (c : ℕ) → (c == 48 || c == 49) ≡ true → digit_value c ≡ c - 48
two_digit_of c h = grind (arith, nat_tests)

-- 21 bits are a number below 2^21
pub value_below : (ds : List ℕ) → list_all (λ c. c == 48 || c == 49) ds ≡ true → length ds ≡ 21 → digits_value 2 ds < 2097152
value_below ds h len = subst (λ (n : ℕ). digits_value 2 ds < 2 ^ n) len (digits_value-lt 2 ds (binary ds h))

pub bits_are : (ds : List ℕ) (b : ℕ) → length ds ≡ 21 → list_all (λ c. c == 48 || c == 49) ds ≡ true → b ≡ min (digits_value 2 ds) 4294967295
    → (Some b ≡ bits_of ds) × (b < 2097152)
bits_are ds b len h e =
    let small = value_below ds h len in
    let same : b ≡ digits_value 2 ds = omega arith in
    (sym (rw (len, h) (ap (λ (n : ℕ). Some n) (sym same))), omega arith)

-- ---- a period

not_n : (c : ℕ) → digit_value c < 10 → (c == 110) ≡ false
not_n c lt = let range = digit_from_value c lt in grind (arith, nat_tests)

not_none : (ds : List ℕ) → AllDigits 10 ds → is_none_word ds ≡ false
not_none [] h = refl
not_none (a ∷ []) h = refl
not_none (a ∷ b ∷ []) h = refl
not_none (a ∷ b ∷ c ∷ []) h = refl
not_none (a ∷ b ∷ c ∷ d ∷ []) h = rw (not_n a h.0) refl
not_none (a ∷ b ∷ c ∷ d ∷ e ∷ rest) h = refl

-- ---- words without a space or a line feed

-- no byte of a word is as low as a space or a line feed
abbrev pub IsHigh : List ℕ → Type 0
IsHigh word = All (λ b. 48 ≤ b) word

abbrev pub AllHigh : List (List ℕ) → Type 0
AllHigh [] = Unit {0}
AllHigh (word ∷ words) = IsHigh word × AllHigh words

no_space : (word : List ℕ) → IsHigh word → All (λ b. (b == 32) ≡ false) word
no_space word h = All-weaker (λ b. 48 ≤ b) (λ b. (b == 32) ≡ false) (λ b le. grind (arith, nat_tests)) word h

pub fields_spaced : (first : List ℕ) (words : List (List ℕ)) → IsHigh first → AllHigh words → fields (first ++ spaced words) ≡ first ∷ words
fields_spaced first [] h hs = ap fields (append-nil first) ∙ slice_split_none (λ b. b == 32) first (no_space first h)
fields_spaced first (word ∷ words) h hs =
    slice_split_at (λ b. b == 32) first 32 (word ++ spaced words) (no_space first h) refl
    ∙ ap (λ (ws : List (List ℕ)). first ∷ ws) (fields_spaced word words hs.0 hs.1)

abbrev pub NoFeed : List ℕ → Type 0
NoFeed bytes = All (λ b. (b == 10) ≡ false) bytes

pub no_feed_spaced : (words : List (List ℕ)) → AllHigh words → NoFeed (spaced words)
no_feed_spaced [] h = All-nil (λ b. (b == 10) ≡ false)
no_feed_spaced (word ∷ words) h =
    let here = All-weaker (λ b. 48 ≤ b) (λ b. (b == 10) ≡ false) (λ b le. grind (arith, nat_tests)) word h.0 in
    All-cons (λ b. (b == 10) ≡ false) 32 (word ++ spaced words) refl (All-append (λ b. (b == 10) ≡ false) word (spaced words) here (no_feed_spaced words h.1))

high_digits : (ds : List ℕ) → AllDigits 10 ds → IsHigh ds
high_digits [] h = All-nil (λ b. 48 ≤ b)
high_digits (c ∷ ds) h = All-cons (λ b. 48 ≤ b) c ds (let range = digit_from_value c h.0 in omega arith) (high_digits ds h.1)

pub high_decimal : (n : ℕ) → n < 2 ^ 64 → IsHigh (decimal n)
high_decimal n small = high_digits (decimal n) (decimal_is_IsNumeral n small).0.1

high_glyph : (d : ℕ) → 48 ≤ digit_glyph false d
high_glyph d = grind (arith, nat_tests)

pub high_letter : (l : ℕ) → 48 ≤ l → IsHigh (l ∷ [])
high_letter l h = All-cons (λ x. 48 ≤ x) l [] h (All-nil (λ x. 48 ≤ x))

pub high_two : (a b : ℕ) → 48 ≤ a → 48 ≤ b → IsHigh (a ∷ b ∷ [])
high_two a b h k = All-cons (λ x. 48 ≤ x) a (b ∷ []) h (high_letter b k)

pub high_hex : (b : ℕ) → IsHigh (hex b)
high_hex b = high_two (digit_glyph false (b / 16)) (digit_glyph false (b % 16)) (high_glyph (b / 16)) (high_glyph (b % 16))

high_bits : (k b : ℕ) → IsHigh (bits k b)
high_bits zero b = subst (λ (l : List ℕ). IsHigh l) (sym (no_bits b)) (All-nil (λ x. 48 ≤ x))
high_bits (suc k) b =
    subst (λ (l : List ℕ). IsHigh l) (sym (bits_suc k b)) (All-push (λ x. 48 ≤ x) (bits k (b / 2)) (48 + b % 2) (high_bits k (b / 2)) (omega arith))

high_none : IsHigh (110 ∷ 111 ∷ 110 ∷ 101 ∷ [])
high_none =
    All-cons (λ x. 48 ≤ x) 110 (111 ∷ 110 ∷ 101 ∷ []) (omega arith)
    (All-cons (λ x. 48 ≤ x) 111 (110 ∷ 101 ∷ []) (omega arith) (high_two 110 101 (omega arith) (omega arith)))

high_words : (n : Note) → InRange n → AllHigh (note_fields n)
high_words (note.Up t r) h = (high_decimal t.0 (omega arith), (high_decimal r (omega arith), tt))
high_words (note.Enter t k) h = (high_decimal t.0 (omega arith), (high_decimal k (omega arith), tt))
high_words (note.Leave t k) h = (high_decimal t.0 (omega arith), (high_decimal k (omega arith), tt))
high_words (note.Gate t hi lo) h = (high_decimal t.0 (omega arith), (high_decimal hi (omega arith), (high_decimal lo (omega arith), tt)))
high_words (note.Window t m) h = (high_decimal t.0 (omega arith), (high_decimal m (omega arith), tt))
high_words (note.Good t v q) h =
    (high_decimal t.0 (omega arith), (high_letter 71 (omega arith), (high_decimal v (omega arith), (high_decimal q (omega arith), tt))))
high_words (note.Detected t m) h = (high_decimal t.0 (omega arith), (high_letter 68 (omega arith), (high_decimal m (omega arith), tt)))
high_words (note.Nothing t) h = (high_decimal t.0 (omega arith), (high_letter 78 (omega arith), tt))
high_words (note.Bad t w) h = (high_decimal t.0 (omega arith), (high_letter 66 (omega arith), (high_decimal w (omega arith), tt)))
high_words (note.Control t n s d) h =
    (high_decimal t.0 (omega arith), (high_decimal n (omega arith), (high_decimal s (omega arith), (high_decimal d (omega arith), tt))))
high_words (note.Armed t) h = (high_decimal t.0 (omega arith), tt)
high_words (note.Lost t c) h = (high_decimal t.0 (omega arith), (high_decimal c (omega arith), tt))
high_words (note.Command t c) h = (high_decimal t.0 (omega arith), (high_decimal c (omega arith), tt))
high_words (note.Saved t r) h = (high_decimal t.0 (omega arith), (high_decimal r (omega arith), tt))
high_words (note.Step t s) h = (high_decimal t.0 (omega arith), (high_decimal s (omega arith), tt))
high_words (note.Cross t) h = (high_decimal t.0 (omega arith), tt)
high_words (note.Period t None) h = (high_decimal t.0 (omega arith), (high_none, tt))
high_words (note.Period t (Some p)) h = (high_decimal t.0 (omega arith), (high_decimal p (omega arith), tt))
high_words (note.Reply t s b) h = (high_decimal t.0 (omega arith), (high_decimal s.0 (omega arith), (high_bits 21 b, tt)))
high_words (note.Packet t cc kk) h = (high_decimal t.0 (omega arith), (high_hex cc, (high_hex kk, tt)))
high_words (note.Sent t xx) h = (high_decimal t.0 (omega arith), (high_hex xx, tt))
high_words (note.Dropped t xx) h = (high_decimal t.0 (omega arith), (high_hex xx, tt))
high_words (note.Watched t i n s) h =
    (high_decimal t.0 (omega arith), (high_decimal i (omega arith), (high_decimal n (omega arith), (high_decimal s (omega arith), tt))))

letter_high : (n : Note) → 48 ≤ letter n
letter_high (note.Up t r) = omega arith
letter_high (note.Enter t k) = omega arith
letter_high (note.Leave t k) = omega arith
letter_high (note.Gate t hi lo) = omega arith
letter_high (note.Window t m) = omega arith
letter_high (note.Good t v q) = omega arith
letter_high (note.Detected t m) = omega arith
letter_high (note.Nothing t) = omega arith
letter_high (note.Bad t w) = omega arith
letter_high (note.Control t n s d) = omega arith
letter_high (note.Armed t) = omega arith
letter_high (note.Lost t c) = omega arith
letter_high (note.Command t c) = omega arith
letter_high (note.Saved t r) = omega arith
letter_high (note.Step t s) = omega arith
letter_high (note.Cross t) = omega arith
letter_high (note.Period t p) = omega arith
letter_high (note.Reply t s b) = omega arith
letter_high (note.Packet t cc kk) = omega arith
letter_high (note.Sent t xx) = omega arith
letter_high (note.Dropped t xx) = omega arith
letter_high (note.Watched t i n s) = omega arith

-- a note's line without its line feed
abbrev pub note_front : Note → List ℕ
note_front n = letter n ∷ spaced (note_fields n)

pub fields_of_front : (n : Note) → InRange n → fields (note_front n) ≡ (letter n ∷ []) ∷ note_fields n
fields_of_front n h = fields_spaced (letter n ∷ []) (note_fields n) (high_letter (letter n) (letter_high n)) (high_words n h)

pub no_feed_front : (n : Note) → InRange n → NoFeed (note_front n)
no_feed_front n h =
    let high = letter_high n in
    All-cons (λ b. (b == 10) ≡ false) (letter n) (spaced (note_fields n)) (grind (arith, nat_tests)) (no_feed_spaced (note_fields n) (high_words n h))

-- the parts of a note's line
pub fields_of_note : (n : Note) (bytes : List ℕ) → InRange n → note_bytes n ≡ bytes → fields (take (length bytes - 1) bytes) ≡ (letter n ∷ []) ∷ note_fields n
fields_of_note n bytes h e =
    let front : List ℕ = note_front n in
    let len = length-append front (10 ∷ []) in
    let shorter : length (front ++ 10 ∷ []) - 1 ≡ length front = omega arith in
    let cut : take (length bytes - 1) bytes ≡ front =
    ap (λ (l : List ℕ). take (length l - 1) l) (sym e) ∙ ap (λ (k : ℕ). take k (front ++ 10 ∷ [])) shorter ∙ take-append_seam front (10 ∷ []) in
    ap fields cut ∙ fields_of_front n h

-- the time of a note in range
pub time_back : (n : Note) → InRange n → number_between 0 4294967295 (word_at 0 (note_fields n)) ≡ Some (time_of n)
time_back (note.Up t r) h = number_back 0 4294967295 t.0 (omega arith) (omega arith) (omega arith)
time_back (note.Enter t k) h = number_back 0 4294967295 t.0 (omega arith) (omega arith) (omega arith)
time_back (note.Leave t k) h = number_back 0 4294967295 t.0 (omega arith) (omega arith) (omega arith)
time_back (note.Gate t hi lo) h = number_back 0 4294967295 t.0 (omega arith) (omega arith) (omega arith)
time_back (note.Window t m) h = number_back 0 4294967295 t.0 (omega arith) (omega arith) (omega arith)
time_back (note.Good t v q) h = number_back 0 4294967295 t.0 (omega arith) (omega arith) (omega arith)
time_back (note.Detected t m) h = number_back 0 4294967295 t.0 (omega arith) (omega arith) (omega arith)
time_back (note.Nothing t) h = number_back 0 4294967295 t.0 (omega arith) (omega arith) (omega arith)
time_back (note.Bad t w) h = number_back 0 4294967295 t.0 (omega arith) (omega arith) (omega arith)
time_back (note.Control t n s d) h = number_back 0 4294967295 t.0 (omega arith) (omega arith) (omega arith)
time_back (note.Armed t) h = number_back 0 4294967295 t.0 (omega arith) (omega arith) (omega arith)
time_back (note.Lost t c) h = number_back 0 4294967295 t.0 (omega arith) (omega arith) (omega arith)
time_back (note.Command t c) h = number_back 0 4294967295 t.0 (omega arith) (omega arith) (omega arith)
time_back (note.Saved t r) h = number_back 0 4294967295 t.0 (omega arith) (omega arith) (omega arith)
time_back (note.Step t s) h = number_back 0 4294967295 t.0 (omega arith) (omega arith) (omega arith)
time_back (note.Cross t) h = number_back 0 4294967295 t.0 (omega arith) (omega arith) (omega arith)
time_back (note.Period t None) h = number_back 0 4294967295 t.0 (omega arith) (omega arith) (omega arith)
time_back (note.Period t (Some p)) h = number_back 0 4294967295 t.0 (omega arith) (omega arith) (omega arith)
time_back (note.Reply t s b) h = number_back 0 4294967295 t.0 (omega arith) (omega arith) (omega arith)
time_back (note.Packet t cc kk) h = number_back 0 4294967295 t.0 (omega arith) (omega arith) (omega arith)
time_back (note.Sent t xx) h = number_back 0 4294967295 t.0 (omega arith) (omega arith) (omega arith)
time_back (note.Dropped t xx) h = number_back 0 4294967295 t.0 (omega arith) (omega arith) (omega arith)
time_back (note.Watched t i n s) h = number_back 0 4294967295 t.0 (omega arith) (omega arith) (omega arith)

-- the note is the one that its words stand for
pub note_back : (n : Note) → InRange n
    → note_of (letter n) (record { 0 = time_of n }) (word_at 0 (drop 1 (note_fields n)))
    (word_at 0 (drop 1 (drop 1 (note_fields n)))) (word_at 0 (drop 1 (drop 1 (drop 1 (note_fields n))))) ≡ Some n
note_back (note.Up t r) h = rw (h.0, number_back 0 3 r (omega arith) (omega arith) (omega arith)) refl
note_back (note.Enter t k) h = rw (number_back 0 6 k (omega arith) (omega arith) (omega arith)) refl
note_back (note.Leave t k) h = rw (number_back 0 6 k (omega arith) (omega arith) (omega arith)) refl
note_back (note.Gate t hi lo) h =
    rw (number_back 0 7 hi (omega arith) (omega arith) (omega arith), number_back 0 7 lo (omega arith) (omega arith) (omega arith)) refl
note_back (note.Window t m) h = rw (number_back 0 5 m (omega arith) (omega arith) (omega arith)) refl
note_back (note.Good t v q) h =
    rw (number_back 0 2047 v (omega arith) (omega arith) (omega arith), number_back 0 1 q (omega arith) (omega arith) (omega arith)) refl
note_back (note.Detected t m) h = rw (number_back 1 5 m (omega arith) (omega arith) (omega arith)) refl
note_back (note.Nothing t) h = refl
note_back (note.Bad t w) h = rw (number_back 1 5 w (omega arith) (omega arith) (omega arith)) refl
note_back (note.Control t n s d) h =
    rw (
      number_back 0 4294967295 n (omega arith) (omega arith) (omega arith),
      number_back 0 7 s (omega arith) (omega arith) (omega arith),
      number_back 0 1900 d (omega arith) (omega arith) (omega arith),
    ) refl
note_back (note.Armed t) h = refl
note_back (note.Lost t c) h = rw (number_back 0 2 c (omega arith) (omega arith) (omega arith)) refl
note_back (note.Command t c) h = rw (number_back 0 47 c (omega arith) (omega arith) (omega arith)) refl
note_back (note.Saved t r) h = rw (number_back 0 1 r (omega arith) (omega arith) (omega arith)) refl
note_back (note.Step t s) h = rw (number_back 1 6 s (omega arith) (omega arith) (omega arith)) refl
note_back (note.Cross t) h = refl
note_back (note.Period t None) h = refl
note_back (note.Period t (Some p)) h =
    rw (not_none (decimal p) (decimal_is_IsNumeral p (omega arith)).0.1, number_back 0 4294967295 p (omega arith) (omega arith) (omega arith)) refl
note_back (note.Reply t s b) h = rw (number_back 0 4294967295 s.0 (omega arith) (omega arith) (omega arith), bits_back b (omega arith)) refl
note_back (note.Packet t cc kk) h = rw (byte_back cc (omega arith), byte_back kk (omega arith)) refl
note_back (note.Sent t xx) h = rw (byte_back xx (omega arith)) refl
note_back (note.Dropped t xx) h = rw (byte_back xx (omega arith)) refl
note_back (note.Watched t i n s) h =
    rw (
      number_back 0 4294967295 i (omega arith) (omega arith) (omega arith),
      number_back 0 4294967295 n (omega arith) (omega arith) (omega arith),
      number_back 0 1 s (omega arith) (omega arith) (omega arith),
    ) refl

-- whatever the letter, the time and the words were read from
pub read_back : (n : Note) → InRange n → (l t : ℕ) (a b c : List ℕ) → l ≡ letter n → t ≡ time_of n → a ≡ word_at 0 (drop 1 (note_fields n))
    → b ≡ word_at 0 (drop 1 (drop 1 (note_fields n))) → c ≡ word_at 0 (drop 1 (drop 1 (drop 1 (note_fields n))))
    → note_of l (record { 0 = t }) a b c ≡ Some n
read_back n h l t a b c el et ea eb ec =
    ap (λ (x : ℕ). note_of x (record { 0 = t }) a b c) el
    ∙ ap (λ (x : ℕ). note_of (letter n) (record { 0 = x }) a b c) et
    ∙ ap (λ (x : List ℕ). note_of (letter n) (record { 0 = time_of n }) x b c) ea
    ∙ ap (λ (x : List ℕ). note_of (letter n) (record { 0 = time_of n }) (word_at 0 (drop 1 (note_fields n))) x c) eb
    ∙ ap (λ (x : List ℕ). note_of (letter n) (record { 0 = time_of n }) (word_at 0 (drop 1 (note_fields n))) (word_at 0 (drop 1 (drop 1 (note_fields n)))) x) ec
    ∙ note_back n h
