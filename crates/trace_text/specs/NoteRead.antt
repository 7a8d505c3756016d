-- The note that the words of a line stand for. The form of a note's line, with its spaces and line feed, is a matter of
-- `note_bytes` alone.
use Rattle.std.specs.Prelude.{ℕ, unwrap_or, slice_get, Bool, false, ◌&&◌, ◌||◌, ◌==◌, if◌then◌else◌, List, [], ◌∷◌, length, Option, Some, None, option_map, option_and_then}
use Rattle.std.specs.List.{list_all}
use Rattle.std.specs.Str.Parse.{digits_value}
use Rattle.esc_base.specs.declared.tick.Tick.{Tick}
use Rattle.esc_base.specs.declared.note.Note.{Note}
use Rattle.esc_base.specs.declared.note.Note.TheVariants as note
use Rattle.esc_base.specs.Times.{reply_bits}
use Rattle.std.specs.Borrow.{Bor}
use Rattle.trace_text.specs.Line.{fields, number_between, byte_of}

-- the number of as many binary digits as a reply has
abbrev pub bits_of : List ℕ → Option ℕ
bits_of digits = if length digits == reply_bits && list_all (λ c. c == 48 || c == 49) digits then Some (digits_value 2 digits) else None

abbrev pub is_none_word : List ℕ → Bool
is_none_word [] = false
is_none_word (a ∷ []) = false
is_none_word (a ∷ b ∷ []) = false
is_none_word (a ∷ b ∷ c ∷ []) = false
is_none_word (a ∷ b ∷ c ∷ d ∷ []) = ((a == 110 && b == 111) && c == 110) && d == 101
is_none_word (a ∷ b ∷ c ∷ d ∷ e ∷ rest) = false

-- the word `none`, or a number
abbrev pub period_of : List ℕ → Option (Option ℕ)
period_of word = if is_none_word word then Some None else option_map (λ p. Some p) (number_between 0 4294967295 word)

abbrev pub two : (ℕ → ℕ → Note) → Option ℕ → Option ℕ → Option Note
two f a b = option_and_then (λ x. option_map (f x) b) a

abbrev pub three : (ℕ → ℕ → ℕ → Note) → Option ℕ → Option ℕ → Option ℕ → Option Note
three f a b c = option_and_then (λ x. two (f x) b c) a

-- the note of a verdict, from its letter and its numbers
abbrev pub verdict_of : Tick → List ℕ → List ℕ → List ℕ → Option Note
verdict_of t [] b c = None
verdict_of t (l ∷ []) b c =
    if l == 71 then two (λ v q. note.Good t v q) (number_between 0 2047 b) (number_between 0 1 c)
    else (if l == 68 then option_map (λ m. note.Detected t m) (number_between 1 5 b)
    else (if l == 78 then Some (note.Nothing t)
    else (if l == 66 then option_map (λ w. note.Bad t w) (number_between 1 5 b)
    else None)))
verdict_of t (l ∷ m ∷ rest) b c = None

-- the notes of commands, saves, the drive and the serial side
abbrev pub later_note : ℕ → Tick → List ℕ → List ℕ → List ℕ → Option Note
later_note l t a b c =
    if l == 77 then option_map (λ x. note.Command t x) (number_between 0 47 a)
    else (if l == 80 then option_map (λ r. note.Saved t r) (number_between 0 1 a)
    else (if l == 81 then option_map (λ s. note.Step t s) (number_between 1 6 a)
    else (if l == 90 then Some (note.Cross t)
    else (if l == 86 then option_map (λ p. note.Period t p) (period_of a)
    else (if l == 82 then two (λ s x. note.Reply t (record { 0 = s }) x) (number_between 0 4294967295 a) (bits_of b)
    else (if l == 66 then two (λ cc kk. note.Packet t cc kk) (byte_of a) (byte_of b)
    else (if l == 83 then option_map (λ x. note.Sent t x) (byte_of a)
    else (if l == 76 then option_map (λ x. note.Dropped t x) (byte_of a)
    else (if l == 89 then three (λ i n s. note.Watched t i n s) (number_between 0 4294967295 a) (number_between 0 4294967295 b) (number_between 0 1 c)
    else None)))))))))

-- the note of a letter, a time and up to three words; an absent word is empty
abbrev pub note_of : ℕ → Tick → List ℕ → List ℕ → List ℕ → Option Note
note_of l t a b c =
    if l == 85 then (if t.0 == 0 then option_map (λ r. note.Up t r) (number_between 0 3 a) else None)
    else (if l == 73 then option_map (λ k. note.Enter t k) (number_between 0 6 a)
    else (if l == 79 then option_map (λ k. note.Leave t k) (number_between 0 6 a)
    else (if l == 71 then two (λ hi lo. note.Gate t hi lo) (number_between 0 7 a) (number_between 0 7 b)
    else (if l == 87 then option_map (λ m. note.Window t m) (number_between 0 5 a)
    else (if l == 70 then verdict_of t a b c
    else (if l == 75 then three (λ n s d. note.Control t n s d) (number_between 0 4294967295 a) (number_between 0 7 b) (number_between 0 1900 c)
    else (if l == 65 then Some (note.Armed t)
    else (if l == 88 then option_map (λ x. note.Lost t x) (number_between 0 2 a)
    else later_note l t a b c))))))))

-- ---- the words after the letter

-- the words of the rest of a line, if there is one
abbrev pub behind : Option (Bor (List ℕ)) → List (List ℕ)
behind None = []
behind (Some rest) = fields rest.now

-- a word by its place, empty where there is none
abbrev pub word_at : ℕ → List (List ℕ) → List ℕ
word_at k words = unwrap_or (slice_get words k) []
