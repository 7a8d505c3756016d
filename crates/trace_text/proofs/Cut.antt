-- The first line of a text, and the rest.
use Rattle.std.proofs.Common.{◌≡◌, ◌≤◌, ◌<◌, ℕ, suc, zero, ◌+◌, Bool, true, false, ◌==◌, nat_lt, nat_le, if◌then◌else◌, List, [], ◌∷◌, ◌++◌, length, take, get_or, length-append, refl, sym, ◌∙◌, ap, arith, append-nil}
use Rattle.std.proofs.lemmas.Bool.{lt-ltb, le-ltb, lt-leb, le-leb}
use Rattle.trace_text.specs.declared.item.Place.{Place}
use Rattle.trace_text.specs.declared.item.Refusal.TheVariants.{TooLong, NoEnd, TooMany}
use Rattle.trace_text.specs.Line.{said, after_event}
use Rattle.trace_text.specs.Ahead.{NoLineFeed}
use Rattle.trace_text.specs.Read.{Cut, onto_lines, onto, ended, cut, unended, is_all, Refused, read_line, read_lines, read_from}

onto-nil : (lines : List (List ℕ)) (rest : List ℕ) → onto_lines [] lines rest ≡ record { lines = lines; rest = rest }
onto-nil [] rest = refl
onto-nil (l ∷ lines) rest = refl

onto-onto : (b : ℕ) (front : List ℕ) (lines : List (List ℕ)) (rest : List ℕ) → onto (b ∷ []) (onto_lines front lines rest) ≡ onto_lines (b ∷ front) lines rest
onto-onto b front [] rest = refl
onto-onto b front (l ∷ lines) rest = refl

cut-front : (front rest : List ℕ) → NoLineFeed front → cut (front ++ rest) ≡ onto front (cut rest)
unfolding cut
cut-front [] rest h = sym (onto-nil (cut rest).lines (cut rest).rest)
cut-front (b ∷ front) rest h = rw (h.0, cut-front front rest h.1) (onto-onto b front (cut rest).lines (cut rest).rest)

cut-lf : (rest : List ℕ) → cut (10 ∷ rest) ≡ ended (cut rest)
unfolding cut
cut-lf rest = refl

cut-nil : cut [] ≡ record { lines = []; rest = [] }
unfolding cut
cut-nil = refl

cut-alone : (part : List ℕ) → NoLineFeed part → cut part ≡ record { lines = []; rest = part }
cut-alone part h =
    ap cut (sym (append-nil part)) ∙ cut-front part [] h ∙ ap (onto part) cut-nil ∙ ap (λ (r : List ℕ). record { lines = []; rest = r }) (append-nil part)

few : (p : Place) → p.line < 16777216 → nat_le 16777216 p.line ≡ false
few p lt = lt-leb 16777216 p.line lt

many : (p : Place) → 16777216 ≤ p.line → nat_le 16777216 p.line ≡ true
many p le = le-leb 16777216 p.line le

short : (n : ℕ) → n ≤ 40 → nat_lt 40 n ≡ false
short n le = le-ltb 40 n le

long : (n : ℕ) → 40 < n → nat_lt 40 n ≡ true
long n lt = lt-ltb 40 n lt

-- a whole line, and what is behind it
pub read_whole : (p : Place) (line text : List ℕ) → NoLineFeed line
    → read_from p (line ++ 10 ∷ text) ≡ read_line p (said p line) (is_all (cut text).lines (cut text).rest) (λ e. read_from (after_event p e) text)
unfolding read_from
read_whole p line text h = rw (cut-front line (10 ∷ text) h, cut-lf text, append-nil line) refl

unended_short : (p : Place) (part : List ℕ) → p.line < 16777216 → length part ≤ 40 → unended p part ≡ NoEnd
unended_short p [] lt le = refl
unended_short p (b ∷ part) lt le = rw (few p lt, short (length (b ∷ part)) le) refl

unended_long : (p : Place) (part : List ℕ) → p.line < 16777216 → 40 < length part → unended p part ≡ TooLong
unended_long p [] lt le = absurd (omega arith)
unended_long p (b ∷ part) lt le = rw (few p lt, long (length (b ∷ part)) le) refl

-- no line feed, and nothing more
pub read_none : (p : Place) (part : List ℕ) → p.line < 16777216 → NoLineFeed part → length part ≤ 40 → read_from p part ≡ Refused [] (p.line + 1) NoEnd
unfolding read_from
read_none p part lt h le = rw (cut-alone part h, unended_short p part lt le) refl

long_at : (p : Place) (front : List ℕ) (lines : List (List ℕ)) (rest : List ℕ) → p.line < 16777216 → 40 < length front
    → read_lines p (onto_lines front lines rest).lines (onto_lines front lines rest).rest ≡ Refused [] (p.line + 1) TooLong
long_at p front [] rest lt le = rw (unended_long p (front ++ rest) lt (let e = length-append front rest in omega arith)) refl
long_at p front (l ∷ lines) rest lt le = rw (few p lt, long (length (front ++ l)) (let e = length-append front l in omega arith)) refl

-- a line that is too long
pub read_long : (p : Place) (front rest : List ℕ) → p.line < 16777216 → NoLineFeed front → 40 < length front
    → read_from p (front ++ rest) ≡ Refused [] (p.line + 1) TooLong
unfolding read_from
read_long p front rest lt h le = rw (cut-front front rest h) (long_at p front (cut rest).lines (cut rest).rest lt le)

many_at : (p : Place) (b : ℕ) (v : Bool) (lines : List (List ℕ)) (rest : List ℕ) (c : Cut) → 16777216 ≤ p.line
    → c ≡ (if v then ended (record { lines = lines; rest = rest }) else onto_lines (b ∷ []) lines rest)
    → read_lines p c.lines c.rest ≡ Refused [] (p.line + 1) TooMany
many_at p b true lines rest c le e = rw (e, many p le) refl
many_at p b false [] rest c le e = rw (e, many p le) refl
many_at p b false (l ∷ lines) rest c le e = rw (e, many p le) refl

-- a byte of one line too many
pub read_many : (p : Place) (b : ℕ) (bytes : List ℕ) → 16777216 ≤ p.line → read_from p (b ∷ bytes) ≡ Refused [] (p.line + 1) TooMany
unfolding read_from cut
read_many p b bytes le = many_at p b (b == 10) (cut bytes).lines (cut bytes).rest (cut (b ∷ bytes)) le refl

-- nothing is left, whatever the place
pub read_nothing : (p : Place) → read_from p [] ≡ Refused [] (p.line + 1) NoEnd
unfolding read_from
read_nothing p = rw cut-nil refl

pub all_read : is_all (cut []).lines (cut []).rest ≡ true
all_read = rw cut-nil refl

more_at : (b : ℕ) (v : Bool) (c : Cut) (lines : List (List ℕ)) (rest : List ℕ)
    → c ≡ (if v then ended (record { lines = lines; rest = rest }) else onto_lines (b ∷ []) lines rest)
    → is_all c.lines c.rest ≡ false
more_at b true c lines rest e = rw e refl
more_at b false c [] rest e = rw e refl
more_at b false c (l ∷ lines) rest e = rw e refl

pub more_left : (b : ℕ) (bytes : List ℕ) → is_all (cut (b ∷ bytes)).lines (cut (b ∷ bytes)).rest ≡ false
unfolding cut
more_left b bytes = more_at b (b == 10) (cut (b ∷ bytes)) (cut bytes).lines (cut bytes).rest refl

-- ---- where the first line feed stands
pub no_feed_before : (xs : List ℕ) (n : ℕ) → n ≤ length xs → ((k : ℕ) → k < n → (get_or xs k 0 == 10) ≡ false) → NoLineFeed (take n xs)
no_feed_before [] zero le h = tt
no_feed_before [] (suc n) le h = absurd (omega arith)
no_feed_before (x ∷ xs) zero le h = tt
no_feed_before (x ∷ xs) (suc n) le h = (h 0 (omega arith), no_feed_before xs n (omega arith) (λ k lt. h (suc k) (omega arith)))
