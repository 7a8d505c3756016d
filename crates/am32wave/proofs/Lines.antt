-- Where a note's line stands in a text, and where none does.
use Rattle.std.proofs.Common.{◌≡◌, ◌≤◌, ◌<◌, ℕ, zero, suc, ◌+◌, ◌/◌, ◌%◌, false, ◌==◌, min, List, [], ◌∷◌, ◌++◌, length, take, drop, get_or, position, Option, Some, None, refl, sym, ◌∙◌, ap, subst, arith, append_assoc, length-append}
use Rattle.std.specs.Io.KnownBytes.{prepend_known, IsAtEnd}
use Rattle.std.proofs.lemmas.List.Elements.{All-head, All-tail, All-cons, All-nil}
use Rattle.std.specs.List.{sum_by}
use Rattle.std.specs.Fmt.{decimal}
use Rattle.std.proofs.lemmas.Fmt.{length-decimal-le}
use Rattle.std.proofs.lemmas.Option.{same_Some}
use Rattle.std.proofs.lemmas.List.Concat.{length-flat_map}
use Rattle.std.proofs.lemmas.List.{take-append-drop, take_more, get_or-take, take_all, length-take}
use Rattle.std.proofs.lemmas.List.Quantifiers.{position-Some}
use Rattle.std.proofs.lemmas.List.Sums.{fails_before_first}
use Rattle.std.proofs.lemmas.Bool.{eqb-true}
use Rattle.esc_base.specs.declared.note.Note.{Note}
use Rattle.esc_base.specs.Range.{InRange}
use Rattle.trace_text.specs.Ahead.{NoLineFeed}
use Rattle.esc_base.specs.declared.note.Note.TheVariants as note
use Rattle.trace_text.specs.Text.{spaced, bits, note_fields, note_bytes}
use Rattle.trace_text.proofs.NoteBack.{NoFeed, note_front, no_feed_front}
use Rattle.trace_text.proofs.OneText.{one_text}
use Rattle.trace_text.proofs.Bits.{no_bits, bits_suc}
use Rattle.trace_text.proofs.Fields.{no_place}
use Rattle.trace_text.proofs.Cut.{no_feed_before}
use Rattle.trace_text.proofs.Taking.{prepend_both}
use Rattle.am32wave.specs.Reading.{IsEnded, NoteAhead, IsNoNote, IsCutOff, OnlyPart}

-- ---- line feeds

by_recursion : (bytes : List ℕ) → NoFeed bytes → NoLineFeed bytes
by_recursion [] h = tt
by_recursion (b ∷ bytes) h = (All-head (λ c. (c == 10) ≡ false) b bytes h, by_recursion bytes (All-tail (λ c. (c == 10) ≡ false) b bytes h))

-- bytes without a line feed don't reach as far as a line's end
no_end_within : (xs ys front more : List ℕ) → NoLineFeed xs → length front < length xs → xs ++ ys ≡ front ++ 10 ∷ more → ⊥
no_end_within [] ys front more h lt e = absurd (omega arith)
no_end_within (x ∷ xs) ys [] more h lt e = let at : x ≡ 10 = cc in let no = h.0 in grind arith
no_end_within (x ∷ xs) ys (f ∷ front) more h lt e = let rest : xs ++ ys ≡ front ++ 10 ∷ more = cc in no_end_within xs ys front more h.1 (omega arith) rest

-- the first line feed cuts a text in one way
same_front : (front other rest more : List ℕ) → NoLineFeed front → NoLineFeed other → front ++ 10 ∷ rest ≡ other ++ 10 ∷ more → (front ≡ other) × (rest ≡ more)
same_front [] [] rest more h k e = let tails : rest ≡ more = cc in (refl, tails)
same_front [] (o ∷ other) rest more h k e = let at : o ≡ 10 = cc in let no = k.0 in absurd (grind arith)
same_front (f ∷ front) [] rest more h k e = let at : f ≡ 10 = cc in let no = h.0 in absurd (grind arith)
same_front (f ∷ front) (o ∷ other) rest more h k e =
    let heads : f ≡ o = cc in
    let tails : front ++ 10 ∷ rest ≡ other ++ 10 ∷ more = cc in
    let s = same_front front other rest more h.1 k.1 tails in
    let is : f ∷ front ≡ o ∷ other = let s0 = s.0 in cc in
    (is, s.1)

-- ---- a note's line

front_feedless : (n : Note) → InRange n → NoLineFeed (note_front n)
front_feedless n h = by_recursion (note_front n) (no_feed_front n h)

line_then : (n : Note) (more : List ℕ) → note_bytes n ++ more ≡ note_front n ++ 10 ∷ more
line_then n more = append_assoc (note_front n) (10 ∷ []) more

-- one line is that of one note
pub one_note : (n m : Note) → InRange n → InRange m → note_bytes n ≡ note_bytes m → n ≡ m
one_note n m h k e =
    let same = one_text (n ∷ []) (m ∷ []) (All-cons InRange n [] h (All-nil InRange)) (All-cons InRange m [] k (All-nil InRange))
    (ap (λ (b : List ℕ). b ++ []) e) in
    cc

-- texts that begin with lines of notes are alike only where the notes and what stands behind them are
pub same_line : (n m : Note) (rest more : List ℕ) → InRange n → InRange m → note_bytes n ++ rest ≡ note_bytes m ++ more → (n ≡ m) × (rest ≡ more)
same_line n m rest more h k e =
    let s = same_front (note_front n) (note_front m) rest more (front_feedless n h) (front_feedless m k) (sym (line_then n rest) ∙ e ∙ line_then m more) in
    (one_note n m h k (ap (λ (f : List ℕ). f ++ 10 ∷ []) s.0), s.1)

-- ---- how long a note's line is

length-bits : (k b : ℕ) → length (bits k b) ≡ k
length-bits zero b = ap length (no_bits b)
length-bits (suc k) b = ap length (bits_suc k b) ∙ length-append (bits k (b / 2)) ((48 + b % 2) ∷ []) ∙ (let e = length-bits k (b / 2) in omega arith)

length-spaced : (words : List (List ℕ)) → length (spaced words) ≡ sum_by (λ w. length (32 ∷ w)) words
length-spaced words = length-flat_map (λ w. 32 ∷ w) words

small : (n : ℕ) → n < 4294967296 → length (decimal n) ≤ 10
small n lt = length-decimal-le 10 n (omega arith) (omega arith) (omega arith)

front_short : (n : Note) → InRange n → length (note_front n) ≤ 45
front_short (note.Up t r) h =
    let e = length-spaced (note_fields (note.Up t r)) in let a = small t.0 (omega arith) in let b = small r (omega arith) in omega arith
front_short (note.Enter t k) h = let e = length-spaced (note_fields (note.Enter t k)) in let a = small t.0 h.0 in let b = small k (omega arith) in omega arith
front_short (note.Leave t k) h = let e = length-spaced (note_fields (note.Leave t k)) in let a = small t.0 h.0 in let b = small k (omega arith) in omega arith
front_short (note.Gate t hi lo) h =
    let e = length-spaced (note_fields (note.Gate t hi lo)) in
    let a = small t.0 h.0 in let b = small hi (omega arith) in let d = small lo (omega arith) in omega arith
front_short (note.Window t m) h = let e = length-spaced (note_fields (note.Window t m)) in let a = small t.0 h.0 in let b = small m (omega arith) in omega arith
front_short (note.Good t v q) h =
    let e = length-spaced (note_fields (note.Good t v q)) in
    let a = small t.0 h.0 in let b = small v (omega arith) in let d = small q (omega arith) in omega arith
front_short (note.Detected t m) h =
    let e = length-spaced (note_fields (note.Detected t m)) in let a = small t.0 h.0 in let b = small m (omega arith) in omega arith
front_short (note.Nothing t) h = let e = length-spaced (note_fields (note.Nothing t)) in let a = small t.0 h in omega arith
front_short (note.Bad t w) h = let e = length-spaced (note_fields (note.Bad t w)) in let a = small t.0 h.0 in let b = small w (omega arith) in omega arith
front_short (note.Control t n s d) h =
    let e = length-spaced (note_fields (note.Control t n s d)) in
    let a = small t.0 h.0 in let b = small n h.1.0 in let c = small s (omega arith) in let f = small d (omega arith) in omega arith
front_short (note.Armed t) h = let e = length-spaced (note_fields (note.Armed t)) in let a = small t.0 h in omega arith
front_short (note.Lost t c) h = let e = length-spaced (note_fields (note.Lost t c)) in let a = small t.0 h.0 in let b = small c (omega arith) in omega arith
front_short (note.Command t c) h =
    let e = length-spaced (note_fields (note.Command t c)) in let a = small t.0 h.0 in let b = small c (omega arith) in omega arith
front_short (note.Saved t r) h = let e = length-spaced (note_fields (note.Saved t r)) in let a = small t.0 h.0 in let b = small r (omega arith) in omega arith
front_short (note.Step t s) h = let e = length-spaced (note_fields (note.Step t s)) in let a = small t.0 h.0 in let b = small s (omega arith) in omega arith
front_short (note.Cross t) h = let e = length-spaced (note_fields (note.Cross t)) in let a = small t.0 h in omega arith
front_short (note.Period t None) h = let e = length-spaced (note_fields (note.Period t None)) in let a = small t.0 h.0 in omega arith
front_short (note.Period t (Some p)) h =
    let e = length-spaced (note_fields (note.Period t (Some p))) in let a = small t.0 h.0 in let b = small p h.1 in omega arith
front_short (note.Reply t s b) h =
    let e = length-spaced (note_fields (note.Reply t s b)) in
    let a = small t.0 h.0 in let d = small s.0 h.1.0 in let f = length-bits 21 b in omega arith
front_short (note.Packet t cc kk) h = let e = length-spaced (note_fields (note.Packet t cc kk)) in let a = small t.0 h.0 in omega arith
front_short (note.Sent t xx) h = let e = length-spaced (note_fields (note.Sent t xx)) in let a = small t.0 h.0 in omega arith
front_short (note.Dropped t xx) h = let e = length-spaced (note_fields (note.Dropped t xx)) in let a = small t.0 h.0 in omega arith
front_short (note.Watched t i n s) h =
    let e = length-spaced (note_fields (note.Watched t i n s)) in
    let a = small t.0 h.0 in let b = small i h.1.0 in let d = small n h.1.1.0 in let f = small s (omega arith) in omega arith

-- ---- the next line of what is held

-- a line feed among the first 46 bytes ends a line
pub found : (held : List ℕ) (n : ℕ) → position (λ b. b == 10) (take 46 held) ≡ Some n → IsEnded n held
found held n e =
    let at = position-Some (λ b. b == 10) (take 46 held) n 0 e in
    let len : length (take 46 held) ≡ min 46 (length held) = length-take 46 held in
    let feed : get_or held n 0 ≡ 10 = sym (get_or-take 46 held n 0 (omega arith)) ∙ eqb-true (get_or (take 46 held) n 0) 10 at.1 in
    record {
      short = omega arith;
      within = omega arith;
      ends = take_more held n 0 (omega arith) ∙ ap (λ (b : ℕ). take n held ++ b ∷ []) feed;
      one = no_feed_before held n (omega arith) (λ k below. ap (λ (b : ℕ). b == 10) (sym (get_or-take 46 held k 0 (omega arith))) ∙ at.2 k below);
    }

pub none_found : (held : List ℕ) → position (λ b. b == 10) (take 46 held) ≡ None → NoLineFeed (take 46 held)
none_found held e =
    let end = no_place (λ b. b == 10) (take 46 held) e in
    subst (λ (bytes : List ℕ). NoLineFeed bytes) (take_all (length (take 46 held)) (take 46 held) (omega arith))
    (no_feed_before (take 46 held) (length (take 46 held)) (omega arith) (λ k below. fails_before_first (λ b. b == 10) (take 46 held) k 0 (omega arith)))

whole_short : (held : List ℕ) → NoLineFeed (take 46 held) → length held ≤ 45 → NoLineFeed held
whole_short held h le = subst (λ (bytes : List ℕ). NoLineFeed bytes) (take_all 46 held (omega arith)) h

cut_ahead : (held rest : List ℕ) (n : ℕ) → IsEnded n held → held ++ rest ≡ take n held ++ 10 ∷ (drop (n + 1) held ++ rest)
cut_ahead held rest n h =
    ap (λ (bytes : List ℕ). bytes ++ rest) (sym (take-append-drop (n + 1) held) ∙ ap (λ (front : List ℕ). front ++ drop (n + 1) held) h.ends)
    ∙ append_assoc (take n held ++ 10 ∷ []) (drop (n + 1) held) rest
    ∙ append_assoc (take n held) (10 ∷ []) (drop (n + 1) held ++ rest)

-- a note whose line stands first has the line that is held
line_held : (held rest more : List ℕ) (n : ℕ) (m : Note) → IsEnded n held → InRange m → held ++ rest ≡ note_bytes m ++ more → note_bytes m ≡ take (n + 1) held
line_held held rest more n m h k e =
    let s = same_front (take n held) (note_front m) (drop (n + 1) held ++ rest) more h.one (front_feedless m k)
    (sym (cut_ahead held rest n h) ∙ e ∙ line_then m more) in
    ap (λ (front : List ℕ). front ++ 10 ∷ []) (sym s.0) ∙ sym h.ends

nothing_held : (held rest : List ℕ) → 0 < length held → held ++ rest ≡ [] → ⊥
nothing_held [] rest lt e = absurd (omega arith)
nothing_held (b ∷ held) rest lt e = absurd (cc)

pub no_note : (held : List ℕ) (n : ℕ) (left : Option (List ℕ)) → IsEnded n held → ((m : Note) → InRange m → note_bytes m ≡ take (n + 1) held → None ≡ Some m)
    → IsNoNote (prepend_known held left)
no_note held n None h every = record { some = λ e. absurd (cc); none = λ m more k e. absurd (cc) }
no_note held n (Some rest) h every = record {
  some = λ e. let w = h.within in nothing_held held rest (omega arith) (same_Some _ _ e);
  none = λ m more k e. let no = every m k (line_held held rest more n m h k (same_Some _ _ e)) in absurd (cc);
}

pub too_long : (held : List ℕ) (left : Option (List ℕ)) → NoLineFeed (take 46 held) → 45 < length held → IsNoNote (prepend_known held left)
too_long held None h lt = record { some = λ e. absurd (cc); none = λ m more k e. absurd (cc) }
too_long held (Some rest) h lt = record {
  some = λ e. nothing_held held rest (omega arith) (same_Some _ _ e);
  none = λ m more k e.
      let short = front_short m k in
      let len = length-take 46 held in
      no_end_within (take 46 held) (drop 46 held ++ rest) (note_front m) more h (omega arith)
      (sym (append_assoc (take 46 held) (drop 46 held) rest) ∙ ap (λ (bytes : List ℕ). bytes ++ rest) (take-append-drop 46 held)
      ∙ same_Some _ _ e ∙ line_then m more);
}

-- a note's line was read, and what is held then stands behind it
pub passed : (held after : List ℕ) (n : ℕ) (m : Note) (left : Option (List ℕ)) → InRange m → note_bytes m ≡ take (n + 1) held → after ≡ drop (n + 1) held
    → NoteAhead m (prepend_known held left) (prepend_known after left)
passed held after n m left k is rest = record {
  in_range = k;
  is_front =
      ap (λ (bytes : List ℕ). prepend_known bytes left) (sym (take-append-drop (n + 1) held))
      ∙ sym (prepend_both (take (n + 1) held) (drop (n + 1) held) left)
      ∙ ap (λ (line : List ℕ). prepend_known line (prepend_known (drop (n + 1) held) left)) (sym is)
      ∙ ap (λ (bytes : List ℕ). prepend_known (note_bytes m) (prepend_known bytes left)) (sym rest);
}

pub cut_off : (held : List ℕ) (left text : Option (List ℕ)) → text ≡ prepend_known held left → NoLineFeed (take 46 held) → 0 < length held → length held ≤ 45
    → IsAtEnd left → IsCutOff text
cut_off held left text e h some le end = record {
  bytes = held;
  behind = left;
  is_front = e;
  some = λ none. let l = ap length none in absurd (omega arith);
  no_line = whole_short held h le;
  ended = end;
}

empty : (held : List ℕ) → length held ≡ 0 → held ≡ []
empty [] e = refl
empty (b ∷ held) e = absurd (omega arith)

at_end : (left text : Option (List ℕ)) → text ≡ prepend_known [] left → IsAtEnd left → IsAtEnd text
at_end None text e h = rw e tt
at_end (Some rest) text e h = rw (e, h) refl

pub ended : (held : List ℕ) (left text : Option (List ℕ)) → text ≡ prepend_known held left → length held ≡ 0 → IsAtEnd left → IsAtEnd text
ended held left text e none end = at_end left text (e ∙ ap (λ (bytes : List ℕ). prepend_known bytes left) (empty held none)) end

pub part_only : (held : List ℕ) (left text : Option (List ℕ)) → text ≡ prepend_known held left → NoLineFeed (take 46 held) → length held ≤ 45
    → OnlyPart text left
part_only held left text e h le = record { bytes = held; is_front = e; no_line = whole_short held h le }

-- bytes without a line feed, with nothing behind them, hold no note's line
pub no_line_within : (m : Note) (more bytes : List ℕ) (behind : Option (List ℕ)) → InRange m → NoLineFeed bytes → IsAtEnd behind
    → Some (note_bytes m ++ more) ≡ prepend_known bytes behind → ⊥
no_line_within m more bytes None h feedless end e = absurd (cc)
no_line_within m more bytes (Some rest) h feedless end e =
    let text : note_front m ++ 10 ∷ more ≡ bytes ++ rest = sym (line_then m more) ∙ same_Some _ _ e in
    let len : length (note_front m ++ 10 ∷ more) ≡ length (bytes ++ rest) = ap length text in
    let left = length-append (note_front m) (10 ∷ more) in
    let right = length-append bytes rest in
    let none = ap length end in
    no_end_within bytes rest (note_front m) more feedless (omega arith) (sym text)
