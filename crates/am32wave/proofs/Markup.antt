-- No byte of a page's data is markup.
use Rattle.std.proofs.Common.{◌≡◌, ◌<◌, ℕ, zero, suc, ◌+◌, ◌/◌, ◌%◌, ◌^◌, Bool, true, false, ◌==◌, if◌then◌else◌, ltb, List, [], ◌∷◌, ◌++◌, All, codes, decimal, Some, None, refl, sym, subst, arith}
use Rattle.std.specs.Fmt.{digit_glyph}
use Rattle.std.specs.Str.Parse.{AllDigits}
use Rattle.std.proofs.lemmas.Bool.Decides.{nat_tests}
use Rattle.std.proofs.lemmas.Fmt.{decimal_is_IsNumeral}
use Rattle.std.proofs.lemmas.List.Elements.{All-nil, All-cons, All-append, All-push, All-head, All-tail}
use Rattle.std.proofs.lemmas.Str.Parse.{digit_from_value}
use Rattle.esc_base.specs.declared.event.Event.{Event}
use Rattle.esc_base.specs.declared.event.Event.TheVariants as event
use Rattle.esc_base.specs.declared.note.Note.{Note}
use Rattle.esc_base.specs.declared.note.Note.TheVariants as note
use Rattle.esc_base.specs.Range.{InRange}
use Rattle.esc_base.specs.Trace.{tick_of}
use Rattle.trace_text.specs.Text.{spaced, hex, bits, letter, note_fields, event_fields, IsHeldByTrace}
use Rattle.trace_text.proofs.Bits.{no_bits, bits_suc}
use Rattle.am32wave.specs.declared.moment.Moment.{Moment}
use Rattle.am32wave.specs.declared.moment.Moment.TheVariants as moment
use Rattle.am32wave.specs.declared.scene.Scene.{Scene}
use Rattle.am32wave.specs.declared.view.Stretch.{Stretch}
use Rattle.am32wave.specs.declared.view.View.TheVariants as view
use Rattle.am32wave.specs.declared.wire.Wire.{Wire}
use Rattle.am32wave.specs.Drawn.{changes, all_changes, part, parts, late_opening}
use Rattle.am32wave.specs.Laws.{NoMarkup, MayStand, page_plan, page_data}
use Rattle.am32wave.specs.Moments.{time, newest_time}
use Rattle.am32wave.specs.Page.{page_id, stretch_line, moment_line}
use Rattle.am32wave.specs.Pieces.{change}
use Rattle.am32wave.specs.Scene.{scene}
use Rattle.am32wave.specs.Shown.{moments_of}
use Rattle.am32wave.specs.Stretch.{is_within, enters}
use Rattle.am32wave.specs.Wires.{wires_of, width, value}

none : NoMarkup []
none = All-nil (λ b. (b == 60) ≡ false)

first : (b : ℕ) (bytes : List ℕ) → (b == 60) ≡ false → NoMarkup bytes → NoMarkup (b ∷ bytes)
first b bytes h k = All-cons (λ x. (x == 60) ≡ false) b bytes h k

both : (a b : List ℕ) → NoMarkup a → NoMarkup b → NoMarkup (a ++ b)
both a b h k = All-append (λ x. (x == 60) ≡ false) a b h k

-- ---- numbers

plain_digits : (ds : List ℕ) → AllDigits 10 ds → NoMarkup ds
plain_digits [] h = none
plain_digits (c ∷ ds) h = first c ds (let range = digit_from_value c h.0 in grind (arith, nat_tests)) (plain_digits ds h.1)

plain_decimal : (n : ℕ) → n < 2 ^ 64 → NoMarkup (decimal n)
plain_decimal n small = plain_digits (decimal n) (decimal_is_IsNumeral n small).0.1

plain_glyph : (d : ℕ) → (digit_glyph false d == 60) ≡ false
plain_glyph d = grind (arith, nat_tests)

plain_one : (l : ℕ) → (l == 60) ≡ false → NoMarkup (l ∷ [])
plain_one l h = first l [] h none

plain_hex : (b : ℕ) → NoMarkup (hex b)
plain_hex b = first (digit_glyph false (b / 16)) (digit_glyph false (b % 16) ∷ []) (plain_glyph (b / 16)) (plain_one (digit_glyph false (b % 16)) (plain_glyph (b % 16)))

plain_bits : (k b : ℕ) → NoMarkup (bits k b)
plain_bits zero b = subst NoMarkup (sym (no_bits b)) none
plain_bits (suc k) b =
    subst NoMarkup (sym (bits_suc k b))
    (All-push (λ x. (x == 60) ≡ false) (bits k (b / 2)) (48 + b % 2) (plain_bits k (b / 2)) (grind (arith, nat_tests)))

plain_none : NoMarkup (110 ∷ 111 ∷ 110 ∷ 101 ∷ [])
plain_none = first 110 (111 ∷ 110 ∷ 101 ∷ []) refl (first 111 (110 ∷ 101 ∷ []) refl (first 110 (101 ∷ []) refl (plain_one 101 refl)))

-- ---- lines

abbrev AllPlain : List (List ℕ) → Type 0
AllPlain [] = Unit {0}
AllPlain (word ∷ words) = NoMarkup word × AllPlain words

plain_spaced : (words : List (List ℕ)) → AllPlain words → NoMarkup (spaced words)
plain_spaced [] h = none
plain_spaced (word ∷ words) h = first 32 (word ++ spaced words) refl (both word (spaced words) h.0 (plain_spaced words h.1))

plain_line : (start : List ℕ) (words : List (List ℕ)) → NoMarkup start → AllPlain words → NoMarkup (start ++ (spaced words ++ 10 ∷ []))
plain_line start words h k = both start (spaced words ++ 10 ∷ []) h (both (spaced words) (10 ∷ []) (plain_spaced words k) (plain_one 10 refl))

plain_words : (n : Note) → InRange n → AllPlain (note_fields n)
plain_words (note.Up t r) h = (plain_decimal t.0 (omega arith), (plain_decimal r (omega arith), tt))
plain_words (note.Enter t k) h = (plain_decimal t.0 (omega arith), (plain_decimal k (omega arith), tt))
plain_words (note.Leave t k) h = (plain_decimal t.0 (omega arith), (plain_decimal k (omega arith), tt))
plain_words (note.Gate t hi lo) h = (plain_decimal t.0 (omega arith), (plain_decimal hi (omega arith), (plain_decimal lo (omega arith), tt)))
plain_words (note.Window t m) h = (plain_decimal t.0 (omega arith), (plain_decimal m (omega arith), tt))
plain_words (note.Good t v q) h =
    (plain_decimal t.0 (omega arith), (plain_one 71 refl, (plain_decimal v (omega arith), (plain_decimal q (omega arith), tt))))
plain_words (note.Detected t m) h = (plain_decimal t.0 (omega arith), (plain_one 68 refl, (plain_decimal m (omega arith), tt)))
plain_words (note.Nothing t) h = (plain_decimal t.0 (omega arith), (plain_one 78 refl, tt))
plain_words (note.Bad t w) h = (plain_decimal t.0 (omega arith), (plain_one 66 refl, (plain_decimal w (omega arith), tt)))
plain_words (note.Control t n s d) h =
    (plain_decimal t.0 (omega arith), (plain_decimal n (omega arith), (plain_decimal s (omega arith), (plain_decimal d (omega arith), tt))))
plain_words (note.Armed t) h = (plain_decimal t.0 (omega arith), tt)
plain_words (note.Lost t c) h = (plain_decimal t.0 (omega arith), (plain_decimal c (omega arith), tt))
plain_words (note.Command t c) h = (plain_decimal t.0 (omega arith), (plain_decimal c (omega arith), tt))
plain_words (note.Saved t r) h = (plain_decimal t.0 (omega arith), (plain_decimal r (omega arith), tt))
plain_words (note.Step t s) h = (plain_decimal t.0 (omega arith), (plain_decimal s (omega arith), tt))
plain_words (note.Cross t) h = (plain_decimal t.0 (omega arith), tt)
plain_words (note.Period t None) h = (plain_decimal t.0 (omega arith), (plain_none, tt))
plain_words (note.Period t (Some p)) h = (plain_decimal t.0 (omega arith), (plain_decimal p (omega arith), tt))
plain_words (note.Reply t s b) h = (plain_decimal t.0 (omega arith), (plain_decimal s.0 (omega arith), (plain_bits 21 b, tt)))
plain_words (note.Packet t command answer) h = (plain_decimal t.0 (omega arith), (plain_hex command, (plain_hex answer, tt)))
plain_words (note.Sent t xx) h = (plain_decimal t.0 (omega arith), (plain_hex xx, tt))
plain_words (note.Dropped t xx) h = (plain_decimal t.0 (omega arith), (plain_hex xx, tt))
plain_words (note.Watched t i n s) h =
    (plain_decimal t.0 (omega arith), (plain_decimal i (omega arith), (plain_decimal n (omega arith), (plain_decimal s (omega arith), tt))))

plain_letter : (n : Note) → (letter n == 60) ≡ false
plain_letter (note.Up t r) = refl
plain_letter (note.Enter t k) = refl
plain_letter (note.Leave t k) = refl
plain_letter (note.Gate t hi lo) = refl
plain_letter (note.Window t m) = refl
plain_letter (note.Good t v q) = refl
plain_letter (note.Detected t m) = refl
plain_letter (note.Nothing t) = refl
plain_letter (note.Bad t w) = refl
plain_letter (note.Control t n s d) = refl
plain_letter (note.Armed t) = refl
plain_letter (note.Lost t c) = refl
plain_letter (note.Command t c) = refl
plain_letter (note.Saved t r) = refl
plain_letter (note.Step t s) = refl
plain_letter (note.Cross t) = refl
plain_letter (note.Period t p) = refl
plain_letter (note.Reply t s b) = refl
plain_letter (note.Packet t cc kk) = refl
plain_letter (note.Sent t xx) = refl
plain_letter (note.Dropped t xx) = refl
plain_letter (note.Watched t i n s) = refl

plain_event : (e : Event) → IsHeldByTrace e → AllPlain (event_fields e)
plain_event (event.Edge t false) h = (plain_one 69 refl, (plain_decimal 0 (omega arith), tt))
plain_event (event.Edge t true) h = (plain_one 69 refl, (plain_decimal 1 (omega arith), tt))
plain_event (event.Comp t false) h = (plain_one 67 refl, (plain_decimal 0 (omega arith), tt))
plain_event (event.Comp t true) h = (plain_one 67 refl, (plain_decimal 1 (omega arith), tt))
plain_event (event.Serial t byte) h = (plain_one 83 refl, (plain_hex byte, tt))
plain_event (event.Stall t n) h = (plain_one 74 refl, (plain_decimal n (let most = h.1 in omega arith), tt))

plain_moment : (m : Moment) → MayStand m → NoMarkup (moment_line m)
plain_moment (moment.Note n) h = plain_line (letter n ∷ []) (note_fields n) (plain_one (letter n) (plain_letter n)) (plain_words n h)
plain_moment (moment.Event e) h = plain_line (decimal (tick_of e)) (event_fields e) (plain_decimal (tick_of e) (let most = h.0 in omega arith)) (plain_event e h)

-- ---- changes

plain_id : (i : ℕ) → (page_id + i == 60) ≡ false
plain_id i = grind (arith, nat_tests)

plain_change : (i w v : ℕ) → NoMarkup (change (page_id + i) w v)
plain_change i w v = by_width (w == 1) where
  by_width : (one : Bool) → NoMarkup (if one then bits 1 v ++ (page_id + i) ∷ 10 ∷ [] else 98 ∷ bits w v ++ 32 ∷ (page_id + i) ∷ 10 ∷ [])
  by_width true = both (bits 1 v) ((page_id + i) ∷ 10 ∷ []) (plain_bits 1 v) (first (page_id + i) (10 ∷ []) (plain_id i) (plain_one 10 refl))
  by_width false =
      first 98 (bits w v ++ 32 ∷ (page_id + i) ∷ 10 ∷ []) refl
      (both (bits w v) (32 ∷ (page_id + i) ∷ 10 ∷ []) (plain_bits w v)
      (first 32 ((page_id + i) ∷ 10 ∷ []) refl (first (page_id + i) (10 ∷ []) (plain_id i) (plain_one 10 refl))))

plain_if : (b : Bool) (bytes : List ℕ) → NoMarkup bytes → NoMarkup (if b then bytes else [])
plain_if true bytes h = h
plain_if false bytes h = none

plain_unless : (b : Bool) (bytes : List ℕ) → NoMarkup bytes → NoMarkup (if b then [] else bytes)
plain_unless true bytes h = none
plain_unless false bytes h = h

plain_changes : (s : Stretch) (t i : ℕ) (p q : Scene) (ws : List Wire) → NoMarkup (changes view.Page s t i p q ws)
unfolding changes
plain_changes s t i p q [] = none
plain_changes s t i p q (w ∷ ws) =
    both (if value w q == value w p then [] else change (page_id + i) (width w) (value w q)) (changes view.Page s t (i + 1) p q ws)
    (plain_unless (value w q == value w p) (change (page_id + i) (width w) (value w q)) (plain_change i (width w) (value w q)))
    (plain_changes s t (i + 1) p q ws)

-- ---- the data

plain_part : (s : Stretch) (traced : Bool) (before : List Moment) (m : Moment) → MayStand m → NoMarkup (part (page_plan s traced) before m)
plain_part s traced before m h =
    both (if enters s (newest_time 0 before) (time m) then all_changes (page_plan s traced) s.from (scene []) (scene before) else [])
    (if is_within s (time m) then moment_line m ++ all_changes (page_plan s traced) (time m) (scene before) (scene (before ++ m ∷ [])) else [])
    (plain_if (enters s (newest_time 0 before) (time m)) (all_changes (page_plan s traced) s.from (scene []) (scene before))
    (plain_changes s s.from 0 (scene []) (scene before) (wires_of traced)))
    (plain_if (is_within s (time m)) (moment_line m ++ all_changes (page_plan s traced) (time m) (scene before) (scene (before ++ m ∷ [])))
    (both (moment_line m) (all_changes (page_plan s traced) (time m) (scene before) (scene (before ++ m ∷ []))) (plain_moment m h)
    (plain_changes s (time m) 0 (scene before) (scene (before ++ m ∷ [])) (wires_of traced))))

plain_parts : (s : Stretch) (traced : Bool) (before moments : List Moment) → All MayStand moments → NoMarkup (parts (page_plan s traced) before moments)
plain_parts s traced before [] h = none
plain_parts s traced before (m ∷ moments) h =
    both (part (page_plan s traced) before m) (parts (page_plan s traced) (before ++ m ∷ []) moments) (plain_part s traced before m (All-head MayStand m moments h))
    (plain_parts s traced (before ++ m ∷ []) moments (All-tail MayStand m moments h))

plain_stretch : (s : Stretch) → s.from < 4294967296 → s.to < 4294967296 → NoMarkup (stretch_line s)
plain_stretch s h k =
    both ((codes "stretch " ++ decimal s.from) ++ 32 ∷ decimal s.to) (10 ∷ [])
    (both (codes "stretch " ++ decimal s.from) (32 ∷ decimal s.to)
    (both (codes "stretch ") (decimal s.from) plain_name (plain_decimal s.from (omega arith)))
    (first 32 (decimal s.to) refl (plain_decimal s.to (omega arith))))
    (plain_one 10 refl) where
      plain_name : NoMarkup (codes "stretch ")
      plain_name =
          first 115 (codes "tretch ") refl (first 116 (codes "retch ") refl (first 114 (codes "etch ") refl (first 101 (codes "tch ") refl
          (first 116 (codes "ch ") refl (first 99 (codes "h ") refl (first 104 (codes " ") refl (plain_one 32 refl)))))))

plain_late : (s : Stretch) (traced : Bool) (moments : List Moment) → NoMarkup (late_opening (page_plan s traced) moments)
plain_late s traced moments =
    plain_if (ltb (newest_time 0 moments) s.from) (all_changes (page_plan s traced) s.from (scene []) (scene moments))
    (plain_changes s s.from 0 (scene []) (scene moments) (wires_of traced))

pub no_markup : (s : Stretch) (traced : Bool) (moments : List Moment) → s.from < 4294967296 → s.to < 4294967296 → All MayStand moments
    → NoMarkup (page_data s traced moments)
no_markup s traced moments h k all =
    both (stretch_line s ++ parts (page_plan s traced) [] moments) (late_opening (page_plan s traced) moments)
    (both (stretch_line s) (parts (page_plan s traced) [] moments) (plain_stretch s h k) (plain_parts s traced [] moments all)) (plain_late s traced moments)

may_stand : (notes : List Note) → All InRange notes → All MayStand (moments_of notes)
may_stand [] h = All-nil MayStand
may_stand (n ∷ notes) h = All-cons MayStand (moment.Note n) (moments_of notes) (All-head InRange n notes h) (may_stand notes (All-tail InRange n notes h))

pub no_markup_of : (s : Stretch) (notes : List Note) → s.from < 4294967296 → s.to < 4294967296 → All InRange notes
    → NoMarkup (page_data s false (moments_of notes))
no_markup_of s notes h k all = no_markup s false (moments_of notes) h k (may_stand notes all)
