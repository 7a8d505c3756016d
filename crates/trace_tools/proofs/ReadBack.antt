-- The line of an event, and the END line, are read back.
use Rattle.std.proofs.Common.{◌≡◌, ◌≤◌, ◌<◌, ℕ, ◌+◌, ◌^◌, ◌==◌, Bool, true, false, List, [], ◌∷◌, ◌++◌, length, length-append, codes, Option, Some, None, Ok, refl, sym, ◌∙◌, ap, subst, arith, append_assoc, append-nil}
use Rattle.std.specs.Fmt.{decimal}
use Rattle.std.proofs.lemmas.Bool.{le-ltb, cases_lt}
use Rattle.std.proofs.lemmas.Fmt.{decimal_digit, decimal_is_IsNumeral, length-decimal-le}
use Rattle.std.proofs.lemmas.List.Elements.{All-cons, All-append, All-head, All-tail, All-weaker}
use Rattle.std.proofs.lemmas.Bool.Decides.{nat_tests}
use Rattle.esc_base.specs.declared.tick.Tick.{Tick}
use Rattle.esc_base.specs.declared.event.Event.{Event}
use Rattle.esc_base.specs.declared.event.Event.TheVariants as event
use Rattle.esc_base.specs.Trace.{tick_of}
use Rattle.trace_text.specs.declared.item.Place.{Place}
use Rattle.trace_text.specs.declared.parse.LineKind.{LineKind}
use Rattle.trace_text.specs.declared.parse.LineKind.TheVariants as kind
use Rattle.trace_text.specs.declared.parse.Entry.TheVariants as entry
use Rattle.trace_text.specs.Line.{is_decimal, number, level_of, event_of, kind_of, is_end_kind, said, said_in, soon_after, too_close, after_event}
use Rattle.trace_text.specs.Read.{Trace, with_event, read_from}
use Rattle.trace_text.specs.Ahead.{IsSpaced, Follows, NoLineFeed}
use Rattle.trace_text.specs.Text.{spaced, hex, level_number, event_fields, event_bytes}
use Rattle.trace_text.proofs.NoteBack.{IsHigh, AllHigh, NoFeed, all_digits, starts_plainly, number_back, byte_back, fields_spaced, no_feed_spaced, high_decimal, high_letter, high_hex}
use Rattle.trace_text.proofs.Saying.{said-fields, good, end_line}
use Rattle.trace_text.proofs.Cut.{read_whole, all_read}
use Rattle.trace_tools.specs.Written.{IsByte, end_bytes}

-- ---- a number

decimal_back : (n : ℕ) → n < 2 ^ 64 → is_decimal (decimal n) ≡ true
decimal_back n small = rw (starts_plainly n small (cases_lt 0 n), all_digits (decimal n) (decimal_is_IsNumeral n small).0.1) refl

level_back : (level : Bool) → level_of (decimal (level_number level)) ≡ Some level
level_back false = ap level_of (decimal_digit 0 (omega arith))
level_back true = ap level_of (decimal_digit 1 (omega arith))

level_small : (level : Bool) → level_number level < 2
level_small false = omega arith
level_small true = omega arith

-- ---- what an event's line says

far_enough : (before : Option Tick) (t : Tick) (byte : ℕ) → IsSpaced before (event.Serial t byte) → soon_after before t ≡ false
far_enough None t byte h = refl
far_enough (Some b) t byte h = le-ltb t.0 (b.0 + 20000) h

module _ (p : Place) (t : Tick) (low : p.time.0 ≤ t.0) (high : t.0 ≤ 1073741824) where
  time_is : number (decimal t.0) ≡ t.0
  time_is = (decimal_is_IsNumeral t.0 (omega arith)).1

  not_back : p.time.0 ≤ number (decimal t.0)
  not_back = subst (λ (n : ℕ). p.time.0 ≤ n) (sym time_is) low

  not_late : number (decimal t.0) ≤ 1073741824
  not_late = subst (λ (n : ℕ). n ≤ 1073741824) (sym time_is) high

  says : (name value : List ℕ) (k : LineKind) (v : Event) → kind_of name ≡ Some k → is_end_kind (Some k) ≡ false → event_of k t value ≡ Some v
      → too_close p (Some v) ≡ false
      → said_in p (decimal t.0 ∷ name ∷ value ∷ []) ≡ Ok (entry.Event v)
  says name value k v is not_end e c =
      good p (decimal t.0) (decimal_back t.0 (omega arith)) not_back not_late name k is not_end t time_is value v e c

  says_end : (name : List ℕ) → kind_of name ≡ Some kind.End → said_in p (decimal t.0 ∷ name ∷ []) ≡ Ok (entry.End t)
  says_end name is = end_line p (decimal t.0) (decimal_back t.0 (omega arith)) not_back not_late name t time_is is

says_event : (p : Place) (e : Event) → Follows p e → IsByte e → said_in p (decimal (tick_of e) ∷ event_fields e) ≡ Ok (entry.Event e)
says_event p (event.Edge t level) f b =
    says p t f.in_time.0 f.in_time.1 (codes "E") (decimal (level_number level)) kind.Edge (event.Edge t level) refl refl (rw (level_back level) refl) refl
says_event p (event.Comp t level) f b =
    says p t f.in_time.0 f.in_time.1 (codes "C") (decimal (level_number level)) kind.Comp (event.Comp t level) refl refl (rw (level_back level) refl) refl
says_event p (event.Serial t byte) f b =
    says p t f.in_time.0 f.in_time.1 (codes "S") (hex byte) kind.Serial (event.Serial t byte) refl refl (rw (byte_back byte b) refl)
    (far_enough p.serial t byte f.spaced)
says_event p (event.Stall t n) f b =
    says p t f.in_time.0 f.in_time.1 (codes "J") (decimal n) kind.Stall (event.Stall t n) refl refl
    (rw (number_back 1 16777216 n f.stall.0 f.stall.1 (omega (arith, f.stall.1))) refl) refl

-- ---- the line itself

front : Event → List ℕ
front e = decimal (tick_of e) ++ spaced (event_fields e)

high_level : (level : Bool) → IsHigh (decimal (level_number level))
high_level level = let small = level_small level in high_decimal (level_number level) (omega arith)

high_fields : (p : Place) (e : Event) → Follows p e → AllHigh (event_fields e)
high_fields p (event.Edge t level) f = (high_letter 69 (omega arith), (high_level level, tt))
high_fields p (event.Comp t level) f = (high_letter 67 (omega arith), (high_level level, tt))
high_fields p (event.Serial t byte) f = (high_letter 83 (omega arith), (high_hex byte, tt))
high_fields p (event.Stall t n) f = (high_letter 74 (omega arith), (high_decimal n (omega (arith, f.stall.1)), tt))

short_number : (n : ℕ) → n ≤ 1073741824 → length (decimal n) ≤ 10
short_number n le = length-decimal-le 10 n (omega arith) (omega arith) (omega arith)

short_level : (level : Bool) → length (decimal (level_number level)) ≤ 10
short_level level = let small = level_small level in short_number (level_number level) (omega arith)

-- a letter and one more field of at most ten bytes, behind a time
short_line : (t letter : ℕ) (value : List ℕ) → t ≤ 1073741824 → length value ≤ 10 → length (decimal t ++ spaced ((letter ∷ []) ∷ value ∷ [])) ≤ 40
short_line t letter value le few =
    let time = short_number t le in
    let all = length-append (decimal t) (32 ∷ letter ∷ 32 ∷ (value ++ [])) in
    let last : length (value ++ []) ≡ length value = ap length (append-nil value) in
    omega arith

short_front : (p : Place) (e : Event) → Follows p e → length (front e) ≤ 40
unfolding front
short_front p (event.Edge t level) f = short_line t.0 69 (decimal (level_number level)) f.in_time.1 (short_level level)
short_front p (event.Comp t level) f = short_line t.0 67 (decimal (level_number level)) f.in_time.1 (short_level level)
short_front p (event.Serial t byte) f = short_line t.0 83 (hex byte) f.in_time.1 (omega arith)
short_front p (event.Stall t n) f = short_line t.0 74 (decimal n) f.in_time.1 (short_number n (omega (arith, f.stall.1)))

no_line_feed : (bytes : List ℕ) → NoFeed bytes → NoLineFeed bytes
no_line_feed [] h = tt
no_line_feed (b ∷ bytes) h = (All-head (λ x. (x == 10) ≡ false) b bytes h, no_line_feed bytes (All-tail (λ x. (x == 10) ≡ false) b bytes h))

no_feed_word : (word : List ℕ) → IsHigh word → NoFeed word
no_feed_word word h = All-weaker (λ b. 48 ≤ b) (λ b. (b == 10) ≡ false) (λ b le. grind (arith, nat_tests)) word h

no_feed_line : (t : ℕ) (words : List (List ℕ)) → t ≤ 1073741824 → AllHigh words → NoLineFeed (decimal t ++ spaced words)
no_feed_line t words le h =
    no_line_feed (decimal t ++ spaced words)
    (All-append (λ b. (b == 10) ≡ false) (decimal t) (spaced words) (no_feed_word (decimal t) (high_decimal t (omega arith))) (no_feed_spaced words h))

module _ (p : Place) (e : Event) (f : Follows p e) (b : IsByte e) (few : p.line < 16777216) where
  said_event : said p (front e) ≡ Ok (entry.Event e)
  unfolding front
  said_event =
      said-fields p (front e) few (short_front p e f)
      ∙ ap (said_in p) (fields_spaced (decimal (tick_of e)) (event_fields e) (high_decimal (tick_of e) (omega (arith, f.in_time.1))) (high_fields p e f))
      ∙ says_event p e f b

  bytes_are : (more : List ℕ) → event_bytes e ++ more ≡ front e ++ 10 ∷ more
  unfolding front
  bytes_are more = simp append_assoc

  pub event_back : (more : List ℕ) → read_from p (event_bytes e ++ more) ≡ with_event e (read_from (after_event p e) more)
  unfolding front
  event_back more =
      ap (read_from p) (bytes_are more)
      ∙ rw (read_whole p (front e) more (no_feed_line (tick_of e) (event_fields e) f.in_time.1 (high_fields p e f)), said_event) refl

-- ---- the END line

high_end : AllHigh (codes "END" ∷ [])
high_end = (All-cons (λ x. 48 ≤ x) 69 (78 ∷ 68 ∷ []) (omega arith) (All-cons (λ x. 48 ≤ x) 78 (68 ∷ []) (omega arith) (high_letter 68 (omega arith))), tt)

module _ (p : Place) (t : Tick) (low : p.time.0 ≤ t.0) (high : t.0 ≤ 1073741824) (few : p.line < 16777216) where
  end_front : List ℕ
  end_front = decimal t.0 ++ spaced (codes "END" ∷ [])

  short_end : length end_front ≤ 40
  unfolding end_front
  short_end = let time = short_number t.0 high in let all = length-append (decimal t.0) (codes " END") in omega arith

  said_end : said p end_front ≡ Ok (entry.End t)
  unfolding end_front
  said_end =
      said-fields p end_front few short_end
      ∙ ap (said_in p) (fields_spaced (decimal t.0) (codes "END" ∷ []) (high_decimal t.0 (omega arith)) high_end)
      ∙ says_end p t low high (codes "END") refl

  end_bytes_are : end_bytes t.0 ≡ end_front ++ 10 ∷ []
  unfolding end_front
  end_bytes_are = simp append_assoc

  pub end_back : read_from p (end_bytes t.0) ≡ Trace [] t.0
  unfolding end_front
  end_back =
      ap (read_from p) end_bytes_are
      ∙ rw (read_whole p end_front [] (no_feed_line t.0 (codes "END" ∷ []) high high_end), said_end, all_read) refl
