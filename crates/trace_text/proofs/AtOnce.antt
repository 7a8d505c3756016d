-- A plain line at the front of what is held.
use Rattle.std.proofs.Common.{◌≡◌, ◌≤◌, ◌<◌, ℕ, ◌+◌, Bool, true, false, ◌==◌, List, [], ◌∷◌, ◌++◌, length, take, drop, get_or, All, Some, None, Ok, refl, sym, ◌∙◌, ap, subst, arith, append_assoc, ◌&&◌, length-append, length-take-le}
use Rattle.std.specs.List.{list_all}
use Rattle.std.specs.Char.{is_ascii_digit}
use Rattle.std.proofs.Math.Seq.{take-append-add}
use Rattle.std.proofs.lemmas.Bool.{eqb-true}
use Rattle.std.proofs.lemmas.Bool.Decides.{nat_tests}
use Rattle.std.proofs.lemmas.List.{take-append-drop, drop-drop}
use Rattle.std.proofs.lemmas.List.Elements.{All-nil, All-cons}
use Rattle.std.proofs.lemmas.List.Splits.{slice_split_at, slice_split_none}
use Rattle.esc_base.specs.declared.tick.Tick.{Tick}
use Rattle.esc_base.specs.declared.event.Event.{Event}
use Rattle.trace_text.specs.declared.item.Place.{Place}
use Rattle.trace_text.specs.declared.parse.LineKind.{LineKind}
use Rattle.trace_text.specs.declared.parse.Entry.TheVariants as entry
use Rattle.trace_text.specs.Line.{fields, has_plain_start, number, kind_of, is_end_kind, level_of, event_of, said, said_in, too_close}
use Rattle.trace_text.specs.Ahead.{NoLineFeed, IsLine}
use Rattle.trace_text.proofs.Saying.{said-fields, good}

-- ---- no digit is a line feed or a space

both : (x y : Bool) → (x && y) ≡ true → (x ≡ true) × (y ≡ true)
both true y e = (refl, e)
both false y e = cc

no_feed : (b : ℕ) → is_ascii_digit b ≡ true → (b == 10) ≡ false
no_feed b h = grind (arith, nat_tests)

no_space : (b : ℕ) → is_ascii_digit b ≡ true → (b == 32) ≡ false
no_space b h = grind (arith, nat_tests)

feedless : (digits more : List ℕ) → list_all is_ascii_digit digits ≡ true → NoLineFeed more → NoLineFeed (digits ++ more)
feedless [] more h rest = rest
feedless (b ∷ digits) more h rest =
    let parts = both (is_ascii_digit b) (list_all is_ascii_digit digits) h in
    (no_feed b parts.0, feedless digits more parts.1 rest)

spaceless : (digits : List ℕ) → list_all is_ascii_digit digits ≡ true → All (λ b. (b == 32) ≡ false) digits
spaceless [] h = All-nil (λ b. (b == 32) ≡ false)
spaceless (b ∷ digits) h =
    let parts = both (is_ascii_digit b) (list_all is_ascii_digit digits) h in
    All-cons (λ x. (x == 32) ≡ false) b digits (no_space b parts.0) (spaceless digits parts.1)

one : (b : ℕ) → (b == 32) ≡ false → All (λ x. (x == 32) ≡ false) (b ∷ [])
one b h = All-cons (λ x. (x == 32) ≡ false) b [] h (All-nil (λ x. (x == 32) ≡ false))

-- a byte that says a level is neither
other_at : (c digit : ℕ) (level v : Bool) → (digit == c) ≡ v → level_of (c ∷ []) ≡ None → level_of (digit ∷ []) ≡ Some level → v ≡ false
other_at c digit level true e none some =
    let same = eqb-true digit c e in
    absurd (let both = sym some ∙ ap (λ (d : ℕ). level_of (d ∷ [])) same ∙ none in cc)
other_at c digit level false e none some = refl

other : (c digit : ℕ) (level : Bool) → level_of (c ∷ []) ≡ None → level_of (digit ∷ []) ≡ Some level → (digit == c) ≡ false
other c digit level none some = other_at c digit level (digit == c) refl none some

-- ---- what stands behind the time

pub five : (xs : List ℕ) (letter : ℕ) → 5 ≤ length xs → get_or xs 0 0 ≡ 32 → get_or xs 1 0 ≡ letter → get_or xs 2 0 ≡ 32 → get_or xs 4 0 ≡ 10
    → (rest : List ℕ) × (xs ≡ 32 ∷ letter ∷ 32 ∷ get_or xs 3 0 ∷ 10 ∷ rest)
five [] letter le f k g h = absurd (omega arith)
five (a ∷ []) letter le f k g h = absurd (omega arith)
five (a ∷ b ∷ []) letter le f k g h = absurd (omega arith)
five (a ∷ b ∷ c ∷ []) letter le f k g h = absurd (omega arith)
five (a ∷ b ∷ c ∷ d ∷ []) letter le f k g h = absurd (omega arith)
five (a ∷ b ∷ c ∷ d ∷ e ∷ rest) letter le f k g h = (rest, rw (f, k, g, h) refl)

module _ (bytes : List ℕ) (len letter digit : ℕ) (rest : List ℕ) (level : Bool) (fits : len ≤ length bytes)
    (short : len ≤ 10) (tail : drop len bytes ≡ 32 ∷ letter ∷ 32 ∷ digit ∷ 10 ∷ rest)
    (digits : list_all is_ascii_digit (take len bytes) ≡ true) (says : level_of (digit ∷ []) ≡ Some level) where
  whole : bytes ≡ take len bytes ++ 32 ∷ letter ∷ 32 ∷ digit ∷ 10 ∷ rest
  whole = sym (take-append-drop len bytes) ∙ ap (λ (l : List ℕ). take len bytes ++ l) tail

  front : take (len + 4) bytes ≡ take len bytes ++ 32 ∷ letter ∷ 32 ∷ digit ∷ []
  front =
      ap (λ (m : ℕ). take (m + 4) bytes) (sym (length-take-le len bytes fits))
      ∙ ap (take (length (take len bytes) + 4)) whole
      ∙ take-append-add (take len bytes) (32 ∷ letter ∷ 32 ∷ digit ∷ 10 ∷ rest) 4

  cut : bytes ≡ take (len + 4) bytes ++ 10 ∷ rest
  cut = whole ∙ sym (append_assoc (take len bytes) (32 ∷ letter ∷ 32 ∷ digit ∷ []) (10 ∷ rest)) ∙ ap (λ (l : List ℕ). l ++ 10 ∷ rest) (sym front)

  front_len : length (take (len + 4) bytes) ≡ len + 4
  front_len = ap length front ∙ length-append (take len bytes) (32 ∷ letter ∷ 32 ∷ digit ∷ []) ∙ ap (λ (m : ℕ). m + 4) (length-take-le len bytes fits)

  five_more : (len + 4) + 1 ≡ len + 5
  five_more = omega arith

  behind : drop ((len + 4) + 1) bytes ≡ rest
  behind = ap (λ (m : ℕ). drop m bytes) five_more ∙ sym (drop-drop 5 len bytes) ∙ ap (drop 5) tail

  pub is_line : (letter == 10) ≡ false → IsLine (len + 4) bytes
  is_line k = record {
    short = omega arith;
    cut = cut ∙ ap (λ (l : List ℕ). take (len + 4) bytes ++ 10 ∷ l) (sym behind);
    one =
        subst (λ (l : List ℕ). NoLineFeed l) (sym front)
        (feedless (take len bytes) (32 ∷ letter ∷ 32 ∷ digit ∷ []) digits (refl, (k, (refl, (other 10 digit level refl says, tt)))));
  }

  parts : (letter == 32) ≡ false → fields (take (len + 4) bytes) ≡ take len bytes ∷ (letter ∷ []) ∷ (digit ∷ []) ∷ []
  parts k =
      ap fields front
      ∙ slice_split_at (λ b. b == 32) (take len bytes) 32 (letter ∷ 32 ∷ digit ∷ []) (spaceless (take len bytes) digits) refl
      ∙ ap (λ (fs : List (List ℕ)). take len bytes ∷ fs) (slice_split_at (λ b. b == 32) (letter ∷ []) 32 (digit ∷ []) (one letter k) refl
      ∙ ap (λ (fs : List (List ℕ)). (letter ∷ []) ∷ fs) (slice_split_none (λ b. b == 32) (digit ∷ []) (one digit (other 32 digit level refl says))))

  pub is_said : (p : Place) (k : LineKind) (t : Tick) (v : Event) → p.line < 16777216 → has_plain_start (take len bytes) ≡ true → number (take len bytes) ≡ t.0
      → p.time.0 ≤ t.0 → t.0 ≤ 1073741824 → (letter == 32) ≡ false → kind_of (letter ∷ []) ≡ Some k → is_end_kind (Some k) ≡ false
      → event_of k t (digit ∷ []) ≡ Some v → too_close p (Some v) ≡ false
      → said p (take (len + 4) bytes) ≡ Ok (entry.Event v)
  is_said p k t v lt start at low high space named not_end is far =
      said-fields p (take (len + 4) bytes) lt (let e = front_len in omega arith) ∙ ap (said_in p) (parts space)
      ∙ good p (take len bytes) (rw (start, digits) refl) (rw at low) (rw at high) (letter ∷ []) k named not_end t at (digit ∷ []) v is far
