-- The parts of a line, by where its spaces stand.
use Rattle.std.proofs.Common.{◌≡◌, ℕ, ◌+◌, ◌<◌, ◌≤◌, Bool, true, false, ◌==◌, nat_lt, List, [], ◌∷◌, length, take, drop, Option, Some, None, refl, subst, arith, cond, position, slice_get, is_none, is_some, Bor, MatchOption}
use Rattle.std.specs.List.{onto_first, position_or_len}
use Rattle.std.proofs.lemmas.List.Splits.{slice_split_first, slice_split_none}
use Rattle.std.proofs.lemmas.List.Sums.{fails_before_first}
use Rattle.std.proofs.lemmas.Bool.{ltb-true, ltb-false}
use Rattle.trace_text.specs.Line.{fields}

some_at : (n l i : ℕ) (b : Bool) → nat_lt n l ≡ b → cond b (Some n) None ≡ Some i → (n ≡ i) × (n < l)
some_at n l i true e s = (cc, ltb-true n l e)
some_at n l i false e s = cc

none_at : (n l : ℕ) (b : Bool) → nat_lt n l ≡ b → cond b (Some n) None ≡ None → l ≤ n
none_at n l true e s = cc
none_at n l false e s = ltb-false n l e

-- the place at which a byte passes first
pub first_place : (p : ℕ → Bool) (xs : List ℕ) (i : ℕ) → position p xs ≡ Some i → (position_or_len p xs ≡ i) × (position_or_len p xs < length xs)
first_place p xs i e = some_at (position_or_len p xs) (length xs) i (nat_lt (position_or_len p xs) (length xs)) refl e

-- no byte passes
pub no_place : (p : ℕ → Bool) (xs : List ℕ) → position p xs ≡ None → length xs ≤ position_or_len p xs
no_place p xs e = none_at (position_or_len p xs) (length xs) (nat_lt (position_or_len p xs) (length xs)) refl e

pub fields_at : (line : List ℕ) (i : ℕ) → position (λ b. b == 32) line ≡ Some i → fields line ≡ take i line ∷ fields (drop (i + 1) line)
fields_at line i e =
    let at = first_place (λ b. b == 32) line i e in
    subst (λ (n : ℕ). fields line ≡ take n line ∷ fields (drop (n + 1) line)) at.0 (slice_split_first (λ b. b == 32) line 0 at.1)

pub fields_whole : (line : List ℕ) → position (λ b. b == 32) line ≡ None → fields line ≡ line ∷ []
fields_whole line e =
    let end = no_place (λ b. b == 32) line e in
    slice_split_none (λ b. b == 32) line (λ k d lt. fails_before_first (λ b. b == 32) line k d (omega arith))

some_first : (b : ℕ) (v : Bool) (parts : List (List ℕ)) → is_none (slice_get (cond v ([] ∷ parts) (onto_first b parts)) 0) ≡ false
some_first b true parts = refl
some_first b false [] = refl
some_first b false (part ∷ parts) = refl

-- a line has a first part
pub fields_some : (line : List ℕ) → is_none (slice_get (fields line) 0) ≡ false
fields_some [] = refl
fields_some (b ∷ line) = some_first b (b == 32) (fields line)

some_second : (o : Option (List ℕ)) → is_none o ≡ false → is_some o ≡ true
some_second None e = cc
some_second (Some x) e = refl

pub fields_first : (line : List ℕ) → is_some (slice_get (fields line) 0) ≡ true
fields_first line = some_second (slice_get (fields line) 0) (fields_some line)

-- what `split_field` says of the first part
module _ (line value : List ℕ) where
  pub first_part : (o : Option (Bor (List ℕ))) → MatchOption o (fields line ≡ value ∷ []) (λ rest. fields line ≡ value ∷ fields rest.now)
      → (more : List (List ℕ)) × (fields line ≡ value ∷ more)
  first_part None h = ([], h)
  first_part (Some rest) h = (fields rest.now, h)

  pub some_part : (o : Option (Bor (List ℕ))) → MatchOption o (fields line ≡ value ∷ []) (λ rest. fields line ≡ value ∷ fields rest.now) → is_some o ≡ true
      → (rest : List ℕ) × (fields line ≡ value ∷ fields rest)
  some_part None h e = cc
  some_part (Some rest) h e = (rest.now, h)

  pub last_part : (o : Option (Bor (List ℕ))) → MatchOption o (fields line ≡ value ∷ []) (λ rest. fields line ≡ value ∷ fields rest.now) → is_some o ≡ false
      → fields line ≡ value ∷ []
  last_part None h e = h
  last_part (Some rest) h e = cc
