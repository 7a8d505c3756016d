-- Lines are cut off of a text.
use Rattle.std.proofs.Common.{◌≡◌, ◌≤◌, ◌<◌, inl, inr, ℕ, suc, ◌+◌, min, ◌==◌, true, false, List, [], ◌∷◌, ◌++◌, length, take, drop, get_or, Option, Some, refl, sym, ◌∙◌, ap, subst, arith, append_assoc, append-nil, position, add-one, IsFalse, nat_lt}
use Rattle.std.specs.Prelude.{All}
use Rattle.std.proofs.lemmas.List.{take_all, take-append-drop, get_or-take, length-take, drop-drop}
use Rattle.std.proofs.lemmas.Bool.{eqb-true}
use Rattle.std.proofs.Math.Seq.{drop-cons}
use Rattle.std.proofs.Common.{None}
use Rattle.std.proofs.lemmas.List.Elements.{All-push, All-from_get_or}
use Rattle.std.proofs.lemmas.List.Quantifiers.{position-Some}
use Rattle.std.proofs.lemmas.List.Sums.{fails_before_first}
use Rattle.std.proofs.lemmas.Grind.{flat_map-append}
use Rattle.std.specs.Io.KnownBytes.{prepend_known, IsAtEnd}
use Rattle.trace_text.specs.Ahead.{unread, ahead}
use Rattle.trace_text.proofs.Fields.{no_place}
use Rattle.am32trace.specs.declared.script_lines.ScriptLines.{ScriptLines}
use Rattle.am32trace.specs.Script.{with_feeds, IsOneLine, IsCut, Splits, HasRead, Reads}

prepend_both : (xs ys : List ℕ) (o : Option (List ℕ)) → prepend_known (xs ++ ys) o ≡ prepend_known xs (prepend_known ys o)
prepend_both xs ys None = refl
prepend_both xs ys (Some zs) = ap (λ (l : List ℕ). Some l) (append_assoc xs ys zs)

at_end : (o : Option (List ℕ)) → IsAtEnd o → IsAtEnd (prepend_known [] o)
at_end None h = h
at_end (Some xs) h = h

one_more : (lines : List (List ℕ)) (line : List ℕ) → with_feeds (lines ++ line ∷ []) ≡ with_feeds lines ++ (line ++ 10 ∷ [])
one_more lines line = flat_map-append (λ l. l ++ 10 ∷ []) lines (line ∷ []) ∙ ap (λ (t : List ℕ). with_feeds lines ++ t) (append-nil (line ++ 10 ∷ []))

module _ (l m : ScriptLines) (a b : Option (List ℕ)) (u line : List ℕ) (begun : l.has_ended ≡ false) (held : prepend_known u b ≡ ahead l.held a) where
  so_far : (first : Option (List ℕ)) (lines : List (List ℕ)) (h : HasRead l first a lines) → with_feeds lines ≡ h.text
  so_far first lines h = subst (λ (x : _). Splits x h.text lines) begun h.splits

  pub took_line : (n : ℕ) → m.has_ended ≡ false → IsCut n u → line ≡ take n u → unread m.held ≡ drop (n + 1) u → Reads l a m b (line ∷ [])
  took_line n goes_on is taken rest = λ first lines h.
      let split : u ≡ (line ++ 10 ∷ []) ++ unread m.held =
      is.cut ∙ sym (append_assoc (take n u) (10 ∷ []) (drop (n + 1) u))
      ∙ ap (λ (x : List ℕ). (x ++ 10 ∷ []) ++ drop (n + 1) u) (sym taken) ∙ ap (λ (x : List ℕ). (line ++ 10 ∷ []) ++ x) (sym rest) in
      record {
        text = h.text ++ (line ++ 10 ∷ []);
        is_ahead =
            h.is_ahead ∙ ap (prepend_known h.text) (sym held ∙ ap (λ (x : List ℕ). prepend_known x b) split ∙ prepend_both (line ++ 10 ∷ []) (unread m.held) b)
            ∙ sym (prepend_both h.text (line ++ 10 ∷ []) (ahead m.held b));
        whole = All-push IsOneLine lines line h.whole (subst IsOneLine (sym taken) is.one);
        splits =
            subst (λ (x : _). Splits x (h.text ++ (line ++ 10 ∷ [])) (lines ++ line ∷ [])) (sym goes_on)
            (one_more lines line ∙ ap (λ (t : List ℕ). t ++ (line ++ 10 ∷ [])) (so_far first lines h));
        over = λ e. absurd (cc);
      }

  pub took_rest : m.has_ended ≡ true → IsOneLine u → IsAtEnd b → line ≡ u → unread m.held ≡ [] → Reads l a m b (line ∷ [])
  took_rest ended one end taken rest = λ first lines h. record {
    text = h.text ++ line;
    is_ahead =
        h.is_ahead ∙ ap (prepend_known h.text) (sym held ∙ ap (λ (x : List ℕ). prepend_known x b) (sym taken ∙ sym (append-nil line)) ∙ prepend_both line [] b)
        ∙ sym (prepend_both h.text line (prepend_known [] b)) ∙ ap (λ (x : List ℕ). prepend_known (h.text ++ line) (prepend_known x b)) (sym rest);
    whole = All-push IsOneLine lines line h.whole (subst IsOneLine (sym taken) one);
    splits =
        subst (λ (x : _). Splits x (h.text ++ line) (lines ++ line ∷ [])) (sym ended)
        (inr (one_more lines line ∙ ap (λ (t : List ℕ). t ++ (line ++ 10 ∷ [])) (so_far first lines h) ∙ sym (append_assoc h.text line (10 ∷ []))));
    over = λ e. subst (λ (x : List ℕ). IsAtEnd (prepend_known x b)) (sym rest) (at_end b end);
  }

  pub took_none : m.has_ended ≡ true → u ≡ [] → IsAtEnd b → unread m.held ≡ [] → Reads l a m b []
  took_none ended none end rest = λ first lines h. record {
    text = h.text;
    is_ahead = h.is_ahead ∙ ap (prepend_known h.text) (sym held ∙ ap (λ (x : List ℕ). prepend_known x b) (none ∙ sym rest));
    whole = subst (λ (ls : List (List ℕ)). All IsOneLine ls) (sym (append-nil lines)) h.whole;
    splits =
        subst (λ (x : _). Splits x h.text (lines ++ [])) (sym ended)
        (inl (ap with_feeds (append-nil lines) ∙ so_far first lines h));
    over = λ e. subst (λ (x : List ℕ). IsAtEnd (prepend_known x b)) (sym rest) (at_end b end);
  }

pub no_line : (l : ScriptLines) (a : Option (List ℕ)) → Reads l a l a []
no_line l a = λ first lines h. subst (λ (ls : List (List ℕ)). HasRead l first a ls) (sym (append-nil lines)) h

-- ---- where a line ends
pub line_found : (xs : List ℕ) (n : ℕ) → position (λ b. b == 10) (take 1201 xs) ≡ Some n → IsCut n xs
line_found xs n e =
    let at = position-Some (λ b. b == 10) (take 1201 xs) n 0 e in
    let len : length (take 1201 xs) ≡ min 1201 (length xs) = length-take 1201 xs in
    let lt : n < length xs = omega arith in
    let le : n ≤ 1200 = omega arith in
    let feed : get_or xs n 0 ≡ 10 = sym (get_or-take 1201 xs n 0 (omega arith)) ∙ eqb-true (get_or (take 1201 xs) n 0) 10 at.1 in
    let front : length (take n xs) ≡ min n (length xs) = length-take n xs in
    record {
      short = le;
      cut =
          sym (take-append-drop n xs) ∙ ap (λ (ys : List ℕ). take n xs ++ ys)
          (drop-cons xs n 0 lt ∙ ap (λ (b : ℕ). b ∷ drop (suc n) xs) feed ∙ ap (λ (m : ℕ). 10 ∷ drop m xs) (sym (add-one n)));
      one =
          All-from_get_or (λ b. (b == 10) ≡ false) (take n xs) 0
          (λ k below.
          let less : k < n = omega (arith, front, below) in
          ap (λ (b : ℕ). b == 10) (get_or-take n xs k 0 less ∙ sym (get_or-take 1201 xs k 0 (omega (arith, less, le)))) ∙ at.2 k less);
    }

pub none_found : (xs : List ℕ) → position (λ b. b == 10) (take 1201 xs) ≡ None → length xs ≤ 1200 → IsOneLine xs
none_found xs e short =
    let all = take_all 1201 xs (omega (arith, short)) in
    let at : position (λ b. b == 10) xs ≡ None = ap (position (λ b. b == 10)) (sym all) ∙ e in
    let end = no_place (λ b. b == 10) xs at in
    All-from_get_or (λ b. (b == 10) ≡ false) xs 0 (λ k below. fails_before_first (λ b. b == 10) xs k 0 (omega (arith, end, below)))

pub drop_more : (n : ℕ) (xs : List ℕ) → drop 1 (drop n xs) ≡ drop (n + 1) xs
drop_more n xs = drop-drop 1 n xs

pub empty : (xs : List ℕ) (n : ℕ) → n ≡ length xs → IsFalse (nat_lt 0 n) → xs ≡ []
empty [] n e none = refl
empty (x ∷ xs) n e none = absurd (grind (arith, e, none))
