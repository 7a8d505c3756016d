-- The lines of a script are read, and what they ask for is followed.
use Rattle.std.specs.Option.{option_to_list}
use Rattle.std.specs.List.{AllZip}
use Rattle.std.proofs.Common.{◌≡◌, true, Bool, None, ℕ, List, [], ◌∷◌, ◌++◌, Option, refl, sym, ◌∙◌, ap, subst, append_assoc, append-nil}
use Rattle.std.proofs.lemmas.Grind.{flat_map-append}
use Rattle.std.proofs.lemmas.Slice.Zip.{all_zipped_more}
use Rattle.trace_text.specs.Ahead.{ahead}
use Rattle.am32trace.specs.declared.action.Directive.{Directive}
use Rattle.am32trace.specs.declared.flight.Flight.{Flight}
use Rattle.am32trace.specs.declared.script_lines.ScriptLines.{ScriptLines}
use Rattle.am32trace.specs.Script.{HasRead, Reads, Splits, IsRest, asked_in}
use Rattle.am32trace.specs.Flown.{Follows, IsLast, IsFlown}
use Rattle.am32trace.proofs.Following.{Under, followed, ended}
use Rattle.am32trace.proofs.LinesCut.{no_line}

pub both_zip : {X Y : Type 0} (R : X → Y → Type 0) (xs us : List X) (ys vs : List Y) → AllZip R xs ys → AllZip R us vs → AllZip R (xs ++ us) (ys ++ vs)
both_zip R [] us [] vs h k = k
both_zip R [] us (y ∷ ys) vs h k = absurd h
both_zip R (x ∷ xs) us [] vs h k = absurd h
both_zip R (x ∷ xs) us (y ∷ ys) vs h k = (h.0, both_zip R xs us ys vs h.1 k)

-- ---- lines that ask for nothing
pub record Rest (says : List ℕ → Option Directive → Type 0) (l : ScriptLines) (before : Option (List ℕ))
    (m : ScriptLines) (after : Option (List ℕ)) : Type 0 where
  pub lines : List (List ℕ)
  pub said : List (Option Directive)
  pub read : Reads l before m after lines
  pub each : AllZip says lines said
  pub blank : asked_in said ≡ []

-- ---- some lines were read, and what they ask for was followed
pub record Going (says : List ℕ → Option Directive → Type 0) (l : ScriptLines) (source left : Option (List ℕ))
    (f : Flight) (first now : Option (List ℕ)) : Type 0 where
  pub lines : List (List ℕ)
  pub said : List (Option Directive)
  pub read : HasRead l source left lines
  pub each : AllZip says lines said
  pub under : Under (asked_in said) f first now

module _ (says : List ℕ → Option Directive → Type 0) where
  asked_both : (xs ys : List (Option Directive)) → asked_in (xs ++ ys) ≡ asked_in xs ++ asked_in ys
  asked_both xs ys = flat_map-append option_to_list xs ys

  asked_more : (xs : List (Option Directive)) (d : Option Directive) → asked_in (xs ++ d ∷ []) ≡ asked_in xs ++ option_to_list d
  asked_more xs d = asked_both xs (d ∷ []) ∙ ap (λ (l : List Directive). asked_in xs ++ l) (append-nil (option_to_list d))

  pub rest_none : (l : ScriptLines) (a : Option (List ℕ)) → Rest says l a l a
  rest_none l a = record { lines = []; said = []; read = no_line l a; each = tt; blank = refl }

  reads_both : (l m n : ScriptLines) (a b c : Option (List ℕ)) (xs ys : List (List ℕ)) → Reads l a m b xs → Reads m b n c ys → Reads l a n c (xs ++ ys)
  reads_both l m n a b c xs ys x y = λ first lines h.
      subst (λ (ls : List (List ℕ)). HasRead n first c ls) (append_assoc lines xs ys) (y first (lines ++ xs) (x first lines h))

  pub rest_one : (l m n : ScriptLines) (a b c : Option (List ℕ)) (line : List ℕ) → Rest says l a m b → Reads m b n c (line ∷ [])
      → says line None → Rest says l a n c
  rest_one l m n a b c line r x said = record {
    lines = r.lines ++ line ∷ [];
    said = r.said ++ None ∷ [];
    read = reads_both l m n a b c r.lines (line ∷ []) r.read x;
    each = all_zipped_more says r.lines r.said line None r.each said;
    blank = asked_more r.said None ∙ ap (λ (ds : List Directive). ds ++ []) r.blank;
  }

  pub rest_end : (l m n : ScriptLines) (a b c : Option (List ℕ)) → Rest says l a m b → Reads m b n c [] → n.has_ended ≡ true → IsRest says l a n c
  rest_end l m n a b c r x ended = record {
    lines = r.lines ++ [];
    said = r.said;
    read = reads_both l m n a b c r.lines [] r.read x;
    each = subst (λ (ls : List (List ℕ)). AllZip says ls r.said) (sym (append-nil r.lines)) r.each;
    blank = r.blank;
    ended = ended;
  }

  pub going_first : (l : ScriptLines) (source : Option (List ℕ)) (f : Flight) (first : Option (List ℕ)) → HasRead l source source [] → Under [] f first first
      → Going says l source source f first first
  going_first l source f first read under = record { lines = []; said = []; read = read; each = tt; under = under }

  pub going_on : (l m : ScriptLines) (source a b : Option (List ℕ)) (f g : Flight) (first now after : Option (List ℕ))
      (line : List ℕ) (d : Option Directive)
      → Going says l source a f first now → Reads l a m b (line ∷ []) → says line d → Follows d f now g after → Going says m source b g first after
  going_on l m source a b f g first now after line d h x said y = record {
    lines = h.lines ++ line ∷ [];
    said = h.said ++ d ∷ [];
    read = x source h.lines h.read;
    each = all_zipped_more says h.lines h.said line d h.each said;
    under = subst (λ (ds : List Directive). Under ds g first after) (sym (asked_more h.said d)) (followed (asked_in h.said) d f g first now after h.under y);
  }

  pub going_ends : (l m n : ScriptLines) (source a b c : Option (List ℕ)) (f : Flight) (first now after : Option (List ℕ))
      (line : List ℕ) (d : Option Directive)
      → Going says l source a f first now → Reads l a m b (line ∷ []) → says line d
      → IsLast d f now after → IsRest says m b n c → IsFlown says source first after
  going_ends l m n source a b c f first now after line d h x said y rest =
      let read = rest.read source (h.lines ++ line ∷ []) (x source h.lines h.read) in
      let before = h.said ++ d ∷ [] in
      record {
        lines = asked_in h.said;
        end = y.end;
        script = record {
          text = read.text;
          behind = ahead n.held c;
          is_all = read.is_ahead;
          ended = read.over rest.ended;
          lines = (h.lines ++ line ∷ []) ++ rest.lines;
          whole = read.whole;
          splits = subst (λ (e : Bool). Splits e read.text ((h.lines ++ line ∷ []) ++ rest.lines)) rest.ended read.splits;
          said = before ++ rest.said;
          each =
              both_zip says (h.lines ++ line ∷ []) rest.lines before rest.said (all_zipped_more says h.lines h.said line d h.each said) rest.each;
          all =
              sym (asked_both before rest.said ∙ ap (λ (ds : List Directive). asked_in before ++ ds) rest.blank ∙ append-nil (asked_in before)
              ∙ asked_more h.said d ∙ ap (λ (o : Option Directive). asked_in h.said ++ option_to_list o) y.is);
        };
        flight = ended (asked_in h.said) f first now after y.end h.under y.ends;
      }
