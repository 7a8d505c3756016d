-- The text of a script: its lines, and what each of them says.
use Rattle.std.specs.Prelude.{◌≡◌, ◌≤◌, ◌⊎◌, ℕ, ◌+◌, ◌==◌, true, false, Bool, List, [], ◌∷◌, ◌++◌, take, drop, Option, flat_map, All}
use Rattle.std.specs.Option.{option_to_list}
use Rattle.std.specs.List.{AllZip}
use Rattle.std.specs.Io.KnownBytes.{prepend_known, IsAtEnd}
use Rattle.trace_text.specs.Ahead.{ahead}
use Rattle.am32trace.specs.declared.action.Directive.{Directive}
use Rattle.am32trace.specs.declared.script_lines.ScriptLines.{ScriptLines}

-- ---- the lines of a text

abbrev pub with_feeds : List (List ℕ) → List ℕ
with_feeds lines = flat_map (λ line. line ++ 10 ∷ []) lines

-- no line feed stands in it
abbrev pub IsOneLine : List ℕ → Type 0
IsOneLine line = All (λ b. (b == 10) ≡ false) line

-- the bytes begin with a line of n bytes and its line feed
pub record IsCut (n : ℕ) (bytes : List ℕ) : Type 0 where
  pub short : n ≤ 1200
  pub cut : bytes ≡ take n bytes ++ 10 ∷ drop (n + 1) bytes
  pub one : IsOneLine (take n bytes)

-- each line ends with a line feed; the last one may lack it
abbrev pub Splits : Bool → List ℕ → List (List ℕ) → Type 0
Splits false text lines = with_feeds lines ≡ text
Splits true text lines = (with_feeds lines ≡ text) ⊎ (with_feeds lines ≡ text ++ 10 ∷ [])

-- ---- a reader of lines

-- these lines were read, and the rest is ahead
pub record HasRead (l : ScriptLines) (first left : Option (List ℕ)) (lines : List (List ℕ)) : Type 0 where
  pub text : List ℕ
  pub is_ahead : first ≡ prepend_known text (ahead l.held left)
  pub whole : All IsOneLine lines
  pub splits : Splits l.has_ended text lines
  pub over : l.has_ended ≡ true → IsAtEnd (ahead l.held left)

abbrev pub Reads : ScriptLines → Option (List ℕ) → ScriptLines → Option (List ℕ) → List (List ℕ) → Type 0
Reads l before m after more = (first : Option (List ℕ)) (lines : List (List ℕ)) → HasRead l first before lines → HasRead m first after (lines ++ more)

-- ---- what lines ask for: some ask for nothing

abbrev pub asked_in : List (Option Directive) → List Directive
asked_in said = flat_map option_to_list said

-- lines that ask for nothing, up to the end
pub record IsRest (says : List ℕ → Option Directive → Type 0) (l : ScriptLines) (before : Option (List ℕ)) (m : ScriptLines)
    (after : Option (List ℕ)) : Type 0 where
  pub lines : List (List ℕ)
  pub said : List (Option Directive)
  pub read : Reads l before m after lines
  pub each : AllZip says lines said
  pub blank : asked_in said ≡ []
  pub ended : m.has_ended ≡ true

-- These are all lines of the text that a source has left, where it tells that. Each of them says what it asks for, if anything.
pub record IsScript (says : List ℕ → Option Directive → Type 0) (left : Option (List ℕ)) (asked : List Directive) : Type 0 where
  pub text : List ℕ
  pub behind : Option (List ℕ)
  pub is_all : left ≡ prepend_known text behind
  pub ended : IsAtEnd behind
  pub lines : List (List ℕ)
  pub whole : All IsOneLine lines
  pub splits : Splits true text lines
  pub said : List (Option Directive)
  pub each : AllZip says lines said
  pub all : asked ≡ asked_in said
