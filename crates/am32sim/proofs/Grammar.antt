-- What the words behind a command give, word by word.
use Rattle.std.proofs.Common.{◌≡◌, ◌∙◌, ℕ, true, false, List, [], ◌∷◌, Option, Some, None, refl, sym, ap}
use Rattle.std.specs.Prelude.{option_map}
use Rattle.std.specs.List.{before_first, after_first}
use Rattle.am32sim.specs.declared.options.Command.{Command}
use Rattle.am32sim.specs.declared.options.Options.{Options}
use Rattle.am32sim.specs.Words.{Given, options, with_option, has_value, is_equals, given_by, nothing, command_named, asked}
use Rattle.am32sim.specs.Options.{given_of}

-- ---- by what is given as a function of the words

behind_one : (c : Command) (g h : Given) (word : List ℕ) (rest : List (List ℕ)) → has_value word ≡ true
    → with_option options c (before_first is_equals word) (after_first is_equals word) g ≡ Some h → given_by c g None (word ∷ rest) ≡ given_by c h None rest
behind_one c g h word rest e f = rw (e, f) refl

wrong_one : (c : Command) (g : Given) (word : List ℕ) (rest : List (List ℕ)) → has_value word ≡ true
    → with_option options c (before_first is_equals word) (after_first is_equals word) g ≡ None → given_by c g None (word ∷ rest) ≡ None
wrong_one c g word rest e f = rw (e, f) refl

behind_two : (c : Command) (g h : Given) (word value : List ℕ) (rest : List (List ℕ)) → has_value word ≡ false → with_option options c word value g ≡ Some h
    → given_by c g None (word ∷ value ∷ rest) ≡ given_by c h None rest
behind_two c g h word value rest e f = rw (e, f) refl

wrong_two : (c : Command) (g : Given) (word value : List ℕ) (rest : List (List ℕ)) → has_value word ≡ false → with_option options c word value g ≡ None
    → given_by c g None (word ∷ value ∷ rest) ≡ None
wrong_two c g word value rest e f = rw (e, f) refl

alone : (c : Command) (g : Given) (word : List ℕ) → has_value word ≡ false → given_by c g None (word ∷ []) ≡ None
alone c g word e = rw e refl

-- ---- and by what the program finds

some_of : (r : Option Options) (o : Options) (found : Option Given) → r ≡ Some o → option_map given_of r ≡ found → found ≡ Some (given_of o)
some_of r o found e f = sym f ∙ ap (λ (x : Option Options). option_map given_of x) e

none_of : (r : Option Options) (found : Option Given) → r ≡ None → option_map given_of r ≡ found → found ≡ None
none_of r found e f = sym f ∙ ap (λ (x : Option Options). option_map given_of x) e

pub no_words : (c : Command) (g : Given) (words : List (List ℕ)) → words ≡ [] → Some g ≡ given_by c g None words
no_words c g words e = rw e refl

pub one_word : (c : Command) (g : Given) (words rest : List (List ℕ)) (word name value : List ℕ) (r : Option Options) (o : Options) (after : Option Given)
    → words ≡ word ∷ rest → has_value word ≡ true → name ≡ before_first is_equals word → value ≡ after_first is_equals word
    → r ≡ Some o → option_map given_of r ≡ with_option options c name value g → after ≡ given_by c (given_of o) None rest → after ≡ given_by c g None words
one_word c g words rest word name value r o after is has n v e f last =
    last ∙ sym (ap (given_by c g None) is ∙ behind_one c g (given_of o) word rest has
    (ap (λ (x : List ℕ). with_option options c x (after_first is_equals word) g) (sym n) ∙ ap (λ (x : List ℕ). with_option options c name x g) (sym v)
    ∙ some_of r o (with_option options c name value g) e f))

pub one_word_wrong : (c : Command) (g : Given) (words rest : List (List ℕ)) (word name value : List ℕ) (r : Option Options) → words ≡ word ∷ rest
    → has_value word ≡ true → name ≡ before_first is_equals word → value ≡ after_first is_equals word
    → r ≡ None → option_map given_of r ≡ with_option options c name value g → None ≡ given_by c g None words
one_word_wrong c g words rest word name value r is has n v e f =
    sym (ap (given_by c g None) is ∙ wrong_one c g word rest has (ap (λ (x : List ℕ). with_option options c x (after_first is_equals word) g) (sym n)
    ∙ ap (λ (x : List ℕ). with_option options c name x g) (sym v) ∙ none_of r (with_option options c name value g) e f))

pub name_alone : (c : Command) (g : Given) (words rest : List (List ℕ)) (word : List ℕ) → words ≡ word ∷ rest → has_value word ≡ false → rest ≡ []
    → None ≡ given_by c g None words
name_alone c g words rest word is has none = sym (ap (given_by c g None) (is ∙ ap (λ (x : List (List ℕ)). word ∷ x) none) ∙ alone c g word has)

pub two_words : (c : Command) (g : Given) (words more rest : List (List ℕ)) (word value : List ℕ) (r : Option Options) (o : Options) (after : Option Given)
    → words ≡ word ∷ more → has_value word ≡ false → more ≡ value ∷ rest
    → r ≡ Some o → option_map given_of r ≡ with_option options c word value g → after ≡ given_by c (given_of o) None rest → after ≡ given_by c g None words
two_words c g words more rest word value r o after is has next e f last =
    last ∙ sym (ap (given_by c g None) (is ∙ ap (λ (x : List (List ℕ)). word ∷ x) next)
    ∙ behind_two c g (given_of o) word value rest has (some_of r o (with_option options c word value g) e f))

pub two_words_wrong : (c : Command) (g : Given) (words more rest : List (List ℕ)) (word value : List ℕ) (r : Option Options) → words ≡ word ∷ more
    → has_value word ≡ false → more ≡ value ∷ rest
    → r ≡ None → option_map given_of r ≡ with_option options c word value g → None ≡ given_by c g None words
two_words_wrong c g words more rest word value r is has next e f =
    sym (ap (given_by c g None) (is ∙ ap (λ (x : List (List ℕ)). word ∷ x) next)
    ∙ wrong_two c g word value rest has (none_of r (with_option options c word value g) e f))

-- ---- the whole command line

pub no_command : (words rest : List (List ℕ)) (word : List ℕ) → words ≡ word ∷ rest → command_named word ≡ None → None ≡ asked words
no_command words rest word is e = sym (ap asked is ∙ rw e refl)

pub not_asked : (words : List (List ℕ)) → words ≡ [] → None ≡ asked words
not_asked words is = sym (ap asked is)

pub is_asked : (words rest : List (List ℕ)) (word : List ℕ) (c : Command) (n : Given) (r : Option Options) (o : Options) → words ≡ word ∷ rest
    → command_named word ≡ Some c → n ≡ nothing
    → r ≡ Some o → option_map given_of r ≡ given_by c n None rest → Some (record { command = c; given = given_of o }) ≡ asked words
is_asked words rest word c n r o is e new f g = sym (ap asked is ∙ rw (e, ← new, some_of r o (given_by c n None rest) f g) refl)

pub no_options : (words rest : List (List ℕ)) (word : List ℕ) (c : Command) (n : Given) (r : Option Options) → words ≡ word ∷ rest
    → command_named word ≡ Some c → n ≡ nothing
    → r ≡ None → option_map given_of r ≡ given_by c n None rest → None ≡ asked words
no_options words rest word c n r is e new f g = sym (ap asked is ∙ rw (e, ← new, none_of r (given_by c n None rest) f g) refl)
