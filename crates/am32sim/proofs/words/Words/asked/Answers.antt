use Rattle.std.proofs.Common.{◌≡◌, ◌∷◌, ◌∙◌, ap, sym, List, map, String, Global, string_bytes}
use Rattle.am32sim.specs.Options.{given_of}
use Rattle.am32sim.proofs.Grammar.{is_asked, no_options}
use Rattle.am32sim.proofs.words.Words.asked.Goals as goal

pub returns-in-Some-options_in-clause-is : goal.returns-in-Some-options_in-clause-is
returns-in-Some-options_in-clause-is c =
    let words : c.args.self.now ≡ c.in-Some.first.now ∷ map (λ (w : String Global). string_bytes w) c.in-Some.rest.now =
    sym c.self.view_is ∙ ap (λ (xs : List (String Global)). map (λ (w : String Global). string_bytes w) xs) (sym c.as_slice.ensures.value)
    ∙ c.in-Some.ensures.first in
    is_asked c.args.self.now (map (λ (w : String Global). string_bytes w) c.in-Some.rest.now) c.in-Some.first.now c.in-Some-named.command
    (given_of c.new.result) c.options_in.result c.in-Some-options_in.options
    words (sym c.named.ensures ∙ c.in-Some-named.is) c.new.ensures.is c.in-Some-options_in.is c.options_in.ensures.is

pub returns-in-None-clause-is : goal.returns-in-None-clause-is
returns-in-None-clause-is c =
    let words : c.args.self.now ≡ c.in-Some.first.now ∷ map (λ (w : String Global). string_bytes w) c.in-Some.rest.now =
    sym c.self.view_is ∙ ap (λ (xs : List (String Global)). map (λ (w : String Global). string_bytes w) xs) (sym c.as_slice.ensures.value)
    ∙ c.in-Some.ensures.first in
    no_options c.args.self.now (map (λ (w : String Global). string_bytes w) c.in-Some.rest.now) c.in-Some.first.now c.in-Some-named.command
    (given_of c.new.result) c.options_in.result
    words (sym c.named.ensures ∙ c.in-Some-named.is) c.new.ensures.is c.in-None.is c.options_in.ensures.is
