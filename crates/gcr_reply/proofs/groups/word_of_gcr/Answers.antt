use Rattle.std.proofs.Common.{◌/◌, sym, ◌∙◌, refl}
use Rattle.std.proofs.lemmas.Nat.{and_mask}
use Rattle.gcr_reply.proofs.Table.{gcr_of-groups, low_nibble, no_word, not_found, only_word}
use Rattle.gcr_reply.proofs.groups.word_of_gcr.Goals as goal

pub returns-in_err-first : goal.returns-in_err-first
returns-in_err-first c =
    no_word _ c.args.bits c.from_residual.ensures
    (λ word h e. not_found _ _ c.in_err-first.was c.nibble_of.ensures _ (low_nibble (word / 4096)) (gcr_of-groups c.args.bits word e).first)

pub returns-in_err-second : goal.returns-in_err-second
returns-in_err-second c =
    no_word _ c.args.bits c.from_residual-in_err-second.ensures
    (λ word h e. not_found _ _ c.in_err-second.was c.nibble_of-2.ensures _ (low_nibble (word / 256))
    ((gcr_of-groups c.args.bits word e).second ∙ sym (and_mask (c.args.bits / 1024) 5)))

pub returns-in_err-third : goal.returns-in_err-third
returns-in_err-third c =
    no_word _ c.args.bits c.from_residual-in_err-third.ensures
    (λ word h e. not_found _ _ c.in_err-third.was c.nibble_of-3.ensures _ (low_nibble (word / 16))
    ((gcr_of-groups c.args.bits word e).third ∙ sym (and_mask (c.args.bits / 32) 5)))

pub returns-in_err-fourth : goal.returns-in_err-fourth
returns-in_err-fourth c =
    no_word _ c.args.bits c.from_residual-in_err-fourth.ensures
    (λ word h e. not_found _ _ c.in_err-fourth.was c.nibble_of-4.ensures _ (low_nibble word)
    ((gcr_of-groups c.args.bits word e).fourth ∙ sym (and_mask c.args.bits 5)))

pub returns : goal.returns
returns c =
    let a = (c.in_ok-first.ensures c.in_ok-first.first).0 refl in
    let b = (c.in_ok-second.ensures c.in_ok-second.second).0 refl in
    let d = (c.in_ok-third.ensures c.in_ok-third.third).0 refl in
    let e = (c.in_ok-fourth.ensures c.in_ok-fourth.fourth).0 refl in
    only_word c.args.bits _ _ _ _ a.0 b.0 d.0 e.0 (record {
      first = a.1;
      second = b.1 ∙ and_mask (c.args.bits / 1024) 5;
      third = d.1 ∙ and_mask (c.args.bits / 32) 5;
      fourth = e.1 ∙ and_mask c.args.bits 5;
    })
