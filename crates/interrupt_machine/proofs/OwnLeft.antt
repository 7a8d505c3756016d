-- What a step leaves of the activations' own steps.
use Rattle.std.proofs.Common.{◌≡◌, ◌≢◌, ◌<◌, ◌≤◌, ℕ, List, [], ◌∷◌, length, Some, sym, ◌∙◌, ap, subst, arith}
use Rattle.esc_base.specs.declared.kind.Kind.{Kind}
use Rattle.interrupt_machine.specs.Did.{most}
use Rattle.interrupt_machine.specs.Limits.{SpendsOwnSteps}
use Rattle.interrupt_machine.specs.Open.{innermost, outer_ones}
use Rattle.interrupt_machine.specs.Response.{stepper}
use Rattle.interrupt_machine.proofs.Waiting.{longer, same_long, shorter}

first_same : (j k : Kind) (stack : List Kind) → j ∷ stack ≡ k ∷ stack → j ≡ k
first_same j k stack e = cc

-- an entry
pub entry_spends : {F : Type 0} (left : F → Kind → ℕ) (old new : F) (j : Kind) (stack stack' : List Kind) → stack' ≡ j ∷ stack
    → left new j ≤ most j → ((k : Kind) → k ≢ j → left new k ≡ left old k) → SpendsOwnSteps left old stack new stack'
entry_spends left old new j stack stack' s own others = record {
  entered = λ k e. subst (λ (x : Kind). left new x ≤ most x) (first_same j k stack (sym s ∙ e)) own;
  stepped = λ k i short. absurd (let l : length stack' ≡ length (j ∷ stack) = ap length s in omega arith);
  others = λ k ne. others k (λ e. ne (rw (s, e) (longer j stack)));
}

not_longer : (k : Kind) (stack stack' : List Kind) → length stack' ≤ length stack → stack' ≡ k ∷ stack → ⊥
not_longer k stack stack' short e = let l : length stack' ≡ length (k ∷ stack) = ap length e in omega arith

-- a step of the innermost activation
own_spends : {F : Type 0} (left : F → Kind → ℕ) (old new : F) (j : Kind) (stack stack' : List Kind) → innermost stack ≡ Some j
    → length stack' ≤ length stack → stepper stack stack' ≡ Some j
    → left new j < left old j → ((k : Kind) → k ≢ j → left new k ≡ left old k) → SpendsOwnSteps left old stack new stack'
own_spends left old new j stack stack' i short by own others = record {
  entered = λ k e. absurd (not_longer k stack stack' short e);
  stepped = λ k first l. let s : j ≡ k = (let z : Some j ≡ Some k = sym i ∙ first in cc) in subst (λ (x : Kind). left new x < left old x) s own;
  others = λ k ne. others k (λ e. ne (by ∙ ap (λ (x : Kind). Some x) (sym e)));
}

-- which goes on
pub more_spends : {F : Type 0} (left : F → Kind → ℕ) (old new : F) (j : Kind) (stack : List Kind) → innermost stack ≡ Some j
    → left new j < left old j → ((k : Kind) → k ≢ j → left new k ≡ left old k) → SpendsOwnSteps left old stack new stack
more_spends left old new j [] i own others = cc
more_spends left old new j (x ∷ outer) i own others = own_spends left old new j (x ∷ outer) (x ∷ outer) i (omega arith) (same_long x outer ∙ i) own others

-- or returns
pub back_spends : {F : Type 0} (left : F → Kind → ℕ) (old new : F) (j : Kind) (stack stack' : List Kind) → innermost stack ≡ Some j → stack' ≡ outer_ones stack
    → left new j < left old j → ((k : Kind) → k ≢ j → left new k ≡ left old k) → SpendsOwnSteps left old stack new stack'
back_spends left old new j [] stack' i s own others = cc
back_spends left old new j (x ∷ outer) stack' i s own others =
    rw s (own_spends left old new j (x ∷ outer) outer i (omega arith) (shorter x outer ∙ i) own others)
