-- How many own steps an activation makes, and for how many steps the mask stands.
use Rattle.std.specs.Prelude.{◌≡◌, ◌≢◌, ◌<◌, ◌≤◌, ℕ, Bool, true, List, ◌∷◌, Some, length}
use Rattle.esc_base.specs.declared.kind.Kind.{Kind}
use Rattle.interrupt_machine.specs.Did.{most}
use Rattle.interrupt_machine.specs.Open.{innermost}
use Rattle.interrupt_machine.specs.Response.{stepper}

-- How a step of the machine changes the own steps that each kind's open activation may still make: an entry gives at most those
-- of its kind, an own step takes at least one, and the other kinds keep theirs.
pub record SpendsOwnSteps {F : Type 0} (left : F → Kind → ℕ) (old : F) (stack : List Kind) (new : F) (stack' : List Kind) : Type 0 where
  pub entered : (k : Kind) → stack' ≡ k ∷ stack → left new k ≤ most k
  pub stepped : (k : Kind) → innermost stack ≡ Some k → length stack' ≤ length stack → left new k < left old k
  pub others : (k : Kind) → stepper stack stack' ≢ Some k → left new k ≡ left old k

-- The mask stands for at most 8 steps in a row: after a step under it at most 8 more are left, and fewer than before.
pub record SpendsMask (hold : ℕ) (masked : Bool) (hold' : ℕ) (masked' : Bool) : Type 0 where
  pub at_most : masked' ≡ true → hold' ≤ 8
  pub fewer : masked ≡ true → masked' ≡ true → hold' < hold
