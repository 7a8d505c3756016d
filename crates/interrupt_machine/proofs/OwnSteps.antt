-- A step of the innermost open handler, put together.
use Rattle.std.proofs.Common.{◌≡◌, ℕ, Bool, false, List, ◌++◌, Some, None, refl}
use Rattle.esc_base.specs.declared.kind.Kind.{Kind}
use Rattle.esc_base.specs.declared.note.Note.{Note}
use Rattle.esc_base.specs.Flash.{Told}
use Rattle.interrupt_machine.specs.declared.firmware.Own.{Own}
use Rattle.timer_regs.specs.Bank.{Bank}
use Rattle.interrupt_machine.specs.declared.firmware.Did.{Did}
use Rattle.interrupt_machine.specs.declared.firmware.Did.TheVariants.{More, Return}
use Rattle.interrupt_machine.specs.declared.nest.Nest.{Nest}
use Rattle.interrupt_machine.specs.Did.{notes_of, MakesOneAccess}
use Rattle.interrupt_machine.specs.Open.{innermost, outer_ones, next_entry, due_now}
use Rattle.interrupt_machine.specs.Turn.{OwnStep, gate_note, leave_note, open_after}
use Rattle.interrupt_machine.proofs.OpenKinds.{innermost_first}

pub own_is : {F : Type 0} (made : F → Bank → Told → Kind → Did → F → Bank → Told → Type 0) (waits : F → Bool) (nest : Nest) (old new : F)
    (stack stack' : List Kind) (b a : Bank) (flash flash' : Told) (k : Kind) (did : Did) (gates notes : List Note) (hi lo : ℕ)
    → (b.masked ≡ false → next_entry nest stack (due_now (waits old) b) ≡ None)
    → innermost stack ≡ Some k
    → made old b flash k did new a flash'
    → MakesOneAccess b a
    → stack' ≡ open_after k (outer_ones stack) did
    → hi ≡ b.hi → lo ≡ b.lo
    → gates ≡ gate_note hi lo a
    → notes ≡ (gates ++ notes_of did) ++ leave_note a k did
    → (kind : Kind) × (outer : List Kind) × (d : Did) × OwnStep made waits nest old stack b flash kind outer d notes new stack' a flash'
own_is made waits nest old new stack stack' b a flash flash' k did gates notes hi lo none i m one s h l g n = (
  k,
  outer_ones stack,
  did,
  record {
    none_enters = none;
    innermost_is = innermost_first stack k i;
    stepped = m;
    one_access = one;
    stack_is = s;
    notes_are = rw (n, g, h, l) refl;
  },
)

-- the stack of an activation that goes on
pub goes_on : (stack : List Kind) (k : Kind) (did : Did) (own : Own) → innermost stack ≡ Some k → did ≡ More own
    → stack ≡ open_after k (outer_ones stack) did
goes_on stack k did own i e = rw e (innermost_first stack k i)

-- and of one that returned
pub went_back : (stack stack' : List Kind) (k : Kind) (did : Did) (own : Own) → stack' ≡ outer_ones stack → did ≡ Return own
    → stack' ≡ open_after k (outer_ones stack) did
went_back stack stack' k did own s e = rw e s
