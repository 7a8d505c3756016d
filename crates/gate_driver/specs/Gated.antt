-- What is kept of the gates, and when a switch may turn on.
use Rattle.std.specs.Prelude.{ℕ, ◌+◌, Bool, not, ◌&&◌, if◌then◌else◌, nat_lt, Option, Some, None}
use Rattle.esc_base.specs.declared.gate.Leg.{Leg}
use Rattle.esc_base.specs.declared.gate.Leg.TheVariants as leg
use Rattle.esc_base.specs.Legs.{is_on}
use Rattle.esc_base.specs.Times.{dead_time}
use Rattle.timer_regs.specs.Bank.{Bank}

-- a tick for each leg
pub record Legs : Type 0 where
  pub a : ℕ
  pub b : ℕ
  pub c : ℕ

abbrev pub at_leg : Legs → Leg → ℕ
at_leg f leg.A = f.a
at_leg f leg.B = f.b
at_leg f leg.C = f.c

abbrev pub no_legs : Legs
no_legs = record { a = 0; b = 0; c = 0 }

-- For each high switch, and for each low one, the tick from which on it no longer keeps the other switch of its leg off: 48
-- after it last went off, 0 if it never did.
pub record Gated : Type 0 where
  pub hi_free : Legs
  pub lo_free : Legs

abbrev pub never_off : Gated
never_off = record { hi_free = no_legs; lo_free = no_legs }

-- ---- a word of switches becomes another one at t: the ones that are no longer on went off then

abbrev pub went_off : ℕ → ℕ → Leg → Bool
went_off word word' x = is_on word x && not (is_on word' x)

abbrev pub free_after : ℕ → ℕ → Leg → ℕ → ℕ → ℕ
free_after word word' x t free = if went_off word word' x then t + dead_time else free

abbrev pub offs : Legs → ℕ → ℕ → ℕ → Legs
offs f word word' t = record { a = free_after word word' leg.A t f.a; b = free_after word word' leg.B t f.b; c = free_after word word' leg.C t f.c }

-- what is kept after a step from the first registers to the second
abbrev pub gates_after : Gated → Bank → Bank → Gated
gates_after g b b' = record { hi_free = offs g.hi_free b.hi b'.hi b.time; lo_free = offs g.lo_free b.lo b'.lo b.time }

-- ---- when a switch may turn on

-- None where it may now. Else the other switch of its leg is on, or went off less than 48 ticks before, and it may from that
-- tick on; with the other one on no tick is known, and it is 48 after now.
abbrev pub wait_of : ℕ → ℕ → Leg → ℕ → Option ℕ
wait_of other free x t = if is_on other x then Some (t + dead_time) else if nat_lt t free then Some free else None

abbrev pub high_wait : Gated → Bank → Leg → Option ℕ
high_wait g b x = wait_of b.lo (at_leg g.lo_free x) x b.time

abbrev pub low_wait : Gated → Bank → Leg → Option ℕ
low_wait g b x = wait_of b.hi (at_leg g.hi_free x) x b.time
