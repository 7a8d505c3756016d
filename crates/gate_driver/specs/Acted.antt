-- What one step of a gate program does: its access to the registers, its answer, and the place it leads to.
use Rattle.std.specs.Prelude.{◌≡◌, ◌≤◌, ◌<◌, ℕ, true, false, ◌&&◌, ◌==◌, List}
use Rattle.esc_base.specs.declared.gate.Leg.{Leg}
use Rattle.esc_base.specs.declared.note.Note.{Note}
use Rattle.esc_base.specs.declared.note.Note.TheVariants as note
use Rattle.esc_base.specs.Legs.{is_on, IsApart}
use Rattle.esc_base.specs.Numbers.{as_tick}
use Rattle.timer_regs.specs.Bank.{Bank}
use Rattle.timer_regs.specs.Effects.{written}
use Rattle.timer_regs.specs.Access.{Access, accessed}
use Rattle.timer_regs.specs.Access.Access.{NoAccess, Writes}
use Rattle.timer_regs.specs.declared.regs.Reg.{Reg}
use Rattle.gate_driver.specs.declared.progress.Progress.{Progress}
use Rattle.gate_driver.specs.declared.progress.Progress.TheVariants.{More, Done, Later}
use Rattle.gate_driver.specs.Gated.{Gated, at_leg, gates_after}
use Rattle.gate_driver.specs.DeadSafe.{high_at, low_at, IsSafe, IsTied, with_gate}

pub record Acted (P : Type 0) : Type 0 where
  -- the place of the program after the step
  pub place : P
  pub gates : Gated
  -- its one access to the registers
  pub access : Access
  pub answer : Progress

-- a step that switches nothing, after which the program goes on
abbrev pub goes : {P : Type 0} → P → Gated → Access → Acted P
goes {P} place g access = record { place = place; gates = g; access = access; answer = More }

-- a step that writes a gate register, and notes the switches that went off
abbrev pub switches : {P : Type 0} → P → Gated → Bank → Reg → ℕ → Progress → Acted P
switches {P} place g b r v answer = record { place = place; gates = gates_after g b (written b r v); access = Writes r v; answer = answer }

-- a step that switches nothing, and after which the program is done
abbrev pub ends : {P : Type 0} → P → Gated → Access → Acted P
ends {P} place g access = record { place = place; gates = g; access = access; answer = Done }

-- a step that has a switch to turn on, and may not before t
abbrev pub waits : {P : Type 0} → P → Gated → ℕ → Acted P
waits {P} place g t = record { place = place; gates = g; access = NoAccess; answer = Later (as_tick t) }

-- a step did just this
pub record IsActed {P : Type 0} (before : Bank) (s : Acted P) (answer : Progress) (place : P) (g : Gated) (after : Bank) : Type 0 where
  pub answer_is : answer ≡ s.answer
  pub place_is : place ≡ s.place
  pub gates_are : g ≡ s.gates
  pub bank_is : after ≡ accessed before s.access

-- ---- what each step keeps

-- After the step no leg has both switches on, and where a switch went on, the other one of its leg has been off for 48 ticks.
-- This goes by the off times after the step, so a switch that goes off in this very step has been off for none.
pub record KeepsDeadTime (before : Bank) (g : Gated) (after : Bank) : Type 0 where
  pub apart : IsApart after.hi after.lo
  pub high_waits : (x : Leg) → is_on after.hi x ≡ true → is_on before.hi x ≡ false → at_leg g.lo_free x ≤ before.time
  pub low_waits : (x : Leg) → is_on after.lo x ≡ true → is_on before.lo x ≡ false → at_leg g.hi_free x ≤ before.time

-- the same in a journal: the G that the step makes, if it does, keeps the dead time after the notes before it, and what is kept is
-- again what the notes say
pub record IsSaid (back : List Note) (g : Gated) (after : Bank) : Type 0 where
  pub safe : ((after.hi == high_at back) && (after.lo == low_at back)) ≡ false → IsSafe back (note.Gate (as_tick after.time) after.hi after.lo)
  pub tied : IsTied g after.hi after.lo (with_gate back after.time after.hi after.lo)

-- how many accesses a program has left at most, before and after a step: an answer `More` uses one up and leaves some, after `Done`
-- none is left, and a step that waits leaves as many
pub record Spends (left : ℕ) (answer : Progress) (left' : ℕ) : Type 0 where
  pub more : answer ≡ More → (0 < left') × (left' < left)
  pub done : answer ≡ Done → left' ≡ 0
  pub at_most : left' ≤ left
