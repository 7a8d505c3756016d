-- What is kept between any two steps of a run: the core, the registers and the open handlers match the trace so far and the
-- machine steps so far, and these steps keep every law.
use Rattle.std.specs.Prelude.{◌≡◌, ◌≢◌, ◌<◌, ◌≤◌, ◌+◌, ℕ, true, false, List, [], All, reverse}
use Rattle.std.proofs.Common.{inl, inr}
use Rattle.esc_base.specs.declared.kind.Kind.{Kind}
use Rattle.esc_base.specs.declared.event.Event.{Event}
use Rattle.esc_base.specs.declared.note.Note.{Note}
use Rattle.esc_base.specs.Flash.{Told}
use Rattle.settings_block.specs.declared.stored.Loaded.{Loaded}
use Rattle.timer_regs.specs.Bank.{Bank}
use Rattle.timer_regs.specs.Effects.{reset, written}
use Rattle.timer_regs.specs.declared.regs.Reg.TheVariants as reg
use Rattle.interrupt_machine.specs.declared.nest.Nest.{Nest}
use Rattle.interrupt_machine.specs.Did.{most}
use Rattle.interrupt_machine.specs.Open.{is_open, IsStack}
use Rattle.interrupt_machine.specs.Response.{Patient}
use Rattle.interrupt_machine.specs.Turn.{Turn}
use Rattle.esc_core.specs.Brain.{Brain}
use Rattle.esc_core.specs.Calls.{IsMade}
use Rattle.esc_core.specs.Firmware.{core_step, core_asked, entered_core, left_of, waits_of}
use Rattle.esc_laws.specs.Said.{Said}
use Rattle.esc_laws.specs.Seen.{sees}
use Rattle.esc_laws.specs.Steps.{Turned, stall_end, notes_in, journal, open_in, free, after, uses, own_steps, steps_since, entered_at, called, EachStep, StepFits, Awaits, Below}
use Rattle.esc_rooms.specs.Tied.{Keeps, WordTold}
use Rattle.esc_rooms.specs.ChopSteps.{ChopFits}
use Rattle.esc_laws.specs.Looks.{made}
use Rattle.esc_rooms.specs.World.{world}
use Rattle.esc_rooms.specs.Rooms.{Past, Ground, Tie}

-- the registers at the start of a run: the first window is open in mode 0
abbrev pub first_bank : Bank
first_bank = written reset reg.CapArm 0

-- the journal keeps its laws, and is no later than now
pub record Marks (loaded : Loaded) (nest : Nest) (trace : List Event) (b : Bank) (stack : List Kind) (log : List Turned) : Type 0 where
  pub said : Said loaded nest trace b.time (notes_in log)
  pub stack_is : stack ≡ open_in loaded log

-- `next` is the tick of the next step, or earlier than it while nothing is due
pub record Logged (loaded : Loaded) (nest : Nest) (cost : ℕ) (trace : List Event) (next : ℕ) (c : Brain) (b : Bank) (stack : List Kind)
    (log : List Turned) : Type 0 where
  pub keeps : Keeps c b stack
  pub sorted : IsStack stack
  pub marks : Marks loaded nest trace b stack log
  pub gates : WordTold c b (reverse (journal loaded log))
  pub ground : Ground (world loaded nest trace c b log)
  pub ties : (k : Kind) → Tie k (world loaded nest trace c b log)
  pub patient : Patient nest c.hold b.masked stack (sees loaded trace (journal loaded log) b.time) (called loaded nest trace log)
  pub owes : (k : Kind) → is_open stack k ≡ true → own_steps k log + left_of c k ≤ most k
  pub reached : (k : Kind) → is_open stack k ≡ true → after cost trace log ≡ uses cost trace (steps_since k log + 1) (entered_at k log)
  -- and the newest step stands where the step cost and the stalls lead from the entry
  pub reached_by : (k : Kind) → is_open stack k ≡ true → (t : ℕ) → Below t log → uses cost trace (steps_since k log) (entered_at k log) < t
  pub fits : EachStep (StepFits loaded nest cost trace) [] log
  pub drives : EachStep (ChopFits loaded) [] log
  pub past : after cost trace log ≤ next
  pub made_past : Past (made log) next
  pub awaits : Awaits loaded cost trace next log
  pub time : b.time ≤ next
  -- from now to the next step there is no tick that a step could have
  pub put_off : (u : ℕ) → b.time ≤ u → u < next → after cost trace log ≤ u → free trace u ≢ u
  -- all stalls are over at the next step
  pub stalls : All (λ e. stall_end e ≤ next) trace
  -- while a kind is open the next step stands at the next tick
  pub at_next : stack ≢ [] → next ≡ after cost trace log

-- one step of the machine over the core, and what the flash tells before and after it
abbrev pub CoreTurn : Nest → Brain → List Kind → Bank → Told → List Note → Brain → List Kind → Bank → Told → Type 0
CoreTurn nest c stack b flash notes c' stack' b' flash' =
    Turn (λ x k y. y ≡ entered_core x k) (λ x a f k did y a' f'. IsMade (λ answers. core_step k answers x a) (core_asked k x a) a f did y a' f')
    waits_of nest c stack b flash notes c' stack' b' flash'

-- the log's entry for a step, at a tick
abbrev pub turned : {nest : Nest} {c c' : Brain} {stack stack' : List Kind} {b b' : Bank} {flash flash' : Told} → ℕ → (notes : List Note)
    → CoreTurn nest c stack b flash notes c' stack' b' flash' → Turned
turned t notes (inl e) = record { tick = t; kind = e.0; enters = true; notes = notes }
turned t notes (inr e) = record { tick = t; kind = e.0; enters = false; notes = notes }
