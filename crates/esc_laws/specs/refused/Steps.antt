-- Shown of the laws, and no law.
-- What the rules of steps refuse: wrong steps, and small wrong journals, each with the sentence that it breaks.
use Rattle.std.specs.Prelude.{◌≡◌, ◌<◌, ◌≤◌, ◌+◌, ℕ, true, false, List, [], ◌∷◌, ◌++◌}
use Rattle.esc_base.specs.declared.kind.Kind.{Kind}
use Rattle.esc_base.specs.declared.kind.Kind.TheVariants as kind
use Rattle.esc_base.specs.declared.event.Event.{Event}
use Rattle.esc_base.specs.declared.event.Event.TheVariants as event
use Rattle.esc_base.specs.declared.note.Note.{Note}
use Rattle.esc_base.specs.Numbers.{as_tick, kind_number}
use Rattle.settings_block.specs.declared.stored.Loaded.{Loaded}
use Rattle.interrupt_machine.specs.declared.nest.Nest.{Nest}
use Rattle.interrupt_machine.specs.declared.nest.Nest.TheVariants.{Full}
use Rattle.esc_laws.specs.Steps.{Turned, opening, open_in, own_steps, EachStep, StepFits, OpenFew}
use Rattle.esc_laws.specs.Legal.{Legal, LegalFront}
use Rattle.esc_laws.specs.refused.Notes.{enters, leaves, switches, turns, nothing, ticks, saves}

-- a kind's entry, and an own step with its notes
abbrev pub entry : ℕ → Kind → Turned
entry t k = record { tick = t; kind = k; enters = true; notes = enters t (kind_number k) ∷ [] }

abbrev pub own : ℕ → Kind → List Note → Turned
own t k notes = record { tick = t; kind = k; enters = false; notes = notes }

-- no run makes this step behind those before
abbrev pub Unmade : List Event → List Turned → Turned → Type 0
Unmade trace before e = (loaded : Loaded) (nest : Nest) (cost : ℕ) → StepFits loaded nest cost trace before e → ⊥

-- the window of mode 0 closes at 4200
abbrev pub two_edges : List Event
two_edges = event.Edge (as_tick 100) true ∷ event.Edge (as_tick 200) false ∷ []

-- CAP waits from 4200 on, and TICK goes on for nine steps
abbrev pub cap_waits : List Turned
cap_waits =
    entry 4190 kind.Tick ∷ own 4200 kind.Tick [] ∷ own 4202 kind.Tick [] ∷ own 4204 kind.Tick [] ∷ own 4206 kind.Tick [] ∷ own 4208 kind.Tick []
    ∷ own 4210 kind.Tick []
    ∷ own 4212 kind.Tick [] ∷ own 4214 kind.Tick [] ∷ own 4216 kind.Tick [] ∷ []

-- the window closes at 5000; TICK has worked two control ticks off, and CAP has noted at 5002 that nothing was detected
abbrev pub two_later_edges : List Event
two_later_edges = event.Edge (as_tick 900) true ∷ event.Edge (as_tick 1000) false ∷ []

abbrev pub cap_rests : List Turned
cap_rests =
    entry 2400 kind.Tick ∷ own 2402 kind.Tick (ticks 2402 1 0 0 ∷ leaves 2402 2 ∷ []) ∷ entry 4800 kind.Tick
    ∷ own 4802 kind.Tick (ticks 4802 2 0 0 ∷ leaves 4802 2 ∷ [])
    ∷ entry 5000 kind.Cap ∷ own 5002 kind.Cap (nothing 5002 ∷ leaves 5002 3 ∷ []) ∷ []

-- TICK has started a drive, which calls COMM and PWM, and goes on for nine steps
abbrev pub drive_waits : List Turned
drive_waits =
    entry 2400 kind.Tick ∷ own 2402 kind.Tick (ticks 2402 1 0 20 ∷ []) ∷ own 2404 kind.Tick [] ∷ own 2406 kind.Tick [] ∷ own 2408 kind.Tick []
    ∷ own 2410 kind.Tick [] ∷ own 2412 kind.Tick [] ∷ own 2414 kind.Tick [] ∷ own 2416 kind.Tick [] ∷ own 2418 kind.Tick [] ∷ own 2420 kind.Tick [] ∷ []

-- it has returned
abbrev pub drive_starts : List Turned
drive_starts = entry 2400 kind.Tick ∷ own 2402 kind.Tick (ticks 2402 1 0 20 ∷ leaves 2402 2 ∷ []) ∷ []

pub record StepsRefuse : Type 0 where
  -- an entry is its I and no more, and an own step has none
  pub entry_without_its_note : (trace : List Event) (before : List Turned)
      → Unmade trace before (record { tick = 2400; kind = kind.Tick; enters = true; notes = [] })
  pub entry_that_returns_at_once : (trace : List Event) (before : List Turned)
      → Unmade trace before (record { tick = 2400; kind = kind.Tick; enters = true; notes = enters 2400 2 ∷ leaves 2400 2 ∷ [] })
  pub entry_within_a_step : (trace : List Event) (before : List Turned) → Unmade trace before (own 2402 kind.Tick (enters 2402 3 ∷ []))
  -- only the last note of an own step may be an O, and it is its own kind's: no MAIN saves and returns in a step of TICK
  pub save_within_a_step_of_tick : (trace : List Event) (before : List Turned)
      → Unmade trace before (own 2404 kind.Tick (leaves 2404 2 ∷ saves 2404 0 ∷ leaves 2404 0 ∷ []))
  pub return_of_another_kind : (trace : List Event) (before : List Turned) → Unmade trace before (own 2404 kind.Tick (leaves 2404 0 ∷ []))
  -- its notes stand at its tick
  pub note_at_another_tick : (trace : List Event) (before : List Turned) → Unmade trace before (own 2404 kind.Tick (ticks 2406 1 0 0 ∷ []))
  -- its G is its first note and its only one, and it has six notes at most
  pub gate_behind_a_turn : (trace : List Event) (before : List Turned) → Unmade trace before (own 2404 kind.Comm (turns 2404 1 ∷ switches 2404 0 2 ∷ []))
  pub low_switch_off_and_on : (trace : List Event) (before : List Turned)
      → Unmade trace before (own 2404 kind.Comm (switches 2404 0 0 ∷ switches 2404 0 2 ∷ []))
  pub seven_notes : (trace : List Event) (before : List Turned) (a b c d e f g : Note)
      → Unmade trace before (own 2404 kind.Tick (a ∷ b ∷ c ∷ d ∷ e ∷ f ∷ g ∷ []))
  -- an own step is one of the innermost open kind, also where it has no note: CAP makes none while TICK is open alone
  pub step_of_another_kind : (trace : List Event) → Unmade trace (entry 2400 kind.Tick ∷ []) (own 2402 kind.Cap [])
  -- while no kind is open a step is an entry, of the highest kind that is due or a higher one, at the first tick at which one is
  pub own_step_where_none_is_open : (trace : List Event) → Unmade trace [] (own 2404 kind.Tick [])
  pub main_enters_before_tick : Unmade [] [] (entry 2400 kind.Main)
  pub tick_enters_a_tick_late : Unmade [] [] (entry 2401 kind.Tick)
  pub cap_enters_late_after_nothing : (loaded : Loaded) (nest : Nest) (cost : ℕ) → cost ≤ 1200
      → StepFits loaded nest cost two_later_edges cap_rests (entry 6203 kind.Cap) → ⊥
  -- while one is open, the next step stands at the next tick
  pub own_step_late : (loaded : Loaded) (nest : Nest) → StepFits loaded nest 2 [] (entry 2400 kind.Tick ∷ []) (own 2404 kind.Tick []) → ⊥
  -- steps are as far apart as the cost, and none stands in a stall
  pub step_before_the_cost : (loaded : Loaded) (nest : Nest) (cost : ℕ) (trace : List Event) (before : List Turned) (e later : Turned)
      → later.tick < e.tick + cost → StepFits loaded nest cost trace (before ++ e ∷ []) later → ⊥
  pub step_at_the_start_of_a_stall : (before : List Turned) → Unmade (event.Stall (as_tick 120) 50 ∷ []) before (entry 120 kind.Tick)
  pub step_in_a_stall : (before : List Turned) → Unmade (event.Stall (as_tick 100) 50 ∷ []) before (entry 120 kind.Tick)
  -- an activation of TICK has at most 48 own steps, and fewer while it is open
  pub step_49_of_tick : (trace : List Event) (before : List Turned) (t : ℕ) (notes : List Note) → own_steps kind.Tick before ≡ 48
      → Unmade trace before (own t kind.Tick notes)
  pub open_after_48_steps : (loaded : Loaded) (log : List Turned) → open_in loaded log ≡ kind.Tick ∷ [] → own_steps kind.Tick log ≡ 48 → OpenFew loaded log → ⊥
  -- a kind that is due, and above the open ones, waits for no more than 8 steps of those
  pub cap_waits_for_nine_steps : (loaded : Loaded) (cost : ℕ) → EachStep (StepFits loaded Full cost two_edges) [] cap_waits → ⊥
  pub comm_waits_for_nine_steps : (loaded : Loaded) (cost : ℕ) → EachStep (StepFits loaded Full cost []) [] drive_waits → ⊥
  pub pwm_waits_for_nine_steps : (loaded : Loaded) (cost : ℕ) → EachStep (StepFits loaded Full cost []) [] drive_waits → ⊥
  -- a start calls COMM first
  pub pwm_enters_before_comm : Unmade [] drive_starts (entry 2404 kind.Pwm)
  pub start_waits_for_a_step : (loaded : Loaded) (nest : Nest) → StepFits loaded nest 2 [] drive_starts (entry 2405 kind.Comm) → ⊥
  -- no step that is due is left out
  pub control_tick_left_out : (loaded : Loaded) (nest : Nest) (cost : ℕ) → Legal loaded nest cost [] 2401 (opening loaded) → ⊥
  pub closed_window_left_out : (loaded : Loaded) (nest : Nest) (cost : ℕ) → cost ≤ 16
      → Legal loaded nest cost two_edges 4201 (opening loaded ++ (enters 2400 2 ∷ ticks 2402 1 0 0 ∷ leaves 2402 2 ∷ [])) → ⊥
  -- nor before the step whose notes a failed write broke off
  pub broken_step_too_late : (loaded : Loaded) (nest : Nest) (cost : ℕ) → LegalFront loaded nest cost [] (opening loaded ++ enters 4800 2 ∷ []) → ⊥
