-- What a run's machine steps give besides `StepFits`, so that `StepMade` follows for each of them.
use Rattle.std.specs.Prelude.{◌≡◌, ◌<◌, ◌≤◌, ℕ, Bool, true, false, if◌then◌else◌, List, [], ◌∷◌, ◌++◌, reverse, All}
use Rattle.esc_base.specs.declared.kind.Kind.TheVariants as kind
use Rattle.esc_base.specs.declared.event.Event.{Event}
use Rattle.esc_base.specs.declared.note.Note.{Note}
use Rattle.esc_base.specs.declared.note.Note.TheVariants as note
use Rattle.esc_base.specs.Numbers.{kind_number}
use Rattle.settings_block.specs.declared.stored.Loaded.{Loaded}
use Rattle.esc_laws.specs.Seen.{sees}
use Rattle.esc_laws.specs.Steps.{Turned, journal, open_in, own_steps}
use Rattle.esc_laws.specs.Calls.{calls_pwm, calls_low}
use Rattle.esc_chopping.specs.View.{view, has_leave, pwm_called, comm_called}

-- an O is the last note of its step, and of the step's kind
pub record OneBack (e : Turned) : Type 0 where
  pub front : List Note
  pub back : Bool
  pub none : has_leave front ≡ false
  pub notes_are : e.notes ≡ front ++ (if back then note.Leave (record { 0 = e.tick }) (kind_number e.kind) ∷ [] else [])

-- where the steps say that PWM or COMM is called, the journal shows it due
pub record CallsSeen (loaded : Loaded) (trace : List Event) (log : List Turned) : Type 0 where
  pub pwm : (t : ℕ) → pwm_called (view log) t ≡ true → sees loaded trace (journal loaded log) t kind.Pwm ≡ true
  pub comm : (t : ℕ) → comm_called (view log) t ≡ true → sees loaded trace (journal loaded log) t kind.Comm ≡ true

-- `sees` has the rows of Calls.antt
pub record SeesDrive (loaded : Loaded) (trace : List Event) : Type 0 where
  pub pwm : (notes : List Note) (t : ℕ) → calls_pwm (reverse notes) t ≡ true → sees loaded trace notes t kind.Pwm ≡ true
  pub low : (notes : List Note) (t : ℕ) → calls_low (reverse notes) t ≡ true → sees loaded trace notes t kind.Comm ≡ true

-- what is asked of each step
pub record BridgeFits (loaded : Loaded) (trace : List Event) (before : List Turned) (e : Turned) : Type 0 where
  -- an entry is above each open kind
  pub above : e.enters ≡ true → All (λ j. kind_number j < kind_number e.kind) (open_in loaded before)
  pub one_back : OneBack e
  -- PWM returns from its fifth own step on
  pub pwm_back : e.kind ≡ kind.Pwm → e.enters ≡ false → has_leave e.notes ≡ true → 5 ≤ own_steps kind.Pwm (before ++ e ∷ [])
