-- For which trace and which log of steps a runner stands, and how its calls go on from there.
use Rattle.std.specs.Prelude.{◌≡◌, ◌<◌, ◌≤◌, ◌+◌, ℕ, List, [], ◌∷◌, ◌++◌, Option, Result, OnOk, OnErr, All, length}
use Rattle.std.specs.Io.KnownBytes.{append_known}
use Rattle.esc_base.specs.declared.event.Event.{Event}
use Rattle.esc_base.specs.declared.note.Note.{Note}
use Rattle.esc_base.specs.Flash.{Told}
use Rattle.esc_base.specs.Journal.{time_of}
use Rattle.esc_base.specs.Range.{InRange}
use Rattle.esc_base.specs.Outside.{AppendsFront, Rose}
use Rattle.trace_text.specs.Text.{note_bytes, Text}
use Rattle.settings_block.specs.declared.stored.Loaded.{Loaded}
use Rattle.interrupt_machine.specs.declared.nest.Nest.{Nest}
use Rattle.esc_laws.specs.Saves.{FlashFits}
use Rattle.esc_laws.specs.Steps.{Turned, notes_in, journal, EachStep, Below}
use Rattle.esc_laws.specs.Legal.{LegalFront}
use Rattle.esc_rooms.specs.Logged.{Logged}
use Rattle.trace_runner.specs.declared.state.Runner.{Runner}
use Rattle.trace_runner.specs.Lines.{TookLines}

-- which kinds may enter while a handler is open
abbrev pub nest_of : Runner → Nest
nest_of r = r.machine.nest

-- the ticks from one step to the next
abbrev pub cost_of : Runner → ℕ
cost_of r = r.cost

-- the tick of the newest event, 0 before the first
abbrev pub newest : Runner → ℕ
newest r = r.limit.0

-- a step stands at least so many ticks after each one before
abbrev pub IsApart : ℕ → List Turned → Turned → Type 0
IsApart cost before e = All (λ d. d.tick + cost ≤ e.tick) before

-- any two of these steps are at least so many ticks apart, all are below a tick, and none has more than six lines
pub record StepBound (cost until : ℕ) (steps : List Turned) : Type 0 where
  pub apart : EachStep (IsApart cost) [] steps
  pub below : Below until steps
  pub few : All (λ e. length e.notes ≤ 6) steps

-- what a run begins with: the settings that were loaded, and what the flash told after the load
pub record Outset : Type 0 where
  pub loaded : Loaded
  pub flash : Told

-- A runner matches a trace and the machine steps of a run that began with these settings and this flash: the core, the registers
-- and the open handlers are as they say; all steps are below the newest event, and each stands by the cost before the next one;
-- the notes' numbers are in range; and what the flash tells now is what the notes say.
pub record Runs (r : Runner) (o : Outset) (now : Told) (trace : List Event) (steps : List Turned) : Type 0 where
  pub logged : Logged o.loaded r.machine.nest r.cost trace r.next.0 r.machine.firmware r.regs r.machine.open_kinds steps
  pub bound : StepBound r.cost r.limit.0 steps
  pub spaced : All (λ e. e.tick + r.cost ≤ r.next.0) steps
  pub in_range : All InRange (journal o.loaded steps)
  pub flash : FlashFits o.loaded o.flash now (journal o.loaded steps)

-- The runner stands for this trace and these steps: besides, no step is due below the newest event.
pub record StandsFor (r : Runner) (o : Outset) (now : Told) (trace : List Event) (steps : List Turned) : Type 0 where
  pub runs : Runs r o now trace steps
  pub reached : r.limit.0 ≤ r.next.0

-- What is left where a write failed: whole steps below a tick and a front of the notes of one more, which is below it too;
-- and the flash is what these notes say.
pub record LeftBelow (o : Outset) (now : Told) (nest : Nest) (cost until : ℕ) (trace : List Event) (notes : List Note) : Type 0 where
  pub legal : LegalFront o.loaded nest cost trace notes
  pub below : All (λ n. time_of n < until) notes
  pub flash : FlashFits o.loaded o.flash now notes

-- The call made some steps: what stood for a trace and steps stands for the trace with these events and for the steps
-- with those at their end, and the sink took the lines of the notes, in order.
pub record GoesOn {K : Type 0} (given : K → Option (List ℕ)) (took : K → List ℕ → K → Type 0) (old new : List Event → List Turned → Type 0)
    (events : List Event) (before after : K) : Type 0 where
  pub log : List Turned
  pub stands : (trace : List Event) (steps : List Turned) → old trace steps → new (trace ++ events) (steps ++ log)
  pub given_is : given after ≡ append_known (given before) (Text (notes_in log))
  pub lines : TookLines took before (notes_in log) after

-- The call wrote some notes, and the sink refused the line of the next one. With this one, the journal of what stood
-- before is as it may be left.
pub record BreaksOff {K : Type 0} (given : K → Option (List ℕ)) (took broke : K → List ℕ → K → Type 0) (loaded : Loaded)
    (old : List Event → List Turned → Type 0) (leaves : List Event → List Note → Type 0) (before after : K) : Type 0 where
  pub notes : List Note
  pub last : Note
  pub left_as : (trace : List Event) (steps : List Turned) → old trace steps → leaves trace (journal loaded steps ++ (notes ++ last ∷ []))
  pub mid : K
  pub lines : TookLines took before notes mid
  pub given_is : given mid ≡ append_known (given before) (Text notes)
  pub refused : broke mid (note_bytes last) after
  pub appended : AppendsFront (given mid) (note_bytes last) (given after)

-- ---- what each call inside of a run keeps

-- the newest event, the nesting and the cost
pub record Kept (old new : Runner) : Type 0 where
  pub limit : new.limit ≡ old.limit
  pub nest : nest_of new ≡ nest_of old
  pub cost : cost_of new ≡ cost_of old

-- the run went on from what it was, or a write failed; the flash told these two before and after
pub record RunsOn {K T E : Type 0} (given : K → Option (List ℕ)) (took broke : K → List ℕ → K → Type 0) (faults : K → ℕ) (old new : Runner)
    (flash flash' : Told) (result : Result T E) (before after : K) : Type 0 where
  pub goes : OnOk result ((o : Outset) → GoesOn given took (Runs old o flash) (Runs new o flash') [] before after)
  pub breaks : OnErr result ((o : Outset) → BreaksOff given took broke o.loaded (Runs old o flash)
      (LeftBelow o flash' (nest_of old) (cost_of old) (newest new)) before after)
  pub failed : OnErr result (Rose (faults before) (faults after))
  pub no_fewer : faults before ≤ faults after
