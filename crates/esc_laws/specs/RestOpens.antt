-- What the rules of steps, windows and nesting say of the window that is to open when the line has rested.
use Rattle.std.specs.Prelude.{◌≡◌, ◌≢◌, ◌≤◌, ◌+◌, ℕ, false, max, if◌then◌else◌, List, [], ◌∷◌, ◌++◌, Some, All}
use Rattle.esc_base.specs.declared.kind.Kind.TheVariants as kind
use Rattle.esc_base.specs.declared.event.Event.{Event}
use Rattle.esc_base.specs.declared.note.Note.{Note}
use Rattle.esc_base.specs.declared.note.Note.TheVariants as note
use Rattle.esc_base.specs.declared.tick.Tick.{Tick}
use Rattle.esc_base.specs.Trace.{line}
use Rattle.settings_block.specs.declared.stored.Loaded.{Loaded}
use Rattle.interrupt_machine.specs.declared.nest.Nest.{Nest}
use Rattle.interrupt_machine.specs.Open.{is_open}
use Rattle.interrupt_machine.specs.Response.{counts}
use Rattle.esc_laws.specs.Place.{Rests, place}
use Rattle.esc_laws.specs.Rested.{first_rested}
use Rattle.esc_laws.specs.Saves.{advance_of}
use Rattle.esc_laws.specs.Nested.{NestedAfter}
use Rattle.esc_laws.specs.Windowed.{Windowed}
use Rattle.esc_laws.specs.Steps.{Turned, opening, journal, open_in, EachStep, StepFits}

-- how many of these steps count while CAP waits: those of its own kind and of lower ones; with nest 1 those of MAIN
abbrev pub waiting_steps : Nest → List Turned → ℕ
waiting_steps nest [] = 0
waiting_steps nest (e ∷ steps) = (if counts nest kind.Cap (Some e.kind) then 1 else 0) + waiting_steps nest steps

-- The newest F has no W behind it, and its activation, which returned at r, was to set the window timer for a tick from the one
-- to the other. CAP wasn't entered since.
abbrev pub HasNoWindow : Loaded → ℕ → ℕ → ℕ → List Turned → Type 0
HasNoWindow loaded from latest r log =
    ((place (journal loaded log)).signal ≡ Rests from latest r) × (is_open (open_in loaded log) kind.Cap ≡ false)

-- so it stays through these steps, which are made at tick u or later
abbrev pub StaysWithout : Loaded → ℕ → ℕ → ℕ → ℕ → List Turned → List Turned → Type 0
StaysWithout loaded from latest r u before [] = HasNoWindow loaded from latest r before
StaysWithout loaded from latest r u before (e ∷ steps) =
    HasNoWindow loaded from latest r before × (u ≤ e.tick) × StaysWithout loaded from latest r u (before ++ e ∷ []) steps

-- No rest passes without a window: from the first rested tick at or after the latest tick of the pause, or of the reply, and the
-- return, at most 8 steps that count are made before CAP is entered.
abbrev pub RestCallsCap : Type 0
RestCallsCap =
    (loaded : Loaded) (nest : Nest) (cost : ℕ) (trace : List Event) (before through after : List Turned) (from latest r : ℕ)
    → EachStep (StepFits loaded nest cost trace) [] (before ++ (through ++ after))
    → StaysWithout loaded from latest r (first_rested (line trace).edges (max latest r)) before through
    → waiting_steps nest through ≤ 8

-- notes within an activation of CAP that open no window: no W, and no I or O of CAP
abbrev pub OpensNone : Note → Type 0
OpensNone (note.Window t m) = ⊥
OpensNone (note.Enter t k) = k ≢ 3
OpensNone (note.Leave t k) = k ≢ 3
OpensNone n = Unit {0}

-- And what CAP does then is open a window: the activation doesn't return without a W.
abbrev pub CapOpensWindow : Type 0
CapOpensWindow =
    (loaded : Loaded) (nest : Nest) (trace : List Event) (before through after : List Note) (from latest r : ℕ) (t u : Tick)
    → Windowed loaded trace (opening loaded ++ (before ++ (note.Enter t 3 ∷ through ++ note.Leave u 3 ∷ after)))
    → NestedAfter (advance_of loaded.settings) nest (opening loaded) (before ++ (note.Enter t 3 ∷ through ++ note.Leave u 3 ∷ after))
    → (place (opening loaded ++ before)).signal ≡ Rests from latest r
    → All OpensNone through
    → ⊥
