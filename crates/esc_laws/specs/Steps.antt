-- A law, or what a law is said with: what `Legal` means rests on this.
-- The machine's steps in their order, each with its tick, its kind and its notes: the journal is the first two notes and those
-- of all steps, joined. The program keeps no such list; contracts speak of it. Each count is a fold over it.
use Rattle.std.specs.Prelude.{◌≡◌, ◌≢◌, ◌<◌, ◌≤◌, ◌+◌, ℕ, zero, suc, Bool, true, false, ◌&&◌, ◌==◌, if◌then◌else◌, nat_lt, nat_le, List, [], ◌∷◌, ◌++◌, length, Option, Some, None, All}
use Rattle.std.specs.List.{fold, flat_map}
use Rattle.esc_base.specs.declared.kind.Kind.{Kind}
use Rattle.esc_base.specs.declared.event.Event.{Event}
use Rattle.esc_base.specs.declared.event.Event.TheVariants as event
use Rattle.esc_base.specs.declared.note.Note.{Note}
use Rattle.esc_base.specs.declared.note.Note.TheVariants as note
use Rattle.esc_base.specs.Numbers.{kind_number, as_tick}
use Rattle.esc_base.specs.Journal.{time_of}
use Rattle.settings_block.specs.declared.block.BlockFault.{BlockFault}
use Rattle.settings_block.specs.declared.block.BlockFault.TheVariants.{Marker, Version, Range}
use Rattle.settings_block.specs.declared.stored.Loaded.{Loaded}
use Rattle.interrupt_machine.specs.declared.nest.Nest.{Nest}
use Rattle.interrupt_machine.specs.Did.{most}
use Rattle.interrupt_machine.specs.Open.{innermost, is_open}
use Rattle.interrupt_machine.specs.Response.{is_waiting, wait_next}
use Rattle.esc_laws.specs.Place.{place}
use Rattle.esc_laws.specs.Seen.{sees}

-- one step of the machine: an entry of the kind, or a step of its own
pub record Turned : Type 0 where
  pub tick : ℕ
  pub kind : Kind
  pub enters : Bool
  pub notes : List Note

-- the number of what the load of the settings gave: those that were read, or the default ones with the block's fault
abbrev pub load_number : Option BlockFault → ℕ
load_number None = 0
load_number (Some Marker) = 1
load_number (Some Version) = 2
load_number (Some (Range offset)) = 3

-- the two first notes: the load of the settings, and the first window
abbrev pub first_notes : Option BlockFault → List Note
first_notes fault = note.Up (as_tick 0) (load_number fault) ∷ note.Window (as_tick 0) 0 ∷ []

abbrev pub opening : Loaded → List Note
opening loaded = first_notes loaded.fault

abbrev pub notes_in : List Turned → List Note
notes_in log = flat_map (λ e. e.notes) log

abbrev pub journal : Loaded → List Turned → List Note
journal loaded log = opening loaded ++ notes_in log

abbrev pub open_in : Loaded → List Turned → List Kind
open_in loaded log = (place (journal loaded log)).stack

-- ---- the tick of the next step

-- a tick is put off to the end of a stall that it lies in
abbrev pub past_stall : ℕ → Event → ℕ
past_stall t (event.Stall at n) = if nat_le at.0 t && nat_lt t (at.0 + n) then at.0 + n else t
past_stall t (event.Edge at level) = t
past_stall t (event.Comp at level) = t
past_stall t (event.Serial at byte) = t

-- the tick at which an event's stall is over, 0 for one that is none
abbrev pub stall_end : Event → ℕ
stall_end (event.Stall at n) = at.0 + n
stall_end e = 0

-- the least tick from t on that lies in no stall, for stalls in the order of their ticks
unfoldable pub free : List Event → ℕ → ℕ
free trace t = fold past_stall t trace

-- the earliest tick of the step after one at t: the step cost later, and past any stall
abbrev pub next_step : ℕ → List Event → ℕ → ℕ
next_step cost trace t = free trace (t + cost)

-- the earliest tick of the step after these steps
unfoldable pub after : ℕ → List Event → List Turned → ℕ
after cost trace log = fold (λ n e. next_step cost trace e.tick) (free trace 0) log

-- the earliest tick of the m-th next step after one at t
abbrev pub uses : ℕ → List Event → ℕ → ℕ → ℕ
uses cost trace zero t = t
uses cost trace (suc m) t = next_step cost trace (uses cost trace m t)

-- ---- counts over the log

abbrev pub is_of : Kind → Turned → Bool
is_of k e = kind_number k == kind_number e.kind

-- how many own steps a kind has made since its newest entry
abbrev pub own_next : Kind → ℕ → Turned → ℕ
own_next k n e = if is_of k e then (if e.enters then 0 else n + 1) else n

unfoldable pub own_steps : Kind → List Turned → ℕ
own_steps k log = fold (own_next k) 0 log

-- the tick of a kind's newest entry
abbrev pub entered_next : Kind → ℕ → Turned → ℕ
entered_next k t e = if e.enters && is_of k e then e.tick else t

unfoldable pub entered_at : Kind → List Turned → ℕ
entered_at k log = fold (entered_next k) 0 log

-- how many steps have been made since a kind's newest entry
abbrev pub since_next : Kind → ℕ → Turned → ℕ
since_next k n e = if e.enters && is_of k e then 0 else n + 1

unfoldable pub steps_since : Kind → List Turned → ℕ
steps_since k log = fold (since_next k) 0 log

-- a kind is seen due and isn't open, at a tick after these steps
abbrev pub is_called : Loaded → List Event → List Turned → ℕ → Kind → Bool
is_called loaded trace log t k = is_waiting (sees loaded trace (journal loaded log) t) (open_in loaded log) k

-- for how many counted steps a kind has been called
abbrev pub called_next : Loaded → Nest → List Event → Kind → List Turned → ℕ → Turned → ℕ
called_next loaded nest trace k before n e =
    wait_next nest k (is_called loaded trace before e.tick k) (is_called loaded trace (before ++ e ∷ []) e.tick k) (Some e.kind) n

abbrev pub called_from : Loaded → Nest → List Event → Kind → List Turned → ℕ → List Turned → ℕ
called_from loaded nest trace k before n [] = n
called_from loaded nest trace k before n (e ∷ rest) = called_from loaded nest trace k (before ++ e ∷ []) (called_next loaded nest trace k before n e) rest

unfoldable pub called : Loaded → Nest → List Event → List Turned → Kind → ℕ
called loaded nest trace log k = called_from loaded nest trace k [] 0 log

-- ---- the rules of each step, which look at it and at the steps before

abbrev pub EachStep : (List Turned → Turned → Type 0) → List Turned → List Turned → Type 0
EachStep P before [] = Unit {0}
EachStep P before (e ∷ rest) = P before e × EachStep P (before ++ e ∷ []) rest

abbrev pub is_entry : Note → Bool
is_entry (note.Enter t k) = true
is_entry n = false

-- only the last note is an O, where one is, and it is the kind's own
abbrev pub ReturnsLast : Kind → List Note → Type 0
ReturnsLast k [] = Unit {0}
ReturnsLast k (note.Leave t j ∷ rest) = (j ≡ kind_number k) × (rest ≡ [])
ReturnsLast k (n ∷ rest) = ReturnsLast k rest

abbrev pub is_gate : Note → Bool
is_gate (note.Gate t hi lo) = true
is_gate n = false

-- no note but the first is a G: a step changes the gate word once, before anything else that it tells
abbrev pub GateFirst : List Note → Type 0
GateFirst [] = Unit {0}
GateFirst (n ∷ rest) = All (λ m. is_gate m ≡ false) rest

-- a step has no more notes than these: its G, three of a window's verdict or of a control tick, one more, and its return
abbrev pub most_notes : ℕ
most_notes = 6

pub record StepFits (loaded : Loaded) (nest : Nest) (cost : ℕ) (trace : List Event) (before : List Turned) (e : Turned) : Type 0 where
  pub later : after cost trace before ≤ e.tick
  -- no step stands in a stall
  pub free_at : free trace e.tick ≡ e.tick
  -- while a kind is open each step stands at the next tick
  pub open_step : open_in loaded before ≢ [] → e.tick ≡ after cost trace before
  -- while none is open no kind is seen due at an earlier tick outside of stalls, and the step enters the highest kind that
  -- is seen due, or a higher one
  pub idle : open_in loaded before ≡ [] → (t : ℕ) → after cost trace before ≤ t → t < e.tick → free trace t ≡ t → (k : Kind)
      → sees loaded trace (journal loaded before) t k ≡ false
  pub first : open_in loaded before ≡ []
      → (e.enters ≡ true) × ((k : Kind) → sees loaded trace (journal loaded before) e.tick k ≡ true → kind_number k ≤ kind_number e.kind)
  -- an entry is its I note, and other steps are those of the innermost kind
  pub entry : e.enters ≡ true → e.notes ≡ note.Enter (as_tick e.tick) (kind_number e.kind) ∷ []
  pub own : e.enters ≡ false → innermost (open_in loaded before) ≡ Some e.kind
  -- an own step, the return too, is one of the most of its kind; and it stands where `next_step` leads from the entry, which
  -- follows from `open_step`, and is said so that a reader sees the step's tick by the entry alone
  pub reached : e.enters ≡ false → e.tick ≡ uses cost trace (steps_since e.kind (before ++ e ∷ [])) (entered_at e.kind before)
  pub few : e.enters ≡ false → own_steps e.kind (before ++ e ∷ []) ≤ most e.kind
  -- its notes stand at its tick, and an own step has no I, and no O but its own return at its end
  pub at_tick : All (λ n. time_of n ≡ e.tick) e.notes
  pub no_entry : e.enters ≡ false → All (λ n. is_entry n ≡ false) e.notes
  pub returns : e.enters ≡ false → ReturnsLast e.kind e.notes
  pub gate_first : GateFirst e.notes
  pub six : length e.notes ≤ most_notes
  -- no kind that is seen due waits for more than 8 counted steps
  pub patient : (k : Kind) → called loaded nest trace (before ++ e ∷ []) k ≤ 8

-- no step is due at a tick below this one
pub record Awaits (loaded : Loaded) (cost : ℕ) (trace : List Event) (until : ℕ) (log : List Turned) : Type 0 where
  pub open_step : open_in loaded log ≢ [] → until ≤ after cost trace log
  pub idle : open_in loaded log ≡ [] → (t : ℕ) → after cost trace log ≤ t → t < until → free trace t ≡ t → (k : Kind)
      → sees loaded trace (journal loaded log) t k ≡ false

-- an open activation has made fewer own steps than the most of its kind
abbrev pub OpenFew : Loaded → List Turned → Type 0
OpenFew loaded log = (k : Kind) → is_open (open_in loaded log) k ≡ true → own_steps k log < most k

-- each step stands below this tick
abbrev pub Below : ℕ → List Turned → Type 0
Below t log = All (λ e. e.tick < t) log
