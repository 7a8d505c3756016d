-- What `run` and `show` read and write, by the status with which they end.
use Rattle.std.specs.Prelude.{◌≡◌, ◌<◌, ◌⊎◌, ℕ, ◌≤◌, List, [], ◌∷◌, ◌++◌, All, Option, Some, None}
use Rattle.std.specs.Io.KnownBytes.{append_known}
use Rattle.esc_base.specs.declared.note.Note.{Note}
use Rattle.esc_base.specs.declared.event.Event.{Event}
use Rattle.esc_base.specs.Flash.{Told}
use Rattle.esc_base.specs.Journal.{time_of}
use Rattle.esc_base.specs.Outside.{AppendsFront}
use Rattle.esc_base.specs.Trace.{tick_of}
use Rattle.trace_text.specs.declared.item.Refusal.{Refusal}
use Rattle.trace_text.specs.declared.item.Refusal.TheVariants as refusal
use Rattle.trace_text.specs.Read.{Reading, Trace, Refused, Read, TakenEvents}
use Rattle.trace_text.specs.Text.{note_bytes, Text}
use Rattle.settings_block.specs.declared.stored.Loaded.{Loaded}
use Rattle.settings_block.specs.Stored.{IsLoaded}
use Rattle.esc_laws.specs.Saves.{FlashFits}
use Rattle.esc_laws.specs.Steps.{opening}
use Rattle.esc_laws.specs.Legal.{Legal, LegalFront}
use Rattle.trace_runner.specs.declared.state.RunConfig.{RunConfig}
use Rattle.trace_runner.specs.Run.{Outset}
use Rattle.am32sim.specs.Words.{Asked, cost_of, nest_of, image_of}
use Rattle.am32sim.specs.Show.{show_text}
use Rattle.am32sim.specs.declared.status.Status.{Status}
use Rattle.am32sim.specs.declared.status.Status.TheVariants as status

-- the tick of the last event, or this one where there is none
abbrev pub last_tick_from : ℕ → List Event → ℕ
last_tick_from t [] = t
last_tick_from t (e ∷ events) = last_tick_from (tick_of e) events

-- the tick of the last event, or 0
abbrev pub last_tick : List Event → ℕ
last_tick events = last_tick_from 0 events

-- where the source told what was left, that text says this
abbrev pub Reads : Option (List ℕ) → Reading → Type 0
Reads None r = Unit {0}
Reads (Some bytes) r = Read bytes ≡ r

-- A run sets out with the settings that were loaded from the flash as it was attached: with the bytes that it holds once it has
-- bound the image. Without an image they are its bytes before. Neither the binding nor the load has failed.
pub record IsOutset (image bound : Option (List ℕ)) (before : Told) (o : Outset) : Type 0 where
  pub holds : o.flash.bytes ≡ bound
  pub as_before : image ≡ None → o.flash.bytes ≡ before.bytes
  pub loaded : IsLoaded o.flash.bytes o.loaded
  pub faults : o.flash.faults ≡ before.faults

-- The text of a journal that is legal for a nesting, a step cost and a trace up to a tick was appended, where the sink tells its bytes; and the flash
-- is now what that journal says.
pub record Wrote (cfg : RunConfig) (o : Outset) (now : Told) (trace : List Event) (until : ℕ) (before after : Option (List ℕ)) : Type 0 where
  pub notes : List Note
  pub legal : Legal o.loaded cfg.nest cfg.cost trace until notes
  pub flash : FlashFits o.loaded o.flash now notes
  pub appended : after ≡ append_known before (Text notes)

pub record IsFrontOf (whole front : List Note) : Type 0 where
  pub rest : List Note
  pub is : whole ≡ front ++ rest

-- whole steps and a front of the notes of one more, all before the events that were not applied
pub record IsLegalFront (cfg : RunConfig) (loaded : Loaded) (trace later : List Event) (notes : List Note) : Type 0 where
  pub legal : LegalFront loaded cfg.nest cfg.cost trace notes
  pub before : All (λ e. All (λ n. time_of n < tick_of e) notes) later

-- such a front, or one of the two first notes
abbrev pub MayBeLeft : RunConfig → Loaded → List Event → List Event → List Note → Type 0
MayBeLeft cfg loaded trace later notes = IsFrontOf (opening loaded) notes ⊎ IsLegalFront cfg loaded trace later notes

-- The text of what may be left was appended without a last part of its last line, which may be empty or the whole line; and
-- the flash is now what these notes say.
pub record WroteFront (cfg : RunConfig) (o : Outset) (now : Told) (trace later : List Event) (before after : Option (List ℕ)) : Type 0 where
  pub notes : List Note
  pub last : Note
  pub left : MayBeLeft cfg o.loaded trace later (notes ++ last ∷ [])
  pub flash : FlashFits o.loaded o.flash now (notes ++ last ∷ [])
  pub front : AppendsFront (append_known before (Text notes)) (note_bytes last) after

-- The whole trace was read, and its journal written.
pub record IsDone (cfg : RunConfig) (o : Outset) (now : Told) (left before after : Option (List ℕ)) : Type 0 where
  pub trace : List Event
  pub end : ℕ
  pub reads : Reads left (Trace trace end)
  pub wrote : Wrote cfg o now trace end before after

-- A line was refused. The journal is that of the events before it, up to the last one's tick.
pub record IsRefused (cfg : RunConfig) (o : Outset) (now : Told) (line : ℕ) (kind : Refusal) (left before after : Option (List ℕ)) : Type 0 where
  pub trace : List Event
  pub reads : Reads left (Refused trace line kind)
  pub wrote : Wrote cfg o now trace (last_tick trace) before after

-- The source failed. The events read are exactly those of the whole lines among the bytes taken, up to the first faulty
-- one, and the journal is theirs.
pub record IsReadFault (cfg : RunConfig) (o : Outset) (now : Told) (left_before left_after before after : Option (List ℕ)) : Type 0 where
  pub trace : List Event
  pub reads : TakenEvents left_before left_after trace
  pub wrote : Wrote cfg o now trace (last_tick trace) before after

-- The sink failed. The events of the whole lines among the bytes taken, up to the first faulty one, are exactly those of the
-- trace and later ones that weren't applied. The journal is the trace's, and breaks off at a note.
pub record IsWriteFault (cfg : RunConfig) (o : Outset) (now : Told) (left_before left_after before after : Option (List ℕ)) : Type 0 where
  pub trace : List Event
  pub later : List Event
  pub reads : TakenEvents left_before left_after (trace ++ later)
  pub wrote : WroteFront cfg o now trace later before after

-- What a run from an outset has read and written, and what the flash tells afterwards. What the source had left before and has
-- left after says which bytes were taken.
abbrev pub RanFrom : RunConfig → Outset → Told → Status → Option (List ℕ) → Option (List ℕ) → Option (List ℕ) → Option (List ℕ) → Type 0
RanFrom cfg o now status.Done left_before left_after before after = IsDone cfg o now left_before before after
RanFrom cfg o now (status.Refused line kind) left_before left_after before after = IsRefused cfg o now line kind left_before before after
RanFrom cfg o now status.ReadFault left_before left_after before after = IsReadFault cfg o now left_before left_after before after
RanFrom cfg o now status.WriteFault left_before left_after before after = IsWriteFault cfg o now left_before left_after before after
RanFrom cfg o now s left_before left_after before after = ⊥

pub record HasRun (cfg : RunConfig) (image bound : Option (List ℕ)) (flash now : Told) (s : Status)
    (left_before left_after before after : Option (List ℕ)) : Type 0 where
  pub outset : Outset
  pub begins : IsOutset image bound flash outset
  pub ran : RanFrom cfg outset now s left_before left_after before after

-- how the words ask for a run to be made
abbrev pub config_of : Asked → RunConfig
config_of a = record { cost = cost_of a; nest = nest_of a }

-- Where the flash failed at the start, nothing was written, and its bytes are as before or as bound; without an image as before.
pub record IsUnattached (image bound : Option (List ℕ)) (flash now : Told) (before after : Option (List ℕ)) : Type 0 where
  pub unwritten : after ≡ before
  pub bytes : (now.bytes ≡ flash.bytes) ⊎ (now.bytes ≡ bound)
  pub bytes_same : image ≡ None → now.bytes ≡ flash.bytes

-- what `run` has done, from the bytes that the flash holds once it has bound the image, what it told before and tells now, what the
-- source had left before and after, and what the sink was given before and after
abbrev pub Ran : Asked → Status → Option (List ℕ) → Told → Told → Option (List ℕ) → Option (List ℕ) → Option (List ℕ) → Option (List ℕ) → Type 0
Ran a status.AttachFault bound flash now left_before left_after before after = IsUnattached (image_of a) bound flash now before after
Ran a s bound flash now left_before left_after before after = HasRun (config_of a) (image_of a) bound flash now s left_before left_after before after

-- ---- show

-- The settings were loaded from the flash as it was attached, it tells the same since, and a text of them was written, whole or a
-- front of it.
pub record HasShown (image bound : Option (List ℕ)) (flash now : Told) (Wrote : List ℕ → Type 0) : Type 0 where
  pub outset : Outset
  pub begins : IsOutset image bound flash outset
  pub same : now ≡ outset.flash
  pub wrote : Wrote (show_text outset.loaded)

-- what `show` has done
abbrev pub Shown : Asked → Status → Option (List ℕ) → Told → Told → Option (List ℕ) → Option (List ℕ) → Type 0
Shown a status.Done bound flash now before after = HasShown (image_of a) bound flash now (λ text. after ≡ append_known before text)
Shown a status.WriteFault bound flash now before after = HasShown (image_of a) bound flash now (λ text. AppendsFront before text after)
Shown a status.AttachFault bound flash now before after = IsUnattached (image_of a) bound flash now before after
Shown a s bound flash now before after = ⊥

-- a fact where a command went on with the flash that it found
abbrev pub OnAttached : Status → Type 0 → Type 0
OnAttached status.Usage P = Unit {0}
OnAttached status.AttachFault P = Unit {0}
OnAttached s P = P

-- a fact where the flash failed at the start
abbrev pub OnAttachFault : Status → Type 0 → Type 0
OnAttachFault status.AttachFault P = P
OnAttachFault s P = Unit {0}

-- a fact where the source failed
abbrev pub OnReadFault : Status → Type 0 → Type 0
OnReadFault status.ReadFault P = P
OnReadFault s P = Unit {0}

-- a fact where the sink failed
abbrev pub OnWriteFault : Status → Type 0 → Type 0
OnWriteFault status.WriteFault P = P
OnWriteFault s P = Unit {0}

-- a fact where the trace ended too early
abbrev pub OnNoEnd : Status → Type 0 → Type 0
OnNoEnd (status.Refused line refusal.NoEnd) P = P
OnNoEnd s P = Unit {0}

-- the source or the sink failed, or the flash at the start
abbrev pub IsFault : Status → Type 0
IsFault status.ReadFault = Unit {0}
IsFault status.WriteFault = Unit {0}
IsFault status.AttachFault = Unit {0}
IsFault s = ⊥
