-- A law, or what a law is said with: what `Legal` means rests on this.
-- The laws of a note, by their names: what each note behind the two first ones owes to the notes before it and to the trace.
-- A law that doesn't speak of a note computes to `Unit` there.
use Rattle.std.specs.Prelude.{List, reverse}
use Rattle.esc_base.specs.declared.event.Event.{Event}
use Rattle.esc_base.specs.declared.note.Note.{Note}
use Rattle.esc_base.specs.Journal.{Each}
use Rattle.settings_block.specs.declared.stored.Loaded.{Loaded}
use Rattle.commutation.specs.Commutated.{TurnRule}
use Rattle.gate_driver.specs.DeadSafe.{IsSafe}
use Rattle.interrupt_machine.specs.declared.nest.Nest.{Nest}
use Rattle.esc_laws.specs.Place.{Place, place}
use Rattle.esc_laws.specs.Windowed.{WindowRuleAt}
use Rattle.esc_laws.specs.Replied.{ReplyRuleAt}
use Rattle.esc_laws.specs.Driven.{IsDriven}
use Rattle.esc_laws.specs.Crossed.{CrossRule}
use Rattle.esc_laws.specs.Searched.{SearchRule}
use Rattle.esc_laws.specs.Saves.{advance_of, forward_at}
use Rattle.esc_laws.specs.Nested.{NestRuleAt}
use Rattle.esc_laws.specs.Asked.{AskRule}
use Rattle.esc_laws.specs.Steps.{opening}

pub data NoteLaw : Type 0 where
  -- windows and their verdicts
  Windows : NoteLaw
  -- replies to good frames
  Replies : NoteLaw
  -- the dead time
  Safe : NoteLaw
  -- the drive follows the demand and the sector
  Drives : NoteLaw
  -- the changes of sector
  Turns : NoteLaw
  -- accepted crossings, and the search for them
  Crosses : NoteLaw
  Searches : NoteLaw
  -- which activation a note belongs to, and how they nest
  Nests : NoteLaw
  -- what an activation is entered for
  Asks : NoteLaw

-- what each law asks of a note at a place, after these notes with the newest first
abbrev pub rule : NoteLaw → Loaded → Nest → List Event → Place → List Note → Note → Type 0
rule Windows loaded nest trace p back n = WindowRuleAt loaded trace p back n
rule Replies loaded nest trace p back n = ReplyRuleAt trace p back n
rule Safe loaded nest trace p back n = IsSafe back n
rule Drives loaded nest trace p back n = IsDriven back n
rule Turns loaded nest trace p back n = TurnRule (advance_of loaded.settings) (forward_at loaded.settings) back n
rule Crosses loaded nest trace p back n = CrossRule trace (forward_at loaded.settings) back n
rule Searches loaded nest trace p back n = SearchRule trace (forward_at loaded.settings) back n
rule Nests loaded nest trace p back n = NestRuleAt (advance_of loaded.settings) nest p back n
rule Asks loaded nest trace p back n = AskRule loaded trace p back n

-- a note keeps all of them
abbrev pub IsLawful : Loaded → Nest → List Event → Place → List Note → Note → Type 0
IsLawful loaded nest trace p back n = (l : NoteLaw) → rule l loaded nest trace p back n

-- and each note behind the two first ones does
abbrev pub Lawful : Loaded → Nest → List Event → List Note → Type 0
Lawful loaded nest trace rest = Each (λ before n. IsLawful loaded nest trace (place before) (reverse before) n) (opening loaded) rest
