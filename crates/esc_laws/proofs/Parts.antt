-- What a lawful journal keeps law by law, from its first note on: as each law is stated on whole journals.
use Rattle.std.proofs.Common.{List, ◌++◌, reverse}
use Rattle.esc_base.specs.declared.event.Event.{Event}
use Rattle.esc_base.specs.declared.note.Note.{Note}
use Rattle.esc_base.specs.Journal.{Each}
use Rattle.settings_block.specs.declared.stored.Loaded.{Loaded}
use Rattle.commutation.specs.Commutated.{Commutated}
use Rattle.gate_driver.specs.DeadSafe.{DeadSafe}
use Rattle.interrupt_machine.specs.declared.nest.Nest.{Nest}
use Rattle.esc_laws.specs.Place.{place}
use Rattle.esc_laws.specs.Windowed.{Windowed}
use Rattle.esc_laws.specs.Replied.{Replied}
use Rattle.esc_laws.specs.Driven.{Driven}
use Rattle.esc_laws.specs.Crossed.{Crossed}
use Rattle.esc_laws.specs.Searched.{Searched}
use Rattle.esc_laws.specs.Saves.{advance_of, forward_at}
use Rattle.esc_laws.specs.Nested.{NestedAfter}
use Rattle.esc_laws.specs.NoteLaw as law
use Rattle.esc_laws.specs.NoteLaw.{NoteLaw, rule, IsLawful, Lawful}
use Rattle.esc_laws.specs.Steps.{opening}
use Rattle.esc_laws.proofs.Opening.{opening_windowed}
use Rattle.esc_laws.proofs.Notes.{each_map}

-- one law of each note behind the two first ones
pub one_law : (l : NoteLaw) (loaded : Loaded) (nest : Nest) (trace : List Event) (rest : List Note) → Lawful loaded nest trace rest
    → Each (λ before n. rule l loaded nest trace (place before) (reverse before) n) (opening loaded) rest
one_law l loaded nest trace rest each =
    each_map (λ before n. IsLawful loaded nest trace (place before) (reverse before) n)
    (λ before n. rule l loaded nest trace (place before) (reverse before) n) (λ before n k. k l) (opening loaded) rest each

pub record Parts (loaded : Loaded) (nest : Nest) (trace : List Event) (rest : List Note) : Type 0 where
  pub windowed : Windowed loaded trace (opening loaded ++ rest)
  pub replied : Replied trace (opening loaded ++ rest)
  pub dead_safe : DeadSafe (opening loaded ++ rest)
  pub driven : Driven (opening loaded ++ rest)
  pub commutated : Commutated (advance_of loaded.settings) (forward_at loaded.settings) (opening loaded ++ rest)
  pub crossed : Crossed trace (forward_at loaded.settings) (opening loaded ++ rest)
  pub searched : Searched trace (forward_at loaded.settings) (opening loaded ++ rest)
  pub nested : NestedAfter (advance_of loaded.settings) nest (opening loaded) rest

pub parts : (loaded : Loaded) (nest : Nest) (trace : List Event) (rest : List Note) → Lawful loaded nest trace rest → Parts loaded nest trace rest
parts loaded nest trace rest each =
    let first = opening_windowed loaded trace in
    record {
      windowed = (first.0, (first.1.0, one_law law.Windows loaded nest trace rest each));
      replied = (tt, (tt, one_law law.Replies loaded nest trace rest each));
      dead_safe = (tt, (tt, one_law law.Safe loaded nest trace rest each));
      driven = (tt, (tt, one_law law.Drives loaded nest trace rest each));
      commutated = (tt, (tt, one_law law.Turns loaded nest trace rest each));
      crossed = (tt, (tt, one_law law.Crosses loaded nest trace rest each));
      searched = (tt, (tt, one_law law.Searches loaded nest trace rest each));
      nested = one_law law.Nests loaded nest trace rest each;
    }
