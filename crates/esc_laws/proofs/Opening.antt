-- The two first notes.
use Rattle.std.proofs.Common.{◌≡◌, ◌≤◌, ℕ, List, [], ◌∷◌, refl, arith, lit<, All, Option, Some, None}
use Rattle.std.proofs.lemmas.List.Elements.{All-nil, All-cons}
use Rattle.esc_base.specs.declared.event.Event.{Event}
use Rattle.esc_base.specs.declared.note.Note.TheVariants as note
use Rattle.esc_base.specs.Range.{InRange}
use Rattle.esc_base.specs.Journal.{Journal, time_of}
use Rattle.esc_base.specs.Numbers.{as_tick}
use Rattle.settings_block.specs.declared.block.BlockFault.{BlockFault}
use Rattle.settings_block.specs.declared.block.BlockFault.TheVariants.{Marker, Version, Range}
use Rattle.settings_block.specs.declared.stored.Loaded.{Loaded}
use Rattle.interrupt_machine.specs.declared.nest.Nest.{Nest}
use Rattle.esc_laws.specs.Place.{Listens, place, nowhere}
use Rattle.esc_laws.specs.Steps.{first_notes, load_number, opening}
use Rattle.esc_laws.specs.Windowed.{Windowed}
use Rattle.esc_laws.specs.Said.{Said}

pub place-opening : (loaded : Loaded) → place (opening loaded) ≡ record nowhere { signal = Listens 0 0; windows = 1; last = 0 }
unfolding place
place-opening loaded = refl

pub place-up : (r : ℕ) → place (note.Up (as_tick 0) r ∷ []) ≡ nowhere
unfolding place
place-up r = refl

pub first_in_range : (fault : Option BlockFault) → All InRange (first_notes fault)
first_in_range fault =
    All-cons InRange (note.Up (as_tick 0) (load_number fault)) (note.Window (as_tick 0) 0 ∷ []) (refl, few_numbers fault)
    (All-cons InRange (note.Window (as_tick 0) 0) [] (lit< tt, omega arith) (All-nil InRange))
  where
    few_numbers : (fault : Option BlockFault) → load_number fault ≤ 3
    few_numbers None = omega arith
    few_numbers (Some Marker) = omega arith
    few_numbers (Some Version) = omega arith
    few_numbers (Some (Range offset)) = omega arith

pub opening_in_time : (loaded : Loaded) → Journal (opening loaded)
opening_in_time loaded = (
  All-nil (λ b. time_of b ≤ 0),
  (All-cons (λ b. time_of b ≤ 0) (note.Up (as_tick 0) (load_number loaded.fault)) [] (omega arith) (All-nil (λ b. time_of b ≤ 0)), tt),
)

pub opening_windowed : (loaded : Loaded) (trace : List Event) → Windowed loaded trace (opening loaded)
opening_windowed loaded trace = (tt, (rw (place-up (load_number loaded.fault)) (refl, refl), tt))

-- the two first notes, for any trace and up to any tick
pub start_said : (loaded : Loaded) (nest : Nest) (trace : List Event) (t : ℕ) → Said loaded nest trace t []
start_said loaded nest trace t = record {
  in_time = opening_in_time loaded;
  keeps = tt;
  past = All-cons (λ n. time_of n ≤ t) (note.Up (as_tick 0) (load_number loaded.fault)) (note.Window (as_tick 0) 0 ∷ []) (omega arith)
      (All-cons (λ n. time_of n ≤ t) (note.Window (as_tick 0) 0) [] (omega arith) (All-nil (λ n. time_of n ≤ t)));
}
