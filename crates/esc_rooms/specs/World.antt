-- What a step finds: the trace, the core, the registers, and the notes so far.
use Rattle.std.specs.Prelude.{ℕ, true, false, if◌then◌else◌, List, [], ◌∷◌, ◌++◌, reverse}
use Rattle.esc_base.specs.declared.kind.Kind.{Kind}
use Rattle.esc_base.specs.declared.event.Event.{Event}
use Rattle.esc_base.specs.declared.event.Event.TheVariants as event
use Rattle.esc_base.specs.declared.note.Note.{Note}
use Rattle.esc_base.specs.declared.note.Note.TheVariants as note
use Rattle.esc_base.specs.Numbers.{kind_number, as_tick}
use Rattle.settings_block.specs.declared.stored.Loaded.{Loaded}
use Rattle.timer_regs.specs.Bank.{Bank}
use Rattle.timer_regs.specs.Effects.{advanced, after_entry, after_line, after_comp}
use Rattle.interrupt_machine.specs.declared.nest.Nest.{Nest}
use Rattle.interrupt_machine.specs.Did.{accessed}
use Rattle.interrupt_machine.specs.Turn.{gate_note}
use Rattle.esc_core.specs.Brain.{Brain}
use Rattle.esc_core.specs.Firmware.{entered_core, counted_down}
use Rattle.esc_core.specs.Stepped.{Stepped}
use Rattle.esc_laws.specs.Place.{Place}
use Rattle.esc_laws.specs.Steps.{Turned, journal}
use Rattle.esc_laws.specs.Looks.{Made, made_next, made, placed}

pub record World : Type 0 where
  pub loaded : Loaded
  pub nest : Nest
  pub trace : List Event
  pub core : Brain
  pub bank : Bank
  -- the notes so far, the newest first
  pub back : List Note
  -- and the steps so far
  pub made : Made

abbrev pub world : Loaded → Nest → List Event → Brain → Bank → List Turned → World
world loaded nest trace c b log =
    record { loaded = loaded; nest = nest; trace = trace; core = c; bank = b; back = reverse (journal loaded log); made = made log }

abbrev pub so_far : World → Place
so_far w = placed w.back

-- notes, the oldest first, on those before
abbrev pub onto : List Note → List Note → List Note
onto [] back = back
onto (n ∷ notes) back = onto notes (n ∷ back)

-- ---- what happens

abbrev pub noted : World → Note → World
noted w n = record w { back = n ∷ w.back }

abbrev pub enters : Kind → ℕ → Note
enters k t = note.Enter (as_tick t) (kind_number k)

abbrev pub after_enter : Kind → World → World
after_enter k w = record w {
  core = entered_core w.core k;
  bank = after_entry w.bank k;
  back = enters k w.bank.time ∷ w.back;
  made = made_next k true w.bank.time w.made;
}

-- the notes of a step, with its return
abbrev pub step_notes : ℕ → Kind → Stepped → List Note
step_notes t k s = s.notes ++ (if s.over then note.Leave (as_tick t) (kind_number k) ∷ [] else [])

-- with the G of a changed gate word, which stands before them
abbrev pub all_notes : Bank → Kind → Stepped → List Note
all_notes b k s = gate_note b.hi b.lo (accessed b s.access) ++ step_notes b.time k s

-- such a G is noted
abbrev pub gated : World → Bank → World
gated w after = noted w (note.Gate (as_tick w.bank.time) after.hi after.lo)

abbrev pub after_step : Kind → World → Stepped → World
after_step k w s = record w {
  core = s.core;
  bank = accessed w.bank s.access;
  back = onto (step_notes w.bank.time k s) w.back;
  made = made_next k false w.bank.time w.made;
}

-- a masked step is counted
abbrev pub counted : World → World
counted w = record w { core = counted_down w.core w.bank }

-- the open kinds after a step
abbrev pub open_left : Kind → List Kind → Stepped → List Kind
open_left k outer s = if s.over then outer else k ∷ outer

abbrev pub at_time : World → ℕ → World
at_time w u = record w { bank = advanced w.bank u }

-- what an event at now leaves of the registers: an edge of the signal line changes them, and one of the comparator; others
-- nothing
abbrev pub line_event : Bank → Event → Bank
line_event b (event.Edge at level) = after_line b level
line_event b e = b

abbrev pub comp_event : Bank → Event → Bank
comp_event b (event.Comp at level) = after_comp b level
comp_event b e = b

abbrev pub after_event : Bank → Event → Bank
after_event b (event.Edge at level) = after_line b level
after_event b (event.Comp at level) = after_comp b level
after_event b e = b

-- an event touches these registers alone
abbrev pub after_outside : World → Event → World
after_outside w e = record w {
  trace = w.trace ++ e ∷ [];
  bank = record w.bank {
    level = (line_event w.bank e).level;
    window = (line_event w.bank e).window;
    timer = (line_event w.bank e).timer;
    changed = (line_event w.bank e).changed;
    comp = (comp_event w.bank e).comp;
    comp_changed = (comp_event w.bank e).comp_changed;
  };
}
