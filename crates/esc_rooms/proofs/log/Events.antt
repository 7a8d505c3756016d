-- The log stands as it is while time goes on, and as the trace grows.
use Rattle.std.proofs.Common.{◌≡◌, ◌≤◌, ℕ, Bool, true, false, if◌then◌else◌, List, [], ◌∷◌, ◌++◌, All, ◌<◌, Some, refl, sym, ◌∙◌, arith}
use Rattle.esc_base.specs.declared.kind.Kind.{Kind}
use Rattle.esc_base.specs.declared.event.Event.{Event}
use Rattle.esc_base.specs.declared.event.Event.TheVariants as event
use Rattle.esc_base.specs.Journal.{time_of}
use Rattle.esc_base.specs.Trace.{tick_of, differ}
use Rattle.esc_base.specs.Numbers.{as_tick}
use Rattle.edge_capture.specs.Window.{after_edge}
use Rattle.settings_block.specs.declared.stored.Loaded.{Loaded}
use Rattle.timer_regs.specs.Bank.{Bank}
use Rattle.timer_regs.specs.Rest.{put_off}
use Rattle.timer_regs.specs.Effects.{advanced}
use Rattle.interrupt_machine.specs.declared.nest.Nest.{Nest}
use Rattle.interrupt_machine.specs.Response.{Patient}
use Rattle.interrupt_machine.proofs.Waiting.{grow_patient, same_patient}
use Rattle.esc_core.specs.Brain.{Brain}
use Rattle.esc_laws.specs.Seen.{sees}
use Rattle.esc_laws.specs.Steps.{Turned, notes_in, journal, called, Below}
use Rattle.esc_base.specs.declared.note.Note.{Note}
use Rattle.esc_rooms.specs.Tied.{Keeps, WordTold}
use Rattle.esc_rooms.specs.World.{after_event}
use Rattle.esc_rooms.specs.Logged.{Marks}
use Rattle.esc_laws.proofs.Pushes.{All-later}
use Rattle.esc_laws.proofs.NotesGrow.{keeps_grow as notes_grow}
use Rattle.esc_laws.proofs.StepGrowth.{count_before}

-- ---- time goes on

pub keeps_later : (c : Brain) (b : Bank) (stack : List Kind) (u : ℕ) → Keeps c b stack → Keeps c (advanced b u) stack
keeps_later c b stack u k = record { hold = k.hold; enough = k.enough; masked = k.masked; live = k.live; shut = k.shut }

pub marks_later : (loaded : Loaded) (nest : Nest) (trace : List Event) (b : Bank) (stack : List Kind) (log : List Turned) (u : ℕ) → b.time ≤ u
    → Marks loaded nest trace b stack log → Marks loaded nest trace (advanced b u) stack log
marks_later loaded nest trace b stack log u le m = record {
  said = record { in_time = m.said.in_time; keeps = m.said.keeps; past = All-later time_of (journal loaded log) b.time u le m.said.past };
  stack_is = m.stack_is;
}

pub patient_later : (loaded : Loaded) (nest : Nest) (trace : List Event) (c : Brain) (b : Bank) (stack : List Kind) (log : List Turned) (u : ℕ) → b.time ≤ u
    → Patient nest c.hold b.masked stack (sees loaded trace (journal loaded log) b.time) (called loaded nest trace log)
    → Patient nest c.hold b.masked stack (sees loaded trace (journal loaded log) u) (called loaded nest trace log)
patient_later loaded nest trace c b stack log u le p =
    grow_patient nest stack (sees loaded trace (journal loaded log) b.time) (sees loaded trace (journal loaded log) u) b.masked c.hold
    (called loaded nest trace log) p

-- ---- an event at now

record SameRegs (b b' : Bank) : Type 0 where
  time : b'.time ≡ b.time
  masked : b'.masked ≡ b.masked
  high : b'.hi ≡ b.hi
  low : b'.lo ≡ b.lo

same_regs : (b : Bank) (e : Event) → SameRegs b (after_event b e)
same_regs b (event.Edge at level) =
    by_test (differ b.level level) (record b {
      level = level;
      window = after_edge b.window
          (record { t = as_tick b.time; level = level });
      timer = put_off b.timer b.time;
      changed = Some b.time;
    })
    (record { time = refl; masked = refl; high = refl; low = refl })
  where
    by_test : (v : Bool) (b' : Bank) → SameRegs b b' → SameRegs b (if v then b' else b)
    by_test true b' s = s
    by_test false b' s = record { time = refl; masked = refl; high = refl; low = refl }
same_regs b (event.Comp at level) =
    by_test (differ b.comp level) (record b { comp = level; comp_changed = true }) (record { time = refl; masked = refl; high = refl; low = refl })
  where
    by_test : (v : Bool) (b' : Bank) → SameRegs b b' → SameRegs b (if v then b' else b)
    by_test true b' s = s
    by_test false b' s = record { time = refl; masked = refl; high = refl; low = refl }
same_regs b (event.Serial at byte) = record { time = refl; masked = refl; high = refl; low = refl }
same_regs b (event.Stall at n) = record { time = refl; masked = refl; high = refl; low = refl }

pub event_time : (b : Bank) (e : Event) → (after_event b e).time ≡ b.time
event_time b e = (same_regs b e).time

pub patient_grows : (loaded : Loaded) (nest : Nest) (trace : List Event) (e : Event) (c : Brain) (b : Bank) (stack : List Kind) (log : List Turned)
    → tick_of e ≡ b.time → Below (tick_of e) log
    → Patient nest c.hold b.masked stack (sees loaded trace (journal loaded log) b.time) (called loaded nest trace log)
    → Patient nest c.hold (after_event b e).masked stack (sees loaded (trace ++ e ∷ []) (journal loaded log) (after_event b e).time)
    (called loaded nest (trace ++ e ∷ []) log)
patient_grows loaded nest trace e c b stack log at below p =
    let same : SameRegs b (after_event b e) = same_regs b e in
    rw (same.masked, same.time)
    (same_patient nest c.hold b.masked stack (sees loaded (trace ++ e ∷ []) (journal loaded log) b.time) (called loaded nest trace log)
    (called loaded nest (trace ++ e ∷ []) log) (λ k. count_before loaded nest trace e log k below)
    (grow_patient nest stack (sees loaded trace (journal loaded log) b.time) (sees loaded (trace ++ e ∷ []) (journal loaded log) b.time) b.masked c.hold
    (called loaded nest trace log) p))

pub marks_grow : (loaded : Loaded) (nest : Nest) (trace : List Event) (e : Event) (b : Bank) (stack : List Kind) (log : List Turned) → tick_of e ≡ b.time
    → All (λ n. time_of n < tick_of e) (notes_in log) → Marks loaded nest trace b stack log → Marks loaded nest (trace ++ e ∷ []) (after_event b e) stack log
marks_grow loaded nest trace e b stack log at below m = record {
  said = record {
    in_time = m.said.in_time;
    keeps = notes_grow loaded nest trace e (notes_in log) below m.said.keeps;
    past = All-later time_of (journal loaded log) b.time (after_event b e).time (let s = event_time b e in omega arith) m.said.past;
  };
  stack_is = m.stack_is;
}

pub told_grows : (e : Event) (c : Brain) (b : Bank) (back : List Note) → WordTold c b back → WordTold c (after_event b e) back
told_grows e c b back t = let same : SameRegs b (after_event b e) = same_regs b e in rw (same.high, same.low) t

pub keeps_grow : (e : Event) (c : Brain) (b : Bank) (stack : List Kind) → Keeps c b stack → Keeps c (after_event b e) stack
keeps_grow e c b stack k =
    let same : SameRegs b (after_event b e) = same_regs b e in
    record {
      hold = k.hold;
      enough = λ m. k.enough (sym same.masked ∙ m);
      masked = λ j n. (same.masked ∙ (k.masked j n).0, (k.masked j n).1);
      live = k.live;
      shut = k.shut;
    }
