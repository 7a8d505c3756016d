-- What the rooms use of a step: what all handlers share after a note, and notes that fit.
use Rattle.std.proofs.Common.{◌≡◌, ◌≢◌, ◌∙◌, Bool, true, false, if◌then◌else◌, List, ◌∷◌, None, Some, refl, sym, ap}
use Rattle.esc_base.specs.declared.kind.Kind.{Kind}
use Rattle.esc_base.specs.declared.kind.Kind.TheVariants as kind
use Rattle.esc_base.specs.declared.note.Note.{Note}
use Rattle.arming.specs.Controlled.{IsSave, says}
use Rattle.arming.specs.Stands.{changes_control}
use Rattle.arming.proofs.FrameTies.{other_stands}
use Rattle.interrupt_machine.specs.Open.{innermost, outer_ones}
use Rattle.esc_core.specs.Stepped.{Stepped}
use Rattle.interrupt_machine.specs.Did.{accessed}
use Rattle.gate_driver.proofs.OffTimes.{gates_same}
use Rattle.esc_rooms.specs.World.{World, noted}
use Rattle.esc_rooms.specs.Rooms.{Ground, GatesKeep, StepKeeps, LineTied}
use Rattle.esc_rooms.proofs.main.Saves.{changes_orders, orders_other}
use Rattle.esc_base.specs.declared.note.Note.TheVariants as note
use Rattle.arming.specs.ControlAt.{session_at}
use Rattle.esc_core.specs.Line.{Line}

session_other : (n : Note) (back : List Note) → changes_orders n ≡ false → session_at (n ∷ back) ≡ session_at back
session_other (note.Packet t c k) back o = absurd (let f = o in cc)
session_other n back o = refl

line_other : (s : Line) (n : Note) (back : List Note) → changes_orders n ≡ false → LineTied s (session_at back) → LineTied s (session_at (n ∷ back))
line_other s n back o l = record { none_waits = l.none_waits; none_left = l.none_left; session_is = l.session_is ∙ sym (session_other n back o) }

-- a note of another part of the core
pub ground_noted : (w : World) (n : Note) → changes_control n ≡ false → says n ≡ None → IsSave w.back n → changes_orders n ≡ false → Ground w
    → Ground (noted w n)
ground_noted w n c s p o g = record {
  control = other_stands n w.core.control w.back c s p g.control;
  orders = orders_other w.loaded w.core.orders n w.back o g.orders;
  outside = g.outside;
  line = line_other w.core.line n w.back o g.line;
}

-- a step that leaves the gates, of a handler without a part in the drive
pub quiet_gates : (k : Kind) (w : World) (s : Stepped) → k ≢ kind.Pwm → s.core.drive.gates ≡ w.core.drive.gates
    → (accessed w.bank s.access).hi ≡ w.bank.hi → (accessed w.bank s.access).lo ≡ w.bank.lo → GatesKeep k w s
quiet_gates k w s ne e hi lo = record {
  off_times = e ∙ gates_same w.core.drive.gates w.bank (accessed w.bank s.access) hi lo;
  fits = λ told moved. absurd (moved hi lo);
  drive = record { low = λ o d. lo; high = λ o p d. hi; chops = λ is own. absurd (ne is); back = λ is over. absurd (ne is); silent = λ is. absurd (ne is) };
}

pub inside : (stack : List Kind) (k : Kind) (outer : List Kind) → stack ≡ k ∷ outer → innermost stack ≡ Some k
inside stack k outer e = ap innermost e

pub popped : (stack : List Kind) (k : Kind) (outer : List Kind) → stack ≡ k ∷ outer → outer_ones stack ≡ outer
popped stack k outer e = ap outer_ones e

-- a step that turns on a test whose answer is known
pub if_true : (v : Bool) (k : Kind) (outer : List Kind) (w : World) (x y : Stepped) → v ≡ true → StepKeeps k outer w x
    → StepKeeps k outer w (if v then x else y)
if_true true k outer w x y e h = h
if_true false k outer w x y e h = cc

pub if_false : (v : Bool) (k : Kind) (outer : List Kind) (w : World) (x y : Stepped) → v ≡ false → StepKeeps k outer w y
    → StepKeeps k outer w (if v then x else y)
if_false true k outer w x y e h = cc
if_false false k outer w x y e h = h
