-- The only O of a step is its return, and stands last: with another one more kinds would have been left than one.
use Rattle.std.proofs.Common.{◌≡◌, ◌+◌, ℕ, Bool, true, false, if◌then◌else◌, List, [], ◌∷◌, ◌++◌, Some, None, refl, ap, arith}
use Rattle.esc_base.specs.declared.tick.Tick.{Tick}
use Rattle.esc_base.specs.declared.kind.Kind.{Kind}
use Rattle.esc_base.specs.declared.note.Note.{Note}
use Rattle.esc_base.specs.declared.note.Note.TheVariants as note
use Rattle.esc_base.specs.Numbers.{kind_number, as_tick}
use Rattle.interrupt_machine.specs.Open.{innermost, outer_ones, kind_of}
use Rattle.esc_core.specs.Stepped.{Stepped}
use Rattle.esc_laws.specs.Steps.{ReturnsLast}
use Rattle.esc_rooms.specs.World.{World, so_far, onto, noted, step_notes, open_left}
use Rattle.esc_laws.specs.Looks.{placed}
use Rattle.esc_rooms.specs.Rooms.{AllFit, StepTold, StepKeeps}
use Rattle.esc_laws.specs.NoteLaw as owed

abbrev depth : List Kind → ℕ
depth [] = 0
depth (k ∷ outer) = depth outer + 1

abbrev leaves : List Note → ℕ
leaves [] = 0
leaves (note.Leave t k ∷ notes) = leaves notes + 1
leaves (n ∷ notes) = leaves notes

left_one : (stack : List Kind) (k : Kind) → innermost stack ≡ Some k → depth (outer_ones stack) + 1 ≡ depth stack
left_one [] k i = cc
left_one (j ∷ outer) k i = refl

-- notes that fit leave as many kinds as there are O among them
all_left : (k : Kind) (w : World) (notes : List Note) → AllFit k w notes → depth (placed (onto notes w.back)).stack + leaves notes ≡ depth (placed w.back).stack
all_left k w [] f = omega arith
all_left k w (note.Enter t j ∷ notes) f = absurd (let z : None ≡ Some k = f.0.owned in cc)
all_left k w (note.Leave t j ∷ notes) f =
    let rest = all_left k (noted w (note.Leave t j)) notes f.1 in
    let one = left_one (so_far w).stack (kind_of j) (f.0.keeps.laws owed.Nests).0 in
    omega arith
all_left k w (n ∷ notes) f = all_left k (noted w n) notes f.1

leaves-append : (notes more : List Note) → leaves (notes ++ more) ≡ leaves notes + leaves more
leaves-append [] more = omega arith
leaves-append (note.Leave t k ∷ notes) more = let rest = leaves-append notes more in omega arith
leaves-append (n ∷ notes) more = leaves-append notes more

none_left : (v : Bool) (k : Kind) (t : Tick) (outer : List Kind) (notes : List Note)
    → depth (if v then outer else k ∷ outer) + leaves (notes ++ (if v then note.Leave t (kind_number k) ∷ [] else [])) ≡ depth outer + 1 → leaves notes ≡ 0
none_left true k t outer notes e = let parts = leaves-append notes (note.Leave t (kind_number k) ∷ []) in omega arith
none_left false k t outer notes e = let parts = leaves-append notes [] in omega arith

returns_at : (v : Bool) (k : Kind) (t : Tick) (notes : List Note) → leaves notes ≡ 0
    → ReturnsLast k (notes ++ (if v then note.Leave t (kind_number k) ∷ [] else []))
returns_at true k t [] z = (refl, refl)
returns_at false k t [] z = tt
returns_at v k t (note.Leave u j ∷ notes) z = absurd (omega arith)
returns_at v k t (n ∷ notes) z = returns_at v k t notes z

pub returns_last : (k : Kind) (outer : List Kind) (w : World) (s : Stepped) → (so_far w).stack ≡ k ∷ outer → StepTold w s → StepKeeps k outer w s
    → ReturnsLast k (step_notes w.bank.time k s)
returns_last k outer w s on told keeps =
    let all = all_left k w (step_notes w.bank.time k s) (keeps.fits told) in
    let after : depth (placed (onto (step_notes w.bank.time k s) w.back)).stack ≡ depth (open_left k outer s) = ap depth keeps.stack_is in
    let before : depth (placed w.back).stack ≡ depth outer + 1 = ap depth on in
    returns_at s.over k (as_tick w.bank.time) s.notes (none_left s.over k (as_tick w.bank.time) outer s.notes (omega arith))
