-- The notes of which a timing is told, and those of which it isn't, keep it standing for the notes so far.
use Rattle.std.proofs.Common.{ℕ, List, ◌∷◌, ap, arith}
use Rattle.std.proofs.lemmas.List.{take-take}
use Rattle.esc_base.specs.declared.tick.Tick.{Tick}
use Rattle.esc_base.specs.declared.note.Note.{Note}
use Rattle.esc_base.specs.declared.note.Note.TheVariants as note
use Rattle.commutation.specs.Kept.{after_gap, Kept}
use Rattle.commutation.specs.Drive.{turns_at, Timed}

-- a Q
pub gap_timed : (c : Kept) (back : List Note) (q : Tick) (s : ℕ) → Timed c back → Timed (after_gap c q.0) (note.Step q s ∷ back)
gap_timed c back q s timed = record {
  pace_is = timed.pace_is;
  turns_are = rw timed.turns_are (ap (λ turns. q.0 ∷ turns) (take-take 6 7 (turns_at back) (omega arith)));
}
