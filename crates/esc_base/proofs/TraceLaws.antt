-- The line after one more event.
use Rattle.std.proofs.Common.{false, ◌≡◌, List, [], ◌∷◌, ◌++◌}
use Rattle.std.proofs.lemmas.List.Sums.{fold_push}
use Rattle.esc_base.specs.declared.event.Event.{Event}
use Rattle.esc_base.specs.Trace.{line, line_next}

pub line-push : (trace : List Event) (e : Event) → line (trace ++ e ∷ []) ≡ line_next (line trace) e
unfolding line
line-push trace e = fold_push line_next (record { level = false; edges = [] }) trace e
