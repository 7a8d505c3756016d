-- The text of one note more.
use Rattle.std.proofs.Common.{◌≡◌, ℕ, List, [], ◌∷◌, ◌++◌, ◌∙◌, ap, append-nil}
use Rattle.std.proofs.lemmas.List.Concat.{flat_map-append}
use Rattle.esc_base.specs.declared.note.Note.{Note}
use Rattle.trace_text.specs.Text.{note_bytes, Text}

pub Text-push : (notes : List Note) (n : Note) → Text (notes ++ n ∷ []) ≡ Text notes ++ note_bytes n
Text-push notes n = flat_map-append note_bytes notes (n ∷ []) ∙ ap (λ (x : List ℕ). Text notes ++ x) (append-nil (note_bytes n))
