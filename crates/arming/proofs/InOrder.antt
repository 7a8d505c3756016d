-- A journal in its order, and the same with the newest note first.
use Rattle.std.proofs.Common.{◌≡◌, List, [], ◌∷◌, ◌++◌, reverse, subst, append-nil, append_assoc}
use Rattle.std.proofs.lemmas.List.{reverse-append}
use Rattle.esc_base.specs.declared.note.Note.{Note}
use Rattle.esc_base.specs.Journal.{Each}
use Rattle.arming.specs.Controlled.{Controlled, ControlledBack, FitsControl}

pub reverse-push : (notes : List Note) (n : Note) → reverse (notes ++ n ∷ []) ≡ n ∷ reverse notes
reverse-push notes n = reverse-append notes (n ∷ [])

module _ (Fits : List Note → Note → Type 0) where
  pub each_front : (before notes rest : List Note) → Each Fits before (notes ++ rest) → Each Fits before notes
  each_front before [] rest each = tt
  each_front before (n ∷ notes) rest each = (each.0, each_front (before ++ n ∷ []) notes rest each.1)

  pub each_rest : (before notes rest : List Note) → Each Fits before (notes ++ rest) → Each Fits (before ++ notes) rest
  each_rest before [] rest each = rw (append-nil before) each
  each_rest before (n ∷ notes) rest each = rw (← append_assoc before (n ∷ []) notes) (each_rest (before ++ n ∷ []) notes rest each.1)

  pub each_at : (before notes : List Note) (n : Note) (rest : List Note) → Each Fits before (notes ++ n ∷ rest) → Fits (before ++ notes) n
  each_at before [] n rest each = rw (append-nil before) each.0
  each_at before (m ∷ notes) n rest each = rw (← append_assoc before (m ∷ []) notes) (each_at (before ++ m ∷ []) notes n rest each.1)

  pub each_push : (before notes : List Note) (n : Note) → Each Fits before notes → Fits (before ++ notes) n → Each Fits before (notes ++ n ∷ [])
  each_push before [] n each fits = (rw (append-nil before) at fits, tt)
  each_push before (m ∷ notes) n each fits = (each.0, each_push (before ++ m ∷ []) notes n each.1 (rw (append_assoc before (m ∷ []) notes) fits))

abbrev pub Fit : List Note → Note → Type 0
Fit before n = FitsControl (reverse before) n

back_from : (before notes : List Note) → ControlledBack (reverse before) → Each Fit before notes → ControlledBack (reverse (before ++ notes))
back_from before [] legal each = rw (append-nil before) legal
back_from before (n ∷ notes) legal each =
    rw (← append_assoc before (n ∷ []) notes) (back_from (before ++ n ∷ []) notes (rw (reverse-push before n) (each.0, legal)) each.1)

-- a controlled journal, looking back
pub looking_back : (notes : List Note) → Controlled notes → ControlledBack (reverse notes)
looking_back notes each = back_from [] notes tt each

older : (newer older : List Note) → ControlledBack (newer ++ older) → ControlledBack older
older [] rest legal = legal
older (n ∷ newer) rest legal = older newer rest legal.1

order_from : (before notes : List Note) → ControlledBack (reverse (before ++ notes)) → Each Fit before notes
order_from before [] legal = tt
order_from before (n ∷ notes) legal =
    let whole : ControlledBack (reverse ((before ++ n ∷ []) ++ notes)) = rw (append_assoc before (n ∷ []) notes) legal in
    let parts : ControlledBack (reverse notes ++ reverse (before ++ n ∷ [])) = subst ControlledBack (reverse-append (before ++ n ∷ []) notes) whole in
    let front : ControlledBack (n ∷ reverse before) = subst ControlledBack (reverse-push before n) (older (reverse notes) (reverse (before ++ n ∷ [])) parts) in
    (front.0, order_from (before ++ n ∷ []) notes whole)

-- and the other way round
pub in_order : (notes : List Note) → ControlledBack (reverse notes) → Controlled notes
in_order notes legal = order_from [] notes legal

-- a journal up to one of its notes, looking back
pub back_to : (before after : List Note) (n : Note) → Controlled (before ++ n ∷ after) → ControlledBack (n ∷ reverse before)
back_to before after n whole =
    subst ControlledBack (reverse-push before n)
    (looking_back (before ++ n ∷ []) (each_front Fit [] (before ++ n ∷ []) after (rw (append_assoc before (n ∷ []) after) whole)))
