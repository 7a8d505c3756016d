-- The place is the same for notes in either order.
use Rattle.std.proofs.Common.{◌≡◌, List, [], ◌∷◌, reverse, refl, sym, ◌∙◌, ap}
use Rattle.std.proofs.lemmas.List.{reverse-append, reverse-reverse}
use Rattle.esc_base.specs.declared.note.Note.{Note}
use Rattle.esc_laws.specs.Place.{Place, next, place}
use Rattle.esc_laws.specs.Looks.{placed}
use Rattle.esc_laws.proofs.Pushes.{place-push}

pub place-none : place [] ≡ placed []
unfolding place
place-none = refl

pub placed-reverse : (back : List Note) → placed back ≡ place (reverse back)
placed-reverse [] = sym place-none
placed-reverse (n ∷ back) =
    ap (λ (p : Place). next p n) (placed-reverse back) ∙ sym (place-push (reverse back) n) ∙ ap place (sym (reverse-append (n ∷ []) back))

pub placed-is : (notes : List Note) → placed (reverse notes) ≡ place notes
placed-is notes = placed-reverse (reverse notes) ∙ ap place (reverse-reverse notes)
