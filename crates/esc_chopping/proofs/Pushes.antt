-- One more step.
use Rattle.std.proofs.Common.{◌≡◌, ◌≤◌, ◌<◌, ℕ, List, [], ◌∷◌, ◌++◌, refl, ap}
use Rattle.std.proofs.lemmas.List.Sums.{fold_push}
use Rattle.esc_laws.specs.Steps.{Turned}
use Rattle.esc_chopping.specs.View.{unmoved, view, view_next}
use Rattle.esc_chopping.specs.Log.{steps_by}
use Rattle.std.proofs.lemmas.Bool.{le-leb, lt-leb}

pub view-push : (log : List Turned) (e : Turned) → view (log ++ e ∷ []) ≡ view_next (view log) e
unfolding view
view-push log e = fold_push view_next unmoved log e

pub view-none : view [] ≡ unmoved
unfolding view
view-none = refl

-- the steps before stand at ticks up to t
abbrev pub AllBy : ℕ → List Turned → Type 0
AllBy t [] = Unit {0}
AllBy t (e ∷ log) = (e.tick ≤ t) × AllBy t log

-- and the first one after them, if there is one, stands above it
abbrev pub FirstAbove : ℕ → List Turned → Type 0
FirstAbove t [] = Unit {0}
FirstAbove t (e ∷ log) = t < e.tick

pub made-split : (t : ℕ) (before rest : List Turned) → AllBy t before → FirstAbove t rest → steps_by t (before ++ rest) ≡ before
made-split t [] [] b f = refl
made-split t [] (e ∷ rest) b f = rw (lt-leb e.tick t f) refl
made-split t (e ∷ before) rest b f = rw (le-leb e.tick t b.0) (ap (λ (l : List Turned). e ∷ l) (made-split t before rest b.1 f))

pub by-push : (t : ℕ) (log : List Turned) (e : Turned) → AllBy t log → e.tick ≤ t → AllBy t (log ++ e ∷ [])
by-push t [] e b l = (l, tt)
by-push t (x ∷ log) e b l = (b.0, by-push t log e b.1 l)
