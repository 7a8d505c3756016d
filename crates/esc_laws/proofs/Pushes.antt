-- One more note, one more step, one more event.
use Rattle.std.proofs.Common.{◌≡◌, ◌≤◌, ◌+◌, ℕ, List, [], ◌∷◌, ◌++◌, refl, sym, ◌∙◌, ap, subst, append-nil, append_assoc, arith, add-one, All, slice_index_or}
use Rattle.std.proofs.lemmas.List.Concat.{flat_map-append}
use Rattle.std.proofs.lemmas.List.Sums.{fold_push}
use Rattle.esc_base.specs.declared.kind.Kind.{Kind}
use Rattle.esc_base.specs.declared.event.Event.{Event}
use Rattle.esc_base.specs.declared.note.Note.{Note}
use Rattle.settings_block.specs.declared.stored.Loaded.{Loaded}
use Rattle.interrupt_machine.specs.declared.nest.Nest.{Nest}
use Rattle.esc_laws.specs.Place.{next, nowhere, place}
use Rattle.esc_laws.specs.Steps.{Turned, opening, notes_in, journal, past_stall, free, next_step, after, uses, own_next, own_steps, entered_next, entered_at, since_next, steps_since, called_next, called_from, called, EachStep}
use Rattle.esc_laws.specs.Looks.{none_made, made_next, made}

pub place-push : (notes : List Note) (n : Note) → place (notes ++ n ∷ []) ≡ next (place notes) n
unfolding place
place-push notes n = fold_push next nowhere notes n

pub free-push : (trace : List Event) (e : Event) (t : ℕ) → free (trace ++ e ∷ []) t ≡ past_stall (free trace t) e
unfolding free
free-push trace e t = fold_push past_stall t trace e

pub free-none : (t : ℕ) → free [] t ≡ t
unfolding free
free-none t = refl

pub notes-push : (log : List Turned) (e : Turned) → notes_in (log ++ e ∷ []) ≡ notes_in log ++ e.notes
notes-push log e = flat_map-append (λ x. x.notes) log (e ∷ []) ∙ ap (λ (ns : List Note). notes_in log ++ ns) (append-nil e.notes)

pub journal-push : (loaded : Loaded) (log : List Turned) (e : Turned) → journal loaded (log ++ e ∷ []) ≡ journal loaded log ++ e.notes
journal-push loaded log e = ap (λ (ns : List Note). opening loaded ++ ns) (notes-push log e) ∙ sym (append_assoc (opening loaded) (notes_in log) e.notes)

pub after-push : (cost : ℕ) (trace : List Event) (log : List Turned) (e : Turned) → after cost trace (log ++ e ∷ []) ≡ next_step cost trace e.tick
unfolding after
after-push cost trace log e = fold_push (λ n e. next_step cost trace e.tick) (free trace 0) log e

pub after-none : (cost : ℕ) (trace : List Event) → after cost trace [] ≡ free trace 0
unfolding after
after-none cost trace = refl

pub made-push : (log : List Turned) (e : Turned) → made (log ++ e ∷ []) ≡ made_next e.kind e.enters e.tick (made log)
unfolding made
made-push log e = fold_push (λ m e. made_next e.kind e.enters e.tick m) none_made log e

pub made-none : made [] ≡ none_made
unfolding made
made-none = refl

pub own-push : (k : Kind) (log : List Turned) (e : Turned) → own_steps k (log ++ e ∷ []) ≡ own_next k (own_steps k log) e
unfolding own_steps
own-push k log e = fold_push (own_next k) 0 log e

pub entered-push : (k : Kind) (log : List Turned) (e : Turned) → entered_at k (log ++ e ∷ []) ≡ entered_next k (entered_at k log) e
unfolding entered_at
entered-push k log e = fold_push (entered_next k) 0 log e

pub since-push : (k : Kind) (log : List Turned) (e : Turned) → steps_since k (log ++ e ∷ []) ≡ since_next k (steps_since k log) e
unfolding steps_since
since-push k log e = fold_push (since_next k) 0 log e

called_from-push : (loaded : Loaded) (nest : Nest) (trace : List Event) (k : Kind) (before : List Turned) (n : ℕ) (log : List Turned) (e : Turned)
    → called_from loaded nest trace k before n (log ++ e ∷ []) ≡ called_next loaded nest trace k (before ++ log)
    (called_from loaded nest trace k before n log) e
called_from-push loaded nest trace k before n [] e =
    subst (λ (l : List Turned). called_next loaded nest trace k before n e ≡ called_next loaded nest trace k l n e) (sym (append-nil before)) refl
called_from-push loaded nest trace k before n (x ∷ log) e =
    subst (λ (l : List Turned). called_from loaded nest trace k before n ((x ∷ log) ++ e ∷ []) ≡ called_next loaded nest trace k l
    (called_from loaded nest trace k before n (x ∷ log)) e) (append_assoc before (x ∷ []) log)
    (called_from-push loaded nest trace k (before ++ x ∷ []) (called_next loaded nest trace k before n x) log e)

pub called-push : (loaded : Loaded) (nest : Nest) (trace : List Event) (log : List Turned) (e : Turned) (k : Kind)
    → called loaded nest trace (log ++ e ∷ []) k ≡ called_next loaded nest trace k log (called loaded nest trace log k) e
unfolding called
called-push loaded nest trace log e k = called_from-push loaded nest trace k [] 0 log e

pub called-none : (loaded : Loaded) (nest : Nest) (trace : List Event) (k : Kind) → called loaded nest trace [] k ≡ 0
unfolding called
called-none loaded nest trace k = refl

pub step-push : (P : List Turned → Turned → Type 0) (before log : List Turned) (e : Turned) → EachStep P before log → P (before ++ log) e
    → EachStep P before (log ++ e ∷ [])
step-push P before [] e w h = (subst (λ (l : List Turned). P l e) (append-nil before) h, tt)
step-push P before (x ∷ log) e w h =
    (w.0, step-push P (before ++ x ∷ []) log e w.1 (subst (λ (l : List Turned). P l e) (sym (append_assoc before (x ∷ []) log)) h))

-- a use of `next_step` more
pub uses-more : (cost : ℕ) (trace : List Event) (m t : ℕ) → uses cost trace (m + 1) t ≡ next_step cost trace (uses cost trace m t)
uses-more cost trace m t = rw add-one refl

-- all notes are past, and stay so as time goes on
pub All-later : {X : Type 0} (time : X → ℕ) (xs : List X) (t u : ℕ) → t ≤ u → All (λ x. time x ≤ t) xs → All (λ x. time x ≤ u) xs
All-later {X} time xs t u le a = λ k d l. let h : time (slice_index_or xs k d) ≤ t = a k d l in omega arith
