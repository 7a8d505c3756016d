-- What stands after one moment more, and its part of a drawing.
use Rattle.std.proofs.Common.{◌≡◌, ℕ, if◌then◌else◌, ltb, List, [], ◌∷◌, ◌++◌, refl, sym, ◌∙◌, ap, append_assoc, append-nil}
use Rattle.std.proofs.lemmas.List.Concat.{flat_map-append}
use Rattle.std.proofs.lemmas.List.Sums.{fold-append}
use Rattle.esc_base.specs.declared.event.Event.{Event}
use Rattle.esc_base.specs.declared.note.Note.{Note}
use Rattle.am32wave.specs.declared.moment.Moment.{Moment}
use Rattle.am32wave.specs.declared.moment.Moment.TheVariants as moment
use Rattle.am32wave.specs.declared.scene.Scene.{Scene}
use Rattle.am32wave.specs.declared.view.Plan.{Plan}
use Rattle.am32wave.specs.Drawn.{all_changes, announced, part, parts, head, begun, tail, end}
use Rattle.am32wave.specs.Levels.{with_event, levels}
use Rattle.am32wave.specs.Moments.{time, note_in, notes_of, event_in, events_of, newest_time}
use Rattle.am32wave.specs.Scene.{scene, with_moment}
use Rattle.am32wave.specs.Stretch.{is_within, enters}
use Rattle.am32wave.proofs.Look.{picture_more}

pub levels_more : (events : List Event) (e : Event) → levels (events ++ e ∷ []) ≡ with_event (levels events) e
levels_more events e = fold-append with_event _ events (e ∷ [])

pub newest_more : (t : ℕ) (moments : List Moment) (m : Moment) → newest_time t (moments ++ m ∷ []) ≡ time m
newest_more t [] m = refl
newest_more t (l ∷ moments) m = newest_more (time l) moments m

pub notes_with_note : (moments : List Moment) (n : Note) → notes_of (moments ++ moment.Note n ∷ []) ≡ notes_of moments ++ n ∷ []
notes_with_note moments n = flat_map-append note_in moments (moment.Note n ∷ [])

pub notes_with_event : (moments : List Moment) (e : Event) → notes_of (moments ++ moment.Event e ∷ []) ≡ notes_of moments
notes_with_event moments e = flat_map-append note_in moments (moment.Event e ∷ []) ∙ append-nil (notes_of moments)

pub events_with_note : (moments : List Moment) (n : Note) → events_of (moments ++ moment.Note n ∷ []) ≡ events_of moments
events_with_note moments n = flat_map-append event_in moments (moment.Note n ∷ []) ∙ append-nil (events_of moments)

pub events_with_event : (moments : List Moment) (e : Event) → events_of (moments ++ moment.Event e ∷ []) ≡ events_of moments ++ e ∷ []
events_with_event moments e = flat_map-append event_in moments (moment.Event e ∷ [])

pub scene_more : (moments : List Moment) (m : Moment) → scene (moments ++ m ∷ []) ≡ with_moment (scene moments) m
scene_more moments (moment.Note n) = rw (notes_with_note moments n, events_with_note moments n, picture_more (notes_of moments) n) refl
scene_more moments (moment.Event e) = rw (notes_with_event moments e, events_with_event moments e, levels_more (events_of moments) e) refl

pub part_of : (p q : Plan) (moments : List Moment) (m : Moment) (new mid : List ℕ) (was now : Scene) (before t : ℕ) → q ≡ p → was ≡ scene moments
    → before ≡ newest_time 0 moments → t ≡ time m → now ≡ with_moment was m
    → mid ≡ (if enters q.stretch before t then all_changes q q.stretch.from (scene []) was else [])
    → new ≡ mid ++ (if is_within q.stretch t then announced q.view before m ++ all_changes q t was now else [])
    → new ≡ part p moments m
part_of p q moments m new mid was now before t is_plan is_was is_before is_t is_now is_mid is_new =
    let after : now ≡ scene (moments ++ m ∷ []) = is_now ∙ ap (λ (s : Scene). with_moment s m) is_was ∙ sym (scene_more moments m) in
    rw (is_new, is_mid, after, is_was, is_before, is_t, is_plan) refl

pub end_of : (p q : Plan) (moments : List Moment) (new mid : List ℕ) (was : Scene) (before : ℕ) → q ≡ p → was ≡ scene moments
    → before ≡ newest_time 0 moments → mid ≡ (if ltb before q.stretch.from then all_changes q q.stretch.from (scene []) was else [])
    → new ≡ mid ++ tail q.view → new ≡ end p moments
end_of p q moments new mid was before is_plan is_was is_before is_mid is_new = rw (is_new, is_mid, is_was, is_before, is_plan) refl

parts_more : (p : Plan) (before moments : List Moment) (m : Moment) → parts p before (moments ++ m ∷ []) ≡ parts p before moments ++ part p (before ++ moments) m
parts_more p before [] m = append-nil (part p before m) ∙ ap (λ (b : List Moment). part p b m) (sym (append-nil before))
parts_more p before (l ∷ moments) m =
    ap (λ (bytes : List ℕ). part p before l ++ bytes) (parts_more p (before ++ l ∷ []) moments m)
    ∙ sym (append_assoc (part p before l) (parts p (before ++ l ∷ []) moments) (part p ((before ++ l ∷ []) ++ moments) m))
    ∙ ap (λ (b : List Moment). (part p before l ++ parts p (before ++ l ∷ []) moments) ++ part p b m) (append_assoc before (l ∷ []) moments)

pub begun_more : (p : Plan) (moments : List Moment) (m : Moment) → begun p (moments ++ m ∷ []) ≡ begun p moments ++ part p moments m
begun_more p moments m =
    ap (λ (bytes : List ℕ). head p ++ bytes) (parts_more p [] moments m) ∙ sym (append_assoc (head p) (parts p [] moments) (part p moments m))
