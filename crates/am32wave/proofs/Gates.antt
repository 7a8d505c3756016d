-- Gates change where a gate word stands, and the levels outside where an event says so.
use Rattle.std.proofs.Common.{◌≡◌, List, Option, Some, None, unwrap_or, refl, ◌∙◌, ap}
use Rattle.std.specs.Option.{option_map}
use Rattle.esc_base.specs.declared.gate.Leg.{Leg}
use Rattle.esc_base.specs.Legs.{is_on}
use Rattle.esc_base.specs.Numbers.{bit_of}
use Rattle.esc_base.specs.declared.event.Event.{Event}
use Rattle.esc_base.specs.declared.event.Event.TheVariants as event
use Rattle.am32wave.specs.declared.levels.Levels.{Levels}
use Rattle.am32wave.specs.declared.moment.Moment.{Moment}
use Rattle.am32wave.specs.declared.moment.Moment.TheVariants as moment
use Rattle.am32wave.specs.declared.scene.Scene.{Scene}
use Rattle.am32wave.specs.declared.wire.Wire.TheVariants as wire
use Rattle.am32wave.specs.Picture.{high_told, low_told}
use Rattle.am32wave.specs.Wires.{value}
use Rattle.am32wave.specs.Laws.{by_note, GatesFollow, LevelsFollow}
use Rattle.am32wave.specs.Levels.{levels}
use Rattle.am32wave.specs.Moments.{events_of}
use Rattle.am32wave.specs.Scene.{scene, with_moment}
use Rattle.am32wave.proofs.Scenes.{scene_more, levels_more, events_with_note, events_with_event}

told : {A B : Type 0} (f : A → B) (o : Option A) (d : A) → f (unwrap_or o d) ≡ unwrap_or (option_map f o) (f d)
told f None d = refl
told f (Some x) d = refl

gates_with : (s : Scene) (m : Moment) (x : Leg)
    → (value (wire.High x) (with_moment s m) ≡ unwrap_or (option_map (λ hi. bit_of (is_on hi x)) (by_note high_told m)) (value (wire.High x) s))
    × (value (wire.Low x) (with_moment s m) ≡ unwrap_or (option_map (λ lo. bit_of (is_on lo x)) (by_note low_told m)) (value (wire.Low x) s))
gates_with s (moment.Note n) x =
    (told (λ hi. bit_of (is_on hi x)) (high_told n) s.picture.drive.high, told (λ lo. bit_of (is_on lo x)) (low_told n) s.picture.drive.low)
gates_with s (moment.Event e) x = (refl, refl)

pub gates_follow : (before : List Moment) (m : Moment) (x : Leg) → GatesFollow before m x
gates_follow before m x = record {
  high = ap (value (wire.High x)) (scene_more before m) ∙ (gates_with (scene before) m x).0;
  low = ap (value (wire.Low x)) (scene_more before m) ∙ (gates_with (scene before) m x).1;
}

pub levels_follow : (before : List Moment) (m : Moment) → LevelsFollow before m
levels_follow before (moment.Note n) = record {
  line = ap (λ (es : List Event). (levels es).line) (events_with_note before n);
  comparator = ap (λ (es : List Event). (levels es).comparator) (events_with_note before n);
}
levels_follow before (moment.Event (event.Edge t level)) =
    let e = ap levels (events_with_event before (event.Edge t level)) ∙ levels_more (events_of before) (event.Edge t level) in
    record { line = ap (λ (l : Levels). l.line) e; comparator = ap (λ (l : Levels). l.comparator) e }
levels_follow before (moment.Event (event.Comp t level)) =
    let e = ap levels (events_with_event before (event.Comp t level)) ∙ levels_more (events_of before) (event.Comp t level) in
    record { line = ap (λ (l : Levels). l.line) e; comparator = ap (λ (l : Levels). l.comparator) e }
levels_follow before (moment.Event (event.Serial t byte)) =
    let e = ap levels (events_with_event before (event.Serial t byte)) ∙ levels_more (events_of before) (event.Serial t byte) in
    record { line = ap (λ (l : Levels). l.line) e; comparator = ap (λ (l : Levels). l.comparator) e }
levels_follow before (moment.Event (event.Stall t n)) =
    let e = ap levels (events_with_event before (event.Stall t n)) ∙ levels_more (events_of before) (event.Stall t n) in
    record { line = ap (λ (l : Levels). l.line) e; comparator = ap (λ (l : Levels). l.comparator) e }
