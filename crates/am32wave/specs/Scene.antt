-- What stands after some moments: the picture of their notes, and the levels of their events.
use Rattle.std.specs.Prelude.{List}
use Rattle.am32wave.specs.declared.moment.Moment.{Moment}
use Rattle.am32wave.specs.declared.moment.Moment.TheVariants as moment
use Rattle.am32wave.specs.declared.scene.Scene.{Scene}
use Rattle.am32wave.specs.Levels.{with_event, levels}
use Rattle.am32wave.specs.Moments.{notes_of, events_of}
use Rattle.am32wave.specs.Picture.{picture, with_note}

abbrev pub scene : List Moment → Scene
scene moments = record { picture = picture (notes_of moments); levels = levels (events_of moments) }

-- a moment more: a note changes the picture, and an event the levels
abbrev pub with_moment : Scene → Moment → Scene
with_moment s (moment.Note n) = record { picture = with_note s.picture n; levels = s.levels }
with_moment s (moment.Event e) = record { picture = s.picture; levels = with_event s.levels e }
