-- What is kept of a run so far.
use Rattle.std.specs.Prelude.{◌≡◌, List}
use Rattle.esc_base.specs.declared.note.Note.{Note}
use Rattle.am32wave.specs.declared.drawing.Drawing.{Drawing}
use Rattle.am32wave.specs.declared.explain.Explanation.{Explanation}
use Rattle.am32wave.specs.declared.moment.Moment.{Moment}
use Rattle.am32wave.specs.declared.view.Plan.{Plan}
use Rattle.am32wave.specs.Moments.{newest_time}
use Rattle.am32wave.specs.Picture.{handlers}
use Rattle.am32wave.specs.Scene.{scene}
use Rattle.am32wave.specs.Tally.{tally}

-- a drawing behind these moments has its plan, and their scene and newest time
pub record IsDrawnAfter (d : Drawing) (p : Plan) (moments : List Moment) : Type 0 where
  pub plan : d.plan ≡ p
  pub scene : d.scene ≡ scene moments
  pub time : d.time.0 ≡ newest_time 0 moments

-- an explanation behind these notes has their open handlers and their counts
pub record IsToldAfter (e : Explanation) (notes : List Note) : Type 0 where
  pub handlers : e.handlers ≡ handlers notes
  pub tally : e.tally ≡ tally notes
