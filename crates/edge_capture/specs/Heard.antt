-- The answer to an edge.
use Rattle.std.specs.Prelude.{Bool, true, false}
use Rattle.edge_capture.specs.declared.capture.Heard.{Heard}
use Rattle.edge_capture.specs.declared.capture.Heard.TheVariants.{Taken, Unheard}

abbrev pub heard_of : Bool → Heard
heard_of true = Taken
heard_of false = Unheard
