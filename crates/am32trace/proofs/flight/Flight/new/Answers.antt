use Rattle.am32trace.proofs.Flying.{nothing_yet}
use Rattle.am32trace.proofs.flight.Flight.new.Goals as goal

pub returns : goal.returns
returns c = record {
  keeps = λ given. nothing_yet _ given (c.new-4.ensures.begins given) c.new.ensures.pending;
  well = c.new.ensures.well;
  sender = c.new.ensures.sender;
}
