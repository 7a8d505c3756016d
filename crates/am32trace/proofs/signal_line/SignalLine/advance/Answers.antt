use Rattle.std.proofs.Common.{◌≡◌, ◌∙◌, ap, sym, drop}
use Rattle.am32trace.specs.Line.{left_of, pending}
use Rattle.am32trace.specs.Frames.{rest_of}
use Rattle.am32trace.proofs.Begun.{noise_edge, ready_rest}
use Rattle.am32trace.proofs.signal_line.SignalLine.advance.Goals as goal

pub returns-in-Frame-clause-well : goal.returns-in-Frame-clause-well
returns-in-Frame-clause-well c =
    let l = c.args.self.now in
    let was : pending l ≡ rest_of c.in-Frame.frame = ap left_of c.in-Frame.is in
    record {
      rate = c.requires.well.rate;
      on = c.after_edge-self.ensures.on;
      ready = ready_rest l.repeated l.period (pending l) (left_of c.after_edge-self.result)
          (c.after_edge-self.ensures.left ∙ ap (drop 1) (sym was)) c.requires.well.ready;
    }

pub returns-in-Noise-clause-adds : goal.returns-in-Noise-clause-adds
returns-in-Noise-clause-adds c = rw c.in-Noise.is (noise_edge c.args.edge (pending c.after_noise.new.self) c.after_noise.ensures.pending)
