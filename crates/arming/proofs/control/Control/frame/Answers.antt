use Rattle.std.proofs.Common.{◌≡◌, ap, rules}
use Rattle.arming.specs.Kept.{after_frame, Kept}
use Rattle.arming.proofs.FrameTies.{frame_stands}
use Rattle.arming.proofs.control.Control.frame.Goals as goal

pub returns-clause-stands : goal.returns-clause-stands
returns-clause-stands c =
    let before = c.self.inside in
    let after : Kept = record {
      mode = before.mode;
      armed = before.armed;
      wanted = before.wanted;
      demand = before.demand;
      zero_run = before.zero_run;
      number = before.number;
      newest = before.newest;
      base = before.base;
      run = c.frame.new.self;
    } in
    let kept : after ≡ after_frame c.args.self.now c.args.value = search rules in
    let frames_is : c.frame.new.self.frames ≡ (after_frame c.args.self.now c.args.value).run.frames = ap (λ (k : Kept). k.run.frames) kept in
    λ t q back s. rw (c.frame.ensures.act, kept, frames_is) (frame_stands c.args.self.now back t c.args.value q s)
