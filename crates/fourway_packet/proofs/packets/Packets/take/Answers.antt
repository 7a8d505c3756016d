use Rattle.std.proofs.Common.{sym, ◌∙◌}
use Rattle.fourway_packet.specs.Queue.{Queue}
use Rattle.fourway_packet.proofs.OneMore.{taken_cut, taken_on, Takes}
use Rattle.fourway_packet.proofs.packets.Packets.take.Goals as goal

before : (c : goal.After-take) → Queue
before c = record { waiting = c.self.inside.waiting.items; part = c.self.inside.part.bytes.items; newest = c.self.inside.part.newest }

after : (c : goal.After-take) → Queue
after c = record { waiting = c.pop_front.new.self.items; part = c.take.new.self.bytes.items; newest = c.take.new.self.newest }

takes : (c : goal.After-take) → Takes (before c) (after c) c.in-Some.received c.take.result
unfolding before after
takes c = record {
  first = sym c.pop_front.ensures.value ∙ c.in-Some.is;
  packet_is = c.take.ensures.packet;
  part_is = c.take.ensures.bytes;
  newest_is = c.take.ensures.newest;
}

pub returns-clause-cut : goal.returns-clause-cut
unfolding before after
returns-clause-cut c = λ taken h.
    rw (← c.self.view_is) (taken_cut (before c) (after c) c.in-Some.received c.take.result taken (takes c) (rw (← c.self.view_is) at h))

pub returns-clause-taken : goal.returns-clause-taken
unfolding before after
returns-clause-taken c = λ taken h.
    rw (← c.self.view_is) (taken_on (before c) (after c) c.in-Some.received c.take.result taken (takes c) (rw (← c.self.view_is) at h))
