use Rattle.fourway_packet.proofs.Division.{last_bit, next_bit}
use Rattle.fourway_packet.proofs.crc.with_byte.Goals as goal

pub loop-i-preserved : goal.loop-i-preserved
loop-i-preserved c = next_bit c.loop-i.so_far c.with_bit-so_far.result c.args.byte c.loop-i.i _ c.loop-i-test.true c.with_bit-so_far.ensures c.loop-i.invariant

pub returns : goal.returns
returns c = last_bit c.loop-i.so_far c.args.byte c.loop-i.i _ c.loop-i-test.false c.loop-i.invariant
