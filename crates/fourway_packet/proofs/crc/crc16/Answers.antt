use Rattle.std.proofs.Common.{◌≡◌, rules}
use Rattle.fourway_packet.specs.Crc.{crc_of}
use Rattle.fourway_packet.proofs.Division.{crc_is_remainder}
use Rattle.fourway_packet.proofs.crc.crc16.Goals as goal

pub returns-clause-remainder : goal.returns-clause-remainder
unfolding crc_of
returns-clause-remainder c =
    let is : c.fold.result ≡ crc_of c.args.bytes.now = search rules in
    rw is (crc_is_remainder c.args.bytes.now)
