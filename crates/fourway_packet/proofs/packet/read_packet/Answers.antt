use Rattle.fourway_packet.proofs.Reading.{bad_read, whole_read}
use Rattle.fourway_packet.proofs.packet.read_packet.Goals as goal

pub returns-then-crc16-read_u16 : goal.returns-then-crc16-read_u16
returns-then-crc16-read_u16 c =
    whole_read c.args.bytes.now c.new-params.result c.args.covered c.read_u16-addr.result c.crc16.result c.read_u16.result
    (record { covered_is = c.requires.covered; addr_is = c.read_u16-addr.ensures; sum_is = c.crc16.ensures.crc; crc_is = c.read_u16.ensures })
    c.if-crc16-read_u16.true c.new-params.ensures

pub returns-else-crc16-read_u16 : goal.returns-else-crc16-read_u16
returns-else-crc16-read_u16 c =
    bad_read c.args.bytes.now c.args.covered c.read_u16-addr.result c.crc16.result c.read_u16.result
    (record { covered_is = c.requires.covered; addr_is = c.read_u16-addr.ensures; sum_is = c.crc16.ensures.crc; crc_is = c.read_u16.ensures })
    c.if-crc16-read_u16.false
