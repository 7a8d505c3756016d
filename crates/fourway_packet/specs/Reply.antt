-- The bytes of a reply.
use Rattle.std.specs.Prelude.{ℕ, ◌%◌, List, [], ◌∷◌, ◌++◌, length}
use Rattle.byteorder.specs.Endian.{big_bytes}
use Rattle.fourway_packet.specs.declared.reply.Reply.{Reply}
use Rattle.fourway_packet.specs.Crc.{crc_of}

-- the byte that a reply begins with
abbrev pub reply_byte : ℕ
reply_byte = 0x2E

-- the bytes before the parameters; length 0 stands for 256
abbrev pub head_of : Reply → List ℕ
head_of r = reply_byte ∷ r.cmd ∷ [] ++ big_bytes 2 r.addr ++ length r.params % 256 ∷ []

-- the bytes that the CRC covers
abbrev pub body_of : Reply → List ℕ
body_of r = head_of r ++ r.params ++ r.ack ∷ []

abbrev pub reply_text : Reply → List ℕ
reply_text r = body_of r ++ big_bytes 2 (crc_of (body_of r))
