-- The bytes of a request of the four-way protocol.
use Rattle.std.specs.Prelude.{◌≡◌, ℕ, ◌%◌, true, List, [], ◌∷◌, ◌++◌, length}
use Rattle.byteorder.specs.Endian.{big_bytes}
use Rattle.fourway_packet.specs.declared.packet.Packet.TheVariants.{Whole}
use Rattle.fourway_packet.specs.Crc.{crc_of}
use Rattle.fourway_packet.specs.Cut.{len_of, is_complete, packet_of}

-- before the parameters: length 0 stands for 256
abbrev pub head_of : ℕ → ℕ → List ℕ → List ℕ
head_of cmd addr params = 0x2F ∷ cmd ∷ [] ++ big_bytes 2 addr ++ length params % 256 ∷ []

-- what the CRC covers
abbrev pub body_of : ℕ → ℕ → List ℕ → List ℕ
body_of cmd addr params = head_of cmd addr params ++ params

abbrev pub request_of : ℕ → ℕ → List ℕ → List ℕ
request_of cmd addr params = body_of cmd addr params ++ big_bytes 2 (crc_of (body_of cmd addr params))

-- the bytes are one packet, no fewer and no more, and it is read as this command with its parameters
pub record IsRequest (cmd addr : ℕ) (params bytes : List ℕ) : Type 0 where
  pub complete : is_complete bytes ≡ true
  pub no_more : length bytes ≡ len_of bytes
  pub whole : packet_of bytes ≡ Whole cmd addr params
