-- How packets are cut from the serial bytes that arrived.
use Rattle.std.specs.Prelude.{ℕ, zero, suc, ◌+◌, ◌-◌, Bool, not, ◌&&◌, ◌==◌, nat_lt, nat_le, if◌then◌else◌, List, [], ◌∷◌, ◌++◌, map, length, take, drop, slice_index}
use Rattle.std.specs.List.{slice_range}
use Rattle.byteorder.specs.Endian.{big_number}
use Rattle.esc_base.specs.declared.tick.Tick.{Tick}
use Rattle.esc_base.specs.Times.{packet_pause}
use Rattle.fourway_packet.specs.declared.packet.Packet.{Packet}
use Rattle.fourway_packet.specs.declared.packet.Packet.TheVariants.{Whole, BadCrc}
use Rattle.fourway_packet.specs.declared.packets.Received.{Received}
use Rattle.fourway_packet.specs.Command.{count_of}
use Rattle.fourway_packet.specs.Crc.{crc_of}

-- ---- one packet: 0x2F, command, two bytes of address, length, parameters, two bytes of CRC

-- how many bytes of it the CRC covers
abbrev pub covered_of : List ℕ → ℕ
covered_of bytes = 5 + count_of (slice_index bytes 4)

-- how many bytes it has: 7 more than its parameters
abbrev pub len_of : List ℕ → ℕ
len_of bytes = covered_of bytes + 2

-- the bytes hold a whole packet; while the length byte isn't there it counts as 0, so that 263 bytes are asked for
abbrev pub is_complete : List ℕ → Bool
is_complete bytes = nat_le (len_of bytes) (length bytes)

abbrev pub packet_by : Bool → List ℕ → Packet
packet_by is_right bytes =
    if is_right then Whole (slice_index bytes 1) (big_number 2 (drop 2 bytes)) (slice_range bytes 5 (covered_of bytes))
    else BadCrc (slice_index bytes 1) (big_number 2 (drop 2 bytes))

-- the packet, whole or with a wrong CRC
unfoldable pub packet_of : List ℕ → Packet
packet_of bytes = packet_by (crc_of (take (covered_of bytes) bytes) == big_number 2 (drop (covered_of bytes) bytes)) bytes

-- ---- all bytes

abbrev pub bytes_of : List Received → List ℕ
bytes_of received = map (λ r. r.byte) received

-- t is more than `packet_pause` after the tick before
abbrev pub is_late : Tick → Tick → Bool
is_late before t = nat_lt (before.0 + packet_pause) t.0

-- the bytes up to and without the first that is late after the one before it
abbrev pub in_time : Tick → List Received → List Received
in_time before [] = []
in_time before (r ∷ rest) = if is_late before r.t then [] else r ∷ in_time r.t rest

abbrev pub begins : Received → Bool
begins r = r.byte == 0x2F

-- a byte, and those after it up to and without the first that is late
abbrev pub run_of : Received → List Received → List ℕ
run_of first rest = bytes_of (first ∷ in_time first.t rest)

-- the packet that the bytes begin with: its bytes come in time up to its end
abbrev pub packets_at : Received → List Received → List Packet
packets_at first rest = if begins first && is_complete (run_of first rest) then packet_of (take (len_of (run_of first rest)) (run_of first rest)) ∷ [] else []

-- how many bytes after the first one are passed over with it: none where it isn't a 0x2F, else the rest of its packet, or, where
-- a byte of that is late or the bytes end before, all up to there
abbrev pub passed : Received → List Received → ℕ
passed first rest =
    if begins first
    then (if is_complete (run_of first rest) then len_of (run_of first rest) - 1 else length (in_time first.t rest))
    else 0

-- the packets in what follows the first n bytes
unfoldable pub cut_behind : ℕ → List Received → List Packet
cut_behind n [] = []
cut_behind (suc n) (first ∷ rest) = cut_behind n rest
cut_behind zero (first ∷ rest) = packets_at first rest ++ cut_behind (passed first rest) rest

-- the packets in these bytes
abbrev pub cut : List Received → List Packet
cut received = cut_behind 0 received

-- ---- the packet that has begun when the bytes end

-- the bytes begin a packet, and end before it does, with none of them late
abbrev pub is_open : Received → List Received → Bool
is_open first rest = begins first && not (is_complete (run_of first rest)) && (length (in_time first.t rest) == length rest)

unfoldable pub unfinished_behind : ℕ → List Received → List Received
unfinished_behind n [] = []
unfinished_behind (suc n) (first ∷ rest) = unfinished_behind n rest
unfinished_behind zero (first ∷ rest) = if is_open first rest then first ∷ rest else unfinished_behind (passed first rest) rest

-- the bytes of the packet that has begun
abbrev pub unfinished : List Received → List Received
unfinished received = unfinished_behind 0 received
