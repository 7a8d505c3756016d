-- One more byte after those of a packet that has begun, the newest of which arrived at `newest`.
use Rattle.std.specs.Prelude.{ℕ, not, ◌&&◌, ◌==◌, if◌then◌else◌, List, [], ◌∷◌, ◌++◌, length, Option, Some, None}
use Rattle.esc_base.specs.declared.tick.Tick.{Tick}
use Rattle.fourway_packet.specs.declared.packet.Packet.{Packet}
use Rattle.fourway_packet.specs.declared.packets.Received.{Received}
use Rattle.fourway_packet.specs.Cut.{is_complete, is_late, packet_of}

-- the bytes that are kept: none where the next one comes too late
abbrev pub kept_of : List ℕ → Tick → Tick → List ℕ
kept_of part newest t = if is_late newest t then [] else part

-- a byte is added, where it isn't one before a 0x2F
abbrev pub with_byte : List ℕ → ℕ → List ℕ
with_byte part byte = if (length part == 0) && not (byte == 0x2F) then [] else part ++ byte ∷ []

abbrev pub grown_of : List ℕ → Tick → Received → List ℕ
grown_of part newest r = with_byte (kept_of part newest r.t) r.byte

abbrev pub packet_or_none : List ℕ → Option Packet
packet_or_none bytes = if is_complete bytes then Some (packet_of bytes) else None
