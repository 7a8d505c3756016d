-- The serial bytes that wait, and the packet that those taken before have begun.
use Rattle.std.specs.Prelude.{◌≡◌, ℕ, if◌then◌else◌, List, [], ◌∷◌, ◌++◌, length, Option, None}
use Rattle.esc_base.specs.declared.tick.Tick.{Tick}
use Rattle.fourway_packet.specs.declared.packets.Received.{Received}
use Rattle.fourway_packet.specs.declared.packet.Packet.{Packet}
use Rattle.fourway_packet.specs.Cut.{bytes_of, is_complete, unfinished}
use Rattle.fourway_packet.specs.Part.{grown_of, packet_or_none}

pub record Queue : Type 0 where
  pub waiting : List Received
  pub part : List ℕ
  pub newest : Tick

-- no bytes wait, and none were taken
abbrev pub no_bytes : Queue
no_bytes = record { waiting = []; part = []; newest = record { 0 = 0 } }

abbrev pub IsFull : Queue → Type 0
IsFull q = length q.waiting ≡ 512

-- when the last of these bytes arrived, or t where there is none
abbrev pub newest_of : Tick → List Received → Tick
newest_of t [] = t
newest_of t (r ∷ rest) = newest_of r.t rest

-- these bytes were taken, in this order, since the queue was new
pub record HasTaken (q : Queue) (taken : List Received) : Type 0 where
  pub part_is : q.part ≡ bytes_of (unfinished taken)
  pub newest_is : newest_of q.newest (unfinished taken) ≡ q.newest

-- ---- what calls do, exactly

-- a byte waits behind the others
abbrev pub queued : Queue → Received → Queue
queued q r = record q { waiting = q.waiting ++ r ∷ [] }

-- the packet that the oldest of these bytes completes
abbrev pub completed_by : List Received → Queue → Option Packet
completed_by [] q = None
completed_by (r ∷ rest) q = packet_or_none (grown_of q.part q.newest r)

abbrev pub packet_taken : Queue → Option Packet
packet_taken q = completed_by q.waiting q

-- what is left behind the oldest of these bytes
abbrev pub left_behind : List Received → Queue → Queue
left_behind [] q = q
left_behind (r ∷ rest) q = record {
  waiting = rest;
  part = if is_complete (grown_of q.part q.newest r) then [] else grown_of q.part q.newest r;
  newest = r.t;
}

abbrev pub queue_left : Queue → Queue
queue_left q = left_behind q.waiting q
