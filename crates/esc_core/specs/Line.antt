-- What MAIN and UART share of the serial line, and what taking a byte does.
use Rattle.std.specs.Prelude.{◌≡◌, ◌≤◌, ℕ, Bool, false, ◌&&◌, ◌==◌, nat_lt, length, List, [], Option, Some, None, Result}
use Rattle.esc_base.specs.declared.note.Note.{Note}
use Rattle.esc_base.specs.declared.note.Note.TheVariants as note
use Rattle.esc_base.specs.Numbers.{as_tick}
use Rattle.esc_base.specs.Flash.{Told}
use Rattle.esc_base.specs.Outside.{Rose}
use Rattle.fourway_packet.specs.declared.packet.Packet.{Packet}
use Rattle.fourway_packet.specs.declared.ack.Ack.{Ack}
use Rattle.fourway_packet.specs.declared.reply.Reply.{Reply}
use Rattle.fourway_packet.specs.Answer.{cmd_of, addr_of, admitted_of, ComesOf, said_params, said_ack, session_behind}
use Rattle.fourway_packet.specs.Queue.{Queue, packet_taken, queue_left}
use Rattle.fourway_packet.specs.Reply.{reply_text}

pub record Line : Type 0 where
  -- the bytes that wait, and the packet that has begun
  pub packets : Queue
  -- a session is active
  pub active : Bool
  -- the bytes of the reply that are still to be sent
  pub left : List ℕ

abbrev pub first_line : Queue → Line
first_line packets = record { packets = packets; active = false; left = [] }

-- MAIN is to take a byte: one waits, and no byte of a reply is to be sent
abbrev pub line_waits : Line → Bool
line_waits s = nat_lt 0 (length s.packets.waiting) && (length s.left == 0)

abbrev pub reply_of : Packet → Result (List ℕ) Ack → Reply
reply_of packet outcome = record { cmd = cmd_of packet; addr = addr_of packet; params = said_params outcome; ack = said_ack outcome }

-- a byte is taken that completes no packet, or this one, which has this outcome
abbrev pub taken_by : Option Packet → Result (List ℕ) Ack → Bool → Line → Line
taken_by None outcome armed s = record s { packets = queue_left s.packets }
taken_by (Some packet) outcome armed s = record {
  packets = queue_left s.packets;
  active = session_behind (admitted_of packet s.active armed) s.active;
  left = reply_text (reply_of packet outcome);
}

abbrev pub packet_note : Option Packet → Result (List ℕ) Ack → ℕ → Option Note
packet_note None outcome t = None
packet_note (Some packet) outcome t = Some (note.Packet (as_tick t) (cmd_of packet) (said_ack outcome))

-- a packet was answered
pub record IsSaid (packet : Packet) (active armed : Bool) (outcome : Result (List ℕ) Ack) (before after : Told) : Type 0 where
  pub comes : ComesOf (admitted_of packet active armed) packet before.bytes outcome after.bytes
  pub no_fewer : before.faults ≤ after.faults
  pub failed : said_ack outcome ≡ 6 → Rose before.faults after.faults

abbrev pub SaidBy : Option Packet → Bool → Bool → Result (List ℕ) Ack → Told → Told → Type 0
SaidBy None active armed outcome before after = after ≡ before
SaidBy (Some packet) active armed outcome before after = IsSaid packet active armed outcome before after

-- a byte was taken, with this outcome of the packet that it completes
pub record TakesByte (armed : Bool) (t : ℕ) (old : Line) (before : Told) (given : Option Note) (new : Line) (after : Told) : Type 0 where
  pub outcome : Result (List ℕ) Ack
  pub line_is : new ≡ taken_by (packet_taken old.packets) outcome armed old
  pub note_is : given ≡ packet_note (packet_taken old.packets) outcome t
  pub said : SaidBy (packet_taken old.packets) old.active armed outcome before after
