-- What answers say, and what they do to the flash. The conditions on a packet stand in `Command.antt`.
use Rattle.std.specs.Prelude.{◌≡◌, ℕ, ◌+◌, ◌*◌, Bool, false, List, [], length, take, drop, Option, Some, None, Result, Ok, Err}
use Rattle.std.specs.Option.{option_map}
use Rattle.esc_base.specs.Flash.{erased, programmed, ChangesWithin, IsRead}
use Rattle.settings_block.specs.Stored.{settings_address, settings_page, KeepsBelow}
use Rattle.fourway_packet.specs.declared.packet.Packet.{Packet}
use Rattle.fourway_packet.specs.declared.packet.Packet.TheVariants.{Whole, BadCrc}
use Rattle.fourway_packet.specs.declared.command.Command.{Command}
use Rattle.fourway_packet.specs.declared.command.Command.TheVariants as cmd
use Rattle.fourway_packet.specs.declared.ack.Ack.{Ack}
use Rattle.fourway_packet.specs.declared.ack.Ack.TheVariants as ack
use Rattle.fourway_packet.specs.declared.reply.Reply.{Reply}
use Rattle.fourway_packet.specs.Ack.{ack_number}
use Rattle.fourway_packet.specs.Command.{command_of, count_of, first_of, nothing, content_of, judged, calls_flash, session_after}

abbrev pub cmd_of : Packet → ℕ
cmd_of (Whole cmd addr params) = cmd
cmd_of (BadCrc cmd addr) = cmd

abbrev pub addr_of : Packet → ℕ
addr_of (Whole cmd addr params) = addr
addr_of (BadCrc cmd addr) = addr

abbrev pub params_of : Packet → List ℕ
params_of (Whole cmd addr params) = params
params_of (BadCrc cmd addr) = []

-- the command of a packet that may be carried out, or the first reason to refuse it
abbrev pub admitted_of : Packet → Bool → Bool → Result Command Ack
admitted_of (Whole cmd addr params) active armed = judged (command_of cmd) addr params active armed
admitted_of (BadCrc cmd addr) active armed = Err ack.WrongCrc

-- ---- what a command does: `before` and `after` are what the flash tells of its bytes

-- the content is the `count` bytes of the flash from an address on
pub record ReadsOut (at count : ℕ) (before : Option (List ℕ)) (content : List ℕ) : Type 0 where
  pub len : length content ≡ count
  pub read : IsRead before at content

-- the bytes from an address on are others than these, where the flash tells them
abbrev pub HasOthers : Option (List ℕ) → ℕ → List ℕ → Type 0
HasOthers None at bytes = Unit {0}
HasOthers (Some cells) at bytes = ¬ (bytes ≡ take (length bytes) (drop at cells))

-- the command was carried out: what the reply's parameters are, and what the flash then holds
abbrev pub IsDone : Command → ℕ → List ℕ → Option (List ℕ) → List ℕ → Option (List ℕ) → Type 0
IsDone cmd.PageErase addr params before content after = (content ≡ nothing) × (after ≡ option_map (λ cells. erased cells (first_of params)) before)
IsDone cmd.Read addr params before content after = ReadsOut addr (count_of (first_of params)) before content × (after ≡ before)
IsDone cmd.Write addr params before content after = (content ≡ nothing) × (after ≡ option_map (λ cells. programmed cells addr params) before)
IsDone cmd.ReadEeprom addr params before content after = ReadsOut (settings_address + addr) (count_of (first_of params)) before content × (after ≡ before)
IsDone cmd.WriteEeprom addr params before content after = (content ≡ nothing) × (after ≡ option_map (λ cells. programmed (erased cells settings_page) settings_address params) before)
IsDone cmd.Verify addr params before content after = (content ≡ nothing) × IsRead before addr params × (after ≡ before)
IsDone c addr params before content after = (content ≡ content_of c) × (after ≡ before)

-- the flash failed: what it then holds; commands that don't call the flash can't fail so
abbrev pub HasFailed : Command → ℕ → List ℕ → Option (List ℕ) → Option (List ℕ) → Type 0
HasFailed cmd.PageErase addr params before after = ChangesWithin (first_of params * 1024) 1024 before after
HasFailed cmd.Read addr params before after = after ≡ before
HasFailed cmd.Write addr params before after = ChangesWithin addr (length params) before after
HasFailed cmd.ReadEeprom addr params before after = after ≡ before
HasFailed cmd.WriteEeprom addr params before after = KeepsBelow settings_address before after
HasFailed cmd.Verify addr params before after = after ≡ before
HasFailed c addr params before after = ⊥

-- the flash holds other bytes than those to verify, and is left as it was
abbrev pub HasDiffered : Command → ℕ → List ℕ → Option (List ℕ) → Option (List ℕ) → Type 0
HasDiffered cmd.Verify addr params before after = HasOthers before addr params × (after ≡ before)
HasDiffered c addr params before after = ⊥

-- what comes of a command that may be carried out: the reply's parameters, or why there are none
abbrev pub IsCarriedOut : Command → ℕ → List ℕ → Option (List ℕ) → Result (List ℕ) Ack → Option (List ℕ) → Type 0
IsCarriedOut c addr params before (Ok content) after = IsDone c addr params before content after
IsCarriedOut c addr params before (Err ack.FlashFailed) after = HasFailed c addr params before after
IsCarriedOut c addr params before (Err ack.Differs) after = HasDiffered c addr params before after
IsCarriedOut c addr params before (Err why) after = ⊥

-- ---- what a packet's reply says

-- what comes of a packet: it is refused, and the flash is left as it was, or its command is carried out
abbrev pub ComesOf : Result Command Ack → Packet → Option (List ℕ) → Result (List ℕ) Ack → Option (List ℕ) → Type 0
ComesOf (Err why) packet before outcome after = (outcome ≡ Err why) × (after ≡ before)
ComesOf (Ok c) packet before outcome after = IsCarriedOut c (addr_of packet) (params_of packet) before outcome after

abbrev pub said_params : Result (List ℕ) Ack → List ℕ
said_params (Ok content) = content
said_params (Err why) = nothing

abbrev pub said_ack : Result (List ℕ) Ack → ℕ
said_ack (Ok content) = 0
said_ack (Err why) = ack_number why

-- the reply to a packet, where a session is active or not, and the motor armed or not
pub record IsAnswered (packet : Packet) (active armed : Bool) (before : Option (List ℕ)) (reply : Reply) (after : Option (List ℕ)) : Type 0 where
  pub outcome : Result (List ℕ) Ack
  pub comes : ComesOf (admitted_of packet active armed) packet before outcome after
  pub params : reply.params ≡ said_params outcome
  pub ack : reply.ack ≡ said_ack outcome

-- whether the session is active after the packet
abbrev pub session_behind : Result Command Ack → Bool → Bool
session_behind (Err why) active = active
session_behind (Ok c) active = session_after c active

-- whether the packet calls the flash
abbrev pub reaches_flash : Result Command Ack → Bool
reaches_flash (Err why) = false
reaches_flash (Ok c) = calls_flash c
