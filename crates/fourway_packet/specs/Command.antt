-- The commands: their numbers, their conditions, and what they do beside the flash.
use Rattle.std.specs.Prelude.{ℕ, ◌+◌, Bool, true, false, not, ◌&&◌, ◌||◌, ◌==◌, nat_lt, nat_le, if◌then◌else◌, List, [], ◌∷◌, length, slice_index, codes, Option, Some, None, Result, Ok, Err, is_some}
use Rattle.std.specs.Result.{result_ok}
use Rattle.settings_block.specs.declared.settings.Settings.{Settings}
use Rattle.settings_block.specs.Block.{read_of}
use Rattle.fourway_packet.specs.declared.command.Command.{Command}
use Rattle.fourway_packet.specs.declared.command.Command.TheVariants as cmd
use Rattle.fourway_packet.specs.declared.ack.Ack.{Ack}
use Rattle.fourway_packet.specs.declared.ack.Ack.TheVariants as ack

-- the command with this number
abbrev pub command_of : ℕ → Option Command
command_of n =
    if n == 0x30 then Some cmd.Alive
    else (if n == 0x31 then Some cmd.ProtocolVersion
    else (if n == 0x32 then Some cmd.Name
    else (if n == 0x33 then Some cmd.InterfaceVersion
    else (if n == 0x34 then Some cmd.Exit
    else (if n == 0x35 then Some cmd.Reset
    else (if n == 0x37 then Some cmd.InitFlash
    else (if n == 0x39 then Some cmd.PageErase
    else (if n == 0x3A then Some cmd.Read
    else (if n == 0x3B then Some cmd.Write
    else (if n == 0x3D then Some cmd.ReadEeprom
    else (if n == 0x3E then Some cmd.WriteEeprom
    else (if n == 0x3F then Some cmd.SetMode
    else (if n == 0x40 then Some cmd.Verify
    else None)))))))))))))

-- how many bytes are asked for: 0 stands for 256
abbrev pub count_of : ℕ → ℕ
count_of n = if n == 0 then 256 else n

abbrev pub first_of : List ℕ → ℕ
first_of params = slice_index params 0

-- the first parameter is a channel
abbrev pub has_channel : Command → Bool
has_channel cmd.Reset = true
has_channel cmd.InitFlash = true
has_channel c = false

-- the command calls the flash
abbrev pub calls_flash : Command → Bool
calls_flash cmd.PageErase = true
calls_flash cmd.Read = true
calls_flash cmd.Write = true
calls_flash cmd.ReadEeprom = true
calls_flash cmd.WriteEeprom = true
calls_flash cmd.Verify = true
calls_flash c = false

-- the command is locked: no session begins while armed, and flash commands need an active session, while not armed
abbrev pub is_locked : Command → Bool → Bool → Bool
is_locked cmd.InitFlash active armed = armed
is_locked c active armed = calls_flash c && (armed || not active)

-- the settings of these bytes, if they are a block of 48 without a fault
abbrev pub settings_in : List ℕ → Option Settings
settings_in bytes = if length bytes == 48 then result_ok (read_of bytes) else None

-- the command takes this address and these parameters
abbrev pub takes : Command → ℕ → List ℕ → Bool
takes cmd.PageErase addr params = nat_lt (first_of params) 32
takes cmd.Read addr params = nat_le (addr + count_of (first_of params)) 0x8000
takes cmd.Write addr params = nat_le (addr + length params) 0x8000
takes cmd.ReadEeprom addr params = nat_le (addr + count_of (first_of params)) 0x400
takes cmd.WriteEeprom addr params = (addr == 0) && is_some (settings_in params)
takes cmd.SetMode addr params = first_of params == 4
takes cmd.Verify addr params = nat_le (addr + length params) 0x8000
takes c addr params = true

-- the command would change one of the first four pages, which hold the start code
abbrev pub is_reserved : Command → ℕ → List ℕ → Bool
is_reserved cmd.PageErase addr params = nat_lt (first_of params) 4
is_reserved cmd.Write addr params = nat_lt addr 0x1000
is_reserved c addr params = false

-- whether the session is active after the command
abbrev pub session_after : Command → Bool → Bool
session_after cmd.Exit active = false
session_after cmd.Reset active = false
session_after cmd.InitFlash active = true
session_after c active = active

-- the one parameter of a reply without content
abbrev pub nothing : List ℕ
nothing = 0 ∷ []

-- the reply's parameters, where they don't come from the flash
abbrev pub content_of : Command → List ℕ
content_of cmd.ProtocolVersion = 107 ∷ []
content_of cmd.Name = codes "m4wFCIntf"
content_of cmd.InterfaceVersion = 200 ∷ 4 ∷ []
content_of cmd.InitFlash = 0x06 ∷ 0x1F ∷ 0x00 ∷ 0x04 ∷ []
content_of c = nothing

-- the command that may be carried out, or the first reason against it
abbrev pub judged : Option Command → ℕ → List ℕ → Bool → Bool → Result Command Ack
judged None addr params active armed = Err ack.UnknownCommand
judged (Some c) addr params active armed =
    if has_channel c && not (first_of params == 0) then Err ack.WrongChannel
    else (if is_locked c active armed then Err ack.NotAllowed
    else (if not (takes c addr params) then Err ack.WrongParameters
    else (if is_reserved c addr params then Err ack.NotAllowed
    else Ok c)))
