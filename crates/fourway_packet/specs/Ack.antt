-- Acknowledgements as numbers.
use Rattle.std.specs.Prelude.{ℕ}
use Rattle.fourway_packet.specs.declared.ack.Ack.{Ack}
use Rattle.fourway_packet.specs.declared.ack.Ack.TheVariants.{UnknownCommand, WrongCrc, Differs, FlashFailed, WrongChannel, WrongParameters, NotAllowed}

abbrev pub ack_number : Ack → ℕ
ack_number UnknownCommand = 0x02
ack_number WrongCrc = 0x03
ack_number Differs = 0x04
ack_number FlashFailed = 0x06
ack_number WrongChannel = 0x08
ack_number WrongParameters = 0x09
ack_number NotAllowed = 0x0F
