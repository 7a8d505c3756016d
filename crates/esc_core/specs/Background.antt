-- The steps of MAIN: where a save is asked for it saves, else it takes a byte and answers the packet that this completes; then it returns.
use Rattle.std.specs.Option.{option_to_list}
use Rattle.std.specs.Prelude.{◌≡◌, ℕ, Bool, true, false, if◌then◌else◌, List, [], ◌∷◌, Option, Some, None, Result}
use Rattle.esc_base.specs.declared.note.Note.{Note}
use Rattle.esc_base.specs.declared.note.Note.TheVariants as note
use Rattle.esc_base.specs.Numbers.{as_tick}
use Rattle.timer_regs.specs.Bank.{Bank}
use Rattle.timer_regs.specs.declared.regs.Reg.TheVariants as reg
use Rattle.interrupt_machine.specs.declared.firmware.Did.{Did}
use Rattle.interrupt_machine.specs.Did.{Access, NoAccess, Writes, accessed, notes_of}
use Rattle.fourway_packet.specs.declared.packet.Packet.{Packet}
use Rattle.fourway_packet.specs.declared.ack.Ack.{Ack}
use Rattle.fourway_packet.specs.Queue.{packet_taken}
use Rattle.esc_core.specs.Line.{taken_by, packet_note}
use Rattle.settings_block.specs.Block.{block_of}
use Rattle.esc_core.specs.declared.state.MainAt.{MainAt}
use Rattle.esc_core.specs.declared.state.MainAt.TheVariants as main
use Rattle.esc_core.specs.Brain.{Brain}
use Rattle.esc_core.specs.Stepped.{Stepped, goes_back, is_return}
use Rattle.esc_core.specs.Calls.{Call, Saves, Answers, Answer, took_first, said_first}

-- the result of a save in a P
abbrev pub result_of : Bool → ℕ
result_of true = 0
result_of false = 1

-- a save, which the flash took or refused
abbrev pub saving_step : Bool → Brain → Bank → Stepped
saving_step saved c b = record {
  core = record c { orders = record c.orders { save_asked = false } };
  access = NoAccess;
  notes = note.Saved (as_tick b.time) (result_of saved) ∷ [];
  over = false;
}

-- the access of a step that gives a B: from then on there are bytes to send
abbrev pub access_of : Option Note → Access
access_of None = NoAccess
access_of (Some n) = Writes reg.TxOn 1

-- a byte was taken that completes no packet, or this one, with this outcome
abbrev pub taking_by : Option Packet → Result (List ℕ) Ack → Brain → Bank → Stepped
taking_by o outcome c b = record {
  core = record c { line = taken_by o outcome c.control.armed c.line };
  access = access_of (packet_note o outcome b.time);
  notes = option_to_list (packet_note o outcome b.time);
  over = false;
}

abbrev pub taking_step : Result (List ℕ) Ack → Brain → Bank → Stepped
taking_step outcome c b = taking_by (packet_taken c.line.packets) outcome c b

-- MAIN decides what it does in this step
abbrev pub work_step : List Answer → Brain → Bank → Stepped
work_step answers c b =
    if c.orders.save_asked then saving_step (took_first answers) (record c { main_at = main.Back }) b
    else taking_step (said_first answers) (record c { main_at = main.Back }) b

abbrev pub main_step : List Answer → MainAt → Brain → Bank → Stepped
main_step answers main.Work c b = work_step answers c b
main_step answers main.Back c b = goes_back (record c { main_at = main.Shut })
main_step answers main.Shut c b = goes_back (record c { main_at = main.Shut })

-- the calls of a step of MAIN: it saves the settings as they stand then, or answers a packet
abbrev pub answers_asked : Option Packet → Bool → Bool → List Call
answers_asked None active armed = []
answers_asked (Some packet) active armed = Answers packet active armed ∷ []

abbrev pub main_asked : MainAt → Brain → List Answer → List Call
main_asked main.Work c answers =
    if c.orders.save_asked then Saves (block_of c.orders.settings) ∷ [] else answers_asked (packet_taken c.line.packets) c.line.active c.control.armed
main_asked at c answers = []

-- the end of the step: the B, if there is one, and that bytes are to be sent
pub record Tells (before : Bank) (given : Option Note) (did : Did) (after : Bank) : Type 0 where
  pub bank_is : after ≡ accessed before (access_of given)
  pub notes_are : notes_of did ≡ option_to_list given
  pub over_is : is_return did ≡ false
