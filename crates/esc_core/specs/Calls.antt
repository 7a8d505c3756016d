-- The calls of the flash that a step of the core makes, and what they did to it.
use Rattle.std.specs.Prelude.{◌≡◌, ◌≤◌, ℕ, Bool, true, false, List, [], ◌∷◌, Result, Err}
use Rattle.std.specs.Option.{option_map}
use Rattle.esc_base.specs.Flash.{Told, erased, programmed}
use Rattle.esc_base.specs.Outside.{Rose}
use Rattle.timer_regs.specs.Bank.{Bank}
use Rattle.interrupt_machine.specs.declared.firmware.Did.{Did}
use Rattle.settings_block.specs.Stored.{KeepsBelow}
use Rattle.fourway_packet.specs.declared.packet.Packet.{Packet}
use Rattle.fourway_packet.specs.declared.ack.Ack.{Ack}
use Rattle.fourway_packet.specs.declared.ack.Ack.TheVariants.{UnknownCommand}
use Rattle.esc_core.specs.Line.{IsSaid}
use Rattle.esc_core.specs.Brain.{Brain}
use Rattle.esc_core.specs.Stepped.{Stepped, IsStepped}

pub data Call : Type 0 where
  -- the settings' block is saved
  Saves : List ℕ → Call
  -- a packet is answered, in a session or not, armed or not
  Answers : Packet → Bool → Bool → Call

pub data Answer : Type 0 where
  Took : Answer
  Refused : Answer
  -- what came of a packet: the reply's parameters, or why there are none
  Said : Result (List ℕ) Ack → Answer

abbrev pub answer_of : Bool → Answer
answer_of true = Took
answer_of false = Refused

-- whether the flash took the first call
abbrev pub took_first : List Answer → Bool
took_first [] = false
took_first (Took ∷ answers) = true
took_first (Refused ∷ answers) = false
took_first (Said outcome ∷ answers) = false

-- what came of the packet of the first call
abbrev pub said_first : List Answer → Result (List ℕ) Ack
said_first (Said outcome ∷ answers) = outcome
said_first answers = Err UnknownCommand

-- the flash took a block: its last page is erased, and the block programmed at that page's front
pub record IsSaved (block : List ℕ) (before after : Told) : Type 0 where
  pub bytes_are : after.bytes ≡ option_map (λ cells. programmed (erased cells 31) 31744 block) before.bytes
  pub no_fewer : before.faults ≤ after.faults

-- the flash failed: the bytes of its last page may be any
pub record IsSpoilt (before after : Told) : Type 0 where
  pub below : KeepsBelow 31744 before.bytes after.bytes
  pub rose : Rose before.faults after.faults

-- what a call with this answer does to the flash
abbrev pub CallDid : Call → Answer → Told → Told → Type 0
CallDid (Saves block) Took before after = IsSaved block before after
CallDid (Saves block) Refused before after = IsSpoilt before after
CallDid (Answers packet active armed) (Said outcome) before after = IsSaid packet active armed outcome before after
CallDid call answer before after = ⊥

-- these calls were made, in this order, with these answers
abbrev pub DeviceDid : List Call → List Answer → Told → Told → Type 0
DeviceDid [] [] before after = after ≡ before
DeviceDid [] (answer ∷ answers) before after = ⊥
DeviceDid (call ∷ calls) [] before after = ⊥
DeviceDid (call ∷ calls) (answer ∷ answers) before after = (mid : Told) × CallDid call answer before mid × DeviceDid calls answers mid after

-- A step whose course depends on the flash's answers was made with those that the flash gave to the calls that it asked
-- for; a later call may depend on an earlier answer.
pub record IsMade (step : List Answer → Stepped) (asked : List Answer → List Call) (before : Bank) (flash : Told) (did : Did) (new : Brain) (after : Bank)
    (flash' : Told) : Type 0 where
  pub answers : List Answer
  pub stepped : IsStepped before (step answers) did new after
  pub flash_is : DeviceDid (asked answers) answers flash flash'
