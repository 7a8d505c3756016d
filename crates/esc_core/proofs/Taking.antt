-- Taking a byte is what the model says.
use Rattle.std.proofs.Common.{◌≡◌, ◌≤◌, ℕ, Bool, List, [], ◌∷◌, length, Option, Some, None, Result, Err, refl, sym, ◌∙◌, ap, subst, arith}
use Rattle.esc_base.specs.declared.note.Note.{Note}
use Rattle.esc_base.specs.declared.note.Note.TheVariants as note
use Rattle.esc_base.specs.Flash.{Told}
use Rattle.esc_base.specs.Outside.{Rose}
use Rattle.esc_base.specs.Numbers.{as_tick}
use Rattle.fourway_packet.specs.declared.packet.Packet.{Packet}
use Rattle.fourway_packet.specs.declared.packets.Received.{Received}
use Rattle.fourway_packet.specs.declared.ack.Ack.{Ack}
use Rattle.fourway_packet.specs.declared.ack.Ack.TheVariants.{UnknownCommand}
use Rattle.fourway_packet.specs.declared.reply.Reply.{Reply}
use Rattle.fourway_packet.specs.Answer.{cmd_of, addr_of, admitted_of, IsAnswered, said_params, said_ack, session_behind}
use Rattle.fourway_packet.specs.Queue.{Queue, completed_by, left_behind, packet_taken, queue_left}
use Rattle.fourway_packet.specs.Reply.{reply_text}
use Rattle.std.specs.Option.{option_to_list}
use Rattle.timer_regs.specs.Bank.{Bank}
use Rattle.interrupt_machine.specs.declared.firmware.Did.{Did}
use Rattle.interrupt_machine.specs.Did.{accessed}
use Rattle.esc_core.specs.Brain.{Brain}
use Rattle.esc_core.specs.Stepped.{Stepped, IsStepped}
use Rattle.esc_core.specs.Calls.{Answer, Said, said_first, DeviceDid, IsMade}
use Rattle.esc_core.specs.Background.{access_of, answers_asked, taking_by, taking_step, Tells}
use Rattle.esc_core.specs.Line.{Line, reply_of, SaidBy, TakesByte}

line_is : (s : Line) (q : Queue) (a : Bool) (l : List ℕ) → s.packets ≡ q → s.active ≡ a → s.left ≡ l → s ≡ record { packets = q; active = a; left = l }
line_is s q a l p b c = rw (← p, ← b, ← c) refl

same_reply : (packet : Packet) (reply : Reply) (outcome : Result (List ℕ) Ack) → reply.cmd ≡ cmd_of packet → reply.addr ≡ addr_of packet
    → reply.params ≡ said_params outcome → reply.ack ≡ said_ack outcome → reply ≡ reply_of packet outcome
same_reply packet reply outcome c a p k = rw (← c, ← a, ← p, ← k) refl

-- a packet was answered
pub answered : (armed : Bool) (t : ℕ) (old new : Line) (flash flash' : Told) (packet : Packet) (reply : Reply) (o : Option Packet)
    → o ≡ packet_taken old.packets → o ≡ Some packet → new.packets ≡ queue_left old.packets
    → reply.cmd ≡ cmd_of packet → reply.addr ≡ addr_of packet
    → IsAnswered packet old.active armed flash.bytes reply flash'.bytes
    → new.active ≡ session_behind (admitted_of packet old.active armed) old.active → new.left ≡ reply_text reply
    → flash.faults ≤ flash'.faults → (reply.ack ≡ 6 → Rose flash.faults flash'.faults)
    → TakesByte armed t old flash (Some (note.Packet (as_tick t) reply.cmd reply.ack)) new flash'
answered armed t old new flash flash' packet reply o taken is queue cmd addr said session left faults rose =
    let which : packet_taken old.packets ≡ Some packet = sym taken ∙ is in
    let same = same_reply packet reply said.outcome cmd addr said.params said.ack in
    record {
      outcome = said.outcome;
      line_is = rw which (line_is new _ _ _ queue session (left ∙ ap (λ (r : Reply). reply_text r) same));
      note_is = rw which (ap (λ (r : Reply). Some (note.Packet (as_tick t) r.cmd r.ack)) same);
      said = rw which (record { comes = said.comes; no_fewer = faults; failed = λ six. rose (said.ack ∙ six) });
    }

-- the byte completed no packet
pub unanswered : (armed : Bool) (t : ℕ) (old new : Line) (flash : Told) (o : Option Packet) → o ≡ packet_taken old.packets → o ≡ None
    → new.packets ≡ queue_left old.packets → new.active ≡ old.active → new.left ≡ old.left → TakesByte armed t old flash None new flash
unanswered armed t old new flash o taken is queue session left =
    let which : packet_taken old.packets ≡ None = sym taken ∙ is in
    record {
      outcome = Err UnknownCommand;
      line_is = rw which (line_is new _ _ _ queue session left);
      note_is = rw which refl;
      said = rw which refl;
    }

none_waits : (waiting : List Received) → length waiting ≡ 0 → waiting ≡ []
none_waits [] e = refl
none_waits (r ∷ rest) e = absurd (omega arith)

-- no byte waited
pub untaken : (armed : Bool) (t : ℕ) (old : Line) (flash : Told) → length old.packets.waiting ≡ 0 → TakesByte armed t old flash None old flash
untaken armed t old flash e =
    let none = none_waits old.packets.waiting e in
    unanswered armed t old old flash None (sym (ap (λ (w : List Received). completed_by w old.packets) none)) refl
    (sym (ap (λ (w : List Received). left_behind w old.packets) none)) refl refl

-- the answers of the flash to a step that takes a byte
abbrev given_by : Option Packet → Result (List ℕ) Ack → List Answer
given_by None outcome = []
given_by (Some packet) outcome = Said outcome ∷ []

did_by : (o : Option Packet) (active armed : Bool) (outcome : Result (List ℕ) Ack) (before after : Told) → SaidBy o active armed outcome before after
    → DeviceDid (answers_asked o active armed) (given_by o outcome) before after
did_by None active armed outcome before after s = s
did_by (Some packet) active armed outcome before after s = (after, s, refl)

same_step : (o : Option Packet) (outcome : Result (List ℕ) Ack) (c : Brain) (b : Bank)
    → taking_by o outcome c b ≡ taking_by o (said_first (given_by o outcome)) c b
same_step None outcome c b = refl
same_step (Some packet) outcome c b = refl

pub made_by : (armed : Bool) (t : ℕ) (c new : Brain) (b b' : Bank) (flash flash' : Told) (given : Option Note) (did : Did) (line : Line)
    → armed ≡ c.control.armed → t ≡ b.time
    → TakesByte armed t c.line flash given line flash' → Tells b given did b' → new ≡ record c { line = line }
    → IsMade (λ answers. taking_step (said_first answers) c b)
    (λ answers. answers_asked (packet_taken c.line.packets) c.line.active c.control.armed) b flash did new b' flash'
made_by armed t c new b b' flash flash' given did line ea et takes tells is =
    let x : TakesByte c.control.armed b.time c.line flash given line flash' = rw (ea, et) at takes in
    record {
      answers = given_by (packet_taken c.line.packets) x.outcome;
      stepped = subst (λ (s : Stepped). IsStepped b s did new b') (same_step (packet_taken c.line.packets) x.outcome c b) (record {
        core_is = is ∙ ap (λ (l : Line). record c { line = l }) x.line_is;
        bank_is = tells.bank_is ∙ ap (λ (n : Option Note). accessed b (access_of n)) x.note_is;
        notes_are = tells.notes_are ∙ ap (λ (n : Option Note). option_to_list n) x.note_is;
        over_is = tells.over_is;
      });
      flash_is = did_by (packet_taken c.line.packets) c.line.active c.control.armed x.outcome flash flash' x.said;
    }
