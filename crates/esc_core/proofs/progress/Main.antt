-- The steps of MAIN: how far each takes the activation.
use Rattle.std.proofs.Common.{◌<◌, ℕ, Bool, true, false, if◌then◌else◌, Option, Some, None, List, Result, refl, arith, lit<}
use Rattle.esc_base.specs.declared.kind.Kind.TheVariants as kind
use Rattle.timer_regs.specs.Bank.{Bank}
use Rattle.esc_core.specs.declared.state.MainAt.{MainAt}
use Rattle.esc_core.specs.declared.state.MainAt.TheVariants as main
use Rattle.esc_core.specs.Brain.{Brain}
use Rattle.esc_core.specs.Calls.{Answer, took_first, said_first}
use Rattle.esc_core.specs.Background.{saving_step, main_step, taking_by}
use Rattle.esc_core.specs.Firmware.{main_left}
use Rattle.fourway_packet.specs.declared.packet.Packet.{Packet}
use Rattle.fourway_packet.specs.declared.ack.Ack.{Ack}
use Rattle.fourway_packet.specs.Queue.{packet_taken}
use Rattle.esc_core.proofs.Moves.{PlainMoves}

takes_moves : (o : Option Packet) (outcome : Result (List ℕ) Ack) (c : Brain) (b : Bank)
    → PlainMoves kind.Main 2 c b (taking_by o outcome (record c { main_at = main.Back }) b)
takes_moves None outcome c b = record {
  moves = record { less = lit< tt; more = λ e. lit< tt; shut = λ e. cc; others = elim [ kind.Main ↦ λ ne. absurd (ne refl) | j ↦ λ ne. (refl, refl) ] };
  masked = refl;
  hold = refl;
}
takes_moves (Some packet) outcome c b = record {
  moves = record { less = lit< tt; more = λ e. lit< tt; shut = λ e. cc; others = elim [ kind.Main ↦ λ ne. absurd (ne refl) | j ↦ λ ne. (refl, refl) ] };
  masked = refl;
  hold = refl;
}

work_moves : (v saved : Bool) (o : Option Packet) (outcome : Result (List ℕ) Ack) (c : Brain) (b : Bank)
    → PlainMoves kind.Main 2 c b
    (if v then saving_step saved (record c { main_at = main.Back }) b else taking_by o outcome (record c { main_at = main.Back }) b)
work_moves true saved o outcome c b = record {
  moves = record { less = lit< tt; more = λ e. lit< tt; shut = λ e. cc; others = elim [ kind.Main ↦ λ ne. absurd (ne refl) | j ↦ λ ne. (refl, refl) ] };
  masked = refl;
  hold = refl;
}
work_moves false saved o outcome c b = takes_moves o outcome c b

pub main_moves : (at : MainAt) (answers : List Answer) (c : Brain) (b : Bank) → 0 < main_left at
    → PlainMoves kind.Main (main_left at) c b (main_step answers at c b)
main_moves main.Shut answers c b l = absurd (omega arith)
main_moves main.Work answers c b l = work_moves c.orders.save_asked (took_first answers) (packet_taken c.line.packets) (said_first answers) c b
main_moves main.Back answers c b l = record {
  moves = record { less = lit< tt; more = λ e. cc; shut = λ e. refl; others = elim [ kind.Main ↦ λ ne. absurd (ne refl) | j ↦ λ ne. (refl, refl) ] };
  masked = refl;
  hold = refl;
}
