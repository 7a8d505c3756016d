-- The steps of COMM: how far each takes the activation.
use Rattle.std.proofs.Common.{◌≡◌, ◌<◌, ◌+◌, ℕ, Bool, true, false, nat_lt, nat_le, if◌then◌else◌, Option, Some, None, List, refl, arith, lit<}
use Rattle.esc_base.specs.declared.kind.Kind.TheVariants as kind
use Rattle.esc_base.specs.declared.note.Note.{Note}
use Rattle.esc_base.specs.Times.{stuck_changes}
use Rattle.timer_regs.specs.Bank.{Bank}
use Rattle.interrupt_machine.specs.Did.{Access, accessed}
use Rattle.zero_cross.specs.Kept.{until}
use Rattle.commutation.specs.Sectors.{high_of, low_of}
use Rattle.gate_driver.specs.declared.to_sector.ChangeAt.{ChangeAt}
use Rattle.gate_driver.specs.declared.to_sector.ChangeAt.TheVariants as change
use Rattle.gate_driver.specs.Gated.{Gated, high_wait, low_wait}
use Rattle.gate_driver.specs.Change.{Change, low_step, high_step, duty_step, place_step, change_left}
use Rattle.esc_core.specs.declared.state.CommAt.{CommAt}
use Rattle.esc_core.specs.declared.state.CommAt.TheVariants as comm
use Rattle.esc_core.specs.declared.drive.Drive.{Drive}
use Rattle.esc_core.specs.Brain.{Brain}
use Rattle.esc_core.specs.Comm.{waits_for, decided, turned, turn_step, resumed_step, comm_step}
use Rattle.esc_core.specs.Firmware.{comm_left}
use Rattle.esc_core.proofs.Moves.{PlainMoves, arms_mask}

comm_goes : (left : ℕ) (at : CommAt) (d : Drive) (by : Access) (notes : List Note) (c : Brain) (b : Bank) → comm_left at d.turn.at < left
    → 0 < comm_left at d.turn.at → (accessed b by).masked ≡ b.masked
    → PlainMoves kind.Comm left c b (record { core = record c { drive = d; comm_at = at }; access = by; notes = notes; over = false })
comm_goes left at d by notes c b less more same = record {
  moves = record {
    less = less;
    more = λ e. more;
    shut = λ e. cc;
    others = elim [ kind.Comm ↦ λ ne. absurd (ne refl) | j ↦ λ ne. (refl, refl) ];
  };
  masked = same;
  hold = refl;
}

low_moves : (wait : Option ℕ) (c : Brain) (b : Bank) → PlainMoves kind.Comm 10 c b (turned change.Low (low_step wait c.drive.turn c.drive.gates b) c b)
low_moves None c b = comm_goes 10 _ _ _ _ c b (lit< tt) (lit< tt) refl
low_moves (Some t) c b = comm_goes 10 _ _ _ _ c b (lit< tt) (lit< tt) refl

duty_read_moves : (v : Bool) (position : ℕ) (c : Brain) (b : Bank)
    → PlainMoves kind.Comm 8 c b (turned (change.Duty position) (duty_step v c.drive.turn c.drive.gates) c b)
duty_read_moves true position c b = comm_goes 8 _ _ _ _ c b (lit< tt) (lit< tt) refl
duty_read_moves false position c b = comm_goes 8 _ _ _ _ c b (lit< tt) (lit< tt) refl

high_moves : (wait : Option ℕ) (c : Brain) (b : Bank) → PlainMoves kind.Comm 7 c b (turned change.High (high_step wait c.drive.turn c.drive.gates b) c b)
high_moves None c b = comm_goes 7 _ _ _ _ c b (lit< tt) (lit< tt) refl
high_moves (Some t) c b = comm_goes 7 _ _ _ _ c b (lit< tt) (lit< tt) refl

turn_moves : (at : ChangeAt) (c : Brain) (b : Bank) → PlainMoves kind.Comm (change_left at + 6) c b (turn_step at c b)
turn_moves change.ClearHigh c b = comm_goes 13 _ _ _ _ c b (lit< tt) (lit< tt) refl
turn_moves change.ClearLow c b = comm_goes 12 _ _ _ _ c b (lit< tt) (lit< tt) refl
turn_moves change.SetSector c b = comm_goes 11 _ _ _ _ c b (lit< tt) (lit< tt) refl
turn_moves change.Low c b = low_moves (low_wait c.drive.gates b (low_of c.drive.turn.to)) c b
turn_moves change.Position c b = comm_goes 9 _ _ _ _ c b (lit< tt) (lit< tt) refl
turn_moves (change.Duty position) c b = duty_read_moves (nat_lt position b.duty) position c b
turn_moves change.High c b = high_moves (high_wait c.drive.gates b (high_of c.drive.turn.to)) c b
turn_moves change.Over c b = comm_goes 6 _ _ _ _ c b (lit< tt) (lit< tt) refl

-- no step of a sector change touches the mask
low_mask : (wait : Option ℕ) (n : Change) (g : Gated) (b : Bank) → (accessed b (low_step wait n g b).access).masked ≡ b.masked
low_mask None n g b = refl
low_mask (Some t) n g b = refl

duty_mask : (v : Bool) (n : Change) (g : Gated) (b : Bank) → (accessed b (duty_step v n g).access).masked ≡ b.masked
duty_mask true n g b = refl
duty_mask false n g b = refl

high_mask : (wait : Option ℕ) (n : Change) (g : Gated) (b : Bank) → (accessed b (high_step wait n g b).access).masked ≡ b.masked
high_mask None n g b = refl
high_mask (Some t) n g b = refl

place_mask : (at : ChangeAt) (n : Change) (g : Gated) (b : Bank) → (accessed b (place_step at n g b).access).masked ≡ b.masked
place_mask change.Low n g b = low_mask (low_wait g b (low_of n.to)) n g b
place_mask (change.Duty position) n g b = duty_mask (nat_lt position b.duty) n g b
place_mask change.High n g b = high_mask (high_wait g b (high_of n.to)) n g b
place_mask at n g b = refl

resumed_moves : (c : Brain) (b : Bank) → PlainMoves kind.Comm 4 c b (resumed_step c b)
resumed_moves c b = comm_goes 4 _ _ _ _ c b (lit< tt) (lit< tt) (place_mask c.drive.turn.at c.drive.turn c.drive.gates b)

waits_left : (postponed : Bool) (at : ChangeAt) → (comm_left (waits_for postponed) at < 14) × (0 < comm_left (waits_for postponed) at)
waits_left true at = (lit< tt, lit< tt)
waits_left false at = (lit< tt, lit< tt)

begun_moves : (due : Bool) (c : Brain) (b : Bank) → PlainMoves kind.Comm 14 c b (decided due c b)
begun_moves true c b = comm_goes 14 _ _ _ _ c b (lit< tt) (lit< tt) refl
begun_moves false c b =
    let left = waits_left c.drive.postponed c.drive.turn.at in
    comm_goes 14 _ _ _ _ c b left.0 left.1 refl

armed_left : (v : Bool) (at : ChangeAt)
    → (comm_left (if v then comm.Stick else comm.Back) at < 3) × (0 < comm_left (if v then comm.Stick else comm.Back) at)
armed_left true at = (lit< tt, lit< tt)
armed_left false at = (lit< tt, lit< tt)

pub comm_moves : (at : CommAt) (c : Brain) (b : Bank) → 0 < comm_left at c.drive.turn.at
    → PlainMoves kind.Comm (comm_left at c.drive.turn.at) c b (comm_step at c b)
comm_moves comm.Shut c b l = absurd (omega arith)
comm_moves comm.Decide c b l = begun_moves (nat_le c.drive.change b.time) c b
comm_moves comm.Turn c b l = turn_moves c.drive.turn.at c b
comm_moves comm.Low c b l = resumed_moves c b
comm_moves comm.Blank c b l = comm_goes 5 _ _ _ _ c b (lit< tt) (lit< tt) (arms_mask (until c.drive.crossing.phase) b)
comm_moves comm.Period c b l = comm_goes 4 _ _ _ _ c b (lit< tt) (lit< tt) refl
comm_moves comm.Arm c b l =
    let left = armed_left (nat_le stuck_changes c.drive.forced) c.drive.turn.at in
    comm_goes 3 _ _ _ _ c b left.0 left.1 refl
comm_moves comm.Stick c b l = comm_goes 2 _ _ _ _ c b (lit< tt) (lit< tt) refl
comm_moves comm.Back c b l = record {
  moves = record {
    less = lit< tt;
    more = λ e. cc;
    shut = λ e. refl;
    others = elim [ kind.Comm ↦ λ ne. absurd (ne refl) | j ↦ λ ne. (refl, refl) ];
  };
  masked = refl;
  hold = refl;
}
