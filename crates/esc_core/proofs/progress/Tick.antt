-- The steps of TICK: how far each takes the activation, and what it does to the mask.
use Rattle.std.proofs.Common.{◌≡◌, ◌<◌, ◌+◌, ℕ, Bool, true, false, ◌==◌, nat_lt, if◌then◌else◌, List, refl, ap, arith, lit<, ◌≤◌, ◌&&◌, lit≤}
use Rattle.esc_base.specs.declared.kind.Kind.TheVariants as kind
use Rattle.esc_base.specs.declared.note.Note.{Note}
use Rattle.timer_regs.specs.Bank.{Bank}
use Rattle.timer_regs.specs.Effects.{read_value}
use Rattle.timer_regs.specs.declared.regs.Reg.TheVariants as reg
use Rattle.interrupt_machine.specs.Did.{Access, Reads}
use Rattle.arming.specs.Kept.{Kept}
use Rattle.gate_driver.specs.declared.all_off.AllOff.{AllOff}
use Rattle.gate_driver.specs.declared.all_off.AllOff.TheVariants as off
use Rattle.gate_driver.specs.AllOff.{all_off_step, all_off_left}
use Rattle.gate_driver.specs.Change.{Change}
use Rattle.esc_core.specs.declared.state.TickAt.{TickAt}
use Rattle.esc_core.specs.declared.state.TickAt.TheVariants as tick
use Rattle.esc_core.specs.declared.drive.Drive.{Drive}
use Rattle.esc_core.specs.Brain.{Brain}
use Rattle.esc_core.specs.Stepped.{goes_on}
use Rattle.esc_core.specs.Drive.{drive_after}
use Rattle.esc_core.specs.Tick.{ticked, asked, number_in, marks_in, off_step, tick_step}
use Rattle.esc_core.specs.Firmware.{tick_left, comm_left, tick_need, counted_down}
use Rattle.esc_core.proofs.Moves.{Moves}
use Rattle.esc_core.proofs.Masks.{Masks, under_mask, lowers_mask, raises_mask, without_mask}

-- a step of TICK that goes on, by what it leaves: the newest change of sector stays
tick_goes : (left : ℕ) (at : TickAt) (hold : ℕ) (kept : Kept) (d : Drive) (by : Access) (notes : List Note) (c : Brain) → d.turn ≡ c.drive.turn
    → tick_left at < left → 0 < tick_left at
    → Moves kind.Tick left c (record {
      core = record c { tick_at = at; hold = hold; control = kept; drive = d };
      access = by;
      notes = notes;
      over = false;
    })
tick_goes left at hold kept d by notes c turn less more = record {
  less = less;
  more = λ e. more;
  shut = λ e. cc;
  others = elim [
    | kind.Tick ↦ λ ne. absurd (ne refl)
    | kind.Comm ↦ λ ne. (ap (λ (n : Change). comm_left c.comm_at n.at) turn, refl)
    | j ↦ λ ne. (refl, refl)
  ];
}

start_turn : (v : Bool) (t : ℕ) (d : Drive) → (drive_after v t d).turn ≡ d.turn
start_turn true t d = refl
start_turn false t d = refl

-- with demand 0 more steps are left than with one
after_asked : (v start : Bool) → (tick_left (if v then tick.Off off.High else tick.DutyOn start) < 8)
    × (0 < tick_left (if v then tick.Off off.High else tick.DutyOn start))
after_asked true start = (lit< tt, lit< tt)
after_asked false start = (lit< tt, lit< tt)

number_moves : (v : Bool) (n marks : ℕ) (c : Brain) (b : Bank)
    → Moves kind.Tick 8 c (if v then asked n marks (ticked c n marks) c b else goes_on (record c { tick_at = tick.Lower }) (Reads reg.TickState))
number_moves true n marks c b =
    let answer = ticked c n marks in
    let left = after_asked (answer.demand == 0) answer.start in
    tick_goes 8 _ _ _ _ _ _ c (start_turn answer.start b.time c.drive) left.0 left.1
number_moves false n marks c b = tick_goes 8 _ _ _ _ _ _ c refl (lit< tt) (lit< tt)

off_moves : (at : AllOff) (c : Brain) (b : Bank) → Moves kind.Tick (all_off_left at + 5) c (off_step (all_off_step at c.drive.gates b) c)
off_moves off.High c b = tick_goes 7 _ _ _ _ _ _ c refl (lit< tt) (lit< tt)
off_moves off.Low c b = tick_goes 6 _ _ _ _ _ _ c refl (lit< tt) (lit< tt)
off_moves off.Over c b = tick_goes 5 _ _ _ _ _ _ c refl (lit< tt) (lit< tt)

duty_moves : (start : Bool) (c : Brain) (b : Bank) → Moves kind.Tick 4 c (tick_step (tick.DutyOn start) c b)
duty_moves true c b = tick_goes 4 _ _ _ _ _ _ c refl (lit< tt) (lit< tt)
duty_moves false c b = tick_goes 4 _ _ _ _ _ _ c refl (lit< tt) (lit< tt)

pub tick_moves : (at : TickAt) (c : Brain) (b : Bank) → 0 < tick_left at → Moves kind.Tick (tick_left at) c (tick_step at c b)
tick_moves tick.Shut c b l = absurd (omega arith)
tick_moves tick.Raise c b l = tick_goes 9 _ _ _ _ _ _ c refl (lit< tt) (lit< tt)
tick_moves tick.Read c b l =
    let state = read_value b reg.TickState in
    number_moves (nat_lt c.control.number (number_in state)) (number_in state) (marks_in state c.line.active) c b
tick_moves (tick.Off at) c b l = off_moves at c b
tick_moves tick.DutyOff c b l = tick_goes 4 _ _ _ _ _ _ c refl (lit< tt) (lit< tt)
tick_moves tick.DriveOff c b l = tick_goes 3 _ _ _ _ _ _ c refl (lit< tt) (lit< tt)
tick_moves (tick.DutyOn start) c b l = duty_moves start c b
tick_moves tick.Start c b l = tick_goes 3 _ _ _ _ _ _ c refl (lit< tt) (lit< tt)
tick_moves tick.Lower c b l = tick_goes 2 _ _ _ _ _ _ c refl (lit< tt) (lit< tt)
tick_moves tick.Back c b l = record {
  less = lit< tt;
  more = λ e. cc;
  shut = λ e. refl;
  others = elim [ kind.Tick ↦ λ ne. absurd (ne refl) | j ↦ λ ne. (refl, refl) ];
}

-- ---- the mask

after_asked_need : (v start : Bool) → tick_need (if v then tick.Off off.High else tick.DutyOn start) < 7
after_asked_need true start = lit< tt
after_asked_need false start = lit< tt

number_masks : (v : Bool) (n marks : ℕ) (c : Brain) (b : Bank) → c.hold ≤ 8 → (b.masked && nat_lt c.hold 7) ≡ false
    → Masks kind.Tick 7 c.hold b
    (if v then asked n marks (ticked (counted_down c b) n marks) (counted_down c b) b
    else goes_on (record (counted_down c b) { tick_at = tick.Lower }) (Reads reg.TickState))
number_masks true n marks c b le e =
    let answer = ticked (counted_down c b) n marks in
    under_mask kind.Tick 7 c b (asked n marks answer (counted_down c b) b) refl refl refl (after_asked_need (answer.demand == 0) answer.start) (lit≤ tt) le e
number_masks false n marks c b le e = under_mask kind.Tick 7 c b _ refl refl refl (lit< tt) (lit≤ tt) le e

off_masks : (at : AllOff) (c : Brain) (b : Bank) → c.hold ≤ 8 → (b.masked && nat_lt c.hold (all_off_left at + 4)) ≡ false
    → Masks kind.Tick (all_off_left at + 4) c.hold b (off_step (all_off_step at c.drive.gates b) (counted_down c b))
off_masks off.High c b le e = under_mask kind.Tick 6 c b _ refl refl refl (lit< tt) (lit≤ tt) le e
off_masks off.Low c b le e = under_mask kind.Tick 5 c b _ refl refl refl (lit< tt) (lit≤ tt) le e
off_masks off.Over c b le e = under_mask kind.Tick 4 c b _ refl refl refl (lit< tt) (lit≤ tt) le e

duty_masks : (start : Bool) (c : Brain) (b : Bank) → c.hold ≤ 8 → (b.masked && nat_lt c.hold 3) ≡ false
    → Masks kind.Tick 3 c.hold b (tick_step (tick.DutyOn start) (counted_down c b) b)
duty_masks true c b le e = under_mask kind.Tick 3 c b _ refl refl refl (lit< tt) (lit≤ tt) le e
duty_masks false c b le e = under_mask kind.Tick 3 c b _ refl refl refl (lit< tt) (lit≤ tt) le e

pub tick_masks : (at : TickAt) (c : Brain) (b : Bank) → 0 < tick_left at → c.hold ≤ 8 → (b.masked && nat_lt c.hold (tick_need at)) ≡ false
    → Masks kind.Tick (tick_need at) c.hold b (tick_step at (counted_down c b) b)
tick_masks tick.Shut c b l le e = absurd (omega arith)
tick_masks tick.Raise c b l le e = raises_mask kind.Tick c b _ refl refl refl (lit≤ tt) le e
tick_masks tick.Read c b l le e =
    let state = read_value b reg.TickState in
    number_masks (nat_lt c.control.number (number_in state)) (number_in state) (marks_in state c.line.active) c b le e
tick_masks (tick.Off at) c b l le e = off_masks at c b le e
tick_masks tick.DutyOff c b l le e = under_mask kind.Tick 3 c b _ refl refl refl (lit< tt) (lit≤ tt) le e
tick_masks tick.DriveOff c b l le e = under_mask kind.Tick 2 c b _ refl refl refl (lit< tt) (lit≤ tt) le e
tick_masks (tick.DutyOn start) c b l le e = duty_masks start c b le e
tick_masks tick.Start c b l le e = under_mask kind.Tick 2 c b _ refl refl refl (lit< tt) (lit≤ tt) le e
tick_masks tick.Lower c b l le e = lowers_mask kind.Tick 1 c b _ refl refl refl le
tick_masks tick.Back c b l le e = without_mask kind.Tick c b _ refl refl refl le e
