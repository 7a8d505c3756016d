-- The steps of CMP: how far each takes the activation, and what it does to the mask.
use Rattle.std.proofs.Common.{◌≡◌, ◌<◌, ℕ, Bool, true, false, nat_lt, nat_le, List, refl, ap, arith, lit<, ◌≤◌, ◌&&◌, lit≤}
use Rattle.esc_base.specs.declared.kind.Kind.TheVariants as kind
use Rattle.esc_base.specs.declared.note.Note.{Note}
use Rattle.timer_regs.specs.Bank.{Bank}
use Rattle.interrupt_machine.specs.Did.{Access}
use Rattle.zero_cross.specs.declared.phase.Phase.{Phase}
use Rattle.zero_cross.specs.declared.phase.Phase.TheVariants as phase
use Rattle.zero_cross.specs.Kept.{is_expected, is_clean, until}
use Rattle.gate_driver.specs.Change.{Change}
use Rattle.esc_core.specs.declared.state.CmpAt.{CmpAt}
use Rattle.esc_core.specs.declared.state.CmpAt.TheVariants as cmp
use Rattle.esc_core.specs.declared.drive.Drive.{Drive}
use Rattle.esc_core.specs.Brain.{Brain}
use Rattle.esc_core.specs.Cmp.{ready_step, judged_step, blank_step, filter_step, look_step, is_blanked, read_step, may_filter, ack_step, cmp_step}
use Rattle.esc_core.specs.Firmware.{cmp_left, comm_left, cmp_need, counted_down}
use Rattle.esc_core.proofs.Moves.{Moves, arms_mask}
use Rattle.esc_core.proofs.Masks.{Masks, under_mask, lowers_mask, raises_mask, without_mask}

-- a step of CMP that goes on, by what it leaves: the newest change of sector stays
cmp_goes : (left : ℕ) (at : CmpAt) (hold : ℕ) (d : Drive) (by : Access) (notes : List Note) (c : Brain) → d.turn ≡ c.drive.turn → cmp_left at < left
    → 0 < cmp_left at → Moves kind.Cmp left c (record { core = record c { cmp_at = at; hold = hold; drive = d }; access = by; notes = notes; over = false })
cmp_goes left at hold d by notes c turn less more = record {
  less = less;
  more = λ e. more;
  shut = λ e. cc;
  others = elim [
    | kind.Cmp ↦ λ ne. absurd (ne refl)
    | kind.Comm ↦ λ ne. (ap (λ (n : Change). comm_left c.comm_at n.at) turn, refl)
    | j ↦ λ ne. (refl, refl)
  ];
}

ready_moves : (v : Bool) (c : Brain) (b : Bank) → Moves kind.Cmp 5 c (ready_step v c b)
ready_moves true c b = cmp_goes 5 _ _ _ _ _ c refl (lit< tt) (lit< tt)
ready_moves false c b = cmp_goes 5 _ _ _ _ _ c refl (lit< tt) (lit< tt)

judged_moves : (v : Bool) (c : Brain) (b : Bank) → Moves kind.Cmp 6 c (judged_step v c b)
judged_moves true c b = cmp_goes 6 _ _ _ _ _ c refl (lit< tt) (lit< tt)
judged_moves false c b = cmp_goes 6 _ _ _ _ _ c refl (lit< tt) (lit< tt)

read_moves : (v : Bool) (c : Brain) (b : Bank) → Moves kind.Cmp 5 c (read_step v c b)
read_moves true c b = ready_moves (is_expected c.drive.crossing b.comp) c b
read_moves false c b = cmp_goes 5 _ _ _ _ _ c refl (lit< tt) (lit< tt)

blank_moves : (v : Bool) (c : Brain) (b : Bank) → Moves kind.Cmp 6 c (blank_step v c b)
blank_moves true c b = cmp_goes 6 _ _ _ _ _ c refl (lit< tt) (lit< tt)
blank_moves false c b = cmp_goes 6 _ _ _ _ _ c refl (lit< tt) (lit< tt)

filter_moves : (v : Bool) (c : Brain) (b : Bank) → Moves kind.Cmp 6 c (filter_step v c b)
filter_moves true c b = judged_moves (is_clean c.drive.crossing b.comp b.comp_changed) c b
filter_moves false c b = cmp_goes 6 _ _ _ _ _ c refl (lit< tt) (lit< tt)

look_moves : (p : Phase) (c : Brain) (b : Bank) → Moves kind.Cmp 6 c (look_step p c b)
look_moves (phase.Blank end) c b = blank_moves (nat_le end.0 b.time) c b
look_moves (phase.Filter end) c b = filter_moves (nat_le end.0 b.time) c b
look_moves phase.Watch c b = cmp_goes 6 _ _ _ _ _ c refl (lit< tt) (lit< tt)
look_moves phase.Off c b = cmp_goes 6 _ _ _ _ _ c refl (lit< tt) (lit< tt)
look_moves phase.Done c b = cmp_goes 6 _ _ _ _ _ c refl (lit< tt) (lit< tt)

ack_moves : (v : Bool) (c : Brain) (b : Bank) → Moves kind.Cmp 4 c (ack_step v c b)
ack_moves true c b = cmp_goes 4 _ _ _ _ _ c refl (lit< tt) (lit< tt)
ack_moves false c b = cmp_goes 4 _ _ _ _ _ c refl (lit< tt) (lit< tt)

pub cmp_moves : (at : CmpAt) (c : Brain) (b : Bank) → 0 < cmp_left at → Moves kind.Cmp (cmp_left at) c (cmp_step at c b)
cmp_moves cmp.Shut c b l = absurd (omega arith)
cmp_moves cmp.Raise c b l = cmp_goes 7 _ _ _ _ _ c refl (lit< tt) (lit< tt)
cmp_moves cmp.Look c b l = look_moves c.drive.crossing.phase c b
cmp_moves cmp.Read c b l = read_moves (is_blanked c.drive.crossing.phase b.time) c b
cmp_moves cmp.Ack c b l = ack_moves (may_filter c.drive.crossing.phase b.time) c b
cmp_moves cmp.Arm c b l = cmp_goes 3 _ _ _ _ _ c refl (lit< tt) (lit< tt)
cmp_moves cmp.Commute c b l = cmp_goes 3 _ _ _ _ _ c refl (lit< tt) (lit< tt)
cmp_moves cmp.Lower c b l = cmp_goes 2 _ _ _ _ _ c refl (lit< tt) (lit< tt)
cmp_moves cmp.Back c b l = record {
  less = lit< tt;
  more = λ e. cc;
  shut = λ e. refl;
  others = elim [ kind.Cmp ↦ λ ne. absurd (ne refl) | j ↦ λ ne. (refl, refl) ];
}

-- ---- the mask

-- a step of CMP's look: under the mask it goes on to a place that needs it for fewer steps
ready_masks : (v : Bool) (c : Brain) (b : Bank) → c.hold ≤ 8 → (b.masked && nat_lt c.hold 4) ≡ false
    → Masks kind.Cmp 4 c.hold b (ready_step v (counted_down c b) b)
ready_masks true c b le e = under_mask kind.Cmp 4 c b _ refl refl refl (lit< tt) (lit≤ tt) le e
ready_masks false c b le e = under_mask kind.Cmp 4 c b _ refl refl refl (lit< tt) (lit≤ tt) le e

read_masks : (v : Bool) (c : Brain) (b : Bank) → c.hold ≤ 8 → (b.masked && nat_lt c.hold 4) ≡ false
    → Masks kind.Cmp 4 c.hold b (read_step v (counted_down c b) b)
read_masks true c b le e = ready_masks (is_expected c.drive.crossing b.comp) c b le e
read_masks false c b le e = under_mask kind.Cmp 4 c b _ refl refl refl (lit< tt) (lit≤ tt) le e

judged_masks : (v : Bool) (c : Brain) (b : Bank) → c.hold ≤ 8 → (b.masked && nat_lt c.hold 5) ≡ false
    → Masks kind.Cmp 5 c.hold b (judged_step v (counted_down c b) b)
judged_masks true c b le e = under_mask kind.Cmp 5 c b _ refl refl refl (lit< tt) (lit≤ tt) le e
judged_masks false c b le e = under_mask kind.Cmp 5 c b _ refl refl refl (lit< tt) (lit≤ tt) le e

blank_masks : (v : Bool) (c : Brain) (b : Bank) → c.hold ≤ 8 → (b.masked && nat_lt c.hold 5) ≡ false
    → Masks kind.Cmp 5 c.hold b (blank_step v (counted_down c b) b)
blank_masks true c b le e = under_mask kind.Cmp 5 c b _ refl refl refl (lit< tt) (lit≤ tt) le e
blank_masks false c b le e = under_mask kind.Cmp 5 c b _ refl refl refl (lit< tt) (lit≤ tt) le e

filter_masks : (v : Bool) (c : Brain) (b : Bank) → c.hold ≤ 8 → (b.masked && nat_lt c.hold 5) ≡ false
    → Masks kind.Cmp 5 c.hold b (filter_step v (counted_down c b) b)
filter_masks true c b le e = judged_masks (is_clean c.drive.crossing b.comp b.comp_changed) c b le e
filter_masks false c b le e = under_mask kind.Cmp 5 c b _ refl refl refl (lit< tt) (lit≤ tt) le e

look_masks : (p : Phase) (c : Brain) (b : Bank) → c.hold ≤ 8 → (b.masked && nat_lt c.hold 5) ≡ false
    → Masks kind.Cmp 5 c.hold b (look_step p (counted_down c b) b)
look_masks (phase.Blank end) c b le e = blank_masks (nat_le end.0 b.time) c b le e
look_masks (phase.Filter end) c b le e = filter_masks (nat_le end.0 b.time) c b le e
look_masks phase.Watch c b le e = under_mask kind.Cmp 5 c b _ refl refl refl (lit< tt) (lit≤ tt) le e
look_masks phase.Off c b le e = under_mask kind.Cmp 5 c b _ refl refl refl (lit< tt) (lit≤ tt) le e
look_masks phase.Done c b le e = under_mask kind.Cmp 5 c b _ refl refl refl (lit< tt) (lit≤ tt) le e

ack_masks : (v : Bool) (c : Brain) (b : Bank) → c.hold ≤ 8 → (b.masked && nat_lt c.hold 3) ≡ false
    → Masks kind.Cmp 3 c.hold b (ack_step v (counted_down c b) b)
ack_masks true c b le e = under_mask kind.Cmp 3 c b _ refl refl refl (lit< tt) (lit≤ tt) le e
ack_masks false c b le e = under_mask kind.Cmp 3 c b _ refl refl refl (lit< tt) (lit≤ tt) le e

pub cmp_masks : (at : CmpAt) (c : Brain) (b : Bank) → 0 < cmp_left at → c.hold ≤ 8 → (b.masked && nat_lt c.hold (cmp_need at)) ≡ false
    → Masks kind.Cmp (cmp_need at) c.hold b (cmp_step at (counted_down c b) b)
cmp_masks cmp.Shut c b l le e = absurd (omega arith)
cmp_masks cmp.Raise c b l le e = raises_mask kind.Cmp c b _ refl refl refl (lit≤ tt) le e
cmp_masks cmp.Look c b l le e = look_masks c.drive.crossing.phase c b le e
cmp_masks cmp.Read c b l le e = read_masks (is_blanked c.drive.crossing.phase b.time) c b le e
cmp_masks cmp.Ack c b l le e = ack_masks (may_filter c.drive.crossing.phase b.time) c b le e
cmp_masks cmp.Arm c b l le e = under_mask kind.Cmp 2 c b _ refl (arms_mask (until c.drive.crossing.phase) b) refl (lit< tt) (lit≤ tt) le e
cmp_masks cmp.Commute c b l le e = under_mask kind.Cmp 2 c b _ refl refl refl (lit< tt) (lit≤ tt) le e
cmp_masks cmp.Lower c b l le e = lowers_mask kind.Cmp 1 c b _ refl refl refl le
cmp_masks cmp.Back c b l le e = without_mask kind.Cmp c b _ refl refl refl le e
