-- What CMP is entered for.
use Rattle.std.proofs.Common.{◌≡◌, ℕ, Bool, true, false, ◌&&◌, ◌||◌, Option, None, refl, arith}
use Rattle.esc_base.specs.declared.kind.Kind.TheVariants as kind
use Rattle.esc_base.specs.Times.{is_reached, least_blanking, rejected_blanking}
use Rattle.zero_cross.specs.declared.phase.Phase.{Phase}
use Rattle.zero_cross.specs.declared.phase.Phase.TheVariants as phase
use Rattle.zero_cross.specs.Comparator.{held}
use Rattle.commutation.specs.Commutated.{Turn, Idle, Started, Turned, Crossed, turn_at}
use Rattle.esc_core.specs.declared.state.CmpAt.TheVariants as cmp
use Rattle.esc_laws.specs.Asked.{IsInSector, LooksSeldom, cmp_entries, looks_since}
use Rattle.esc_laws.specs.Crossed.{blanked_at}
use Rattle.esc_rooms.specs.CrossTied.{HasQ, PhaseTied, Armed}
use Rattle.esc_rooms.specs.World.{World}
use Rattle.esc_rooms.specs.Rooms.{cross_seen}
use Rattle.esc_rooms.proofs.shared.DriveFacts.{comm_shut}
use Rattle.esc_rooms.proofs.shared.Law.{AtEntry}
use Rattle.esc_rooms.proofs.cmp.CrossFacts.{cmp_shut}
use Rattle.esc_rooms.proofs.cmp.Facts.{Stands, stands}
use Rattle.esc_rooms.proofs.cmp.Events.{called_by}
use Rattle.esc_rooms.proofs.cmp.Seldom.{nothing_due, pace_entered}
use Rattle.esc_rooms.proofs.cmp.Preserves.{free_at}

stands_entered : (w : World) → AtEntry kind.Cmp w → Stands (cross_seen w) cmp.Shut w.core.drive.crossing.phase
stands_entered w i =
    stands (cross_seen w) cmp.Shut w.core.drive.crossing.phase (cmp_shut w.core.cmp_at i.shut) refl
    (free_at w (comm_shut w.core.comm_at w.core.drive.turn.at (i.highest.shut kind.Comm (omega arith))) (i.unheld kind.Tick) i.past) (i.rest.ties kind.Cmp)

sector_of : (turn : Turn) → HasQ turn → IsInSector turn
sector_of (Turned q) h = tt
sector_of Idle h = absurd h
sector_of Started h = absurd h
sector_of (Crossed q z) h = absurd h

-- it comes due only after a Q
in_sector : (p : Phase) (timer : Option ℕ) (enabled changed : Bool) (since blanked past t : ℕ) (turn : Turn)
    → PhaseTied p turn changed since blanked t past → Armed p timer enabled → (is_reached timer t || (enabled && changed)) ≡ true → IsInSector turn
in_sector phase.Off timer enabled changed since blanked past t turn tied armed due = absurd (nothing_due timer enabled changed t armed.0 armed.1 due)
in_sector (phase.Blank end) timer enabled changed since blanked past t turn tied armed due = sector_of turn tied.0
in_sector phase.Watch timer enabled changed since blanked past t turn tied armed due = sector_of turn tied.0
in_sector (phase.Filter end) timer enabled changed since blanked past t turn tied armed due = sector_of turn tied.0
in_sector phase.Done timer enabled changed since blanked past t turn tied armed due = absurd (nothing_due timer enabled changed t armed.0 armed.1 due)

-- of four entries the fourth comes long after the first
looks_seldom : (w : World) → AtEntry kind.Cmp w → LooksSeldom w.back w.bank.time
looks_seldom w i =
    let s = stands_entered w i in
    let c = called_by w.core.drive.crossing.phase w.bank.crossing w.bank.comp_enabled w.bank.comp_changed w.bank.time s.regs i.due in
    record {
      all = (pace_entered least_blanking w.core.drive.crossing.phase w.bank.crossing w.bank.comp_enabled w.bank.comp_changed w.bank.time
          (cmp_entries w.back) s.seldom.ordered s.regs i.due c s.seldom.all).0;
      since_turn = (pace_entered rejected_blanking w.core.drive.crossing.phase w.bank.crossing w.bank.comp_enabled w.bank.comp_changed w.bank.time
          (looks_since w.back) s.seldom.ordered_since s.regs i.due c s.seldom.since_turn).0;
    }

pub cmp_asked : (w : World) → AtEntry kind.Cmp w → IsInSector (turn_at w.back) × LooksSeldom w.back w.bank.time
cmp_asked w i = (
  in_sector w.core.drive.crossing.phase w.bank.crossing w.bank.comp_enabled w.bank.comp_changed (held w.trace w.bank.time).since (blanked_at w.back)
      w.made.cmp_past w.bank.time (turn_at w.back) (stands_entered w i).phase_is (stands_entered w i).regs i.due,
  looks_seldom w i,
)
