-- What CAP is entered for.
use Rattle.std.proofs.Common.{List}
use Rattle.std.proofs.lemmas.Bool.{le-leb}
use Rattle.esc_base.specs.declared.kind.Kind.TheVariants as kind
use Rattle.esc_base.specs.declared.event.Event.{Event}
use Rattle.timer_regs.specs.Bank.{Bank}
use Rattle.timer_regs.specs.Effects.{after_entry}
use Rattle.esc_core.specs.declared.state.CapAt.TheVariants as cap
use Rattle.esc_core.specs.Brain.{Brain}
use Rattle.esc_core.specs.Firmware.{entered_core}
use Rattle.esc_laws.specs.Asked.{IsCapAsked}
use Rattle.esc_laws.specs.Place.{Signal, Listens, Rests, Place}
use Rattle.esc_rooms.specs.Tied.{cap_view, SignalTied}
use Rattle.esc_rooms.proofs.shared.Dues.{cap_place}

-- the window has closed, or the line has rested after the pause or the reply
pub cap_asked : (s : Signal) (trace : List Event) (c : Brain) (b : Bank) (p : Place)
    → SignalTied s cap.Start (cap_view trace (entered_core c kind.Cap) (after_entry b kind.Cap) (cap_place p b.time)) → IsCapAsked trace s b.time
cap_asked (Listens w m) trace c b p i = rw i.closes (le-leb i.closed_at b.time i.waits)
cap_asked (Rests from latest r) trace c b p i = i.rested
cap_asked s trace c b p i = absurd i
