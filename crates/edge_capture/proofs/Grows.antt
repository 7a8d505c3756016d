-- Over a trace: once a window is closed, an event at or after the close changes nothing of its burst.
use Rattle.std.proofs.Common.{◌≡◌, ◌≤◌, ℕ, Bool, true, false, if◌then◌else◌, List, [], ◌∷◌, ◌++◌, Some, refl}
use Rattle.esc_base.specs.declared.signal.Edge.{Edge}
use Rattle.esc_base.specs.declared.signal.Mode.{Mode}
use Rattle.esc_base.specs.declared.event.Event.{Event}
use Rattle.esc_base.specs.declared.event.Event.TheVariants as event
use Rattle.esc_base.specs.Trace.{line, tick_of, differ}
use Rattle.esc_base.proofs.TraceLaws.{line-push}
use Rattle.edge_capture.specs.Burst.{burst, close}
use Rattle.edge_capture.proofs.Stable.{burst_later}

changed : (v : Bool) (edges : List Edge) (x : Edge) (w c : ℕ) (m : Mode) → close edges w m ≡ Some c → c ≤ x.t.0
    → burst (if v then edges ++ x ∷ [] else edges) w m ≡ burst edges w m
changed true edges x w c m h le = burst_later edges x w c m h le
changed false edges x w c m h le = refl

pub burst_grows : (trace : List Event) (e : Event) (w c : ℕ) (m : Mode) → close (line trace).edges w m ≡ Some c → c ≤ tick_of e
    → burst (line (trace ++ e ∷ [])).edges w m ≡ burst (line trace).edges w m
burst_grows trace (event.Edge t level) w c m h le =
    rw (line-push trace (event.Edge t level)) (changed (differ (line trace).level level) (line trace).edges (record { t = t; level = level }) w c m h le)
burst_grows trace (event.Comp t level) w c m h le = rw (line-push trace (event.Comp t level)) refl
burst_grows trace (event.Serial t byte) w c m h le = rw (line-push trace (event.Serial t byte)) refl
burst_grows trace (event.Stall t n) w c m h le = rw (line-push trace (event.Stall t n)) refl
