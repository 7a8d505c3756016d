-- A law, or what a law is said with: what `Legal` means rests on this.
-- Which kinds the notes, the trace and the time call for. Nothing here knows a register.
use Rattle.std.specs.Prelude.{ℕ, ◌/◌, Bool, false, ◌||◌, nat_lt, nat_le, max, List, reverse}
use Rattle.esc_base.specs.declared.kind.Kind.{Kind}
use Rattle.esc_base.specs.declared.kind.Kind.TheVariants as kind
use Rattle.esc_base.specs.declared.event.Event.{Event}
use Rattle.esc_base.specs.declared.note.Note.{Note}
use Rattle.esc_base.specs.Trace.{line}
use Rattle.esc_base.specs.Numbers.{mode_of}
use Rattle.esc_base.specs.Times.{is_reached}
use Rattle.edge_capture.specs.Burst.{close}
use Rattle.arming.specs.ControlAt.{asked_at, number_at}
use Rattle.esc_laws.specs.Rested.{first_rested}
use Rattle.settings_block.specs.declared.stored.Loaded.{Loaded}
use Rattle.zero_cross.specs.Comparator.{held}
use Rattle.esc_laws.specs.Saves.{advance_of, forward_at}
use Rattle.esc_laws.specs.Calls.{calls_pwm, calls_comm}
use Rattle.esc_laws.specs.Crossed.{expects_at}
use Rattle.esc_laws.specs.Searched.{sight_at, calls_cmp, calls_watch}
use Rattle.esc_laws.specs.Place.{Signal, Listens, Rests, Place, place}

-- CAP is called from the close of a window that has no F; while no W stands after an F, from the first rested tick at or after
-- the latest tick of the window timer and the return of that F's activation
abbrev pub calls_cap : List Event → Signal → ℕ → Bool
calls_cap trace (Listens w m) t = is_reached (close (line trace).edges w (mode_of m)) t
calls_cap trace (Rests from latest r) t = nat_le (first_rested (line trace).edges (max latest r)) t
calls_cap trace s t = false

-- A kind is seen due at a tick: TICK from the first one of a control tick that no K has, MAIN while a save is asked for. PWM
-- and COMM go by the K, and COMM by the Z, which stand a few steps before the registers call them: until then the mask is up.
abbrev pub sees_at : Loaded → List Event → Place → List Note → ℕ → Kind → Bool
sees_at loaded trace p back t kind.Tick = nat_lt (number_at back) (t / 2400)
sees_at loaded trace p back t kind.Cap = calls_cap trace p.signal t
sees_at loaded trace p back t kind.Main = asked_at back
sees_at loaded trace p back t kind.Pwm = calls_pwm back t
sees_at loaded trace p back t kind.Comm = calls_comm (advance_of loaded.settings) back t
sees_at loaded trace p back t kind.Cmp =
    calls_cmp (held trace t) (expects_at (forward_at loaded.settings) back) (sight_at back) t
    || calls_watch (held trace t) (expects_at (forward_at loaded.settings) back) back t
sees_at loaded trace p back t kind.Uart = false

abbrev pub sees : Loaded → List Event → List Note → ℕ → Kind → Bool
sees loaded trace notes t k = sees_at loaded trace (place notes) (reverse notes) t k
