-- A change of the signal line changes when CAP is due, and no other kind.
use Rattle.std.proofs.Common.{◌≡◌, ℕ, Bool, true, false, if◌then◌else◌, Option, Some, refl, ◌∙◌, sym}
use Rattle.esc_base.specs.declared.kind.Kind.{Kind}
use Rattle.esc_base.specs.declared.kind.Kind.TheVariants as kind
use Rattle.esc_base.specs.Trace.{differ}
use Rattle.edge_capture.specs.Window.{Window, after_edge}
use Rattle.timer_regs.specs.Bank.{Bank}
use Rattle.timer_regs.specs.Rest.{put_off}
use Rattle.timer_regs.specs.Effects.{is_due, advanced, after_line}
use Rattle.timer_regs.specs.NextDue.{becomes_due}

-- the registers with what a change of the line changes, where there is one
abbrev lined : Bool → Bank → Bool → Window → Option ℕ → Option ℕ → Bank
lined v b level window timer changed = if v then record b { level = level; window = window; timer = timer; changed = changed } else b

time_in : (v : Bool) (b : Bank) (level : Bool) (window : Window) (timer changed : Option ℕ) → (lined v b level window timer changed).time ≡ b.time
time_in true b level window timer changed = refl
time_in false b level window timer changed = refl

due_in : (v : Bool) (b : Bank) (level : Bool) (window : Window) (timer changed : Option ℕ) (k : Kind) → is_due b kind.Cap ≡ false
    → is_due (lined v b level window timer changed) kind.Cap ≡ false → is_due (lined v b level window timer changed) k ≡ is_due b k
due_in v b level window timer changed kind.Cap e f = f ∙ sym e
due_in true b level window timer changed k e f = refl
due_in false b level window timer changed k e f = refl

becomes_in : (v : Bool) (b : Bank) (level : Bool) (window : Window) (timer changed : Option ℕ) (k : Kind) (t : ℕ)
    → is_due (lined v b level window timer changed) kind.Cap ≡ false → is_due (advanced (lined v b level window timer changed) t) kind.Cap ≡ false
    → becomes_due b k t ≡ false → becomes_due (lined v b level window timer changed) k t ≡ false
becomes_in v b level window timer changed kind.Cap t e f g = rw (e, f) refl
becomes_in true b level window timer changed k t e f g = g
becomes_in false b level window timer changed k t e f g = g

pub line_time : (b : Bank) (level : Bool) → (after_line b level).time ≡ b.time
line_time b level = time_in (differ b.level level) b level (after_edge b.window (record { t = record { 0 = b.time }; level = level }))
    (put_off b.timer b.time) (Some b.time)

pub line_due : (b : Bank) (level : Bool) (k : Kind) → is_due b kind.Cap ≡ false → is_due (after_line b level) kind.Cap ≡ false
    → is_due (after_line b level) k ≡ is_due b k
line_due b level k e f = due_in (differ b.level level) b level (after_edge b.window (record { t = record { 0 = b.time }; level = level }))
    (put_off b.timer b.time) (Some b.time) k e f

pub line_becomes : (b : Bank) (level : Bool) (k : Kind) (t : ℕ) → is_due (after_line b level) kind.Cap ≡ false
    → is_due (advanced (after_line b level) t) kind.Cap ≡ false → becomes_due b k t ≡ false → becomes_due (after_line b level) k t ≡ false
line_becomes b level k t e f g = becomes_in (differ b.level level) b level (after_edge b.window (record { t = record { 0 = b.time }; level = level }))
    (put_off b.timer b.time) (Some b.time) k t e f g
