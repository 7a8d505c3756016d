-- A change of the comparator changes when CMP is due, and no other kind; where it doesn't make CMP due at once, it doesn't
-- change that either.
use Rattle.std.proofs.Common.{◌≡◌, ℕ, Bool, true, false, not, ◌&&◌, ◌||◌, if◌then◌else◌, refl, ◌∙◌, sym}
use Rattle.esc_base.specs.declared.kind.Kind.{Kind}
use Rattle.esc_base.specs.declared.kind.Kind.TheVariants as kind
use Rattle.esc_base.specs.Times.{is_reached}
use Rattle.esc_base.specs.Trace.{differ}
use Rattle.timer_regs.specs.Bank.{Bank}
use Rattle.timer_regs.specs.Effects.{is_due, after_comp}
use Rattle.timer_regs.specs.NextDue.{becomes_due}

-- the registers with what a change of the comparator changes, where there is one
abbrev compared : Bool → Bank → Bool → Bank
compared v b level = if v then record b { comp = level; comp_changed = true } else b

time_in : (v : Bool) (b : Bank) (level : Bool) → (compared v b level).time ≡ b.time
time_in true b level = refl
time_in false b level = refl

due_in : (v : Bool) (b : Bank) (level : Bool) (k : Kind) → is_due b kind.Cmp ≡ false → is_due (compared v b level) kind.Cmp ≡ false
    → is_due (compared v b level) k ≡ is_due b k
due_in v b level kind.Cmp e f = f ∙ sym e
due_in true b level k e f = refl
due_in false b level k e f = refl

-- where a change asks for nothing now, it asks for nothing later
unasked : (before after enabled changed : Bool) → (before || (enabled && true)) ≡ false
    → (not (before || (enabled && changed)) && (after || (enabled && changed))) ≡ false
    → (not (before || (enabled && true)) && (after || (enabled && true))) ≡ false
unasked true after enabled changed e g = refl
unasked false after true changed e g = cc
unasked false after false changed e g = g

becomes_in : (v : Bool) (b : Bank) (level : Bool) (k : Kind) (t : ℕ) → is_due (compared v b level) kind.Cmp ≡ false → becomes_due b k t ≡ false
    → becomes_due (compared v b level) k t ≡ false
becomes_in true b level kind.Cmp t f g = unasked (is_reached b.crossing b.time) (is_reached b.crossing t) b.comp_enabled b.comp_changed f g
becomes_in true b level k t f g = g
becomes_in false b level k t f g = g

pub comp_time : (b : Bank) (level : Bool) → (after_comp b level).time ≡ b.time
comp_time b level = time_in (differ b.comp level) b level

pub comp_due : (b : Bank) (level : Bool) (k : Kind) → is_due b kind.Cmp ≡ false → is_due (after_comp b level) kind.Cmp ≡ false
    → is_due (after_comp b level) k ≡ is_due b k
comp_due b level k e f = due_in (differ b.comp level) b level k e f

pub comp_becomes : (b : Bank) (level : Bool) (k : Kind) (t : ℕ) → is_due (after_comp b level) kind.Cmp ≡ false → becomes_due b k t ≡ false
    → becomes_due (after_comp b level) k t ≡ false
comp_becomes b level k t f g = becomes_in (differ b.comp level) b level k t f g
