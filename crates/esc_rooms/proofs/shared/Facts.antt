-- Small facts of the registers and the core.
use Rattle.std.proofs.Common.{◌≡◌, ◌≤◌, ◌<◌, ◌+◌, ◌-◌, ◌/◌, ℕ, Bool, true, false, not, ◌&&◌, ◌||◌, ◌==◌, nat_lt, if◌then◌else◌, List, [], ◌∷◌, Option, Some, None, refl, sym, ◌∙◌, ap, subst, arith, ◌≢◌}
use Rattle.std.proofs.lemmas.Bool.{eq-eqb, ne_eqb, not_from_false, le-leb, leb-true, lt-ltb, le-ltb, or_left, or_right, or_parts, eqb-false}
use Rattle.std.proofs.lemmas.Bool.Decides.{nat_tests}
use Rattle.esc_base.specs.declared.kind.Kind.{Kind}
use Rattle.esc_base.specs.declared.kind.Kind.TheVariants as kind
use Rattle.esc_base.specs.declared.signal.Edge.{Edge}
use Rattle.esc_base.specs.Numbers.{kind_number, as_tick}
use Rattle.esc_base.specs.Times.{is_reached, control_period}
use Rattle.timer_regs.specs.Bank.{Bank}
use Rattle.timer_regs.specs.Effects.{after_read, written, is_readable, shown_edge}
use Rattle.timer_regs.specs.declared.regs.Reg.{Reg}
use Rattle.timer_regs.specs.declared.regs.Reg.TheVariants as reg
use Rattle.interrupt_machine.specs.Did.{Access, NoAccess, Reads, Writes, accessed}
use Rattle.interrupt_machine.specs.Open.{due_now, is_open}
use Rattle.interrupt_machine.proofs.OpenKinds.{number_same}
use Rattle.esc_core.specs.declared.state.CapAt.{CapAt}
use Rattle.esc_core.specs.declared.state.CapAt.TheVariants as cap
use Rattle.esc_core.specs.Cap.{edge_of}
use Rattle.esc_core.specs.Firmware.{cap_left}

-- ---- numbers that are not 0

pub not_zero : (n : ℕ) → 0 < n → (n == 0) ≡ false
not_zero n l = grind (arith, nat_tests)

pub above_zero : (n : ℕ) → (n == 0) ≡ false → 0 < n
above_zero n e = grind (arith, nat_tests)

-- ---- an access takes no time

read_time : (b : Bank) (r : Reg) → (after_read b r).time ≡ b.time
read_time b reg.TickState = refl
read_time b r = refl

write_time : (b : Bank) (r : Reg) (v : ℕ) → (written b r v).time ≡ b.time
write_time b reg.Mask v = refl
write_time b r v = refl

pub access_time : (b : Bank) (a : Access) → (accessed b a).time ≡ b.time
access_time b NoAccess = refl
access_time b (Reads r) = read_time b r
access_time b (Writes r v) = write_time b r v

-- ---- which kinds are due

pub tick_due : (w : Bool) (b : Bank) → b.number_read < b.time / control_period → due_now w b kind.Tick ≡ true
tick_due w b l = not_from_false (b.time / control_period == b.number_read) (ne_eqb (b.time / control_period) b.number_read (λ e. omega arith))

pub due_tick : (w : Bool) (b : Bank) → b.number_read ≤ b.time / control_period → due_now w b kind.Tick ≡ true → b.number_read < b.time / control_period
due_tick w b le d = less (b.time / control_period) b.number_read le d
  where
    less : (n m : ℕ) → m ≤ n → not (n == m) ≡ true → m < n
    less n m le e = grind (arith, nat_tests)

-- ---- open kinds

pub of_self : (k : Kind) → (kind_number k == kind_number k) ≡ true
of_self k = eq-eqb (kind_number k) (kind_number k) refl

pub of_other : (j k : Kind) → j ≢ k → (kind_number j == kind_number k) ≡ false
of_other j k ne = ne_eqb (kind_number j) (kind_number k) (λ e. ne (number_same j k e))

pub some_open : (stack : List Kind) (k : Kind) → is_open stack k ≡ true → stack ≢ []
some_open [] k o = cc
some_open (x ∷ outer) k o = λ e. cc

-- a kind besides the innermost one is open where it is one of the outer ones
pub outer_open : (k j : Kind) (outer : List Kind) → j ≢ k → is_open (k ∷ outer) j ≡ is_open outer j
outer_open k j outer ne = ap (λ (v : Bool). v || is_open outer j) (of_other k j (λ e. ne (sym e)))

pub not_open : (k j : Kind) (outer : List Kind) → is_open (k ∷ outer) j ≡ false → (j ≢ k) × (is_open outer j ≡ false)
not_open k j outer f =
    let parts = or_parts (kind_number k == kind_number j) (is_open outer j) f in
    (λ s. eqb-false (kind_number k) (kind_number j) parts.0 (sym (ap kind_number s)), parts.1)

-- a kind that is open after a step of the innermost one was open before
pub left_open : (v : Bool) (k j : Kind) (outer : List Kind) → is_open (if v then outer else k ∷ outer) j ≡ true → is_open (k ∷ outer) j ≡ true
left_open true k j outer o = or_right (kind_number k == kind_number j) (is_open outer j) o
left_open false k j outer o = o

-- ---- when CAP is due

-- a closed window that wasn't taken, or a timer that was reached
pub cap_due_window : (w : Bool) (b : Bank) → is_readable b ≡ true → b.taken ≡ false → due_now w b kind.Cap ≡ true
cap_due_window w b r n = or_left (is_readable b && not b.taken) (is_reached b.timer b.time) (rw (r, n) refl)

reached_some : (o : Option ℕ) (at t : ℕ) → o ≡ Some at → at ≤ t → is_reached o t ≡ true
reached_some o at t e le = rw e (le-leb at t le)

pub cap_due_timer : (w : Bool) (b : Bank) (at : ℕ) → b.timer ≡ Some at → at ≤ b.time → due_now w b kind.Cap ≡ true
cap_due_timer w b at e le = or_right (is_readable b && not b.taken) (is_reached b.timer b.time) (reached_some b.timer at b.time e le)

pub due_window : (w : Bool) (b : Bank) → b.timer ≡ None → due_now w b kind.Cap ≡ true → is_readable b ≡ true
due_window w b e d = window_at (is_readable b) b.taken (is_reached b.timer b.time) (rw e refl) d
  where
    window_at : (r n t : Bool) → t ≡ false → ((r && not n) || t) ≡ true → r ≡ true
    window_at true n t e d = refl
    window_at false n t e d = (let z = sym e ∙ d in cc)

pub due_timer : (w : Bool) (b : Bank) (at : ℕ) → b.timer ≡ Some at → b.taken ≡ true → due_now w b kind.Cap ≡ true → at ≤ b.time
due_timer w b at e n d =
    leb-true at b.time (subst (λ (o : Option ℕ). is_reached o b.time ≡ true) e (timer_at (is_readable b) b.taken (is_reached b.timer b.time) n d))
  where
    timer_at : (r n t : Bool) → n ≡ true → ((r && not n) || t) ≡ true → t ≡ true
    timer_at true true t e d = d
    timer_at true false t e d = cc
    timer_at false n t e d = d

-- ---- places

pub cap_shut : (at : CapAt) → cap_left at ≡ 0 → at ≡ cap.Shut
cap_shut cap.Shut e = refl
cap_shut at e = absurd (omega arith)

-- ---- modes and edges by their numbers

-- an edge at t
abbrev at_level : ℕ → Bool → Edge
at_level t level = record { t = as_tick t; level = level }

falling_shown : (t : ℕ) → t < 2147483648 → (if nat_lt t 2147483648 then at_level t false else at_level (t - 2147483648) true) ≡ at_level t false
falling_shown t l = rw (lt-ltb t 2147483648 l) refl

rising_shown : (t : ℕ)
    → (if nat_lt (t + 2147483648) 2147483648 then at_level (t + 2147483648) false else at_level ((t + 2147483648) - 2147483648) true) ≡ at_level t true
rising_shown t = rw (le-ltb (t + 2147483648) 2147483648 (omega arith)) (ap (λ (x : ℕ). at_level x true) (back t))
  where
    back : (t : ℕ) → (t + 2147483648) - 2147483648 ≡ t
    back t = omega arith

shown_at : (t : ℕ) (level : Bool) → t < 2147483648 → edge_of (if level then t + 2147483648 else t) ≡ at_level t level
shown_at t true l = rising_shown t
shown_at t false l = falling_shown t l

-- an edge is what a register shows of it
pub edge_of-shown : (e : Edge) → e.t.0 < 2147483648 → edge_of (shown_edge e) ≡ e
edge_of-shown e l = shown_at e.t.0 e.level l
