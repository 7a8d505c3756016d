-- A quiet core stays quiet while time goes on.
use Rattle.std.proofs.Common.{◌≡◌, ◌≤◌, ◌<◌, ℕ, List, [], ◌∷◌, Bool, true, false, not, ◌&&◌, ◌||◌, nat_lt, Option, Some, None, is_none, refl, sym, ◌∙◌, ap, subst, arith, inl, inr}
use Rattle.std.proofs.lemmas.Bool.{cases_lt}
use Rattle.std.proofs.lemmas.Bool.Decides.{nat_tests}
use Rattle.esc_base.specs.declared.kind.Kind.{Kind}
use Rattle.esc_base.specs.declared.kind.Kind.TheVariants as kind
use Rattle.esc_base.specs.Periods.{edges}
use Rattle.timer_regs.specs.Bank.{Bank}
use Rattle.timer_regs.specs.Effects.{is_due, advanced, after_line, after_comp}
use Rattle.timer_regs.specs.NextDue.{IsNextDue, becomes_due}
use Rattle.timer_regs.proofs.Advance.{advanced-now}
use Rattle.timer_regs.proofs.Line.{line_time, line_due, line_becomes}
use Rattle.timer_regs.proofs.Comp.{comp_time, comp_due, comp_becomes}
use Rattle.interrupt_machine.specs.Open.{due_now, is_idle, highest}
use Rattle.interrupt_machine.proofs.OpenKinds.{highest_same}
use Rattle.interrupt_machine.proofs.Waiting.{highest_none}
use Rattle.esc_rooms.proofs.log.Carried.{none_before}
use Rattle.trace_runner.specs.Quiet.{IsQuiet}

-- ---- time goes on twice, or at once

between : (a b c : ℕ) → a ≤ b → b ≤ c → (nat_lt a b || nat_lt b c) ≡ nat_lt a c
between a b c le more = grind (arith, nat_tests)

flag_twice : (f s : Bool) (a b c : ℕ) → a ≤ b → b ≤ c → ((f || (s && nat_lt a b)) || (s && nat_lt b c)) ≡ (f || (s && nat_lt a c))
flag_twice true s a b c le more = refl
flag_twice false true a b c le more = between a b c le more
flag_twice false false a b c le more = refl

edges_grow : (duty t u : ℕ) → t ≤ u → edges duty t ≤ edges duty u
edges_grow duty t u le = omega arith

due_twice : (b : Bank) (t u : ℕ) (k : Kind) → b.time ≤ t → t ≤ u → is_due (advanced (advanced b t) u) k ≡ is_due (advanced b u) k
due_twice b t u kind.Pwm le more = flag_twice b.flag (nat_lt 0 b.duty) (edges b.duty b.time) (edges b.duty t) (edges b.duty u) (edges_grow b.duty b.time t le)
    (edges_grow b.duty t u more)
due_twice b t u k le more = refl

-- ---- what is shut stays so

shut : (x y : Bool) → x ≡ false → (not x && y) ≡ false → y ≡ false
shut true y e f = cc
shut false y e f = f

not_due : (w : Bool) (b : Bank) (k : Kind) → due_now w b k ≡ false → is_due b k ≡ false
not_due w b kind.Main e = refl
not_due w b k e = e

due_as : (w : Bool) (b : Bank) (t : ℕ) (k : Kind) → due_now w b k ≡ false → is_due (advanced b t) k ≡ false → due_now w b k ≡ due_now w (advanced b t) k
due_as w b t kind.Main e f = refl
due_as w b t k e f = e ∙ sym f

none_highest : (stack : List Kind) (due : Kind → Bool) → is_idle stack due ≡ true → highest due ≡ None
none_highest [] due idle = none_of (highest due) idle
  where
    none_of : (o : Option Kind) → is_none o ≡ true → o ≡ None
    none_of None e = refl
    none_of (Some k) e = cc
none_highest (k ∷ outer) due idle = cc

idle_same : (stack : List Kind) (p q : Kind → Bool) → ((k : Kind) → p k ≡ q k) → is_idle stack p ≡ is_idle stack q
idle_same [] p q h = ap is_none (highest_same p q h)
idle_same (k ∷ outer) p q h = refl

shut_at : (b : Bank) (t : ℕ) (k : Kind) → b.time ≤ t → (b.time < t → becomes_due b k t ≡ false) → is_due b k ≡ false → is_due (advanced b t) k ≡ false
shut_at b t k later quiet e = elim (cases_lt b.time t) [
  | inl lt ↦ shut (is_due b k) (is_due (advanced b t) k) e (quiet lt)
  | inr not_lt ↦ (let same : b.time ≡ t = omega arith in
      subst (λ (v : ℕ). is_due (advanced b v) k ≡ false) same (subst (λ (x : Bank). is_due x k ≡ false) (advanced-now b) e))
]

becomes_same : (b : Bank) (t u : ℕ) (k : Kind) → b.time ≤ t → t ≤ u → is_due b k ≡ false → is_due (advanced b t) k ≡ false
    → becomes_due (advanced b t) k u ≡ becomes_due b k u
becomes_same b t u k le more e f = rw (f, e) (due_twice b t u k le more)

pub quiet_later : (stack : List Kind) (w : Bool) (b : Bank) (until t : ℕ) → b.time ≤ t → t < until → IsQuiet stack w b until
    → IsQuiet stack w (advanced b t) until
quiet_later stack w b until t later below q =
    let none : (k : Kind) → due_now w b k ≡ false = λ k. highest_none (due_now w b) k (none_highest stack (due_now w b) q.idle) in
    let e : (k : Kind) → is_due b k ≡ false = λ k. not_due w b k (none k) in
    let f : (k : Kind) → is_due (advanced b t) k ≡ false = λ k. shut_at b t k later (λ lt. q.none k t lt below) (e k) in
    record {
      idle = sym (idle_same stack (due_now w b) (due_now w (advanced b t)) (λ k. due_as w b t k (none k) (f k))) ∙ q.idle;
      none = λ k u from under. becomes_same b t u k later (omega arith) (e k) (f k) ∙ q.none k u (omega arith) under;
    }

-- what the next due tick says of the ticks before it
pub quiet_jump : (stack : List Kind) (w : Bool) (b : Bank) (due : Option ℕ) (until t : ℕ) → is_idle stack (due_now w b) ≡ true → IsNextDue b due
    → ((d : ℕ) → due ≡ Some d → until ≤ d) → b.time ≤ t → t < until → IsQuiet stack w (advanced b t) until
quiet_jump stack w b due until t idle is le later below =
    quiet_later stack w b until t later below (record { idle = idle; none = λ k u from under. none_before due b k until u is le from under })

-- ---- an edge changes when CAP is due, and no other kind

line_now : (w : Bool) (b : Bank) (level : Bool) (k : Kind) → is_due b kind.Cap ≡ false → is_due (after_line b level) kind.Cap ≡ false
    → due_now w b k ≡ due_now w (after_line b level) k
line_now w b level kind.Main e f = refl
line_now w b level k e f = sym (line_due b level k e f)

-- a quiet core stays quiet at an edge, up to the tick at which CAP is due
pub quiet_edge : (stack : List Kind) (w : Bool) (b : Bank) (level : Bool) (until cap to : ℕ) → IsQuiet stack w b until
    → ((t : ℕ) → (after_line b level).time ≤ t → t < cap → is_due (advanced (after_line b level) t) kind.Cap ≡ false)
    → to ≤ until → to ≤ cap → b.time < to → IsQuiet stack w (after_line b level) to
quiet_edge stack w b level until cap to q none le more below =
    let after : Bank = after_line b level in
    let now : after.time ≡ b.time = line_time b level in
    let e : is_due b kind.Cap ≡ false = highest_none (due_now w b) kind.Cap (none_highest stack (due_now w b) q.idle) in
    let f : is_due after kind.Cap ≡ false =
    subst (λ (x : Bank). is_due x kind.Cap ≡ false) (sym (advanced-now after)) (none after.time (omega arith) (omega arith)) in
    record {
      idle = sym (idle_same stack (due_now w b) (due_now w after) (λ k. line_now w b level k e f)) ∙ q.idle;
      none = λ k t from under. line_becomes b level k t f (none t (omega arith) (omega arith)) (q.none k t (omega arith) (omega arith));
    }

-- ---- a change of the comparator that doesn't make CMP due at once changes when no kind is due

comp_now : (w : Bool) (b : Bank) (level : Bool) (k : Kind) → is_due b kind.Cmp ≡ false → is_due (after_comp b level) kind.Cmp ≡ false
    → due_now w b k ≡ due_now w (after_comp b level) k
comp_now w b level kind.Main e f = refl
comp_now w b level k e f = sym (comp_due b level k e f)

-- a quiet core stays quiet at such a change
pub quiet_comp : (stack : List Kind) (w : Bool) (b : Bank) (level : Bool) (until to : ℕ) → IsQuiet stack w b until
    → is_due (after_comp b level) kind.Cmp ≡ false
    → to ≤ until → IsQuiet stack w (after_comp b level) to
quiet_comp stack w b level until to q f le =
    let after : Bank = after_comp b level in
    let now : after.time ≡ b.time = comp_time b level in
    let e : is_due b kind.Cmp ≡ false = highest_none (due_now w b) kind.Cmp (none_highest stack (due_now w b) q.idle) in
    record {
      idle = sym (idle_same stack (due_now w b) (due_now w after) (λ k. comp_now w b level k e f)) ∙ q.idle;
      none = λ k t from under. comp_becomes b level k t f (q.none k t (omega arith) (omega arith));
    }
