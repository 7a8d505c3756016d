-- The off times through a step, whether it changes the word or not: what is kept stays tied to the notes, by equations.
use Rattle.std.proofs.Common.{◌≡◌, ◌+◌, ℕ, Bool, true, false, not, ◌&&◌, ◌==◌, if◌then◌else◌, List, ◌∷◌, refl, sym, ◌∙◌, ap, arith}
use Rattle.std.proofs.lemmas.Bool.Decides.{nat_tests}
use Rattle.esc_base.specs.declared.gate.Leg.{Leg}
use Rattle.esc_base.specs.declared.gate.Leg.TheVariants.{A, B, C}
use Rattle.esc_base.specs.declared.note.Note.{Note}
use Rattle.esc_base.specs.declared.note.Note.TheVariants as note
use Rattle.esc_base.specs.Legs.{is_on}
use Rattle.esc_base.specs.Times.{dead_time}
use Rattle.esc_base.specs.Numbers.{as_tick}
use Rattle.timer_regs.specs.Bank.{Bank}
use Rattle.gate_driver.specs.Gated.{Legs, Gated, at_leg, free_after, offs, gates_after}
use Rattle.gate_driver.specs.DeadSafe.{high_at, low_at, IsTied, with_gate}

same_test : (v : Bool) (t f : ℕ) → (if v && not v then t + dead_time else f) ≡ f
same_test true t f = refl
same_test false t f = refl

-- where the word stays no off time changes
pub offs_same : (f : Legs) (w t : ℕ) → offs f w w t ≡ f
offs_same f w t =
    ap (λ (a : ℕ). record f { a = a; b = free_after w w B t f.b; c = free_after w w C t f.c }) (same_test (is_on w A) t f.a)
    ∙ ap (λ (b : ℕ). record f { b = b; c = free_after w w C t f.c }) (same_test (is_on w B) t f.b)
    ∙ ap (λ (c : ℕ). record f { c = c }) (same_test (is_on w C) t f.c)

pub gates_same : (g : Gated) (b b' : Bank) → b'.hi ≡ b.hi → b'.lo ≡ b.lo → g ≡ gates_after g b b'
gates_same g b b' e f =
    rw (e, f)
    (ap (λ (h : Legs). record g { hi_free = h }) (sym (offs_same g.hi_free b.hi b.time))
    ∙ ap (λ (l : Legs). record g { hi_free = offs g.hi_free b.hi b.hi b.time; lo_free = l }) (sym (offs_same g.lo_free b.lo b.time)))

-- an off time by its leg
pub at_offs : (f : Legs) (w w' t : ℕ) (x : Leg) → at_leg (offs f w w' t) x ≡ free_after w w' x t (at_leg f x)
at_offs f w w' t A = refl
at_offs f w w' t B = refl
at_offs f w w' t C = refl

-- what is off doesn't go off
pub off_stays : (f : Legs) (w w' t : ℕ) (x : Leg) → is_on w x ≡ false → at_leg (offs f w w' t) x ≡ at_leg f x
off_stays f w w' t x off = at_offs f w w' t x ∙ rw off refl

both_same : (a b c d : ℕ) → ((a == b) && (c == d)) ≡ true → (a ≡ b) × (c ≡ d)
both_same a b c d e = (grind (arith, nat_tests), grind (arith, nat_tests))

-- ---- the tie

pub tied_at : (v : Bool) (g : Gated) (b b' : Bank) (back : List Note) → ((b'.hi == high_at back) && (b'.lo == low_at back)) ≡ v → b'.time ≡ b.time
    → IsTied g b.hi b.lo back
    → IsTied (gates_after g b b') b'.hi b'.lo (if v then back else note.Gate (as_tick b'.time) b'.hi b'.lo ∷ back)
tied_at false g b b' back e at t = record {
  hi_is = refl;
  lo_is = refl;
  hi_free = λ x. rw (t.hi_is, t.hi_free x, at) (sym (at_offs g.hi_free b.hi b'.hi b.time x));
  lo_free = λ x. rw (t.lo_is, t.lo_free x, at) (sym (at_offs g.lo_free b.lo b'.lo b.time x));
}
tied_at true g b b' back e at t =
    let same = both_same b'.hi (high_at back) b'.lo (low_at back) e in
    let hi : b'.hi ≡ b.hi = same.0 ∙ t.hi_is in
    let lo : b'.lo ≡ b.lo = same.1 ∙ t.lo_is in
    rw (sym (gates_same g b b' hi lo), hi, lo) t

pub tied_after : (g : Gated) (b b' : Bank) (back : List Note) → b'.time ≡ b.time → IsTied g b.hi b.lo back
    → IsTied (gates_after g b b') b'.hi b'.lo (with_gate back b'.time b'.hi b'.lo)
tied_after g b b' back at t = tied_at ((b'.hi == high_at back) && (b'.lo == low_at back)) g b b' back refl at t
