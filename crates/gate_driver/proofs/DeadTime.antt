-- The dead time through a step: by registers and off times, and so by the notes.
use Rattle.std.proofs.Common.{◌≡◌, ◌≤◌, ◌+◌, inl, inr, ℕ, Bool, true, false, ◌&&◌, ◌==◌, bit_and, bit_or, if◌then◌else◌, nat_lt, List, ◌∷◌, Some, None, refl, sym, ◌∙◌, ap, subst, arith}
use Rattle.std.proofs.lemmas.Bool.Decides.{nat_tests}
use Rattle.esc_base.specs.declared.gate.Leg.{Leg}
use Rattle.esc_base.specs.declared.note.Note.{Note}
use Rattle.esc_base.specs.declared.note.Note.TheVariants as note
use Rattle.esc_base.specs.Legs.{is_on, mask_of, IsApart}
use Rattle.esc_base.specs.Times.{dead_time}
use Rattle.esc_base.specs.Numbers.{as_tick}
use Rattle.timer_regs.specs.Bank.{Bank}
use Rattle.gate_driver.specs.Gated.{Gated, at_leg, offs, gates_after, wait_of, high_wait, low_wait}
use Rattle.gate_driver.specs.DeadSafe.{high_at, low_at, GateSafe, IsTied}
use Rattle.gate_driver.specs.Acted.{KeepsDeadTime, IsSaid}
use Rattle.gate_driver.proofs.Bits.{on_and, or_is, off_is}
use Rattle.gate_driver.proofs.OffTimes.{off_stays, tied_at, tied_after}

-- ---- when a switch may turn on

pub record MayTurnOn (other since : ℕ) (x : Leg) (t : ℕ) : Type 0 where
  pub off : is_on other x ≡ false
  pub free : since ≤ t

may_at : (v w : Bool) (other free : ℕ) (x : Leg) (t : ℕ) → is_on other x ≡ v → nat_lt t free ≡ w
    → (if v then Some (t + dead_time) else if w then Some free else None) ≡ None → MayTurnOn other free x t
may_at true w other free x t e f n = absurd (cc)
may_at false true other free x t e f n = absurd (cc)
may_at false false other free x t e f n = record { off = e; free = grind (arith, nat_tests) }

pub may_turn_on : (other free : ℕ) (x : Leg) (t : ℕ) → wait_of other free x t ≡ None → MayTurnOn other free x t
may_turn_on other free x t n = may_at (is_on other x) (nat_lt t free) other free x t refl refl n

-- ---- the four changes of a word

-- none
pub same_keeps : (g : Gated) (b b' : Bank) → b'.hi ≡ b.hi → b'.lo ≡ b.lo → IsApart b.hi b.lo → KeepsDeadTime b g b'
same_keeps g b b' e f apart = record {
  apart = rw (e, f) apart;
  high_waits = λ x on off. absurd (let o : is_on b.hi x ≡ true = ap (λ (w : ℕ). is_on w x) (sym e) ∙ on in cc);
  low_waits = λ x on off. absurd (let o : is_on b.lo x ≡ true = ap (λ (w : ℕ). is_on w x) (sym f) ∙ on in cc);
}

-- high switches go off
pub high_off_keeps : (g : Gated) (b b' : Bank) (mask : ℕ) → b'.hi ≡ bit_and b.hi mask → b'.lo ≡ b.lo → IsApart b.hi b.lo → KeepsDeadTime b g b'
high_off_keeps g b b' mask e f apart = record {
  apart = rw (e, f) (λ x on. apart x (on_and b.hi mask x on));
  high_waits = λ x on off. absurd (let o = on_and b.hi mask x (ap (λ (w : ℕ). is_on w x) (sym e) ∙ on) in cc);
  low_waits = λ x on off. absurd (let o : is_on b.lo x ≡ true = ap (λ (w : ℕ). is_on w x) (sym f) ∙ on in cc);
}

-- low switches go off
pub low_off_keeps : (g : Gated) (b b' : Bank) (mask : ℕ) → b'.hi ≡ b.hi → b'.lo ≡ bit_and b.lo mask → IsApart b.hi b.lo → KeepsDeadTime b g b'
low_off_keeps g b b' mask e f apart = record {
  apart = rw (e, f) (λ x on. off_is (is_on (bit_and b.lo mask) x) (λ o. let z = apart x on in let y = on_and b.lo mask x o in cc));
  high_waits = λ x on off. absurd (let o : is_on b.hi x ≡ true = ap (λ (w : ℕ). is_on w x) (sym e) ∙ on in cc);
  low_waits = λ x on off. absurd (let o = on_and b.lo mask x (ap (λ (w : ℕ). is_on w x) (sym f) ∙ on) in cc);
}

-- a leg's high switch goes on, and may
pub high_on_keeps : (g g' : Gated) (b b' : Bank) (h : Leg) → b'.hi ≡ bit_or b.hi (mask_of h) → b'.lo ≡ b.lo → g' ≡ gates_after g b b' → high_wait g b h ≡ None
    → IsApart b.hi b.lo → KeepsDeadTime b g' b'
high_on_keeps g g' b b' h e f k none apart =
    let may = may_turn_on b.lo (at_leg g.lo_free h) h b.time none in
    record {
      apart = rw (e, f) (λ x on. elim (or_is b.hi h x on) [
        | inl s ↦ subst (λ (y : Leg). is_on b.lo y ≡ false) s may.off
        | inr o ↦ apart x o
      ]);
      high_waits = λ x on off. elim (or_is b.hi h x (ap (λ (w : ℕ). is_on w x) (sym e) ∙ on)) [
        | inl s ↦
            rw k (subst (λ (y : Leg). at_leg (offs g.lo_free b.lo b'.lo b.time) y ≤ b.time) s (rw (off_stays g.lo_free b.lo b'.lo b.time h may.off) may.free))
        | inr o ↦ absurd (cc)
      ];
      low_waits = λ x on off. absurd (let o : is_on b.lo x ≡ true = ap (λ (w : ℕ). is_on w x) (sym f) ∙ on in cc);
    }

-- a leg's low switch goes on, and may
pub low_on_keeps : (g g' : Gated) (b b' : Bank) (h : Leg) → b'.hi ≡ b.hi → b'.lo ≡ bit_or b.lo (mask_of h) → g' ≡ gates_after g b b' → low_wait g b h ≡ None
    → IsApart b.hi b.lo → KeepsDeadTime b g' b'
low_on_keeps g g' b b' h e f k none apart =
    let may = may_turn_on b.hi (at_leg g.hi_free h) h b.time none in
    record {
      apart = rw (e, f) (λ x on. off_is (is_on (bit_or b.lo (mask_of h)) x) (λ o. elim (or_is b.lo h x o) [
        | inl s ↦ (let z = subst (λ (y : Leg). is_on b.hi y ≡ false) s may.off in cc)
        | inr l ↦ (let z = apart x on in cc)
      ]));
      high_waits = λ x on off. absurd (let o : is_on b.hi x ≡ true = ap (λ (w : ℕ). is_on w x) (sym e) ∙ on in cc);
      low_waits = λ x on off. elim (or_is b.lo h x (ap (λ (w : ℕ). is_on w x) (sym f) ∙ on)) [
        | inl s ↦
            rw k (subst (λ (y : Leg). at_leg (offs g.hi_free b.hi b'.hi b.time) y ≤ b.time) s (rw (off_stays g.hi_free b.hi b'.hi b.time h may.off) may.free))
        | inr o ↦ absurd (cc)
      ];
    }

-- ---- the same in a journal

-- a G that is safe by what is kept is so by the notes
said_gate : (g : Gated) (b b' : Bank) (back : List Note) → ((b'.hi == high_at back) && (b'.lo == low_at back)) ≡ false → b'.time ≡ b.time
    → IsTied g b.hi b.lo back → KeepsDeadTime b (gates_after g b b') b'
    → GateSafe back b'.time b'.hi b'.lo (note.Gate (as_tick b'.time) b'.hi b'.lo ∷ back)
said_gate g b b' back other at t k =
    let after : IsTied (gates_after g b b') b'.hi b'.lo (note.Gate (as_tick b'.time) b'.hi b'.lo ∷ back) = tied_at false g b b' back other at t in
    record {
      other_word = other;
      apart = k.apart;
      high_waits = λ x on off. rw (after.lo_free x, at) (k.high_waits x on (ap (λ (w : ℕ). is_on w x) (sym t.hi_is) ∙ off));
      low_waits = λ x on off. rw (after.hi_free x, at) (k.low_waits x on (ap (λ (w : ℕ). is_on w x) (sym t.lo_is) ∙ off));
    }

pub said_after : (g g' : Gated) (b b' : Bank) (back : List Note) → b'.time ≡ b.time → g' ≡ gates_after g b b' → IsTied g b.hi b.lo back → KeepsDeadTime b g' b'
    → IsSaid back g' b'
said_after g g' b b' back at e t k = subst (λ (h : Gated). IsSaid back h b') (sym e) (record {
  safe = λ other. said_gate g b b' back other at t (subst (λ (h : Gated). KeepsDeadTime b h b') e k);
  tied = tied_after g b b' back at t;
})
