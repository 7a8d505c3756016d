-- How long the high switch of an undisturbed period is on: its ticks counted.
use Rattle.std.proofs.Common.{◌≡◌, ◌<◌, ◌≤◌, ◌+◌, ◌-◌, ◌*◌, inl, inr, ℕ, zero, suc, Bool, true, false, if◌then◌else◌, refl, arith}
use Rattle.std.proofs.lemmas.Bool.{cases_lt}
use Rattle.esc_base.specs.Legs.{is_on}
use Rattle.commutation.specs.Sectors.{high_of}
use Rattle.commutation.specs.Commutated.{sector_at}
use Rattle.gate_driver.specs.DeadSafe.{high_at}
use Rattle.esc_laws.specs.Chopped.{by_tick}
use Rattle.esc_laws.specs.DutyKept.{how_many, DutyIsKept}

-- so at each tick from a up to b
abbrev Within : (ℕ → Bool) → Bool → ℕ → ℕ → Type 0
Within is_so v a b = (t : ℕ) → a ≤ t → t < b → is_so t ≡ v

one_more : (is_so : ℕ → Bool) (t n : ℕ) → how_many is_so t (suc n) ≡ (if is_so t then 1 else 0) + how_many is_so (t + 1) n
unfolding how_many
one_more is_so t n = refl

none : (is_so : ℕ → Bool) (t : ℕ) → how_many is_so t zero ≡ 0
unfolding how_many
none is_so t = refl

at_least : (is_so : ℕ → Bool) (a b t n : ℕ) → Within is_so true a b → t ≤ a → b ≤ t + n → b ≤ how_many is_so t n + a
at_least is_so a b t zero w le end = rw (none is_so t) (omega arith)
at_least is_so a b t (suc n) w le end = rw (one_more is_so t n) (elim (cases_lt t a) [
  | inl l ↦ (let more = at_least is_so a b (t + 1) n w (omega arith) (omega arith) in omega arith)
  | inr ge ↦ elim (cases_lt t b) [
    | inl l ↦ (
        let more = at_least is_so (a + 1) b (t + 1) n (λ u lo hi. w u (omega arith) hi) (omega arith) (omega arith) in
        rw (w t ge l) (omega arith))
    | inr past ↦ omega arith
  ]
])

at_most : (is_so : ℕ → Bool) (a t n : ℕ) → Within is_so false a (t + n) → t ≤ a → how_many is_so t n + t ≤ a
at_most is_so a t zero w le = rw (none is_so t) (omega arith)
at_most is_so a t (suc n) w le = rw (one_more is_so t n) (elim (cases_lt t a) [
  | inl l ↦ (
      let more = at_most is_so a (t + 1) n (λ u lo hi. w u lo (omega arith)) (omega arith) in
      by_test (is_so t) more)
  | inr ge ↦ (
      let more = at_most is_so (a + 1) (t + 1) n (λ u lo hi. w u (omega arith) (omega arith)) (omega arith) in
      rw (w t ge (omega arith)) (omega arith))
])
  where
    by_test : (v : Bool) → how_many is_so (t + 1) n + (t + 1) ≤ a → (if v then 1 else 0) + how_many is_so (t + 1) n + t ≤ a
    by_test true more = omega arith
    by_test false more = omega arith

pub duty_is_kept : DutyIsKept
duty_is_kept cost trace until notes p d c y most far =
    let h = c p d y in
    let sector = sector_at (by_tick (p - 1) notes) in
    let on : ℕ → Bool = λ t. is_on (high_at (by_tick t notes)) (high_of sector) in
    record {
      no_less =
          let l = at_least on (p + 48 * cost) (p + d + 1) p 2000 (λ t lo hi. h.high_on t (omega arith) lo (omega arith)) (omega arith) (omega arith) in
          omega arith;
      no_more =
          let l = at_most on (p + d + 48 * cost) p 2000 (λ t lo hi. h.high_off t (omega arith) lo hi) (omega arith) in
          omega arith;
    }
