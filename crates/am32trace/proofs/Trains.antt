-- A train of messages keeps its beat.
use Rattle.std.proofs.Common.{◌≡◌, ◌<◌, ℕ, zero, suc, ◌+◌, ◌*◌, Some, None, refl, sym, ◌∙◌, ap, arith}
use Rattle.std.proofs.Math.Nat.{lt_of_mul-lt-mul_right}
use Rattle.am32trace.specs.Asked.{due_of, beats_before, train}
use Rattle.am32trace.specs.Laws.{CountsBeats, HasAsMany, EachAtItsBeat}
use Rattle.am32trace.proofs.Beats.{count_low, count_high, times_suc, times_less}

pub counts_beats : CountsBeats
counts_beats period first t k positive =
    let low = count_low period positive first t in
    let high = count_high period positive first t in (
      (λ less. let more = times_less k (beats_before period first t) period less in omega (arith, more, high)),
      (λ early.
          let below : k * period < beats_before period first t * period = omega (arith, early, low) in
          lt_of_mul-lt-mul_right period {m = k} {n = beats_before period first t} below),
    )

pub has_as_many : HasAsMany
unfolding train
has_as_many m period what spoil first zero = refl
has_as_many m period what spoil first (suc n) = let rest = has_as_many m period what None (first + period) n in omega (arith, rest)

pub each_at_its_beat : EachAtItsBeat
unfolding train
each_at_its_beat m period what first zero k less = absurd (omega (arith, less))
each_at_its_beat m period what first (suc n) zero less = let z : first + 0 * period ≡ first = grind arith in ap (λ (s : ℕ). Some (due_of m what None s)) (sym z)
each_at_its_beat m period what first (suc n) (suc k) less =
    let e = times_suc k period in
    let at : (first + period) + k * period ≡ first + suc k * period = omega (arith, e) in
    each_at_its_beat m period what (first + period) n k (omega (arith, less)) ∙ ap (λ (s : ℕ). Some (due_of m what None s)) at
