use Rattle.std.proofs.Common.{◌≡◌, ◌/◌, nat_lt, slice_index, arith, refl, sym, ◌∙◌, ap}
use Rattle.esc_base.specs.Bits.{digit}
use Rattle.dshot_frame.specs.Verdict.{is_one, widths}
use Rattle.dshot_frame.proofs.Words.{none_so_far, more_so_far, all_so_far, untimely, small_word}
use Rattle.dshot_frame.proofs.Numbers.{digit-from_bool, shifted_in}
use Rattle.dshot_frame.proofs.judge.read_word.Goals as goal

pub loop-i-init : goal.loop-i-init
loop-i-init c = none_so_far c.args.bit c.args.burst.now

pub returns-then-not-is_in_time : goal.returns-then-not-is_in_time
returns-then-not-is_in_time c =
    rw (untimely c.args.bit c.args.burst.now c.loop-i.i c.requires.edges c.loop-i-test.true (sym c.is_in_time.ensures ∙ c.if-not-is_in_time.true)) refl

pub loop-i-preserved : goal.loop-i-preserved
loop-i-preserved c =
    let d : c.from.result ≡ digit (is_one c.args.bit (slice_index (widths c.args.burst.now) c.loop-i.i)) =
    c.from.ensures ∙ digit-from_bool (nat_lt (c.args.bit / 2) c.width_of.result) ∙ ap (λ w. digit (is_one c.args.bit w)) c.width_of.ensures in
    let small = small_word c.args.bit c.args.burst.now c.loop-i.i c.loop-i.word c.requires.edges c.loop-i-test.true c.loop-i.invariant in
    rw (shifted_in c.loop-i.word c.from.result (is_one c.args.bit (slice_index (widths c.args.burst.now) c.loop-i.i)) small d)
    (more_so_far c.args.bit c.args.burst.now c.loop-i.i c.loop-i.word c.requires.edges c.loop-i-test.true c.loop-i.invariant
    (sym c.is_in_time.ensures ∙ c.if-not-is_in_time.false))

pub returns : goal.returns
returns c =
    let all : c.loop-i.i ≡ 16 = omega arith in
    all_so_far c.args.bit c.args.burst.now c.loop-i.word c.requires.edges (rw all at c.loop-i.invariant)
