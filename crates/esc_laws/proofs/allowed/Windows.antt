-- These windows keep the rules.
use Rattle.std.proofs.Common.{refl, arith}
use Rattle.esc_base.specs.Trace.{line}
use Rattle.esc_laws.specs.Place.{place}
use Rattle.esc_laws.specs.Rested.{first_rested}
use Rattle.esc_laws.specs.allowed.Windows.{SomeWindowsOpen}

pub some_windows_open : SomeWindowsOpen
unfolding place line first_rested
some_windows_open = record {
  after_600_ticks = λ loaded. (record { rested = omega arith; entered_before = omega arith }, refl);
  at_the_end_of_a_reply = λ loaded. (record { rested = omega arith; entered_before = omega arith }, refl);
}
