-- The mode that a number stands for.
use Rattle.std.proofs.Common.{◌≡◌, refl}
use Rattle.esc_base.specs.declared.signal.Mode.{Mode}
use Rattle.esc_base.specs.declared.signal.Mode.TheVariants as mode
use Rattle.esc_base.specs.Numbers.{mode_number, mode_of}

pub mode_of-number : (m : Mode) → mode_of (mode_number m) ≡ m
mode_of-number mode.Unknown = refl
mode_of-number mode.D300 = refl
mode_of-number mode.D600 = refl
mode_of-number mode.D300Inv = refl
mode_of-number mode.D600Inv = refl
mode_of-number mode.Servo = refl
