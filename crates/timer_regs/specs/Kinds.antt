-- Sets of interrupt kinds: bit k stands for the kind with number k.
use Rattle.std.specs.Prelude.{Bool, not, ◌==◌, bit_and, ◌^◌}
use Rattle.esc_base.specs.declared.kind.Kind.{Kind}
use Rattle.esc_base.specs.Numbers.{kind_number}
use Rattle.timer_regs.specs.declared.kinds.KindSet.{KindSet}

abbrev pub has_kind : KindSet → Kind → Bool
has_kind s k = not (bit_and s.0 (2 ^ kind_number k) == 0)
