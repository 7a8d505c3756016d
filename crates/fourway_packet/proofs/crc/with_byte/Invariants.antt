use Rattle.std.proofs.Common.{◌≡◌, ◌-◌}
use Rattle.std.specs.List.{fold}
use Rattle.esc_base.specs.Bits.{low_bits}
use Rattle.fourway_packet.specs.Crc.{shifted, shifted_by_byte}
use Rattle.fourway_packet.proofs.crc.with_byte.Given as goal

abbrev pub invariant-loop-i : goal.invariant-loop-i
invariant-loop-i l = fold shifted l.so_far (low_bits (8 - l.i) l.byte) ≡ shifted_by_byte l.fn.crc l.fn.byte
