-- What a sector's zero crossing looks like at the comparator.
use Rattle.std.specs.Prelude.{ℕ, ◌/◌, ◌%◌, max, Bool, true, false, ◌==◌}
use Rattle.esc_base.specs.Times.{least_blanking}

-- the comparator's level after the crossing: 1 in odd sectors of a forward drive, the opposite in even ones and in reverse
abbrev pub level_of : Bool → ℕ → Bool
level_of true s = s % 2 == 1
level_of false s = s % 2 == 0

-- blanking: for how many ticks after a sector change the comparator isn't looked at
abbrev pub blanking_of : ℕ → ℕ
blanking_of interval = max least_blanking (interval / 4)
