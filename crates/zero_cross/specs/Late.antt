-- What an accepted crossing says of the comparator: blanking was over, and the level stood for the length of the filter.
use Rattle.std.specs.Prelude.{◌≡◌, ◌≤◌, ℕ, ◌+◌, Bool, false}
use Rattle.esc_base.specs.Times.{filter_time}
use Rattle.zero_cross.specs.declared.phase.Phase.{Phase}
use Rattle.zero_cross.specs.declared.phase.Phase.TheVariants as phase

-- in this phase at tick `now`, no filter of the sector has begun or can begin before the tick `from`
abbrev pub FiltersFrom : ℕ → ℕ → Phase → Type 0
FiltersFrom from now (phase.Blank end) = from ≤ end.0
FiltersFrom from now phase.Watch = from ≤ now
FiltersFrom from now (phase.Filter end) = from + filter_time ≤ end.0
FiltersFrom from now p = Unit {0}

-- the comparator has this level on all ticks of `filter_time` up to z
abbrev pub StandsUpTo : (ℕ → Bool) → Bool → ℕ → Type 0
StandsUpTo comp level z = (u : ℕ) → z ≤ u + filter_time → u ≤ z → comp u ≡ level

-- what is read at t is true of the comparator: where no change since the filter began is read, it has had this level since then
abbrev pub IsRead : (ℕ → Bool) → Phase → ℕ → Bool → Bool → Type 0
IsRead comp (phase.Filter end) t level changed = changed ≡ false → (u : ℕ) → end.0 ≤ u + filter_time → u ≤ t → comp u ≡ level
IsRead comp p t level changed = Unit {0}
