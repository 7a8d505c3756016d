-- Calls that are made to fail by their numbers.
use Rattle.std.specs.Prelude.{ℕ, ◌+◌, min, nat_eq, List, Bool}
use Rattle.std.specs.List.{list_any}

-- whether the next call is to fail, after so many calls
abbrev pub is_to_fail : ℕ → List ℕ → Bool
is_to_fail made fails = list_any (λ n. nat_eq n (min (made + 1) 18446744073709551615)) fails
