-- How long a due kind can wait: at most 8 masked steps and one further step, not counting entries and steps of higher
-- kinds. With nest 1 only MAIN's own steps count, since no kind enters while another one is open.
use Rattle.std.specs.Prelude.{◌≡◌, ◌≤◌, ◌+◌, ℕ, Bool, true, false, not, ◌&&◌, ◌==◌, nat_lt, nat_le, if◌then◌else◌, List, Option, Some, None, length}
use Rattle.std.specs.List.{fold}
use Rattle.esc_base.specs.declared.kind.Kind.{Kind}
use Rattle.esc_base.specs.Numbers.{kind_number}
use Rattle.interrupt_machine.specs.declared.nest.Nest.{Nest}
use Rattle.interrupt_machine.specs.declared.nest.Nest.TheVariants.{One, Full}
use Rattle.interrupt_machine.specs.Open.{innermost, is_open}

-- a kind waits: it is due and not open
abbrev pub is_waiting : (Kind → Bool) → List Kind → Kind → Bool
is_waiting due stack k = due k && not (is_open stack k)

-- the innermost open kind goes before this one, whether the mask is up or not
abbrev pub is_behind : Nest → Option Kind → Kind → Bool
is_behind nest None k = false
is_behind Full (Some inner) k = nat_lt (kind_number k) (kind_number inner)
is_behind One (Some inner) k = nat_lt 0 (kind_number inner)

-- whether a step of the kind `by` counts for kind k, which waits
abbrev pub counts : Nest → Kind → Option Kind → Bool
counts nest k None = false
counts Full k (Some by) = nat_le (kind_number by) (kind_number k)
counts One k (Some by) = kind_number by == 0

-- what can happen to the machine: a step, with the open and the due kinds before and after it; or time passes and the outside
-- acts, with the open kinds, and the due ones before and after
pub data Moment : Type 0 where
  Stepped : List Kind → (Kind → Bool) → List Kind → (Kind → Bool) → Moment
  Passed : List Kind → (Kind → Bool) → (Kind → Bool) → Moment

-- the kind whose step it was, by the open kinds before and after: the one that was entered, else the innermost one
abbrev pub stepper : List Kind → List Kind → Option Kind
stepper stack stack' = if nat_lt (length stack) (length stack') then innermost stack' else innermost stack

-- the count w of a kind after a step of the kind `by`; it is 0 unless the kind waits before and after the step
abbrev pub wait_next : Nest → Kind → Bool → Bool → Option Kind → ℕ → ℕ
wait_next nest k before after by w = if before && after then (if counts nest k by then w + 1 else w) else 0

-- the same after a moment
abbrev pub waited_next : Nest → Kind → ℕ → Moment → ℕ
waited_next nest k w (Stepped stack due stack' due') = wait_next nest k (is_waiting due stack k) (is_waiting due' stack' k) (stepper stack stack') w
waited_next nest k w (Passed stack due due') = wait_next nest k (is_waiting due stack k) (is_waiting due' stack k) None w

-- for how many counted steps a kind has waited at the end of a log
unfoldable pub waited : Nest → List Moment → Kind → ℕ
waited nest log k = fold (waited_next nest k) 0 log

-- for how many steps the mask may still keep a kind out
abbrev pub room : Bool → ℕ → ℕ
room masked hold = if masked then hold else 0

-- Each kind has waited for at most 8 counted steps, those for which the mask may still stand included; and the mask may stand
-- for 8 more at most. The count of a kind that no longer waits begins anew at the next step.
pub record Patient (nest : Nest) (hold : ℕ) (masked : Bool) (stack : List Kind) (due : Kind → Bool) (waits : Kind → ℕ) : Type 0 where
  pub bound : (k : Kind) → waits k + (if is_behind nest (innermost stack) k then 0 else room masked hold) ≤ 8
  pub held : masked ≡ true → hold ≤ 8

-- what the machine promises at the end of a log: no kind has waited for more than 8 counted steps, nor will
pub record Responds (nest : Nest) (hold : ℕ) (masked : Bool) (stack : List Kind) (due : Kind → Bool) (log : List Moment) : Type 0 where
  pub patient : Patient nest hold masked stack due (waited nest log)
  pub most : (k : Kind) → waited nest log k ≤ 8
