-- The interrupt kinds with an open handler, the innermost first, and which due kind enters.
use Rattle.std.specs.Prelude.{ℕ, Bool, true, false, not, ◌&&◌, ◌==◌, nat_lt, ◌<◌, if◌then◌else◌, List, [], ◌∷◌, ◌++◌, Option, Some, None, is_none}
use Rattle.std.specs.List.{find, list_any}
use Rattle.esc_base.specs.declared.kind.Kind.{Kind}
use Rattle.esc_base.specs.declared.kind.Kind.TheVariants as kind
use Rattle.esc_base.specs.Numbers.{kind_number}
use Rattle.timer_regs.specs.Bank.{Bank}
use Rattle.timer_regs.specs.Effects.{is_due}
use Rattle.interrupt_machine.specs.declared.nest.Nest.{Nest}
use Rattle.interrupt_machine.specs.declared.nest.Nest.TheVariants.{One, Full}

-- the innermost of the open kinds
abbrev pub innermost : List Kind → Option Kind
innermost [] = None
innermost (k ∷ outer) = Some k

-- the open kinds without the innermost
abbrev pub outer_ones : List Kind → List Kind
outer_ones [] = []
outer_ones (k ∷ outer) = outer

-- a kind has a higher number than the innermost open one
abbrev pub IsAbove : Option Kind → Kind → Type 0
IsAbove None k = Unit {0}
IsAbove (Some inner) k = kind_number inner < kind_number k

-- the kinds above CAP, and CAP and those below it, the highest first
abbrev pub above_cap : List Kind
above_cap = kind.Comm ∷ kind.Pwm ∷ kind.Cmp ∷ []

abbrev pub up_to_cap : List Kind
up_to_cap = kind.Cap ∷ kind.Tick ∷ kind.Uart ∷ kind.Main ∷ []

-- all kinds by their priority
abbrev pub by_priority : List Kind
by_priority = above_cap ++ up_to_cap

-- the kind with a number
abbrev pub kind_in : List Kind → ℕ → Kind
kind_in [] n = kind.Comm
kind_in (k ∷ rest) n = if n == kind_number k then k else kind_in rest n

abbrev pub kind_of : ℕ → Kind
kind_of n = kind_in by_priority n

abbrev pub is_open : List Kind → Kind → Bool
is_open stack k = list_any (λ j. kind_number j == kind_number k) stack

-- whether a kind is due: MAIN where the firmware waits for it, each other one by the registers
abbrev pub due_now : Bool → Bank → Kind → Bool
due_now waits b kind.Main = waits
due_now waits b k = is_due b k

-- the highest kind of those that are due
abbrev pub highest : (Kind → Bool) → Option Kind
highest due = find due by_priority

-- whether a due kind may enter above the innermost open one
abbrev pub may_enter : Nest → Option Kind → Kind → Bool
may_enter nest None k = true
may_enter One (Some inner) k = (kind_number inner == 0) && not (kind_number k == 0)
may_enter Full (Some inner) k = nat_lt (kind_number inner) (kind_number k)

abbrev pub enters_above : Nest → Option Kind → Option Kind → Option Kind
enters_above nest inner None = None
enters_above nest inner (Some k) = if may_enter nest inner k then Some k else None

-- the kind that enters where the mask is down: the highest due one, if it may
abbrev pub next_entry : Nest → List Kind → (Kind → Bool) → Option Kind
next_entry nest stack due = enters_above nest (innermost stack) (highest due)

-- no handler is open, and no kind is due
abbrev pub is_idle : List Kind → (Kind → Bool) → Bool
is_idle [] due = is_none (highest due)
is_idle (k ∷ outer) due = false

-- each open kind has a higher number than those outside of it
abbrev pub IsStack : List Kind → Type 0
IsStack [] = Unit {0}
IsStack (k ∷ outer) = IsAbove (innermost outer) k × IsStack outer
