-- What the words of a command line ask for: a command, and behind it options in any order, each at most once, as the two words
-- `--name value` or as the one word `--name=value`.
use Rattle.std.specs.Prelude.{ℕ, ◌≤◌, Bool, true, false, not, ◌&&◌, ◌==◌, nat_lt, nat_le, if◌then◌else◌, List, [], ◌∷◌, length, Option, Some, None, is_some, unwrap_or, option_map, option_and_then, codes}
use Rattle.std.specs.List.{position_or_len, before_first, after_first}
use Rattle.std.specs.Str.{bytes_eq}
use Rattle.interrupt_machine.specs.declared.nest.Nest.{Nest}
use Rattle.interrupt_machine.specs.declared.nest.Nest.TheVariants.{One, Full}
use Rattle.trace_text.specs.Line.{number_between}
use Rattle.am32sim.specs.declared.options.Command.{Command}
use Rattle.am32sim.specs.declared.options.Command.TheVariants as command

-- ---- the commands

abbrev pub command_named : List ℕ → Option Command
command_named name = if bytes_eq name (codes "run") then Some command.Run else (if bytes_eq name (codes "show") then Some command.Show else None)

abbrev pub runs : Command → Bool
runs command.Run = true
runs command.Show = false

-- ---- the table of options

-- what options have given
pub record Given : Type 0 where
  pub cost : Option ℕ
  pub nest : Option Nest
  pub image : Option (List ℕ)

abbrev pub nothing : Given
nothing = record { cost = None; nest = None; image = None }

-- 1 or 7
abbrev pub nest_in : List ℕ → Option Nest
nest_in value = if bytes_eq value (codes "1") then Some One else (if bytes_eq value (codes "7") then Some Full else None)

-- a path of 1 to 255 bytes that doesn't begin with `-`
abbrev pub path_in : List ℕ → Option (List ℕ)
path_in [] = None
path_in (b ∷ bytes) = if not (b == 45) && nat_le (length (b ∷ bytes)) 255 then Some (b ∷ bytes) else None

-- a step cost of 1 to 16, in decimal digits without a leading zero
abbrev pub with_cost : List ℕ → Given → Option Given
with_cost value g = if is_some g.cost then None else option_map (λ n. record g { cost = Some n }) (number_between 1 16 value)

abbrev pub with_nest : List ℕ → Given → Option Given
with_nest value g = if is_some g.nest then None else option_map (λ n. record g { nest = Some n }) (nest_in value)

abbrev pub with_image : List ℕ → Given → Option Given
with_image value g = if is_some g.image then None else option_map (λ p. record g { image = Some p }) (path_in value)

-- An option: its name, the commands that it goes with, and what its value adds to what was given. It adds nothing, and isn't
-- allowed, where the value is none of its values, or the option was given before.
pub record Row : Type 0 where
  pub name : List ℕ
  pub goes_with : Command → Bool
  pub adds : List ℕ → Given → Option Given

abbrev pub options : List Row
options =
    record { name = codes "--cost"; goes_with = runs; adds = with_cost }
    ∷ record { name = codes "--nest"; goes_with = runs; adds = with_nest }
    ∷ record { name = codes "--flash"; goes_with = λ c. true; adds = with_image }
    ∷ []

-- one option more, by the row with its name
abbrev pub with_option : List Row → Command → List ℕ → List ℕ → Given → Option Given
with_option [] c name value g = None
with_option (row ∷ rows) c name value g = if bytes_eq name row.name && row.goes_with c then row.adds value g else with_option rows c name value g

-- ---- the words

-- a word `name=value`, cut at its first `=`
abbrev pub is_equals : ℕ → Bool
is_equals b = b == 61

abbrev pub has_value : List ℕ → Bool
has_value word = nat_lt (position_or_len is_equals word) (length word)

-- What the words behind a command give. Where one is a name alone, the next is its value.
abbrev pub given_by : Command → Given → Option (List ℕ) → List (List ℕ) → Option Given
given_by c g None [] = Some g
given_by c g (Some name) [] = None
given_by c g (Some name) (value ∷ words) = option_and_then (λ h. given_by c h None words) (with_option options c name value g)
given_by c g None (word ∷ words) =
    if has_value word then option_and_then (λ h. given_by c h None words) (with_option options c (before_first is_equals word) (after_first is_equals word) g)
    else given_by c g (Some word) words

pub record Asked : Type 0 where
  pub command : Command
  pub given : Given

-- what the words ask for, where they are in this grammar
abbrev pub asked : List (List ℕ) → Option Asked
asked [] = None
asked (word ∷ words) = option_and_then (λ c. option_map (λ g. record { command = c; given = g }) (given_by c nothing None words)) (command_named word)

-- ---- what holds where an option isn't given

abbrev pub cost_of : Asked → ℕ
cost_of a = unwrap_or a.given.cost 2

abbrev pub nest_of : Asked → Nest
nest_of a = unwrap_or a.given.nest Full

abbrev pub image_of : Asked → Option (List ℕ)
image_of a = a.given.image

-- a step cost that was given is from 1 to 16
abbrev pub CostFits : Option ℕ → Type 0
CostFits None = Unit {0}
CostFits (Some n) = (1 ≤ n) × (n ≤ 16)
