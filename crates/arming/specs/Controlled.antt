-- Which notes of control a journal may hold: K, A, X, M and P (see `ControlAt`), in the places that the notes before ask for.
use Rattle.std.specs.Prelude.{◌≡◌, ◌<◌, ℕ, ◌/◌, true, List, [], ◌∷◌, reverse, Option, Some, None}
use Rattle.esc_base.specs.declared.note.Note.{Note}
use Rattle.esc_base.specs.declared.note.Note.TheVariants as note
use Rattle.esc_base.specs.Journal.{Each}
use Rattle.esc_base.specs.Numbers.{cause_number}
use Rattle.esc_base.specs.Times.{control_period}
use Rattle.dshot_commands.specs.declared.act.Act.{Act}
use Rattle.dshot_commands.specs.Act.{acting, number_of}
use Rattle.arming.specs.declared.decision.Decision.{Decision}
use Rattle.arming.specs.declared.decision.Decision.TheVariants.{Loses, Arms, Drives}
use Rattle.arming.specs.Decide.{decide, demand_of}
use Rattle.arming.specs.ControlAt.{asked_at, command_run_at, control_at, marks_at, number_at}

-- what an A, an X with its cause and an M with its command say
pub data Outcome : Type 0 where
  Armed : Outcome
  Lost : ℕ → Outcome
  Acted : ℕ → Outcome

abbrev pub outcome_of : Decision → Option Outcome
outcome_of (Loses cause) = Some (Lost (cause_number cause))
outcome_of Arms = Some Armed
outcome_of (Drives demand) = None

abbrev pub outcome_of_act : Option Act → Option Outcome
outcome_of_act None = None
outcome_of_act (Some act) = Some (Acted (number_of act))

-- what the newest note asks the next one to say: a K that arms or loses, or a good frame whose command acts
abbrev pub owed : List Note → Option Outcome
owed [] = None
owed (note.Control t n s d ∷ back) = outcome_of (decide (control_at back) n s)
owed (note.Good t v q ∷ back) = outcome_of_act (acting (command_run_at v back) v)
owed (n ∷ back) = None

-- what a note says of these
abbrev pub says : Note → Option Outcome
says (note.Armed t) = Some Armed
says (note.Lost t c) = Some (Lost c)
says (note.Command t c) = Some (Acted c)
says n = None

-- a K has the number of its control tick, numbers rise, its marks are those of its place, and its demand is the decided one
pub record FitsTick (back : List Note) (at n marks demand : ℕ) : Type 0 where
  pub number_is : n ≡ at / control_period
  pub rises : number_at back < n
  pub marks_are : marks ≡ marks_at back
  pub demand_is : demand ≡ demand_of (decide (control_at back) n marks)

abbrev pub IsTick : List Note → Note → Type 0
IsTick back (note.Control t n s d) = FitsTick back t.0 n s d
IsTick back n = Unit {0}

-- a P stands where a save is asked for: so two P have a command 12 between them, and one stands before the first P
abbrev pub IsSave : List Note → Note → Type 0
IsSave back (note.Saved t r) = asked_at back ≡ true
IsSave back n = Unit {0}

-- a note fits the notes before it, which come with the newest first; A, X and M stand exactly where they are owed
pub record FitsControl (back : List Note) (n : Note) : Type 0 where
  pub paid : says n ≡ owed back
  pub tick : IsTick back n
  pub save : IsSave back n

-- each note of a journal fits those before it
abbrev pub Controlled : List Note → Type 0
Controlled notes = Each (λ before n. FitsControl (reverse before) n) [] notes

-- the same of a journal with the newest note first
abbrev pub ControlledBack : List Note → Type 0
ControlledBack [] = Unit {0}
ControlledBack (n ∷ back) = FitsControl back n × ControlledBack back
