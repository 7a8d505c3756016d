-- Machinery, and no law: how a run is proved to be legal. Nothing that `Legal` means rests on this.
-- How seldom CMP is entered: what ties the phase of the search to the ticks of CMP's newest entries, by where CMP stands.
use Rattle.std.specs.Prelude.{◌≤◌, ◌⊎◌, ℕ, List, [], ◌∷◌}
use Rattle.esc_base.specs.Times.{least_blanking, rejected_blanking}
use Rattle.zero_cross.specs.declared.phase.Phase.{Phase}
use Rattle.zero_cross.specs.declared.phase.Phase.TheVariants as phase
use Rattle.esc_core.specs.declared.state.CmpAt.{CmpAt}
use Rattle.esc_core.specs.declared.state.CmpAt.TheVariants as cmp
use Rattle.esc_laws.specs.Asked.{IsPast}

-- ticks in their order, the newest first, none after this one
abbrev pub Newest : ℕ → List ℕ → Type 0
Newest t [] = Unit {0}
Newest t (i ∷ entries) = (i ≤ t) × Newest i entries

-- the registers bring the next entry: at the end of blanking one more than the newest two will have stood since, at the end of a
-- filter three
abbrev pub Brings : ℕ → Phase → ℕ → List ℕ → Type 0
Brings gap phase.Off now entries = Unit {0}
Brings gap (phase.Blank end) now entries = IsPast gap 0 entries end.0
Brings gap phase.Watch now entries = IsPast gap 1 entries now
Brings gap (phase.Filter end) now entries = IsPast gap 2 entries end.0
Brings gap phase.Done now entries = Unit {0}

-- CMP was entered and hasn't looked; or a Q came since the entry
abbrev pub Looks : ℕ → Phase → ℕ → List ℕ → Type 0
Looks gap phase.Off now entries = Unit {0}
Looks gap (phase.Blank end) now entries = IsPast gap 0 entries end.0 ⊎ ((end.0 ≤ now) × IsPast gap 1 entries end.0)
Looks gap phase.Watch now entries = IsPast gap 2 entries now
Looks gap (phase.Filter end) now entries = Unit {0}
Looks gap phase.Done now entries = Unit {0}

abbrev pub PaceTied : ℕ → CmpAt → Phase → ℕ → List ℕ → Type 0
PaceTied gap cmp.Raise p now entries = Looks gap p now entries
PaceTied gap cmp.Look p now entries = Looks gap p now entries
PaceTied gap cmp.Read p now entries = IsPast gap 1 entries now
PaceTied gap cmp.Ack p now entries = IsPast gap 2 entries now
PaceTied gap cmp.Shut p now entries = Brings gap p now entries
PaceTied gap cmp.Arm p now entries = Brings gap p now entries
PaceTied gap cmp.Commute p now entries = Brings gap p now entries
PaceTied gap cmp.Lower p now entries = Brings gap p now entries
PaceTied gap cmp.Back p now entries = Brings gap p now entries

-- for all entries, and for those since the newest Q
pub record SeldomTied (at : CmpAt) (p : Phase) (now : ℕ) (entries looks : List ℕ) : Type 0 where
  pub ordered : Newest now entries
  pub ordered_since : Newest now looks
  pub all : PaceTied least_blanking at p now entries
  pub since_turn : PaceTied rejected_blanking at p now looks
