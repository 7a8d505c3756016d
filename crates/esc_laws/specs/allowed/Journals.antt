-- Shown of the laws, and no law.
-- Small whole journals that are legal: the laws don't refuse all.
use Rattle.std.specs.Prelude.{ℕ, List, [], ◌∷◌, ◌++◌}
use Rattle.esc_base.specs.declared.note.Note.{Note}
use Rattle.settings_block.specs.declared.stored.Loaded.{Loaded}
use Rattle.interrupt_machine.specs.declared.nest.Nest.{Nest}
use Rattle.esc_laws.specs.Steps.{opening}
use Rattle.esc_laws.specs.Legal.{Legal}
use Rattle.esc_laws.specs.refused.Notes.{enters, leaves, nothing, ticks}
use Rattle.esc_laws.specs.refused.Steps.{two_edges}

-- TICK works control tick 1 off in one step, and CAP judges the first window, which closed at 4200, in another one
abbrev pub tick_and_verdict : List Note
tick_and_verdict = enters 2400 2 ∷ ticks 2402 1 0 0 ∷ leaves 2402 2 ∷ enters 4200 3 ∷ nothing 4202 ∷ leaves 4202 3 ∷ []

-- for any settings and nesting
pub record SomeAreLegal : Type 0 where
  -- the trace `0 END`
  pub no_time_passes : (loaded : Loaded) (nest : Nest) (cost : ℕ) → Legal loaded nest cost [] 0 (opening loaded)
  -- `100 E 1`, `200 E 0`, `2401 END`
  pub tick_enters : (loaded : Loaded) (nest : Nest) → Legal loaded nest 2 two_edges 2401 (opening loaded ++ enters 2400 2 ∷ [])
  -- `100 E 1`, `200 E 0`, `4203 END`
  pub a_window_is_judged : (loaded : Loaded) (nest : Nest) → Legal loaded nest 2 two_edges 4203 (opening loaded ++ tick_and_verdict)
