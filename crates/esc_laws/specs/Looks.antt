-- What the ticks of the steps so far say, and the place after notes that stand newest first.
use Rattle.std.specs.Prelude.{ℕ, ◌+◌, ◌==◌, Bool, true, false, if◌then◌else◌, List, [], ◌∷◌}
use Rattle.std.specs.List.{fold}
use Rattle.esc_base.specs.declared.kind.Kind.{Kind}
use Rattle.esc_base.specs.declared.kind.Kind.TheVariants as kind
use Rattle.esc_base.specs.declared.note.Note.{Note}
use Rattle.esc_laws.specs.Place.{Place, next, nowhere}
use Rattle.esc_laws.specs.Steps.{Turned}

-- what the ticks of the steps so far say
pub record Made : Type 0 where
  -- from this tick on CAP has made no step of its own, and COMM and CMP none at all
  pub cap_past : ℕ
  pub comm_past : ℕ
  pub cmp_past : ℕ
  -- how many own steps PWM has made since its newest entry, and the tick of its newest second one, at which it reads the position
  pub pwm_own : ℕ
  pub sampled : ℕ

abbrev pub none_made : Made
none_made = record { cap_past = 0; comm_past = 0; cmp_past = 0; pwm_own = 0; sampled = 0 }

-- after a step of a kind at t: its entry, or an own one
abbrev pub made_next : Kind → Bool → ℕ → Made → Made
made_next kind.Cap false t m = record m { cap_past = t + 1 }
made_next kind.Comm enters t m = record m { comm_past = t + 1 }
made_next kind.Cmp enters t m = record m { cmp_past = t + 1 }
made_next kind.Pwm true t m = record m { pwm_own = 0 }
made_next kind.Pwm false t m = record m { pwm_own = m.pwm_own + 1; sampled = if m.pwm_own == 1 then t else m.sampled }
made_next k enters t m = m

unfoldable pub made : List Turned → Made
made log = fold (λ m e. made_next e.kind e.enters e.tick m) none_made log

-- the place after these notes, the newest first
abbrev pub placed : List Note → Place
placed [] = nowhere
placed (n ∷ back) = next (placed back) n
