-- What each machine step of a run does to the gates, by the journal before and after it.
use Rattle.std.specs.Prelude.{◌≡◌, ◌≢◌, ◌<◌, ◌≤◌, ◌%◌, ℕ, true, false, List, [], ◌∷◌, ◌++◌, reverse, All}
use Rattle.esc_base.specs.Times.{pwm_period}
use Rattle.esc_base.specs.declared.kind.Kind.TheVariants as kind
use Rattle.esc_base.specs.declared.note.Note.{Note}
use Rattle.esc_base.specs.Legs.{is_on}
use Rattle.esc_base.specs.Numbers.{kind_number}
use Rattle.settings_block.specs.declared.stored.Loaded.{Loaded}
use Rattle.arming.specs.ControlAt.{demand_at}
use Rattle.commutation.specs.Sectors.{high_of}
use Rattle.commutation.specs.Commutated.{sector_at}
use Rattle.gate_driver.specs.DeadSafe.{high_at, low_at, low_free_at}
use Rattle.esc_laws.specs.Steps.{Turned, journal, open_in}
use Rattle.esc_chopping.specs.View.{has_leave}
use Rattle.esc_laws.specs.Looks.{made}

-- the notes of these steps, the newest first
abbrev pub told : Loaded → List Turned → List Note
told loaded log = reverse (journal loaded log)

-- PWM's write is what the position that it has read asks for
pub record Writes (sampled t : ℕ) (back after : List Note) : Type 0 where
  pub on : sampled % pwm_period < demand_at back → 0 < sector_at back → is_on (low_at back) (high_of (sector_at back)) ≡ false
      → low_free_at (high_of (sector_at back)) back ≤ t → is_on (high_at after) (high_of (sector_at back)) ≡ true
  pub off : demand_at back ≤ sampled % pwm_period → high_at after ≡ 0

-- what a room shows of each step of its handler
pub record ChopFits (loaded : Loaded) (before : List Turned) (e : Turned) : Type 0 where
  -- an entry is above each open kind
  pub above : e.enters ≡ true → All (λ j. kind_number j < kind_number e.kind) (open_in loaded before)
  -- while there is a demand only COMM's own steps write the low switches, and besides them only PWM's fifth one the high ones
  pub low : (e.kind ≡ kind.Comm → e.enters ≡ true) → 0 < demand_at (told loaded before) → low_at (told loaded (before ++ e ∷ [])) ≡ low_at (told loaded before)
  pub high : (e.kind ≡ kind.Comm → e.enters ≡ true) → (e.kind ≡ kind.Pwm → e.enters ≡ false → (made before).pwm_own ≢ 4) → 0 < demand_at (told loaded before)
      → high_at (told loaded (before ++ e ∷ [])) ≡ high_at (told loaded before)
  pub chops : e.kind ≡ kind.Pwm → e.enters ≡ false → (made before).pwm_own ≡ 4
      → Writes (made before).sampled e.tick (told loaded before) (told loaded (before ++ e ∷ []))
  -- PWM doesn't return before that step
  pub back : e.kind ≡ kind.Pwm → e.enters ≡ false → has_leave e.notes ≡ true → 4 ≤ (made before).pwm_own
