-- A law, or what a law is said with: what `Legal` means rests on this.
-- In a period that nothing disturbs the high switch is on in its first part, and off in its last; the low one is on, and the low
-- one of the high leg is off.
use Rattle.std.specs.Prelude.{◌≡◌, ◌<◌, ◌≤◌, ◌+◌, ◌-◌, ◌*◌, ◌⊎◌, ℕ, Bool, true, false, ◌==◌, if◌then◌else◌, nat_le, List, [], ◌∷◌, reverse, All}
use Rattle.esc_base.specs.declared.event.Event.{Event}
use Rattle.esc_base.specs.declared.note.Note.{Note}
use Rattle.esc_base.specs.declared.note.Note.TheVariants as note
use Rattle.esc_base.specs.Journal.{time_of}
use Rattle.esc_base.specs.Trace.{tick_of}
use Rattle.esc_base.specs.Legs.{is_on}
use Rattle.commutation.specs.Sectors.{high_of, low_of}
use Rattle.gate_driver.specs.DeadSafe.{high_at, low_at, low_free_at}
use Rattle.arming.specs.ControlAt.{demand_at}
use Rattle.esc_laws.specs.Steps.{stall_end}
use Rattle.commutation.specs.Commutated.{sector_at}

-- the notes at ticks up to t, the newest first
abbrev pub upto : ℕ → List Note → List Note
upto t [] = []
upto t (n ∷ notes) = if nat_le (time_of n) t then n ∷ upto t notes else []

abbrev pub by_tick : ℕ → List Note → List Note
by_tick t notes = reverse (upto t notes)

-- no stall touches the ticks from a to b
abbrev pub NoStallIn : ℕ → ℕ → List Event → Type 0
NoStallIn a b trace = All (λ e. (stall_end e ≤ a) ⊎ (b < tick_of e)) trace

-- a Q, or an I of COMM
abbrev pub disturbs : Note → Bool
disturbs (note.Step t s) = true
disturbs (note.Enter t k) = k == 6
disturbs n = false

-- the period at p is undisturbed, with demand d
pub record Undisturbed (cost : ℕ) (trace : List Event) (notes : List Note) (p d : ℕ) : Type 0 where
  pub drives : 0 < d
  -- a multiple of 2000
  pub number : ℕ
  pub starts : p ≡ 2000 * number
  -- the newest K at or before p - 48 cost, and every later one before p + 2000
  pub demand : (u : ℕ) → p ≤ u + 48 * cost → u < p + 2000 → demand_at (by_tick u notes) ≡ d
  pub stalls : NoStallIn (p - 48 * cost) (p + 1999) trace
  -- a Q stands before p, and none and no I of COMM from p to p + 1999
  pub before : 1 ≤ p
  pub sector : 0 < sector_at (by_tick (p - 1) notes)
  pub none : All (λ n. p ≤ time_of n → time_of n < p + 2000 → disturbs n ≡ false) notes
  -- the low switch of the pair's high leg has never been on, or last went off at or before p - 48
  pub free : low_free_at (high_of (sector_at (by_tick (p - 1) notes))) (by_tick (p - 1) notes) ≤ p

-- What is asked of it with this sector, at each tick below T: the high switch is on, and then off; the low switch is on, and that
-- of the high leg is off. A range without a tick asks nothing.
pub record IsChopped (cost until : ℕ) (notes : List Note) (p d sector : ℕ) : Type 0 where
  pub high_on : (t : ℕ) → t < until → p + 48 * cost ≤ t → t ≤ p + d → is_on (high_at (by_tick t notes)) (high_of sector) ≡ true
  pub high_off : (t : ℕ) → t < until → p + d + 48 * cost ≤ t → t < p + 2000 → is_on (high_at (by_tick t notes)) (high_of sector) ≡ false
  pub low_on : (t : ℕ) → t < until → p + 48 * cost ≤ t → t < p + 2000 → is_on (low_at (by_tick t notes)) (low_of sector) ≡ true
  pub other_low_off : (t : ℕ) → t < until → p + 48 * cost ≤ t → t < p + 2000 → is_on (low_at (by_tick t notes)) (high_of sector) ≡ false

abbrev pub Chopped : ℕ → List Event → ℕ → List Note → Type 0
Chopped cost trace until notes = (p d : ℕ) → Undisturbed cost trace notes p d → IsChopped cost until notes p d (sector_at (by_tick (p - 1) notes))
