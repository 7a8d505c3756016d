-- When an interrupt kind becomes due, if nothing but time goes on.
use Rattle.std.specs.Prelude.{◌≡◌, ℕ, ◌<◌, Bool, true, false, not, ◌&&◌, if◌then◌else◌, nat_lt, Option, Some, None}
use Rattle.esc_base.specs.declared.tick.Tick.{Tick}
use Rattle.esc_base.specs.declared.kind.Kind.{Kind}
use Rattle.timer_regs.specs.Bank.{Bank}
use Rattle.timer_regs.specs.Effects.{is_due, advanced}

abbrev pub tick_of : Option Tick → Option ℕ
tick_of None = None
tick_of (Some t) = Some t.0

-- the kind isn't due now, and is at t
abbrev pub becomes_due : Bank → Kind → ℕ → Bool
becomes_due b k t = not (is_due b k) && is_due (advanced b t) k

-- t is the first tick after now at which a test holds
pub record IsFirst (now : ℕ) (holds : ℕ → Bool) (t : ℕ) : Type 0 where
  pub later : now < t
  pub due : holds t ≡ true
  pub none_before : (u : ℕ) → now < u → u < t → holds u ≡ false

-- the first tick after now at which a test holds, or none where it never does
abbrev pub IsFirstAfter : ℕ → (ℕ → Bool) → Option ℕ → Type 0
IsFirstAfter now holds None = (t : ℕ) → now < t → holds t ≡ false
IsFirstAfter now holds (Some t) = IsFirst now holds t

-- the first later tick at which this kind becomes due
abbrev pub IsFirstDue : Bank → Kind → Option ℕ → Type 0
IsFirstDue b k at = IsFirstAfter b.time (becomes_due b k) at

-- t is the first later tick at which some kind becomes due
pub record IsNext (b : Bank) (t : ℕ) : Type 0 where
  pub later : b.time < t
  pub kind : Kind
  pub due : becomes_due b kind t ≡ true
  pub none_before : (k : Kind) (u : ℕ) → b.time < u → u < t → becomes_due b k u ≡ false

-- the first later tick at which some kind becomes due, or none where none ever does
abbrev pub IsNextDue : Bank → Option ℕ → Type 0
IsNextDue b None = (k : Kind) (t : ℕ) → b.time < t → becomes_due b k t ≡ false
IsNextDue b (Some t) = IsNext b t

-- the earlier of two ticks, either of which may not be there
abbrev pub sooner : Option ℕ → Option ℕ → Option ℕ
sooner None b = b
sooner (Some a) None = Some a
sooner (Some a) (Some b) = if nat_lt b a then Some b else Some a
