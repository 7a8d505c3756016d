-- Shown of the laws, and no law.
-- What `Chopped` refuses: small wrong journals, each with the sentence that it breaks. Each is proved to break it, so whoever
-- weakens the law meets them. And one that it allows, at the last tick of each sentence.
use Rattle.std.specs.Prelude.{ℕ, ◌≡◌, ◌≤◌, List, [], ◌∷◌, ◌++◌, All}
use Rattle.esc_base.specs.declared.event.Event.TheVariants as event
use Rattle.esc_base.specs.declared.note.Note.{Note}
use Rattle.esc_base.specs.Numbers.{as_tick}
use Rattle.esc_base.specs.Journal.{time_of}
use Rattle.esc_laws.specs.Chopped.{Undisturbed, Chopped}
use Rattle.esc_laws.specs.refused.Notes.{enters, leaves, first_two, ticks, switches, turns}

-- a drive with demand 100 starts in sector 1, whose high leg is A, word 1, and whose low one is B, word 2
abbrev pub drive : List Note → List Note
drive rest = ticks 2404 1 0 100 ∷ turns 2420 1 ∷ rest

-- the low switch is on
abbrev pub low_on : List Note → List Note
low_on rest = drive (switches 2430 0 2 ∷ rest)

-- These notes, behind the first two, break the law at step cost 1 in the period at 4000, with no stall: whatever stands behind
-- that period.
abbrev pub Unchopped : List Note → Type 0
Unchopped notes = (until : ℕ) (after : List Note) → 6000 ≤ until → All (λ n. 6000 ≤ time_of n) after → Chopped 1 [] until (first_two ++ (notes ++ after)) → ⊥

pub record ChoppingRefuses : Type 0 where
  -- the high switch is on from tick 4048 to tick 4100, and off from 4148 on
  pub high_comes_a_step_late : Unchopped (low_on (switches 4049 1 2 ∷ switches 4110 0 2 ∷ []))
  pub high_goes_a_step_early : Unchopped (low_on (switches 4010 1 2 ∷ switches 4100 0 2 ∷ []))
  pub high_stays_on_behind_its_duty : Unchopped (low_on (switches 4010 1 2 ∷ switches 4149 0 2 ∷ []))
  pub no_gate_is_written : Unchopped (low_on [])
  -- a demand that stood 48 steps before the period is the one that counts
  pub duty_of_the_demand_before : Unchopped (low_on (ticks 3952 2 0 200 ∷ switches 4010 1 2 ∷ switches 4110 0 2 ∷ []))
  -- the low switch is on, and that of the high leg is off
  pub low_is_off : Unchopped (drive (switches 4010 1 0 ∷ switches 4110 0 0 ∷ []))
  pub other_low_is_on : Unchopped (low_on (switches 4010 1 2 ∷ switches 4110 0 2 ∷ switches 4200 0 3 ∷ []))

-- the high switch comes and goes at the last tick that the law allows
abbrev pub in_time : List Note
in_time = first_two ++ low_on (switches 4048 1 2 ∷ switches 4148 0 2 ∷ [])

-- COMM is entered in the middle of the period
abbrev pub with_comm : List Note
with_comm = first_two ++ low_on (switches 4048 1 2 ∷ switches 4148 0 2 ∷ enters 5000 6 ∷ leaves 5010 6 ∷ [])

-- the low switch of leg A goes off 47 ticks before the period
abbrev pub with_late_low : List Note
with_late_low = first_two ++ drive (switches 2430 0 3 ∷ switches 3953 0 2 ∷ [])

pub record SomeAreChopped : Type 0 where
  pub in_time_is_chopped : Chopped 1 [] 6000 in_time
  -- and that isn't for want of such a period
  pub one_is_undisturbed : Undisturbed 1 [] in_time 4000 100
  -- nothing is asked of a period with an I of COMM or a stall in it, nor where the low switch of the high leg went off too late
  pub comm_disturbs : (d : ℕ) → Undisturbed 1 [] with_comm 4000 d → ⊥
  pub stall_disturbs : (d : ℕ) → Undisturbed 1 (event.Stall (as_tick 4500) 10 ∷ []) in_time 4000 d → ⊥
  pub late_low_disturbs : (d : ℕ) → Undisturbed 1 [] with_late_low 4000 d → ⊥
