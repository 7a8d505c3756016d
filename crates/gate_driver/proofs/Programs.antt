-- Each step of each program: what it leaves of the word, that off times follow it exactly, and that it keeps the dead time.
use Rattle.std.proofs.Common.{◌≡◌, ◌≤◌, ◌+◌, ◌-◌, ℕ, Bool, true, false, nat_lt, Option, Some, None, List, refl, ◌∙◌, arith, lit<, lit≤}
use Rattle.std.specs.Int.Bits.{and_zero_r}
use Rattle.esc_base.specs.declared.gate.Leg.{Leg}
use Rattle.esc_base.specs.declared.note.Note.{Note}
use Rattle.esc_base.specs.Legs.{is_on, mask_of, IsApart}
use Rattle.timer_regs.specs.Bank.{Bank}
use Rattle.timer_regs.specs.Access.{accessed}
use Rattle.commutation.specs.Sectors.{high_of, low_of}
use Rattle.gate_driver.specs.declared.progress.Progress.{Progress}
use Rattle.gate_driver.specs.declared.all_off.AllOff.{AllOff}
use Rattle.gate_driver.specs.declared.all_off.AllOff.TheVariants as off
use Rattle.gate_driver.specs.declared.chop.Chop.{Chop}
use Rattle.gate_driver.specs.declared.chop.Chop.TheVariants as chop
use Rattle.gate_driver.specs.declared.to_sector.ChangeAt.{ChangeAt}
use Rattle.gate_driver.specs.declared.to_sector.ChangeAt.TheVariants as change
use Rattle.gate_driver.specs.Gated.{Gated, gates_after, high_wait, low_wait}
use Rattle.gate_driver.specs.DeadSafe.{IsTied}
use Rattle.gate_driver.specs.Acted.{Acted, IsActed, KeepsDeadTime, IsSaid, Spends}
use Rattle.gate_driver.specs.AllOff.{all_off_step}
use Rattle.gate_driver.specs.Chop.{on_step, write_step, chop_step, HasChopped}
use Rattle.gate_driver.specs.Change.{Change, low_step, high_step, duty_step, place_step, change_step, change_left, HasChanged}
use Rattle.gate_driver.proofs.Bits.{only_kept, or_on}
use Rattle.gate_driver.proofs.OffTimes.{gates_same}
use Rattle.gate_driver.proofs.DeadTime.{same_keeps, high_off_keeps, low_off_keeps, high_on_keeps, low_on_keeps, said_after}

-- what a step leaves at its registers
pub record Kept {P : Type 0} (g : Gated) (b : Bank) (s : Acted P) : Type 0 where
  pub time : (accessed b s.access).time ≡ b.time
  pub count : (accessed b s.access).accesses ≤ b.accesses + 1
  pub off_times : s.gates ≡ gates_after g b (accessed b s.access)
  pub dead_time : IsApart b.hi b.lo → KeepsDeadTime b s.gates (accessed b s.access)

-- a step that leaves the gates
quiet : {P : Type 0} (g : Gated) (b : Bank) (s : Acted P) → (accessed b s.access).time ≡ b.time → (accessed b s.access).accesses ≤ b.accesses + 1
    → (accessed b s.access).hi ≡ b.hi → (accessed b s.access).lo ≡ b.lo → s.gates ≡ g → Kept g b s
quiet {P} g b s at count hi lo e = record {
  time = at;
  count = count;
  off_times = e ∙ gates_same g b (accessed b s.access) hi lo;
  dead_time = same_keeps s.gates b (accessed b s.access) hi lo;
}

-- ---- all off

pub all_off_keeps : (at : AllOff) (g : Gated) (b : Bank) → Kept g b (all_off_step at g b)
all_off_keeps off.High g b = record { time = refl; count = omega arith; off_times = refl; dead_time = high_off_keeps _ b _ 0 refl refl }
all_off_keeps off.Low g b = record { time = refl; count = omega arith; off_times = refl; dead_time = low_off_keeps _ b _ 0 refl refl }
all_off_keeps off.Over g b = quiet g b (all_off_step off.Over g b) refl (omega arith) refl refl refl

-- ---- chopping

on_keeps : (wait : Option ℕ) (x : Leg) (g : Gated) (b : Bank) → high_wait g b x ≡ wait → Kept g b (on_step wait x g b)
on_keeps None x g b e = record { time = refl; count = omega arith; off_times = refl; dead_time = high_on_keeps g _ b _ x refl refl refl e }
on_keeps (Some t) x g b e = quiet g b (on_step (Some t) x g b) refl (omega arith) refl refl refl

write_keeps : (leg : Option Leg) (g : Gated) (b : Bank) → Kept g b (write_step leg g b)
write_keeps (Some x) g b = on_keeps (high_wait g b x) x g b refl
write_keeps None g b = record { time = refl; count = omega arith; off_times = refl; dead_time = high_off_keeps _ b _ 0 refl refl }

pub chop_keeps : (at : Chop) (g : Gated) (b : Bank) → Kept g b (chop_step at g b)
chop_keeps (chop.Write leg) g b = write_keeps leg g b
chop_keeps chop.Raise g b = quiet g b (chop_step chop.Raise g b) refl (omega arith) refl refl refl
chop_keeps chop.Position g b = quiet g b (chop_step chop.Position g b) refl (omega arith) refl refl refl
chop_keeps (chop.Duty position) g b = quiet g b (chop_step (chop.Duty position) g b) refl (omega arith) refl refl refl
chop_keeps (chop.Sector below) g b = quiet g b (chop_step (chop.Sector below) g b) refl (omega arith) refl refl refl
chop_keeps chop.Lower g b = quiet g b (chop_step chop.Lower g b) refl (omega arith) refl refl refl
chop_keeps chop.Over g b = quiet g b (chop_step chop.Over g b) refl (omega arith) refl refl refl

chopped_at : (wait : Option ℕ) (x : Leg) (g : Gated) (b : Bank) → wait ≡ None → is_on (accessed b (on_step wait x g b).access).hi x ≡ true
chopped_at None x g b e = or_on b.hi x
chopped_at (Some t) x g b e = absurd (cc)

-- the write leaves what was wanted
pub has_chopped : (leg : Option Leg) (g : Gated) (b : Bank) → HasChopped leg g b (accessed b (chop_step (chop.Write leg) g b).access)
has_chopped (Some x) g b = λ e. chopped_at (high_wait g b x) x g b e
has_chopped None g b = and_zero_r b.hi

-- ---- a change of sector

low_step_keeps : (wait : Option ℕ) (c : Change) (g : Gated) (b : Bank) → low_wait g b (low_of c.to) ≡ wait → Kept g b (low_step wait c g b)
low_step_keeps None c g b e = record { time = refl; count = omega arith; off_times = refl; dead_time = low_on_keeps g _ b _ (low_of c.to) refl refl refl e }
low_step_keeps (Some t) c g b e = quiet g b (low_step (Some t) c g b) refl (omega arith) refl refl refl

high_step_keeps : (wait : Option ℕ) (c : Change) (g : Gated) (b : Bank) → high_wait g b (high_of c.to) ≡ wait → Kept g b (high_step wait c g b)
high_step_keeps None c g b e = record { time = refl; count = omega arith; off_times = refl; dead_time = high_on_keeps g _ b _ (high_of c.to) refl refl refl e }
high_step_keeps (Some t) c g b e = quiet g b (high_step (Some t) c g b) refl (omega arith) refl refl refl

duty_step_keeps : (v : Bool) (c : Change) (g : Gated) (b : Bank) → Kept g b (duty_step v c g)
duty_step_keeps true c g b = quiet g b (duty_step true c g) refl (omega arith) refl refl refl
duty_step_keeps false c g b = quiet g b (duty_step false c g) refl (omega arith) refl refl refl

place_keeps : (at : ChangeAt) (c : Change) (g : Gated) (b : Bank) → Kept g b (place_step at c g b)
place_keeps change.ClearHigh c g b = record {
  time = refl;
  count = omega arith;
  off_times = refl;
  dead_time = high_off_keeps _ b _ (7 - (7 - mask_of (high_of c.to))) refl refl;
}
place_keeps change.ClearLow c g b = record {
  time = refl;
  count = omega arith;
  off_times = refl;
  dead_time = low_off_keeps _ b _ (7 - (7 - mask_of (low_of c.to))) refl refl;
}
place_keeps change.SetSector c g b = quiet g b (place_step change.SetSector c g b) refl (omega arith) refl refl refl
place_keeps change.Low c g b = low_step_keeps (low_wait g b (low_of c.to)) c g b refl
place_keeps change.Position c g b = quiet g b (place_step change.Position c g b) refl (omega arith) refl refl refl
place_keeps (change.Duty position) c g b = duty_step_keeps (nat_lt position b.duty) c g b
place_keeps change.High c g b = high_step_keeps (high_wait g b (high_of c.to)) c g b refl
place_keeps change.Over c g b = quiet g b (place_step change.Over c g b) refl (omega arith) refl refl refl

pub change_keeps : (c : Change) (g : Gated) (b : Bank) → Kept g b (change_step c g b)
change_keeps c g b = place_keeps c.at c g b

low_changed : (wait : Option ℕ) (c : Change) (g : Gated) (b : Bank)
    → (wait ≡ None → is_on (accessed b (low_step wait c g b).access).lo (low_of c.to) ≡ true) × ((accessed b (low_step wait c g b).access).hi ≡ b.hi)
low_changed None c g b = (λ e. or_on b.lo (low_of c.to), refl)
low_changed (Some t) c g b = (λ e. absurd (cc), refl)

high_changed : (wait : Option ℕ) (c : Change) (g : Gated) (b : Bank)
    → (wait ≡ None → is_on (accessed b (high_step wait c g b).access).hi (high_of c.to) ≡ true) × ((accessed b (high_step wait c g b).access).lo ≡ b.lo)
high_changed None c g b = (λ e. or_on b.hi (high_of c.to), refl)
high_changed (Some t) c g b = (λ e. absurd (cc), refl)

duty_changed : (v : Bool) (c : Change) (g : Gated) (b : Bank)
    → ((accessed b (duty_step v c g).access).hi ≡ b.hi) × ((accessed b (duty_step v c g).access).lo ≡ b.lo)
duty_changed true c g b = (refl, refl)
duty_changed false c g b = (refl, refl)

-- each place leaves what is wanted there
pub has_changed : (at : ChangeAt) (c : Change) (g : Gated) (b : Bank) → HasChanged at c.to g b (accessed b (place_step at c g b).access)
has_changed change.ClearHigh c g b = (only_kept b.hi (high_of c.to), refl)
has_changed change.ClearLow c g b = (only_kept b.lo (low_of c.to), refl)
has_changed change.SetSector c g b = (refl, refl)
has_changed change.Low c g b = low_changed (low_wait g b (low_of c.to)) c g b
has_changed change.Position c g b = (refl, refl)
has_changed (change.Duty position) c g b = duty_changed (nat_lt position b.duty) c g b
has_changed change.High c g b = high_changed (high_wait g b (high_of c.to)) c g b
has_changed change.Over c g b = (refl, refl)

low_spends : (wait : Option ℕ) (c : Change) (g : Gated) (b : Bank) → c.at ≡ change.Low
    → Spends 4 (low_step wait c g b).answer (change_left (low_step wait c g b).place.at)
low_spends None c g b e = record { more = λ m. (lit< tt, lit< tt); done = λ d. cc; at_most = lit≤ tt }
low_spends (Some t) c g b e = rw e (record { more = λ m. cc; done = λ d. cc; at_most = lit≤ tt })

high_spends : (wait : Option ℕ) (c : Change) (g : Gated) (b : Bank) → c.at ≡ change.High
    → Spends 1 (high_step wait c g b).answer (change_left (high_step wait c g b).place.at)
high_spends None c g b e = record { more = λ m. cc; done = λ d. refl; at_most = lit≤ tt }
high_spends (Some t) c g b e = rw e (record { more = λ m. cc; done = λ d. cc; at_most = lit≤ tt })

duty_spends : (v : Bool) (c : Change) (g : Gated) → Spends 2 (duty_step v c g).answer (change_left (duty_step v c g).place.at)
duty_spends true c g = record { more = λ m. (lit< tt, lit< tt); done = λ d. cc; at_most = lit≤ tt }
duty_spends false c g = record { more = λ m. cc; done = λ d. refl; at_most = lit≤ tt }

change_spends : (at : ChangeAt) (c : Change) (g : Gated) (b : Bank) → c.at ≡ at
    → Spends (change_left at) (place_step at c g b).answer (change_left (place_step at c g b).place.at)
change_spends change.ClearHigh c g b e = record { more = λ m. (lit< tt, lit< tt); done = λ d. cc; at_most = lit≤ tt }
change_spends change.ClearLow c g b e = record { more = λ m. (lit< tt, lit< tt); done = λ d. cc; at_most = lit≤ tt }
change_spends change.SetSector c g b e = record { more = λ m. (lit< tt, lit< tt); done = λ d. cc; at_most = lit≤ tt }
change_spends change.Low c g b e = low_spends (low_wait g b (low_of c.to)) c g b e
change_spends change.Position c g b e = record { more = λ m. (lit< tt, lit< tt); done = λ d. cc; at_most = lit≤ tt }
change_spends (change.Duty position) c g b e = duty_spends (nat_lt position b.duty) c g
change_spends change.High c g b e = high_spends (high_wait g b (high_of c.to)) c g b e
change_spends change.Over c g b e = record { more = λ m. cc; done = λ d. refl; at_most = lit≤ tt }

pub spends : (c : Change) (g : Gated) (b : Bank) → Spends (change_left c.at) (change_step c g b).answer (change_left (change_step c g b).place.at)
spends c g b = change_spends c.at c g b refl

-- ---- the same of what a call came to

module _ {P : Type 0} (g g' : Gated) (b b' : Bank) (s : Acted P) (answer : Progress) (place : P) (k : Kept g b s) (i : IsActed b s answer place g' b') where
  pub off_times_of : g' ≡ gates_after g b b'
  off_times_of = rw (i.gates_are, i.bank_is) k.off_times

  pub one_access_of : b'.accesses ≤ b.accesses + 1
  one_access_of = rw i.bank_is k.count

  pub no_time_of : b'.time ≡ b.time
  no_time_of = rw i.bank_is k.time

  pub dead_time_of : IsApart b.hi b.lo → KeepsDeadTime b g' b'
  dead_time_of = rw (i.gates_are, i.bank_is) k.dead_time

  pub dead_safe_of : (back : List Note) → IsTied g b.hi b.lo back → IsApart b.hi b.lo → IsSaid back g' b'
  dead_safe_of back t apart = said_after g g' b b' back no_time_of off_times_of t (dead_time_of apart)
