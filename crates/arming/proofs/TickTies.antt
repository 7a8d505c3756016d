-- A control tick keeps the ties.
use Rattle.std.proofs.Common.{◌≡◌, ◌<◌, ℕ, ◌+◌, ◌-◌, ◌/◌, Bool, true, false, not, ◌&&◌, ◌==◌, nat_le, nat_lt, min, if◌then◌else◌, List, [], ◌∷◌, refl, sym, ap, arith}
use Rattle.std.proofs.lemmas.Bool.Decides.{nat_tests}
use Rattle.esc_base.specs.declared.tick.Tick.{Tick}
use Rattle.esc_base.specs.declared.note.Cause.{Cause}
use Rattle.esc_base.specs.declared.note.Cause.TheVariants as cause
use Rattle.esc_base.specs.declared.note.Note.{Note}
use Rattle.esc_base.specs.declared.note.Note.TheVariants as note
use Rattle.esc_base.specs.Times.{control_period}
use Rattle.dshot_commands.specs.Repeats.{is_command}
use Rattle.dshot_commands.proofs.Runs.{either}
use Rattle.arming.specs.declared.decision.Decision.{Decision}
use Rattle.arming.specs.declared.decision.Decision.TheVariants.{Loses, Arms, Drives}
use Rattle.arming.specs.Throttle.{target}
use Rattle.arming.specs.Decide.{answer_of, decide, has_fuse, has_session, is_stuck, is_timed_out, may_arm, View}
use Rattle.arming.specs.Kept.{after_tick, view_of, Kept}
use Rattle.arming.specs.ControlAt.{control_at, marks_at, number_at, repeated_at, still_at, zeros_at}
use Rattle.arming.specs.Stands.{with_tick, Stands, IsKept}

module _ (c : Kept) (back : List Note) (t : Tick) (n s : ℕ) where
  lost_ties : (why : Cause) → number_at back < n → IsKept c back → IsKept (after_tick c n (Loses why)) (with_tick t n s (answer_of (Loses why) c.demand) back)
  lost_ties cause.Timeout lt ties = record {
    mode_is = refl;
    armed_is = refl;
    wanted_is = refl;
    demand_is = refl;
    zero_is = refl;
    number_is = refl;
    newest_is = let a = ties.frame_most in omega arith;
    base_is = refl;
    frame_most = let a = ties.frame_most in omega arith;
    timeout_most = omega arith;
    quiet = λ z. absurd (omega arith);
    runs = λ a. absurd (let b = a in cc);
  }
  lost_ties why lt ties = record {
    mode_is = ties.mode_is;
    armed_is = refl;
    wanted_is = refl;
    demand_is = refl;
    zero_is = refl;
    number_is = refl;
    newest_is = ties.newest_is;
    base_is = refl;
    frame_most = let a = ties.frame_most in omega arith;
    timeout_most = let a = ties.timeout_most in omega arith;
    quiet = λ z. absurd (omega arith);
    runs = λ a. absurd (let b = a in cc);
  }

  drives_ties : (d : ℕ) → number_at back < n → IsKept c back → IsKept (after_tick c n (Drives d)) (with_tick t n s (answer_of (Drives d) c.demand) back)
  drives_ties d lt ties = record {
    mode_is = ties.mode_is;
    armed_is = ties.armed_is;
    wanted_is = ties.wanted_is;
    demand_is = refl;
    zero_is = ties.zero_is;
    number_is = refl;
    newest_is = ties.newest_is;
    base_is = ties.base_is;
    frame_most = let a = ties.frame_most in omega arith;
    timeout_most = let a = ties.timeout_most in omega arith;
    quiet = ties.quiet;
    runs = ties.runs;
  }

zero_run_at : (s : Bool) (u v z k : ℕ) → is_command v ≡ true → 0 < (if u == 0 then z + 1 else 0) → (if s && (u == v) then k + 1 else 0) ≡ 0
zero_run_at true u v z k h lt = grind (arith, nat_tests)
zero_run_at false u v z k h lt = refl

-- where a good frame with value 0 is the newest, no command has a run
zeros_run : (v : ℕ) (back : List Note) → is_command v ≡ true → 0 < zeros_at back → repeated_at v back ≡ 0
zeros_run v [] h z = refl
zeros_run v (note.Good t u q ∷ back) h z = zero_run_at (still_at back) u v (zeros_at back) (repeated_at v back) h z
zeros_run v (note.Lost t x ∷ back) h z = absurd (omega arith)
zeros_run v (n ∷ back) h z = zeros_run v back h z

first_of_six : (a b c d e : Bool) (p : ℕ)
    → (if a then Loses cause.Timeout
    else (if b then Loses cause.Stuck else (if c then Loses cause.Fuse else (if d then Arms else (if e then Drives p else Drives 0))))) ≡ Arms
    → d ≡ true
first_of_six true b c d e p h = absurd (let g = h in cc)
first_of_six false true c d e p h = absurd (let g = h in cc)
first_of_six false false true d e p h = absurd (let g = h in cc)
first_of_six false false false true e p h = refl
first_of_six false false false false true p h = absurd (let g = h in cc)
first_of_six false false false false false p h = absurd (let g = h in cc)

arms_zero : (armed a b d : Bool) (z : ℕ) → (not armed && (((z == 30) && a) && (b && d))) ≡ true → z ≡ 30
arms_zero true a b d z h = absurd (let g = h in cc)
arms_zero false true b d z h = grind (arith, nat_tests)
arms_zero false false b d z h = grind (arith, nat_tests)

pub decides_arms : (w : View) (n s : ℕ) → decide w n s ≡ Arms → w.zero_run ≡ 30
decides_arms w n s e =
    arms_zero w.armed (nat_le 5000 (n - w.base)) (not (has_fuse s)) (not (has_session s)) w.zero_run
    (first_of_six (is_timed_out w n) (is_stuck s) (has_fuse s && w.armed) (not w.armed && may_arm w n s) w.armed (min (target w.wanted) (w.demand + 20)) e)

arms_ties : (c : Kept) (back : List Note) (t : Tick) (n s : ℕ) → decide (view_of c) n s ≡ Arms → number_at back < n → IsKept c back
    → IsKept (after_tick c n Arms) (with_tick t n s (answer_of Arms c.demand) back)
arms_ties c back t n s e lt ties =
    let z : 0 < zeros_at back = let a = decides_arms (view_of c) n s e in let b = ties.zero_is in omega arith in
    record {
      mode_is = ties.mode_is;
      armed_is = refl;
      wanted_is = ties.wanted_is;
      demand_is = refl;
      zero_is = ties.zero_is;
      number_is = refl;
      newest_is = ties.newest_is;
      base_is = ties.base_is;
      frame_most = let a = ties.frame_most in omega arith;
      timeout_most = let a = ties.timeout_most in omega arith;
      quiet = ties.quiet;
      runs = λ a v h. rw (ties.quiet z, zeros_run v back h z) (either (c.run.command == v) 0);
    }

view_is : (c : Kept) (back : List Note) → IsKept c back → view_of c ≡ control_at back
view_is c back ties = rw (ties.armed_is, ties.wanted_is, ties.demand_is, ties.zero_is, ties.newest_is, ties.base_is) refl

bound : (c : Kept) (back : List Note) (n : ℕ) → c.number < n → IsKept c back → number_at back < n
bound c back n lt ties = let e = ties.number_is in omega arith

decided_stands : (d : Decision) (c : Kept) (back : List Note) (t : Tick) (n s : ℕ) → decide (view_of c) n s ≡ d → decide (control_at back) n s ≡ d
    → n ≡ t.0 / control_period → number_at back < n → s ≡ marks_at back → Stands c back
    → Stands (after_tick c n d) (with_tick t n s (answer_of d c.demand) back)
decided_stands (Loses why) c back t n s e f at lt marks stands = record {
  ties = lost_ties c back t n s why lt stands.ties;
  controlled = (
    record { paid = rw f refl; tick = tt; save = tt },
    (
      record { paid = sym stands.none_owed; tick = record { number_is = at; rises = lt; marks_are = marks; demand_is = rw f refl }; save = tt },
      stands.controlled,
    ),
  );
  none_owed = refl;
}
decided_stands Arms c back t n s e f at lt marks stands = record {
  ties = arms_ties c back t n s e lt stands.ties;
  controlled = (
    record { paid = rw f refl; tick = tt; save = tt },
    (
      record { paid = sym stands.none_owed; tick = record { number_is = at; rises = lt; marks_are = marks; demand_is = rw f refl }; save = tt },
      stands.controlled,
    ),
  );
  none_owed = refl;
}
decided_stands (Drives d) c back t n s e f at lt marks stands = record {
  ties = drives_ties c back t n s d lt stands.ties;
  controlled = (
    record { paid = sym stands.none_owed; tick = record { number_is = at; rises = lt; marks_are = marks; demand_is = rw f refl }; save = tt },
    stands.controlled,
  );
  none_owed = rw f refl;
}

-- a control tick stands for its notes
pub tick_stands : (c : Kept) (back : List Note) (t : Tick) (n s : ℕ) → n ≡ t.0 / control_period → c.number < n → s ≡ marks_at back → Stands c back
    → Stands (after_tick c n (decide (view_of c) n s)) (with_tick t n s (answer_of (decide (view_of c) n s) c.demand) back)
tick_stands c back t n s at lt marks stands =
    decided_stands (decide (view_of c) n s) c back t n s refl
    (ap (λ (w : View). decide w n s) (sym (view_is c back stands.ties))) at (bound c back n lt stands.ties) marks stands

-- a tick starts a drive exactly where its demand is above 0 and the one before was 0
pub start_is : (decision : Decision) (before : ℕ) → (answer_of decision before).start ≡ (nat_lt 0 (answer_of decision before).demand && (before == 0))
start_is (Loses cause) before = refl
start_is Arms before = refl
start_is (Drives demand) before = refl
