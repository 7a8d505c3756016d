-- Drive follows only frames checked since arming.
use Rattle.std.proofs.Common.{◌≡◌, ◌≤◌, ◌<◌, ℕ, ◌+◌, Bool, true, false, not, ◌&&◌, ◌==◌, nat_le, min, if◌then◌else◌, List, [], ◌∷◌, reverse, Option, Some, None, refl, sym, ◌∙◌, arith}
use Rattle.std.proofs.lemmas.Bool.Decides.{nat_tests}
use Rattle.esc_base.specs.declared.tick.Tick.{Tick}
use Rattle.esc_base.specs.declared.note.Cause.TheVariants as cause
use Rattle.esc_base.specs.declared.note.Note.{Note}
use Rattle.esc_base.specs.declared.note.Note.TheVariants as note
use Rattle.dshot_commands.specs.declared.act.Act.{Act}
use Rattle.dshot_commands.specs.Act.{acting}
use Rattle.arming.specs.declared.decision.Decision.{Decision}
use Rattle.arming.specs.declared.decision.Decision.TheVariants.{Loses, Arms, Drives}
use Rattle.arming.specs.Throttle.{on_of, target}
use Rattle.arming.specs.Decide.{decide, demand_of, has_fuse, is_stuck, is_timed_out, may_arm}
use Rattle.arming.specs.ControlAt.{armed_at, command_run_at, control_at, wanted_at, zeros_at}
use Rattle.arming.specs.Controlled.{outcome_of, outcome_of_act, owed, Armed, ControlledBack, Outcome}
use Rattle.arming.specs.Laws.{DriveFollowsFrames, IsAskedFor}
use Rattle.arming.proofs.TickTies.{decides_arms}
use Rattle.arming.proofs.InOrder.{back_to}

zero_wanted_at : (u z : ℕ) → 0 < (if u == 0 then z + 1 else 0) → (if nat_le 48 u then u else 0) ≡ 0
zero_wanted_at u z lt = grind (arith, nat_tests)

-- where a good frame with value 0 is the newest, nothing is wanted
zeros_wanted : (back : List Note) → 0 < zeros_at back → wanted_at back ≡ 0
zeros_wanted [] z = refl
zeros_wanted (note.Good t u q ∷ back) z = zero_wanted_at u (zeros_at back) z
zeros_wanted (note.Lost t c ∷ back) z = refl
zeros_wanted (n ∷ back) z = zeros_wanted back z

decides_armed : (d : Decision) → outcome_of d ≡ Some Armed → d ≡ Arms
decides_armed (Loses why) e = absurd (let g = e in cc)
decides_armed Arms e = refl
decides_armed (Drives d) e = absurd (let g = e in cc)

act_armed : (o : Option Act) → outcome_of_act o ≡ Some Armed → ⊥
act_armed None e = let g = e in cc
act_armed (Some act) e = let g = e in cc

none_armed : {A : Type 0} → ◌≡◌ {A = Option Outcome} None (Some Armed) → A
none_armed e = absurd (let g = e in cc)

-- an arming is owed only where good frames with value 0 are the newest
armed_zeros : (back : List Note) → owed back ≡ Some Armed → 0 < zeros_at back
armed_zeros [] e = none_armed e
armed_zeros (note.Control t n s d ∷ back) e =
    let z : min 30 (zeros_at back) ≡ 30 = decides_arms (control_at back) n s (decides_armed (decide (control_at back) n s) e) in
    omega arith
armed_zeros (note.Good t v q ∷ back) e = absurd (act_armed (acting (command_run_at v back) v) e)
armed_zeros (n ∷ back) e = none_armed e

asked_at : (v d : ℕ) → 0 < (if nat_le 48 v then v else 0) → d ≤ on_of (if nat_le 48 v then v else 0) → (48 ≤ v) × (d ≤ on_of v)
asked_at v d lt le = let h : 48 ≤ v = grind (arith, nat_tests) in let e : (if nat_le 48 v then v else 0) ≡ v = grind (arith, nat_tests) in (h, (rw e at le))

-- what is wanted while control is armed was asked for since arming
wanted_asked : (back : List Note) (d : ℕ) → ControlledBack back → armed_at back ≡ true → 0 < wanted_at back → d ≤ on_of (wanted_at back) → IsAskedFor d back
wanted_asked [] d legal a w le = absurd (omega arith)
wanted_asked (note.Good t v q ∷ back) d legal a w le = let p = asked_at v d w le in (p.0, (a, p.1))
wanted_asked (note.Lost t c ∷ back) d legal a w le = absurd (omega arith)
wanted_asked (note.Armed t ∷ back) d legal a w le = absurd (let z : wanted_at back ≡ 0 = zeros_wanted back (armed_zeros back (sym legal.0.paid)) in omega arith)
wanted_asked (n ∷ back) d legal a w le = wanted_asked back d legal.1 a w le

drives_at : (a b c d e : Bool) (p : ℕ)
    → 0 < demand_of (if a then Loses cause.Timeout
    else (if b then Loses cause.Stuck else (if c then Loses cause.Fuse else (if d then Arms else (if e then Drives p else Drives 0)))))
    → (e ≡ true) × (demand_of (if a then Loses cause.Timeout
    else (if b then Loses cause.Stuck else (if c then Loses cause.Fuse else (if d then Arms else (if e then Drives p else Drives 0))))) ≡ p)
drives_at true b c d e p h = absurd (omega arith)
drives_at false true c d e p h = absurd (omega arith)
drives_at false false true d e p h = absurd (omega arith)
drives_at false false false true e p h = absurd (omega arith)
drives_at false false false false true p h = (refl, refl)
drives_at false false false false false p h = absurd (omega arith)

some_target : (w d : ℕ) → 0 < min (target w) d → (0 < w) × (min (target w) d ≤ on_of w)
some_target w d lt = let h : 0 < w = grind (arith, nat_tests) in let e : target w ≡ on_of w = grind (arith, nat_tests) in (h, (rw e (omega arith)))

pub drive_follows_back : (back : List Note) (t : Tick) (n s d : ℕ) → ControlledBack (note.Control t n s d ∷ back) → 0 < d → IsAskedFor d back
drive_follows_back back t n s d legal lt =
    let w = control_at back in
    let is : d ≡ demand_of (decide w n s) = legal.0.tick.demand_is in
    let p =
    drives_at (is_timed_out w n) (is_stuck s) (has_fuse s && w.armed) (not w.armed && may_arm w n s)
    w.armed (min (target w.wanted) (w.demand + 20)) (rw (← is) lt) in
    let e : d ≡ min (target w.wanted) (w.demand + 20) = is ∙ p.1 in
    let q = some_target w.wanted (w.demand + 20) (rw (← e) lt) in
    wanted_asked back d legal.1 p.0 q.0 (rw e q.1)

pub drive_follows : DriveFollowsFrames
drive_follows before after t n s d whole lt = drive_follows_back (reverse before) t n s d (back_to before after (note.Control t n s d) whole) lt
