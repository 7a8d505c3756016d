-- The first control tick past the timeout ends the drive.
use Rattle.std.proofs.Common.{◌≡◌, ◌≢◌, ◌≤◌, ◌<◌, ℕ, ◌+◌, ◌-◌, Bool, true, false, not, ◌&&◌, ◌==◌, nat_le, min, max, if◌then◌else◌, List, [], ◌∷◌, ◌++◌, reverse, Option, Some, None, refl, sym, ◌∙◌, arith, subst, append-nil, append_assoc}
use Rattle.std.proofs.lemmas.Bool.Decides.{nat_tests}
use Rattle.esc_base.specs.declared.tick.Tick.{Tick}
use Rattle.esc_base.specs.declared.note.Cause.TheVariants as cause
use Rattle.esc_base.specs.declared.note.Note.{Note}
use Rattle.esc_base.specs.declared.note.Note.TheVariants as note
use Rattle.esc_base.specs.Journal.{Each}
use Rattle.arming.specs.declared.decision.Decision.TheVariants.{Loses, Arms, Drives}
use Rattle.arming.specs.Throttle.{target}
use Rattle.arming.specs.Decide.{decide, has_fuse, is_stuck, is_timed_out, may_arm}
use Rattle.arming.specs.ControlAt.{control_at, newest_at, number_at, number_at_frame, number_at_timeout}
use Rattle.arming.specs.Controlled.{outcome_of, owed, says, FitsControl, Lost, Outcome}
use Rattle.arming.specs.Laws.{IsFollowedByTimeout, IsSilentBelow, IsTimeout, SilenceEndsDrive}
use Rattle.arming.proofs.InOrder.{back_to, each_front, each_rest, reverse-push, Fit}

-- the rules before the timeout count on from this number, and none is owed
record Counts (limit : ℕ) (back : List Note) : Type 0 where
  limit_is : newest_at back + 10000 ≡ limit
  none_owed : owed back ≢ Some (Lost 0)

none_lost : {A : Type 0} → ◌≡◌ {A = Option Outcome} None (Some (Lost 0)) → A
none_lost e = absurd (let g = e in cc)

-- no other case is a timeout
no_timeout : (b c d e : Bool) (p : ℕ)
    → outcome_of (if b then Loses cause.Stuck else (if c then Loses cause.Fuse else (if d then Arms else (if e then Drives p else Drives 0)))) ≡ Some (Lost 0)
    → ⊥
no_timeout true c d e p h = let g = h in cc
no_timeout false true d e p h = let g = h in cc
no_timeout false false true e p h = let g = h in cc
no_timeout false false false true p h = let g = h in cc
no_timeout false false false false p h = let g = h in cc

in_time_at : (a b c d e : Bool) (p : ℕ) → a ≡ false
    → outcome_of (if a then Loses cause.Timeout
    else (if b then Loses cause.Stuck else (if c then Loses cause.Fuse else (if d then Arms else (if e then Drives p else Drives 0))))) ≡ Some (Lost 0)
    → ⊥
in_time_at true b c d e p f h = let g = f in cc
in_time_at false b c d e p f h = no_timeout b c d e p h

early : (n newest limit : ℕ) → newest + 10000 ≡ limit → n < limit → nat_le 10000 (n - newest) ≡ false
early n newest limit e lt = grind (arith, nat_tests)

in_time : (back : List Note) (n s limit : ℕ) → newest_at back + 10000 ≡ limit → n < limit → outcome_of (decide (control_at back) n s) ≡ Some (Lost 0) → ⊥
in_time back n s limit e lt h =
    let w = control_at back in
    in_time_at (is_timed_out w n) (is_stuck s) (has_fuse s && w.armed) (not w.armed && may_arm w n s)
    w.armed (min (target w.wanted) (w.demand + 20)) (early n (newest_at back) limit e lt) h

lost_at : (b : Bool) (c number frame timeout limit : ℕ) → (c == 0) ≡ b → (c ≡ 0 → ⊥) → max frame timeout + 10000 ≡ limit
    → max frame (if b then number else timeout) + 10000 ≡ limit
lost_at true c number frame timeout limit e ne l = absurd (ne (grind (arith, nat_tests)))
lost_at false c number frame timeout limit e ne l = l

lost_step : (c limit : ℕ) (t : Tick) (back : List Note) → Counts limit back → says (note.Lost t c) ≡ owed back
    → newest_at (note.Lost t c ∷ back) + 10000 ≡ limit
lost_step c limit t back counts paid =
    let ne : c ≡ 0 → ⊥ = λ z. counts.none_owed (sym paid ∙ rw z refl) in
    lost_at (c == 0) c (number_at back) (number_at_frame back) (number_at_timeout back) limit refl ne counts.limit_is

-- a note of the silence changes nothing of this
silent_step : (n : Note) (limit : ℕ) (back : List Note) → Counts limit back → IsSilentBelow limit (n ∷ []) → FitsControl back n → Counts limit (n ∷ back)
silent_step (note.Good t v q) limit back counts silent fits = absurd silent
silent_step (note.Control t n s d) limit back counts silent fits = record {
  limit_is = counts.limit_is;
  none_owed = λ h. in_time back n s limit counts.limit_is silent.0 h;
}
silent_step (note.Lost t c) limit back counts silent fits = record { limit_is = lost_step c limit t back counts fits.paid; none_owed = λ h. none_lost h }
silent_step n limit back counts silent fits = record { limit_is = counts.limit_is; none_owed = λ h. none_lost h }

silent_first : (n : Note) (limit : ℕ) (notes : List Note) → IsSilentBelow limit (n ∷ notes) → IsSilentBelow limit (n ∷ []) × IsSilentBelow limit notes
silent_first (note.Good t v q) limit notes silent = absurd silent
silent_first (note.Control t n s d) limit notes silent = ((silent.0, tt), silent.1)
silent_first n limit notes silent = (tt, silent)

silence_keeps : (before silence : List Note) (limit : ℕ) → Counts limit (reverse before) → IsSilentBelow limit silence → Each Fit before silence
    → Counts limit (reverse (before ++ silence))
silence_keeps before [] limit counts silent each = rw (append-nil before) counts
silence_keeps before (n ∷ silence) limit counts silent each =
    let parts = silent_first n limit silence silent in
    let next : Counts limit (reverse (before ++ n ∷ [])) = rw (reverse-push before n) (silent_step n limit (reverse before) counts parts.0 each.0) in
    rw (← append_assoc before (n ∷ []) silence) (silence_keeps (before ++ n ∷ []) silence limit next parts.1 each.1)

late : (n newest limit : ℕ) → newest + 10000 ≡ limit → limit ≤ n → nat_le 10000 (n - newest) ≡ true
late n newest limit e le = grind (arith, nat_tests)

timed_out : (a b c d e : Bool) (p : ℕ) → a ≡ true
    → (if a then Loses cause.Timeout
    else (if b then Loses cause.Stuck else (if c then Loses cause.Fuse else (if d then Arms else (if e then Drives p else Drives 0)))))
    ≡ Loses cause.Timeout
timed_out true b c d e p f = refl
timed_out false b c d e p f = absurd (let g = f in cc)

times_out : (back : List Note) (n s limit : ℕ) → Counts limit back → limit ≤ n → decide (control_at back) n s ≡ Loses cause.Timeout
times_out back n s limit counts le =
    let w = control_at back in
    timed_out (is_timed_out w n) (is_stuck s) (has_fuse s && w.armed) (not w.armed && may_arm w n s)
    w.armed (min (target w.wanted) (w.demand + 20)) (late n (newest_at back) limit counts.limit_is le)

says_lost : (n : Note) → says n ≡ Some (Lost 0) → IsTimeout n
says_lost (note.Lost t c) e = let g = e in cc
says_lost (note.Armed t) e = absurd (let g = e in cc)
says_lost (note.Command t c) e = absurd (let g = e in cc)
says_lost n e = none_lost e

followed : (before after : List Note) (t : Tick) (n s d : ℕ) → decide (control_at (reverse before)) n s ≡ Loses cause.Timeout
    → Each Fit (before ++ note.Control t n s d ∷ []) after → IsFollowedByTimeout after
followed before [] t n s d e each = tt
followed before (m ∷ after) t n s d e each =
    let fits : FitsControl (note.Control t n s d ∷ reverse before) m =
    subst (λ (back : List Note). FitsControl back m) (reverse-push before (note.Control t n s d)) each.0 in
    says_lost m (fits.paid ∙ rw e refl)

pub silence_ends : SilenceEndsDrive
silence_ends before silence after t n s d free silent late whole =
    let limit = newest_at (reverse before) + 10000 in
    let k = note.Control t n s d in
    let each : Each Fit [] (before ++ silence) = each_front Fit [] (before ++ silence) (k ∷ after) whole in
    let counts : Counts limit (reverse (before ++ silence)) =
    silence_keeps before silence limit (record { limit_is = refl; none_owed = free }) silent (each_rest Fit [] before silence each) in
    let out = times_out (reverse (before ++ silence)) n s limit counts late in
    let legal = back_to (before ++ silence) after k whole in (
      legal.0.tick.demand_is ∙ rw out refl,
      followed (before ++ silence) after t n s d out
          (each_rest Fit [] ((before ++ silence) ++ k ∷ []) after (rw (append_assoc (before ++ silence) (k ∷ []) after) whole)),
    )
