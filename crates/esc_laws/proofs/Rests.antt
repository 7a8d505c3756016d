-- The first rested tick, and the window timer that waits for it.
use Rattle.std.proofs.Common.{◌≡◌, ◌≤◌, ◌<◌, ◌+◌, ℕ, Bool, true, false, ◌&&◌, nat_le, nat_lt, max, if◌then◌else◌, List, [], ◌∷◌, ◌++◌, Option, Some, refl, ◌∙◌, ap, arith, All, slice_index_or, ◌⊎◌, inl, inr}
use Rattle.std.specs.List.{fold}
use Rattle.std.proofs.lemmas.Bool.{leb-true, leb-false, cases_lt}
use Rattle.std.proofs.lemmas.Bool.Decides.{nat_tests}
use Rattle.std.proofs.lemmas.List.Sums.{fold_push}
use Rattle.std.proofs.lemmas.List.Elements.{All-nil, All-cons, All-head, All-tail, All-push}
use Rattle.esc_base.specs.declared.signal.Edge.{Edge}
use Rattle.esc_base.specs.Times.{rest}
use Rattle.timer_regs.specs.Rest.{put_off}
use Rattle.edge_capture.specs.Edges.{Rising}
use Rattle.esc_laws.specs.Rested.{IsRested, FirstRestedTick, past_change, first_rested}
use Rattle.esc_laws.specs.RestFrom.{IsSet, IsRestFrom}

-- ---- one change

-- over numbers: a change at c
abbrev past : ℕ → ℕ → ℕ
past c t = if nat_lt c t && nat_lt t (c + 200) then c + 200 else t

past_more : (c t : ℕ) → t ≤ past c t
past_more c t = grind (arith, nat_tests)

past_by : (c t u : ℕ) → (u ≤ c) ⊎ (c + 200 ≤ u) → t ≤ u → past c t ≤ u
past_by c t u (inl h) le = grind (arith, nat_tests)
past_by c t u (inr h) le = grind (arith, nat_tests)

past_over : (c t : ℕ) → c < t → c + 200 ≤ past c t
past_over c t lt = grind (arith, nat_tests)

past_early : (c t : ℕ) → t ≤ c → past c t ≡ t
past_early c t le = grind (arith, nat_tests)

past_max : (c t at : ℕ) → c < at → at ≤ t → max at (c + 200) ≤ past c t
past_max c t at lt le = grind (arith, nat_tests)

-- ---- the first rested tick

pub rested-push : (edges : List Edge) (x : Edge) (t : ℕ) → first_rested (edges ++ x ∷ []) t ≡ past_change (first_rested edges t) x
unfolding first_rested
rested-push edges x t = fold_push past_change t edges x

-- it isn't earlier
rested_more : (edges : List Edge) (t : ℕ) → t ≤ fold past_change t edges
rested_more [] t = omega arith
rested_more (e ∷ edges) t = let a = past_more e.t.0 t in let b = rested_more edges (past e.t.0 t) in omega arith

pub first_more : (edges : List Edge) (t : ℕ) → t ≤ first_rested edges t
unfolding first_rested
first_more edges t = rested_more edges t

-- and no later than any rested tick
rested_by : (edges : List Edge) (t u : ℕ) → IsRested edges u → t ≤ u → fold past_change t edges ≤ u
rested_by [] t u r le = le
rested_by (e ∷ edges) t u r le =
    rested_by edges (past e.t.0 t) u (All-tail (λ x. (u ≤ x.t.0) ⊎ (x.t.0 + rest ≤ u)) e edges r)
    (past_by e.t.0 t u (All-head (λ x. (u ≤ x.t.0) ⊎ (x.t.0 + rest ≤ u)) e edges r) le)

pub first_by : (edges : List Edge) (t u : ℕ) → IsRested edges u → t ≤ u → first_rested edges t ≤ u
unfolding first_rested
first_by edges t u r le = rested_by edges t u r le

-- a change at or after it leaves it
pub first_stays : (edges : List Edge) (x : Edge) (t : ℕ) → first_rested edges t ≤ x.t.0 → first_rested (edges ++ x ∷ []) t ≡ first_rested edges t
first_stays edges x t le = rested-push edges x t ∙ past_early x.t.0 (first_rested edges t) le

-- and one after u leaves whether it is reached by u
reached_past : (c f u : ℕ) → u < c → nat_le (past c f) u ≡ nat_le f u
reached_past c f u lt = grind (arith, nat_tests)

pub first_before : (edges : List Edge) (x : Edge) (t u : ℕ) → u < x.t.0 → nat_le (first_rested (edges ++ x ∷ []) t) u ≡ nat_le (first_rested edges t) u
first_before edges x t u lt = ap (λ (n : ℕ). nat_le n u) (rested-push edges x t) ∙ reached_past x.t.0 (first_rested edges t) u lt

-- from a tick after all changes on it has rested from each
all_over : (edges : List Edge) (t : ℕ) → All (λ e. e.t.0 < t) edges → All (λ e. e.t.0 + rest ≤ fold past_change t edges) edges
all_over [] t a = All-nil (λ e. e.t.0 + rest ≤ t)
all_over (e ∷ edges) t a =
    let on : ℕ = past e.t.0 t in
    let more : t ≤ on = past_more e.t.0 t in
    All-cons (λ x. x.t.0 + rest ≤ fold past_change on edges) e edges
    (let o = past_over e.t.0 t (All-head (λ x. x.t.0 < t) e edges a) in let m = rested_more edges on in omega arith)
    (all_over edges on (λ i d l. (let b : (slice_index_or edges i d).t.0 < t = All-tail (λ x. x.t.0 < t) e edges a i d l in omega arith)))

pub first_over : (edges : List Edge) (t : ℕ) → All (λ e. e.t.0 < t) edges → All (λ e. e.t.0 + rest ≤ first_rested edges t) edges
unfolding first_rested
first_over edges t a = all_over edges t a

-- for changes in the order of their ticks it is rested
rested_stays : (edges : List Edge) (s t : ℕ) → Rising s edges → t ≤ s → fold past_change t edges ≡ t
rested_stays [] s t r le = refl
rested_stays (e ∷ edges) s t r le = let from : s ≤ e.t.0 = r.0 in rw (past_early e.t.0 t (omega arith)) (rested_stays edges e.t.0 t r.1 (omega arith))

rested_all : (edges : List Edge) (s t : ℕ) → Rising s edges → IsRested edges (fold past_change t edges)
rested_all [] s t r = All-nil (λ x. (t ≤ x.t.0) ⊎ (x.t.0 + rest ≤ t))
rested_all (e ∷ edges) s t r =
    let on : ℕ = past e.t.0 t in
    let u : ℕ = fold past_change on edges in
    All-cons (λ x. (u ≤ x.t.0) ⊎ (x.t.0 + rest ≤ u)) e edges
    (elim (cases_lt e.t.0 t) [
      | inl lt ↦ inr (let o = past_over e.t.0 t lt in let m = rested_more edges on in omega arith)
      | inr le ↦ inl (let same : on ≡ t = past_early e.t.0 t (omega arith) in let st = rested_stays edges e.t.0 on r.1 (omega arith) in omega arith)
    ])
    (rested_all edges e.t.0 on r.1)

first_is : (edges : List Edge) (t : ℕ) → Rising 0 edges → IsRested edges (first_rested edges t)
unfolding first_rested
first_is edges t r = rested_all edges 0 t r

pub first_rested_tick : FirstRestedTick
first_rested_tick edges t r = (first_more edges t, first_is edges t r, λ u rested le. first_by edges t u rested le)

-- ---- the timer

-- it is set for the tick that is asked for, or for the end of the line's rest
pub set_now : (edges : List Edge) (from w rests : ℕ) → All (λ e. e.t.0 ≤ w) edges → IsRestFrom edges rests
    → IsSet edges from (w + 1) (Some (max from rests))
set_now edges from w rests until r = record {
  at = max from rests;
  armed = refl;
  late = omega arith;
  rested = λ i d l. inr (let o : (slice_index_or edges i d).t.0 + rest ≤ rests = r.over i d l in omega arith);
  soon = λ t le on. (
      let over = first_over edges t (λ i d l. (let u : (slice_index_or edges i d).t.0 ≤ w = until i d l in omega arith)) in
      let by = r.first (first_rested edges t) over in
      let more = first_more edges t in
      omega arith);
}

-- it stays set from a later tick on
pub set_later : (edges : List Edge) (from since r : ℕ) (timer : Option ℕ) → since ≤ r → IsSet edges from since timer → IsSet edges from r timer
set_later edges from since r timer le i = record { at = i.at; armed = i.armed; late = i.late; rested = i.rested; soon = λ t a b. i.soon t a (omega arith) }

-- a change at now puts it off, or comes too late
pub set_grows : (edges : List Edge) (x : Edge) (from since : ℕ) (timer : Option ℕ) → All (λ e. e.t.0 ≤ x.t.0) edges → IsSet edges from since timer
    → IsSet (edges ++ x ∷ []) from since (put_off timer x.t.0)
set_grows edges x from since timer until i = rw i.armed (by_reached (nat_le i.at x.t.0) refl)
  where
    by_reached : (v : Bool) → nat_le i.at x.t.0 ≡ v → IsSet (edges ++ x ∷ []) from since (if v then Some i.at else Some (max i.at (x.t.0 + rest)))
    by_reached true v = record {
      at = i.at;
      armed = refl;
      late = i.late;
      rested = All-push (λ e. (i.at ≤ e.t.0) ⊎ (e.t.0 + rest ≤ i.at)) edges x i.rested (inl (leb-true i.at x.t.0 v));
      soon = λ t a b. rw (rested-push edges x t) (let s = i.soon t a b in let m = past_more x.t.0 (first_rested edges t) in omega arith);
    }
    by_reached false v =
        let early : x.t.0 < i.at = leb-false i.at x.t.0 v in
        let at : ℕ = max i.at (x.t.0 + rest) in
        record {
          at = at;
          armed = refl;
          late = (let l = i.late in omega arith);
          rested =
              All-push (λ e. (at ≤ e.t.0) ⊎ (e.t.0 + rest ≤ at)) edges x (λ j d l. later (slice_index_or edges j d) (until j d l) (i.rested j d l))
              (inr (omega arith));
          soon = λ t a b. rw (rested-push edges x t) (past_max x.t.0 (first_rested edges t) i.at early (i.soon t a b));
        }
      where
        later : (e : Edge) → e.t.0 ≤ x.t.0 → (i.at ≤ e.t.0) ⊎ (e.t.0 + rest ≤ i.at)
            → (max i.at (x.t.0 + rest) ≤ e.t.0) ⊎ (e.t.0 + rest ≤ max i.at (x.t.0 + rest))
        later e le (inl h) = absurd (let k = leb-false i.at x.t.0 v in omega arith)
        later e le (inr h) = inr (omega arith)

-- the line's rest after a change at now
pub rest_now : (edges : List Edge) (x : Edge) → All (λ e. e.t.0 ≤ x.t.0) edges → IsRestFrom (edges ++ x ∷ []) (x.t.0 + rest)
rest_now edges x until = record {
  over =
      All-push (λ e. e.t.0 + rest ≤ x.t.0 + rest) edges x (λ i d l. (let u : (slice_index_or edges i d).t.0 ≤ x.t.0 = until i d l in omega arith))
      (omega arith);
  first = λ t a. last_over edges x t a;
}
  where
    last_over : (edges : List Edge) (x : Edge) (t : ℕ) → All (λ e. e.t.0 + rest ≤ t) (edges ++ x ∷ []) → x.t.0 + rest ≤ t
    last_over [] x t a = All-head (λ e. e.t.0 + rest ≤ t) x [] a
    last_over (e ∷ edges) x t a = last_over edges x t (All-tail (λ y. y.t.0 + rest ≤ t) e (edges ++ x ∷ []) a)
