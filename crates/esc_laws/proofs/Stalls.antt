-- Stalls put ticks off: where to, and which ticks are free, in a trace and in one that is an event longer.
use Rattle.std.proofs.Common.{◌≡◌, ◌≢◌, ◌≤◌, ◌<◌, ◌+◌, ℕ, zero, suc, List, [], ◌∷◌, ◌++◌, ◌⊎◌, inl, inr, refl, sym, ◌∙◌, ap, arith, All}
use Rattle.std.specs.List.{fold}
use Rattle.std.proofs.lemmas.Bool.Decides.{nat_tests}
use Rattle.std.proofs.lemmas.List.Elements.{All-head, All-tail}
use Rattle.esc_base.specs.declared.event.Event.{Event}
use Rattle.esc_base.specs.declared.event.Event.TheVariants as event
use Rattle.esc_base.specs.Trace.{tick_of}
use Rattle.esc_laws.specs.Steps.{stall_end, Turned, past_stall, free, next_step, after, uses}
use Rattle.esc_laws.proofs.Pushes.{free-push, uses-more}

-- ---- one event

past_tells : (t : ℕ) (e : Event)
    → (past_stall t e ≡ t) × ((t < tick_of e) ⊎ (stall_end e ≤ t)) ⊎ (past_stall t e ≡ stall_end e) × (tick_of e ≤ t) × (t < stall_end e)
past_tells t (event.Stall at n) = grind (arith, nat_tests)
past_tells t (event.Edge at level) = inl (refl, inr (omega arith))
past_tells t (event.Comp at level) = inl (refl, inr (omega arith))
past_tells t (event.Serial at byte) = inl (refl, inr (omega arith))

pub past_later : (e : Event) (t : ℕ) → t ≤ past_stall t e
past_later e t = grind (arith, past_tells)

pub past_more : (e : Event) (t u : ℕ) → t ≤ u → past_stall t e ≤ past_stall u e
past_more e t u le = grind (arith, past_tells)

pub past_ends : (e : Event) (t : ℕ) → tick_of e ≤ t → stall_end e ≤ past_stall t e
past_ends e t le = grind (arith, past_tells)

past_before : (e : Event) (t : ℕ) → t < tick_of e → past_stall t e ≡ t
past_before e t l = grind (arith, past_tells)

past_over : (e : Event) (t : ℕ) → stall_end e ≤ t → past_stall t e ≡ t
past_over e t le = grind (arith, past_tells)

past_within : (e : Event) (t u : ℕ) → t ≤ u → u < past_stall t e → past_stall u e ≢ u
past_within e t u le l same = grind (arith, past_tells)

-- ---- a trace

later_from : (trace : List Event) (t : ℕ) → t ≤ fold past_stall t trace
later_from [] t = omega arith
later_from (e ∷ trace) t = let a = past_later e t in let b = later_from trace (past_stall t e) in omega arith

pub free_later : (trace : List Event) (t : ℕ) → t ≤ free trace t
unfolding free
free_later trace t = later_from trace t

ended_from : (trace : List Event) (t u : ℕ) → All (λ e. stall_end e ≤ t) trace → t ≤ u → fold past_stall u trace ≡ u
ended_from [] t u ends le = refl
ended_from (e ∷ trace) t u ends le =
    let over = All-head (λ x. stall_end x ≤ t) e trace ends in
    ap (λ (x : ℕ). fold past_stall x trace) (past_over e u (omega arith)) ∙ ended_from trace t u (All-tail (λ x. stall_end x ≤ t) e trace ends) le

-- once all stalls are over each tick is free
pub free_ended : (trace : List Event) (t u : ℕ) → All (λ e. stall_end e ≤ t) trace → t ≤ u → free trace u ≡ u
unfolding free
free_ended trace t u ends le = ended_from trace t u ends le

-- ---- an event more

after_from : (cost : ℕ) (trace : List Event) (e : Event) (i : ℕ) (log : List Turned)
    → fold (λ n x. next_step cost (trace ++ e ∷ []) x.tick) (past_stall i e) log ≡ past_stall (fold (λ n x. next_step cost trace x.tick) i log) e
after_from cost trace e i [] = refl
after_from cost trace e i (x ∷ log) =
    ap (λ (n : ℕ). fold (λ m y. next_step cost (trace ++ e ∷ []) y.tick) n log) (free-push trace e (x.tick + cost))
    ∙ after_from cost trace e (next_step cost trace x.tick) log

pub after_grows : (cost : ℕ) (trace : List Event) (e : Event) (log : List Turned) → after cost (trace ++ e ∷ []) log ≡ past_stall (after cost trace log) e
unfolding after
after_grows cost trace e log =
    ap (λ (n : ℕ). fold (λ m x. next_step cost (trace ++ e ∷ []) x.tick) n log) (free-push trace e 0) ∙ after_from cost trace e (free trace 0) log

-- ticks before the event stay what they were
pub free_before : (trace : List Event) (e : Event) (t : ℕ) → free trace t < tick_of e → free (trace ++ e ∷ []) t ≡ free trace t
free_before trace e t l = free-push trace e t ∙ past_before e (free trace t) l

pub after_before : (cost : ℕ) (trace : List Event) (e : Event) (log : List Turned) → after cost trace log < tick_of e
    → after cost (trace ++ e ∷ []) log ≡ after cost trace log
after_before cost trace e log l = after_grows cost trace e log ∙ past_before e (after cost trace log) l

pub uses_before : (cost : ℕ) (trace : List Event) (e : Event) (m t : ℕ) → uses cost trace m t < tick_of e
    → uses cost (trace ++ e ∷ []) m t ≡ uses cost trace m t
uses_before cost trace e zero t l = refl
uses_before cost trace e (suc m) t l =
    let later = free_later trace (uses cost trace m t + cost) in
    ap (λ (x : ℕ). next_step cost (trace ++ e ∷ []) x) (uses_before cost trace e m t (omega arith)) ∙ free_before trace e (uses cost trace m t + cost) l

pub reached_grows : (cost : ℕ) (trace : List Event) (e : Event) (log : List Turned) (m t : ℕ) → after cost trace log ≡ uses cost trace (m + 1) t
    → uses cost trace m t < tick_of e
    → after cost (trace ++ e ∷ []) log ≡ uses cost (trace ++ e ∷ []) (m + 1) t
reached_grows cost trace e log m t h below =
    after_grows cost trace e log
    ∙ ap (λ (x : ℕ). past_stall x e) (h ∙ uses-more cost trace m t)
    ∙ sym (free-push trace e (uses cost trace m t + cost))
    ∙ ap (λ (x : ℕ). next_step cost (trace ++ e ∷ []) x) (sym (uses_before cost trace e m t below))
    ∙ sym (uses-more cost (trace ++ e ∷ []) m t)

-- a tick that is free in the longer trace was free before
pub free_less : (trace : List Event) (e : Event) (t : ℕ) → free (trace ++ e ∷ []) t ≡ t → free trace t ≡ t
free_less trace e t f =
    let push = free-push trace e t in let a = free_later trace t in let b = past_later e (free trace t) in
    omega arith

-- and none is from one that the event puts off up to where it is put off to
pub none_free : (trace : List Event) (e : Event) (t u : ℕ) → t ≤ u → u < past_stall t e → free (trace ++ e ∷ []) u ≢ u
none_free trace e t u le l f = past_within e t u le l (sym (free-push trace e u ∙ ap (λ (x : ℕ). past_stall x e) (free_less trace e u f)) ∙ f)
