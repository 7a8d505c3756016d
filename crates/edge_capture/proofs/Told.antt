-- What a window keeps edge by edge is its burst, where the edges' ticks don't fall.
use Rattle.std.proofs.Common.{◌≡◌, ◌<◌, ℕ, Bool, true, false, not, ◌&&◌, ◌||◌, nat_lt, nat_le, if◌then◌else◌, List, [], ◌∷◌, ◌++◌, refl, sym, ap, subst, ◌∙◌, arith}
use Rattle.std.specs.List.{fold}
use Rattle.std.proofs.lemmas.List.Sums.{fold_push}
use Rattle.std.proofs.lemmas.Bool.Decides.{nat_tests}
use Rattle.esc_base.specs.declared.signal.Edge.{Edge}
use Rattle.esc_base.specs.declared.signal.Mode.{Mode}
use Rattle.edge_capture.specs.Burst.{is_closed, comes_early, hears, is_left_out, until_deaf, burst}
use Rattle.edge_capture.specs.Edges.{Rising}
use Rattle.edge_capture.specs.Window.{Window, IsHanded, window_hears}
use Rattle.edge_capture.proofs.Stable.{hear, deaf, closed_later, both, not_both}

-- a window that is closed at t hears none of the edges from t on
deaf_stays : (m : Mode) (w : ℕ) (heard edges : List Edge) (t : ℕ) → is_closed m heard t ≡ true → Rising t edges → fold (hear m w) heard edges ≡ heard
deaf_stays m w heard [] t c r = refl
deaf_stays m w heard (e ∷ edges) t c r =
    let c' : is_closed m heard e.t.0 ≡ true = closed_later m heard t e.t.0 r.0 c in
    rw (deaf m w heard e c') (deaf_stays m w heard edges e.t.0 c' r.1)

-- an edge that is neither heard nor passed over finds the window closed
turns_deaf : (w t : ℕ) (c early : Bool) → (nat_lt w t && not c && not early) ≡ false → (nat_le t w || early) ≡ false → c ≡ true
turns_deaf w t true early h f = refl
turns_deaf w t false true h f = absurd (or_true (nat_le t w) f) where
  or_true : (b : Bool) → (b || true) ≡ false → ⊥
  or_true true e = cc
  or_true false e = cc
turns_deaf w t false false h f = absurd (let x : w < t = grind (arith, nat_tests) in grind (arith, nat_tests))

told_at : (x y : Bool) (m : Mode) (w : ℕ) (heard : List Edge) (e : Edge) (edges : List Edge) → hears m w heard e ≡ x → is_left_out m w heard e ≡ y
    → Rising e.t.0 edges
    → ((h : List Edge) → fold (hear m w) h edges ≡ until_deaf m w h edges)
    → fold (hear m w) (if x then heard ++ e ∷ [] else heard) edges
    ≡ (if x then until_deaf m w (heard ++ e ∷ []) edges else (if y then until_deaf m w heard edges else heard))
told_at true y m w heard e edges hx hy r ih = ih (heard ++ e ∷ [])
told_at false true m w heard e edges hx hy r ih = ih heard
told_at false false m w heard e edges hx hy r ih =
    deaf_stays m w heard edges e.t.0 (turns_deaf w e.t.0 (is_closed m heard e.t.0) (comes_early m heard e) hx hy) r

told_from : (m : Mode) (w t : ℕ) (edges : List Edge) → Rising t edges → (heard : List Edge) → fold (hear m w) heard edges ≡ until_deaf m w heard edges
told_from m w t [] r heard = refl
told_from m w t (e ∷ edges) r heard = told_at (hears m w heard e) (is_left_out m w heard e) m w heard e edges refl refl r.1 (told_from m w e.t.0 edges r.1)

caught_told : (edges : List Edge) (w : ℕ) (m : Mode) → Rising 0 edges → fold (hear m w) [] edges ≡ burst edges w m
unfolding burst
caught_told edges w m r = told_from m w 0 edges r []

rising_front : (t : ℕ) (edges : List Edge) (e : Edge) → Rising t (edges ++ e ∷ []) → Rising t edges
rising_front t [] e r = tt
rising_front t (x ∷ edges) e r = (r.0, rising_front x.t.0 edges e r.1)

-- one edge more
pub burst-push : (edges : List Edge) (e : Edge) (w : ℕ) (m : Mode) → Rising 0 (edges ++ e ∷ []) → burst (edges ++ e ∷ []) w m ≡ hear m w (burst edges w m) e
burst-push edges e w m r =
    sym (caught_told (edges ++ e ∷ []) w m r) ∙ fold_push (hear m w) [] edges e
    ∙ ap (λ (heard : List Edge). hear m w heard e) (caught_told edges w m (rising_front 0 edges e r))

-- ---- what a window holds of the edges handed in

pub handed_heard : (w : Window) (handed : List Edge) (e : Edge) → Rising 0 (handed ++ e ∷ []) → IsHanded w handed → window_hears w e ≡ true
    → IsHanded (record w { edges = w.edges ++ e ∷ [] }) (handed ++ e ∷ [])
handed_heard w handed e r h t = record {
  armed = h.armed;
  burst_is =
      let y : hears w.mode w.opened (burst handed w.opened w.mode) e ≡ true =
      subst (λ (x : List Edge). hears w.mode w.opened x e ≡ true) h.burst_is (both w.armed _ t) in
      rw (burst-push handed e w.opened w.mode r, y, ← h.burst_is) refl;
}

pub handed_deaf : (w : Window) (handed : List Edge) (e : Edge) → Rising 0 (handed ++ e ∷ []) → IsHanded w handed → window_hears w e ≡ false
    → IsHanded w (handed ++ e ∷ [])
handed_deaf w handed e r h f = record {
  armed = h.armed;
  burst_is =
      let n : hears w.mode w.opened (burst handed w.opened w.mode) e ≡ false =
      subst (λ (x : List Edge). hears w.mode w.opened x e ≡ false) h.burst_is (not_both w.armed _ h.armed f) in
      rw (burst-push handed e w.opened w.mode r, n) h.burst_is;
}
