-- What edges change of a burst: one that is heard is added, and after the close none is.
use Rattle.std.proofs.Common.{◌≡◌, ◌≤◌, ◌+◌, ℕ, Bool, true, false, not, ◌&&◌, ◌==◌, nat_lt, nat_le, if◌then◌else◌, List, [], ◌∷◌, ◌++◌, length, Some, None, refl, sym, ◌∙◌, ◌⊎◌, inl, inr, ◌||◌, true≢false, subst, arith}
use Rattle.std.specs.List.{All}
use Rattle.std.proofs.lemmas.List.Elements.{All-head, All-tail}
use Rattle.std.proofs.lemmas.Bool.Decides.{nat_tests}
use Rattle.esc_base.specs.declared.signal.Edge.{Edge}
use Rattle.esc_base.specs.declared.signal.Mode.{Mode}
use Rattle.edge_capture.specs.Edges.{last_at}
use Rattle.edge_capture.specs.Burst.{wait, is_closed, comes_early, hears, is_left_out, until_deaf, burst, close_of, close}
use Rattle.edge_capture.specs.Window.{Window, IsHanded, window_closed}

-- an edge is kept where it is heard
abbrev pub hear : Mode → ℕ → List Edge → Edge → List Edge
hear m w heard e = if hears m w heard e then heard ++ e ∷ [] else heard

pub burst-nil : (w : ℕ) (m : Mode) → burst [] w m ≡ []
unfolding burst
burst-nil w m = refl

-- ---- an edge at or after the close isn't heard

-- over numbers: n heard, and closed from l on
closed_from : (t n l c : ℕ) → (if n == 0 then None else Some l) ≡ Some c → c ≤ t → (not (n == 0) && nat_le l t) ≡ true
closed_from t n l c e le = grind (arith, nat_tests)

shut_out : (a b v : Bool) → v ≡ true → (a && not v && b) ≡ false
shut_out true b true e = refl
shut_out false b true e = refl
shut_out a b false e = cc

pub closed_at : (m : Mode) (heard : List Edge) (c t : ℕ) → close_of m heard ≡ Some c → c ≤ t → is_closed m heard t ≡ true
closed_at m heard c t h le = closed_from t (length heard) (last_at heard + wait m heard) c h le

pub deaf : (m : Mode) (w : ℕ) (heard : List Edge) (e : Edge) → is_closed m heard e.t.0 ≡ true → hears m w heard e ≡ false
deaf m w heard e h = shut_out (nat_lt w e.t.0) (not (comes_early m heard e)) (is_closed m heard e.t.0) h

-- One edge more changes nothing, or it is heard by the window that has heard the edges before it.
abbrev pub ListensOrNot : Mode → ℕ → List Edge → List Edge → Edge → Type 0
ListensOrNot m w before after e = (after ≡ before) ⊎ ((hears m w before e ≡ true) × (after ≡ before ++ e ∷ []))

listens_last : (v y : Bool) (m : Mode) (w : ℕ) (heard : List Edge) (e : Edge) → hears m w heard e ≡ v
    → ListensOrNot m w heard (if v then heard ++ e ∷ [] else (if y then heard else heard)) e
listens_last true y m w heard e h = inr (h, refl)
listens_last false true m w heard e h = inl refl
listens_last false false m w heard e h = inl refl

listens_from : (m : Mode) (w : ℕ) (edges : List Edge) (e : Edge) (heard : List Edge) → ListensOrNot m w (until_deaf m w heard edges) (until_deaf m w heard (edges ++ e ∷ [])) e
listens_from m w [] e heard = listens_last (hears m w heard e) (is_left_out m w heard e) m w heard e refl
listens_from m w (x ∷ edges) e heard = by (hears m w heard x) (is_left_out m w heard x) m w edges e x heard (listens_from m w edges e)
  where
    by : (v y : Bool) (m : Mode) (w : ℕ) (edges : List Edge) (e x : Edge) (heard : List Edge)
        → ((h : List Edge) → ListensOrNot m w (until_deaf m w h edges) (until_deaf m w h (edges ++ e ∷ [])) e)
        → ListensOrNot m w (if v then until_deaf m w (heard ++ x ∷ []) edges else (if y then until_deaf m w heard edges else heard))
        (if v then until_deaf m w (heard ++ x ∷ []) (edges ++ e ∷ []) else (if y then until_deaf m w heard (edges ++ e ∷ []) else heard)) e
    by true y m w edges e x heard more = more (heard ++ x ∷ [])
    by false true m w edges e x heard more = more heard
    by false false m w edges e x heard more = inl refl

pub burst_more : (edges : List Edge) (e : Edge) (w : ℕ) (m : Mode) → ListensOrNot m w (burst edges w m) (burst (edges ++ e ∷ []) w m) e
unfolding burst
burst_more edges e w m = listens_from m w edges e []

-- an edge that isn't heard changes nothing
unheard_same : (m : Mode) (w : ℕ) (before after : List Edge) (e : Edge) → hears m w before e ≡ false → ListensOrNot m w before after e → after ≡ before
unheard_same m w before after e f (inl same) = same
unheard_same m w before after e f (inr heard) = absurd (true≢false (sym heard.0 ∙ f))

pub burst_later : (edges : List Edge) (e : Edge) (w c : ℕ) (m : Mode) → close edges w m ≡ Some c → c ≤ e.t.0 → burst (edges ++ e ∷ []) w m ≡ burst edges w m
burst_later edges e w c m h le =
    unheard_same m w (burst edges w m) (burst (edges ++ e ∷ []) w m) e (deaf m w (burst edges w m) e (closed_at m (burst edges w m) c e.t.0 h le))
    (burst_more edges e w m)

-- a window that is closed stays so
still_closed : (n l t u : ℕ) → t ≤ u → (not (n == 0) && nat_le l t) ≡ true → (not (n == 0) && nat_le l u) ≡ true
still_closed n l t u le e = grind (arith, nat_tests)

pub closed_later : (m : Mode) (heard : List Edge) (t u : ℕ) → t ≤ u → is_closed m heard t ≡ true → is_closed m heard u ≡ true
closed_later m heard t u le e = still_closed (length heard) (last_at heard + wait m heard) t u le e

-- ---- edges up to the opening aren't heard

pub early : (w t : ℕ) (a b : Bool) → t ≤ w → (nat_lt w t && a && b) ≡ false
early w t a b le = grind (arith, nat_tests)

pub passed_over : (w t : ℕ) (early : Bool) → t ≤ w → (nat_le t w || early) ≡ true
passed_over w t early le = grind (arith, nat_tests)

none_before : (edges : List Edge) (w : ℕ) (m : Mode) → All (λ e. e.t.0 ≤ w) edges → until_deaf m w [] edges ≡ []
none_before [] w m a = refl
none_before (e ∷ edges) w m a =
    let le : e.t.0 ≤ w = All-head (λ e. e.t.0 ≤ w) e edges a in
    let d : hears m w [] e ≡ false = early w e.t.0 (not (is_closed m [] e.t.0)) (not (comes_early m [] e)) le in
    let p : is_left_out m w [] e ≡ true = passed_over w e.t.0 (comes_early m [] e) le in
    rw (d, p) (none_before edges w m (All-tail (λ e. e.t.0 ≤ w) e edges a))

pub burst_before : (edges : List Edge) (w : ℕ) (m : Mode) → All (λ e. e.t.0 ≤ w) edges → burst edges w m ≡ []
unfolding burst
burst_before edges w m a = none_before edges w m a

-- ---- what a window holds of the edges handed in

pub both : (a b : Bool) → (a && b) ≡ true → b ≡ true
both true b e = e
both false b e = absurd (let f = e in cc)

pub not_both : (a b : Bool) → a ≡ true → (a && b) ≡ false → b ≡ false
not_both true b t e = e
not_both false b t e = absurd (let f = t in cc)

-- once it is closed no edge changes it
pub handed_settled : (w : Window) (handed : List Edge) (e : Edge) (t : ℕ) → IsHanded w handed → window_closed w t ≡ true → t ≤ e.t.0 → IsHanded w (handed ++ e ∷ [])
handed_settled w handed e t h c le = record {
  armed = h.armed;
  burst_is =
      let is_deaf : hears w.mode w.opened (burst handed w.opened w.mode) e ≡ false =
      subst (λ (x : List Edge). hears w.mode w.opened x e ≡ false) h.burst_is
      (deaf w.mode w.opened w.edges e (closed_later w.mode w.edges t e.t.0 le (both w.armed _ c))) in
      h.burst_is ∙ sym (unheard_same w.mode w.opened (burst handed w.opened w.mode) _ e is_deaf (burst_more handed e w.opened w.mode));
}
