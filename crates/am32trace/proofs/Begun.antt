-- What has begun on the signal line, step by step.
use Rattle.std.proofs.Common.{◌≡◌, ◌≤◌, ℕ, ◌+◌, false, List, [], ◌∷◌, drop, Option, Some, None, refl, sym, ◌∙◌, ap, subst, append-nil, arith}
use Rattle.std.specs.Prelude.{slice_get, All, IfSome}
use Rattle.std.proofs.lemmas.List.Elements.{All-nil, All-cons, All-drop, All-weaker}
use Rattle.esc_base.specs.declared.signal.Edge.{Edge}
use Rattle.esc_base.specs.declared.signal.Frame.{Frame}
use Rattle.esc_base.specs.declared.signal.Mode.{Mode}
use Rattle.dshot_frame.specs.Sent.{HasFrames}
use Rattle.am32trace.specs.declared.signal_line.Repeated.{Repeated}
use Rattle.am32trace.specs.declared.frame_out.Spoil.{Spoil}
use Rattle.am32trace.specs.Frames.{IsSent, IsSpoilt, IsBefore, first_edge}
use Rattle.am32trace.specs.Asked.{Due, FrameAt, SpoiltAt, PulseAt}
use Rattle.am32trace.specs.Line.{Transmission, Sent, Spoiled, Pulse, Noise, edges_of, asked_as, IsHeard, Begins, Adds, IsReady, next_message}

pub first_and_rest : (e : Edge) (xs : List Edge) → slice_get xs 0 ≡ Some e → e ∷ drop 1 xs ≡ xs
first_and_rest e [] h = cc
first_and_rest e (x ∷ xs) h = let same : e ≡ x = cc in ap (λ (y : Edge). y ∷ xs) same

pub none_first : (xs : List Edge) → slice_get xs 0 ≡ None → xs ≡ []
none_first [] h = refl
none_first (x ∷ xs) h = cc

pub nothing_begun : (before after : List Edge) → after ≡ before → Begins before after []
nothing_begun before after same = record { begun = []; edges = same ∙ sym (append-nil before); heard = All-nil IsHeard; messages = refl }

pub one_begun : (t : Transmission) (after : List Edge) → IsHeard t → after ≡ edges_of t → Begins [] after (asked_as t)
one_begun t after heard is = record {
  begun = t ∷ [];
  edges = is ∙ sym (append-nil (edges_of t));
  heard = All-cons IsHeard t [] heard (All-nil IsHeard);
  messages = append-nil (asked_as t);
}

-- a frame as it should be
pub frame_begun : (m : Mode) (s : ℕ) (frame : Frame) (edges : List Edge) → (HasFrames m → IsSent m s frame edges) → Begins [] edges (FrameAt m s frame ∷ [])
frame_begun m s frame edges h = one_begun (Sent m s frame edges) edges h refl

-- one with something wrong
pub spoiled_begun : (m : Mode) (s : ℕ) (frame : Frame) (spoil : Spoil) (edges : List Edge) → (HasFrames m → IsSpoilt m s frame spoil edges)
    → Begins [] edges (SpoiltAt m s frame spoil ∷ [])
spoiled_begun m s frame spoil edges h = one_begun (Spoiled m s frame spoil edges) edges h refl

-- the first edge of a frame was sent
pub frame_first : (e : Edge) (frame left : List Edge) (due : List Due) → slice_get frame 0 ≡ Some e → Begins [] frame due → left ≡ drop 1 frame
    → Adds e [] left due
frame_first e frame left due first begins rest =
    subst (λ (xs : List Edge). Begins [] xs due) (sym (ap (λ (xs : List Edge). e ∷ xs) rest ∙ first_and_rest e frame first)) begins

-- a pulse has risen
pub pulse_begun : (e : Edge) (width : ℕ) → Adds e [] (record { t = record { 0 = e.t.0 + width }; level = false } ∷ []) (PulseAt e.t.0 width ∷ [])
pulse_begun e width = one_begun (Pulse e width) (e ∷ record { t = record { 0 = e.t.0 + width }; level = false } ∷ []) tt refl

-- an edge of noise
pub noise_edge : (e : Edge) (left : List Edge) → left ≡ [] → Adds e [] left []
noise_edge e left none = one_begun (Noise e) (e ∷ left) tt (ap (λ (xs : List Edge). e ∷ xs) none)

-- no edge comes later than the last one
raise : (n more : ℕ) (xs : List Edge) → n ≤ more → All (IsBefore n) xs → All (IsBefore more) xs
raise n more xs le all = All-weaker (IsBefore n) (IsBefore more) (λ e h. let at : e.t.0 ≤ n = h in omega (arith, le, at)) xs all

pub later_edges : (n more : ℕ) (frame left : List Edge) → n ≤ more → All (IsBefore n) frame → left ≡ drop 1 frame → All (IsBefore more) left
later_edges n more frame left le all rest = subst (All (IsBefore more)) (sym rest) (All-drop (IsBefore more) 1 frame (raise n more frame le all))

-- the same with fewer edges
pub ready_rest : (o : Option Repeated) (period : ℕ) (xs ys : List Edge) → ys ≡ drop 1 xs → IfSome o (IsReady period xs) → IfSome o (IsReady period ys)
ready_rest None period xs ys rest h = tt
ready_rest (Some r) period xs ys rest h = record {
  short = h.short;
  near = h.near;
  apart = subst (All (IsBefore r.next.0)) (sym rest) (All-drop (IsBefore r.next.0) 1 xs h.apart);
}

-- the next message begins at the time of the next edge
pub next_is : (m : Mode) (o : Option Repeated) (r : Repeated) (e : Edge) → o ≡ Some r → next_message m o ≡ Some e → r.next.0 ≡ e.t.0
next_is m o r e is h =
    let at : next_message m (Some r) ≡ Some e = subst (λ (x : Option Repeated). next_message m x ≡ Some e) is h in
    let same : first_edge m r.next ≡ e = cc in
    ap (λ (x : Edge). x.t.0) same
