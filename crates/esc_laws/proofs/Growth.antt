-- Later events change nothing of what the notes and the steps before them said.
use Rattle.std.proofs.Common.{◌≡◌, ◌≤◌, ◌<◌, ◌+◌, ℕ, Bool, true, false, not, ◌&&◌, ◌||◌, ◌==◌, nat_le, nat_lt, max, if◌then◌else◌, List, [], ◌∷◌, ◌++◌, reverse, length, Some, None, refl, sym, ◌∙◌, ap, arith, ◌-◌, length-append, true≢false, inl, inr}
use Rattle.std.proofs.lemmas.Bool.{not-true, and_parts, false_from_ne_true}
use Rattle.std.proofs.lemmas.List.{get_or_push}
use Rattle.std.proofs.lemmas.Bool.Decides.{nat_tests}
use Rattle.esc_base.specs.declared.kind.Kind.{Kind}
use Rattle.esc_base.specs.declared.kind.Kind.TheVariants as kind
use Rattle.esc_base.specs.declared.signal.Edge.{Edge}
use Rattle.esc_base.specs.declared.signal.Mode.{Mode}
use Rattle.esc_base.specs.declared.event.Event.{Event}
use Rattle.esc_base.specs.declared.event.Event.TheVariants as event
use Rattle.esc_base.specs.declared.note.Note.{Note}
use Rattle.esc_base.specs.declared.note.Note.TheVariants as note
use Rattle.esc_base.specs.Journal.{time_of}
use Rattle.esc_base.specs.Trace.{line, tick_of, differ}
use Rattle.esc_base.proofs.TraceLaws.{line-push}
use Rattle.esc_base.specs.Numbers.{mode_of}
use Rattle.esc_base.specs.Times.{is_reached}
use Rattle.edge_capture.specs.Edges.{last_at, blank}
use Rattle.edge_capture.specs.Burst.{burst, close, close_of, hears, is_closed, wait}
use Rattle.edge_capture.proofs.Stable.{ListensOrNot, burst_more, closed_later}
use Rattle.edge_capture.proofs.Grows.{burst_grows}
use Rattle.settings_block.specs.declared.stored.Loaded.{Loaded}
use Rattle.zero_cross.specs.Comparator.{Held}
use Rattle.esc_laws.specs.Saves.{forward_at}
use Rattle.esc_laws.specs.Crossed.{expects_at}
use Rattle.esc_laws.specs.Searched.{sight_at, calls_cmp, calls_watch}
use Rattle.esc_laws.proofs.Comparator.{held_before}
use Rattle.esc_laws.specs.Place.{Signal, Listens, Rests, Place, place}
use Rattle.esc_laws.specs.Rested.{first_rested}
use Rattle.interrupt_machine.specs.Open.{kind_of}
use Rattle.esc_laws.specs.Asked.{IsCapAsked, IsAsked, AskRule}
use Rattle.esc_laws.specs.Windowed.{Answers, AnswersAt, OpensAt, WindowRule}
use Rattle.esc_laws.specs.Seen.{calls_cap, sees}
use Rattle.esc_laws.proofs.Rests.{first_stays, first_before}

-- ---- windows

-- the close of a window that is closed
pub close_grows : (trace : List Event) (e : Event) (w c : ℕ) (m : Mode) → close (line trace).edges w m ≡ Some c → c ≤ tick_of e
    → close (line (trace ++ e ∷ [])).edges w m ≡ Some c
close_grows trace e w c m h le = ap (close_of m) (burst_grows trace e w c m h le) ∙ h

answers_grow : (loaded : Loaded) (trace : List Event) (e : Event) (w m entered t : ℕ) (n : Note) → t ≤ tick_of e → Answers loaded trace w m entered t n
    → Answers loaded (trace ++ e ∷ []) w m entered t n
answers_grow loaded trace e w m entered t n le a =
    let before : a.closed_at ≤ tick_of e = (let x = a.waits in let y = a.entered_before in omega arith) in
    record {
      closed_at = a.closed_at;
      closes = close_grows trace e w a.closed_at (mode_of m) a.closes before;
      waits = a.waits;
      entered_before = a.entered_before;
      verdict_is = rw (burst_grows trace e w a.closed_at (mode_of m) a.closes before) a.verdict_is;
    }

answers_at_grow : (loaded : Loaded) (trace : List Event) (e : Event) (s : Signal) (entered t : ℕ) (n : Note) → t ≤ tick_of e
    → AnswersAt loaded trace s entered t n → AnswersAt loaded (trace ++ e ∷ []) s entered t n
answers_at_grow loaded trace e (Listens w m) entered t n le a = answers_grow loaded trace e w m entered t n le a
answers_at_grow loaded trace e s entered t n le a = a

-- the first rested tick by now
pub first_grows : (trace : List Event) (e : Event) (t : ℕ) → first_rested (line trace).edges t ≤ tick_of e
    → first_rested (line (trace ++ e ∷ [])).edges t ≤ first_rested (line trace).edges t
first_grows trace (event.Edge at level) t le =
    rw (line-push trace (event.Edge at level)) (changed (differ (line trace).level level) (line trace).edges (record { t = at; level = level }) t le)
  where
    changed : (v : Bool) (edges : List Edge) (x : Edge) (t : ℕ) → first_rested edges t ≤ x.t.0
        → first_rested (if v then edges ++ x ∷ [] else edges) t ≤ first_rested edges t
    changed true edges x t le = rw (first_stays edges x t le) (omega arith)
    changed false edges x t le = omega arith
first_grows trace (event.Comp at level) t le = rw (line-push trace (event.Comp at level)) (omega arith)
first_grows trace (event.Serial at byte) t le = rw (line-push trace (event.Serial at byte)) (omega arith)
first_grows trace (event.Stall at n) t le = rw (line-push trace (event.Stall at n)) (omega arith)

opens_grow : (trace : List Event) (e : Event) (s : Signal) (entered t : ℕ) → t ≤ tick_of e → OpensAt trace s entered t → OpensAt (trace ++ e ∷ []) s entered t
opens_grow trace e (Rests from latest r) entered t le o = record {
  rested = (let a = o.rested in let b = o.entered_before in let g = first_grows trace e from (omega arith) in omega arith);
  entered_before = o.entered_before;
}
opens_grow trace e s entered t le o = o

pub window_grows : (loaded : Loaded) (trace : List Event) (e : Event) (before : List Note) (n : Note) → time_of n ≤ tick_of e → WindowRule loaded trace before n
    → WindowRule loaded (trace ++ e ∷ []) before n
window_grows loaded trace e before (note.Good t v q) le r =
    answers_at_grow loaded trace e (place before).signal (place before).cap_entered t.0 (note.Good t v q) le r
window_grows loaded trace e before (note.Detected t m) le r =
    answers_at_grow loaded trace e (place before).signal (place before).cap_entered t.0 (note.Detected t m) le r
window_grows loaded trace e before (note.Nothing t) le r =
    answers_at_grow loaded trace e (place before).signal (place before).cap_entered t.0 (note.Nothing t) le r
window_grows loaded trace e before (note.Bad t w) le r = answers_at_grow loaded trace e (place before).signal (place before).cap_entered t.0 (note.Bad t w) le r
window_grows loaded trace e before (note.Window t m) le r = (opens_grow trace e (place before).signal (place before).cap_entered t.0 le r.0, r.1)
window_grows loaded trace e before (note.Leave t k) le r = r
window_grows loaded trace e before n le r = r

-- ---- what is seen due

-- over numbers: a close is reached exactly where the window is closed
reached_at : (n l t : ℕ) → is_reached (if n == 0 then None else Some l) t ≡ (not (n == 0) && nat_le l t)
reached_at n l t = by_none (n == 0) l t
  where
    by_none : (v : Bool) (l t : ℕ) → is_reached (if v then None else Some l) t ≡ (not v && nat_le l t)
    by_none true l t = refl
    by_none false l t = refl

pub reached_closed : (m : Mode) (heard : List Edge) (t : ℕ) → is_reached (close_of m heard) t ≡ is_closed m heard t
reached_closed m heard t = reached_at (length heard) (last_at heard + wait m heard) t

pub last_at-push : (heard : List Edge) (x : Edge) → last_at (heard ++ x ∷ []) ≡ x.t.0
last_at-push heard x = ap (λ (y : Edge). y.t.0) (get_or_push heard x blank (length (heard ++ x ∷ []) - 1) (sym (simp length-append (omega arith))))

open_at : (n l t : ℕ) → t < l → (not (n == 0) && nat_le l t) ≡ false
open_at n l t lt = grind (arith, nat_tests)

-- a window that has heard an edge after t isn't closed at t
open_before : (m : Mode) (heard : List Edge) (x : Edge) (t : ℕ) → t < x.t.0 → is_closed m (heard ++ x ∷ []) t ≡ false
open_before m heard x t lt =
    open_at (length (heard ++ x ∷ [])) (last_at (heard ++ x ∷ []) + wait m (heard ++ x ∷ [])) t (rw (last_at-push heard x) (omega arith))

pub heard_open : (m : Mode) (w : ℕ) (edges : List Edge) (x : Edge) → hears m w edges x ≡ true → is_closed m edges x.t.0 ≡ false
heard_open m w edges x h =
    let not_yet = and_parts (nat_lt w x.t.0 && not (is_closed m edges x.t.0)) _ h in
    not-true (is_closed m edges x.t.0) (and_parts (nat_lt w x.t.0) (not (is_closed m edges x.t.0)) not_yet.0).1

heard_before : (v : Bool) (m : Mode) (w : ℕ) (heard : List Edge) (x : Edge) (t : ℕ) → hears m w heard x ≡ v → t < x.t.0
    → is_closed m (if v then heard ++ x ∷ [] else heard) t ≡ is_closed m heard t
heard_before true m w heard x t h lt =
    let shut : is_closed m heard x.t.0 ≡ false = heard_open m w heard x h in
    open_before m heard x t lt ∙ sym (false_from_ne_true (is_closed m heard t) (λ c. true≢false (sym (closed_later m heard t x.t.0 (omega arith) c) ∙ shut)))
heard_before false m w heard x t h lt = refl

more_before : (m : Mode) (w : ℕ) (heard more : List Edge) (x : Edge) (t : ℕ) → t < x.t.0 → ListensOrNot m w heard more x
    → is_closed m more t ≡ is_closed m heard t
more_before m w heard more x t lt (inl same) = rw same refl
more_before m w heard more x t lt (inr hears) = rw hears.1 (heard_before true m w heard x t hears.0 lt)

edge_before : (v : Bool) (edges : List Edge) (x : Edge) (w t : ℕ) (m : Mode) → t < x.t.0
    → is_closed m (burst (if v then edges ++ x ∷ [] else edges) w m) t ≡ is_closed m (burst edges w m) t
edge_before true edges x w t m lt = more_before m w (burst edges w m) (burst (edges ++ x ∷ []) w m) x t lt (burst_more edges x w m)
edge_before false edges x w t m lt = refl

-- before a later event the window is closed exactly where it was
closed_before : (trace : List Event) (e : Event) (w t : ℕ) (m : Mode) → t < tick_of e
    → is_closed m (burst (line (trace ++ e ∷ [])).edges w m) t ≡ is_closed m (burst (line trace).edges w m) t
closed_before trace (event.Edge at level) w t m lt =
    rw (line-push trace (event.Edge at level)) (edge_before (differ (line trace).level level) (line trace).edges (record { t = at; level = level }) w t m lt)
closed_before trace (event.Comp at level) w t m lt = rw (line-push trace (event.Comp at level)) refl
closed_before trace (event.Serial at byte) w t m lt = rw (line-push trace (event.Serial at byte)) refl
closed_before trace (event.Stall at n) w t m lt = rw (line-push trace (event.Stall at n)) refl

rest_before : (trace : List Event) (e : Event) (from t : ℕ) → t < tick_of e
    → nat_le (first_rested (line (trace ++ e ∷ [])).edges from) t ≡ nat_le (first_rested (line trace).edges from) t
rest_before trace (event.Edge at level) from t lt =
    rw (line-push trace (event.Edge at level)) (changed (differ (line trace).level level) (line trace).edges (record { t = at; level = level }) from t lt)
  where
    changed : (v : Bool) (edges : List Edge) (x : Edge) (from t : ℕ) → t < x.t.0
        → nat_le (first_rested (if v then edges ++ x ∷ [] else edges) from) t ≡ nat_le (first_rested edges from) t
    changed true edges x from t lt = first_before edges x from t lt
    changed false edges x from t lt = refl
rest_before trace (event.Comp at level) from t lt = rw (line-push trace (event.Comp at level)) refl
rest_before trace (event.Serial at byte) from t lt = rw (line-push trace (event.Serial at byte)) refl
rest_before trace (event.Stall at n) from t lt = rw (line-push trace (event.Stall at n)) refl

cap_before : (trace : List Event) (e : Event) (s : Signal) (t : ℕ) → t < tick_of e → calls_cap (trace ++ e ∷ []) s t ≡ calls_cap trace s t
cap_before trace e (Listens w m) t lt =
    reached_closed (mode_of m) (burst (line (trace ++ e ∷ [])).edges w (mode_of m)) t
    ∙ closed_before trace e w t (mode_of m) lt
    ∙ sym (reached_closed (mode_of m) (burst (line trace).edges w (mode_of m)) t)
cap_before trace e (Rests from latest r) t lt = rest_before trace e (max latest r) t lt
cap_before trace e s t lt = refl

-- a later event changes nothing of what was seen due before it
pub sees_before : (loaded : Loaded) (trace : List Event) (e : Event) (notes : List Note) (t : ℕ) (k : Kind) → t < tick_of e
    → sees loaded (trace ++ e ∷ []) notes t k ≡ sees loaded trace notes t k
sees_before loaded trace e notes t kind.Cap lt = cap_before trace e (place notes).signal t lt
sees_before loaded trace e notes t kind.Cmp lt =
    ap (λ (h : Held). calls_cmp h (expects_at (forward_at loaded.settings) (reverse notes)) (sight_at (reverse notes)) t
    || calls_watch h (expects_at (forward_at loaded.settings) (reverse notes)) (reverse notes) t) (held_before trace e t lt)
sees_before loaded trace e notes t k lt = refl

-- nor of what an activation was entered for
cap_asked_grows : (trace : List Event) (e : Event) (s : Signal) (t : ℕ) → t < tick_of e → IsCapAsked trace s t → IsCapAsked (trace ++ e ∷ []) s t
cap_asked_grows trace e (Listens w m) t lt a = cap_before trace e (Listens w m) t lt ∙ a
cap_asked_grows trace e (Rests from latest r) t lt a = (let g = first_grows trace e from (omega arith) in omega arith)
cap_asked_grows trace e s t lt a = a

asked_grows : (loaded : Loaded) (trace : List Event) (e : Event) (p : Place) (back : List Note) (t : ℕ) (k : Kind) → t < tick_of e
    → IsAsked loaded trace p back t k → IsAsked loaded (trace ++ e ∷ []) p back t k
asked_grows loaded trace e p back t kind.Cap lt a = cap_asked_grows trace e p.signal t lt a
asked_grows loaded trace e p back t k lt a = a

pub ask_grows : (loaded : Loaded) (trace : List Event) (e : Event) (before : List Note) (n : Note) → time_of n < tick_of e
    → AskRule loaded trace (place before) (reverse before) n → AskRule loaded (trace ++ e ∷ []) (place before) (reverse before) n
ask_grows loaded trace e before (note.Enter t k) lt r = asked_grows loaded trace e (place before) (reverse before) t.0 (kind_of k) lt r
ask_grows loaded trace e before n lt r = r
