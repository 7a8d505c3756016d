-- What the ties become as the trace grows by an event.
use Rattle.std.proofs.Common.{◌≡◌, ◌≤◌, ◌<◌, ◌+◌, ◌-◌, ℕ, Bool, true, false, not, ◌&&◌, ◌==◌, nat_le, if◌then◌else◌, List, [], ◌∷◌, ◌++◌, length, Option, Some, None, refl, sym, ◌∙◌, ap, arith, lit≤, All, inl, inr, length-append, true≢false}
use Rattle.std.proofs.lemmas.Bool.{and_parts, and_right, cases_lt}
use Rattle.std.proofs.lemmas.Bool.Decides.{nat_tests}
use Rattle.std.proofs.lemmas.List.{get_or_push, get_or_append_left}
use Rattle.std.proofs.lemmas.List.Elements.{All-push, All-head, All-tail}
use Rattle.esc_base.specs.declared.signal.Edge.{Edge}
use Rattle.esc_base.specs.declared.signal.Mode.{Mode}
use Rattle.esc_base.specs.declared.signal.Mode.TheVariants as mode
use Rattle.esc_base.specs.declared.event.Event.{Event}
use Rattle.esc_base.specs.declared.event.Event.TheVariants as event
use Rattle.esc_base.specs.Trace.{line, differ, tick_of}
use Rattle.esc_base.proofs.TraceLaws.{line-push}
use Rattle.esc_base.specs.Numbers.{mode_of, as_tick}
use Rattle.edge_capture.specs.Edges.{blank, edge_at, last_at, IsInOrder, Rising}
use Rattle.edge_capture.specs.Modes.{most}
use Rattle.edge_capture.specs.Burst.{burst, hears, is_closed}
use Rattle.edge_capture.specs.Window.{Window, after_edge, window_closed, window_hears}
use Rattle.edge_capture.proofs.Stable.{hear, deaf}
use Rattle.edge_capture.proofs.Told.{burst-push}
use Rattle.edge_capture.proofs.Grows.{burst_grows}
use Rattle.timer_regs.specs.Bank.{Bank}
use Rattle.timer_regs.specs.Rest.{put_off}
use Rattle.esc_core.specs.Brain.{Brain}
use Rattle.esc_laws.specs.Place.{Place}
use Rattle.esc_rooms.specs.Tied.{CapView, cap_view, Hears, WindowSound}
use Rattle.esc_rooms.proofs.cap.Ties.{closing_closed}
use Rattle.esc_rooms.proofs.shared.Dues.{Follows}
use Rattle.esc_laws.proofs.Growth.{close_grows, first_grows, heard_open}

-- ---- an event that isn't of the line

pub plain_follows : (trace : List Event) (e : Event) (c : Brain) (b : Bank) (p : Place) → line (trace ++ e ∷ []) ≡ line trace → b.time ≤ tick_of e
    → Follows (cap_view trace c b p) (cap_view (trace ++ e ∷ []) c b p)
plain_follows trace e c b p same le = record {
  later = omega arith;
  taken = refl;
  timer = λ n. n;
  mode = refl;
  copied = refl;
  paused = refl;
  entered = refl;
  windows = refl;
  verdicts = refl;
  hears = λ w m h. record {
    armed = h.armed;
    mode = h.mode;
    opened = h.opened;
    edges = rw same h.edges;
    core_mode = h.core_mode;
    running =
        h.running;
    no_timer = h.no_timer;
  };
  settled = λ w m i. refl;
  closes = λ w m at h l. close_grows trace e w at (mode_of m) h (omega arith);
  bursts = λ w m at h l. burst_grows trace e w at (mode_of m) h (omega arith);
  rested = λ t r. first_grows trace e t (omega arith);
}

-- ---- an edge

-- the edge that stands at now
abbrev pub edge_now : Bank → Bool → Edge
edge_now b level = record { t = as_tick b.time; level = level }

same_level : (a level : Bool) → differ a level ≡ false → a ≡ level
same_level true true e = refl
same_level true false e = cc
same_level false true e = cc
same_level false false e = refl

-- a window that hears it, or doesn't
heard_edges : (v : Bool) (w : Window) (x : Edge) → window_hears w x ≡ v → (after_edge w x).edges ≡ (if v then w.edges ++ x ∷ [] else w.edges)
heard_edges v w x e = by_test (window_hears w x) v w x e
  where
    by_test : (a v : Bool) (w : Window) (x : Edge) → a ≡ v
        → (if a then record w { edges = w.edges ++ x ∷ [] } else w).edges ≡ (if v then w.edges ++ x ∷ [] else w.edges)
    by_test true v w x e = rw (sym e) refl
    by_test false v w x e = rw (sym e) refl

-- what an edge leaves of a window
record SameWindow (w w' : Window) : Type 0 where
  armed : w'.armed ≡ w.armed
  mode : w'.mode ≡ w.mode
  opened : w'.opened ≡ w.opened

edge_same : (v : Bool) (w : Window) (x : Edge) → SameWindow w (if v then record w { edges = w.edges ++ x ∷ [] } else w)
edge_same true w x = record { armed = refl; mode = refl; opened = refl }
edge_same false w x = record { armed = refl; mode = refl; opened = refl }

edge_hears : (v : CapView) (w m : ℕ) (x : Edge) → Hears v w m → (after_edge v.window x).edges ≡ hear (mode_of m) w (burst (line v.trace).edges w (mode_of m)) x
edge_hears v w m x h =
    let same : window_hears v.window x ≡ hears (mode_of m) w (burst (line v.trace).edges w (mode_of m)) x = rw (h.armed, h.mode, h.opened, h.edges) refl in
    heard_edges (hears (mode_of m) w (burst (line v.trace).edges w (mode_of m)) x) v.window x same
    ∙ ap (λ (es : List Edge). if hears (mode_of m) w (burst (line v.trace).edges w (mode_of m)) x then es ++ x ∷ [] else es) h.edges

closed_deaf : (w : Window) (x : Edge) → window_closed w x.t.0 ≡ true → window_hears w x ≡ false
closed_deaf w x c =
    and_right w.armed (hears w.mode w.opened w.edges x) (deaf w.mode w.opened w.edges x (and_parts w.armed (is_closed w.mode w.edges x.t.0) c).1)

abbrev pub edge_bank : Bank → Bool → Bank
edge_bank b level = record b { level = level; window = after_edge b.window (edge_now b level); timer = put_off b.timer b.time; changed = Some b.time }

off_stays : (timer : Option ℕ) (t : ℕ) → timer ≡ None → put_off timer t ≡ None
off_stays None t e = refl
off_stays (Some at) t e = absurd (let z = e in cc)

pub rising_push : (edges : List Edge) (x : Edge) (t : ℕ) → Rising t edges → All (λ e. e.t.0 ≤ x.t.0) edges → t ≤ x.t.0 → Rising t (edges ++ x ∷ [])
rising_push [] x t r a le = (le, tt)
rising_push (e ∷ edges) x t r a le =
    (r.0, rising_push edges x e.t.0 r.1 (All-tail (λ y. y.t.0 ≤ x.t.0) e edges a) (All-head (λ y. y.t.0 ≤ x.t.0) e edges a))

pub edge_follows : (trace : List Event) (c : Brain) (b : Bank) (p : Place) (level : Bool) → Rising 0 ((line trace).edges ++ edge_now b level ∷ [])
    → (line (trace ++ event.Edge (as_tick b.time) level ∷ [])).edges ≡ (line trace).edges ++ edge_now b level ∷ []
    → Follows (cap_view trace c b p) (cap_view (trace ++ event.Edge (as_tick b.time) level ∷ []) c (edge_bank b level) p)
edge_follows trace c b p level rising more =
    let same = edge_same (window_hears b.window (edge_now b level)) b.window (edge_now b level) in
    record {
      later = omega arith;
      taken = refl;
      timer = λ n. off_stays b.timer b.time n;
      mode = refl;
      copied = refl;
      paused = refl;
      entered = refl;
      windows = refl;
      verdicts = refl;
      hears = λ w m h. record {
        armed = same.armed ∙ h.armed;
        mode = same.mode ∙ h.mode;
        opened = same.opened ∙ h.opened;
        edges = edge_hears (cap_view trace c b p) w m (edge_now b level) h ∙ sym (burst-push (line trace).edges (edge_now b level) w (mode_of m) rising)
            ∙ ap (λ (es : List Edge). burst es w (mode_of m)) (sym more);
        core_mode = h.core_mode;
        running = h.running;
        no_timer = off_stays b.timer b.time h.no_timer;
      };
      settled = λ w m i. heard_edges false b.window (edge_now b level) (closed_deaf b.window (edge_now b level) (closing_closed (cap_view trace c b p) w m i));
      closes = λ w m at h l. close_grows trace (event.Edge (as_tick b.time) level) w at (mode_of m) h l;
      bursts = λ w m at h l. burst_grows trace (event.Edge (as_tick b.time) level) w at (mode_of m) h l;
      rested = λ t r. first_grows trace (event.Edge (as_tick b.time) level) t r;
    }

-- ---- the window's edges stay few and in order

most_some : (m : Mode) → 1 ≤ most m
most_some mode.Unknown = lit≤ tt
most_some mode.D300 = lit≤ tt
most_some mode.D600 = lit≤ tt
most_some mode.D300Inv = lit≤ tt
most_some mode.D600Inv = lit≤ tt
most_some mode.Servo = lit≤ tt

-- a window with the most edges is closed from the last one on
full_closed : (n most last limit t : ℕ) → 1 ≤ most → most ≤ n → last ≤ t → (not (n == 0) && nat_le (last + (if nat_le most n then 0 else limit)) t) ≡ true
full_closed n most last limit t some full past = grind (arith, nat_tests)

last_past : (edges : List Edge) (t : ℕ) → All (λ e. e.t.0 ≤ t) edges → 1 ≤ length edges → last_at edges ≤ t
last_past edges t past some = past (length edges - 1) blank (omega arith)

still_few : (w : Window) (x : Edge) → WindowSound w x.t.0 → hears w.mode w.opened w.edges x ≡ true → length w.edges + 1 ≤ most w.mode
still_few w x s h = elim (cases_lt (length w.edges) (most w.mode)) [
  | inl few ↦ omega arith
  | inr full ↦ (
      let some = most_some w.mode in
      let past = last_past w.edges x.t.0 s.past (omega arith) in
      let closed = full_closed (length w.edges) (most w.mode) (last_at w.edges) _ x.t.0 some full past in
      absurd (true≢false (sym closed ∙ heard_open w.mode w.opened w.edges x h)))
]

front_edge : (edges : List Edge) (x : Edge) (i : ℕ) → i < length edges → edge_at (edges ++ x ∷ []) i ≡ edge_at edges i
front_edge edges x i l = get_or_append_left edges (x ∷ []) blank i l

in_order_push : (edges : List Edge) (x : Edge) → IsInOrder edges → All (λ e. e.t.0 ≤ x.t.0) edges → IsInOrder (edges ++ x ∷ [])
in_order_push edges x o past i j le l = elim (cases_lt j (length edges)) [
  | inl inside ↦ rw (front_edge edges x i (omega arith), front_edge edges x j inside) (o i j le inside)
  | inr last ↦ rw (get_or_push edges x blank j (let len = length-append edges (x ∷ []) in omega arith))
      (All-push (λ e. e.t.0 ≤ x.t.0) edges x past (omega arith) i blank (omega arith))
]

pub edge_sound : (w : Window) (x : Edge) → WindowSound w x.t.0 → WindowSound (after_edge w x) x.t.0
edge_sound w x s = by_test (window_hears w x) refl
  where
    by_test : (v : Bool) → window_hears w x ≡ v → WindowSound (if v then record w { edges = w.edges ++ x ∷ [] } else w) x.t.0
    by_test true e = record {
      past = All-push (λ y. y.t.0 ≤ x.t.0) w.edges x s.past (omega arith);
      order = in_order_push w.edges x s.order s.past;
      few = (let len = length-append w.edges (x ∷ []) in let f = still_few w x s (and_parts w.armed (hears w.mode w.opened w.edges x) e).1 in omega arith);
    }
    by_test false e = s

-- ---- the line after an edge

pub line_changes : (trace : List Event) (b : Bank) (level : Bool) → differ (line trace).level level ≡ true
    → line (trace ++ event.Edge (as_tick b.time) level ∷ []) ≡ record { level = level; edges = (line trace).edges ++ edge_now b level ∷ [] }
line_changes trace b level d = line-push trace (event.Edge (as_tick b.time) level) ∙ rw d refl

pub line_same : (trace : List Event) (b : Bank) (level : Bool) → differ (line trace).level level ≡ false
    → line (trace ++ event.Edge (as_tick b.time) level ∷ []) ≡ line trace
line_same trace b level d =
    let new : line (trace ++ event.Edge (as_tick b.time) level ∷ []) ≡ record { level = level; edges = (line trace).edges } = line-push trace
    (event.Edge (as_tick b.time) level) ∙ rw d refl in
    new ∙ ap (λ (l : Bool). record { level = l; edges = (line trace).edges }) (sym (same_level (line trace).level level d))
