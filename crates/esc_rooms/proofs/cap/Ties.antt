-- What CAP's own steps keep of the ties to the newest window, place by place.
use Rattle.std.proofs.Common.{◌≡◌, ◌≤◌, ◌<◌, ◌+◌, ◌-◌, ℕ, zero, suc, Bool, true, false, ◌==◌, nat_le, nat_lt, min, if◌then◌else◌, List, [], ◌∷◌, ◌++◌, length, take, Some, None, refl, sym, ◌∙◌, ap, arith}
use Rattle.std.proofs.lemmas.Bool.{and_from, lt-ltb, le-leb, leb-true, leb-false, ne_eqb}
use Rattle.std.specs.List.{fold}
use Rattle.std.proofs.lemmas.List.{take_more, take_all, get_or-take, length-take-le}
use Rattle.std.proofs.lemmas.Bool.Decides.{nat_tests}
use Rattle.esc_base.specs.declared.signal.Edge.{Edge}
use Rattle.esc_base.specs.declared.event.Event.{Event}
use Rattle.esc_base.specs.Trace.{line}
use Rattle.esc_base.specs.Numbers.{mode_of}
use Rattle.edge_capture.specs.Edges.{edge_at, last_at, blank, IsInOrder}
use Rattle.edge_capture.specs.Burst.{burst, is_closed}
use Rattle.edge_capture.specs.Window.{window_closed}
use Rattle.timer_regs.specs.Bank.{Bank}
use Rattle.timer_regs.specs.Effects.{read_value, edges_read, edge_read, is_readable, shown_edge}
use Rattle.timer_regs.specs.declared.regs.Reg.TheVariants as reg
use Rattle.interrupt_machine.specs.Did.{Reads, accessed}
use Rattle.esc_core.specs.declared.state.CapAt.TheVariants as cap
use Rattle.esc_core.specs.Brain.{Brain}
use Rattle.esc_core.specs.Stepped.{Stepped, goes_on}
use Rattle.esc_core.specs.Cap.{after_edges, after_copy, edge_of, next_edge, takes}
use Rattle.esc_laws.specs.Place.{Listens, Place, next}
use Rattle.esc_rooms.specs.Tied.{CapView, cap_view, IsClosing, IsCopying, SignalTied, WindowSound}
use Rattle.esc_rooms.proofs.shared.Facts.{edge_of-shown}
use Rattle.edge_capture.proofs.Stable.{closed_at}

-- ---- a window that CAP reads is closed

-- its burst has an edge
pub some_edges : (n l c : ℕ) → (if n == 0 then None else Some l) ≡ Some c → 1 ≤ n
some_edges n l c e = grind (arith, nat_tests)

closing_edges : (v : CapView) (w m : ℕ) (i : IsClosing v w m) → 1 ≤ length v.window.edges
closing_edges v w m i = rw i.hears.edges (some_edges (length (burst (line v.trace).edges w (mode_of m))) _ i.closed_at i.closes)

pub closing_closed : (v : CapView) (w m : ℕ) → IsClosing v w m → window_closed v.window v.time ≡ true
closing_closed v w m i =
    let c : is_closed (mode_of m) (burst (line v.trace).edges w (mode_of m)) v.time ≡ true = closed_at (mode_of m)
    (burst (line v.trace).edges w (mode_of m)) i.closed_at v.time i.closes (let a = i.waits in let b = i.entered in omega arith) in
    rw (i.hears.armed, i.hears.mode, i.hears.edges) c

-- what the registers show then
shows_edges : (b : Bank) → is_readable b ≡ true → edges_read b ≡ length b.window.edges
shows_edges b e = rw e refl

shows_edge_at : (b : Bank) (i : ℕ) → is_readable b ≡ true → i < length b.window.edges → edge_read b i ≡ shown_edge (edge_at b.window.edges i)
shows_edge_at b i e l = rw (shows_edges b e, lt-ltb i (length b.window.edges) l) refl

-- the next edge that CAP copies is the window's
pub next_is : (c : Brain) (b : Bank) → is_readable b ≡ true → length c.burst < length b.window.edges
    → (edge_at b.window.edges (length c.burst)).t.0 < 2147483648
    → next_edge c b ≡ edge_at b.window.edges (length c.burst)
next_is c b e l small = ap edge_of (shows_edge_at b (length c.burst) e l) ∙ edge_of-shown (edge_at b.window.edges (length c.burst)) small

-- ---- the ties after a step of CAP

-- what the notes and the registers say after a step
abbrev pub TiedAfter : List Event → Bank → Place → Stepped → Type 0
TiedAfter trace b p s =
    SignalTied (fold next p s.notes).signal s.core.cap_at (cap_view trace s.core (accessed b s.access) (fold next p s.notes))

-- it begins to read the edges of a window
few_edges : (n : ℕ) → 1 ≤ n → n ≤ 32 → after_edges n ≡ cap.Copy n
few_edges n l m = rw (ne_eqb n 0 (λ e. omega arith)) (ap cap.Copy (least n m))
  where
    least : (n : ℕ) → n ≤ 32 → min n 32 ≡ n
    least n m = omega arith

begin_copied : (v : CapView) (w m n : ℕ) → IsClosing v w m → v.copied ≡ [] → n ≡ length v.window.edges → IsCopying v w m n
begin_copied v w m n i e s =
    let some = closing_edges v w m i in
    record {
      closing = i;
      copied = rw (e, s, none (length v.window.edges)) refl;
      some = rw s some;
      within = rw s (omega arith);
    }
  where
    none : (n : ℕ) → n - n ≡ 0
    none n = omega arith

pub start_tied : (trace : List Event) (c : Brain) (b : Bank) (p : Place) (w m : ℕ) → p.signal ≡ Listens w m → length b.window.edges ≤ 32
    → IsClosing (cap_view trace c b p) w m
    → TiedAfter trace b p (record {
      core = record c {
        burst = [];
        cap_at = after_edges
            (read_value b reg.CapState);
      };
      access = Reads reg.CapState;
      notes = [];
      over = false;
    })
start_tied trace c b p w m e few i =
    let readable : is_readable b ≡ true = closing_closed (cap_view trace c b p) w m i in
    let n : read_value b reg.CapState ≡ length b.window.edges = shows_edges b readable in
    let some : 1 ≤ length b.window.edges = closing_edges (cap_view trace c b p) w m i in
    rw (e, n, few_edges (length b.window.edges) some few)
    (begin_copied (cap_view trace (record c { burst = []; cap_at = cap.Copy (length b.window.edges) }) (accessed b (Reads reg.CapState)) p) w m
    (length b.window.edges)
    (record {
      hears = record {
        armed = i.hears.armed;
        mode = i.hears.mode;
        opened = i.hears.opened;
        edges = i.hears.edges;
        core_mode = i.hears.core_mode;
        running =
            i.hears.running;
        no_timer = i.hears.no_timer;
      };
      closed_at = i.closed_at;
      closes = i.closes;
      waits = i.waits;
      entered = i.entered;
      taken = i.taken;
      no_window = i.no_window;
      no_verdict = i.no_verdict;
    })
    refl refl)

-- it copies one edge
last_of_front : (edges : List Edge) (i : ℕ) → IsInOrder edges → i < length edges → last_at (take i edges) ≤ (edge_at edges i).t.0
last_of_front edges zero o l = omega arith
last_of_front edges (suc i) o l =
    let len : length (take (suc i) edges) ≡ suc i = length-take-le (suc i) edges (omega arith) in
    let at : last_at (take (suc i) edges) ≡ (edge_at edges i).t.0 =
    ap (λ (n : ℕ). (edge_at (take (suc i) edges) n).t.0) (rw len (pred i)) ∙ ap (λ (x : Edge). x.t.0) (get_or-take (suc i) edges i blank (omega arith)) in
    rw at (o i (suc i) (omega arith) l)
  where
    pred : (i : ℕ) → suc i - 1 ≡ i
    pred i = omega arith

copy_takes : (c : Brain) (b : Bank) (i : ℕ) → c.burst ≡ take i b.window.edges → i < length b.window.edges → length b.window.edges ≤ 32
    → IsInOrder b.window.edges
    → next_edge c b ≡ edge_at b.window.edges i → takes c.burst (next_edge c b) ≡ true
copy_takes c b i e l few o n =
    let len : length c.burst ≡ i = rw e (length-take-le i b.window.edges (omega arith)) in
    let last : last_at c.burst ≤ (edge_at b.window.edges i).t.0 = rw e (last_of_front b.window.edges i o l) in
    rw n (and_from (nat_lt (length c.burst) 32) (nat_le (last_at c.burst) (edge_at b.window.edges i).t.0)
    (lt-ltb (length c.burst) 32 (rw len (omega arith))) (le-leb (last_at c.burst) (edge_at b.window.edges i).t.0 last))

copied_judge : (v : CapView) (w m : ℕ) → IsClosing v w m → v.copied ≡ take (length v.window.edges) v.window.edges → SignalTied (Listens w m) cap.Judge v
copied_judge v w m i e = (i, e ∙ take_all (length v.window.edges) v.window.edges (omega arith))

after_copy_at : (x : Bool) (rest : ℕ) (v : CapView) (w m : ℕ) → nat_le rest 1 ≡ x → IsClosing v w m → 1 ≤ rest → rest ≤ length v.window.edges
    → v.copied ≡ take ((length v.window.edges - rest) + 1) v.window.edges → SignalTied (Listens w m) (if x then cap.Judge else cap.Copy (rest - 1)) v
after_copy_at true rest v w m x i some within e =
    let one : rest ≡ 1 = (let l = leb-true rest 1 x in omega arith) in
    copied_judge v w m i (e ∙ ap (λ (n : ℕ). take n v.window.edges) (whole (length v.window.edges) rest one within))
  where
    whole : (n r : ℕ) → r ≡ 1 → r ≤ n → (n - r) + 1 ≡ n
    whole n r e le = omega arith
after_copy_at false rest v w m x i some within e =
    let more : 2 ≤ rest = leb-false rest 1 x in
    record {
      closing = i;
      copied = e ∙ ap (λ (n : ℕ). take n v.window.edges) (one_less (length v.window.edges) rest more within);
      some = omega arith;
      within = omega arith;
    }
  where
    one_less : (n r : ℕ) → 2 ≤ r → r ≤ n → (n - r) + 1 ≡ n - (r - 1)
    one_less n r m le = omega arith

pub copy_reads : (trace : List Event) (c : Brain) (b : Bank) (p : Place) (w m rest : ℕ) → WindowSound b.window b.time → b.time < 2147483648
    → IsCopying (cap_view trace c b p) w m rest
    → next_edge c b ≡ edge_at b.window.edges (length b.window.edges - rest)
copy_reads trace c b p w m rest sound small i =
    let edges : List Edge = b.window.edges in
    let index : ℕ = length edges - rest in
    let some : 1 ≤ rest = i.some in
    let within : rest ≤ length edges = i.within in
    let inside : index < length edges = omega arith in
    let copied : c.burst ≡ take index edges = i.copied in
    let len : length c.burst ≡ index = rw copied (length-take-le index edges (omega arith)) in
    let readable : is_readable b ≡ true = closing_closed (cap_view trace c b p) w m i.closing in
    let early : (edge_at edges index).t.0 < 2147483648 = (let h : (edge_at edges index).t.0 ≤ b.time = sound.past index blank inside in omega arith) in
    next_is c b readable (rw len inside) (rw len early) ∙ ap (λ (n : ℕ). edge_at edges n) len

-- each edge of the window fits the burst
pub copy_goes : (trace : List Event) (c : Brain) (b : Bank) (p : Place) (w m rest : ℕ) → length b.window.edges ≤ 32 → WindowSound b.window b.time
    → b.time < 2147483648 → IsCopying (cap_view trace c b p) w m rest
    → takes c.burst (next_edge c b) ≡ true
copy_goes trace c b p w m rest few sound small i =
    let some : 1 ≤ rest = i.some in
    let within : rest ≤ length b.window.edges = i.within in
    copy_takes c b (length b.window.edges - rest) i.copied (omega arith) few sound.order (copy_reads trace c b p w m rest sound small i)

pub copy_tied : (trace : List Event) (c : Brain) (b : Bank) (p : Place) (w m rest : ℕ) → p.signal ≡ Listens w m → WindowSound b.window b.time
    → b.time < 2147483648
    → IsCopying (cap_view trace c b p) w m rest
    → TiedAfter trace b p (goes_on (record c { burst = c.burst ++ next_edge c b ∷ []; cap_at = after_copy rest }) (Reads (reg.CapEdge (length c.burst))))
copy_tied trace c b p w m rest e sound small i =
    let edges : List Edge = b.window.edges in
    let index : ℕ = length edges - rest in
    let some : 1 ≤ rest = i.some in
    let within : rest ≤ length edges = i.within in
    let inside : index < length edges = omega arith in
    let copied : c.burst ≡ take index edges = i.copied in
    let k : IsClosing (cap_view trace c b p) w m = i.closing in
    rw e
    (after_copy_at (nat_le rest 1) rest
    (cap_view trace (record c { burst = c.burst ++ next_edge c b ∷ []; cap_at = after_copy rest })
    (accessed b (Reads (reg.CapEdge (length c.burst)))) p) w m refl
    (record {
      hears = record {
        armed = k.hears.armed;
        mode = k.hears.mode;
        opened = k.hears.opened;
        edges = k.hears.edges;
        core_mode = k.hears.core_mode;
        running =
            k.hears.running;
        no_timer = k.hears.no_timer;
      };
      closed_at = k.closed_at;
      closes = k.closes;
      waits = k.waits;
      entered = k.entered;
      taken = k.taken;
      no_window = k.no_window;
      no_verdict = k.no_verdict;
    })
    some within
    (ap (λ (xs : List Edge). xs ++ next_edge c b ∷ []) copied ∙ ap (λ (x : Edge). take index edges ++ x ∷ [])
    (copy_reads trace c b p w m rest sound small i) ∙ sym (take_more edges index blank inside)))
