-- A flight runs up to a time: the messages that begin before it are those that the sender has due.
use Rattle.std.proofs.Common.{◌≡◌, ◌≤◌, ◌<◌, ℕ, false, List, [], ◌∷◌, ◌++◌, length, Option, Some, None, refl, sym, ◌∙◌, ap, subst, arith, append_assoc}
use Rattle.std.specs.Prelude.{slice_get, IfSome, All}
use Rattle.std.proofs.lemmas.List.Elements.{All-nil, All-cons, All-head}
use Rattle.esc_base.specs.Trace.{tick_of}
use Rattle.esc_base.specs.declared.signal.Edge.{Edge}
use Rattle.esc_base.specs.declared.signal.Mode.{Mode}
use Rattle.am32trace.specs.declared.flight.Flight.{Flight}
use Rattle.am32trace.specs.declared.flight.Planned.{Planned}
use Rattle.am32trace.specs.declared.flight.Planned.TheVariants as planned
use Rattle.am32trace.specs.declared.frame_out.Spoil.{Spoil}
use Rattle.am32trace.specs.declared.signal_line.SignalLine.{SignalLine}
use Rattle.am32trace.specs.declared.signal_line.Repeated.{Repeated}
use Rattle.am32trace.specs.declared.signal_line.Sending.{Sending}
use Rattle.am32trace.specs.declared.signal_line.Sending.TheVariants as sending
use Rattle.am32trace.specs.Frames.{rest_of, first_edge, IsBefore, IsFrom}
use Rattle.am32trace.specs.Asked.{Due, Sender, due_before, moved_on, beat_from, spoil_left}
use Rattle.am32trace.specs.Line.{left_of, next_by, next_edge, coming, sender_of, due_on, first_due, sender_on, IsOn, IsReady, IsWell}
use Rattle.am32trace.specs.Flown.{event_of, due_with, sender_with, GoesOn, IsPlanned, IsReached}
use Rattle.edge_capture.specs.Modes.{numbers}
use Rattle.am32trace.proofs.Edges.{from_first}
use Rattle.am32trace.proofs.Beats.{train_first, moved_first, none_before, none_delayed, none_spoil, beat_late}
use Rattle.am32trace.proofs.Flying.{goes_on_both, nowhere}

-- some of the messages that come before t have begun
pub record Ran (f : Flight) (a : Option (List ℕ)) (g : Flight) (b : Option (List ℕ)) (t : ℕ) : Type 0 where
  pub so_far : List Due
  pub goes_on : GoesOn f a g b so_far (sender_of g.signal)
  pub rest : so_far ++ due_before (sender_of g.signal) t ≡ due_before (sender_of f.signal) t
  pub moved : moved_on (sender_of g.signal) t ≡ moved_on (sender_of f.signal) t

pub ran_none : (f : Flight) (a : Option (List ℕ)) (t : ℕ) → IsWell f.signal → Ran f a f a t
ran_none f a t well = record { so_far = []; goes_on = nowhere f a well; rest = refl; moved = refl }

-- ---- one event

abbrev sender_by_parts : Mode → ℕ → Option Repeated → Option Spoil → Sending → Sender
sender_by_parts m p o spoil x = record { mode = m; period = p; repeated = coming p x o; spoil = spoil }

module _ (m : Mode) (p : ℕ) (positive : 0 < p) (spoil : Option Spoil) (e : Edge) (t : ℕ) (early : e.t.0 < t) where
  begins_early : (r : Repeated) → Some (first_edge m r.next) ≡ Some e → r.next.0 < t
  begins_early r is = let same : first_edge m r.next ≡ e = cc in subst (λ (x : Edge). x.t.0 < t) (sym same) early

  edge_due : (x : Sending) (o : Option Repeated) → next_by x m o ≡ Some e
      → due_before (sender_by_parts m p o spoil x) t ≡ due_on x (first_due m spoil o) ++ due_before (sender_on x (sender_by_parts m p o spoil x)) t
  edge_due sending.Nothing None is = absurd (cc)
  edge_due sending.Nothing (Some r) is = train_first p positive (sender_by_parts m p (Some r) spoil sending.Nothing) r t refl refl (begins_early r is)
  edge_due (sending.Frame f) o is = refl
  edge_due (sending.Pulse u) o is = refl
  edge_due (sending.Noise n) o is = refl

  edge_moved : (x : Sending) (o : Option Repeated) → next_by x m o ≡ Some e
      → moved_on (sender_by_parts m p o spoil x) t ≡ moved_on (sender_on x (sender_by_parts m p o spoil x)) t
  edge_moved sending.Nothing None is = absurd (cc)
  edge_moved sending.Nothing (Some r) is = moved_first p positive (sender_by_parts m p (Some r) spoil sending.Nothing) r t refl refl (begins_early r is)
  edge_moved (sending.Frame f) o is = refl
  edge_moved (sending.Pulse u) o is = refl
  edge_moved (sending.Noise n) o is = refl

step_due : (l : SignalLine) (q : Planned) (t : ℕ) → IsWell l → IsPlanned l q → tick_of (event_of q) < t
    → due_before (sender_of l) t ≡ due_with l q ++ due_before (sender_with l q) t
step_due l (planned.Signal e) t well is early = edge_due l.mode l.period well.rate.positive l.spoil e t early l.sending l.repeated is
step_due l (planned.Comparator u level) t well is early = refl
step_due l (planned.Serial u byte) t well is early = refl

step_moved : (l : SignalLine) (q : Planned) (t : ℕ) → IsWell l → IsPlanned l q → tick_of (event_of q) < t
    → moved_on (sender_of l) t ≡ moved_on (sender_with l q) t
step_moved l (planned.Signal e) t well is early = edge_moved l.mode l.period well.rate.positive l.spoil e t early l.sending l.repeated is
step_moved l (planned.Comparator u level) t well is early = refl
step_moved l (planned.Serial u byte) t well is early = refl

pub ran_step : (f g h : Flight) (a b c : Option (List ℕ)) (t : ℕ) (q : Planned) → Ran f a g b t
    → GoesOn g b h c (due_with g.signal q) (sender_with g.signal q) → IsPlanned g.signal q → tick_of (event_of q) < t → Ran f a h c t
ran_step f g h a b c t q ran y is early =
    let d = due_with g.signal q in
    let well = ran.goes_on.well in
    let all = goes_on_both f g h a b c ran.so_far d (ran.so_far ++ d) (sender_of g.signal) (sender_with g.signal q) ran.goes_on y refl in
    record {
      so_far = ran.so_far ++ d;
      goes_on = subst (λ (s : Sender). GoesOn f a h c (ran.so_far ++ d) s) (sym y.is) all;
      rest =
          append_assoc ran.so_far d (due_before (sender_of h.signal) t)
          ∙ ap (λ (l : List Due). ran.so_far ++ l) (ap (λ (s : Sender). d ++ due_before s t) y.is ∙ sym (step_due g.signal q t well is early))
          ∙ ran.rest;
      moved = ap (λ (s : Sender). moved_on s t) y.is ∙ sym (step_moved g.signal q t well is early) ∙ ran.moved;
    }

-- ---- no event before t is left

first_reached : (t n : ℕ) (xs : List Edge) → 0 < length xs → All (IsBefore n) xs → IsReached t (slice_get xs 0) → t ≤ n
first_reached t n [] some all reached = absurd (omega arith)
first_reached t n (x ∷ xs) some all reached = let h : x.t.0 ≤ n = All-head (IsBefore n) x xs all in omega (arith, h, reached)

module _ (m : Mode) (p : ℕ) (positive : 0 < p) (t : ℕ) where
  late : (x : Sending) (o : Option Repeated) → IsOn x → IfSome o (IsReady p (left_of x)) → IsReached t (next_by x m o)
      → (r : Repeated) → coming p x o ≡ Some r → t ≤ r.next.0
  late sending.Nothing None on ready reached r is = absurd (cc)
  late sending.Nothing (Some q) on ready reached r is = let same : q ≡ r = cc in subst (λ (z : Repeated). t ≤ z.next.0) same reached
  late (sending.Frame f) None on ready reached r is = absurd (cc)
  late (sending.Frame f) (Some q) on ready reached r is =
      let same : q ≡ r = cc in subst (λ (z : Repeated). t ≤ z.next.0) same (first_reached t q.next.0 (rest_of f) on ready.apart reached)
  late (sending.Pulse u) None on ready reached r is = absurd (cc)
  late (sending.Pulse u) (Some q) on ready reached r is =
      let same : q ≡ r = cc in
      let h : u.0 ≤ q.next.0 = All-head (IsBefore q.next.0) (record { t = u; level = false }) [] ready.apart in
      subst (λ (z : Repeated). t ≤ z.next.0) same (omega (arith, h, reached))
  late (sending.Noise n) None on ready reached r is = absurd (cc)
  late (sending.Noise n) (Some q) on ready reached r is =
      let h = beat_late p positive q.next.0 n.until.0 in
      let same : record { message = q.message; next = record { 0 = beat_from p q.next.0 n.until.0 } } ≡ r = cc in
      subst (λ (z : Repeated). t ≤ z.next.0) same (omega (arith, h, reached, on.0))

line_late : (l : SignalLine) (t : ℕ) → IsWell l → IsReached t (next_edge l) → (r : Repeated) → (sender_of l).repeated ≡ Some r → t ≤ r.next.0
line_late l t well reached = late l.mode l.period well.rate.positive t l.sending l.repeated well.on well.ready reached

still : (s : Sender) (t : ℕ) → 0 < s.period → ((r : Repeated) → s.repeated ≡ Some r → t ≤ r.next.0) → moved_on s t ≡ s
still s t positive h =
    ap (λ (o : Option Repeated). record { mode = s.mode; period = s.period; repeated = o; spoil = spoil_left s.period t s.spoil s.repeated })
    (none_delayed s.period positive s.repeated t h)
    ∙ ap (λ (x : Option Spoil). record { mode = s.mode; period = s.period; repeated = s.repeated; spoil = x })
    (none_spoil s.period positive s.spoil s.repeated t h)

pub ran_end : (f g : Flight) (a b : Option (List ℕ)) (t : ℕ) → Ran f a g b t → IsReached t (next_edge g.signal)
    → GoesOn f a g b (due_before (sender_of f.signal) t) (moved_on (sender_of f.signal) t)
ran_end f g a b t ran reached =
    let well = ran.goes_on.well in
    let h = line_late g.signal t well reached in
    let s = sender_of g.signal in
    let none = none_before s.period well.rate.positive s.mode s.spoil s.repeated t h in
    let due : ran.so_far ++ [] ≡ due_before (sender_of f.signal) t = ap (λ (l : List Due). ran.so_far ++ l) (sym none) ∙ ran.rest in
    let is : s ≡ moved_on (sender_of f.signal) t = sym (still s t well.rate.positive h) ∙ ran.moved in
    let x = goes_on_both f g g a b b ran.so_far [] (due_before (sender_of f.signal) t) s s ran.goes_on (nowhere g b well) due in
    subst (λ (z : Sender). GoesOn f a g b (due_before (sender_of f.signal) t) z) is x

-- ---- what is left at an end

pub left_late : (x : Sending) (m : Mode) (o : Option Repeated) (t : ℕ) → IsReached t (next_by x m o) → All (IsFrom t) (left_of x)
left_late sending.Nothing m o t h = All-nil (IsFrom t)
left_late (sending.Frame f) m o t h = from_first (numbers f.mode).bit (numbers f.mode).inverted f.wide f.begins.0 f.left f.word t f.edges f.has_begun h
left_late (sending.Pulse u) m o t h = All-cons (IsFrom t) (record { t = u; level = false }) [] h (All-nil (IsFrom t))
left_late (sending.Noise n) m o t h = All-nil (IsFrom t)
