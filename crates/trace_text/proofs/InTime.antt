-- The events of a text, from a place on, come in time.
use Rattle.std.proofs.Common.{◌≡◌, ◌≤◌, ℕ, Bool, true, false, List, [], ◌∷◌, All, Option, Some, None, Result, Ok, Err, refl, sym, ◌∙◌, ap, subst, arith}
use Rattle.std.specs.Prelude.{option_map, option_and_then, slice_get}
use Rattle.std.proofs.lemmas.Bool.{ltb-false}
use Rattle.std.proofs.lemmas.List.Elements.{All-nil, All-cons, All-weaker}
use Rattle.esc_base.specs.declared.tick.Tick.{Tick}
use Rattle.esc_base.specs.declared.event.Event.{Event}
use Rattle.esc_base.specs.declared.event.Event.TheVariants as event
use Rattle.esc_base.specs.Trace.{tick_of}
use Rattle.trace_text.specs.declared.item.Place.{Place}
use Rattle.trace_text.specs.declared.item.Refusal.{Refusal}
use Rattle.trace_text.specs.declared.item.Refusal.TheVariants.{TooLong, BadTime, TimeBack, TooLate, BadKind, BadValue, Trailing, TooClose, TooMany}
use Rattle.trace_text.specs.declared.parse.LineKind.{LineKind}
use Rattle.trace_text.specs.declared.parse.LineKind.TheVariants as kind
use Rattle.trace_text.specs.declared.parse.Entry.{Entry}
use Rattle.trace_text.specs.declared.parse.Entry.TheVariants as entry
use Rattle.trace_text.specs.Line.{fields, level_of, byte_of, number_between, event_of, time_of, kind_in, event_in, first, faults, faults_in, too_many, too_long, bad_time, too_late, bad_kind, bad_value, trailing, too_close, entry_of, ok_unless, said, after_event, time_back}
use Rattle.trace_text.specs.Read.{Reading, Trace, Refused, with_event, is_all, read_line, read_lines, cut, read_from, events_of}

-- ---- the time of an event is that of its line

made_tick : {A : Type 0} (f : A → Event) (t : ℕ) (o : Option A) (e : Event) → ((x : A) → tick_of (f x) ≡ t) → option_map f o ≡ Some e → tick_of e ≡ t
made_tick f t None e h is = absurd (cc)
made_tick f t (Some x) e h is = let same : f x ≡ e = cc in sym (ap tick_of same) ∙ h x

event_tick : (k : LineKind) (t : Tick) (value : List ℕ) (e : Event) → event_of k t value ≡ Some e → tick_of e ≡ t.0
event_tick kind.Edge t value e is = made_tick (λ (level : Bool). event.Edge t level) t.0 (level_of value) e (λ level. refl) is
event_tick kind.Comp t value e is = made_tick (λ (level : Bool). event.Comp t level) t.0 (level_of value) e (λ level. refl) is
event_tick kind.Serial t value e is = made_tick (λ (byte : ℕ). event.Serial t byte) t.0 (byte_of value) e (λ byte. refl) is
event_tick kind.Stall t value e is = made_tick (λ (n : ℕ). event.Stall t n) t.0 (number_between 1 16777216 value) e (λ n. refl) is
event_tick kind.End t value e is = absurd (cc)

then_tick : {A : Type 0} (f : A → Option Event) (t : ℕ) (o : Option A) (e : Event) → ((x : A) → f x ≡ Some e → tick_of e ≡ t) → option_and_then f o ≡ Some e
    → tick_of e ≡ t
then_tick f t None e h is = absurd (cc)
then_tick f t (Some x) e h is = h x is

event_in_tick : (fs : List (List ℕ)) (e : Event) → event_in fs ≡ Some e → tick_of e ≡ time_of fs
event_in_tick fs e is =
    let t : Tick = record { 0 = time_of fs } in
    then_tick (λ (k : LineKind). option_and_then (event_of k t) (slice_get fs 2)) (time_of fs) (kind_in fs) e
    (λ k. then_tick (event_of k t) (time_of fs) (slice_get fs 2) e (λ value. event_tick k t value e)) is

pub time-after_event : (p : Place) (e : Event) → (after_event p e).time.0 ≡ tick_of e
time-after_event p (event.Edge t level) = refl
time-after_event p (event.Comp t level) = refl
time-after_event p (event.Serial t byte) = refl
time-after_event p (event.Stall t n) = refl

-- ---- and no line that is good goes back in time

none_of : (b : Bool) (k : Refusal) (rs : List (Bool × Refusal)) → first ((b, k) ∷ rs) ≡ None → (b ≡ false) × (first rs ≡ None)
none_of true k rs e = absurd (cc)
none_of false k rs e = (refl, e)

ok_is : (o : Option Refusal) (x y : Entry) → ok_unless o x ≡ Ok y → (o ≡ None) × (x ≡ y)
ok_is None x y e = (refl, cc)
ok_is (Some k) x y e = absurd (cc)

entry_is : (t : ℕ) (o : Option Event) (e : Event) → entry_of t o ≡ entry.Event e → o ≡ Some e
entry_is t None e is = absurd (cc)
entry_is t (Some x) e is = let same : x ≡ e = cc in ap (λ (v : Event). Some v) same

said_in_time : (p : Place) (line : List ℕ) (e : Event) → said p line ≡ Ok (entry.Event e) → p.time.0 ≤ tick_of e
said_in_time p line e is =
    let fs : List (List ℕ) = fields line in
    let good = ok_is (first (faults p line)) (entry_of (time_of fs) (event_in fs)) (entry.Event e) is in
    let a = none_of (too_many p) TooMany ((too_long line, TooLong) ∷ faults_in p fs) good.0 in
    let b = none_of (too_long line) TooLong (faults_in p fs) a.1 in
    let later : List (Bool × Refusal) =
    (too_late fs, TooLate) ∷ (bad_kind fs, BadKind) ∷ (bad_value fs, BadValue) ∷ (trailing fs, Trailing) ∷ (too_close p (event_in fs), TooClose) ∷ [] in
    let c = none_of (bad_time fs) BadTime ((time_back p fs, TimeBack) ∷ later) b.1 in
    let d = none_of (time_back p fs) TimeBack later c.1 in
    subst (λ (t : ℕ). p.time.0 ≤ t) (sym (event_in_tick fs e (entry_is (time_of fs) (event_in fs) e good.1))) (ltb-false (time_of fs) p.time.0 d.0)

-- ---- line by line

abbrev From : ℕ → List Event → Type 0
From t events = All (λ e. t ≤ tick_of e) events

from_later : (t u : ℕ) (events : List Event) → t ≤ u → From u events → From t events
from_later t u events le h = All-weaker (λ e. u ≤ tick_of e) (λ e. t ≤ tick_of e) (λ e at. omega arith) events h

with_first : (t : ℕ) (e : Event) (r : Reading) → t ≤ tick_of e → From t (events_of r) → From t (events_of (with_event e r))
with_first t e (Trace events end) le h = All-cons (λ x. t ≤ tick_of x) e events le h
with_first t e (Refused events line kind) le h = All-cons (λ x. t ≤ tick_of x) e events le h

line_in_time : (p : Place) (line : List ℕ) (r : Result Entry Refusal) (last : Bool) (more : Event → Reading) → said p line ≡ r
    → ((e : Event) → From (after_event p e).time.0 (events_of (more e)))
    → From p.time.0 (events_of (read_line p r last more))
line_in_time p line (Ok (entry.Event e)) last more is h =
    let le : p.time.0 ≤ tick_of e = said_in_time p line e is in
    with_first p.time.0 e (more e) le
    (from_later p.time.0 (tick_of e) (events_of (more e)) le (subst (λ (t : ℕ). From t (events_of (more e))) (time-after_event p e) (h e)))
line_in_time p line (Ok (entry.End t)) true more is h = All-nil (λ e. p.time.0 ≤ tick_of e)
line_in_time p line (Ok (entry.End t)) false more is h = All-nil (λ e. p.time.0 ≤ tick_of e)
line_in_time p line (Err kind) last more is h = All-nil (λ e. p.time.0 ≤ tick_of e)

lines_in_time : (p : Place) (lines : List (List ℕ)) (rest : List ℕ) → From p.time.0 (events_of (read_lines p lines rest))
lines_in_time p [] rest = All-nil (λ e. p.time.0 ≤ tick_of e)
lines_in_time p (line ∷ lines) rest =
    line_in_time p line (said p line) (is_all lines rest) (λ e. read_lines (after_event p e) lines rest) refl (λ e. lines_in_time (after_event p e) lines rest)

-- the events of a text stand at the time of the place or later
pub events_in_time : (p : Place) (text : List ℕ) → All (λ e. p.time.0 ≤ tick_of e) (events_of (read_from p text))
unfolding read_from
events_in_time p text = lines_in_time p (cut text).lines (cut text).rest
