-- No rest passes without a window: CAP is called, and opens it.
use Rattle.std.proofs.Common.{◌≡◌, ◌≤◌, ◌+◌, ℕ, Bool, true, false, max, if◌then◌else◌, List, [], ◌∷◌, ◌++◌, reverse, Some, inl, inr, ◌≢◌, ◌==◌, All, refl, ◌∙◌, ap, subst, arith, append-nil, append_assoc}
use Rattle.std.proofs.lemmas.Bool.{le-leb, ne_eqb}
use Rattle.std.proofs.lemmas.List.Elements.{All-head, All-tail}
use Rattle.esc_base.specs.declared.kind.Kind.{Kind}
use Rattle.esc_base.specs.declared.kind.Kind.TheVariants as kind
use Rattle.esc_base.specs.declared.event.Event.{Event}
use Rattle.esc_base.specs.declared.note.Note.{Note}
use Rattle.esc_base.specs.declared.note.Note.TheVariants as note
use Rattle.esc_base.specs.declared.tick.Tick.{Tick}
use Rattle.esc_base.specs.Journal.{Each}
use Rattle.esc_base.specs.Trace.{line}
use Rattle.settings_block.specs.declared.stored.Loaded.{Loaded}
use Rattle.interrupt_machine.specs.declared.nest.Nest.{Nest}
use Rattle.arming.proofs.InOrder.{each_rest}
use Rattle.interrupt_machine.specs.Open.{kind_of}
use Rattle.interrupt_machine.specs.Response.{counts, wait_next}
use Rattle.esc_laws.specs.Place.{Signal, Rests, Place, place_entered, place_left, told, replied, next, place}
use Rattle.esc_laws.specs.Saves.{advance_of}
use Rattle.esc_laws.specs.Nested.{HasDone, NestRule}
use Rattle.esc_laws.specs.Windowed.{AnswersAt, WindowRuleAt, WindowRule}
use Rattle.esc_laws.specs.Rested.{first_rested}
use Rattle.esc_laws.specs.Steps.{Turned, opening, is_called, called, EachStep, StepFits}
use Rattle.esc_laws.specs.RestOpens.{waiting_steps, HasNoWindow, StaysWithout, RestCallsCap, OpensNone, CapOpensWindow}
use Rattle.esc_laws.proofs.Pushes.{called-push, place-push}

steps_rest : (P : List Turned → Turned → Type 0) (before log rest : List Turned) → EachStep P before (log ++ rest) → EachStep P (before ++ log) rest
steps_rest P before [] rest each = rw (append-nil before) each
steps_rest P before (e ∷ log) rest each = rw (← append_assoc before (e ∷ []) log) (steps_rest P (before ++ e ∷ []) log rest each.1)

-- CAP is called all the time
is_seen : (loaded : Loaded) (trace : List Event) (from latest r : ℕ) (log : List Turned) (t : ℕ) → HasNoWindow loaded from latest r log
    → first_rested (line trace).edges (max latest r) ≤ t → is_called loaded trace log t kind.Cap ≡ true
is_seen loaded trace from latest r log t h le = rw (h.0, h.1, le-leb (first_rested (line trace).edges (max latest r)) t le) refl

stays_head : (loaded : Loaded) (from latest r u : ℕ) (before steps : List Turned) → StaysWithout loaded from latest r u before steps
    → HasNoWindow loaded from latest r before
stays_head loaded from latest r u before [] s = s
stays_head loaded from latest r u before (e ∷ steps) s = s.0

-- each step that counts is counted
counted_on : (nest : Nest) (k : Kind) (v : Bool) (n : ℕ) → (if v then n + 1 else n) ≡ n + (if v then 1 else 0)
counted_on nest k true n = refl
counted_on nest k false n = omega arith

called_on : (loaded : Loaded) (nest : Nest) (trace : List Event) (before : List Turned) (e : Turned) → is_called loaded trace before e.tick kind.Cap ≡ true
    → is_called loaded trace (before ++ e ∷ []) e.tick kind.Cap ≡ true
    → called loaded nest trace (before ++ e ∷ []) kind.Cap ≡ called loaded nest trace before kind.Cap + (if counts nest kind.Cap (Some e.kind) then 1 else 0)
called_on loaded nest trace before e x y =
    called-push loaded nest trace before e kind.Cap
    ∙ ap (λ (v : Bool). wait_next nest kind.Cap v (is_called loaded trace (before ++ e ∷ []) e.tick kind.Cap) (Some e.kind)
    (called loaded nest trace before kind.Cap)) x
    ∙ ap (λ (v : Bool). wait_next nest kind.Cap true v (Some e.kind) (called loaded nest trace before kind.Cap)) y
    ∙ counted_on nest kind.Cap (counts nest kind.Cap (Some e.kind)) (called loaded nest trace before kind.Cap)

few_steps : (loaded : Loaded) (nest : Nest) (cost : ℕ) (trace : List Event) (before through after : List Turned) (from latest r : ℕ)
    → called loaded nest trace before kind.Cap ≤ 8
    → EachStep (StepFits loaded nest cost trace) before (through ++ after)
    → StaysWithout loaded from latest r (first_rested (line trace).edges (max latest r)) before through
    → called loaded nest trace before kind.Cap + waiting_steps nest through ≤ 8
few_steps loaded nest cost trace before [] after from latest r few each stays = omega arith
few_steps loaded nest cost trace before (e ∷ through) after from latest r few each stays =
    let more = called_on loaded nest trace before e (is_seen loaded trace from latest r before e.tick stays.0 stays.1)
    (is_seen loaded trace from latest r (before ++ e ∷ []) e.tick (stays_head loaded from latest r _ (before ++ e ∷ []) through stays.2) stays.1) in
    let rest = few_steps loaded nest cost trace (before ++ e ∷ []) through after from latest r (each.0.patient kind.Cap) each.1 stays.2 in
    omega arith

pub rest_calls_cap : RestCallsCap
rest_calls_cap loaded nest cost trace before [] after from latest r each stays = omega arith
rest_calls_cap loaded nest cost trace before (e ∷ through) after from latest r each stays =
    let each' : EachStep (StepFits loaded nest cost trace) before (e ∷ through ++ after) = steps_rest (StepFits loaded nest cost trace) [] before
    (e ∷ through ++ after) each in
    let more = called_on loaded nest trace before e (is_seen loaded trace from latest r before e.tick stays.0 stays.1)
    (is_seen loaded trace from latest r (before ++ e ∷ []) e.tick (stays_head loaded from latest r _ (before ++ e ∷ []) through stays.2) stays.1) in
    let rest = few_steps loaded nest cost trace (before ++ e ∷ []) through after from latest r (each'.0.patient kind.Cap) each'.1 stays.2 in
    omega arith

-- ---- CAP, once it is entered, opens a window

-- CAP has noted nothing since its entry
record NothingYet (from latest r : ℕ) (p : Place) : Type 0 where
  signal : p.signal ≡ Rests from latest r
  windows : p.windows ≡ 0
  verdicts : p.verdicts ≡ 0

answers_none : (loaded : Loaded) (trace : List Event) (s : Signal) (from latest r entered t : ℕ) (said : Note) → s ≡ Rests from latest r
    → AnswersAt loaded trace s entered t said → ⊥
answers_none loaded trace s from latest r entered t said e a = subst (λ (x : Signal). AnswersAt loaded trace x entered t said) e a

entered_other : (from latest r : ℕ) (p : Place) (t k : ℕ) → k ≢ 3 → NothingYet from latest r p → NothingYet from latest r (place_entered p t k)
entered_other from latest r p t k ne h = by_tests (k == 3) (k == 2) (k == 0) (kind_of k ∷ p.stack) (ne_eqb k 3 ne)
  where
    by_tests : (x a b : Bool) (stack : List Kind) → x ≡ false
        → NothingYet from latest r
        (if x then record p { stack = stack; cap_entered = t; windows = 0; verdicts = 0; last = t } else if a then record p {
          stack = stack;
          ticks = 0;
          last =
              t;
        } else if b then record p { stack = stack; saves = 0; last = t } else record p { stack = stack; last = t })
    by_tests true a b stack e = absurd (let z = e in cc)
    by_tests false true b stack e = record { signal = h.signal; windows = h.windows; verdicts = h.verdicts }
    by_tests false false true stack e = record { signal = h.signal; windows = h.windows; verdicts = h.verdicts }
    by_tests false false false stack e = record { signal = h.signal; windows = h.windows; verdicts = h.verdicts }

left_other : (from latest r : ℕ) (p : Place) (t k : ℕ) → k ≢ 3 → NothingYet from latest r p → NothingYet from latest r (place_left p t k)
left_other from latest r p t k ne h = record { signal = rw (ne_eqb k 3 ne) h.signal; windows = h.windows; verdicts = h.verdicts }

nothing_on : (loaded : Loaded) (trace : List Event) (from latest r : ℕ) (p : Place) (back : List Note) (n : Note) → OpensNone n
    → WindowRuleAt loaded trace p back n → NothingYet from latest r p → NothingYet from latest r (next p n)
nothing_on loaded trace from latest r p back (note.Window t m) o w h = absurd o
nothing_on loaded trace from latest r p back (note.Enter t k) o w h = entered_other from latest r p t.0 k o h
nothing_on loaded trace from latest r p back (note.Leave t k) o w h = left_other from latest r p t.0 k o h
nothing_on loaded trace from latest r p back (note.Good t v q) o w h =
    absurd (answers_none loaded trace p.signal from latest r p.cap_entered t.0 (note.Good t v q) h.signal w)
nothing_on loaded trace from latest r p back (note.Detected t m) o w h =
    absurd (answers_none loaded trace p.signal from latest r p.cap_entered t.0 (note.Detected t m) h.signal w)
nothing_on loaded trace from latest r p back (note.Nothing t) o w h =
    absurd (answers_none loaded trace p.signal from latest r p.cap_entered t.0 (note.Nothing t) h.signal w)
nothing_on loaded trace from latest r p back (note.Bad t y) o w h =
    absurd (answers_none loaded trace p.signal from latest r p.cap_entered t.0 (note.Bad t y) h.signal w)
nothing_on loaded trace from latest r p back (note.Period t period) o w h =
    record { signal = ap (λ (s : Signal). told s period) h.signal; windows = h.windows; verdicts = h.verdicts }
nothing_on loaded trace from latest r p back (note.Reply t start b) o w h =
    record { signal = ap (λ (s : Signal). replied s start.0) h.signal; windows = h.windows; verdicts = h.verdicts }
nothing_on loaded trace from latest r p back n o w h = record { signal = h.signal; windows = h.windows; verdicts = h.verdicts }

not_done : (from latest r : ℕ) (p : Place) (back : List Note) (advance : ℕ) → NothingYet from latest r p → HasDone advance kind.Cap p back → ⊥
not_done from latest r p back advance h (inl v) = let z = h.verdicts in omega arith
not_done from latest r p back advance h (inr w) = let z = h.windows in let y = w.1 in omega arith

returns_not : (loaded : Loaded) (nest : Nest) (trace : List Event) (from latest r : ℕ) (before through after : List Note) (u : Tick)
    → NothingYet from latest r (place before)
    → All OpensNone through
    → Each (WindowRule loaded trace) before (through ++ note.Leave u 3 ∷ after)
    → Each (NestRule (advance_of loaded.settings) nest) before (through ++ note.Leave u 3 ∷ after) → ⊥
returns_not loaded nest trace from latest r before [] after u h a w n =
    not_done from latest r (place before) (reverse before) (advance_of loaded.settings) h n.0.1
returns_not loaded nest trace from latest r before (x ∷ through) after u h a w n =
    returns_not loaded nest trace from latest r (before ++ x ∷ []) through after u
    (rw (place-push before x) (nothing_on loaded trace from latest r (place before) (reverse before) x (All-head OpensNone x through a) w.0 h))
    (All-tail OpensNone x through a) w.1 n.1

pub cap_opens_window : CapOpensWindow
cap_opens_window loaded nest trace before through after from latest r t u windowed nested rests none =
    let start : List Note = opening loaded ++ before in
    let all : List Note = note.Enter t 3 ∷ through ++ note.Leave u 3 ∷ after in
    let w : Each (WindowRule loaded trace) start all = each_rest (WindowRule loaded trace) (opening loaded) before all
    (each_rest (WindowRule loaded trace) [] (opening loaded) (before ++ all) windowed) in
    let n : Each (NestRule (advance_of loaded.settings) nest) start all =
    each_rest (NestRule (advance_of loaded.settings) nest) (opening loaded) before all nested in
    returns_not loaded nest trace from latest r (start ++ note.Enter t 3 ∷ []) through after u
    (rw (place-push start (note.Enter t 3)) (record { signal = rests; windows = refl; verdicts = refl })) none w.1 n.1
