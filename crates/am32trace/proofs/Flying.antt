-- A flight goes on, event by event.
use Rattle.std.proofs.Common.{◌≡◌, ℕ, Bool, List, [], ◌∷◌, ◌++◌, Option, refl, sym, ◌∙◌, ap, subst, append_assoc, append-nil, Result, Ok, Err, OnOk}
use Rattle.std.specs.Prelude.{All}
use Rattle.std.proofs.lemmas.List.Elements.{All-nil, All-append}
use Rattle.std.proofs.lemmas.Grind.{flat_map-append}
use Rattle.esc_base.specs.declared.tick.Tick.{Tick}
use Rattle.esc_base.specs.declared.signal.Edge.{Edge}
use Rattle.esc_base.specs.declared.event.Event.{Event}
use Rattle.esc_base.specs.declared.event.Event.TheVariants as event
use Rattle.trace_tools.specs.declared.writer.Writer.{Writer}
use Rattle.trace_tools.specs.Written.{HasWritten, IsTrace}
use Rattle.am32trace.specs.declared.flight.Flight.{Flight}
use Rattle.am32trace.specs.declared.action.Action.{Action}
use Rattle.am32trace.specs.Asked.{Due, LevelAt, Sender, due_before, moved_on, at_once, told, due_by, sender_by}
use Rattle.am32trace.specs.Line.{Transmission, Level, edges_of, asked_as, IsHeard, all_edges, messages_of, pending, sender_of, Begins, Adds, IsWell}
use Rattle.am32trace.specs.Flown.{edges_in, Keeps, GoesOn, Ends, Writes, Sets}
use Rattle.am32trace.specs.Frames.{IsFrom}
use Rattle.am32trace.proofs.Begun.{one_begun, nothing_begun}

edges_both : (xs ys : List Event) → edges_in (xs ++ ys) ≡ edges_in xs ++ edges_in ys
unfolding edges_in
edges_both [] ys = refl
edges_both (event.Edge t level ∷ xs) ys = ap (λ (l : List Edge). record { t = t; level = level } ∷ l) (edges_both xs ys)
edges_both (event.Comp t level ∷ xs) ys = edges_both xs ys
edges_both (event.Serial t byte ∷ xs) ys = edges_both xs ys
edges_both (event.Stall t n ∷ xs) ys = edges_both xs ys

pub edge_alone : (e : Edge) → edges_in (event.Edge e.t e.level ∷ []) ≡ e ∷ []
unfolding edges_in
edge_alone e = refl

no_edges : edges_in [] ≡ []
unfolding edges_in
no_edges = refl

-- some events more, of which the edges are those that were to come, and of transmissions that have begun
join : (old more now left : List Edge) (log begun : List Transmission) → old ++ left ≡ all_edges log → more ++ now ≡ left ++ all_edges begun
    → (old ++ more) ++ now ≡ all_edges (log ++ begun)
join old more now left log begun e f =
    append_assoc old more now
    ∙ ap (λ (l : List Edge). old ++ l) f
    ∙ sym (append_assoc old left (all_edges begun))
    ∙ ap (λ (l : List Edge). l ++ all_edges begun) e
    ∙ sym (flat_map-append edges_of log begun)

messages_both : (log begun : List Transmission) (sent due : List Due) → messages_of log ≡ sent → messages_of begun ≡ due
    → messages_of (log ++ begun) ≡ sent ++ due
messages_both log begun sent due e f =
    flat_map-append asked_as log begun ∙ ap (λ (l : List Due). l ++ messages_of begun) e ∙ ap (λ (l : List Due). sent ++ l) f

-- an event was written
pub writes_one : (f g : Flight) (a b : Option (List ℕ)) (e : Event) (due : List Due) (s : Sender) → Writes f.writer a e g.writer b
    → Begins (pending f.signal) (edges_in (e ∷ []) ++ pending g.signal) due → IsWell g.signal → sender_of g.signal ≡ s → GoesOn f a g b due s
writes_one f g a b e due s w begins well is = record {
  keeps = λ first sent k. record {
    events = k.events ++ e ∷ [];
    log = k.log ++ begins.begun;
    written = w first k.events k.written;
    edges =
        ap (λ (l : List Edge). l ++ pending g.signal) (edges_both k.events (e ∷ []))
        ∙ join (edges_in k.events) (edges_in (e ∷ [])) (pending g.signal) (pending f.signal) k.log begins.begun k.edges begins.edges;
    heard = All-append IsHeard k.log begins.begun k.heard begins.heard;
    messages = messages_both k.log begins.begun sent due k.messages begins.messages;
  };
  well = well;
  is = is;
}

-- an edge of the signal line was written
pub writes_edge : (f g : Flight) (a b : Option (List ℕ)) (e : Edge) (due : List Due) (s : Sender) → Writes f.writer a (event.Edge e.t e.level) g.writer b
    → Adds e (pending f.signal) (pending g.signal) due → IsWell g.signal → sender_of g.signal ≡ s → GoesOn f a g b due s
writes_edge f g a b e due s w begins well is =
    writes_one f g a b (event.Edge e.t e.level) due s w
    (subst (λ (xs : List Edge). Begins (pending f.signal) (xs ++ pending g.signal) due) (sym (edge_alone e)) begins) well is

-- another event was written
pub writes_other : (f g : Flight) (a b : Option (List ℕ)) (e : Event) → edges_in (e ∷ []) ≡ [] → Writes f.writer a e g.writer b
    → g.signal ≡ f.signal → IsWell f.signal → GoesOn f a g b [] (sender_of f.signal)
writes_other f g a b e none w same well =
    writes_one f g a b e [] (sender_of f.signal) w
    (nothing_begun (pending f.signal) (edges_in (e ∷ []) ++ pending g.signal) (ap (λ (xs : List Edge). xs ++ pending g.signal) none ∙ ap pending same))
    (subst IsWell (sym same) well) (ap sender_of same)

pub no_edge_comp : (t : Tick) (level : Bool) → edges_in (event.Comp t level ∷ []) ≡ []
unfolding edges_in
no_edge_comp t level = refl

pub no_edge_serial : (t : Tick) (byte : ℕ) → edges_in (event.Serial t byte ∷ []) ≡ []
unfolding edges_in
no_edge_serial t byte = refl

pub no_edge_stall : (t : Tick) (n : ℕ) → edges_in (event.Stall t n ∷ []) ≡ []
unfolding edges_in
no_edge_stall t n = refl

-- a level of the line, on which nothing is
pub level_begun : (e : Edge) (before after : List Edge) → before ≡ [] → after ≡ before → Adds e before after (LevelAt e.t.0 e.level ∷ [])
level_begun e before after quiet same =
    subst (λ (xs : List Edge). Adds e xs after (LevelAt e.t.0 e.level ∷ [])) (sym quiet)
    (one_begun (Level e) (e ∷ after) tt (ap (λ (xs : List Edge). e ∷ xs) (same ∙ quiet)))

-- nothing was written
pub sets_only : (f g : Flight) (a : Option (List ℕ)) (due : List Due) (s : Sender) → Sets f g due s → GoesOn f a g a due s
sets_only f g a due s h = record {
  keeps = λ first sent k. record {
    events = k.events;
    log = k.log ++ h.begins.begun;
    written = subst (λ (w : Writer). HasWritten w first a k.events) (sym h.writer) k.written;
    edges =
        ap (λ (l : List Edge). l ++ pending g.signal) (sym (append-nil (edges_in k.events)))
        ∙ join (edges_in k.events) [] (pending g.signal) (pending f.signal) k.log h.begins.begun k.edges h.begins.edges;
    heard = All-append IsHeard k.log h.begins.begun k.heard h.begins.heard;
    messages = messages_both k.log h.begins.begun sent due k.messages h.begins.messages;
  };
  well = h.well;
  is = h.is;
}

-- nothing has changed on the line
pub sets_other : (f g : Flight) → g.writer ≡ f.writer → g.signal ≡ f.signal → IsWell f.signal → Sets f g [] (sender_of f.signal)
sets_other f g writer same well = record {
  writer = writer;
  begins = nothing_begun (pending f.signal) (pending g.signal) (ap pending same);
  well = subst IsWell (sym same) well;
  is = ap sender_of same;
}

pub goes_on_both : (f g h : Flight) (a b c : Option (List ℕ)) (due more both : List Due) (s t : Sender) → GoesOn f a g b due s → GoesOn g b h c more t
    → due ++ more ≡ both → GoesOn f a h c both t
goes_on_both f g h a b c due more both s t x y e = record {
  keeps = λ first sent k.
      subst (λ (l : List Due). Keeps h first c l) (append_assoc sent due more ∙ ap (λ (l : List Due). sent ++ l) e)
      (y.keeps first (sent ++ due) (x.keeps first sent k));
  well = y.well;
  is = y.is;
}

pub nowhere : (f : Flight) (a : Option (List ℕ)) → IsWell f.signal → GoesOn f a f a [] (sender_of f.signal)
nowhere f a well = record {
  keeps = λ first sent k. subst (λ (l : List Due). Keeps f first a l) (sym (append-nil sent)) k;
  well = well;
  is = refl;
}

pub nothing_yet : (f : Flight) (given : Option (List ℕ)) → HasWritten f.writer given given [] → pending f.signal ≡ [] → Keeps f given given []
nothing_yet f given w quiet = record {
  events = [];
  log = [];
  written = w;
  edges = ap (λ (l : List Edge). l ++ pending f.signal) no_edges ∙ quiet;
  heard = All-nil IsHeard;
  messages = refl;
}

pub flight_ends : (f g : Flight) (a b c : Option (List ℕ)) (end : ℕ) (due : List Due) (s : Sender) → GoesOn f a g b due s
    → All (IsFrom end) (pending g.signal)
    → ((first : Option (List ℕ)) (events : List Event) → HasWritten g.writer first b events → IsTrace first c events end) → Ends f a c due end
flight_ends f g a b c end due s x late w first sent k =
    let l = x.keeps first sent k in
    record {
      events = l.events;
      log = l.log;
      cut_off = pending g.signal;
      accepted = w first l.events l.written;
      edges = l.edges;
      cut_later = late;
      heard = l.heard;
      messages = l.messages;
    }

-- all up to a line's time, and then the line
pub acts : (f g h : Flight) (a b c : Option (List ℕ)) (s : Sender) (t : ℕ) (x : Action) → GoesOn f a g b (due_before s t) (moved_on s t)
    → GoesOn g b h c (at_once g.signal.mode t x) (told (sender_of g.signal) t x) → GoesOn f a h c (due_by s t x) (sender_by s t x)
acts f g h a b c s t x before now =
    goes_on_both f g h a b c (due_before s t) (at_once s.mode t x) (due_by s t x) (moved_on s t) (sender_by s t x) before
    (subst (λ (z : Sender). GoesOn g b h c (at_once z.mode t x) (told z t x)) before.is now) refl

-- what isn't of the signal line may have changed before
pub same_line : (f g h : Flight) (b c : Option (List ℕ)) (due : List Due) (s : Sender) → g.writer ≡ f.writer → g.signal ≡ f.signal → IsWell f.signal
    → GoesOn g b h c due s → GoesOn f b h c due s
same_line f g h b c due s writer same well x =
    goes_on_both f g h b b c [] due due (sender_of f.signal) s (sets_only f g b [] (sender_of f.signal) (sets_other f g writer same well)) x refl

pub on_ok : {X E : Type 0} (r : Result X E) (P Q : Type 0) → (P → Q) → OnOk r P → OnOk r Q
on_ok (Ok x) P Q f h = f h
on_ok (Err e) P Q f h = tt
