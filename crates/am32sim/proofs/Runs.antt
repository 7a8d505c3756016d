-- A whole run, event by event, and what each of its endings says.
use Rattle.std.proofs.Common.{false, ◌≡◌, ◌<◌, ◌≤◌, inl, inr, All, ℕ, List, [], ◌∷◌, ◌++◌, Option, Some, None, refl, sym, ◌∙◌, ap, subst, append_assoc, append-nil, arith}
use Rattle.std.proofs.lemmas.List.Concat.{flat_map-append}
use Rattle.std.proofs.lemmas.List.Elements.{All-nil, All-cons, All-weaker}
use Rattle.std.specs.Io.KnownBytes.{append_known}
use Rattle.esc_base.specs.declared.note.Note.{Note}
use Rattle.esc_base.specs.declared.event.Event.{Event}
use Rattle.esc_base.specs.Flash.{Told}
use Rattle.esc_base.specs.Journal.{time_of}
use Rattle.esc_base.specs.Outside.{AppendsFront}
use Rattle.esc_base.specs.Trace.{tick_of}
use Rattle.trace_text.specs.declared.item.Refusal.{Refusal}
use Rattle.trace_text.specs.declared.item.Place.{Place}
use Rattle.trace_text.specs.declared.reader.Lines.{Lines}
use Rattle.trace_text.specs.Line.{after_event}
use Rattle.trace_text.specs.Read.{Reading, Trace, Refused, Read, read_from, events_of, TakenEvents}
use Rattle.trace_text.specs.Ahead.{HasRead, unread, place}
use Rattle.trace_text.specs.Text.{note_bytes, Text}
use Rattle.trace_text.proofs.Answering.{taken_held, none_taken}
use Rattle.trace_text.proofs.InTime.{time-after_event, events_in_time}
use Rattle.interrupt_machine.specs.declared.nest.Nest.{Nest}
use Rattle.trace_runner.specs.declared.state.RunConfig.{RunConfig}
use Rattle.settings_block.specs.declared.stored.Loaded.{Loaded}
use Rattle.esc_laws.specs.Saves.{FlashFits}
use Rattle.esc_laws.specs.Steps.{Turned, opening, notes_in, journal}
use Rattle.esc_laws.specs.Legal.{Legal}
use Rattle.esc_laws.specs.Saves.{is_save}
use Rattle.esc_rooms.proofs.main.Saves.{first_unsaved, fits_start}
use Rattle.esc_laws.proofs.Notes.{all_front}
use Rattle.trace_runner.specs.declared.state.Runner.{Runner}
use Rattle.esc_base.proofs.OutsideLaws.{append_known-twice}
use Rattle.trace_runner.specs.Lines.{BrokeLines}
use Rattle.trace_runner.specs.Run.{Outset, StandsFor, LeftBelow, GoesOn, BreaksOff, nest_of, cost_of, newest}
use Rattle.am32sim.specs.Run.{last_tick_from, last_tick, Reads, Wrote, IsLegalFront, IsDone, IsRefused, IsReadFault, IsWriteFault}

-- ---- what was read

last_tick_from-push : (t : ℕ) (events : List Event) (e : Event) → last_tick_from t (events ++ e ∷ []) ≡ tick_of e
last_tick_from-push t [] e = refl
last_tick_from-push t (x ∷ events) e = last_tick_from-push (tick_of x) events e

reads_all : (left : Option (List ℕ)) (r : Reading) → ((bytes : List ℕ) → left ≡ Some bytes → Read bytes ≡ r) → Reads left r
reads_all None r f = tt
reads_all (Some bytes) r f = f bytes refl

-- ---- what was written

journal-append : (loaded : Loaded) (steps log : List Turned) → journal loaded (steps ++ log) ≡ journal loaded steps ++ notes_in log
journal-append loaded steps log = ap (λ (ns : List Note). opening loaded ++ ns) (flat_map-append (λ e. e.notes) steps log)

-- what was given so far, and what a call adds
given_more : (first before after : Option (List ℕ)) (notes more : List Note) → before ≡ append_known first (Text notes)
    → after ≡ append_known before (Text more) → after ≡ append_known first (Text (notes ++ more))
given_more first before after notes more e f =
    f ∙ ap (λ (o : Option (List ℕ)). append_known o (Text more)) e ∙ sym (append_known-twice first (Text notes) (Text more))
    ∙ ap (append_known first) (sym (flat_map-append note_bytes notes more))

-- ---- the run so far

pub record SoFar (cfg : RunConfig) (o : Outset) (now : Told) (r : Runner) (l : Lines) (left_first left given_first given : Option (List ℕ)) : Type 0 where
  pub trace : List Event
  pub steps : List Turned
  pub stands : StandsFor r o now trace steps
  pub legal : Legal o.loaded cfg.nest cfg.cost trace (newest r) (journal o.loaded steps)
  pub flash : FlashFits o.loaded o.flash now (journal o.loaded steps)
  pub nest : nest_of r ≡ cfg.nest
  pub cost : cost_of r ≡ cfg.cost
  pub last : last_tick trace ≡ newest r
  pub in_time : newest r ≡ (place l).time.0
  pub given_is : given ≡ append_known given_first (Text (journal o.loaded steps))
  pub read : HasRead l left_first left trace

as_run : (cfg : RunConfig) (o : Outset) (nest : Nest) (cost : ℕ) (trace : List Event) (until : ℕ) (notes : List Note) → nest ≡ cfg.nest → cost ≡ cfg.cost
    → Legal o.loaded nest cost trace until notes → Legal o.loaded cfg.nest cfg.cost trace until notes
as_run cfg o nest cost trace until notes e f l = rw (← e, ← f) l

left_as_run : (cfg : RunConfig) (o : Outset) (now : Told) (nest : Nest) (cost until : ℕ) (trace : List Event) (notes : List Note) → nest ≡ cfg.nest
    → cost ≡ cfg.cost → LeftBelow o now nest cost until trace notes → LeftBelow o now cfg.nest cfg.cost until trace notes
left_as_run cfg o now nest cost until trace notes e f l = rw (← e, ← f) l

-- notes below a tick are before an event at that tick and before those that are later
all_later : (until : ℕ) (notes : List Note) (e : Event) (held : List Event) → All (λ n. time_of n < until) notes → until ≡ tick_of e
    → All (λ x. until ≤ tick_of x) held → All (λ x. All (λ n. time_of n < tick_of x) notes) (e ∷ held)
all_later until notes e held below at later =
    let before : (x : Event) → until ≤ tick_of x → All (λ n. time_of n < tick_of x) notes = λ x le. All-weaker (λ n. time_of n < until)
    (λ n. time_of n < tick_of x) (λ n lt. omega arith) notes below in
    All-cons (λ x. All (λ n. time_of n < tick_of x) notes) e held (before e (omega arith))
    (All-weaker (λ x. until ≤ tick_of x) (λ x. All (λ n. time_of n < tick_of x) notes) before held later)

module _ {K : Type 0} (given : K → Option (List ℕ)) (took broke : K → List ℕ → K → Type 0) (cfg : RunConfig) (o : Outset) (now now' : Told) where
  pub so_far_none : (r r' : Runner) (l : Lines) (left : Option (List ℕ)) (a b : K) → StandsFor r o now [] []
      → Legal o.loaded (nest_of r) (cost_of r) [] 0 (journal o.loaded []) → FlashFits o.loaded o.flash now (journal o.loaded []) → r' ≡ r
      → nest_of r ≡ cfg.nest → cost_of r ≡ cfg.cost → newest r ≡ 0 → (place l).time.0 ≡ 0 → ((left : Option (List ℕ)) → HasRead l left left [])
      → given b ≡ append_known (given a) (Text (opening o.loaded)) → SoFar cfg o now r' l left left (given a) (given b)
  so_far_none r r' l left a b st legal flash same nest cost new time begins is = rw same (record {
    trace = [];
    steps = [];
    stands = st;
    legal = rw new (as_run cfg o (nest_of r) (cost_of r) [] 0 (journal o.loaded []) nest cost legal);
    flash = flash;
    nest = nest;
    cost = cost;
    last = sym new;
    in_time = new ∙ sym time;
    given_is = is;
    read = begins left;
  })

  pub so_far_event : (r r' : Runner) (l l' : Lines) (left_first left left' given_first : Option (List ℕ)) (a b : K) (e : Event)
      → SoFar cfg o now r l left_first left given_first (given a)
      → newest r' ≡ tick_of e → nest_of r' ≡ nest_of r → cost_of r' ≡ cost_of r → place l' ≡ after_event (place l) e
      → ((first : Option (List ℕ)) (events : List Event) → HasRead l first left events → HasRead l' first left' (events ++ e ∷ []))
      → ((trace : List Event) (steps : List Turned) → StandsFor r' o now' trace steps
      → Legal o.loaded (nest_of r') (cost_of r') trace (newest r') (journal o.loaded steps))
      → ((trace : List Event) (steps : List Turned) → StandsFor r' o now' trace steps → FlashFits o.loaded o.flash now' (journal o.loaded steps))
      → GoesOn given took (StandsFor r o now) (StandsFor r' o now') (e ∷ []) a b → SoFar cfg o now' r' l' left_first left' given_first (given b)
  so_far_event r r' l l' left_first left left' given_first a b e s new nest cost after reads legal flash g =
      let st : StandsFor r' o now' (s.trace ++ e ∷ []) (s.steps ++ g.log) = g.stands s.trace s.steps s.stands in
      record {
        trace = s.trace ++ e ∷ [];
        steps = s.steps ++ g.log;
        stands = st;
        legal = as_run cfg o (nest_of r') (cost_of r') (s.trace ++ e ∷ []) (newest r') (journal o.loaded (s.steps ++ g.log)) (nest ∙ s.nest)
            (cost ∙ s.cost) (legal (s.trace ++ e ∷ []) (s.steps ++ g.log) st);
        flash = flash (s.trace ++ e ∷ []) (s.steps ++ g.log) st;
        nest = nest ∙ s.nest;
        cost = cost ∙ s.cost;
        last = last_tick_from-push 0 s.trace e ∙ sym new;
        in_time = new ∙ sym (time-after_event (place l) e) ∙ ap (λ (p : Place). p.time.0) (sym after);
        given_is = given_more given_first (given a) (given b) (journal o.loaded s.steps) (notes_in g.log) s.given_is g.given_is
            ∙ ap (λ (ns : List Note). append_known given_first (Text ns)) (sym (journal-append o.loaded s.steps g.log));
        read = reads left_first s.trace s.read;
      }

  -- ---- the sink refuses a line

  -- one of the two first ones
  pub broken_begin : (left : Option (List ℕ)) (a b : K) → BrokeLines given took broke a (opening o.loaded) b → now' ≡ o.flash
      → IsWriteFault cfg o now' left left (given a) (given b)
  broken_begin left a b g same = record {
    trace = [];
    later = [];
    reads = none_taken left;
    wrote = record {
      notes = g.done;
      last = g.last;
      left = inl (record { rest = g.rest; is = g.parts ∙ sym (append_assoc g.done (g.last ∷ []) g.rest) });
      flash = rw same (fits_start o.loaded o.flash (g.done ++ g.last ∷ []) (all_front (λ n. is_save n ≡ false) (g.done ++ g.last ∷ []) g.rest
          (subst (λ (ns : List Note). All (λ n. is_save n ≡ false) ns) (g.parts ∙ sym (append_assoc g.done (g.last ∷ []) g.rest))
          (first_unsaved o.loaded.fault))));
      front = subst (λ (x : Option (List ℕ)). AppendsFront x (note_bytes g.last) (given b)) g.given_is g.appended;
    };
  }

  -- one of a step
  broken : (r : Runner) (until : ℕ) (left_first left given_first : Option (List ℕ)) (trace later : List Event) (steps : List Turned) (a b : K)
      → StandsFor r o now trace steps → nest_of r ≡ cfg.nest → cost_of r ≡ cfg.cost → given a ≡ append_known given_first (Text (journal o.loaded steps))
      → TakenEvents left_first left (trace ++ later)
      → ((notes : List Note) → All (λ n. time_of n < until) notes → All (λ e. All (λ n. time_of n < tick_of e) notes) later)
      → BreaksOff given took broke o.loaded (StandsFor r o now) (LeftBelow o now' (nest_of r) (cost_of r) until) a b
      → IsWriteFault cfg o now' left_first left given_first (given b)
  broken r until left_first left given_first trace later steps a b st nest cost is reads before g =
      let whole : List Note = journal o.loaded steps ++ (g.notes ++ g.last ∷ []) in
      let l : LeftBelow o now' cfg.nest cfg.cost until trace whole = left_as_run cfg o now' (nest_of r) (cost_of r) until trace whole nest cost
      (g.left_as trace steps st) in
      let f : IsLegalFront cfg o.loaded trace later whole = record { legal = l.legal; before = before whole l.below } in
      record {
        trace = trace;
        later = later;
        reads = reads;
        wrote = record {
          notes = journal o.loaded steps ++ g.notes;
          last = g.last;
          left =
              inr (subst (λ (ns : List Note). IsLegalFront cfg o.loaded trace later ns) (sym (append_assoc (journal o.loaded steps) g.notes (g.last ∷ []))) f);
          flash = subst (λ (ns : List Note). FlashFits o.loaded o.flash now' ns) (sym (append_assoc (journal o.loaded steps) g.notes (g.last ∷ []))) l.flash;
          front = subst (λ (x : Option (List ℕ)). AppendsFront x (note_bytes g.last) (given b))
              (given_more given_first (given a) (given g.mid) (journal o.loaded steps) g.notes is g.given_is) g.appended;
        };
      }

  -- an event, and those of the lines that are held, were read and not applied
  pub broken_event : (r : Runner) (l l' : Lines) (until : ℕ) (left_first left left' given_first : Option (List ℕ)) (a b : K) (e : Event)
      → SoFar cfg o now r l left_first left given_first (given a) → until ≡ tick_of e
      → place l' ≡ after_event (place l) e
      → ((first : Option (List ℕ)) (events : List Event) → HasRead l first left events → HasRead l' first left' (events ++ e ∷ []))
      → BreaksOff given took broke o.loaded (StandsFor r o now) (LeftBelow o now' (nest_of r) (cost_of r) until) a b
      → IsWriteFault cfg o now' left_first left' given_first (given b)
  broken_event r l l' until left_first left left' given_first a b e s at after reads g =
      let held : List Event = events_of (read_from (place l') (unread l'.held)) in
      let time : until ≡ (place l').time.0 = at ∙ sym (time-after_event (place l) e) ∙ ap (λ (p : Place). p.time.0) (sym after) in
      broken r until left_first left' given_first s.trace (e ∷ held) s.steps a b s.stands s.nest s.cost s.given_is
      (subst (λ (es : List Event). TakenEvents left_first left' es) (append_assoc s.trace (e ∷ []) held)
      (taken_held l' left_first left' (s.trace ++ e ∷ []) (reads left_first s.trace s.read)))
      (λ notes below. all_later until notes e held below at (subst (λ (t : ℕ). All (λ x. t ≤ tick_of x) held) (sym time)
      (events_in_time (place l') (unread l'.held)))) g

  pub broken_end : (r : Runner) (l : Lines) (until : ℕ) (left_first left left' given_first : Option (List ℕ)) (a b : K)
      → SoFar cfg o now r l left_first left given_first (given a)
      → ((first : Option (List ℕ)) (events : List Event) → HasRead l first left events → TakenEvents first left' events)
      → BreaksOff given took broke o.loaded (StandsFor r o now) (LeftBelow o now' (nest_of r) (cost_of r) until) a b
      → IsWriteFault cfg o now' left_first left' given_first (given b)
  broken_end r l until left_first left left' given_first a b s taken g =
      broken r until left_first left' given_first s.trace [] s.steps a b s.stands s.nest s.cost s.given_is
      (rw (append-nil s.trace) (taken left_first s.trace s.read))
      (λ notes below. All-nil (λ x. All (λ n. time_of n < tick_of x) notes)) g

  -- ---- the end of the trace

  pub done : (r r' : Runner) (l : Lines) (left_first left given_first : Option (List ℕ)) (a b : K) (t : ℕ)
      → SoFar cfg o now r l left_first left given_first (given a)
      → ((text : List ℕ) (events : List Event) → HasRead l (Some text) left events → Read text ≡ Trace events t)
      → newest r' ≡ t → nest_of r' ≡ nest_of r → cost_of r' ≡ cost_of r
      → ((trace : List Event) (steps : List Turned) → StandsFor r' o now' trace steps
      → Legal o.loaded (nest_of r') (cost_of r') trace (newest r') (journal o.loaded steps))
      → ((trace : List Event) (steps : List Turned) → StandsFor r' o now' trace steps → FlashFits o.loaded o.flash now' (journal o.loaded steps))
      → GoesOn given took (StandsFor r o now) (StandsFor r' o now') [] a b → IsDone cfg o now' left_first given_first (given b)
  done r r' l left_first left given_first a b t s reads new nest cost legal flash g =
      let st : StandsFor r' o now' s.trace (s.steps ++ g.log) = subst (λ (es : List Event). StandsFor r' o now' es (s.steps ++ g.log)) (append-nil s.trace)
      (g.stands s.trace s.steps s.stands) in
      let at : Legal o.loaded cfg.nest cfg.cost s.trace (newest r') (journal o.loaded (s.steps ++ g.log)) =
      as_run cfg o (nest_of r') (cost_of r') s.trace (newest r') (journal o.loaded (s.steps ++ g.log)) (nest ∙ s.nest) (cost ∙ s.cost)
      (legal s.trace (s.steps ++ g.log) st) in
      record {
        trace = s.trace;
        end = t;
        reads = reads_all left_first (Trace s.trace t) (λ text is. reads text s.trace (subst (λ (x : Option (List ℕ)). HasRead l x left s.trace) is s.read));
        wrote = record {
          notes = journal o.loaded (s.steps ++ g.log);
          legal = subst (λ (n : ℕ). Legal o.loaded cfg.nest cfg.cost s.trace n (journal o.loaded (s.steps ++ g.log))) new at;
          flash = flash s.trace (s.steps ++ g.log) st;
          appended = given_more given_first (given a) (given b) (journal o.loaded s.steps) (notes_in g.log) s.given_is g.given_is
              ∙ ap (λ (ns : List Note). append_known given_first (Text ns)) (sym (journal-append o.loaded s.steps g.log));
        };
      }

-- what a run has written is legal up to its newest event
so_far_wrote : (cfg : RunConfig) (o : Outset) (now : Told) (r : Runner) (l : Lines) (left_first left given_first given : Option (List ℕ))
    → (s : SoFar cfg o now r l left_first left given_first given) → Wrote cfg o now s.trace (last_tick s.trace) given_first given
so_far_wrote cfg o now r l left_first left given_first given s = record {
  notes = journal o.loaded s.steps;
  flash = s.flash;
  legal = subst (λ (n : ℕ). Legal o.loaded cfg.nest cfg.cost s.trace n (journal o.loaded s.steps)) (sym s.last) s.legal;
  appended = s.given_is;
}

pub refused : (cfg : RunConfig) (o : Outset) (now : Told) (r : Runner) (l : Lines) (left_first left given_first given : Option (List ℕ)) (line : ℕ)
    (kind : Refusal)
    → SoFar cfg o now r l left_first left given_first given
    → ((text : List ℕ) (events : List Event) → HasRead l (Some text) left events → Read text ≡ Refused events line kind)
    → IsRefused cfg o now line kind left_first given_first given
refused cfg o now r l left_first left given_first given line kind s reads = record {
  trace = s.trace;
  reads =
      reads_all left_first (Refused s.trace line kind) (λ text is. reads text s.trace (subst (λ (x : Option (List ℕ)). HasRead l x left s.trace) is s.read));
  wrote = so_far_wrote cfg o now r l left_first left given_first given s;
}

pub faulted : (cfg : RunConfig) (o : Outset) (now : Told) (r : Runner) (l : Lines) (left_first left left' given_first given : Option (List ℕ))
    → SoFar cfg o now r l left_first left given_first given
    → ((first : Option (List ℕ)) (events : List Event) → HasRead l first left events → TakenEvents first left' events)
    → IsReadFault cfg o now left_first left' given_first given
faulted cfg o now r l left_first left left' given_first given s taken = record {
  trace = s.trace;
  reads = taken left_first s.trace s.read;
  wrote = so_far_wrote cfg o now r l left_first left given_first given s;
}
