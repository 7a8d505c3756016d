-- Calls one after the other.
use Rattle.std.proofs.Common.{◌≡◌, ℕ, List, [], ◌∷◌, ◌++◌, refl, sym, ◌∙◌, ap, subst, append_assoc, append-nil, Option, Some, None, Result}
use Rattle.std.proofs.lemmas.List.Concat.{flat_map-append}
use Rattle.std.specs.Io.KnownBytes.{append_known}
use Rattle.esc_base.specs.declared.event.Event.{Event}
use Rattle.esc_base.specs.declared.note.Note.{Note}
use Rattle.esc_base.specs.Flash.{Told}
use Rattle.settings_block.specs.declared.stored.Loaded.{Loaded}
use Rattle.trace_text.specs.Text.{note_bytes, Text}
use Rattle.interrupt_machine.specs.declared.nest.Nest.{Nest}
use Rattle.esc_laws.specs.Steps.{Turned, opening, notes_in, journal}
use Rattle.trace_runner.specs.Lines.{TookLines, BrokeLines}
use Rattle.trace_runner.specs.declared.state.Runner.{Runner}
use Rattle.trace_runner.specs.Run.{Outset, Runs, GoesOn, BreaksOff, LeftBelow, RunsOn, nest_of, cost_of, newest}
use Rattle.esc_base.proofs.OutsideLaws.{append_known-twice}
use Rattle.trace_runner.proofs.Written.{on_ok_map, on_err_map}

pub append_known-nil : (o : Option (List ℕ)) → append_known o [] ≡ o
append_known-nil (Some bs) = ap (λ (x : List ℕ). Some x) (append-nil bs)
append_known-nil None = refl

lines-append : {K : Type 0} (took : K → List ℕ → K → Type 0) (xs ys : List Note) (a b c : K) → TookLines took a xs b → TookLines took b ys c
    → TookLines took a (xs ++ ys) c
lines-append {K} took [] ys a b c e f = subst (λ (x : K). TookLines took x ys c) e f
lines-append {K} took (x ∷ xs) ys a b c e f = (e.0, e.1, lines-append took xs ys e.0 b c e.2 f)

-- the notes of one step
pub one_log : (e : Turned) (own : List Note) → e.notes ≡ own → notes_in (e ∷ []) ≡ own
one_log e own h = append-nil e.notes ∙ h

regroup : (steps log : List Turned) (notes : List Note) (last : Note)
    → notes_in (steps ++ log) ++ (notes ++ last ∷ []) ≡ notes_in steps ++ ((notes_in log ++ notes) ++ last ∷ [])
regroup steps log notes last =
    ap (λ (ns : List Note). ns ++ (notes ++ last ∷ [])) (flat_map-append (λ e. e.notes) steps log)
    ∙ append_assoc (notes_in steps) (notes_in log) (notes ++ last ∷ [])
    ∙ ap (λ (ns : List Note). notes_in steps ++ ns) (sym (append_assoc (notes_in log) notes (last ∷ [])))

-- steps, and then notes of a step that broke off
further : (loaded : Loaded) (steps log : List Turned) (notes : List Note) (last : Note)
    → journal loaded (steps ++ log) ++ (notes ++ last ∷ []) ≡ journal loaded steps ++ ((notes_in log ++ notes) ++ last ∷ [])
further loaded steps log notes last = ap (λ (ns : List Note). opening loaded ++ ns) (regroup steps log notes last)

module _ {K : Type 0} (given : K → Option (List ℕ)) (took : K → List ℕ → K → Type 0) where
  -- no step
  pub goes_none : (old new : List Event → List Turned → Type 0) (a : K) → ((trace : List Event) (steps : List Turned) → old trace steps → new trace steps)
      → GoesOn given took old new [] a a
  goes_none old new a f = record {
    log = [];
    stands = λ trace steps st. rw (append-nil trace, append-nil steps) (f trace steps st);
    given_is = sym (append_known-nil (given a));
    lines = refl;
  }

  pub goes_from : (first old new : List Event → List Turned → Type 0) (events : List Event) (a b : K)
      → ((trace : List Event) (steps : List Turned) → first trace steps → old trace steps) → GoesOn given took old new events a b
      → GoesOn given took first new events a b
  goes_from first old new events a b f r = record {
    log = r.log;
    stands = λ trace steps st. r.stands trace steps (f trace steps st);
    given_is = r.given_is;
    lines = r.lines;
  }

  pub goes_to : (old new last : List Event → List Turned → Type 0) (events : List Event) (a b : K)
      → ((trace : List Event) (steps : List Turned) → new trace steps → last trace steps) → GoesOn given took old new events a b
      → GoesOn given took old last events a b
  goes_to old new last events a b f r = record {
    log = r.log;
    stands = λ trace steps st. f (trace ++ events) (steps ++ r.log) (r.stands trace steps st);
    given_is = r.given_is;
    lines = r.lines;
  }

  -- steps, and then an event
  pub goes_event : (old mid new : List Event → List Turned → Type 0) (e : Event) (a b : K)
      → ((trace : List Event) (steps : List Turned) → mid trace steps → new (trace ++ e ∷ []) steps) → GoesOn given took old mid [] a b
      → GoesOn given took old new (e ∷ []) a b
  goes_event old mid new e a b f r = record {
    log = r.log;
    stands = λ trace steps st. f trace (steps ++ r.log) (subst (λ (es : List Event). mid es (steps ++ r.log)) (append-nil trace) (r.stands trace steps st));
    given_is = r.given_is;
    lines = r.lines;
  }

  pub goes_further : (old mid new : List Event → List Turned → Type 0) (es fs : List Event) (a b c : K) → GoesOn given took old mid es a b
      → GoesOn given took mid new fs b c → GoesOn given took old new (es ++ fs) a c
  goes_further old mid new es fs a b c r s = record {
    log = r.log ++ s.log;
    stands = λ trace steps st.
        rw (← append_assoc trace es fs, ← append_assoc steps r.log s.log) (s.stands (trace ++ es) (steps ++ r.log) (r.stands trace steps st));
    given_is = rw (
      flat_map-append (λ e. e.notes) r.log s.log,
      flat_map-append note_bytes (notes_in r.log) (notes_in s.log),
      append_known-twice (given a) (Text (notes_in r.log)) (Text (notes_in s.log)),
      ← r.given_is,
    )
        s.given_is;
    lines = rw (flat_map-append (λ e. e.notes) r.log s.log) (lines-append took (notes_in r.log) (notes_in s.log) a b c r.lines s.lines);
  }

module _ {K : Type 0} (given : K → Option (List ℕ)) (took broke : K → List ℕ → K → Type 0) (loaded : Loaded) where
  -- a step's notes break off
  pub breaks_in : (old : List Event → List Turned → Type 0) (leaves : List Event → List Note → Type 0) (own : List Note) (a b : K)
      → ((trace : List Event) (steps : List Turned) (front rest : List Note) (last : Note) → old trace steps → own ≡ (front ++ last ∷ []) ++ rest
      → leaves trace (journal loaded steps ++ (front ++ last ∷ [])))
      → BrokeLines given took broke a own b → BreaksOff given took broke loaded old leaves a b
  breaks_in old leaves own a b f r = record {
    notes = r.done;
    last = r.last;
    left_as = λ trace steps st. f trace steps r.done r.rest r.last st (r.parts ∙ sym (append_assoc r.done (r.last ∷ []) r.rest));
    mid = r.mid;
    lines = r.lines;
    given_is = r.given_is;
    refused = r.refused;
    appended = r.appended;
  }

  pub breaks_from : (first old : List Event → List Turned → Type 0) (leaves : List Event → List Note → Type 0) (a b : K)
      → ((trace : List Event) (steps : List Turned) → first trace steps → old trace steps) → BreaksOff given took broke loaded old leaves a b
      → BreaksOff given took broke loaded first leaves a b
  breaks_from first old leaves a b f r = record {
    notes = r.notes;
    last = r.last;
    left_as = λ trace steps st. r.left_as trace steps (f trace steps st);
    mid = r.mid;
    lines = r.lines;
    given_is = r.given_is;
    refused = r.refused;
    appended = r.appended;
  }

  pub breaks_later : (old mid : List Event → List Turned → Type 0) (leaves : List Event → List Note → Type 0) (a b c : K) → GoesOn given took old mid [] a b
      → BreaksOff given took broke loaded mid leaves b c → BreaksOff given took broke loaded old leaves a c
  breaks_later old mid leaves a b c r s = record {
    notes = notes_in r.log ++ s.notes;
    last = s.last;
    left_as = λ trace steps st.
        let l : leaves (trace ++ []) (journal loaded (steps ++ r.log) ++ (s.notes ++ s.last ∷ [])) =
        s.left_as (trace ++ []) (steps ++ r.log) (r.stands trace steps st) in
        subst (λ (ns : List Note). leaves trace ns) (further loaded steps r.log s.notes s.last)
        (subst (λ (es : List Event). leaves es (journal loaded (steps ++ r.log) ++ (s.notes ++ s.last ∷ []))) (append-nil trace) l);
    mid = s.mid;
    lines = lines-append took (notes_in r.log) s.notes a b s.mid r.lines s.lines;
    given_is = rw
        (flat_map-append note_bytes (notes_in r.log) s.notes, append_known-twice (given a) (Text (notes_in r.log)) (Text s.notes), ← r.given_is) s.given_is;
    refused = s.refused;
    appended = s.appended;
  }

  pub breaks_as : (old : List Event → List Turned → Type 0) (o : Outset) (now : Told) (nest nest' : Nest) (cost cost' until : ℕ) (a b : K) → nest ≡ nest'
      → cost ≡ cost'
      → BreaksOff given took broke loaded old (LeftBelow o now nest cost until) a b
      → BreaksOff given took broke loaded old (LeftBelow o now nest' cost' until) a b
  breaks_as old o now nest nest' cost cost' until a b e f r = rw (← e, ← f) r

-- the same of a runner's calls: what stands at the first runner stands at the one that the call found
pub runs_from : {K T E : Type 0} (given : K → Option (List ℕ)) (took broke : K → List ℕ → K → Type 0) (faults : K → ℕ) (first old new : Runner)
    (flash flash' : Told) (result : Result T E) (a b : K)
    → ((o : Outset) (trace : List Event) (steps : List Turned) → Runs first o flash trace steps → Runs old o flash trace steps) → nest_of old ≡ nest_of first
    → cost_of old ≡ cost_of first
    → RunsOn given took broke faults old new flash flash' result a b → RunsOn given took broke faults first new flash flash' result a b
runs_from given took broke faults first old new flash flash' result a b f nest cost r = record {
  goes = on_ok_map result r.goes (λ g o. goes_from given took (Runs first o flash) (Runs old o flash) (Runs new o flash') [] a b (f o) (g o));
  breaks = on_err_map result r.breaks (λ g o.
      breaks_as given took broke o.loaded (Runs first o flash) o flash' (nest_of old) (nest_of first) (cost_of old) (cost_of first) (newest new) a b nest cost
      (breaks_from given took broke o.loaded (Runs first o flash) (Runs old o flash) (LeftBelow o flash' (nest_of old) (cost_of old) (newest new)) a b (f o)
      (g o)));
  failed = r.failed;
  no_fewer = r.no_fewer;
}
