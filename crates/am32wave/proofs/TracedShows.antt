-- A journal and its trace are shown moment by moment.
use Rattle.std.proofs.Common.{◌≡◌, ◌≢◌, ℕ, List, [], ◌∷◌, ◌++◌, Option, Some, None, refl, sym, ◌∙◌, ap, append_assoc, append-nil}
use Rattle.std.specs.Io.KnownBytes.{append_known}
use Rattle.esc_base.specs.Outside.{AppendsFront}
use Rattle.am32wave.specs.declared.ahead.Merge.{Merge}
use Rattle.esc_base.specs.declared.event.Event.{Event}
use Rattle.trace_text.specs.declared.item.Refusal.{Refusal as TraceRefusal}
use Rattle.trace_text.specs.Read.{Read, Trace}
use Rattle.trace_text.specs.Read.{Refused as ReadsRefused}
use Rattle.am32wave.specs.declared.journal.Refusal.{Refusal}
use Rattle.am32wave.specs.declared.moment.Moment.{Moment}
use Rattle.am32wave.specs.declared.run.Form.TheVariants as form
use Rattle.am32wave.specs.Moments.{notes_of, events_of}
use Rattle.am32wave.specs.Shown.{IsJournal}
use Rattle.am32wave.specs.declared.status.Status.{Status}
use Rattle.am32wave.specs.declared.status.Status.TheVariants as status
use Rattle.am32wave.specs.declared.drawing.Drawing.{Drawing}
use Rattle.am32wave.specs.declared.view.Plan.{Plan}
use Rattle.am32wave.specs.Merged.{Merged, Gives, Ends, Wrote, TracedShown, IsTracedDoneOrFault}
use Rattle.am32wave.specs.After.{IsDrawnAfter}
use Rattle.am32wave.specs.Drawn.{head, part, begun, end, drawn}
use Rattle.am32wave.proofs.Merging.{broken_off}
use Rattle.am32wave.proofs.Parts.{append_known-twice, front_behind}
use Rattle.am32wave.proofs.Scenes.{begun_more}
use Rattle.am32wave.proofs.Shows.{nothing_given, not_refused}

-- ---- the run so far

pub record SoFar (p : Plan) (m : Merge) (d : Drawing) (nf nl ef el given_first given : Option (List ℕ)) : Type 0 where
  pub moments : List Moment
  pub merged : Merged m nf nl ef el moments
  pub stands : IsDrawnAfter d p moments
  pub given_is : given ≡ append_known given_first (begun p moments)

pub begins : (p : Plan) (m : Merge) (d : Drawing) (nf ef given_first given : Option (List ℕ)) (bytes : List ℕ) → Merged m nf nf ef ef [] → IsDrawnAfter d p []
    → bytes ≡ head p → given ≡ append_known given_first bytes → SoFar p m d nf nf ef ef given_first given
begins p m d nf ef given_first given bytes h stands text e = record {
  moments = [];
  merged = h;
  stands = stands;
  given_is = e ∙ ap (append_known given_first) (text ∙ sym (append-nil (head p)));
}

pub more : (p : Plan) (m m' : Merge) (d d' : Drawing) (nf nl nl' ef el el' given_first given given' : Option (List ℕ)) (x : Moment) (bytes : List ℕ)
    → (s : SoFar p m d nf nl ef el given_first given)
    → ((moments : List Moment) → Merged m nf nl ef el moments → Gives x m' nf nl' ef el' moments)
    → ((moments : List Moment) → IsDrawnAfter d p moments → bytes ≡ part p moments x)
    → ((moments : List Moment) → IsDrawnAfter d p moments → IsDrawnAfter d' p (moments ++ x ∷ []))
    → given' ≡ append_known given bytes → SoFar p m' d' nf nl' ef el' given_first given'
more p m m' d d' nf nl nl' ef el el' given_first given given' x bytes s gives text goes_on e = record {
  moments = s.moments ++ x ∷ [];
  merged = (gives s.moments s.merged).merged;
  stands = goes_on s.moments s.stands;
  given_is =
      e ∙ ap (append_known given) (text s.moments s.stands) ∙ ap (λ (o : Option (List ℕ)). append_known o (part p s.moments x)) s.given_is
      ∙ sym (append_known-twice given_first (begun p s.moments) (part p s.moments x))
      ∙ ap (append_known given_first) (sym (begun_more p s.moments x));
}

-- ---- the endings

without_end : (p : Plan) (s : Status) (moments : List Moment) (before after : Option (List ℕ)) → s ≢ status.Done → s ≢ status.WriteFault
    → after ≡ append_known before (begun p moments) → Wrote p s moments before after
without_end p status.Done moments before after not_done ne e = absurd (not_done refl)
without_end p (status.Refused line kind) moments before after not_done ne e = e
without_end p (status.TraceRefused line kind) moments before after not_done ne e = e
without_end p status.Usage moments before after not_done ne e = e
without_end p status.ReadFault moments before after not_done ne e = e
without_end p status.TraceFault moments before after not_done ne e = e
without_end p status.WriteFault moments before after not_done ne e = absurd (ne refl)
without_end p status.NoMemory moments before after not_done ne e = e

pub ended : (p : Plan) (st : Status) (m : Merge) (d : Drawing) (nf nl nl' ef el el' given_first given : Option (List ℕ)) → (s : SoFar p m d nf nl ef el given_first given)
    → st ≢ status.Done → st ≢ status.WriteFault → ((moments : List Moment) → Merged m nf nl ef el moments → Ends st nf nl' ef el' moments)
    → TracedShown p st nf nl' ef el' given_first given
ended p st m d nf nl nl' ef el el' given_first given s not_done ne ends =
    record { moments = s.moments; ends = ends s.moments s.merged; wrote = without_end p st s.moments given_first given not_done ne s.given_is }

-- at both ends the drawing ends too
pub done : (p : Plan) (m m' : Merge) (d : Drawing) (nf nl nl' ef el el' given_first given given' : Option (List ℕ)) (bytes : List ℕ)
    → (s : SoFar p m d nf nl ef el given_first given)
    → ((moments : List Moment) → Merged m nf nl ef el moments → Ends status.Done nf nl' ef el' moments)
    → ((moments : List Moment) → IsDrawnAfter d p moments → bytes ≡ end p moments) → given' ≡ append_known given bytes
    → TracedShown p status.Done nf nl' ef el' given_first given'
done p m m' d nf nl nl' ef el el' given_first given given' bytes s ends text e = record {
  moments = s.moments;
  ends = ends s.moments s.merged;
  wrote =
      e ∙ ap (append_known given) (text s.moments s.stands) ∙ ap (λ (o : Option (List ℕ)). append_known o (end p s.moments)) s.given_is
      ∙ sym (append_known-twice given_first (begun p s.moments) (end p s.moments));
}

-- a front of the head
pub broken_head : (p : Plan) (m : Merge) (nf ef given_first given : Option (List ℕ)) (bytes : List ℕ) → Merged m nf nf ef ef [] → bytes ≡ head p
    → AppendsFront given_first bytes given → TracedShown p status.WriteFault nf nf ef ef given_first given
broken_head p m nf ef given_first given bytes h text f = record {
  moments = [];
  ends = broken_off m nf nf ef ef [] h;
  wrote = front_behind given_first given_first given [] bytes (end p []) (drawn p []) (nothing_given given_first) f
      (ap (λ (b : List ℕ). b ++ end p []) (text ∙ sym (append-nil (head p))));
}

-- a front of a moment's part
pub broken_part : (p : Plan) (m m' : Merge) (d : Drawing) (nf nl nl' ef el el' given_first given given' : Option (List ℕ)) (x : Moment) (bytes : List ℕ)
    → (s : SoFar p m d nf nl ef el given_first given)
    → ((moments : List Moment) → Merged m nf nl ef el moments → Gives x m' nf nl' ef el' moments)
    → ((moments : List Moment) → IsDrawnAfter d p moments → bytes ≡ part p moments x)
    → AppendsFront given bytes given' → TracedShown p status.WriteFault nf nl' ef el' given_first given'
broken_part p m m' d nf nl nl' ef el el' given_first given given' x bytes s gives text f = record {
  moments = s.moments ++ x ∷ [];
  ends = broken_off m' nf nl' ef el' (s.moments ++ x ∷ []) (gives s.moments s.merged).merged;
  wrote =
      front_behind given_first given given' (begun p s.moments) bytes (end p (s.moments ++ x ∷ [])) (drawn p (s.moments ++ x ∷ [])) s.given_is f
      (ap (λ (b : List ℕ). begun p s.moments ++ (b ++ end p (s.moments ++ x ∷ []))) (text s.moments s.stands)
      ∙ sym (append_assoc (begun p s.moments) (part p s.moments x) (end p (s.moments ++ x ∷ [])))
      ∙ ap (λ (b : List ℕ). b ++ end p (s.moments ++ x ∷ [])) (sym (begun_more p s.moments x)));
}

whole_broken_off : (nf nl ef el : Option (List ℕ)) (moments : List Moment) → Ends status.Done nf nl ef el moments
    → Ends status.WriteFault nf nl ef el moments
whole_broken_off nf nl ef el moments e =
    record { behind = e.behind; notes = e.notes; events = e.events; order = e.order; notes_why = tt; events_why = tt }

-- a front of the end
pub broken_end : (p : Plan) (m m' : Merge) (d : Drawing) (nf nl nl' ef el el' given_first given given' : Option (List ℕ)) (bytes : List ℕ)
    → (s : SoFar p m d nf nl ef el given_first given)
    → ((moments : List Moment) → Merged m nf nl ef el moments → Ends status.Done nf nl' ef el' moments)
    → ((moments : List Moment) → IsDrawnAfter d p moments → bytes ≡ end p moments) → AppendsFront given bytes given'
    → TracedShown p status.WriteFault nf nl' ef el' given_first given'
broken_end p m m' d nf nl nl' ef el el' given_first given given' bytes s ends text f = record {
  moments = s.moments;
  ends = whole_broken_off nf nl' ef el' s.moments (ends s.moments s.merged);
  wrote = front_behind given_first given given' (begun p s.moments) bytes [] (drawn p s.moments) s.given_is f
      (ap (λ (b : List ℕ). begun p s.moments ++ b) (append-nil bytes ∙ text s.moments s.stands));
}

-- ---- a good journal with a good trace isn't refused

good_journal : (line : ℕ) (kind : Refusal) (text : List ℕ) (nl ef el : Option (List ℕ)) (moments : List Moment) → IsJournal text
    → Ends (status.Refused line kind) (Some text) nl ef el moments → ⊥
good_journal line kind text nl ef el moments j e =
    not_refused form.Words line kind text None None j (record {
      notes = notes_of moments;
      behind = e.behind;
      read = e.notes;
      line = e.notes_why.0;
      cause = e.notes_why.1;
      wrote = refl;
    })

good_trace : (text : List ℕ) (events first_events : List Event) (end line : ℕ) (kind : TraceRefusal) → Read text ≡ Trace events end
    → Read text ≡ ReadsRefused first_events line kind → ⊥
good_trace text events first_events end line kind e f = let no = sym e ∙ f in absurd (cc)

pub traced_done : (p : Plan) (s : Status) (nl ef el before after : Option (List ℕ)) (journal trace : List ℕ) (events : List Event) (end : ℕ) → IsJournal journal
    → ef ≡ Some trace → Read trace ≡ Trace events end → TracedShown p s (Some journal) nl ef el before after → IsTracedDoneOrFault s
traced_done p status.Done nl ef el before after journal trace events end j is_trace reads h = tt
traced_done p (status.Refused line kind) nl ef el before after journal trace events end j is_trace reads h =
    good_journal line kind journal nl ef el h.moments j h.ends
traced_done p (status.TraceRefused line kind) nl ef el before after journal trace events end j is_trace reads h =
    good_trace trace events (events_of h.moments) end line kind reads (h.ends.events_why trace is_trace)
traced_done p status.Usage nl ef el before after journal trace events end j is_trace reads h = h.ends.notes_why
traced_done p status.ReadFault nl ef el before after journal trace events end j is_trace reads h = tt
traced_done p status.TraceFault nl ef el before after journal trace events end j is_trace reads h = tt
traced_done p status.WriteFault nl ef el before after journal trace events end j is_trace reads h = tt
traced_done p status.NoMemory nl ef el before after journal trace events end j is_trace reads h = h.ends.notes_why
