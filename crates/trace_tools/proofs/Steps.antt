-- What a writer has written, line by line.
use Rattle.std.proofs.Common.{◌≡◌, ◌≤◌, ◌<◌, ℕ, List, [], ◌∷◌, ◌++◌, Option, Some, None, refl, sym, ◌∙◌, ap, append_assoc, append-nil}
use Rattle.std.specs.Io.KnownBytes.{append_known}
use Rattle.esc_base.specs.declared.tick.Tick.{Tick}
use Rattle.esc_base.specs.declared.event.Event.{Event}
use Rattle.trace_text.specs.declared.item.Place.{Place}
use Rattle.trace_text.specs.Line.{after_event}
use Rattle.trace_text.specs.Read.{Reading, Trace, Refused, Read, with_event, read_from, start}
use Rattle.trace_text.specs.Ahead.{with_events, Follows}
use Rattle.trace_text.specs.Text.{event_bytes}
use Rattle.trace_tools.specs.declared.writer.Writer.{Writer}
use Rattle.trace_tools.specs.Written.{IsByte, HasWritten, IsTrace, end_bytes}
use Rattle.trace_tools.proofs.ReadBack.{event_back, end_back}

pub append_both : (known : Option (List ℕ)) (xs ys : List ℕ) → append_known (append_known known xs) ys ≡ append_known known (xs ++ ys)
append_both None xs ys = refl
append_both (Some zs) xs ys = ap (λ (l : List ℕ). Some l) (append_assoc zs xs ys)

no_events : (r : Reading) → r ≡ with_events [] r
no_events (Trace events end) = refl
no_events (Refused events line kind) = refl

one_more : (events : List Event) (e : Event) (r : Reading) → with_events events (with_event e r) ≡ with_events (events ++ e ∷ []) r
one_more events e (Trace more end) = ap (λ (l : List Event). Trace l end) (sym (append_assoc events (e ∷ []) more))
one_more events e (Refused more line kind) = ap (λ (l : List Event). Refused l line kind) (sym (append_assoc events (e ∷ []) more))

nothing_appended : (now : Option (List ℕ)) → now ≡ append_known now []
nothing_appended None = refl
nothing_appended (Some xs) = ap (λ (l : List ℕ). Some l) (sym (append-nil xs))

-- before the first line
pub begins : (w : Writer) (now : Option (List ℕ)) → w.place ≡ start → HasWritten w now now []
begins w now e = record {
  text = [];
  appended = nothing_appended now;
  goes_on = λ more. no_events (Read more) ∙ ap (λ (p : Place). with_events [] (read_from p more)) (sym e);
}

-- one event more
pub written_event : (w x : Writer) (first a b : Option (List ℕ)) (events : List Event) (e : Event)
    → Follows w.place e → IsByte e → w.place.line < 16777216 → x.place ≡ after_event w.place e → b ≡ append_known a (event_bytes e)
    → HasWritten w first a events → HasWritten x first b (events ++ e ∷ [])
written_event w x first a b events e f byte few next put h = record {
  text = h.text ++ event_bytes e;
  appended = put ∙ ap (λ (o : Option (List ℕ)). append_known o (event_bytes e)) h.appended ∙ append_both first h.text (event_bytes e);
  goes_on = λ more.
      ap Read (append_assoc h.text (event_bytes e) more) ∙ h.goes_on (event_bytes e ++ more)
      ∙ ap (with_events events) (event_back w.place e f byte few more)
      ∙ one_more events e (read_from (after_event w.place e) more)
      ∙ ap (λ (p : Place). with_events (events ++ e ∷ []) (read_from p more)) (sym next);
}

-- the END line
pub written_end : (w : Writer) (first a b : Option (List ℕ)) (events : List Event) (t : Tick)
    → w.place.time.0 ≤ t.0 → t.0 ≤ 1073741824 → w.place.line < 16777216 → b ≡ append_known a (end_bytes t.0)
    → HasWritten w first a events → IsTrace first b events t.0
written_end w first a b events t low high few put h = record {
  text = h.text ++ end_bytes t.0;
  appended = put ∙ ap (λ (o : Option (List ℕ)). append_known o (end_bytes t.0)) h.appended ∙ append_both first h.text (end_bytes t.0);
  accepted =
      h.goes_on (end_bytes t.0) ∙ ap (with_events events) (end_back w.place t low high few)
      ∙ ap (λ (l : List Event). Trace l t.0) (append-nil events);
}
