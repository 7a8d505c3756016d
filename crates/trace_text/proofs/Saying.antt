-- What a line says, by how far its parts are good.
use Rattle.std.proofs.Common.{◌≡◌, ◌≤◌, ◌<◌, ℕ, true, false, List, [], ◌∷◌, length, Some, None, Ok, Err, refl}
use Rattle.std.proofs.lemmas.Bool.{lt-ltb, le-ltb, lt-leb}
use Rattle.esc_base.specs.declared.tick.Tick.{Tick}
use Rattle.esc_base.specs.declared.event.Event.{Event}
use Rattle.trace_text.specs.declared.item.Place.{Place}
use Rattle.trace_text.specs.declared.item.Refusal.TheVariants.{BadTime, TimeBack, TooLate, BadKind, BadValue, Trailing, TooClose}
use Rattle.trace_text.specs.declared.parse.LineKind.{LineKind}
use Rattle.trace_text.specs.declared.parse.LineKind.TheVariants as kind
use Rattle.trace_text.specs.declared.parse.Entry.TheVariants as entry
use Rattle.trace_text.specs.Line.{fields, is_decimal, number, kind_of, is_end_kind, event_of, said, said_in, too_close}
use Rattle.trace_text.proofs.Fields.{fields_some, fields_first}

pub said-fields : (p : Place) (line : List ℕ) → p.line < 16777216 → length line ≤ 40 → said p line ≡ said_in p (fields line)
said-fields p line lt le = rw (lt-leb 16777216 p.line lt, le-ltb 40 (length line) le) refl

pub no_space : (p : Place) (time : List ℕ) → said_in p (time ∷ []) ≡ Err BadTime
no_space p time = refl

pub time_back : (p : Place) (time rest : List ℕ) → is_decimal time ≡ true → number time < p.time.0 → said_in p (time ∷ fields rest) ≡ Err TimeBack
time_back p time rest d lt = rw (fields_some rest, d, lt-ltb (number time) p.time.0 lt) refl

pub too_late : (p : Place) (time rest : List ℕ) → is_decimal time ≡ true → p.time.0 ≤ number time → 1073741824 < number time
    → said_in p (time ∷ fields rest) ≡ Err TooLate
too_late p time rest d le lt = rw (fields_some rest, d, le-ltb (number time) p.time.0 le, lt-ltb 1073741824 (number time) lt) refl

-- ---- behind a good time
module _ (p : Place) (time : List ℕ) (d : is_decimal time ≡ true) (low : p.time.0 ≤ number time) (high : number time ≤ 1073741824) where
  pub bad_kind : (name : List ℕ) (fs : List (List ℕ)) → kind_of name ≡ None → said_in p (time ∷ name ∷ fs) ≡ Err BadKind
  bad_kind name fs k = rw (d, le-ltb (number time) p.time.0 low, le-ltb 1073741824 (number time) high, k) refl

  pub end_line : (name : List ℕ) (t : Tick) → number time ≡ t.0 → kind_of name ≡ Some kind.End → said_in p (time ∷ name ∷ []) ≡ Ok (entry.End t)
  end_line name t e k = rw (d, le-ltb (number time) p.time.0 low, le-ltb 1073741824 (number time) high, k, e) refl

  pub end_trailing : (name rest : List ℕ) → kind_of name ≡ Some kind.End → said_in p (time ∷ name ∷ fields rest) ≡ Err Trailing
  end_trailing name rest k = rw (d, le-ltb (number time) p.time.0 low, le-ltb 1073741824 (number time) high, k, fields_first rest) refl

  module _ (name : List ℕ) (k : LineKind) (is : kind_of name ≡ Some k) (not_end : is_end_kind (Some k) ≡ false) where
    pub no_value : said_in p (time ∷ name ∷ []) ≡ Err BadValue
    no_value = rw (d, le-ltb (number time) p.time.0 low, le-ltb 1073741824 (number time) high, is, not_end) refl

    module _ (t : Tick) (at : number time ≡ t.0) (value : List ℕ) where
      pub bad_value : (fs : List (List ℕ)) → event_of k t value ≡ None → said_in p (time ∷ name ∷ value ∷ fs) ≡ Err BadValue
      bad_value fs e = rw (d, le-ltb (number time) p.time.0 low, le-ltb 1073741824 (number time) high, is, not_end, at, e) refl

      pub trailing : (rest : List ℕ) (v : Event) → event_of k t value ≡ Some v → said_in p (time ∷ name ∷ value ∷ fields rest) ≡ Err Trailing
      trailing rest v e = rw (d, le-ltb (number time) p.time.0 low, le-ltb 1073741824 (number time) high, is, not_end, at, e, fields_first rest) refl

      pub close : (v : Event) → event_of k t value ≡ Some v → too_close p (Some v) ≡ true → said_in p (time ∷ name ∷ value ∷ []) ≡ Err TooClose
      close v e c = rw (d, le-ltb (number time) p.time.0 low, le-ltb 1073741824 (number time) high, is, not_end, at, e, c) refl

      pub good : (v : Event) → event_of k t value ≡ Some v → too_close p (Some v) ≡ false → said_in p (time ∷ name ∷ value ∷ []) ≡ Ok (entry.Event v)
      good v e c = rw (d, le-ltb (number time) p.time.0 low, le-ltb 1073741824 (number time) high, is, not_end, at, e, c) refl
