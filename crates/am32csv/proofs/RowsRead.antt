-- The records of a capture's text are read, and their rows are written, one by one.
use Rattle.std.proofs.Common.{◌≡◌, ◌≤◌, ◌<◌, ℕ, ℤ, pos, ◌+◌, ◌^◌, min, Bool, true, false, if◌then◌else◌, List, [], ◌∷◌, ◌++◌, length, Option, Some, None, unwrap_or, refl, sym, ◌∙◌, ap, subst, append_assoc, append-nil, length-append, arith}
use mathlib.Core.Bool.{beq}
use Rattle.std.proofs.lemmas.Option.{same_Some}
use Rattle.csv.proofs.ReadFacts.{rows-more, rows-end}
use Rattle.csv.specs.Reading.{Reached, ReadRecord, source_of, strip_bom}
use Rattle.csv.specs.declared.parser.State.TheVariants as st
use Rattle.csv.specs.declared.reader.Reader.{Reader}
use Rattle.esc_base.specs.declared.event.Event.{Event}
use Rattle.esc_base.specs.declared.event.Event.TheVariants as event
use Rattle.esc_base.specs.declared.tick.Tick.{Tick}
use Rattle.trace_tools.specs.Written.{HasWritten, IsTrace}
use Rattle.am32csv.specs.declared.capture.Capture.{Capture}
use Rattle.am32csv.specs.declared.layout.Clock.{Clock}
use Rattle.am32csv.specs.declared.layout.Layout.{Layout}
use Rattle.am32csv.specs.declared.run.Row.{Row}
use Rattle.am32csv.specs.Captured.{Keeps}
use Rattle.am32csv.specs.Records.{capture_config, SaysRow, SayRows, first_stamp, newest_level, AreTicks, changes, AreChangesOf, IsOfRows}
use Rattle.am32csv.specs.Rows.{IsTickOf, WritesRow, with_level, zeroth}

-- ---- one row more, as a change

behind : (b : Bool) (front events more : List Event) → front ++ (if b then events else events ++ more) ≡ (if b then front ++ events else
    (front ++ events) ++ more)
behind true front events more = refl
behind false front events more = sym (append_assoc front events more)

ticks_push : (clock : Clock) (z : ℤ) (rows : List Row) (ticks : List Tick) (r : Row) (t : Tick) → AreTicks clock z rows ticks → IsTickOf clock z r.stamp t.0
    → AreTicks clock z (rows ++ r ∷ []) (ticks ++ t ∷ [])
ticks_push clock z [] [] r t h k = (k, tt)
ticks_push clock z [] (u ∷ ticks) r t h k = absurd h
ticks_push clock z (q ∷ rows) [] r t h k = absurd h
ticks_push clock z (q ∷ rows) (u ∷ ticks) r t h k = (h.0, ticks_push clock z rows ticks r t h.1 k)

changes_push : (clock : Clock) (z : ℤ) (level : Bool) (rows : List Row) (ticks : List Tick) (r : Row) (t : Tick) → AreTicks clock z rows ticks
    → changes level (rows ++ r ∷ []) (ticks ++ t ∷ []) ≡ with_level (changes level rows ticks) (newest_level level rows) t r.level
changes_push clock z level [] [] r t h = append-nil (with_level [] level t r.level)
changes_push clock z level [] (u ∷ ticks) r t h = absurd h
changes_push clock z level (q ∷ rows) [] r t h = absurd h
changes_push clock z level (q ∷ rows) (u ∷ ticks) r t h =
    ap (λ (es : List Event). with_level [] level u q.level ++ es) (changes_push clock z q.level rows ticks r t h.1)
    ∙ behind (beq r.level (newest_level q.level rows)) (with_level [] level u q.level) (changes q.level rows ticks) (event.Edge t r.level ∷ [])

row_push : (clock : Clock) (rows : List Row) (events : List Event) (r : Row) (t : Tick) → AreChangesOf clock rows events
    → IsTickOf clock (unwrap_or (first_stamp rows) r.stamp) r.stamp t.0
    → AreChangesOf clock (rows ++ r ∷ []) (with_level events (newest_level false rows) t r.level)
row_push clock [] events r t h k = record {
  zeroth = r.stamp;
  is_first = λ z e. same_Some _ _ e;
  ticks = t ∷ [];
  nearest = (k, tt);
  are = ap (λ (es : List Event). with_level es false t r.level) h.are ∙ sym (append-nil (with_level [] false t r.level));
}
row_push clock (q ∷ rows) events r t h k = record {
  zeroth = h.zeroth;
  is_first = h.is_first;
  ticks = h.ticks ++ t ∷ [];
  nearest = ticks_push clock h.zeroth (q ∷ rows) h.ticks r t h.nearest (subst (λ (z : ℤ). IsTickOf clock z r.stamp t.0) (sym (h.is_first q.stamp refl)) k);
  are =
      ap (λ (es : List Event). with_level es (newest_level false (q ∷ rows)) t r.level) h.are
      ∙ sym (changes_push clock h.zeroth false (q ∷ rows) h.ticks r t h.nearest);
}

newest_push : (level : Bool) (rows : List Row) (r : Row) → newest_level level (rows ++ r ∷ []) ≡ r.level
newest_push level [] r = refl
newest_push level (q ∷ rows) r = newest_push q.level rows r

first_push : (rows : List Row) (r : Row) → first_stamp (rows ++ r ∷ []) ≡ Some (unwrap_or (first_stamp rows) r.stamp)
first_push [] r = refl
first_push (q ∷ rows) r = refl

say_push : (layout : Layout) (n : ℕ) (records : List (List (List ℕ))) (rows : List Row) (fields : List (List ℕ)) (r : Row) → SayRows layout n records rows
    → SaysRow layout (n + length rows) fields r → SayRows layout n (records ++ fields ∷ []) (rows ++ r ∷ [])
say_push layout n [] [] fields r h k = (subst (λ (m : ℕ). SaysRow layout m fields r) (let e : n + 0 ≡ n = omega arith in e) k, tt)
say_push layout n [] (q ∷ rows) fields r h k = absurd h
say_push layout n (f ∷ records) [] fields r h k = absurd h
say_push layout n (f ∷ records) (q ∷ rows) fields r h k = (
  h.0,
  say_push layout (n + 1) records rows fields r h.1
      (subst (λ (m : ℕ). SaysRow layout m fields r) (let e : n + length (q ∷ rows) ≡ n + 1 + length rows = omega arith in e) k),
)

-- ---- the rows so far

pub record RowsRead {R : Type 0} (layout : Layout) (source : Option (List ℕ)) (rem : R → Option (List ℕ)) (reader : Reader R) (c : Capture) (count number : ℕ)
    (first now : Option (List ℕ)) : Type 0 where
  pub header : List (List (List ℕ))
  pub records : List (List (List ℕ))
  pub rows : List Row
  pub events : List Event
  pub written : HasWritten c.writer first now events
  pub changes : layout.drops_replies ≡ false → AreChangesOf layout.clock rows events
  pub level : layout.drops_replies ≡ false → c.written ≡ newest_level false rows
  pub stamp : c.first ≡ first_stamp rows
  pub layout_is : c.layout ≡ layout
  pub one : length header ≤ 1
  pub none : count ≡ 0 → (header ≡ []) × (records ≡ [])
  pub say : SayRows layout 0 records rows
  pub numbered : number ≡ min (length rows) 18446744073709551615
  pub reading : (text : List ℕ) → source ≡ Some text → (y : List ℕ) × (source_of rem reader ≡ Some y)
      × Reached capture_config st.StartRecord (strip_bom text) (header ++ records) reader.state y

record Taken (layout : Layout) (rows : List Row) (r : Row) (d : Capture) (first now : Option (List ℕ)) : Type 0 where
  pub events : List Event
  pub written : HasWritten d.writer first now events
  pub changes : layout.drops_replies ≡ false → AreChangesOf layout.clock (rows ++ r ∷ []) events

taken : (layout : Layout) (rows : List Row) (events : List Event) (c d : Capture) (first now after : Option (List ℕ)) (r : Row) (drops : Bool)
    → layout.drops_replies ≡ drops → HasWritten c.writer first now events → (layout.drops_replies ≡ false → AreChangesOf layout.clock rows events)
    → (layout.drops_replies ≡ false → c.written ≡ newest_level false rows) → c.first ≡ first_stamp rows → c.layout ≡ layout
    → Keeps d first after → (c.layout.drops_replies ≡ false → WritesRow c now r.stamp r.level d after) → Taken layout rows r d first after
taken layout rows events c d first now after r true is written changes level stamp layout_is k w =
    record { events = k.events; written = k.written; changes = λ e. let no : true ≡ false = sym is ∙ e in absurd (cc) }
taken layout rows events c d first now after r false is written changes level stamp layout_is k w =
    let x = w (ap (λ (l : Layout). l.drops_replies) layout_is ∙ is) in
    record {
      events = with_level events c.written x.t r.level;
      written = x.wrote first events written;
      changes = λ e.
          subst (λ (b : Bool). AreChangesOf layout.clock (rows ++ r ∷ []) (with_level events b x.t r.level)) (sym (level e))
          (row_push layout.clock rows events r x.t (changes e)
          (subst (λ (o : Option ℤ). IsTickOf layout.clock (unwrap_or o r.stamp) r.stamp x.t.0) stamp
          (subst (λ (l : Layout). IsTickOf l.clock (zeroth c r.stamp) r.stamp x.t.0) layout_is x.is_tick)));
    }

pub row_more : {R : Type 0} (layout : Layout) (source : Option (List ℕ)) (rem : R
    → Option (List ℕ)) (a b : Reader R) (c d : Capture) (count more number next : ℕ)
    (first now after : Option (List ℕ)) (fields : List (List ℕ)) (r : Row) (z : ℤ) → z ≡ r.stamp → (s : RowsRead layout source rem a c count number first now)
    → a.config ≡ capture_config → ReadRecord rem a b true fields → SaysRow layout number fields r → (layout.time ≡ 0 → number < 2 ^ 63)
    → Keeps d first after → (c.layout.drops_replies ≡ false → WritesRow c now z r.level d after)
    → (c.layout.drops_replies ≡ false → d.written ≡ r.level) → d.first ≡ Some (zeroth c z) → d.layout ≡ c.layout
    → 1 ≤ more → next ≡ min (number + 1) 18446744073709551615 → RowsRead layout source rem b d more next first after
row_more layout source rem a b c d count more number next first now after fields r z is_z s config read says few k writes level first_is same some up =
    let t = taken layout s.rows s.events c d first now after r layout.drops_replies refl s.written s.changes s.level s.stamp s.layout_is k
    (λ e. subst (λ (x : ℤ). WritesRow c now x r.level d after) is_z (writes e)) in
    record {
      header = s.header;
      records = s.records ++ fields ∷ [];
      rows = s.rows ++ r ∷ [];
      events = t.events;
      written = t.written;
      changes = t.changes;
      level = λ e. level (ap (λ (l : Layout). l.drops_replies) s.layout_is ∙ e) ∙ sym (newest_push false s.rows r);
      stamp = first_is ∙ ap (λ (x : ℤ). Some (zeroth c x)) is_z ∙ ap (λ (o : Option ℤ). Some (unwrap_or o r.stamp)) s.stamp ∙ sym (first_push s.rows r);
      layout_is = same ∙ s.layout_is;
      one = s.one;
      none = λ e. absurd (omega arith);
      say = say_push layout 0 s.records s.rows fields r s.say (record {
        level = says.level;
        numbered = λ z. says.numbered z ∙ ap pos (let f = few z in let n = s.numbered in omega arith);
      });
      numbered = let n = s.numbered in let len = length-append s.rows (r ∷ []) in omega arith;
      reading = λ text e.
          let at = s.reading text e in
          let m = rows-more rem a b fields capture_config st.StartRecord (strip_bom text) at.0 (s.header ++ s.records) config at.1 at.2 read in (
            m.0,
            m.1,
            subst (λ (rs : List (List (List ℕ))). Reached capture_config st.StartRecord (strip_bom text) rs b.state m.0)
                (append_assoc s.header s.records (fields ∷ [])) m.2,
          );
    }

no_rows : (layout : Layout) (records : List (List (List ℕ))) (rows : List Row) → records ≡ [] → SayRows layout 0 records rows → rows ≡ []
no_rows layout [] [] e h = refl
no_rows layout [] (r ∷ rows) e h = absurd h
no_rows layout (f ∷ records) rows e h = absurd (cc)

pub header_more : {R : Type 0} (layout : Layout) (source : Option (List ℕ)) (rem : R → Option (List ℕ)) (a b : Reader R) (c : Capture) (count more number : ℕ)
    (first now : Option (List ℕ)) (fields : List (List ℕ)) → (s : RowsRead layout source rem a c count number first now)
    → a.config ≡ capture_config → ReadRecord rem a b true fields → count ≡ 0 → 1 ≤ more → RowsRead layout source rem b c more number first now
header_more layout source rem a b c count more number first now fields s config read first_one some =
    let n = s.none first_one in
    let e = no_rows layout s.records s.rows n.1 s.say in
    record {
      header = fields ∷ [];
      records = [];
      rows = s.rows;
      events = s.events;
      written = s.written;
      changes = s.changes;
      level = s.level;
      stamp = s.stamp;
      layout_is = s.layout_is;
      one = omega arith;
      none = λ z. absurd (omega arith);
      say = subst (λ (rows : List Row). SayRows layout 0 [] rows) (sym e) tt;
      numbered = s.numbered;
      reading = λ text known.
          let at = s.reading text known in
          let m = rows-more rem a b fields capture_config st.StartRecord (strip_bom text) at.0 (s.header ++ s.records) config at.1 at.2 read in (
            m.0,
            m.1,
            subst (λ (rs : List (List (List ℕ))). Reached capture_config st.StartRecord (strip_bom text) rs b.state m.0)
                (ap (λ (h : List (List (List ℕ))). (h ++ s.records) ++ fields ∷ []) n.0 ∙ ap (λ (rs : List (List (List ℕ))). rs ++ fields ∷ []) n.1) m.2,
          );
    }

pub all_rows : {R : Type 0} (layout : Layout) (source : Option (List ℕ)) (rem : R → Option (List ℕ)) (a b : Reader R) (c : Capture) (count number : ℕ)
    (first now after : Option (List ℕ)) (fields : List (List ℕ)) → (s : RowsRead layout source rem a c count number first now)
    → a.config ≡ capture_config → ReadRecord rem a b false fields
    → ((f : Option (List ℕ)) (es : List Event) → HasWritten c.writer f now es → (end : ℕ) × IsTrace f after es end)
    → IsOfRows layout source first after
all_rows layout source rem a b c count number first now after fields s config read whole =
    let w = whole first s.events s.written in
    record {
      rows = s.rows;
      events = s.events;
      end = w.0;
      accepted = w.1;
      changes = s.changes;
      said = λ text e.
          let at = s.reading text e in
          record {
            header = s.header;
            records = s.records;
            one = s.one;
            all = (a.state, at.0, at.2, rows-end rem a b fields capture_config at.0 config at.1 read);
            say = s.say;
          };
    }

pub none_read : {R : Type 0} (layout : Layout) (source : Option (List ℕ)) (rem : R
    → Option (List ℕ)) (reader : Reader R) (c : Capture) (given : Option (List ℕ))
    → HasWritten c.writer given given [] → c.written ≡ false → c.first ≡ None → c.layout ≡ layout → reader.state ≡ st.StartRecord
    → ((text : List ℕ) → source ≡ Some text → source_of rem reader ≡ Some (strip_bom text))
    → RowsRead layout source rem reader c 0 0 given given
unfolding Reached
none_read layout source rem reader c given w low none same state known = record {
  header = [];
  records = [];
  rows = [];
  events = [];
  written = w;
  changes = λ e. record { zeroth = pos 0; is_first = λ z f. absurd (cc); ticks = []; nearest = tt; are = refl };
  level = λ e. low;
  stamp = none;
  layout_is = same;
  one = omega arith;
  none = λ e. (refl, refl);
  say = tt;
  numbered = omega arith;
  reading = λ text e. (strip_bom text, known text e, (sym state, refl));
}
