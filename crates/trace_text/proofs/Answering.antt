-- What each return of the reader says of the text ahead.
use Rattle.std.proofs.Common.{◌≡◌, ◌≤◌, ◌<◌, ℕ, suc, ◌+◌, min, ◌==◌, List, [], ◌∷◌, ◌++◌, length, take, drop, get_or, length-take-le, Option, Some, None, Result, Ok, Err, refl, sym, ◌∙◌, ap, subst, arith, append_assoc, append-nil, position, add-one, IfOk, IfErr}
use Rattle.std.specs.Io.KnownBytes.{prepend_known, IsAtEnd}
use Rattle.std.proofs.Math.Seq.{drop-cons}
use Rattle.std.proofs.lemmas.List.{get_or-take, take-append-drop, take_all, length-take}
use Rattle.std.proofs.lemmas.List.Quantifiers.{position-Some}
use Rattle.std.proofs.lemmas.List.Sums.{fails_before_first}
use Rattle.std.proofs.lemmas.Bool.{eqb-true}
use Rattle.esc_base.specs.declared.tick.Tick.{Tick}
use Rattle.esc_base.specs.declared.event.Event.{Event}
use Rattle.esc_base.specs.declared.event.Event.TheVariants as event
use Rattle.trace_text.specs.declared.item.Place.{Place}
use Rattle.trace_text.specs.declared.item.Item.{Item}
use Rattle.trace_text.specs.declared.item.Item.TheVariants as item
use Rattle.trace_text.specs.declared.item.Refusal.{Refusal}
use Rattle.trace_text.specs.declared.item.Refusal.TheVariants as refusal
use Rattle.trace_text.specs.declared.parse.Entry.{Entry}
use Rattle.trace_text.specs.declared.parse.Entry.TheVariants as entry
use Rattle.trace_text.specs.declared.reader.Lines.{Lines}
use Rattle.trace_text.specs.Line.{said, after_event}
use Rattle.trace_text.specs.Read.{Reading, Trace, Refused, with_event, read_from, Read, events_of, TakenEvents, start}
use Rattle.trace_text.specs.Ahead.{unread, place, ahead, with_events, HasRead, NoEvent, ReadsAs, InTime, Follows, IfEvent, OnStop, IsOfLine, EntryFits, lines_looked_at, Says, next_line, Answers, AnswersWhole, NoLineFeed, IsLine}
use Rattle.trace_text.proofs.Fields.{no_place}
use Rattle.trace_text.proofs.Taking.{prepend_both}
use Rattle.trace_text.proofs.Cut.{read_whole, read_none, read_long, read_many, read_nothing, all_read, more_left, no_feed_before}

-- ---- the next line, or that there is none

-- a line feed among the first 41 bytes ends a line
pub line_found : (xs : List ℕ) (n : ℕ) → position (λ b. b == 10) (take 41 xs) ≡ Some n → IsLine n xs
line_found xs n e =
    let at = position-Some (λ b. b == 10) (take 41 xs) n 0 e in
    let len : length (take 41 xs) ≡ min 41 (length xs) = length-take 41 xs in
    let lt : n < length xs = omega arith in
    let le : n ≤ 40 = omega arith in
    let feed : get_or xs n 0 ≡ 10 = sym (get_or-take 41 xs n 0 (omega arith)) ∙ eqb-true (get_or (take 41 xs) n 0) 10 at.1 in
    record {
      short = le;
      cut =
          sym (take-append-drop n xs) ∙ ap (λ (ys : List ℕ). take n xs ++ ys)
          (drop-cons xs n 0 lt ∙ ap (λ (b : ℕ). b ∷ drop (suc n) xs) feed ∙ ap (λ (m : ℕ). 10 ∷ drop m xs) (sym (add-one n)));
      one = no_feed_before xs n (omega arith) (λ k below. ap (λ (b : ℕ). b == 10) (sym (get_or-take 41 xs k 0 (omega arith))) ∙ at.2 k below);
    }

-- none of the first 41 bytes is a line feed
pub none_found : (xs : List ℕ) → position (λ b. b == 10) (take 41 xs) ≡ None → NoLineFeed (take 41 xs)
none_found xs e =
    let end = no_place (λ b. b == 10) (take 41 xs) e in
    subst (λ (ys : List ℕ). NoLineFeed ys) (take_all (length (take 41 xs)) (take 41 xs) (omega arith))
    (no_feed_before (take 41 xs) (length (take 41 xs)) (omega arith) (λ k below. fails_before_first (λ b. b == 10) (take 41 xs) k 0 (omega arith)))

-- ---- one answer

-- a refusal of the line that comes next
refused_next : (p : Place) (a b : Option (List ℕ)) (kind : Refusal) → lines_looked_at (item.Refused kind) ≡ 1
    → ((text : List ℕ) → a ≡ Some text → read_from p text ≡ Refused [] (p.line + 1) kind)
    → Answers p a (item.Refused kind) (next_line p) b
refused_next p None b kind one says = record { says = tt; line = ap (λ (n : ℕ). p.line + n) (sym one); follows = tt; goes_on = tt; in_time = tt }
refused_next p (Some text) b kind one says = record {
  says = says text refl;
  line = ap (λ (n : ℕ). p.line + n) (sym one);
  follows = tt;
  goes_on = tt;
  in_time = tt;
}

-- the text ahead is what is held, and what is left
ahead_is : (held : List ℕ) (left : Option (List ℕ)) (a : Option (List ℕ)) (text : List ℕ) → prepend_known held left ≡ a → a ≡ Some text
    → (rest : List ℕ) × (left ≡ Some rest) × (text ≡ held ++ rest)
ahead_is held None a text e f = absurd (cc)
ahead_is held (Some rest) a text e f = (rest, refl, cc)

pub too_long : (p : Place) (held : List ℕ) (left a b : Option (List ℕ)) → p.line < 16777216 → prepend_known held left ≡ a → NoLineFeed (take 41 held)
    → 40 < length held → Answers p a (item.Refused refusal.TooLong) (next_line p) b
too_long p held left a b lt e none long =
    refused_next p a b refusal.TooLong refl (λ text f.
    let is = ahead_is held left a text e f in
    let cut : text ≡ take 41 held ++ (drop 41 held ++ is.0) =
    is.2 ∙ ap (λ (l : List ℕ). l ++ is.0) (sym (take-append-drop 41 held)) ∙ append_assoc (take 41 held) (drop 41 held) is.0 in
    let len : length (take 41 held) ≡ 41 = length-take-le 41 held (omega arith) in
    ap (read_from p) cut ∙ read_long p (take 41 held) (drop 41 held ++ is.0) lt none (omega arith))

at_end_is : (left : Option (List ℕ)) (rest : List ℕ) → left ≡ Some rest → IsAtEnd left → rest ≡ []
at_end_is None rest e h = cc
at_end_is (Some ys) rest e h = cc

pub no_end : (p : Place) (held : List ℕ) (left a b : Option (List ℕ)) → p.line < 16777216 → prepend_known held left ≡ a → IsAtEnd left
    → NoLineFeed (take 41 held) → length held ≤ 40 → Answers p a (item.Refused refusal.NoEnd) (next_line p) b
no_end p held left a b lt e end none short =
    refused_next p a b refusal.NoEnd refl (λ text f.
    let is = ahead_is held left a text e f in
    let all : text ≡ held = is.2 ∙ ap (λ (l : List ℕ). held ++ l) (at_end_is left is.0 is.1 end) ∙ append-nil held in
    ap (read_from p) all ∙ read_none p held lt (subst (λ (l : List ℕ). NoLineFeed l) (take_all 41 held (omega arith)) none) short)

pub nothing_left : (p : Place) (held : List ℕ) (left a b : Option (List ℕ)) → prepend_known held left ≡ a → IsAtEnd left → held ≡ []
    → Answers p a (item.Refused refusal.NoEnd) (next_line p) b
nothing_left p held left a b e end none =
    refused_next p a b refusal.NoEnd refl (λ text f.
    let is = ahead_is held left a text e f in
    let all : text ≡ [] = is.2 ∙ ap (λ (l : List ℕ). l ++ is.0) none ∙ at_end_is left is.0 is.1 end in
    ap (read_from p) all ∙ read_nothing p)

some_byte : (held : List ℕ) → 0 < length held → (b : ℕ) × (rest : List ℕ) × (held ≡ b ∷ rest)
some_byte [] lt = absurd (omega arith)
some_byte (b ∷ rest) lt = (b, rest, refl)

pub too_many : (p : Place) (held : List ℕ) (left a b : Option (List ℕ)) → 16777216 ≤ p.line → prepend_known held left ≡ a → 0 < length held
    → Answers p a (item.Refused refusal.TooMany) (next_line p) b
too_many p held left a b le e some =
    refused_next p a b refusal.TooMany refl (λ text f.
    let is = ahead_is held left a text e f in
    let first = some_byte held some in
    ap (read_from p) (is.2 ∙ ap (λ (l : List ℕ). l ++ is.0) first.2) ∙ read_many p first.0 (first.1 ++ is.0) le)

pub faulted : (p : Place) (a b : Option (List ℕ)) → Answers p a item.Fault (next_line p) b
faulted p a b = record { says = tt; line = refl; follows = tt; goes_on = tt; in_time = tt }

-- ---- nothing that was taken holds an event

-- no line is ended
pub none_ended : (p : Place) (held : List ℕ) (left a : Option (List ℕ)) → p.line < 16777216 → prepend_known held left ≡ a → NoLineFeed (take 41 held)
    → length held ≤ 40 → NoEvent p a left
none_ended p held left a lt e none short = record {
  bytes = held;
  is_front = sym e;
  none = ap events_of (read_none p held lt (subst (λ (l : List ℕ). NoLineFeed l) (take_all 41 held (omega arith)) none) short);
}

-- no byte is held
pub none_held : (p : Place) (held : List ℕ) (left a : Option (List ℕ)) → prepend_known held left ≡ a → held ≡ [] → NoEvent p a left
none_held p held left a e none = record { bytes = held; is_front = sym e; none = ap events_of (ap (read_from p) none ∙ read_nothing p) }

-- ---- a whole line

one_line : (kind : Refusal) → IsOfLine kind → lines_looked_at (item.Refused kind) ≡ 1
one_line refusal.TooLong h = refl
one_line refusal.BadTime h = refl
one_line refusal.TimeBack h = refl
one_line refusal.TooLate h = refl
one_line refusal.BadKind h = refl
one_line refusal.BadValue h = refl
one_line refusal.Trailing h = refl
one_line refusal.TooClose h = refl
one_line refusal.NoEnd h = refl
one_line refusal.AfterEnd h = absurd h
one_line refusal.TooMany h = refl

next_number : (p : Place) (e : Event) → (after_event p e).line ≡ p.line + 1
next_number p (event.Edge t level) = refl
next_number p (event.Comp t level) = refl
next_number p (event.Serial t byte) = refl
next_number p (event.Stall t n) = refl

pub fits_event : (p : Place) (r : Result Entry Refusal) (e : Event) → IfOk r (EntryFits p) → r ≡ Ok (entry.Event e) → Follows p e
fits_event p r e h is = subst (λ (x : Result Entry Refusal). IfOk x (EntryFits p)) is h

pub of_line : (r : Result Entry Refusal) (kind : Refusal) → IfErr r IsOfLine → r ≡ Err kind → IsOfLine kind
of_line r kind h is = subst (λ (x : Result Entry Refusal). IfErr x IsOfLine) is h

module _ (p : Place) (held : List ℕ) (n : ℕ) (is : IsLine n held) where
  -- the line and its line feed stand before what is ahead then
  whole : (rest : List ℕ) → held ++ rest ≡ take n held ++ 10 ∷ (drop (n + 1) held ++ rest)
  whole rest = ap (λ (l : List ℕ). l ++ rest) is.cut ∙ append_assoc (take n held) (10 ∷ drop (n + 1) held) rest

  ahead_cut : (left : Option (List ℕ)) → prepend_known held left ≡ prepend_known (take n held ++ 10 ∷ []) (prepend_known (drop (n + 1) held) left)
  ahead_cut left =
      ap (λ (l : List ℕ). prepend_known l left) (is.cut ∙ sym (append_assoc (take n held) (10 ∷ []) (drop (n + 1) held)))
      ∙ sym (prepend_both (take n held ++ 10 ∷ []) (drop (n + 1) held) left)

  -- what holds behind the line holds with the line before it
  pub none_whole : (r : Item) (old left : Option (List ℕ)) (rest : List ℕ) → rest ≡ drop (n + 1) held
      → OnStop r (NoEvent p (prepend_known (take n held ++ 10 ∷ []) (prepend_known rest old)) left)
      → OnStop r (NoEvent p (prepend_known held old) left)
  none_whole r old left rest behind h =
      subst (λ (a : Option (List ℕ)). OnStop r (NoEvent p a left)) (sym (ahead_cut old))
      (subst (λ (xs : List ℕ). OnStop r (NoEvent p (prepend_known (take n held ++ 10 ∷ []) (prepend_known xs old)) left)) behind h)

  pub says_event : (left : Option (List ℕ)) (e : Event) → said p (take n held) ≡ Ok (entry.Event e) → Follows p e
      → Answers p (prepend_known held left) (item.Event e) (after_event p e) (prepend_known (drop (n + 1) held) left)
  says_event left e s f = record {
    says = record {
      line = take n held ++ 10 ∷ [];
      is_front = ahead_cut left;
      goes_on = λ more. ap (read_from p) (append_assoc (take n held) (10 ∷ []) more) ∙ rw (read_whole p (take n held) more is.one, s) refl;
    };
    line = next_number p e;
    follows = f;
    goes_on = refl;
    in_time = tt;
  }

  pub says_event_at : (left : Option (List ℕ)) (e : Event) (q : Place) (rest : List ℕ) → said p (take n held) ≡ Ok (entry.Event e) → Follows p e
      → q ≡ after_event p e → rest ≡ drop (n + 1) held
      → Answers p (prepend_known held left) (item.Event e) q (prepend_known rest left)
  says_event_at left e q rest s f at behind =
      subst (λ (x : Place). Answers p (prepend_known held left) (item.Event e) x (prepend_known rest left)) (sym at)
      (subst (λ (xs : List ℕ). Answers p (prepend_known held left) (item.Event e) (after_event p e) (prepend_known xs left))
      (sym behind) (says_event left e s f))

  pub says_refused : (left b : Option (List ℕ)) (kind : Refusal) → said p (take n held) ≡ Err kind → IsOfLine kind
      → Answers p (prepend_known held left) (item.Refused kind) (next_line p) b
  says_refused left b kind s of =
      refused_next p (prepend_known held left) b kind (one_line kind of) (λ text f.
      let at = ahead_is held left (prepend_known held left) text refl f in
      ap (read_from p) (at.2 ∙ whole at.0) ∙ rw (read_whole p (take n held) (drop (n + 1) held ++ at.0) is.one, s) refl)

  says_whole_at : (left b : Option (List ℕ)) (r : Item) (q : Place) → AnswersWhole p (take n held) (prepend_known (drop (n + 1) held) left) r q b
      → Answers p (prepend_known held left) r q b
  says_whole_at None b r q h = h
  says_whole_at (Some rest) b r q h = subst (λ (text : List ℕ). Answers p (Some text) r q b) (sym (whole rest)) h

  pub says_whole : (left b : Option (List ℕ)) (r : Item) (q : Place) (rest : List ℕ) → rest ≡ drop (n + 1) held
      → AnswersWhole p (take n held) (prepend_known rest left) r q b → Answers p (prepend_known held left) r q b
  says_whole left b r q rest behind h = says_whole_at left b r q (subst (λ (xs : List ℕ). AnswersWhole p (take n held) (prepend_known xs left) r q b) behind h)

-- ---- behind the END line
module _ (p : Place) (t : Tick) (line : List ℕ) (no_feed : NoLineFeed line) (end : said p line ≡ Ok (entry.End t)) where
  pub none_behind : (held : List ℕ) (left a : Option (List ℕ)) → prepend_known held left ≡ a → held ≡ [] → NoEvent p (prepend_known (line ++ 10 ∷ []) a) left
  none_behind held left a e none = record {
    bytes = (line ++ 10 ∷ []) ++ held;
    is_front = ap (λ (o : Option (List ℕ)). prepend_known (line ++ 10 ∷ []) o) (sym e) ∙ prepend_both (line ++ 10 ∷ []) held left;
    none =
        ap (λ (l : List ℕ). events_of (read_from p ((line ++ 10 ∷ []) ++ l))) none
        ∙ ap (λ (l : List ℕ). events_of (read_from p l)) (append-nil (line ++ 10 ∷ [])) ∙ rw (read_whole p line [] no_feed, end, all_read) refl;
  }

  pub ends : (held : List ℕ) (left a b : Option (List ℕ)) → InTime p t.0 → prepend_known held left ≡ a → held ≡ [] → IsAtEnd left
      → AnswersWhole p line a (item.End t) (next_line p) b
  ends held left None b f e none h = record { says = tt; line = refl; follows = tt; goes_on = tt; in_time = f }
  ends held left (Some text) b f e none h =
      let at = ahead_is held left (Some text) text e refl in
      let all : text ≡ [] = at.2 ∙ ap (λ (l : List ℕ). l ++ at.0) none ∙ at_end_is left at.0 at.1 h in
      record {
        says = ap (λ (l : List ℕ). read_from p (line ++ 10 ∷ l)) all ∙ rw (read_whole p line [] no_feed, end, all_read) refl;
        line = refl;
        follows = tt;
        goes_on = tt;
        in_time = f;
      }

  pub goes_past : (held : List ℕ) (left a b : Option (List ℕ)) (q : Place) → q.line ≡ p.line + 2 → prepend_known held left ≡ a → 0 < length held
      → AnswersWhole p line a (item.Refused refusal.AfterEnd) q b
  goes_past held left None b q n e some = record { says = tt; line = n; follows = tt; goes_on = tt; in_time = tt }
  goes_past held left (Some text) b q n e some =
      let at = ahead_is held left (Some text) text e refl in
      let first = some_byte held some in
      let more : text ≡ first.0 ∷ (first.1 ++ at.0) = at.2 ∙ ap (λ (l : List ℕ). l ++ at.0) first.2 in
      record {
        says =
            ap (λ (l : List ℕ). read_from p (line ++ 10 ∷ l)) more
            ∙ rw (read_whole p line (first.0 ∷ (first.1 ++ at.0)) no_feed, end, more_left first.0 (first.1 ++ at.0), n) refl;
        line = n;
        follows = tt;
        goes_on = tt;
        in_time = tt;
      }

-- ---- line after line

no_events : (r : Reading) → with_events [] r ≡ r
no_events (Trace events end) = refl
no_events (Refused events line kind) = refl

prepend_none : (a : Option (List ℕ)) → prepend_known [] a ≡ a
prepend_none None = refl
prepend_none (Some text) = refl

pub nothing_read : (l : Lines) (left : Option (List ℕ)) → unread l.held ≡ [] → place l ≡ start → HasRead l left left []
nothing_read l left none first = record {
  seen = [];
  is_ahead = sym (prepend_none (ahead l.held left) ∙ ap (λ (xs : List ℕ). prepend_known xs left) none ∙ prepend_none left);
  goes_on = λ more. sym (no_events (read_from (place l) more) ∙ ap (λ (p : Place). read_from p more) first);
}

one_more : (events : List Event) (e : Event) (r : Reading) → with_events events (with_event e r) ≡ with_events (events ++ e ∷ []) r
one_more events e (Trace more end) = ap (λ (es : List Event). Trace es end) (sym (append_assoc events (e ∷ []) more))
one_more events e (Refused more line kind) = ap (λ (es : List Event). Refused es line kind) (sym (append_assoc events (e ∷ []) more))

-- one event more was read
pub read_more : (l m : Lines) (left after : Option (List ℕ)) (e : Event) → Says (place l) (ahead l.held left) (item.Event e) (place m) (ahead m.held after)
    → (first : Option (List ℕ)) (events : List Event) → HasRead l first left events
    → HasRead m first after (events ++ e ∷ [])
read_more l m left after e s first events h = record {
  seen = h.seen ++ s.line;
  is_ahead = h.is_ahead ∙ ap (λ (o : Option (List ℕ)). prepend_known h.seen o) s.is_front ∙ prepend_both h.seen s.line (ahead m.held after);
  goes_on = λ more.
      ap (λ (l : List ℕ). Read l) (append_assoc h.seen s.line more) ∙ h.goes_on (s.line ++ more)
      ∙ ap (with_events events) (s.goes_on more) ∙ one_more events e (read_from (place m) more);
}

-- the same, whatever the answer is
pub read_more_if : (l m : Lines) (left after : Option (List ℕ)) (r : Item) → Answers (place l) (ahead l.held left) r (place m) (ahead m.held after)
    → IfEvent r (λ e. (first : Option (List ℕ)) (events : List Event) → HasRead l first left events → HasRead m first after (events ++ e ∷ []))
read_more_if l m left after (item.Event e) a = read_more l m left after e a.says
read_more_if l m left after (item.End t) a = tt
read_more_if l m left after item.Fault a = tt
read_more_if l m left after (item.Refused kind) a = tt

-- where the whole text is told, so is what is ahead
text_ahead : (l : Lines) (left : Option (List ℕ)) (text : List ℕ) (events : List Event) → HasRead l (Some text) left events
    → (rest : List ℕ) × (ahead l.held left ≡ Some rest) × (Read text ≡ with_events events (read_from (place l) rest))
text_ahead l left text events h =
    let is = ahead_is h.seen (ahead l.held left) (Some text) text (sym h.is_ahead) refl in
    (is.0, is.1, ap (λ (t : List ℕ). Read t) is.2 ∙ h.goes_on is.0)

reads_as : (p : Place) (a : Option (List ℕ)) (rest : List ℕ) (r : Reading) → a ≡ Some rest → ReadsAs p a r → read_from p rest ≡ r
reads_as p None rest r is s = cc
reads_as p (Some text) rest r is s = ap (read_from p) (cc) ∙ s

-- no event more, and so the text says what the last answer says
reads_whole : (l : Lines) (left : Option (List ℕ)) (text : List ℕ) (events : List Event) (r : Reading) → HasRead l (Some text) left events
    → ReadsAs (place l) (ahead l.held left) r → Read text ≡ with_events events r
reads_whole l left text events r h s =
    let at = text_ahead l left text events h in
    at.2 ∙ ap (with_events events) (reads_as (place l) (ahead l.held left) at.0 r at.1 s)

events-with_events : (events : List Event) (r : Reading) → events_of (with_events events r) ≡ events ++ events_of r
events-with_events events (Trace more end) = refl
events-with_events events (Refused more line kind) = refl

-- the events of what was taken are those that were read, and those of the lines that are held
pub taken_held : (l : Lines) (first left : Option (List ℕ)) (events : List Event) → HasRead l first left events
    → TakenEvents first left (events ++ events_of (read_from (place l) (unread l.held)))
taken_held l first left events h = record {
  taken = h.seen ++ unread l.held;
  is_front = h.is_ahead ∙ prepend_both h.seen (unread l.held) left;
  of_lines = ap events_of (h.goes_on (unread l.held)) ∙ events-with_events events (read_from (place l) (unread l.held));
}

-- nothing was taken
pub none_taken : (left : Option (List ℕ)) → TakenEvents left left []
none_taken left = record { taken = []; is_front = sym (prepend_none left); of_lines = ap events_of (read_nothing start) }

taken_all : (l : Lines) (first before left : Option (List ℕ)) (events : List Event) → NoEvent (place l) (ahead l.held before) left
    → HasRead l first before events → TakenEvents first left events
taken_all l first before left events n h = record {
  taken = h.seen ++ n.bytes;
  is_front = h.is_ahead ∙ ap (λ (o : Option (List ℕ)). prepend_known h.seen o) n.is_front ∙ prepend_both h.seen n.bytes left;
  of_lines =
      ap events_of (h.goes_on n.bytes) ∙ events-with_events events (read_from (place l) n.bytes)
      ∙ ap (λ (es : List Event). events ++ es) n.none ∙ append-nil events;
}

pub taken_if : (l : Lines) (before left : Option (List ℕ)) (r : Item) → OnStop r (NoEvent (place l) (ahead l.held before) left)
    → OnStop r ((first : Option (List ℕ)) (events : List Event) → HasRead l first before events → TakenEvents first left events)
taken_if l before left (item.Event e) n = tt
taken_if l before left (item.End t) n = λ first events h. taken_all l first before left events n h
taken_if l before left item.Fault n = λ first events h. taken_all l first before left events n h
taken_if l before left (item.Refused kind) n = tt

pub same_none : (p p' : Place) (a a' left : Option (List ℕ)) (r : Item) → p' ≡ p → a' ≡ a → OnStop r (NoEvent p' a' left) → OnStop r (NoEvent p a left)
same_none p p' a a' left r e f h = subst (λ (x : Place). OnStop r (NoEvent x a left)) e (subst (λ (x : Option (List ℕ)). OnStop r (NoEvent p' x left)) f h)

pub same_answers : (p p' q q' : Place) (a a' b : Option (List ℕ)) (r : Item) → p' ≡ p → a' ≡ a → q' ≡ q → Answers p' a' r q' b → Answers p a r q b
same_answers p p' q q' a a' b r e f g h =
    subst (λ (x : Place). Answers p a r x b) g (subst (λ (x : Option (List ℕ)). Answers p x r q' b) f (subst (λ (x : Place). Answers x a' r q' b) e h))
