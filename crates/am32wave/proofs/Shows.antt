-- A journal is read and shown note by note.
use Rattle.std.proofs.Common.{◌≡◌, ◌≤◌, ◌<◌, ℕ, List, [], ◌∷◌, ◌++◌, length, Option, Some, None, refl, sym, ◌∙◌, ap, subst, append_assoc, append-nil, length-append, arith}
use Rattle.std.specs.List.{All}
use Rattle.std.specs.Io.KnownBytes.{prepend_known, append_known, IsAtEnd}
use Rattle.std.proofs.lemmas.Option.{same_Some}
use Rattle.std.proofs.lemmas.List.Concat.{flat_map-append}
use Rattle.std.proofs.lemmas.List.Elements.{All-nil, All-push, All-weaker, All-head, All-tail}
use Rattle.esc_base.specs.declared.note.Note.{Note}
use Rattle.esc_base.specs.Journal.{time_of, Each, IsLater, Journal}
use Rattle.esc_base.specs.Outside.{AppendsFront}
use Rattle.esc_base.specs.Range.{InRange}
use Rattle.trace_text.specs.Ahead.{unread, ahead}
use Rattle.trace_text.specs.Text.{note_bytes, Text}
use Rattle.trace_text.proofs.Taking.{prepend_both}
use Rattle.am32wave.specs.declared.reader.Journal.{Journal as Reader}
use Rattle.am32wave.specs.declared.journal.Refusal.{Refusal}
use Rattle.am32wave.specs.declared.journal.Refusal.TheVariants as refusal
use Rattle.am32wave.specs.declared.run.Form.{Form}
use Rattle.am32wave.specs.declared.run.Form.TheVariants as form
use Rattle.am32wave.specs.declared.drawing.Drawing.{Drawing}
use Rattle.am32wave.specs.declared.moment.Moment.{Moment}
use Rattle.am32wave.specs.declared.moment.Moment.TheVariants as moment
use Rattle.am32wave.specs.declared.run.Report.{Report}
use Rattle.am32wave.specs.declared.view.Plan.{Plan}
use Rattle.am32wave.specs.declared.status.Status.{Status}
use Rattle.am32wave.specs.declared.status.Status.TheVariants as status
use Rattle.am32wave.specs.Picture.{newest, last_time}
use Rattle.am32wave.specs.After.{IsDrawnAfter}
use Rattle.am32wave.specs.Drawn.{head, begun as begun_drawing}
use Rattle.am32wave.specs.Explained.{line, lines}
use Rattle.am32wave.specs.Reading.{NoteAhead, IsCutOff, Refuses, PassesLine, HasRead, most_lines}
use Rattle.am32wave.specs.Shown.{journal_plan, moments_of, head_text, part_text, end_text, begun, shown, form_of, IsAfter, IsDone, IsRefused, IsWriteFault, Shown, IsDoneOrFault, IsJournal}
use Rattle.am32wave.proofs.Look.{last_time_more}
use Rattle.am32wave.proofs.Lines.{same_line, no_line_within}
use Rattle.am32wave.proofs.Parts.{append_known-twice, front_behind}
use Rattle.am32wave.proofs.Scenes.{begun_more as begun_drawing_more}

-- ---- one note more

lines_more : (before notes : List Note) (n : Note) → lines before (notes ++ n ∷ []) ≡ lines before notes ++ line (before ++ notes) n
lines_more before [] n = append-nil (line before n) ∙ ap (λ (b : List Note). line b n) (sym (append-nil before))
lines_more before (m ∷ notes) n =
    ap (λ (bytes : List ℕ). line before m ++ bytes) (lines_more (before ++ m ∷ []) notes n)
    ∙ sym (append_assoc (line before m) (lines (before ++ m ∷ []) notes) (line ((before ++ m ∷ []) ++ notes) n))
    ∙ ap (λ (b : List Note). (line before m ++ lines (before ++ m ∷ []) notes) ++ line b n) (append_assoc before (m ∷ []) notes)

moments_more : (notes : List Note) (n : Note) → moments_of (notes ++ n ∷ []) ≡ moments_of notes ++ moment.Note n ∷ []
moments_more [] n = refl
moments_more (m ∷ notes) n = ap (λ (ms : List Moment). moment.Note m ∷ ms) (moments_more notes n)

begun_more : (f : Form) (notes : List Note) (n : Note) → begun f (notes ++ n ∷ []) ≡ begun f notes ++ part_text f notes n
begun_more (form.Drawn v s) notes n =
    ap (begun_drawing (journal_plan v s)) (moments_more notes n) ∙ begun_drawing_more (journal_plan v s) (moments_of notes) (moment.Note n)
begun_more form.Words notes n = lines_more [] notes n

begun_none : (f : Form) → begun f [] ≡ head_text f
begun_none (form.Drawn v s) = append-nil (head (journal_plan v s))
begun_none form.Words = refl

shown_is : (f : Form) (notes : List Note) → begun f notes ++ end_text f notes ≡ shown f notes
shown_is (form.Drawn v s) notes = refl
shown_is form.Words notes = refl

-- ---- what is kept, one note more

pub drawn_more : (d e : Drawing) (notes : List Note) (n : Note) → e.plan ≡ d.plan
    → IsDrawnAfter e (journal_plan d.plan.view d.plan.stretch) (moments_of notes ++ moment.Note n ∷ [])
    → IsDrawnAfter e (journal_plan e.plan.view e.plan.stretch) (moments_of (notes ++ n ∷ []))
drawn_more d e notes n same h =
    subst (λ (p : Plan). IsDrawnAfter e (journal_plan p.view p.stretch) (moments_of (notes ++ n ∷ []))) (sym same)
    (subst (IsDrawnAfter e (journal_plan d.plan.view d.plan.stretch)) (sym (moments_more notes n)) h)

each_push : (Fits : List Note → Note → Type 0) (before notes : List Note) (n : Note) → Each Fits before notes → Fits (before ++ notes) n
    → Each Fits before (notes ++ n ∷ [])
each_push Fits before [] n h k = (subst (λ (b : List Note). Fits b n) (append-nil before) k, tt)
each_push Fits before (m ∷ notes) n h k =
    (h.0, each_push Fits (before ++ m ∷ []) notes n h.1 (subst (λ (b : List Note). Fits b n) (sym (append_assoc before (m ∷ []) notes)) k))

Text-push : (notes : List Note) (n : Note) → Text (notes ++ n ∷ []) ≡ Text notes ++ note_bytes n
Text-push notes n = flat_map-append note_bytes notes (n ∷ []) ∙ ap (λ (x : List ℕ). Text notes ++ x) (append-nil (note_bytes n))

-- ---- the run so far

pub record SoFar (f : Form) (j : Reader) (r : Report) (left_first left given_first given : Option (List ℕ)) : Type 0 where
  pub notes : List Note
  pub read : HasRead left_first (ahead j.held left) notes
  pub below : All (λ n. time_of n ≤ j.time.0) notes
  pub newest : last_time notes ≡ j.time.0
  pub line : j.line ≡ length notes
  pub form : form_of r ≡ f
  pub stands : IsAfter r notes
  pub given_is : given ≡ append_known given_first (begun f notes)

pub read_more : (j j' : Reader) (left_first left left' : Option (List ℕ)) (notes : List Note) (n : Note) → HasRead left_first (ahead j.held left) notes
    → All (λ m. time_of m ≤ j.time.0) notes → PassesLine n j j' (ahead j.held left) (ahead j'.held left')
    → HasRead left_first (ahead j'.held left') (notes ++ n ∷ [])
read_more j j' left_first left left' notes n h below p = record {
  is =
      h.is ∙ ap (λ (o : Option (List ℕ)). prepend_known (Text notes) o) p.ahead.is_front
      ∙ prepend_both (Text notes) (note_bytes n) (ahead j'.held left')
      ∙ ap (λ (bytes : List ℕ). prepend_known bytes (ahead j'.held left')) (sym (Text-push notes n));
  in_range = All-push InRange notes n h.in_range p.ahead.in_range;
  ordered =
      each_push IsLater [] notes n h.ordered
      (All-weaker (λ m. time_of m ≤ j.time.0) (λ m. time_of m ≤ time_of n) (λ m le. let l = p.later in omega arith) notes below);
}

pub more : (f : Form) (j j' : Reader) (r r' : Report) (left_first left left' given_first given given' : Option (List ℕ)) (n : Note) (bytes : List ℕ)
    → (s : SoFar f j r left_first left given_first given) → PassesLine n j j' (ahead j.held left) (ahead j'.held left') → form_of r' ≡ form_of r
    → ((notes : List Note) → IsAfter r notes → IsAfter r' (notes ++ n ∷ []))
    → ((notes : List Note) → IsAfter r notes → bytes ≡ part_text (form_of r) notes n)
    → given' ≡ append_known given bytes → SoFar f j' r' left_first left' given_first given'
more f j j' r r' left_first left left' given_first given given' n bytes s p same goes_on text e = record {
  notes = s.notes ++ n ∷ [];
  read = read_more j j' left_first left left' s.notes n s.read s.below p;
  below =
      All-push (λ m. time_of m ≤ j'.time.0) s.notes n
      (All-weaker (λ m. time_of m ≤ j.time.0) (λ m. time_of m ≤ j'.time.0) (λ m le. let l = p.later in let t = p.time in omega arith) s.notes s.below)
      (let t = p.time in omega arith);
  newest = last_time_more s.notes n ∙ sym p.time;
  line = p.line ∙ (let l = s.line in let len = length-append s.notes (n ∷ []) in omega arith);
  form = same ∙ s.form;
  stands = goes_on s.notes s.stands;
  given_is =
      e ∙ ap (append_known given) (text s.notes s.stands ∙ ap (λ (g : Form). part_text g s.notes n) s.form)
      ∙ ap (λ (o : Option (List ℕ)). append_known o (part_text f s.notes n)) s.given_is
      ∙ sym (append_known-twice given_first (begun f s.notes) (part_text f s.notes n))
      ∙ ap (append_known given_first) (sym (begun_more f s.notes n));
}

-- ---- the endings

pub done : (f : Form) (j : Reader) (r : Report) (left_first left given_first given given' : Option (List ℕ)) (bytes : List ℕ)
    → (s : SoFar f j r left_first left given_first given) → IsAtEnd (ahead j.held left)
    → ((notes : List Note) → IsAfter r notes → bytes ≡ end_text (form_of r) notes) → given' ≡ append_known given bytes
    → IsDone f left_first given_first given'
done f j r left_first left given_first given given' bytes s end text e = record {
  notes = s.notes;
  behind = ahead j.held left;
  read = s.read;
  ended = end;
  wrote =
      e ∙ ap (append_known given) (text s.notes s.stands ∙ ap (λ (g : Form). end_text g s.notes) s.form)
      ∙ ap (λ (o : Option (List ℕ)). append_known o (end_text f s.notes)) s.given_is
      ∙ sym (append_known-twice given_first (begun f s.notes) (end_text f s.notes)) ∙ ap (append_known given_first) (shown_is f s.notes);
}

none_read : (left : Option (List ℕ)) → left ≡ prepend_known (Text []) left
none_read None = refl
none_read (Some rest) = refl

pub nothing_given : (given : Option (List ℕ)) → given ≡ append_known given []
nothing_given None = refl
nothing_given (Some bytes) = ap (λ (b : List ℕ). Some b) (sym (append-nil bytes))

-- a front of the head
pub broken_head : (f : Form) (r : Report) (left given_first given : Option (List ℕ)) (bytes : List ℕ) → form_of r ≡ f → bytes ≡ head_text (form_of r)
    → AppendsFront given_first bytes given → IsWriteFault f left given_first given
broken_head f r left given_first given bytes is text h = record {
  notes = [];
  behind = left;
  read = record { is = none_read left; in_range = All-nil InRange; ordered = tt };
  front = front_behind given_first given_first given [] bytes (end_text f []) (shown f []) (nothing_given given_first) h
      (ap (λ (b : List ℕ). b ++ end_text f []) (text ∙ ap head_text is ∙ sym (begun_none f)) ∙ shown_is f []);
}

-- a front of a note's part
pub broken_part : (f : Form) (j j' : Reader) (r : Report) (left_first left left' given_first given given' : Option (List ℕ)) (n : Note) (bytes : List ℕ)
    → (s : SoFar f j r left_first left given_first given) → PassesLine n j j' (ahead j.held left) (ahead j'.held left')
    → ((notes : List Note) → IsAfter r notes → bytes ≡ part_text (form_of r) notes n)
    → AppendsFront given bytes given' → IsWriteFault f left_first given_first given'
broken_part f j j' r left_first left left' given_first given given' n bytes s p text h = record {
  notes = s.notes ++ n ∷ [];
  behind = ahead j'.held left';
  read = read_more j j' left_first left left' s.notes n s.read s.below p;
  front = front_behind given_first given given' (begun f s.notes) bytes (end_text f (s.notes ++ n ∷ [])) (shown f (s.notes ++ n ∷ [])) s.given_is h
      (ap (λ (b : List ℕ). begun f s.notes ++ (b ++ end_text f (s.notes ++ n ∷ []))) (text s.notes s.stands ∙ ap (λ (g : Form). part_text g s.notes n) s.form)
      ∙ sym (append_assoc (begun f s.notes) (part_text f s.notes n) (end_text f (s.notes ++ n ∷ [])))
      ∙ ap (λ (b : List ℕ). b ++ end_text f (s.notes ++ n ∷ [])) (sym (begun_more f s.notes n)) ∙ shown_is f (s.notes ++ n ∷ []));
}

-- a front of the end
pub broken_end : (f : Form) (j : Reader) (r : Report) (left_first left given_first given given' : Option (List ℕ)) (bytes : List ℕ)
    → (s : SoFar f j r left_first left given_first given) → ((notes : List Note) → IsAfter r notes → bytes ≡ end_text (form_of r) notes)
    → AppendsFront given bytes given' → IsWriteFault f left_first given_first given'
broken_end f j r left_first left given_first given given' bytes s text h = record {
  notes = s.notes;
  behind = ahead j.held left;
  read = s.read;
  front = front_behind given_first given given' (begun f s.notes) bytes [] (shown f s.notes) s.given_is h
      (ap (λ (b : List ℕ). begun f s.notes ++ b) (append-nil bytes ∙ text s.notes s.stands ∙ ap (λ (g : Form). end_text g s.notes) s.form)
      ∙ shown_is f s.notes);
}

-- ---- a good journal isn't refused

-- the notes that were read are the first ones of a journal, and the rest stands behind them
record TheRest (all notes : List Note) (bytes : List ℕ) : Type 0 where
  pub rest : List Note
  pub is : all ≡ notes ++ rest
  pub text : bytes ≡ Text rest
  pub in_range : All InRange rest

rest_of : (all notes : List Note) (bytes : List ℕ) → All InRange all → All InRange notes → Text all ≡ Text notes ++ bytes → TheRest all notes bytes
rest_of all [] bytes h k e = record { rest = all; is = refl; text = sym e; in_range = h }
rest_of [] (n ∷ notes) bytes h k e = absurd (cc)
rest_of (m ∷ all) (n ∷ notes) bytes h k e =
    let s = same_line m n (Text all) (Text notes ++ bytes) (All-head InRange m all h) (All-head InRange n notes k)
    (e ∙ append_assoc (note_bytes n) (Text notes) bytes) in
    let t = rest_of all notes bytes (All-tail InRange m all h) (All-tail InRange n notes k) s.1 in
    record { rest = t.rest; is = ap (λ (x : Note). x ∷ all) s.0 ∙ ap (λ (xs : List Note). n ∷ xs) t.is; text = t.text; in_range = t.in_range }

-- the time of the newest note is below a limit that holds for all
last_below : (notes : List Note) (first t : ℕ) → first ≤ t → All (λ m. time_of m ≤ t) notes → newest (λ n. Some (time_of n)) first notes ≤ t
last_below [] first t le h = le
last_below (m ∷ notes) first t le h =
    last_below notes (time_of m) t (All-head (λ n. time_of n ≤ t) m notes h) (All-tail (λ n. time_of n ≤ t) m notes h)

-- the note at a place of a journal isn't before those in front of it
in_order : (before notes : List Note) (m : Note) (rest : List Note) → Each IsLater before (notes ++ m ∷ rest) → IsLater (before ++ notes) m
in_order before [] m rest h = subst (λ (b : List Note). IsLater b m) (sym (append-nil before)) h.0
in_order before (n ∷ notes) m rest h =
    subst (λ (b : List Note). IsLater b m) (append_assoc before (n ∷ []) notes) (in_order (before ++ n ∷ []) notes m rest h.1)

empty_front : (bytes : List ℕ) (behind : Option (List ℕ)) → Some [] ≡ prepend_known bytes behind → bytes ≡ []
empty_front [] behind e = refl
empty_front (b ∷ bytes) None e = absurd (cc)
empty_front (b ∷ bytes) (Some rest) e = absurd (cc)

no_line_empty : (n : Note) (behind : Option (List ℕ)) → NoteAhead n (Some []) behind → ⊥
no_line_empty n behind h = let none = empty_front (note_bytes n) behind h.is_front in absurd (cc)

-- where nothing is left, nothing is refused
none_refused : (kind : Refusal) (lines time : ℕ) → Refuses kind lines time (Some []) → ⊥
none_refused refusal.NotANote lines time h = h.some refl
none_refused refusal.TimeBack lines time h = no_line_empty h.note h.behind h.ahead
none_refused refusal.NoEnd lines time h = h.some (empty_front h.bytes h.behind h.is_front)
none_refused refusal.TooMany lines time h = no_line_empty h.note h.behind h.ahead

same_ahead : (m n : Note) (more : List ℕ) (behind : Option (List ℕ)) → InRange m → NoteAhead n (Some (note_bytes m ++ more)) behind → m ≡ n
same_ahead m n more None h a = let e = a.is_front in absurd (cc)
same_ahead m n more (Some rest) h a = (same_line m n more rest h a.in_range (same_Some _ _ a.is_front)).0

not_cut_off : (m : Note) (more : List ℕ) → InRange m → IsCutOff (Some (note_bytes m ++ more)) → ⊥
not_cut_off m more h c = no_line_within m more c.bytes c.behind h c.no_line c.ended c.is_front

-- a note's line that comes in time, and isn't one too many, isn't refused
line_passes : (kind : Refusal) (lines time : ℕ) (m : Note) (more : List ℕ) → InRange m → time ≤ time_of m → lines < most_lines
    → Refuses kind lines time (Some (note_bytes m ++ more)) → ⊥
line_passes refusal.NotANote lines time m more h le lt r = r.none m more h refl
line_passes refusal.TimeBack lines time m more h le lt r =
    let same = ap time_of (same_ahead m r.note more r.behind h r.ahead) in let early = r.early in omega arith
line_passes refusal.NoEnd lines time m more h le lt r = not_cut_off m more h r
line_passes refusal.TooMany lines time m more h le lt r = let all = r.all in omega arith

known_rest : (read text : List ℕ) (behind : Option (List ℕ)) → Some text ≡ prepend_known read behind
    → (bytes : List ℕ) × (behind ≡ Some bytes) × (text ≡ read ++ bytes)
known_rest read text None e = absurd (cc)
known_rest read text (Some bytes) e = (bytes, refl, same_Some _ _ e)

refuses_none : (kind : Refusal) (notes rest : List Note) → All InRange rest → Journal (notes ++ rest) → length (notes ++ rest) ≤ most_lines
    → Refuses kind (length notes) (last_time notes) (Some (Text rest)) → ⊥
refuses_none kind notes [] h ordered few r = none_refused kind (length notes) (last_time notes) r
refuses_none kind notes (m ∷ rest) h ordered few r =
    line_passes kind (length notes) (last_time notes) m (Text rest) (All-head InRange m rest h)
    (last_below notes 0 (time_of m) (omega arith) (in_order [] notes m rest ordered)) (let len = length-append notes (m ∷ rest) in omega arith) r

pub not_refused : (f : Form) (line : ℕ) (kind : Refusal) (text : List ℕ) (before after : Option (List ℕ)) → IsJournal text
    → IsRefused f line kind (Some text) before after → ⊥
not_refused f line kind text before after j r =
    let known = known_rest (Text r.notes) text r.behind r.read.is in
    let t = rest_of j.notes r.notes known.0 j.in_range r.read.in_range (sym j.is ∙ known.2) in
    refuses_none kind r.notes t.rest t.in_range (subst Journal t.is j.ordered) (subst (λ (ns : List Note). length ns ≤ most_lines) t.is j.few)
    (subst (λ (o : Option (List ℕ)). Refuses kind (length r.notes) (last_time r.notes) o) (known.1 ∙ ap (λ (b : List ℕ). Some b) t.text) r.cause)

pub done_or_fault : (f : Form) (s : Status) (left left_after before after : Option (List ℕ)) (text : List ℕ) → left ≡ Some text → IsJournal text
    → Shown f s left left_after before after → IsDoneOrFault s
done_or_fault f status.Done left left_after before after text e j h = tt
done_or_fault f (status.Refused line kind) left left_after before after text e j h =
    not_refused f line kind text before after j (subst (λ (o : Option (List ℕ)). IsRefused f line kind o before after) e h)
done_or_fault f (status.TraceRefused line kind) left left_after before after text e j h = h
done_or_fault f status.TraceFault left left_after before after text e j h = h
done_or_fault f status.Usage left left_after before after text e j h = h
done_or_fault f status.ReadFault left left_after before after text e j h = tt
done_or_fault f status.WriteFault left left_after before after text e j h = tt
done_or_fault f status.NoMemory left left_after before after text e j h = h

-- before the first note
pub started : (f : Form) (j : Reader) (r : Report) (left given given' : Option (List ℕ)) (bytes : List ℕ) → unread j.held ≡ [] → j.line ≡ 0 → j.time.0 ≡ 0
    → form_of r ≡ f → IsAfter r [] → bytes ≡ head_text (form_of r) → given' ≡ append_known given bytes → SoFar f j r left left given given'
started f j r left given given' bytes none line time is first text wrote = record {
  notes = [];
  read = record {
    is = none_read left ∙ ap (λ (u : List ℕ). prepend_known u left) (sym none) ∙ none_read (ahead j.held left);
    in_range = All-nil InRange;
    ordered = tt;
  };
  below = All-nil (λ (n : Note). time_of n ≤ j.time.0);
  newest = sym time;
  line = line;
  form = is;
  stands = first;
  given_is = wrote ∙ ap (λ (b : List ℕ). append_known given b) (text ∙ ap head_text is ∙ sym (begun_none f));
}
