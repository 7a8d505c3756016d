-- A text is that of one list of notes.
use Rattle.std.proofs.Common.{◌≡◌, ℕ, ◌==◌, List, [], ◌∷◌, ◌++◌, drop, refl, sym, ◌∙◌, ap, append_assoc}
use Rattle.std.specs.List.{slice_split}
use Rattle.std.proofs.lemmas.List.Elements.{All-head, All-tail}
use Rattle.std.proofs.lemmas.List.{append_cancel_left}
use Rattle.std.proofs.lemmas.List.Splits.{slice_split_at}
use Rattle.std.proofs.lemmas.Option.{same_Some}
use Rattle.esc_base.specs.declared.note.Note.{Note}
use Rattle.esc_base.specs.Journal.{time_of}
use Rattle.esc_base.specs.Range.{InRange}
use Rattle.trace_text.specs.Line.{fields, number_between}
use Rattle.trace_text.specs.NoteRead.{word_at}
use Rattle.trace_text.specs.Text.{letter, note_fields, Text}
use Rattle.trace_text.specs.Laws.{OneJournal}
use Rattle.trace_text.proofs.NoteBack.{NoFeed, note_front, fields_of_front, no_feed_front, time_back, note_back, read_back}

-- the first line feed parts the text in one way
same_front : (front other rest more : List ℕ) → NoFeed front → NoFeed other → front ++ 10 ∷ rest ≡ other ++ 10 ∷ more → front ≡ other
same_front front other rest more h k e =
    let parts =
    sym (slice_split_at (λ b. b == 10) front 10 rest h refl) ∙ ap (slice_split (λ b. b == 10)) e ∙ slice_split_at (λ b. b == 10) other 10 more k refl in
    cc

same_rest : (front other rest more : List ℕ) → front ≡ other → front ++ 10 ∷ rest ≡ other ++ 10 ∷ more → rest ≡ more
same_rest front other rest more same e =
    let tails = append_cancel_left front (10 ∷ rest) (10 ∷ more) (e ∙ ap (λ (l : List ℕ). l ++ 10 ∷ more) (sym same)) in
    cc

-- one line is that of one note
one_note : (n m : Note) → InRange n → InRange m → note_front n ≡ note_front m → n ≡ m
one_note n m h k e =
    let parts = sym (fields_of_front n h) ∙ ap fields e ∙ fields_of_front m k in
    let words : note_fields m ≡ note_fields n = cc in
    let letters : letter m ≡ letter n = cc in
    let known = sym (time_back m k) ∙ ap (λ (ws : List (List ℕ)). number_between 0 4294967295 (word_at 0 ws)) words ∙ time_back n h in
    let times = same_Some (time_of m) (time_of n) known in
    let later = ap (λ (ws : List (List ℕ)). drop 1 ws) words in
    let back =
    read_back n h _ _ _ _ _ letters times (ap (word_at 0) later) (ap (λ (ws : List (List ℕ)). word_at 0 (drop 1 ws)) later)
    (ap (λ (ws : List (List ℕ)). word_at 0 (drop 1 (drop 1 ws))) later) in
    same_Some n m (sym back ∙ note_back m k)

-- a text of one note more: its front, its line feed, and the text of the others
text_more : (n : Note) (notes : List Note) → Text (n ∷ notes) ≡ note_front n ++ 10 ∷ Text notes
text_more n notes = append_assoc (note_front n) (10 ∷ []) (Text notes)

pub one_text : OneJournal
one_text [] [] h k e = refl
one_text [] (m ∷ others) h k e = cc
one_text (n ∷ notes) [] h k e = cc
one_text (n ∷ notes) (m ∷ others) h k e =
    let whole = sym (text_more n notes) ∙ e ∙ text_more m others in
    let in_n = All-head InRange n notes h in
    let in_m = All-head InRange m others k in
    let fronts = same_front (note_front n) (note_front m) (Text notes) (Text others) (no_feed_front n in_n) (no_feed_front m in_m) whole in
    let first = one_note n m in_n in_m fronts in
    let rest =
    one_text notes others (All-tail InRange n notes h) (All-tail InRange m others k)
    (same_rest (note_front n) (note_front m) (Text notes) (Text others) fronts whole) in
    cc
