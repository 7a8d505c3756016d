-- From a page's data its journal's notes are read back.
use Rattle.std.proofs.Common.{◌≡◌, ◌<◌, ℕ, false, List, [], ◌∷◌, ◌++◌, All, refl, sym, ◌∙◌, ap, append_assoc, append-nil, Option, arith}
use Rattle.std.specs.Io.KnownBytes.{append_known}
use Rattle.std.proofs.lemmas.Bool.{le-leb, le-ltb}
use Rattle.std.proofs.lemmas.List.Elements.{All-head, All-tail}
use Rattle.esc_base.specs.declared.note.Note.{Note}
use Rattle.esc_base.specs.declared.note.Note.TheVariants as note
use Rattle.esc_base.specs.Journal.{time_of}
use Rattle.esc_base.specs.Range.{InRange, IsWord}
use Rattle.trace_text.specs.Text.{note_bytes}
use Rattle.am32wave.specs.declared.moment.Moment.{Moment}
use Rattle.am32wave.specs.declared.moment.Moment.TheVariants as moment
use Rattle.am32wave.specs.declared.run.Form.TheVariants as form
use Rattle.am32wave.specs.declared.view.Stretch.{Stretch}
use Rattle.am32wave.specs.declared.view.View.TheVariants as view
use Rattle.am32wave.specs.Drawn.{all_changes, part, parts, late_opening, drawn}
use Rattle.am32wave.specs.Laws.{page_plan, page_data}
use Rattle.am32wave.specs.Moments.{newest_time}
use Rattle.am32wave.specs.Page.{stretch_line, page_head, page_end}
use Rattle.am32wave.specs.PageShown.{WrotePage}
use Rattle.am32wave.specs.Scene.{scene}
use Rattle.am32wave.specs.Shown.{moments_of, IsDone}
use Rattle.am32wave.specs.Stretch.{whole}
use Rattle.am32wave.proofs.Lines.{same_line}
use Rattle.am32wave.proofs.Markup.{no_markup_of}

in_time : (n : Note) → InRange n → IsWord (time_of n)
in_time (note.Up t r) h = let z = h.0 in omega arith
in_time (note.Enter t k) h = h.0
in_time (note.Leave t k) h = h.0
in_time (note.Gate t hi lo) h = h.0
in_time (note.Window t m) h = h.0
in_time (note.Good t v q) h = h.0
in_time (note.Detected t m) h = h.0
in_time (note.Nothing t) h = h
in_time (note.Bad t w) h = h.0
in_time (note.Control t n s d) h = h.0
in_time (note.Armed t) h = h
in_time (note.Lost t c) h = h.0
in_time (note.Command t c) h = h.0
in_time (note.Saved t r) h = h.0
in_time (note.Step t s) h = h.0
in_time (note.Cross t) h = h
in_time (note.Period t p) h = h.0
in_time (note.Reply t s b) h = h.0
in_time (note.Packet t cc kk) h = h.0
in_time (note.Sent t xx) h = h.0
in_time (note.Dropped t xx) h = h.0
in_time (note.Watched t i n s) h = h.0

-- in the whole run a note's part is its line and what it changes
whole_part : (before : List Moment) (n : Note) → InRange n → part (page_plan whole false) before (moment.Note n)
    ≡ note_bytes n ++ all_changes (page_plan whole false) (time_of n) (scene before) (scene (before ++ moment.Note n ∷ []))
whole_part before n h =
    rw (le-ltb (newest_time 0 before) 0 (omega arith), le-leb 0 (time_of n) (omega arith), le-leb (time_of n) 4294967295 (let w = in_time n h in omega arith)) refl

-- a note's line stands first in the parts from it on
begins : (before : List Moment) (n : Note) (moments : List Moment) → InRange n → parts (page_plan whole false) before (moment.Note n ∷ moments)
    ≡ note_bytes n ++ (all_changes (page_plan whole false) (time_of n) (scene before) (scene (before ++ moment.Note n ∷ []))
    ++ parts (page_plan whole false) (before ++ moment.Note n ∷ []) moments)
begins before n moments h =
    ap (λ (x : List ℕ). x ++ parts (page_plan whole false) (before ++ moment.Note n ∷ []) moments) (whole_part before n h)
    ∙ append_assoc (note_bytes n) (all_changes (page_plan whole false) (time_of n) (scene before) (scene (before ++ moment.Note n ∷ [])))
    (parts (page_plan whole false) (before ++ moment.Note n ∷ []) moments)

nonempty : (n : Note) (rest : List ℕ) → note_bytes n ++ rest ≡ [] → ⊥
nonempty n rest e = absurd (cc)

cancel : (xs ys zs : List ℕ) → xs ++ ys ≡ xs ++ zs → ys ≡ zs
cancel [] ys zs e = e
cancel (x ∷ xs) ys zs e = let tails : xs ++ ys ≡ xs ++ zs = cc in cancel xs ys zs tails

told : (before : List Moment) (a b : List Note) → All InRange a → All InRange b
    → parts (page_plan whole false) before (moments_of a) ≡ parts (page_plan whole false) before (moments_of b) → a ≡ b
told before [] [] h k e = refl
told before [] (n ∷ b) h k e = absurd (nonempty n _ (sym (begins before n (moments_of b) (All-head InRange n b k)) ∙ sym e))
told before (m ∷ a) [] h k e = absurd (nonempty m _ (sym (begins before m (moments_of a) (All-head InRange m a h)) ∙ e))
told before (m ∷ a) (n ∷ b) h k e =
    let s = same_line m n _ _ (All-head InRange m a h) (All-head InRange n b k)
    (sym (begins before m (moments_of a) (All-head InRange m a h)) ∙ e ∙ begins before n (moments_of b) (All-head InRange n b k)) in
    let rest = cancel (all_changes (page_plan whole false) (time_of m) (scene before) (scene (before ++ moment.Note m ∷ [])))
    (parts (page_plan whole false) (before ++ moment.Note m ∷ []) (moments_of a)) (parts (page_plan whole false) (before ++ moment.Note m ∷ []) (moments_of b))
    (s.1 ∙ ap (λ (x : Note). all_changes (page_plan whole false) (time_of x) (scene before) (scene (before ++ moment.Note x ∷ []))
    ++ parts (page_plan whole false) (before ++ moment.Note x ∷ []) (moments_of b)) (sym s.0)) in
    let tails = told (before ++ moment.Note m ∷ []) a b (All-tail InRange m a h) (All-tail InRange n b k) rest in
    ap (λ (x : Note). x ∷ a) s.0 ∙ ap (λ (xs : List Note). n ∷ xs) tails

-- the whole run is opened by its first note
not_late : (moments : List Moment) → page_data whole false moments ≡ stretch_line whole ++ parts (page_plan whole false) [] moments
not_late moments = rw (le-ltb (newest_time 0 moments) 0 (omega arith)) (append-nil _)

page_is : (s : Stretch) (notes : List Note) → drawn (page_plan s false) (moments_of notes)
    ≡ page_head ++ page_data s false (moments_of notes) ++ page_end
page_is s notes =
    let line : List ℕ = stretch_line s in
    let told : List ℕ = parts (page_plan s false) [] (moments_of notes) in
    let late : List ℕ = late_opening (page_plan s false) (moments_of notes) in
    sym (append_assoc ((page_head ++ line) ++ told) late page_end)
    ∙ ap (λ (b : List ℕ). b ++ page_end)
    (ap (λ (b : List ℕ). b ++ late) (append_assoc page_head line told) ∙ append_assoc page_head (line ++ told) late)

pub page_told : (a b : List Note) → All InRange a → All InRange b → page_data whole false (moments_of a) ≡ page_data whole false (moments_of b) → a ≡ b
page_told a b h k e = told [] a b h k (cancel (stretch_line whole) _ _ (sym (not_late (moments_of a)) ∙ e ∙ not_late (moments_of b)))

-- a page that was written whole
pub wrote_page : (s : Stretch) (left before after : Option (List ℕ)) → s.from < 4294967296 → s.to < 4294967296
    → IsDone (form.Drawn view.Page s) left before after → WrotePage s left before after
wrote_page s left before after from to d = record {
  notes = d.notes;
  behind = d.behind;
  read = d.read;
  ended = d.ended;
  wrote = d.wrote ∙ ap (append_known before) (page_is s d.notes);
  no_markup = no_markup_of s d.notes from to d.read.in_range;
  tells = λ is others range same. page_told others d.notes range d.read.in_range same;
}
