-- One more line.
use Rattle.std.proofs.Common.{◌≡◌, ℕ, List, [], ◌∷◌, ◌++◌, refl, sym, ◌∙◌, ap, subst, append_assoc, append-nil, Option, Some, None, ◌<◌, ◌+◌, length, take, drop, get_or, add-one, drop-cons, Result, Ok, Err, OnErr, OnOk}
use Rattle.std.proofs.lemmas.List.Concat.{flat_map-append}
use Rattle.std.proofs.lemmas.List.{take_more, take-append-drop}
use Rattle.std.specs.Io.KnownBytes.{append_known}
use Rattle.esc_base.specs.declared.note.Note.{Note}
use Rattle.esc_base.specs.Outside.{AppendsFront}
use Rattle.esc_base.proofs.OutsideLaws.{append_known-twice}
use Rattle.trace_text.specs.Text.{note_bytes, Text}
use Rattle.trace_text.proofs.Texts.{Text-push}
use Rattle.trace_runner.specs.Lines.{TookLines, BrokeLines}

TookLines-push : {K : Type 0} (took : K → List ℕ → K → Type 0) (notes : List Note) (n : Note) (a b c : K) → TookLines took a notes b → took b (note_bytes n) c
    → TookLines took a (notes ++ n ∷ []) c
TookLines-push {K} took [] n a b c e p = (c, subst (λ (x : K). took x (note_bytes n) c) e p, refl)
TookLines-push {K} took (m ∷ notes) n a b c e p = (e.0, e.1, TookLines-push took notes n e.0 b c e.2 p)

-- ---- a loop's step

pub lines_more : {K : Type 0} (took : K → List ℕ → K → Type 0) (xs : List Note) (i : ℕ) (d : Note) (bytes : List ℕ) (a b c : K) → i < length xs
    → TookLines took a (take i xs) b → bytes ≡ note_bytes (get_or xs i d) → took b bytes c → TookLines took a (take (i + 1) xs) c
lines_more {K} took xs i d bytes a b c lt e n p =
    rw (take_more xs i d lt) (TookLines-push took (take i xs) (get_or xs i d) a b c e (subst (λ (y : List ℕ). took b y c) n p))

pub given_more : (xs : List Note) (i : ℕ) (d : Note) (bytes : List ℕ) (x y z : Option (List ℕ)) → i < length xs → y ≡ append_known x (Text (take i xs))
    → bytes ≡ note_bytes (get_or xs i d) → z ≡ append_known y bytes → z ≡ append_known x (Text (take (i + 1) xs))
given_more xs i d bytes x y z lt e n p =
    rw (take_more xs i d lt, Text-push (take i xs) (get_or xs i d), append_known-twice x (Text (take i xs)) (note_bytes (get_or xs i d)), ← e, ← n) p

pub broke_at : {K : Type 0} (given : K → Option (List ℕ)) (took broke : K → List ℕ → K → Type 0) (xs : List Note) (i : ℕ) (d : Note) (bytes : List ℕ)
    (a b c : K)
    → i < length xs → TookLines took a (take i xs) b → given b ≡ append_known (given a) (Text (take i xs)) → bytes ≡ note_bytes (get_or xs i d)
    → broke b bytes c → AppendsFront (given b) bytes (given c) → BrokeLines given took broke a xs c
broke_at {K} given took broke xs i d bytes a b c lt e g n p f = record {
  done = take i xs;
  last = get_or xs i d;
  rest = drop (i + 1) xs;
  parts = sym (rw (add-one, ← drop-cons xs i d lt) (take-append-drop i xs));
  mid = b;
  lines = e;
  given_is = g;
  refused = subst (λ (y : List ℕ). broke b y c) n p;
  appended = subst (λ (y : List ℕ). AppendsFront (given b) y (given c)) n f;
}

-- ---- answers of a call

pub on_ok : {T E P : Type 0} (r : Result T E) → P → OnOk r P
on_ok (Ok x) p = p
on_ok (Err x) p = tt

pub on_err_map : {T E A P : Type 0} (r : Result T E) → OnErr r A → (A → P) → OnErr r P
on_err_map (Ok x) a f = tt
on_err_map (Err x) a f = f a

pub on_ok_map : {T E A P : Type 0} (r : Result T E) → OnOk r A → (A → P) → OnOk r P
on_ok_map (Ok x) a f = f a
on_ok_map (Err x) a f = tt

pub on_ok_two : {T E A B P : Type 0} (r : Result T E) → OnOk r A → OnOk r B → (A → B → P) → OnOk r P
on_ok_two (Ok x) a b f = f a b
on_ok_two (Err x) a b f = tt
