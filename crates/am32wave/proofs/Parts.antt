-- One piece more, and one wire more.
use Rattle.std.proofs.Common.{◌≡◌, ◌≢◌, ◌≤◌, ◌<◌, ℕ, ◌+◌, Bool, true, false, ◌==◌, if◌then◌else◌, List, [], ◌∷◌, ◌++◌, Option, Some, None, Result, Ok, Err, OnOk, OnErr, length, take, drop, get_or, add-one, drop-cons, refl, sym, ◌∙◌, ap, append_assoc, append-nil, arith}
use Rattle.std.proofs.lemmas.List.Concat.{flat_map-append}
use Rattle.std.proofs.lemmas.List.{take-append-drop}
use Rattle.std.proofs.Math.ListN.{drop_of_length-le}
use Rattle.std.proofs.lemmas.Bool.Decides.{nat_tests}
use Rattle.std.specs.Io.KnownBytes.{append_known}
use Rattle.esc_base.specs.Outside.{AppendsFront}
use Rattle.am32wave.specs.declared.pieces.Piece.{Piece}
use Rattle.am32wave.specs.declared.pieces.Piece.TheVariants as piece
use Rattle.am32wave.specs.declared.scene.Scene.{Scene}
use Rattle.am32wave.specs.declared.view.Stretch.{Stretch}
use Rattle.am32wave.specs.declared.view.View.{View}
use Rattle.am32wave.specs.declared.wire.Wire.{Wire}
use Rattle.am32wave.specs.Wires.{width, value}
use Rattle.am32wave.specs.Pieces.{declaration, change, piece_text, text}
use Rattle.am32wave.specs.Drawn.{told, changes}
use Rattle.am32wave.specs.Wave.{declarations, values}

pub text_push : (ps : List Piece) (p : Piece) → text (ps ++ p ∷ []) ≡ text ps ++ piece_text p
text_push ps p = flat_map-append piece_text ps (p ∷ []) ∙ ap (λ (x : List ℕ). text ps ++ x) (append-nil (piece_text p))

-- ---- one wire more

-- what is written next moves over to what was written
moved : (items new : List Piece) (p : Piece) (bytes rest whole : List ℕ) → new ≡ items ++ p ∷ [] → piece_text p ≡ bytes → text items ++ (bytes ++ rest) ≡ whole
    → text new ++ rest ≡ whole
moved items new p bytes rest whole e f g = rw (e, text_push items p, f, append_assoc (text items) bytes rest) g

drop_at : {A : Type 0} (xs : List A) (i : ℕ) (d : A) → i < length xs → drop i xs ≡ get_or xs i d ∷ drop (i + 1) xs
drop_at xs i d lt = rw add-one (drop-cons xs i d lt)

declarations_cons : (id : ℕ) (w : Wire) (ws : List Wire) → declarations id (w ∷ ws) ≡ declaration id w ++ declarations (id + 1) ws
unfolding declarations
declarations_cons id w ws = refl

declarations_at : (id : ℕ) (ws : List Wire) (i : ℕ) (d : Wire) → i < length ws
    → declarations (id + i) (drop i ws) ≡ declaration (id + i) (get_or ws i d) ++ declarations (id + (i + 1)) (drop (i + 1) ws)
declarations_at id ws i d lt =
    let next : id + i + 1 ≡ id + (i + 1) = omega arith in
    ap (declarations (id + i)) (drop_at ws i d lt) ∙ declarations_cons (id + i) (get_or ws i d) (drop (i + 1) ws)
    ∙ ap (λ (k : ℕ). declaration (id + i) (get_or ws i d) ++ declarations k (drop (i + 1) ws)) next

pub declared : (items new : List Piece) (id : ℕ) (ws : List Wire) (i : ℕ) (d : Wire) (whole : List ℕ) → i < length ws
    → new ≡ items ++ piece.Declaration (id + i) (get_or ws i d) ∷ [] → text items ++ declarations (id + i) (drop i ws) ≡ whole
    → text new ++ declarations (id + (i + 1)) (drop (i + 1) ws) ≡ whole
declared items new id ws i d whole lt e g =
    moved items new (piece.Declaration (id + i) (get_or ws i d)) (declaration (id + i) (get_or ws i d))
    (declarations (id + (i + 1)) (drop (i + 1) ws)) whole e refl
    (rw (← declarations_at id ws i d lt) g)

values_cons : (id : ℕ) (p : Scene) (w : Wire) (ws : List Wire) → values id p (w ∷ ws) ≡ change id (width w) (value w p) ++ values (id + 1) p ws
unfolding values
values_cons id p w ws = refl

values_at : (id : ℕ) (p : Scene) (ws : List Wire) (i : ℕ) (d : Wire) → i < length ws
    → values (id + i) p (drop i ws) ≡ change (id + i) (width (get_or ws i d)) (value (get_or ws i d) p) ++ values (id + (i + 1)) p (drop (i + 1) ws)
values_at id p ws i d lt =
    let next : id + i + 1 ≡ id + (i + 1) = omega arith in
    ap (values (id + i) p) (drop_at ws i d lt) ∙ values_cons (id + i) p (get_or ws i d) (drop (i + 1) ws)
    ∙ ap (λ (k : ℕ). change (id + i) (width (get_or ws i d)) (value (get_or ws i d) p) ++ values k p (drop (i + 1) ws)) next

pub valued : (items new : List Piece) (id : ℕ) (p : Scene) (ws : List Wire) (i : ℕ) (d : Wire) (w v : ℕ) (whole : List ℕ) → i < length ws
    → w ≡ width (get_or ws i d) → v ≡ value (get_or ws i d) p → new ≡ items ++ piece.Change (id + i) w v ∷ []
    → text items ++ values (id + i) p (drop i ws) ≡ whole → text new ++ values (id + (i + 1)) p (drop (i + 1) ws) ≡ whole
valued items new id p ws i d w v whole lt is_width is_value e g =
    moved items new (piece.Change (id + i) w v) (change (id + i) w v) (values (id + (i + 1)) p (drop (i + 1) ws)) whole e refl
    (rw (is_width, is_value, ← values_at id p ws i d lt) g)

changes_cons : (v : View) (s : Stretch) (t : ℕ) (i : ℕ) (p q : Scene) (w : Wire) (ws : List Wire) → changes v s t i p q (w ∷ ws)
    ≡ (if value w q == value w p then [] else told v s t i w (value w q)) ++ changes v s t (i + 1) p q ws
unfolding changes
changes_cons v s t i p q w ws = refl

changes_at : (v : View) (s : Stretch) (t : ℕ) (p q : Scene) (ws : List Wire) (i : ℕ) (d : Wire) (is_same : Bool) → i < length ws
    → (value (get_or ws i d) q == value (get_or ws i d) p) ≡ is_same
    → changes v s t i p q (drop i ws)
    ≡ (if is_same then [] else told v s t i (get_or ws i d) (value (get_or ws i d) q)) ++ changes v s t (i + 1) p q (drop (i + 1) ws)
changes_at v s t p q ws i d is_same lt e =
    ap (changes v s t i p q) (drop_at ws i d lt) ∙ changes_cons v s t i p q (get_or ws i d) (drop (i + 1) ws)
    ∙ ap (λ (b : Bool). (if b then [] else told v s t i (get_or ws i d) (value (get_or ws i d) q)) ++ changes v s t (i + 1) p q (drop (i + 1) ws)) e

pub changed : (items new : List Piece) (v : View) (s : Stretch) (t : ℕ) (p q : Scene) (ws : List Wire) (i : ℕ) (d : Wire) (piece : Piece) (x u : ℕ) (whole : List ℕ)
    → i < length ws → piece_text piece ≡ told v s t i (get_or ws i d) x → x ≡ value (get_or ws i d) q → u ≡ value (get_or ws i d) p → (x == u) ≡ false
    → new ≡ items ++ piece ∷ []
    → text items ++ changes v s t i p q (drop i ws) ≡ whole → text new ++ changes v s t (i + 1) p q (drop (i + 1) ws) ≡ whole
changed items new v s t p q ws i d piece x u whole lt is_piece is_value was is e g =
    moved items new piece (told v s t i (get_or ws i d) (value (get_or ws i d) q)) (changes v s t (i + 1) p q (drop (i + 1) ws)) whole e
    (is_piece ∙ ap (told v s t i (get_or ws i d)) is_value)
    (rw (← changes_at v s t p q ws i d false lt (rw (← is_value, ← was) is)) g)

pub unchanged : (items new : List Piece) (v : View) (s : Stretch) (t : ℕ) (p q : Scene) (ws : List Wire) (i : ℕ) (d : Wire) (x u : ℕ) (whole : List ℕ) → i < length ws
    → x ≡ value (get_or ws i d) q → u ≡ value (get_or ws i d) p → (x == u) ≡ true → new ≡ items
    → text items ++ changes v s t i p q (drop i ws) ≡ whole → text new ++ changes v s t (i + 1) p q (drop (i + 1) ws) ≡ whole
unchanged items new v s t p q ws i d x u whole lt is_value was is e g = rw (e, ← changes_at v s t p q ws i d true lt (rw (← is_value, ← was) is)) g

pub differs : (v u : ℕ) → v ≢ u → (v == u) ≡ false
differs v u ne = grind (arith, nat_tests)

pub same : (v u : ℕ) → v ≡ u → (v == u) ≡ true
same v u e = grind (arith, nat_tests)

-- nothing is left to say of no wire
pub none_left : (items : List Piece) (rest whole : List ℕ) → text items ++ rest ≡ whole → rest ≡ [] → text items ≡ whole
none_left items rest whole e n = sym (append-nil (text items)) ∙ ap (λ (b : List ℕ). text items ++ b) (sym n) ∙ e

pub no_declarations : (id : ℕ) (ws : List Wire) (i : ℕ) → length ws ≤ i → declarations (id + i) (drop i ws) ≡ []
unfolding declarations
no_declarations id ws i le = rw (drop_of_length-le ws le) refl

pub no_values : (id : ℕ) (p : Scene) (ws : List Wire) (i : ℕ) → length ws ≤ i → values (id + i) p (drop i ws) ≡ []
unfolding values
no_values id p ws i le = rw (drop_of_length-le ws le) refl

pub no_changes : (v : View) (s : Stretch) (t : ℕ) (p q : Scene) (ws : List Wire) (i : ℕ) → length ws ≤ i → changes v s t i p q (drop i ws) ≡ []
unfolding changes
no_changes v s t p q ws i le = rw (drop_of_length-le ws le) refl

-- ---- written pieces

pub append_known-twice : (o : Option (List ℕ)) (xs ys : List ℕ) → append_known o (xs ++ ys) ≡ append_known (append_known o xs) ys
append_known-twice (Some bs) xs ys = ap (λ (x : List ℕ). Some x) (sym (append_assoc bs xs ys))
append_known-twice None xs ys = refl

-- a front of what comes behind, and more behind that
pub front_behind : (x y z : Option (List ℕ)) (done bytes rest whole : List ℕ) → y ≡ append_known x done → AppendsFront y bytes z
    → done ++ (bytes ++ rest) ≡ whole
    → AppendsFront x whole z
front_behind x y z done bytes rest whole e f w = record {
  front = done ++ f.front;
  rest = f.rest ++ rest;
  is_front =
      append_assoc done f.front (f.rest ++ rest)
      ∙ ap (λ (b : List ℕ). done ++ b) (sym (append_assoc f.front f.rest rest) ∙ ap (λ (b : List ℕ). b ++ rest) f.is_front)
      ∙ w;
  appended = f.appended ∙ ap (λ (o : Option (List ℕ)). append_known o f.front) e ∙ sym (append_known-twice x done f.front);
}

-- the text of a list around its place i
text_at : (ps : List Piece) (i : ℕ) (d : Piece) → i < length ps → text (take i ps) ++ (piece_text (get_or ps i d) ++ text (drop (i + 1) ps)) ≡ text ps
text_at ps i d lt =
    sym (flat_map-append piece_text (take i ps) (get_or ps i d ∷ drop (i + 1) ps))
    ∙ ap text (ap (λ (xs : List Piece). take i ps ++ xs) (sym (drop_at ps i d lt)) ∙ take-append-drop i ps)

pub broken_at : (x y z : Option (List ℕ)) (ps : List Piece) (i : ℕ) (d : Piece) → i < length ps → y ≡ append_known x (text (take i ps))
    → AppendsFront y (piece_text (get_or ps i d)) z → AppendsFront x (text ps) z
broken_at x y z ps i d lt e f =
    front_behind x y z (text (take i ps)) (piece_text (get_or ps i d)) (text (drop (i + 1) ps)) (text ps) e f (text_at ps i d lt)

pub on_err : {T E P : Type 0} (r : Result T E) → P → OnErr r P
on_err (Ok x) p = tt
on_err (Err x) p = p

-- a line, and another one behind it

pub first_front : (x z : Option (List ℕ)) (a a' b : List ℕ) → a' ≡ a → AppendsFront x a' z → AppendsFront x (a ++ b) z
first_front x z a a' b e f = record {
  front = f.front;
  rest = f.rest ++ b;
  is_front = sym (append_assoc f.front f.rest b) ∙ ap (λ (l : List ℕ). l ++ b) (f.is_front ∙ e);
  appended = f.appended;
}

pub second_ok : {T E : Type 0} (r : Result T E) (x y z : Option (List ℕ)) (a a' b b' : List ℕ) → a' ≡ a → b' ≡ b → y ≡ append_known x a'
    → OnOk r (z ≡ append_known y b') → OnOk r (z ≡ append_known x (a ++ b))
second_ok (Ok u) x y z a a' b b' e f g h =
    h ∙ ap (append_known y) f ∙ ap (λ (o : Option (List ℕ)). append_known o b) (g ∙ ap (append_known x) e) ∙ sym (append_known-twice x a b)
second_ok (Err u) x y z a a' b b' e f g h = tt

pub second_front : {T E : Type 0} (r : Result T E) (x y z : Option (List ℕ)) (a a' b b' : List ℕ) → a' ≡ a → b' ≡ b → y ≡ append_known x a'
    → OnErr r (AppendsFront y b' z) → OnErr r (AppendsFront x (a ++ b) z)
second_front (Ok u) x y z a a' b b' e f g h = tt
second_front (Err u) x y z a a' b b' e f g h =
    front_behind x y z a b' [] (a ++ b) (g ∙ ap (append_known x) e) h (ap (λ (l : List ℕ). a ++ l) (append-nil b' ∙ f))

-- ---- pages of several pieces

text_first : (items new : List Piece) (p : Piece) → items ≡ [] → new ≡ items ++ p ∷ [] → text new ≡ piece_text p
text_first items new p none e = ap text (e ∙ ap (λ (ps : List Piece). ps ++ p ∷ []) none) ∙ append-nil (piece_text p)

text_then : (items new : List Piece) (p : Piece) (before : List ℕ) → text items ≡ before → new ≡ items ++ p ∷ [] → text new ≡ before ++ piece_text p
text_then items new p before was e = ap text e ∙ text_push items p ∙ ap (λ (b : List ℕ). b ++ piece_text p) was

text_all : (items new more : List Piece) (before : List ℕ) → text items ≡ before → new ≡ items ++ more → text new ≡ before ++ text more
text_all items new more before was e = ap text e ∙ flat_map-append piece_text items more ∙ ap (λ (b : List ℕ). b ++ text more) was

text_more : (items new : List Piece) (before more : List ℕ) → text items ≡ before → text new ≡ text items ++ more → text new ≡ before ++ more
text_more items new before more was e = e ∙ ap (λ (b : List ℕ). b ++ more) was

-- a dump's head
pub head_of : (i0 i1 i2 i3 i4 i5 i6 i7 : List Piece) (p q r s t : Piece) (d v stamp : List ℕ) → piece_text r ≡ stamp → i0 ≡ [] → i1 ≡ i0 ++ p ∷ []
    → text i2 ≡ text i1 ++ d → i3 ≡ i2 ++ q ∷ [] → i4 ≡ i3 ++ r ∷ [] → i5 ≡ i4 ++ s ∷ [] → text i6 ≡ text i5 ++ v → i7 ≡ i6 ++ t ∷ []
    → text i7 ≡ piece_text p ++ d ++ piece_text q ++ stamp ++ piece_text s ++ v ++ piece_text t
head_of i0 i1 i2 i3 i4 i5 i6 i7 p q r s t d v stamp is_stamp e0 e1 e2 e3 e4 e5 e6 e7 =
    let f2 = text_more i1 i2 (piece_text p) d (text_first i0 i1 p e0 e1) e2 in
    let f3 = text_then i2 i3 q (piece_text p ++ d) f2 e3 in
    let f4 = text_then i3 i4 r (piece_text p ++ d ++ piece_text q) f3 e4 ∙ ap (λ (b : List ℕ). piece_text p ++ d ++ piece_text q ++ b) is_stamp in
    let f5 = text_then i4 i5 s (piece_text p ++ d ++ piece_text q ++ stamp) f4 e5 in
    let f6 = text_more i5 i6 (piece_text p ++ d ++ piece_text q ++ stamp ++ piece_text s) v f5 e6 in
    text_then i6 i7 t (piece_text p ++ d ++ piece_text q ++ stamp ++ piece_text s ++ v) f6 e7

-- a page's head
pub page_of : (i0 i1 i2 i3 i4 more : List Piece) (p q r : Piece) (line : List ℕ) → i0 ≡ [] → i1 ≡ i0 ++ p ∷ [] → i2 ≡ i1 ++ q ∷ [] → i3 ≡ i2 ++ r ∷ []
    → i4 ≡ i3 ++ more → text more ≡ line → text i4 ≡ (piece_text p ++ piece_text q ++ piece_text r) ++ line
page_of i0 i1 i2 i3 i4 more p q r line e0 e1 e2 e3 e4 e5 =
    let f2 = text_then i1 i2 q (piece_text p) (text_first i0 i1 p e0 e1) e2 in
    let f3 = text_then i2 i3 r (piece_text p ++ piece_text q) f2 e3 in
    text_all i3 i4 more (piece_text p ++ piece_text q ++ piece_text r) f3 e4 ∙ ap (λ (b : List ℕ). (piece_text p ++ piece_text q ++ piece_text r) ++ b) e5

pub line_of : (i0 i1 i2 i3 more i4 i5 : List Piece) (p q r s : Piece) → i0 ≡ [] → i1 ≡ i0 ++ p ∷ [] → i2 ≡ i1 ++ q ∷ [] → i3 ≡ i2 ++ r ∷ []
    → i4 ≡ i3 ++ more → i5 ≡ i4 ++ s ∷ [] → text i5 ≡ piece_text p ++ piece_text q ++ piece_text r ++ text more ++ piece_text s
line_of i0 i1 i2 i3 more i4 i5 p q r s e0 e1 e2 e3 e4 e5 =
    let f2 = text_then i1 i2 q (piece_text p) (text_first i0 i1 p e0 e1) e2 in
    let f3 = text_then i2 i3 r (piece_text p ++ piece_text q) f2 e3 in
    let f4 = text_all i3 i4 more ((piece_text p ++ piece_text q) ++ piece_text r) f3 e4 in
    text_then i4 i5 s (((piece_text p ++ piece_text q) ++ piece_text r) ++ text more) f4 e5

pub pages_of : (i0 i1 i2 i3 i4 i5 p q r s t : List Piece) (a b c d e : List ℕ) → i0 ≡ [] → i1 ≡ i0 ++ p → i2 ≡ i1 ++ q → i3 ≡ i2 ++ r → i4 ≡ i3 ++ s
    → i5 ≡ i4 ++ t → text p ≡ a → text q ≡ b → text r ≡ c → text s ≡ d → text t ≡ e → text i5 ≡ a ++ b ++ c ++ d ++ e
pages_of i0 i1 i2 i3 i4 i5 p q r s t a b c d e e0 e1 e2 e3 e4 e5 f g h k l =
    let f1 = text_all i0 i1 p [] (ap text e0) e1 ∙ f in
    let f2 = text_all i1 i2 q a f1 e2 ∙ ap (λ (x : List ℕ). a ++ x) g in
    let f3 = text_all i2 i3 r (a ++ b) f2 e3 ∙ ap (λ (x : List ℕ). (a ++ b) ++ x) h in
    let f4 = text_all i3 i4 s ((a ++ b) ++ c) f3 e4 ∙ ap (λ (x : List ℕ). ((a ++ b) ++ c) ++ x) k in
    text_all i4 i5 t (((a ++ b) ++ c) ++ d) f4 e5 ∙ ap (λ (x : List ℕ). (((a ++ b) ++ c) ++ d) ++ x) l

-- the pieces of a still picture's head
pub still_of : (a b c d e f t u v w x t' u' v' w' x' : List ℕ) → t ≡ t' → u ≡ u' → v ≡ v' → w ≡ w' → x ≡ x'
    → a ++ (t ++ (b ++ (u ++ (c ++ (v ++ (d ++ (w ++ (e ++ (x ++ (f ++ []))))))))))
    ≡ a ++ (t' ++ (b ++ (u' ++ (c ++ (v' ++ (d ++ (w' ++ (e ++ (x' ++ (f ++ []))))))))))
still_of a b c d e f t u v w x t' u' v' w' x' h k l m n = rw (h, k, l, m, n) refl
