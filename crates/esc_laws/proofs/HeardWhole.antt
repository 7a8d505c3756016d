-- A whole signal that begins on a line at rest is heard from its first edge.
use Rattle.std.proofs.Common.{◌≡◌, ◌≤◌, ◌<◌, ◌+◌, ℕ, Bool, true, false, not, ◌&&◌, ◌==◌, nat_le, nat_lt, if◌then◌else◌, List, [], ◌∷◌, ◌++◌, length, refl, sym, ◌∙◌, ap, subst, arith, All, append-nil, append_assoc, length-append}
use Rattle.std.proofs.lemmas.Bool.Decides.{nat_tests}
use Rattle.std.proofs.lemmas.List.Elements.{All-head, All-tail}
use Rattle.esc_base.specs.declared.event.Event.{Event}
use Rattle.esc_base.specs.declared.note.Note.{Note}
use Rattle.esc_base.specs.declared.note.Note.TheVariants as note
use Rattle.esc_base.specs.declared.signal.Edge.{Edge}
use Rattle.esc_base.specs.declared.signal.Mode.{Mode}
use Rattle.esc_base.specs.Journal.{time_of}
use Rattle.esc_base.specs.Numbers.{mode_of}
use Rattle.esc_base.specs.Trace.{line}
use Rattle.edge_capture.specs.Burst.{burst, until_deaf, is_left_out, comes_early, hears, is_closed, wait}
use Rattle.edge_capture.specs.Edges.{last_at}
use Rattle.edge_capture.specs.Modes.{numbers, most, limit}
use Rattle.edge_capture.proofs.Stable.{deaf, early, passed_over}
use Rattle.settings_block.specs.declared.stored.Loaded.{Loaded}
use Rattle.arming.proofs.InOrder.{each_at}
use Rattle.input_detect.specs.Judge.{judged}
use Rattle.settings_block.specs.Settings.{servo_of}
use Rattle.esc_laws.specs.Place.{Signal, Listens, place}
use Rattle.esc_laws.specs.Windowed.{verdict_note, Answers, AnswersAt, WindowRule}
use Rattle.esc_laws.specs.HeardWhole.{KeepsOn, StandsAlone, IsVerdict, WholeSignalIsHeard}
use Rattle.esc_laws.proofs.Growth.{last_at-push}

-- ---- each edge is heard

-- over numbers: n heard, the last at l, the most, and the idle limit
hears_next : (n l most limit w t : ℕ) (early : Bool) → 1 ≤ n → n < most → w < t → t < l + limit → early ≡ false
    → (nat_lt w t && not (not (n == 0) && nat_le (l + (if nat_le most n then 0 else limit)) t) && not early) ≡ true
hears_next n l most limit w t false some few on soon e = grind (arith, nat_tests)
hears_next n l most limit w t true some few on soon e = cc

not_early : (n : ℕ) (rest : Bool) → 1 ≤ n → ((n == 0) && rest) ≡ false
not_early n rest some = grind (arith, nat_tests)

hears_on : (m : Mode) (w : ℕ) (heard : List Edge) (e : Edge) → 1 ≤ length heard → length heard < most m → w < e.t.0 → e.t.0 < last_at heard + limit m heard
    → hears m w heard e ≡ true
hears_on m w heard e some few on soon =
    hears_next (length heard) (last_at heard) (most m) (limit m heard) w e.t.0 (comes_early m heard e) some few on soon (not_early (length heard) _ some)

heard_on : (m : Mode) (w : ℕ) (heard edges later : List Edge) → 1 ≤ length heard → w < last_at heard → length heard + length edges ≤ most m
    → KeepsOn m heard edges → until_deaf m w heard (edges ++ later) ≡ until_deaf m w (heard ++ edges) later
heard_on m w heard [] later some on few keeps = ap (λ (h : List Edge). until_deaf m w h later) (sym (append-nil heard))
heard_on m w heard (e ∷ edges) later some on few keeps =
    let order : last_at heard ≤ e.t.0 = keeps.0 in
    let h : hears m w heard e ≡ true = hears_on m w heard e some (omega arith) (omega arith) keeps.1 in
    let len = length-append heard (e ∷ []) in
    rw h
    (heard_on m w (heard ++ e ∷ []) edges later (omega arith) (rw (last_at-push heard e) (omega arith)) (omega arith) keeps.2
    ∙ ap (λ (h : List Edge). until_deaf m w h later) (append_assoc heard (e ∷ []) edges))

-- the first one
hears_first : (m : Mode) (w : ℕ) (e : Edge) → w < e.t.0 → ((numbers m).falling_first ≡ false → e.level ≡ true) → hears m w [] e ≡ true
hears_first m w e on rises = first_by (numbers m).falling_first e.level w e.t.0 on rises
  where
    first_by : (falling level : Bool) (w t : ℕ) → w < t → (falling ≡ false → level ≡ true)
        → (nat_lt w t && not (not (0 == 0) && nat_le (last_at [] + wait m []) t) && not ((0 == 0) && (not falling && not level))) ≡ true
    first_by true level w t on rises = grind (arith, nat_tests)
    first_by false true w t on rises = grind (arith, nat_tests)
    first_by false false w t on rises = absurd (let z = rises refl in cc)

-- ---- over the whole line

deaf_all : (m : Mode) (w : ℕ) (heard edges : List Edge) → 1 ≤ length heard → All (λ e. last_at heard + wait m heard ≤ e.t.0) edges
    → until_deaf m w heard edges ≡ heard
deaf_all m w heard [] some a = refl
deaf_all m w heard (e ∷ edges) some a =
    let shut : is_closed m heard e.t.0 ≡ true = closed_from (length heard) (last_at heard + wait m heard) e.t.0 some
    (All-head (λ x. last_at heard + wait m heard ≤ x.t.0) e edges a) in
    rw (deaf m w heard e shut)
    (by (is_left_out m w heard e) (deaf_all m w heard edges some (All-tail (λ x. last_at heard + wait m heard ≤ x.t.0) e edges a)))
  where
    closed_from : (n l t : ℕ) → 1 ≤ n → l ≤ t → (not (n == 0) && nat_le l t) ≡ true
    closed_from n l t some le = grind (arith, nat_tests)

    by : {A : Type 0} {x y : A} (v : Bool) → x ≡ y → (if v then x else y) ≡ y
    by true e = e
    by false e = refl

-- the edges up to the opening are passed over
passed : (m : Mode) (w : ℕ) (earlier rest : List Edge) → All (λ e. e.t.0 ≤ w) earlier → until_deaf m w [] (earlier ++ rest) ≡ until_deaf m w [] rest
passed m w [] rest a = refl
passed m w (e ∷ earlier) rest a =
    let le : e.t.0 ≤ w = All-head (λ e. e.t.0 ≤ w) e earlier a in
    rw (early w e.t.0 (not (is_closed m [] e.t.0)) (not (comes_early m [] e)) le, passed_over w e.t.0 (comes_early m [] e) le)
    (passed m w earlier rest (All-tail (λ e. e.t.0 ≤ w) e earlier a))

burst_is : (edges : List Edge) (w : ℕ) (m : Mode) → burst edges w m ≡ until_deaf m w [] edges
unfolding burst
burst_is edges w m = refl

pub alone_heard : (edges : List Edge) (w : ℕ) (m : Mode) (first : Edge) (rest : List Edge) → StandsAlone edges w m first rest → burst edges w m ≡ first ∷ rest
alone_heard edges w m first rest a =
    let begins : until_deaf m w [] (first ∷ rest ++ a.later) ≡ until_deaf m w (first ∷ []) (rest ++ a.later) =
    rw (hears_first m w first a.begins a.rises) refl in
    burst_is edges w m
    ∙ ap (λ (es : List Edge). until_deaf m w [] es) a.edges_are
    ∙ passed m w a.earlier (first ∷ rest ++ a.later) a.at_rest
    ∙ begins
    ∙ heard_on m w (first ∷ []) rest a.later (omega arith) a.begins (let f = a.few in omega arith) a.keeps_on
    ∙ deaf_all m w (first ∷ rest) a.later (omega arith) a.ends

-- ---- the F that answers

answer_of : (loaded : Loaded) (trace : List Event) (s : Signal) (w m entered t : ℕ) (said : Note) (signal : List Edge) → s ≡ Listens w m
    → burst (line trace).edges w (mode_of m) ≡ signal
    → AnswersAt loaded trace s entered t said → said ≡ verdict_note t (judged (mode_of m) signal loaded.settings.input (servo_of loaded.settings))
answer_of loaded trace s w m entered t said signal e heard a =
    let is : Answers loaded trace w m entered t said = subst (λ (x : Signal). AnswersAt loaded trace x entered t said) e a in
    is.verdict_is ∙ ap (λ (es : List Edge). verdict_note t (judged (mode_of m) es loaded.settings.input (servo_of loaded.settings))) heard

said_of : (loaded : Loaded) (trace : List Event) (before : List Note) (said : Note) (w m : ℕ) (signal : List Edge) → IsVerdict said
    → (place before).signal ≡ Listens w m → burst (line trace).edges w (mode_of m) ≡ signal
    → WindowRule loaded trace before said → said ≡ verdict_note (time_of said) (judged (mode_of m) signal loaded.settings.input (servo_of loaded.settings))
said_of loaded trace before (note.Good t v q) w m signal f e heard r =
    answer_of loaded trace (place before).signal w m (place before).cap_entered t.0 (note.Good t v q) signal e heard r
said_of loaded trace before (note.Detected t d) w m signal f e heard r =
    answer_of loaded trace (place before).signal w m (place before).cap_entered t.0 (note.Detected t d) signal e heard r
said_of loaded trace before (note.Nothing t) w m signal f e heard r =
    answer_of loaded trace (place before).signal w m (place before).cap_entered t.0 (note.Nothing t) signal e heard r
said_of loaded trace before (note.Bad t why) w m signal f e heard r =
    answer_of loaded trace (place before).signal w m (place before).cap_entered t.0 (note.Bad t why) signal e heard r
said_of loaded trace before n w m signal f e heard r = absurd f

pub whole_signal_is_heard : WholeSignalIsHeard
whole_signal_is_heard loaded trace before after said w m first rest windowed e f alone =
    said_of loaded trace before said w m (first ∷ rest) f e (alone_heard (line trace).edges w (mode_of m) first rest alone)
    (each_at (WindowRule loaded trace) [] before said after windowed)
