-- A frame that is sent behind the opening of a window is read.
use Rattle.std.proofs.Common.{◌≡◌, ◌≤◌, ◌<◌, ◌+◌, ◌*◌, ◌/◌, ℕ, Bool, true, false, if◌then◌else◌, List, [], ◌∷◌, ◌++◌, length, slice_index_or, refl, sym, ◌∙◌, ap, subst, arith}
use Rattle.std.proofs.lemmas.Bool.{le-leb}
use Rattle.std.proofs.lemmas.List.Elements.{length_all_zip}
use Rattle.esc_base.specs.declared.signal.Edge.{Edge}
use Rattle.esc_base.specs.declared.signal.Mode.{Mode}
use Rattle.esc_base.specs.declared.signal.Mode.TheVariants as mode
use Rattle.esc_base.specs.Journal.{time_of}
use Rattle.esc_base.specs.Numbers.{mode_of, mode_number}
use Rattle.esc_base.specs.Trace.{line}
use Rattle.edge_capture.specs.Burst.{wait}
use Rattle.edge_capture.specs.Edges.{last_at}
use Rattle.edge_capture.specs.Modes.{numbers, most, limit, may_be_high}
use Rattle.dshot_frame.specs.Sent.{HasFrames, IsMoved, IsNear, edges_from, sent}
use Rattle.dshot_frame.specs.Verdict.{verdict_of}
use Rattle.dshot_frame.proofs.Moved.{length-low_bits, verdict_of-moved, verdict_of-sent}
use Rattle.input_detect.specs.declared.window.Judgement.TheVariants.{Good}
use Rattle.input_detect.specs.Judge.{judged, by_verdict}
use Rattle.servo_input.specs.declared.servo.InputKind.{InputKind}
use Rattle.servo_input.specs.declared.servo.Servo.{Servo}
use Rattle.settings_block.specs.Settings.{servo_of}
use Rattle.esc_base.specs.Bits.{low_bits}
use Rattle.esc_laws.specs.Windowed.{verdict_note}
use Rattle.esc_laws.specs.HeardWhole.{KeepsOn, StandsAlone, SentFrameIsRead}
use Rattle.esc_laws.proofs.Modes.{mode_of-number}
use Rattle.esc_laws.proofs.Growth.{last_at-push}
use Rattle.esc_laws.proofs.HeardWhole.{whole_signal_is_heard}

-- ---- its edges keep on

-- each edge comes less than g after the one before it, which stands at p
abbrev Close : ℕ → ℕ → List Edge → Type 0
Close g p [] = Unit {0}
Close g p (e ∷ edges) = (p ≤ e.t.0) × (e.t.0 < p + g) × Close g e.t.0 edges

close_keeps : (m : Mode) (g : ℕ) (heard edges : List Edge) → ((h : List Edge) → g ≤ limit m h) → Close g (last_at heard) edges → KeepsOn m heard edges
close_keeps m g heard [] wide c = tt
close_keeps m g heard (e ∷ edges) wide c =
    let more : g ≤ limit m heard = wide heard in
    let soon : e.t.0 < last_at heard + g = c.1 in
    (c.0, omega arith, close_keeps m g (heard ++ e ∷ []) edges wide (rw (last_at-push heard e) c.2))

-- the edges of bits that are moved by at most a sixteenth of a bit, d: the active part before them ended at p
moved_close : (d e s p : ℕ) (inverted : Bool) (bits : List Bool) (moved : List Edge) → 0 < d → e ≤ d → p + 4 * d ≤ s + e → s ≤ p + 10 * d + e
    → IsMoved e (edges_from (16 * d) inverted s bits) moved → Close (32 * d) p moved
moved_close d e s p inverted [] [] pos le near far m = tt
moved_close d e s p inverted [] (f ∷ rest) pos le near far m = absurd m
moved_close d e s p inverted (one ∷ bits) [] pos le near far m = absurd m
moved_close d e s p inverted (one ∷ bits) (f ∷ []) pos le near far m = absurd m.1
moved_close d e s p inverted (true ∷ bits) (f ∷ g ∷ rest) pos le near far m =
    let a : s ≤ f.t.0 + e = m.0.not_early in
    let b : f.t.0 ≤ s + e = m.0.not_late in
    let k : s + 3 * (16 * d) / 4 ≤ g.t.0 + e = m.1.0.not_early in
    let l : g.t.0 ≤ s + 3 * (16 * d) / 4 + e = m.1.0.not_late in
    (omega arith, omega arith, (omega arith, omega arith, moved_close d e (s + 16 * d) g.t.0 inverted bits rest pos le (omega arith) (omega arith) m.1.1))
moved_close d e s p inverted (false ∷ bits) (f ∷ g ∷ rest) pos le near far m =
    let a : s ≤ f.t.0 + e = m.0.not_early in
    let b : f.t.0 ≤ s + e = m.0.not_late in
    let k : s + 3 * (16 * d) / 8 ≤ g.t.0 + e = m.1.0.not_early in
    let l : g.t.0 ≤ s + 3 * (16 * d) / 8 + e = m.1.0.not_late in
    (omega arith, omega arith, (omega arith, omega arith, moved_close d e (s + 16 * d) g.t.0 inverted bits rest pos le (omega arith) (omega arith) m.1.1))

-- the first edge, and those behind it
whole_close : (d e s : ℕ) (inverted : Bool) (bits : List Bool) (first : Edge) (rest : List Edge) → 0 < d → e ≤ d
    → IsMoved e (edges_from (16 * d) inverted s bits) (first ∷ rest) → Close (32 * d) first.t.0 rest
whole_close d e s inverted [] first rest pos le m = absurd m
whole_close d e s inverted (one ∷ bits) first [] pos le m = tt
whole_close d e s inverted (true ∷ bits) first (g ∷ rest) pos le m =
    let a : s ≤ first.t.0 + e = m.0.not_early in
    let b : first.t.0 ≤ s + e = m.0.not_late in
    let k : s + 3 * (16 * d) / 4 ≤ g.t.0 + e = m.1.0.not_early in
    let l : g.t.0 ≤ s + 3 * (16 * d) / 4 + e = m.1.0.not_late in
    (omega arith, omega arith, moved_close d e (s + 16 * d) g.t.0 inverted bits rest pos le (omega arith) (omega arith) m.1.1)
whole_close d e s inverted (false ∷ bits) first (g ∷ rest) pos le m =
    let a : s ≤ first.t.0 + e = m.0.not_early in
    let b : first.t.0 ≤ s + e = m.0.not_late in
    let k : s + 3 * (16 * d) / 8 ≤ g.t.0 + e = m.1.0.not_early in
    let l : g.t.0 ≤ s + 3 * (16 * d) / 8 + e = m.1.0.not_late in
    (omega arith, omega arith, moved_close d e (s + 16 * d) g.t.0 inverted bits rest pos le (omega arith) (omega arith) m.1.1)

-- ---- it has 32 edges

length-edges : (b : ℕ) (inverted : Bool) (s : ℕ) (bits : List Bool) → length (edges_from b inverted s bits) ≡ 2 * length bits
length-edges b inverted s [] = refl
length-edges b inverted s (one ∷ bits) = let l = length-edges b inverted (s + b) bits in omega arith

length-sent : (m : Mode) (e s word : ℕ) (edges : List Edge) → IsMoved e (sent m s word) edges → length edges ≡ 32
length-sent m e s word edges moved =
    sym (length_all_zip (IsNear e) (sent m s word) edges moved)
    ∙ length-edges (numbers m).bit (numbers m).inverted s (low_bits 16 word)
    ∙ ap (λ (n : ℕ). 2 * n) (length-low_bits 16 word)

-- ---- each mode of frames

both_same : (v : Bool) (n : ℕ) → n ≤ (if v then n else n)
both_same true n = omega arith
both_same false n = omega arith

keeps_on : (m : Mode) (s word : ℕ) (first : Edge) (rest : List Edge) → HasFrames m → IsMoved ((numbers m).bit / 16) (sent m s word) (first ∷ rest)
    → KeepsOn m (first ∷ []) rest
keeps_on mode.D300 s word first rest frames moved =
    close_keeps mode.D300 320 (first ∷ []) rest (λ h. both_same (may_be_high h) 320)
    (whole_close 10 10 s false (low_bits 16 word) first rest (omega arith) (omega arith) moved)
keeps_on mode.D600 s word first rest frames moved =
    close_keeps mode.D600 160 (first ∷ []) rest (λ h. both_same (may_be_high h) 160)
    (whole_close 5 5 s false (low_bits 16 word) first rest (omega arith) (omega arith) moved)
keeps_on mode.D300Inv s word first rest frames moved =
    close_keeps mode.D300Inv 320 (first ∷ []) rest (λ h. both_same (may_be_high h) 320)
    (whole_close 10 10 s true (low_bits 16 word) first rest (omega arith) (omega arith) moved)
keeps_on mode.D600Inv s word first rest frames moved =
    close_keeps mode.D600Inv 160 (first ∷ []) rest (λ h. both_same (may_be_high h) 160)
    (whole_close 5 5 s true (low_bits 16 word) first rest (omega arith) (omega arith) moved)
keeps_on mode.Unknown s word first rest frames moved = absurd (omega arith)
keeps_on mode.Servo s word first rest frames moved = absurd (omega arith)

hears_falling : (m : Mode) → HasFrames m → (numbers m).falling_first ≡ true
hears_falling mode.Servo f = absurd (omega arith)
hears_falling mode.Unknown f = refl
hears_falling mode.D300 f = refl
hears_falling mode.D600 f = refl
hears_falling mode.D300Inv f = refl
hears_falling mode.D600Inv f = refl

most_frame : (m : Mode) → HasFrames m → most m ≡ 32
most_frame mode.Servo f = absurd (omega arith)
most_frame mode.Unknown f = refl
most_frame mode.D300 f = refl
most_frame mode.D600 f = refl
most_frame mode.D300Inv f = refl
most_frame mode.D600Inv f = refl

judged_frame : (m : Mode) (edges : List Edge) (allowed : InputKind) (servo : Servo) → HasFrames m
    → judged m edges allowed servo ≡ by_verdict (verdict_of m edges)
judged_frame mode.Unknown edges allowed servo f = absurd (omega arith)
judged_frame mode.Servo edges allowed servo f = absurd (omega arith)
judged_frame mode.D300 edges allowed servo f = refl
judged_frame mode.D600 edges allowed servo f = refl
judged_frame mode.D300Inv edges allowed servo f = refl
judged_frame mode.D600Inv edges allowed servo f = refl

pub sent_frame_is_read : SentFrameIsRead
sent_frame_is_read loaded trace before after said w m s word frame first rest earlier later windowed listens is frames good moved edges_are at_rest
    begins ends =
    let len : length (first ∷ rest) ≡ 32 = length-sent m _ s word (first ∷ rest) moved in
    let full : most m ≤ length (first ∷ rest) = rw (most_frame m frames, len) (omega arith) in
    let none : wait m (first ∷ rest) ≡ 0 = rw (le-leb (most m) (length (first ∷ rest)) full) refl in
    let alone : StandsAlone (line trace).edges w m first rest = record {
      earlier = earlier;
      later = later;
      edges_are = edges_are;
      at_rest = at_rest;
      begins = begins;
      rises = λ f. (let z : true ≡ false = sym (hears_falling m frames) ∙ f in cc);
      keeps_on = keeps_on m s word first rest frames moved;
      few = rw (most_frame m frames, len) (omega arith);
      ends = λ i d l. (let e : last_at (first ∷ rest) ≤ (slice_index_or later i d).t.0 = ends i d l in let z = none in omega arith);
    } in
    let same : mode_of (mode_number m) ≡ m = mode_of-number m in
    let heard : judged m (first ∷ rest) loaded.settings.input (servo_of loaded.settings) ≡ Good frame =
    judged_frame m (first ∷ rest) loaded.settings.input (servo_of loaded.settings) frames
    ∙ ap by_verdict (verdict_of-moved m ((numbers m).bit / 16) s word (first ∷ rest) frames (omega arith) moved ∙ sym (verdict_of-sent m s word frames)
    ∙ good) in
    whole_signal_is_heard loaded trace before after said w (mode_number m) first rest windowed listens is
    (subst (λ (x : Mode). StandsAlone (line trace).edges w x first rest) (sym same) alone)
    ∙ ap (λ (x : Mode). verdict_note (time_of said) (judged x (first ∷ rest) loaded.settings.input (servo_of loaded.settings))) same
    ∙ ap (verdict_note (time_of said)) heard
