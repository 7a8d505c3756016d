-- A run as it is drawn: what is written of a stretch of it, moment by moment.
use Rattle.std.specs.Prelude.{ℕ, ◌+◌, ◌==◌, if◌then◌else◌, Bool, ltb, List, [], ◌∷◌, ◌++◌}
use Rattle.am32wave.specs.declared.moment.Moment.{Moment}
use Rattle.am32wave.specs.declared.scene.Scene.{Scene}
use Rattle.am32wave.specs.declared.view.Plan.{Plan}
use Rattle.am32wave.specs.declared.view.Stretch.{Stretch}
use Rattle.am32wave.specs.declared.view.View.{View}
use Rattle.am32wave.specs.declared.view.View.TheVariants as view
use Rattle.am32wave.specs.declared.wire.Wire.{Wire}
use Rattle.am32wave.specs.Moments.{time, newest_time}
use Rattle.am32wave.specs.Page.{page_id, stretch_line, moment_line, page_head, page_end}
use Rattle.am32wave.specs.Pieces.{change}
use Rattle.am32wave.specs.Scene.{scene}
use Rattle.am32wave.specs.Still.{painted, still_head, still_end}
use Rattle.am32wave.specs.Stretch.{is_within, enters}
use Rattle.am32wave.specs.Wave.{first_id, wave_head, stamp_if_new}
use Rattle.am32wave.specs.Wires.{wires_of, width, value}

-- ---- what is told of the wires

-- the new value at a tick of the wire with a number
abbrev pub told : View → Stretch → ℕ → ℕ → Wire → ℕ → List ℕ
told view.Wave s t i w v = change (first_id + i) (width w) v
told view.Page s t i w v = change (page_id + i) (width w) v
told view.Still s t i w v = painted s t w v

-- the new values of those wires, from a number on, that show something else than before
unfoldable pub changes : View → Stretch → ℕ → ℕ → Scene → Scene → List Wire → List ℕ
changes v s t i before after [] = []
changes v s t i before after (w ∷ ws) =
    (if value w after == value w before then [] else told v s t i w (value w after)) ++ changes v s t (i + 1) before after ws

abbrev pub all_changes : Plan → ℕ → Scene → Scene → List ℕ
all_changes p t before after = changes p.view p.stretch t 0 before after (wires_of p.is_traced)

-- ---- a moment's part, by the moments before

-- what announces a moment: in a dump the stamp of its tick, where that is a later one, in a page its line, in a still picture nothing
abbrev pub announced : View → ℕ → Moment → List ℕ
announced view.Wave before m = stamp_if_new before (time m)
announced view.Page before m = moment_line m
announced view.Still before m = []

-- what stands at the begin of the stretch: the wires that show something else there than before the run
abbrev pub opening : Plan → List Moment → List ℕ
opening p before = all_changes p p.stretch.from (scene []) (scene before)

-- a moment in the stretch is announced, and then stands what it changes; the first one at or behind its begin opens it
abbrev pub part : Plan → List Moment → Moment → List ℕ
part p before m =
    (if enters p.stretch (newest_time 0 before) (time m) then opening p before else [])
    ++ (if is_within p.stretch (time m)
    then announced p.view (newest_time 0 before) m ++ all_changes p (time m) (scene before) (scene (before ++ m ∷ []))
    else [])

-- the parts of these moments, which stand behind those
abbrev pub parts : Plan → List Moment → List Moment → List ℕ
parts p before [] = []
parts p before (m ∷ moments) = part p before m ++ parts p (before ++ m ∷ []) moments

-- ---- the whole

abbrev pub head_in : View → Stretch → Bool → List ℕ
head_in view.Wave s traced = wave_head s traced
head_in view.Page s traced = page_head ++ stretch_line s
head_in view.Still s traced = still_head s

abbrev pub head : Plan → List ℕ
head p = head_in p.view p.stretch p.is_traced

-- what stands behind the last part
abbrev pub tail : View → List ℕ
tail view.Wave = []
tail view.Page = page_end
tail view.Still = still_end

-- a stretch behind the last moment is opened at the end
abbrev pub late_opening : Plan → List Moment → List ℕ
late_opening p moments = if ltb (newest_time 0 moments) p.stretch.from then opening p moments else []

abbrev pub end : Plan → List Moment → List ℕ
end p moments = late_opening p moments ++ tail p.view

-- without the end
abbrev pub begun : Plan → List Moment → List ℕ
begun p moments = head p ++ parts p [] moments

abbrev pub drawn : Plan → List Moment → List ℕ
drawn p moments = begun p moments ++ end p moments
