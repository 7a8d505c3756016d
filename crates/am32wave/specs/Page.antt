-- A run as a page for a browser: the fixed parts, and the data that stands between them.
use Rattle.std.specs.Prelude.{ℕ, List, [], ◌∷◌, ◌++◌, codes, decimal}
use Rattle.trace_text.specs.Text.{note_bytes, event_bytes}
use Rattle.am32wave.specs.declared.moment.Moment.{Moment}
use Rattle.am32wave.specs.declared.moment.Moment.TheVariants as moment
use Rattle.am32wave.specs.declared.script.TheConstants.{PAGE_HEAD, SCRIPT, BEFORE_DATA, PAGE_END}
use Rattle.am32wave.specs.declared.view.Stretch.{Stretch}

-- ---- the data: the stretch, then the line of each moment, and behind it what the moment changes

-- the first wire changes under `A`, so that no change is markup
abbrev pub page_id : ℕ
page_id = 65

abbrev pub stretch_line : Stretch → List ℕ
stretch_line s = codes "stretch " ++ decimal s.from ++ 32 ∷ decimal s.to ++ 10 ∷ []

-- a note's line of the journal, or an event's of the trace
abbrev pub moment_line : Moment → List ℕ
moment_line (moment.Note n) = note_bytes n
moment_line (moment.Event e) = event_bytes e

-- ---- what stands before the data, and behind it

abbrev pub page_head : List ℕ
page_head = PAGE_HEAD.now ++ SCRIPT.now ++ BEFORE_DATA.now

abbrev pub page_end : List ℕ
page_end = PAGE_END.now
