-- A run as a value change dump of IEEE 1364: its head, and how a tick is stamped.
use Rattle.std.specs.Prelude.{ℕ, ◌+◌, ◌==◌, if◌then◌else◌, Bool, List, [], ◌∷◌, ◌++◌, codes}
use Rattle.am32wave.specs.declared.scene.Scene.{Scene}
use Rattle.am32wave.specs.declared.view.Stretch.{Stretch}
use Rattle.am32wave.specs.declared.wire.Wire.{Wire}
use Rattle.am32wave.specs.Scene.{scene}
use Rattle.am32wave.specs.Wires.{wires_of, width, value}
use Rattle.am32wave.specs.Pieces.{stamp_text, declaration, change}

-- ---- the wires under the characters from this one on

-- their declarations
unfoldable pub declarations : ℕ → List Wire → List ℕ
declarations id [] = []
declarations id (w ∷ ws) = declaration id w ++ declarations (id + 1) ws

-- what they show
unfoldable pub values : ℕ → Scene → List Wire → List ℕ
values id s [] = []
values id s (w ∷ ws) = change id (width w) (value w s) ++ values (id + 1) s ws

-- ---- the dump

-- the first wire is declared under `!`
abbrev pub first_id : ℕ
first_id = 33

-- the declarations, and what the wires show before the first moment, stamped with the stretch's first tick
abbrev pub wave_head : Stretch → Bool → List ℕ
wave_head s traced =
    codes "$comment A journal of am32sim. Tick n of 48 MHz stands at n * 62500 / 3 ps, rounded down. $end\n$timescale 1 ps $end\n$scope module am32 $end\n"
    ++ declarations first_id (wires_of traced)
    ++ codes "$upscope $end\n$enddefinitions $end\n"
    ++ stamp_text s.from
    ++ codes "$dumpvars\n"
    ++ values first_id (scene []) (wires_of traced)
    ++ codes "$end\n"

-- the stamp of a tick, where another one stood before
abbrev pub stamp_if_new : ℕ → ℕ → List ℕ
stamp_if_new before t = if t == before then [] else stamp_text t
