-- A journal in words.
use Rattle.std.specs.Prelude.{ℕ, zero, suc, min, List, [], ◌∷◌, ◌++◌, codes}
use Rattle.esc_base.specs.declared.note.Note.{Note}
use Rattle.esc_base.specs.Journal.{time_of}
use Rattle.am32wave.specs.Picture.{handlers, depth}
use Rattle.am32wave.specs.Pieces.{time_text}
use Rattle.am32wave.specs.Sentence.{words}
use Rattle.am32wave.specs.Tally.{tally, summary}

-- two blanks for each open handler
abbrev pub indent : ℕ → List ℕ
indent zero = []
indent (suc n) = codes "  " ++ indent n

-- how many handlers are open round a note: those that are open both before it and after it
abbrev pub depth_round : List Note → Note → ℕ
depth_round before n = min (depth (handlers before)) (depth (handlers (before ++ n ∷ [])))

-- a note's line, by the notes before it
abbrev pub line : List Note → Note → List ℕ
line before n = time_text (time_of n) ++ codes "  " ++ indent (depth_round before n) ++ words n ++ codes "\n"

-- the lines of these notes, which stand behind those
abbrev pub lines : List Note → List Note → List ℕ
lines before [] = []
lines before (n ∷ notes) = line before n ++ lines (before ++ n ∷ []) notes

abbrev pub explained : List Note → List ℕ
explained notes = lines [] notes ++ summary (tally notes)
