-- Shown of the laws, and no law.
-- What the law of saves allows of a flash.
use Rattle.std.specs.Prelude.{◌≡◌, ◌+◌, ℕ, List, [], ◌∷◌, ◌++◌, length}
use Rattle.esc_base.specs.declared.note.Note.{Note}
use Rattle.esc_base.specs.Flash.{Told, blank}
use Rattle.settings_block.specs.Block.{block_of}
use Rattle.settings_block.specs.Settings.{default_settings}
use Rattle.esc_laws.specs.Saves.{FlashFits}
use Rattle.esc_laws.specs.refused.Notes.{saves}
use Rattle.esc_laws.specs.refused.Flash.{defaults, told, untold, ArePages}

-- with these notes a flash may go from the one to the other
abbrev pub Fit : Told → Told → List Note → Type 0
Fit first now notes = FlashFits defaults first now notes

pub record SomeFlashesFit : Type 0 where
  -- a save that was done: the block and 976 erased bytes, and no fault is counted
  pub save_done : (below page : List ℕ) (faults : ℕ) → ArePages below page
      → Fit (told below page faults) (told below (block_of default_settings ++ blank 976) faults) (saves 2404 0 ∷ [])
  -- a save that was refused: the last page may have any bytes
  pub save_refused : (below page after : List ℕ) (faults : ℕ) → ArePages below page → length after ≡ 1024
      → Fit (told below page faults) (told below after (faults + 1)) (saves 2404 1 ∷ [])
  -- a count that can't rise any more
  pub full_count : Fit (untold 18446744073709551615) (untold 18446744073709551615) (saves 2404 1 ∷ [])
