-- Shown of the laws, and no law.
-- What the law of saves refuses: flashes that aren't what the notes say, each with the sentence that it breaks.
use Rattle.std.specs.Prelude.{◌≡◌, ◌<◌, ℕ, List, [], ◌∷◌, ◌++◌, length, Option, Some, None}
use Rattle.esc_base.specs.declared.note.Note.{Note}
use Rattle.esc_base.specs.Flash.{Told}
use Rattle.settings_block.specs.declared.stored.Loaded.{Loaded}
use Rattle.settings_block.specs.Block.{block_of}
use Rattle.settings_block.specs.Settings.{default_settings}
use Rattle.esc_laws.specs.Saves.{FlashFits}
use Rattle.esc_laws.specs.refused.Notes.{acts, saves}

-- the default settings were loaded
abbrev pub defaults : Loaded
defaults = record { settings = default_settings; fault = None }

-- a flash tells its bytes, those below the last page and those of that page; and so many faults
abbrev pub told : List ℕ → List ℕ → ℕ → Told
told below page faults = record { bytes = Some (below ++ page); faults = faults }

-- a flash that tells no bytes
abbrev pub untold : ℕ → Told
untold faults = record { bytes = None; faults = faults }

-- the two parts of a flash of 32768 bytes
pub record ArePages (below page : List ℕ) : Type 0 where
  pub below_is : length below ≡ 31744
  pub page_is : length page ≡ 1024

-- with these notes no flash goes from the one to the other
abbrev pub Unfit : Told → Told → List Note → Type 0
Unfit first now notes = FlashFits defaults first now notes → ⊥

pub record FlashRefuses : Type 0 where
  -- after a save with result 0 the last page has the block at its front, whose first byte is 1, and erased bytes behind it
  pub save_left_out : (below page after : List ℕ) → ArePages below page → Unfit (told below page 0) (told below (0 ∷ after) 0) (saves 2404 0 ∷ [])
  pub page_not_erased : (below page after : List ℕ) → ArePages below page
      → Unfit (told below page 0) (told below (block_of default_settings ++ 0 ∷ after) 0) (saves 2404 0 ∷ [])
  -- the block has the settings as they stand at the P: command 8 has set the direction
  pub settings_as_loaded : (below page after : List ℕ) → ArePages below page
      → Unfit (told below page 0) (told below (block_of default_settings ++ after) 0) (acts 100 8 ∷ saves 2404 0 ∷ [])
  -- the other pages are as they were, whatever the result, and without a P so is the last one
  pub another_page_programmed : (below page after : List ℕ) → ArePages (0 ∷ below) page
      → Unfit (told (0 ∷ below) page 0) (told (1 ∷ below) after 1) (saves 2404 0 ∷ [])
  pub another_page_spoilt : (below page after : List ℕ) → ArePages (0 ∷ below) page
      → Unfit (told (0 ∷ below) page 0) (told (1 ∷ below) after 1) (saves 2404 1 ∷ [])
  pub no_save : (below page : List ℕ) → Unfit (told below (0 ∷ page) 0) (told below (1 ∷ page) 0) (acts 100 12 ∷ [])
  -- a flash that has told its bytes tells them, and another one doesn't
  pub bytes_lost : (below page : List ℕ) (notes : List Note) → Unfit (told below page 0) (untold 0) notes
  pub bytes_from_nowhere : (below page : List ℕ) (notes : List Note) → Unfit (untold 0) (told below page 0) notes
  -- each refused save is counted, up to 2^64 - 1
  pub fault_not_counted : (faults : ℕ) → faults < 18446744073709551615 → Unfit (untold faults) (untold faults) (saves 2404 1 ∷ [])
  pub second_fault_not_counted : Unfit (untold 0) (untold 1) (saves 2404 1 ∷ saves 4804 1 ∷ [])
