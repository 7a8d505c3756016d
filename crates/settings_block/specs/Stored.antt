-- The settings in the flash.
use Rattle.std.specs.Prelude.{◌≡◌, ℕ, List, length, take, Option, Some, None}
use Rattle.esc_base.specs.Flash.{IsRead}
use Rattle.settings_block.specs.declared.block.BlockFault.{BlockFault}
use Rattle.settings_block.specs.declared.stored.Loaded.{Loaded}
use Rattle.settings_block.specs.Settings.{default_settings}
use Rattle.settings_block.specs.Block.{fault_of, settings_of}

-- the block's page, the last one of the flash, at the front of which the block stands
abbrev pub settings_page : ℕ
settings_page = 31

abbrev pub settings_address : ℕ
settings_address = 0x7C00

-- the settings of a block, or the default ones with its fault
abbrev pub loaded_by : Option BlockFault → List ℕ → Loaded
loaded_by None block = record { settings = settings_of block; fault = None }
loaded_by (Some fault) block = record { settings = default_settings; fault = Some fault }

abbrev pub loaded_of : List ℕ → Loaded
loaded_of block = loaded_by (fault_of block) block

-- this was loaded from the 48 bytes of the block in the flash, where it tells them
pub record IsLoaded (told : Option (List ℕ)) (loaded : Loaded) : Type 0 where
  pub block : List ℕ
  pub len : length block ≡ 48
  pub read : IsRead told settings_address block
  pub is : loaded ≡ loaded_of block

-- the bytes below an address are as before, where the flash tells them
abbrev pub KeepsBelow : ℕ → Option (List ℕ) → Option (List ℕ) → Type 0
KeepsBelow at None None = Unit {0}
KeepsBelow at None (Some after) = ⊥
KeepsBelow at (Some before) None = ⊥
KeepsBelow at (Some before) (Some after) = take at after ≡ take at before
