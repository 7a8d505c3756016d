-- What a flash of 32 pages of 1024 bytes holds, and what its calls change of that.
use Rattle.std.specs.Prelude.{◌≡◌, ℕ, ◌+◌, ◌*◌, List, [], ◌∷◌, ◌++◌, length, take, drop, replicate, bit_and, Option, Some, None, false}
use Rattle.esc_base.specs.Calls.{is_to_fail}
use Rattle.esc_base.specs.declared.flash.FlashOp.{FlashOp}
use Rattle.esc_base.specs.declared.flash.FlashOp.TheVariants as op
use Rattle.esc_base.specs.declared.flash.MemFlash.{MemFlash}

-- a flash that tells its bytes has 32768 of them
abbrev pub IsWhole : Option (List ℕ) → Type 0
IsWhole None = Unit {0}
IsWhole (Some cells) = length cells ≡ 32768

-- so many erased bytes
unfoldable pub blank : ℕ → List ℕ
blank n = replicate n 255

-- these bytes in the place of those from an address on
abbrev pub placed : List ℕ → ℕ → List ℕ → List ℕ
placed cells at bytes = take at cells ++ bytes ++ drop (at + length bytes) cells

-- erasing sets all bits
abbrev pub blanked : List ℕ → ℕ → ℕ → List ℕ
blanked cells at n = take at cells ++ blank n ++ drop (at + n) cells

abbrev pub erased : List ℕ → ℕ → List ℕ
erased cells page = blanked cells (page * 1024) 1024

-- programming only clears bits: each byte becomes the bitwise and of the old and the new one
abbrev pub and_front : List ℕ → List ℕ → List ℕ
and_front cells [] = cells
and_front [] (byte ∷ bytes) = []
and_front (cell ∷ cells) (byte ∷ bytes) = bit_and cell byte ∷ and_front cells bytes

abbrev pub programmed : List ℕ → ℕ → List ℕ → List ℕ
programmed cells at bytes = take at cells ++ and_front (drop at cells) bytes

-- only bytes of this range may have changed, and the flash tells its bytes as it did before
abbrev pub ChangesWithin : ℕ → ℕ → Option (List ℕ) → Option (List ℕ) → Type 0
ChangesWithin at n None None = Unit {0}
ChangesWithin at n None (Some after) = ⊥
ChangesWithin at n (Some before) None = ⊥
ChangesWithin at n (Some before) (Some after) = (take at after ≡ take at before) × (drop (at + n) after ≡ drop (at + n) before)

-- the bytes from an address on were read
abbrev pub IsRead : Option (List ℕ) → ℕ → List ℕ → Type 0
IsRead None at bytes = Unit {0}
IsRead (Some cells) at bytes = bytes ≡ take (length bytes) (drop at cells)

-- what a flash tells: its bytes, where it does, and how often it has failed
pub record Told : Type 0 where
  pub bytes : Option (List ℕ)
  pub faults : ℕ

-- the bytes of the flash in memory
abbrev pub flash_cells : MemFlash → List ℕ
flash_cells flash = flash.cells.items

-- how many calls of a kind were made
abbrev pub made_calls : MemFlash → FlashOp → ℕ
made_calls flash op.Attach = flash.attach.made
made_calls flash op.Read = flash.read.made
made_calls flash op.Erase = flash.erase.made
made_calls flash op.Program = flash.program.made

-- the numbers of the calls of a kind that are to fail, counted from 1
abbrev pub planned_calls : MemFlash → FlashOp → List ℕ
planned_calls flash op.Attach = flash.attach.fails.items
planned_calls flash op.Read = flash.read.fails.items
planned_calls flash op.Erase = flash.erase.fails.items
planned_calls flash op.Program = flash.program.fails.items

-- the next call of a kind isn't one of those that are to fail
abbrev pub SucceedsNext : MemFlash → FlashOp → Type 0
SucceedsNext flash kind = is_to_fail (made_calls flash kind) (planned_calls flash kind) ≡ false
