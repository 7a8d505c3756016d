-- What `show` writes.
use Rattle.std.specs.Prelude.{ℕ, ◌+◌, ◌*◌, List, [], ◌∷◌, ◌++◌, Option, Some, None, codes}
use Rattle.std.specs.Fmt.{decimal}
use Rattle.esc_base.specs.Numbers.{bit_of}
use Rattle.settings_block.specs.declared.block.BlockFault.{BlockFault}
use Rattle.settings_block.specs.declared.block.BlockFault.TheVariants as fault
use Rattle.settings_block.specs.declared.stored.Loaded.{Loaded}
use Rattle.settings_block.specs.Settings.{input_number}

-- a name and a number
unfoldable pub field_line : List ℕ → ℕ → List ℕ
field_line name value = name ++ 32 ∷ decimal value ++ 10 ∷ []

-- what is wrong with a block
abbrev pub block_fault_text : BlockFault → List ℕ
block_fault_text fault.Marker = codes "block marker\n"
block_fault_text fault.Version = codes "block version\n"
block_fault_text (fault.Range offset) = field_line (codes "block range") offset

abbrev pub fault_text : Option BlockFault → List ℕ
fault_text None = codes "block ok\n"
fault_text (Some f) = block_fault_text f

-- the eleven lines: the block, and the settings in effect; servo widths and the middle in microseconds
abbrev pub show_text : Loaded → List ℕ
show_text loaded =
    fault_text loaded.fault
    ++ field_line (codes "direction") loaded.settings.direction
    ++ field_line (codes "three_d") (bit_of loaded.settings.three_d)
    ++ field_line (codes "complementary") (bit_of loaded.settings.complementary)
    ++ field_line (codes "advance") loaded.settings.advance
    ++ field_line (codes "poles") loaded.settings.poles
    ++ field_line (codes "servo_low") (2 * loaded.settings.low + 750)
    ++ field_line (codes "servo_high") (2 * loaded.settings.high + 1750)
    ++ field_line (codes "neutral") (loaded.settings.neutral + 1374)
    ++ field_line (codes "dead_band") loaded.settings.dead_band
    ++ field_line (codes "input") (input_number loaded.settings.input)
