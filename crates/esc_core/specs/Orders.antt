-- What commands change.
use Rattle.std.specs.Prelude.{true, false, Bool, ◌==◌, Option, Some, None}
use Rattle.dshot_commands.specs.declared.act.Act.{Act}
use Rattle.dshot_commands.specs.declared.act.Act.TheVariants.{Beacon, Direction, ThreeD, Save, Extended, Spin}
use Rattle.settings_block.specs.declared.settings.Settings.{Settings}
use Rattle.settings_block.specs.Settings.{applied}
use Rattle.esc_core.specs.declared.orders.Orders.{Orders}

abbrev pub first_orders : Settings → Orders
first_orders settings = record { settings = settings; spin = 0; extended = false; save_asked = false }

-- sectors go forward where the direction of the settings and the spin are equal
abbrev pub is_forward : Orders → Bool
is_forward o = o.settings.direction == o.spin

-- a beacon changes nothing
abbrev pub obeyed : Orders → Act → Orders
obeyed o (Beacon beacon) = o
obeyed o (Direction side) = record o { settings = applied o.settings (Direction side) }
obeyed o (ThreeD is_on) = record o { settings = applied o.settings (ThreeD is_on) }
obeyed o Save = record o { save_asked = true }
obeyed o (Extended is_on) = record o { extended = is_on }
obeyed o (Spin side) = record o { spin = side }

-- where a command acts
abbrev pub obeyed_if : Orders → Option Act → Orders
obeyed_if o None = o
obeyed_if o (Some act) = obeyed o act
