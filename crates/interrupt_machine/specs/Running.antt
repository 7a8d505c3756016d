-- What contracts see of the machine.
use Rattle.std.specs.Prelude.{List}
use Rattle.esc_base.specs.declared.kind.Kind.{Kind}
use Rattle.interrupt_machine.specs.declared.nest.Nest.{Nest}

pub record Running (F : Type 0) : Type 0 where
  pub firmware : F
  -- the open kinds, the innermost first
  pub open_kinds : List Kind
  pub nest : Nest
