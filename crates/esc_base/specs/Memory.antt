-- What the forms in memory hold.
use Rattle.std.specs.Prelude.{ℕ, List, drop}
use Rattle.esc_base.specs.declared.memory.MemSource.{MemSource}
use Rattle.esc_base.specs.declared.memory.MemSink.{MemSink}

-- the bytes that are left
abbrev pub source_left : MemSource → List ℕ
source_left s = drop s.at s.bytes.items

-- the bytes that were given
abbrev pub sink_given : MemSink → List ℕ
sink_given s = s.bytes.items
