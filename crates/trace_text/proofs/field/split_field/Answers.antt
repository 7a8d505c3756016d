use Rattle.std.proofs.Common.{sym, ◌+◌}
use Rattle.std.proofs.lemmas.List.{take_rest}
use Rattle.trace_text.proofs.Fields.{fields_at, fields_whole}
use Rattle.trace_text.proofs.field.split_field.Goals as goal

pub returns-in-Some : goal.returns-in-Some
returns-in-Some c = rw (take_rest c.args.bytes.now (c.in-Some.i + 1)) (fields_at c.args.bytes.now c.in-Some.i (sym c.in-Some.ensures))

pub returns-in-None : goal.returns-in-None
returns-in-None c = fields_whole c.args.bytes.now (sym c.in-None.ensures)
