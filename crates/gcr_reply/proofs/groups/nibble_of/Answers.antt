use Rattle.std.proofs.Common.{sym, ◌∙◌}
use Rattle.gcr_reply.proofs.Table.{only_nibble}
use Rattle.gcr_reply.proofs.groups.nibble_of.Goals as goal

pub returns-then-group_of-group : goal.returns-then-group_of-group
returns-then-group_of-group c = only_nibble c.loop-nibble.nibble c.args.group c.loop-nibble-test.true (sym c.group_of.ensures ∙ c.if-group_of-group.true)
