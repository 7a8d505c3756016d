use Rattle.std.proofs.Common.{arith}
use Rattle.std.proofs.lemmas.List.Elements.{All-append, All-push}
use Rattle.esc_base.specs.Range.{InRange}
use Rattle.interrupt_machine.proofs.OpenKinds.{number_most}
use Rattle.interrupt_machine.proofs.machine.note_own.Goals as goal

pub returns-in-Return-clause-in_range : goal.returns-in-Return-clause-in_range
returns-in-Return-clause-in_range c =
    rw (c.push.ensures.items, c.append.ensures.items, c.own.ensures)
    (All-push InRange _ _ (All-append InRange _ _ c.requires.old_in_range c.requires.own_in_range)
    (omega arith, rw c.number.ensures (number_most c.args.kind)))
