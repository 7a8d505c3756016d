use Rattle.am32wave.proofs.Merging.{note_read}
use Rattle.am32wave.proofs.ahead.NotesAhead.read_on.Goals as goal

pub returns-in-Note-clause-goes_on : goal.returns-in-Note-clause-goes_on
returns-in-Note-clause-goes_on g c first notes t h =
    note_read c.args.self.now.next c.args.self.now.journal c.next.new.self first (g.S.Source.left c.args.src.now) (g.S.Source.left c.next.new.src) notes t
    c.in-Note.note c.in-Unread.is h c.in-Note.ensures.says
