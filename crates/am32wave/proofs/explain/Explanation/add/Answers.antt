use Rattle.std.proofs.Common.{refl, sym, ◌∙◌, ap}
use Rattle.am32wave.specs.declared.picture.Handlers.{Handlers}
use Rattle.am32wave.specs.declared.tally.Tally.{Tally}
use Rattle.am32wave.specs.Picture.{with_handlers}
use Rattle.am32wave.specs.Tally.{with_tally}
use Rattle.am32wave.proofs.Look.{handlers_more, tally_more, line_is}
use Rattle.am32wave.proofs.Parts.{line_of}
use Rattle.am32wave.proofs.explain.Explanation.add.Goals as goal

pub returns-clause-line : goal.returns-clause-line
returns-clause-line c notes is =
    let whole = line_of c.new-page.result.items c.push.new.self.items c.push-2.new.self.items c.push-3.new.self.items c.sentence.result c.push_all.new.page.items
    c.push-4.new.self.items _ _ _ _ c.new-page.ensures c.push.ensures.items c.push-2.ensures.items c.push-3.ensures.items c.push_all.ensures
    c.push-4.ensures.items in
    let depths = c.min-depth.ensures ∙ rw (c.count.ensures, c.count-2.ensures) refl in
    line_is notes c.args.note.now _ c.indent.result.now _ c.time_of.result.0 c.min-depth.result c.args.self.now.handlers c.after-after.result is.handlers
    c.after-after.ensures c.time_of.ensures depths c.indent.ensures c.sentence.ensures.text whole

pub returns-clause-goes_on : goal.returns-clause-goes_on
returns-clause-goes_on c notes is = record {
  handlers = c.after-after.ensures ∙ ap (λ (h : Handlers). with_handlers h c.args.note.now) is.handlers ∙ sym (handlers_more notes c.args.note.now);
  tally = c.after-self.ensures ∙ ap (λ (t : Tally). with_tally t c.args.note.now) is.tally ∙ sym (tally_more notes c.args.note.now);
}
