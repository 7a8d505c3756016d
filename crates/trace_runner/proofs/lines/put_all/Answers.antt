use Rattle.std.proofs.Common.{◌∙◌, ◌<◌, ℕ, List, length, arith}
use Rattle.esc_base.specs.declared.note.Note.{Note}
use Rattle.esc_base.specs.declared.note.Note.TheVariants.{Up}
use Rattle.esc_base.proofs.OutsideLaws.{on_err}
use Rattle.trace_runner.proofs.Written.{lines_more, given_more, broke_at}
use Rattle.trace_runner.proofs.lines.put_all.Goals as goal

abbrev blank : Note
blank = Up (record { 0 = 0 }) 0

pub loop-note-preserved : goal.loop-note-preserved
loop-note-preserved g c =
    let xs : List Note = c.args.notes.now in
    let i : ℕ = c.loop-note.note-index in
    let inv = c.loop-note.invariant in
    let lt : i < length xs = omega arith in
    let n = c.as_bytes.ensures ∙ c.write_note.ensures in
    record {
      took = lines_more g.K.Sink.took xs i blank _ _ _ _ lt inv.took n c.in_ok-put.ensures.took;
      given = given_more xs i blank _ _ _ _ lt inv.given n c.in_ok-put.ensures.appended;
      no_fewer = let e = c.put.ensures.no_fewer in omega arith;
    }

pub returns-in_err-put-clause-broke : goal.returns-in_err-put-clause-broke
returns-in_err-put-clause-broke g c =
    let xs : List Note = c.args.notes.now in
    let i : ℕ = c.loop-note.note-index in
    let inv = c.loop-note.invariant in
    let lt : i < length xs = omega arith in
    let n = c.as_bytes.ensures ∙ c.write_note.ensures in
    on_err c.from_residual.result
    (broke_at g.K.Sink.given g.K.Sink.took g.K.Sink.broke xs i blank _ _ _ _ lt inv.took inv.given n c.in_err-put.ensures.broke c.in_err-put.ensures.front)
