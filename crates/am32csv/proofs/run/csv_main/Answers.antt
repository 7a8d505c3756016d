use Rattle.std.proofs.Common.{◌≡◌, ◌∙◌, ap, inl, arith, rules, to_z, of_z, w64}
use Rattle.std.specs.Option.{option_map}
use Rattle.csv.specs.Reading.{strip_bom}
use Rattle.am32csv.proofs.Endings.{done_too}
use Rattle.am32csv.proofs.RowsRead.{none_read, row_more, header_more, all_rows}
use Rattle.am32csv.proofs.run.csv_main.Goals as goal
use Rattle.am32csv.proofs.run.csv_main.Goals.{in-Ok+in-Ok-row, in-Err-row_of+else-rows-gt1}

pub loop-init : goal.loop-init
loop-init g c = record {
  keeps = c.new-capture.ensures.keeps (g.K.Sink.given c.args.out.now);
  config = c.reader_of-reader.ensures.config;
  trim = c.reader_of-reader.ensures.trim;
  ready = c.reader_of-reader.ensures.ready;
  rows = none_read c.args.layout.now (g.R.Read.remaining c.args.rdr) g.R.Read.remaining c.reader_of-reader.result c.new-capture.result
      (g.K.Sink.given c.args.out.now) (c.new-capture.ensures.begins (g.K.Sink.given c.args.out.now)) c.new-capture.ensures.low
      c.new-capture.ensures.no_row c.new-capture.ensures.layout c.reader_of-reader.ensures.state
      (λ text e. c.reader_of-reader.ensures.source ∙ ap (option_map strip_bom) e);
}

pub loop-preserved : goal.loop-preserved
loop-preserved g c =
    let inv = c.loop.invariant in
    let read = rw c.in-Ok-true.field-0-test at (c.in-Ok-true.ensures.reads inv.trim inv.ready) in
    elim c.match-row_of.branch [
      | in-Ok+in-Ok-row w ↦
          let same : to_z w64 (of_z w64 w.in-Ok.row.stamp) ≡ w.in-Ok.row.stamp = search rules in
          record {
            keeps = rw (w.capture-is, w.out-is) (w.in-Ok-row.ensures.goes_on _ inv.keeps);
            config = read.2 ∙ inv.config;
            trim = read.3 ∙ inv.trim;
            ready = inl (c.in-Ok-true.ensures.ready inv.trim);
            rows = rw (w.capture-is, w.out-is, w.number-is) (row_more c.args.layout.now (g.R.Read.remaining c.args.rdr) g.R.Read.remaining c.loop.reader
                c.read_byte_record.new.self c.loop.capture w.row.new.self c.loop.rows c.saturating_add-rows.result c.loop.number
                w.saturating_add-number.result (g.K.Sink.given c.args.out.now) (g.K.Sink.given c.loop.out) (g.K.Sink.given w.row.new.out) _ w.in-Ok.row
                (to_z w64 (of_z w64 w.in-Ok.row.stamp)) same inv.rows inv.config read w.in-Ok.ensures.says w.in-Ok.ensures.few
                (w.in-Ok-row.ensures.goes_on _ inv.keeps) w.in-Ok-row.ensures.writes
                w.in-Ok-row.ensures.level w.in-Ok-row.ensures.first w.in-Ok-row.ensures.layout
                (let e = c.saturating_add-rows.ensures in omega arith) (let e = w.saturating_add-number.ensures in omega arith));
          }
      | in-Err-row_of+else-rows-gt1 w ↦
          record {
            keeps = rw (w.capture-is, w.out-is) inv.keeps;
            config = read.2 ∙ inv.config;
            trim = read.3 ∙ inv.trim;
            ready = inl (c.in-Ok-true.ensures.ready inv.trim);
            rows = rw (w.capture-is, w.out-is, w.number-is) (header_more c.args.layout.now (g.R.Read.remaining c.args.rdr) g.R.Read.remaining c.loop.reader
                c.read_byte_record.new.self c.loop.capture c.loop.rows c.saturating_add-rows.result c.loop.number (g.K.Sink.given c.args.out.now)
                (g.K.Sink.given c.loop.out) _ inv.rows inv.config read
                (let e = c.saturating_add-rows.ensures in let le = w.if-rows-gt1.false in omega arith)
                (let e = c.saturating_add-rows.ensures in omega arith));
          }
    ]

pub returns-in-Ok-false-clause-rows : goal.returns-in-Ok-false-clause-rows
returns-in-Ok-false-clause-rows g c =
    let inv = c.loop.invariant in
    let read = rw c.in-Ok-false.field-0-test at (c.in-Ok-false.ensures.reads inv.trim inv.ready) in
    done_too c.finish.result _ _ c.finish.ensures.whole (λ whole.
    all_rows c.args.layout.now (g.R.Read.remaining c.args.rdr) g.R.Read.remaining c.loop.reader c.read_byte_record.new.self c.loop.capture c.loop.rows
    c.loop.number (g.K.Sink.given c.args.out.now) (g.K.Sink.given c.loop.out) (g.K.Sink.given c.finish.new.out) _ inv.rows inv.config read whole)
