use Rattle.std.proofs.Common.{◌≡◌}
use Rattle.csv.specs.Reading.{Ready}
use Rattle.csv.specs.declared.reader.Trim.TheVariants as trim
use Rattle.am32csv.specs.Captured.{Keeps}
use Rattle.am32csv.specs.Records.{capture_config}
use Rattle.am32csv.proofs.RowsRead.{RowsRead}
use Rattle.am32csv.proofs.run.csv_main.Given as goal

abbrev pub invariant-loop : goal.invariant-loop
invariant-loop g l = record {
  keeps : Keeps l.capture (g.K.Sink.given l.fn.out) (g.K.Sink.given l.out);
  config : l.reader.config ≡ capture_config;
  trim : l.reader.trim ≡ trim.None;
  ready : Ready l.reader;
  rows : RowsRead l.fn.layout (g.R.Read.remaining l.fn.rdr) g.R.Read.remaining l.reader l.capture l.rows l.number (g.K.Sink.given l.fn.out)
      (g.K.Sink.given l.out);
}
