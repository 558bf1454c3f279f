use Rattle.std.proofs.Common.{◌≡◌, ◌≤◌, ◌-◌, ◌++◌, All, length}
use Rattle.tuple_schema.specs.Schemas.{Fits}
use Rattle.extractors.specs.Readers.{to_come}
use Rattle.extractors.specs.Sources.{good_rows, CanGoOn}
use Rattle.extractors.proofs.rows.read_rows.Given as goal

abbrev pub invariant-loop-reader : goal.invariant-loop-reader
invariant-loop-reader l = record {
  goes : CanGoOn l.columns l.reader;
  first : good_rows l.columns (to_come l.fn.reader) ≡ l.into.rows ++ good_rows l.columns (to_come l.reader);
  fit : All (Fits l.into.columns) (good_rows l.columns (to_come l.reader));
  few : length l.into.rows ≤ l.want;
  columns : l.into.columns ≡ l.fn.into.columns;
}

abbrev pub decreases-loop-reader : goal.decreases-loop-reader
decreases-loop-reader l = l.want - length l.into.rows
