use Rattle.std.proofs.Common.{◌≡◌, length}
use Rattle.csv.specs.Records.{fields_of}
use Rattle.extractors.proofs.PackLemmas.{BegunWith}
use Rattle.extractors.proofs.content.pack_record.Given as goal

abbrev pub invariant-loop-i : goal.invariant-loop-i
invariant-loop-i l = record {
  so_far : BegunWith l.columns (fields_of l.fields) l.into.begun l.i;
  long : length l.into.begun ≡ l.i;
  rows : l.into.rows ≡ l.fn.into.rows;
  columns : l.into.columns ≡ l.columns;
}
