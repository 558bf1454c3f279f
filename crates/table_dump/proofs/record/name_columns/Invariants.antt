use Rattle.std.proofs.Common.{◌≡◌, [], map, take}
use Rattle.csv.specs.Records.{fields_of, partial_of}
use Rattle.table_dump.proofs.record.name_columns.Given as goal

abbrev pub invariant-loop-column : goal.invariant-loop-column
invariant-loop-column l = record {
  fields : fields_of l.into ≡ map (λ column. column.name) (take l.column-index l.columns);
  partial : partial_of l.into ≡ [];
}
