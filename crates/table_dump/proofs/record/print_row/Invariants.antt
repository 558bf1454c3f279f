use Rattle.std.proofs.Common.{◌≡◌, [], take}
use Rattle.csv.specs.Records.{fields_of, partial_of}
use Rattle.table_dump.specs.Texts.{printed}
use Rattle.table_dump.proofs.record.print_row.Given as goal

abbrev pub invariant-loop-i : goal.invariant-loop-i
invariant-loop-i g l = record {
  fields : fields_of l.into ≡ take l.i (printed l.columns (g.F.Fields.tuple l.row));
  partial : partial_of l.into ≡ [];
}
