use Rattle.csv.specs.Records.{fields_of}
use Rattle.extractors.proofs.CheckLemmas.{NamedFrom}
use Rattle.extractors.proofs.check.named_columns.Given as goal

abbrev pub invariant-loop-i : goal.invariant-loop-i
invariant-loop-i l = NamedFrom l.any_header l.columns (fields_of l.names) l.i
