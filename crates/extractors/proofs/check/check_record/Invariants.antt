use Rattle.csv.specs.Records.{fields_of}
use Rattle.extractors.proofs.CheckLemmas.{TestedFrom}
use Rattle.extractors.proofs.check.check_record.Given as goal

abbrev pub invariant-loop-i : goal.invariant-loop-i
invariant-loop-i l = TestedFrom l.columns (fields_of l.fields) l.i
