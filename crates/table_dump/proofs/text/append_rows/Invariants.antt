use Rattle.std.proofs.Common.{◌≡◌, ◌++◌, take, All}
use Rattle.tuple_schema.specs.Schemas.{Fits}
use Rattle.table_dump.specs.Texts.{rows_text}
use Rattle.table_dump.specs.Writers.{so_far, IsBetween}
use Rattle.table_dump.proofs.text.append_rows.Given as goal

abbrev pub invariant-loop-i : goal.invariant-loop-i
invariant-loop-i l = record {
  between : IsBetween l.writer;
  wrote : so_far l.writer ≡ l.fn.text.items ++ rows_text l.batch.columns (take l.i l.batch.rows);
  fit : All (Fits l.batch.columns) (take l.i l.batch.rows);
}
