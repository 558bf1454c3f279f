use Rattle.std.proofs.Common.{◌≡◌, ◌≤◌, ◌+◌, ◌-◌, ℕ, List, length, IsTrue}
use Rattle.outside.specs.Disk.{OnlyReads}
use Rattle.commit_disk.specs.Table.{row_blocks}
use Rattle.commit_disk.specs.Attach.{TellsOf}
use Rattle.table_read.specs.Rows.{table_rows}
use Rattle.table_dump.proofs.Rows.{SomeRows}
use Rattle.table_dump.proofs.Dumped.{HasPut}
use Rattle.table_dump.proofs.dumping.put_blocks.Given as goal

abbrev pub invariant-loop-next : goal.invariant-loop-next
invariant-loop-next g l = record {
  columns : l.batch.columns ≡ l.schema;
  read : OnlyReads (g.K.Disk.state l.fn.disk) (g.K.Disk.state l.disk);
  within : l.at ≤ l.journal.gate;
  output : (g.S.Sink.state l.fn.out).faults ≤ (g.S.Sink.state l.out).faults;
  any : SomeRows l.schema (g.S.Sink.state l.fn.out) (g.S.Sink.state l.out);
  told : IsTrue (g.K.Disk.state l.fn.disk).honest → (text : List ℕ) → (table : TellsOf l.journal (g.K.Disk.state l.fn.disk).file text)
      → HasPut l.schema text table.blocks l.at (table_rows l.schema (16 + length text) (row_blocks table.blocks)) (g.S.Sink.state l.fn.out) (g.S.Sink.state l.out);
}

abbrev pub decreases-loop-next : goal.decreases-loop-next
decreases-loop-next g l = l.journal.gate - l.at
