use Rattle.std.proofs.Common.{◌≤◌, ◌-◌, ℕ, List, IsTrue}
use Rattle.commit_disk.specs.Attach.{TellsOf}
use Rattle.outside.specs.Disk.{OnlyReads}
use Rattle.table_read.proofs.Standing.{StandFrom}
use Rattle.table_read.proofs.table.verify.Given as goal

abbrev pub invariant-loop-gate : goal.invariant-loop-gate
invariant-loop-gate g l = record {
  read : OnlyReads (g.K.Disk.state l.fn.disk) (g.K.Disk.state l.disk);
  within : l.gate ≤ l.journal.gate;
  rows : IsTrue (g.K.Disk.state l.fn.disk).honest → (text : List ℕ) → (table : TellsOf l.journal (g.K.Disk.state l.fn.disk).file text)
      → StandFrom l.schema text table.blocks l.journal.first l.gate;
}

abbrev pub decreases-loop-gate : goal.decreases-loop-gate
decreases-loop-gate g l = l.journal.gate - l.gate
