use Rattle.std.proofs.Common.{length, drop, ◌-◌, ◌≤◌}
use Rattle.table_write.specs.Cut.{cut}
use Rattle.table_write.proofs.Adding.{SoFar}
use Rattle.table_write.proofs.writer.Writer.append_blocks.Given as goal

abbrev pub invariant-loop-at : goal.invariant-loop-at
invariant-loop-at g l = record {
  within : l.at ≤ length l.rows.rows;
  so_far : SoFar l.rows.columns (cut l.batch (drop l.from l.rows.rows)) l.fn.journal (g.K.Disk.state l.fn.disk)
      (cut l.batch (drop l.at l.rows.rows)) l.journal (g.K.Disk.state l.disk);
}

abbrev pub decreases-loop-at : goal.decreases-loop-at
decreases-loop-at g l = length l.rows.rows - l.at
