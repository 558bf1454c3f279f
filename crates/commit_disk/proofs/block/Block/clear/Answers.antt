use Rattle.std.proofs.Common.{arith}
use Rattle.commit_disk.specs.Buffer.{no_rows}
use Rattle.commit_disk.specs.Table.{block_bytes}
use Rattle.commit_disk.proofs.Buffers.{is_buffer}
use Rattle.commit_disk.proofs.block.Block.clear.Goals as goal

pub invariant_of-self : goal.invariant_of-self
unfolding block_bytes
invariant_of-self c = is_buffer no_rows _ _ c.copy_from_slice.ensures.items (omega arith) (omega arith) (omega arith)
