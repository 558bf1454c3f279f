use Rattle.std.proofs.Common.{arith, rules}
use Rattle.commit_disk.specs.Buffer.{no_rows}
use Rattle.commit_disk.specs.Table.{block_bytes}
use Rattle.commit_disk.proofs.Buffers.{is_buffer}
use Rattle.commit_disk.proofs.block.Block.new.Goals as goal

pub invariant_of-result : goal.invariant_of-result
unfolding block_bytes
invariant_of-result c =
    is_buffer no_rows _ _ (search rules) (omega arith) (omega arith) (omega (arith, c.extend_from_slice.ensures.capacity, c.in_ok-buffer.ensures.exact))
