use Rattle.table_write.proofs.BlockRows.{blocks_hold}
use Rattle.table_write.proofs.laws.blocks_laws.Goals as goal

pub returns : goal.returns
returns c = blocks_hold c.rows_laws.ensures.stored_is_read
