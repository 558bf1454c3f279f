use Rattle.commit_disk.specs.Growth.{grows_now}
use Rattle.table_write.proofs.writer.commit_block.Goals as goal

pub returns-then-not-fits-clause-grows : goal.returns-then-not-fits-clause-grows
returns-then-not-fits-clause-grows g c = λ honest settled text blocks placed held. grows_now text _
