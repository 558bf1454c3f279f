use Rattle.outside.specs.Moments.{nothing_new_on}
use Rattle.commit_disk.proofs.attaching.settle_and_read.Goals as goal

pub returns-clause-nothing_new : goal.returns-clause-nothing_new
returns-clause-nothing_new g c =
    nothing_new_on _ _ _ c.settled_size.ensures.elapses c.read_table.ensures.read.elapses c.settled_size.ensures.nothing_new c.read_table.ensures.read.nothing_new
