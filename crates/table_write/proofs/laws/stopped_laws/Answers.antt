use Rattle.table_write.proofs.Stopped.{one_ahead}
use Rattle.table_write.proofs.laws.stopped_laws.Goals as goal

pub returns : goal.returns
returns g c = λ text olds blocks. one_ahead c.holds_once.ensures text olds blocks _
