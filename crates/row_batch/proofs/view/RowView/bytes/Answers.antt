use Rattle.row_batch.proofs.Fields.{seen_size}
use Rattle.row_batch.proofs.view.RowView.bytes.Goals as goal

pub returns-clause-few : goal.returns-clause-few
returns-clause-few c = seen_size _ _ _ _ c.self.invariant
