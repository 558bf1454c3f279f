use Rattle.row_batch.proofs.Fields.{seen_long}
use Rattle.row_batch.proofs.view.RowViewFields.count.Goals as goal

pub returns : goal.returns
returns c = seen_long _ _ _ _ _ c.self.invariant c.self.view_is
