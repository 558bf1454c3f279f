use Rattle.row_batch.proofs.Packed.{seen_each, rows_fit}
use Rattle.row_batch.proofs.batch.Batch.len.Goals as goal

pub returns-clause-each : goal.returns-clause-each
returns-clause-each c = seen_each _ _ _ _ _ _ _ c.self.invariant c.self.view_is

pub returns-clause-fit : goal.returns-clause-fit
returns-clause-fit c = rows_fit _ _ (seen_each _ _ _ _ _ _ _ c.self.invariant c.self.view_is)
