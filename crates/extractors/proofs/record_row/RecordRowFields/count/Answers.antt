use Rattle.extractors.proofs.SourceLemmas.{seen_long}
use Rattle.extractors.proofs.record_row.RecordRowFields.count.Goals as goal

pub returns : goal.returns
returns c = seen_long _ _ _ c.self.invariant c.self.view_is
