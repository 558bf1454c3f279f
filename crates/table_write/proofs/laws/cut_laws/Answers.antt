use Rattle.table_write.proofs.Cuts.{cut_is, only_cut}
use Rattle.table_write.proofs.laws.cut_laws.Goals as goal

pub returns-clause-is_cut : goal.returns-clause-is_cut
returns-clause-is_cut c = cut_is

pub returns-clause-only : goal.returns-clause-only
returns-clause-only c = only_cut
