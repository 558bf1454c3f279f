use Rattle.table_write.proofs.RowGrowth.{rows_stay, end_stays}
use Rattle.table_write.proofs.laws.still_laws.Goals as goal

pub returns-clause-first_rows : goal.returns-clause-first_rows
returns-clause-first_rows c = rows_stay c.holds_once.ensures c.verdicts_agree.ensures

pub returns-clause-ended : goal.returns-clause-ended
returns-clause-ended c = end_stays
