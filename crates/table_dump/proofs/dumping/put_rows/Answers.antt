use Rattle.std.proofs.Common.{rules}
use Rattle.table_dump.proofs.dumping.put_rows.Goals as goal

pub returns-in_err-put-clause-any : goal.returns-in_err-put-clause-any
returns-in_err-put-clause-any g c = (c.args.batch.now.rows, c.in_ok-text.ensures.fit, search rules)
