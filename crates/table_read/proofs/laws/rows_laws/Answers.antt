use Rattle.table_read.proofs.StoredRows.{table_stored, table_again}
use Rattle.table_read.proofs.laws.rows_laws.Goals as goal

pub returns-clause-reads_stored : goal.returns-clause-reads_stored
returns-clause-reads_stored c = table_stored c.codec_laws.ensures.encodes_back c.codec_laws.ensures.reads_rows

pub returns-clause-stored_is_read : goal.returns-clause-stored_is_read
returns-clause-stored_is_read c = table_again c.codec_laws.ensures.decodes_back
