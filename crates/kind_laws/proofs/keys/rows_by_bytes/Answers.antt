use Rattle.kind_laws.proofs.KeysNumbered.{same_bytes, read_again}
use Rattle.kind_laws.proofs.keys.rows_by_bytes.Goals as goal

pub returns-clause-same_bytes : goal.returns-clause-same_bytes
returns-clause-same_bytes c = same_bytes c.codec_laws.ensures.decodes_back

pub returns-clause-read_again : goal.returns-clause-read_again
returns-clause-read_again c = read_again c.codec_laws.ensures.decodes_back
