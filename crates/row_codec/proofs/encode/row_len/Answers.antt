use Rattle.std.proofs.Common.{length, ap, ◌∙◌}
use Rattle.row_codec.proofs.RowLemmas.{fits_long}
use Rattle.row_codec.proofs.encode.row_len.Goals as goal

pub fields_len-requires-clause-all : goal.fields_len-requires-clause-all
fields_len-requires-clause-all g c = ap length c.columns.ensures.same ∙ fits_long _ _ c.requires
