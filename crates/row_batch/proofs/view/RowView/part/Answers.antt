use Rattle.std.proofs.Common.{arith}
use Rattle.std.proofs.lemmas.Grind.{common_steps}
use Rattle.std.proofs.lemmas.List.Elements.{filter_map-append}
use Rattle.std.proofs.lemmas.Option.{slice_get_read}
use Rattle.row_batch.proofs.view.RowView.part.Goals as goal

pub loop-col-preserved : goal.loop-col-preserved
loop-col-preserved c = grind (arith, common_steps, filter_map-append, slice_get_read)
