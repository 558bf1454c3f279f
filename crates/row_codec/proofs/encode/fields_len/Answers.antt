use Rattle.std.proofs.Common.{◌<◌, length, arith}
use Rattle.std.proofs.lemmas.Grind.{common_steps}
use Rattle.row_codec.proofs.RowLemmas.{row_bytes_more}
use Rattle.row_codec.proofs.encode.fields_len.Goals as goal

pub loop-i-preserved : goal.loop-i-preserved
loop-i-preserved g c =
    let below : c.loop-i.i < length (g.F.Fields.tuple c.args.row.now) = omega arith in
    let more = row_bytes_more _ _ _ below c.field.ensures.value in
    record {
      so_far = grind (arith, common_steps);
      short = omega arith;
    }
