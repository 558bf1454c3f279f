use Rattle.std.proofs.Common.{◌<◌, length, arith}
use Rattle.std.proofs.lemmas.Grind.{common_steps}
use Rattle.row_codec.proofs.RowLemmas.{row_bytes_more, encodable_more}
use Rattle.row_batch.proofs.Fields.{places_more}
use Rattle.row_batch.proofs.packing.append_values.Goals as goal

pub loop-i-preserved : goal.loop-i-preserved
loop-i-preserved g c =
    let below : c.loop-i.i < length (g.F.Fields.tuple c.args.row.now) = omega arith in
    let more = row_bytes_more _ _ _ below c.field.ensures.value in
    let places = places_more _ _ _ below c.field.ensures.value in
    record {
      bytes = grind (arith, common_steps);
      places = grind (arith, common_steps);
      encodable = encodable_more _ _ _ below c.field.ensures.value c.loop-i.invariant.encodable c.in_ok-append_value.ensures.encodable;
      short = grind (arith, common_steps);
    }
