use Rattle.std.proofs.Common.{◌≡◌, ◌++◌, ◌+◌, ◌*◌, ◌≤◌, take, All}
use Rattle.std.specs.Prelude.{vec_len}
use Rattle.row_codec.specs.Rows.{row_bytes}
use Rattle.row_codec.specs.Decoding.{IsEncodable}
use Rattle.row_batch.specs.Packing.{value_places}
use Rattle.row_batch.proofs.packing.append_values.Given as goal

abbrev pub invariant-loop-i : goal.invariant-loop-i
invariant-loop-i g l = record {
  bytes : l.bytes.items ≡ l.fn.bytes.items ++ row_bytes (take l.i (g.F.Fields.tuple l.row));
  places : l.places.items ≡ l.fn.places.items ++ value_places (take l.i (g.F.Fields.tuple l.row));
  encodable : All IsEncodable (take l.i (g.F.Fields.tuple l.row));
  short : vec_len l.bytes ≤ vec_len l.fn.bytes + 4099 * l.i;
}
