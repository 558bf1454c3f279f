use Rattle.std.proofs.Common.{◌≡◌, ◌*◌, ◌≤◌, take, length}
use Rattle.row_codec.specs.Rows.{row_bytes}
use Rattle.row_codec.proofs.encode.fields_len.Given as goal

abbrev pub invariant-loop-i : goal.invariant-loop-i
invariant-loop-i g l = record {
  so_far : l.size ≡ length (row_bytes (take l.i (g.F.Fields.tuple l.row)));
  short : l.size ≤ 4099 * l.i;
}
