use Rattle.std.proofs.Common.{◌≡◌, take}
use Rattle.tuple_schema.specs.Tuples.{part}
use Rattle.kind_laws.proofs.projecting.add_part.Given as goal

abbrev pub invariant-loop-place : goal.invariant-loop-place
invariant-loop-place l = record {
  columns : l.parts.columns ≡ l.initial.parts.columns;
  rows : l.parts.rows ≡ l.initial.parts.rows;
  begun : l.parts.begun ≡ part l.row (take l.place-index l.from);
}
