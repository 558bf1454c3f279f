use Rattle.std.proofs.Common.{◌≡◌, ◌++◌, take}
use Rattle.tuple_schema.specs.Tuples.{part}
use Rattle.kind_laws.proofs.adding.add_places.Given as goal

abbrev pub invariant-loop-place : goal.invariant-loop-place
invariant-loop-place l = record {
  columns : l.made.columns ≡ l.initial.made.columns;
  rows : l.made.rows ≡ l.initial.made.rows;
  begun : l.made.begun ≡ l.initial.made.begun ++ part l.row (take l.place-index l.places);
}
