use Rattle.std.proofs.Common.{◌≡◌, map, option_map, get_or, None}
use Rattle.list_algebra.specs.Joins.{below}
use Rattle.kind_laws.specs.Expressions.{cell}
use Rattle.kind_laws.proofs.mapping.add_cells.Given as goal

abbrev pub invariant-loop-place : goal.invariant-loop-place
invariant-loop-place l = record {
  columns : l.made.columns ≡ l.initial.made.columns;
  rows : l.made.rows ≡ l.initial.made.rows;
  begun : l.made.begun ≡ map (λ place. cell l.input l.row (get_or (map (option_map (λ x. x.now)) l.values) place None) place) (below l.place);
}
