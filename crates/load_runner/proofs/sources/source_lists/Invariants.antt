use Rattle.std.proofs.Common.{◌≡◌, ◌<◌, ◌≤◌, ◌+◌, ℕ, length, map, slice_get, Some, Ok}
use Rattle.std.specs.List.{range_with_len, sum_by}
use Rattle.outside.specs.Words.{Files, Consults}
use Rattle.flow_types.specs.declared.node.Node.{Node}
use Rattle.kind_laws.specs.Laws.{HasOwnColumns}
use Rattle.load_runner.specs.Sources.{all_of, content_of, numbered}
use Rattle.load_runner.specs.Asked.{asked_of}
use Rattle.load_runner.proofs.sources.source_lists.Given as goal

abbrev pub invariant-loop-number : goal.invariant-loop-number
invariant-loop-number g l = record {
  contents : (files : Files) → (g.D.Depot.state l.initial.depot).files ≡ Some files
      → all_of (map (λ number. content_of files (numbered l.flow.nodes number)) (range_with_len 0 l.number)) ≡ Ok (map (λ list. list.rows) l.lists.items);
  columns : (k : ℕ) (n : Node) → k < l.number → numbered l.flow.nodes k ≡ Some n → HasOwnColumns n.kind n.schema (slice_get l.lists.items k);
  len : length l.lists.items ≡ l.number;
  served : (files : Files) → (g.D.Depot.state l.initial.depot).files ≡ Some files
      → (g.D.Depot.state l.depot).served ≤ (g.D.Depot.state l.initial.depot).served + sum_by (asked_of files) (map (numbered l.flow.nodes) (range_with_len 0 l.number));
  consults : Consults (g.D.Depot.state l.initial.depot) (g.D.Depot.state l.depot);
}
