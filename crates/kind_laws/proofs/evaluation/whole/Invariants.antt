use Rattle.std.proofs.Common.{◌≡◌, ◌≤◌, ℕ, map, take, drop, get_or, slice_get, Some}
use Rattle.list_algebra.specs.Trees.{root_of, trees_in, EachNext}
use Rattle.row_batch.specs.Packing.{BatchOf}
use Rattle.flow_types.specs.declared.node.Node.{Node}
use Rattle.flow_types.specs.Flows.{number_of, count_inputs}
use Rattle.flow_types.specs.Linked.{IsLinkedOver}
use Rattle.kind_laws.specs.Wholes.{by_number}
use Rattle.kind_laws.proofs.Stacks.{batch_of}
use Rattle.kind_laws.proofs.evaluation.whole.Given as goal

abbrev pub invariant-loop-node : goal.invariant-loop-node
invariant-loop-node l = record {
  inputs : map (λ n. n.now) l.inputs.items ≡ map root_of (trees_in count_inputs (take l.node-index l.node-items));
  lists : l.lists.items ≡ map (batch_of (by_number (map (λ (b : BatchOf). b.rows) l.initial.sources.items))) (trees_in count_inputs (take l.node-index l.node-items));
  next : EachNext count_inputs IsLinkedOver (trees_in count_inputs (take l.node-index l.node-items)) (drop l.node-index l.node-items);
  unspent : (k : ℕ) (n : Node) (none : BatchOf) → l.node-index ≤ k → slice_get l.node-items k ≡ Some n → get_or l.sources.items (number_of n) none ≡ get_or l.initial.sources.items (number_of n) none;
}
