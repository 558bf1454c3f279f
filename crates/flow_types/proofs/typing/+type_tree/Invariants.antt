use Rattle.std.proofs.Common.{◌≡◌, ◌-◌, map, take, length}
use Rattle.list_algebra.specs.Trees.{trees_of}
use Rattle.flow_types.specs.Trees.{tree_below}
use Rattle.flow_types.proofs.TypedTrees.{HasTrees}
use Rattle.flow_types.proofs.typing.+type_tree.Given as goal

abbrev pub decreases-type_tree : goal.decreases-type_tree
decreases-type_tree l = l.depth

abbrev pub invariant-loop-input : goal.invariant-loop-input
invariant-loop-input l = record {
  trees : HasTrees l.raw (trees_of (map (tree_below l.links (l.depth - 1)) (take l.input-index l.input-items))) l.initial.nodes.items l.nodes.items l.roots.items;
  len : length l.roots.items ≡ l.input-index;
}
