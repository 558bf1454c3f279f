use Rattle.std.proofs.Common.{◌≡◌, ◌<◌, ◌-◌, length, length-append, ap, arith}
use Rattle.std.proofs.lemmas.Result.{err_from_is_err_and}
use Rattle.flow_types.specs.Trees.{tree_below, inputs_below}
use Rattle.flow_types.proofs.Whole.{whole_below}
use Rattle.flow_types.proofs.Needs.{count_below}
use Rattle.flow_types.proofs.TypedTrees.{no_trees_yet, trees_more, roots_within, tree_top, fault_top, fault_in}
use Rattle.flow_types.proofs.typing.+type_tree.Goals as goal

pub loop-input-init : goal.loop-input-init
loop-input-init t c = record {
  trees = rw c.new-roots.ensures.items (no_trees_yet c.args.raw.now c.args.nodes.now.items);
  len = ap length c.new-roots.ensures.items;
}

pub loop-input-preserved : goal.loop-input-preserved
loop-input-preserved t c =
    record {
      trees = rw c.in_ok-push.ensures.items
          (trees_more c.args.raw.now (tree_below c.args.links.now (c.args.depth - 1)) c.inputs_below-input-items.result.now c.loop-input.input-index c.loop-input-test.true c.args.nodes.now.items c.loop-input.nodes.items c.type_tree.new.nodes.items c.loop-input.roots.items c.in_ok-root.root c.loop-input.invariant.trees c.in_ok-root.ensures.tree);
      len = rw (c.in_ok-push.ensures.items, length-append) (omega (arith, c.loop-input.invariant.len));
    }

pub type_tree-requires : goal.type_tree-requires
type_tree-requires t c =
    let items = c.inputs_below-input-items.result.now in
    let i = c.loop-input.input-index in
    let some : 0 < length items = omega (arith, c.loop-input-test.true) in
    let deep = c.inputs_below-input-items.ensures.deeper some in
    let are = c.inputs_below-input-items.ensures.inputs in
    let h : i < length (inputs_below c.args.links.now c.args.depth c.args.place) = rw (← are) c.loop-input-test.true in
    let whole = rw (← are) at (whole_below c.args.links.now c.args.depth c.args.place i 0 c.requires.whole h) in (
      omega (arith, deep, c.decreases),
      (
        c.requires.kept,
        (
          c.requires.built,
          (
            c.requires.there,
            (
              c.requires.links,
              (
                c.requires.within,
                (
                  c.inputs_below-input-items.ensures.within c.requires.within i 0 c.loop-input-test.true,
                  whole,
                ),
              ),
            ),
          ),
        ),
      ),
    )

pub returns-in_err-root-clause-fault : goal.returns-in_err-root-clause-fault
returns-in_err-root-clause-fault t c =
    let p = err_from_is_err_and c.from_residual.result c.from_residual.ensures.1 in
    rw (p.1, p.2)
    (fault_in c.args.raw.now c.args.links.now c.args.depth c.args.place c.inputs_below-input-items.result.now c.inputs_below-input-items.ensures.inputs c.loop-input.input-index c.args.nodes.now.items c.loop-input.nodes.items c.loop-input.roots.items c.in_err-root.field-0.0 c.loop-input-test.true c.loop-input.invariant.trees c.in_err-root.ensures.fault)

pub type_over-requires-clause-within : goal.type_over-requires-clause-within
type_over-requires-clause-within t c =
    rw (c.deref-2.ensures.value, c.deref.ensures.value) (roots_within c.args.raw.now _ c.args.nodes.now.items c.loop-input.nodes.items c.loop-input.roots.items c.loop-input.invariant.trees)

pub type_over-requires-clause-count : goal.type_over-requires-clause-count
type_over-requires-clause-count t c =
    let are = ap length c.inputs_below-input-items.ensures.inputs in
    let count : length c.loop-input.roots.items ≡ length (inputs_below c.args.links.now c.args.depth c.args.place) =
    omega (arith, are, c.loop-input.invariant.len, c.loop-input-test.false, c.loop-input.auto.input-index-end) in
    rw c.deref-2.ensures.value
    (count_below c.args.raw.now c.args.links.now c.args.depth c.args.place (length c.loop-input.roots.items) c.requires.kept c.requires.built c.requires.there c.requires.links c.requires.place c.requires.whole count)

pub returns-in_err-node-clause-fault : goal.returns-in_err-node-clause-fault
returns-in_err-node-clause-fault t c =
    let p = err_from_is_err_and c.from_residual-in_err-node.result c.from_residual-in_err-node.ensures.1 in
    let failed = rw (c.deref.ensures.value, c.deref-2.ensures.value) at c.in_err-node.ensures.node in
    rw (p.1, p.2)
    (fault_top c.args.raw.now c.args.links.now c.args.depth c.args.place c.inputs_below-input-items.result.now c.inputs_below-input-items.ensures.inputs c.loop-input.input-index c.args.nodes.now.items c.loop-input.nodes.items c.loop-input.roots.items c.loop-input-test.false c.loop-input.invariant.trees c.in_err-node.field-0.0 failed)

pub returns-clause-tree : goal.returns-clause-tree
returns-clause-tree t c =
    let made = rw (c.deref.ensures.value, c.deref-2.ensures.value) at c.in_ok-node.ensures.node in
    let linked = rw (c.deref.ensures.value, c.deref-2.ensures.value) at c.in_ok-node.ensures.linked in
    let count : c.len-root.result ≡ length c.loop-input.nodes.items = omega (arith, c.len-root.ensures, c.loop-input.nodes.ok.0) in
    rw (c.in_ok-push-2.ensures.items, count)
    (tree_top c.args.raw.now c.args.links.now c.args.depth c.args.place c.inputs_below-input-items.result.now c.inputs_below-input-items.ensures.inputs c.loop-input.input-index c.args.nodes.now.items c.loop-input.nodes.items c.loop-input.roots.items c.loop-input-test.false c.loop-input.invariant.trees c.in_ok-node.node made linked)
