use Rattle.std.proofs.Common.{◌≡◌, ◌-◌, ◌||◌, ◌<◌, ◌∙◌, ap, length, get_or, take, false, arith}
use Rattle.std.proofs.lemmas.List.{take_all}
use Rattle.flow_types.specs.Trees.{tree_below, inputs_below}
use Rattle.flow_types.proofs.Reached.{is_in_all, marked_more, marked_all}
use Rattle.flow_types.proofs.graph.+reach.Goals as goal

pub loop-input-preserved : goal.loop-input-preserved
loop-input-preserved t c = record {
  len = c.reach.ensures.len ∙ c.loop-input.invariant.len;
  marked = λ k.
      marked_more (tree_below c.args.links.now (c.args.depth - 1)) c.inputs_below-input-items.result.now c.loop-input.input-index (get_or c.args.reached.now k false) (get_or c.loop-input.reached k false) (get_or c.reach.new.reached k false) k c.loop-input-test.true
      (c.loop-input.invariant.marked k) (c.reach.ensures.marked k);
}

pub returns-clause-marked : goal.returns-clause-marked
returns-clause-marked t c =
    let all : take c.loop-input.input-index c.inputs_below-input-items.result.now ≡ inputs_below c.args.links.now c.args.depth c.args.place =
    take_all c.loop-input.input-index c.inputs_below-input-items.result.now c.loop-input-test.false ∙ c.inputs_below-input-items.ensures.inputs in
    let within : c.args.place < length c.loop-input.reached = omega (arith, c.loop-input.invariant.len, c.requires.all, c.requires.place) in
    marked_all c.args.links.now c.args.depth c.args.place c.args.reached.now c.loop-input.reached within
    (λ k. c.loop-input.invariant.marked k ∙ ap (λ ps. get_or c.args.reached.now k false || is_in_all (tree_below c.args.links.now (c.args.depth - 1)) ps k) all)
