use Rattle.std.proofs.Common.{◌∷◌, ◌++◌, ◌∙◌, take, sym, ap}
use Rattle.std.specs.List.{concat}
use Rattle.flow_types.proofs.Uses.{concat_more}
use Rattle.flow_types.proofs.graph.all_uses.Goals as goal

pub loop-link-preserved : goal.loop-link-preserved
loop-link-preserved c =
    let links = c.args.links.now in
    let i = c.loop-link.link-index in
    let more = concat_more links i c.link-item.result c.loop-link-test.true c.link-item.is in
    c.in_ok-extend_from_slice.ensures.items
    ∙ (ap (λ ps. ps ++ c.inputs.result.now) c.loop-link.invariant ∙ (ap (λ ps. (c.args.root ∷ concat (take i links)) ++ ps) c.inputs.ensures ∙ ap (λ ps. c.args.root ∷ ps) (sym more)))
