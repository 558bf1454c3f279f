use Rattle.std.proofs.Common.{◌==◌, ◌∙◌, length, sym, refl}
use Rattle.std.proofs.lemmas.Option.{slice_get_read}
use Rattle.std.proofs.lemmas.List.Quantifiers.{position-Some}
use Rattle.flow_types.specs.Flows.{number_of}
use Rattle.flow_types.proofs.Ranks.{found_at}
use Rattle.flow_types.proofs.flow.Flow.node.Goals as goal

pub returns : goal.returns
returns c =
    let nodes = c.self.inside.nodes.items in
    let place = rw (← c.self.view_is) at c.rank.ensures.place in
    let first = position-Some (λ n. number_of n == c.args.node.0) nodes c.rank.result c.index.result.now (sym place) in
    let at = slice_get_read nodes (length nodes) c.rank.result c.index.result.now refl first.0 c.index.ensures in
    rw (← c.self.view_is) (sym (found_at (λ n. number_of n == c.args.node.0) nodes c.rank.result (sym place) ∙ at))
