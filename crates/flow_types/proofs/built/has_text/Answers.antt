use Rattle.std.proofs.Common.{sym, ap, is_some}
use Rattle.flow_types.proofs.Said.{nothing_said}
use Rattle.flow_types.proofs.built.has_text.Goals as goal

pub returns-in_default : goal.returns-in_default
returns-in_default c =
    let n = c.in_default in
    sym (ap is_some (nothing_said c.args.node.now c.as_str.result.now c.as_str.ensures.text n.not-select n.not-project n.not-map n.not-join n.not-lookup n.not-aggregate n.not-sort n.not-distinct n.not-union))
