use Rattle.std.proofs.Common.{◌-◌, sym, length, arith}
use Rattle.flow_types.proofs.Needs.{needs_source, needs_past, needs_node}
use Rattle.flow_types.proofs.graph.needs_at.Goals as goal

pub returns-then-place-sources : goal.returns-then-place-sources
returns-then-place-sources c = rw c.new.ensures.items (sym (needs_source c.args.raw.now c.args.place (rw c.items-sources.ensures at c.if-place-sources.true)))

pub returns-then-below-nodes : goal.returns-then-below-nodes
returns-then-below-nodes c =
    let past = rw c.items-sources.ensures at c.if-place-sources.false in
    rw c.new-then-below-nodes.ensures.items
    (sym (needs_past c.args.raw.now c.args.place (c.args.place - length c.args.raw.now.sources) (omega arith) (rw (c.items-nodes.ensures, c.items-sources.ensures) at c.if-below-nodes.true)))

pub returns : goal.returns
returns c =
    let past = rw c.items-sources.ensures at c.if-place-sources.false in
    rw (needs_node c.args.raw.now c.args.place (c.args.place - length c.args.raw.now.sources) c.index-nodes-below.result (omega arith) (rw (c.items-nodes.ensures, c.items-sources.ensures) at c.if-below-nodes.false) (rw (c.items-nodes.ensures, c.items-sources.ensures) at c.index-nodes-below.is))
    c.input_names.ensures
