use Rattle.std.proofs.Common.{sym, ◌∙◌, below_more, arith}
use Rattle.flow_types.proofs.Lookups.{again_here, again_is, again_none}
use Rattle.flow_types.proofs.names.again.Goals as goal

pub returns-then-is_among-clause-least : goal.returns-then-is_among-clause-least
returns-then-is_among-clause-least c =
    again_is (λ n. n.now) c.args.names.now c.loop-place.place c.index-names-place.result c.loop-place-test.true c.index-names-place.is (sym c.is_among.ensures ∙ c.if-is_among.true) c.loop-place.invariant

pub loop-place-preserved : goal.loop-place-preserved
loop-place-preserved c =
    below_more _ _ c.loop-place.invariant (sym (again_here (λ n. n.now) c.args.names.now c.loop-place.place c.index-names-place.result c.loop-place-test.true c.index-names-place.is) ∙ (sym c.is_among.ensures ∙ c.if-is_among.false))

pub returns-clause-least : goal.returns-clause-least
returns-clause-least c = again_none (λ n. n.now) c.args.names.now c.loop-place.place (omega arith) c.loop-place.invariant
