use Rattle.std.proofs.Common.{◌≡◌, below_more, arith}
use Rattle.std.proofs.lemmas.Bool.{le-ltb}
use Rattle.flow_types.specs.Graph.{uses_of}
use Rattle.flow_types.proofs.Uses.{used_twice, used_by_one}
use Rattle.flow_types.proofs.graph.used_once.Goals as goal

pub returns-then-count_uses-gt1 : goal.returns-then-count_uses-gt1
returns-then-count_uses-gt1 c =
    let count : c.count_uses.result ≡ uses_of c.args.root c.args.links.now c.loop-place.place = rw (c.deref.ensures.value, c.in_ok-uses.ensures) at c.count_uses.ensures in
    rw c.fault_at.ensures (used_twice c.args.root c.args.links.now c.loop-place.place c.loop-place-test.true (rw count at c.if-count_uses-gt1.true) c.loop-place.invariant)

pub loop-place-preserved : goal.loop-place-preserved
loop-place-preserved c =
    let count : c.count_uses.result ≡ uses_of c.args.root c.args.links.now c.loop-place.place = rw (c.deref.ensures.value, c.in_ok-uses.ensures) at c.count_uses.ensures in
    below_more _ _ c.loop-place.invariant (le-ltb 1 _ (rw count at c.if-count_uses-gt1.false))

pub returns : goal.returns
returns c = used_by_one c.args.root c.args.links.now c.loop-place.place (omega arith) c.loop-place.invariant
