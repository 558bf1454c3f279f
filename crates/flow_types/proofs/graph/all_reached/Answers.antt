use Rattle.std.proofs.Common.{◌≡◌, ◌<◌, ◌∙◌, sym, length, get_or, false, arith}
use Rattle.std.proofs.lemmas.List.{get_or_default}
use Rattle.flow_types.proofs.Reached.{not_reached, reaches_all}
use Rattle.flow_types.proofs.graph.all_reached.Goals as goal

pub returns-then-not-index : goal.returns-then-not-index
returns-then-not-index c =
    let reached = c.in_ok-reached.reached in
    let place = c.loop-place.place in
    let within : place < length c.args.links.now = omega (arith, c.in_ok-reached.ensures.len, c.len-place-end.ensures, c.loop-place-test.true) in
    let stored : place < length reached.items = omega (arith, within, c.in_ok-reached.ensures.len, reached.ok.0) in
    let missing : get_or reached.items place false ≡ false = sym (c.index.ensures ∙ get_or_default reached.items place c.index.result.now false stored) ∙ c.if-not-index.true in
    rw c.fault_at.ensures
    (not_reached c.args.root c.args.links.now place within (sym (c.in_ok-reached.ensures.reached place within) ∙ missing) (λ k below. sym (c.in_ok-reached.ensures.reached k (omega arith)) ∙ c.loop-place.invariant k below))

pub returns : goal.returns
returns c =
    let end : c.loop-place.place ≡ length c.args.links.now = omega (arith, c.in_ok-reached.ensures.len, c.len-place-end.ensures, c.loop-place.auto.place-end, c.loop-place-test.false) in
    reaches_all c.args.root c.args.links.now c.loop-place.place (omega (arith, end)) (λ k below. sym (c.in_ok-reached.ensures.reached k (omega (arith, end, below))) ∙ c.loop-place.invariant k below)
