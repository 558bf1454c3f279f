use Rattle.std.proofs.lemmas.Result.{err_from_is_err_and}
use Rattle.flow_types.specs.Names.{names_in}
use Rattle.flow_types.specs.Paired.{pair_of}
use Rattle.flow_types.proofs.Each.{made_more, made_ends}
use Rattle.flow_types.proofs.paired.known_pairs.Goals as goal

pub returns-in_err-pair : goal.returns-in_err-pair
returns-in_err-pair c =
    let p = err_from_is_err_and c.from_residual-in_err-pair.result c.from_residual-in_err-pair.ensures.1 in
    let failed = rw (c.deref.ensures.value, c.deref-in-loop-text.ensures.value, c.in_ok-left_names.ensures, c.in_ok-right_names.ensures) at c.in_err-pair.ensures in
    rw (p.1, p.2)
    (made_ends (pair_of (names_in c.args.left.now) (names_in c.args.right.now)) c.args.texts.now c.loop-text.text-index c.text-item.result c.loop-text-test.true c.text-item.is c.loop-text.pairs.items c.loop-text.invariant c.in_err-pair.field-0.0 failed)

pub loop-text-preserved : goal.loop-text-preserved
loop-text-preserved c =
    let made = rw (c.deref.ensures.value, c.deref-in-loop-text.ensures.value, c.in_ok-left_names.ensures, c.in_ok-right_names.ensures) at c.in_ok-pair.ensures in
    rw c.in_ok-push.ensures.items
    (made_more (pair_of (names_in c.args.left.now) (names_in c.args.right.now)) c.args.texts.now c.loop-text.text-index c.text-item.result c.loop-text-test.true c.text-item.is c.loop-text.pairs.items c.loop-text.invariant c.in_ok-pair.pair made)
