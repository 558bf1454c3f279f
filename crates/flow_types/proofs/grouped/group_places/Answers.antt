use Rattle.std.proofs.lemmas.Result.{err_from_is_err_and}
use Rattle.flow_types.specs.Names.{names_in}
use Rattle.flow_types.specs.Paired.{known_place}
use Rattle.flow_types.proofs.Each.{made_more, made_ends}
use Rattle.flow_types.proofs.grouped.group_places.Goals as goal

pub returns-in_err-place : goal.returns-in_err-place
returns-in_err-place c =
    let p = err_from_is_err_and c.from_residual-in_err-place.result c.from_residual-in_err-place.ensures.1 in
    let failed = rw (c.deref.ensures.value, c.in_ok-names.ensures, c.in_ok-copy.ensures) at c.in_err-place.ensures in
    rw (p.1, p.2)
    (made_ends (known_place (names_in c.args.columns.now)) c.args.by.now c.loop-name.name-index c.name-item.result c.loop-name-test.true c.name-item.is c.loop-name.places.items c.loop-name.invariant c.in_err-place.field-0.0 failed)

pub loop-name-preserved : goal.loop-name-preserved
loop-name-preserved c =
    let made = rw (c.deref.ensures.value, c.in_ok-names.ensures, c.in_ok-copy.ensures) at c.in_ok-place.ensures in
    rw c.in_ok-push.ensures.items
    (made_more (known_place (names_in c.args.columns.now)) c.args.by.now c.loop-name.name-index c.name-item.result c.loop-name-test.true c.name-item.is c.loop-name.places.items c.loop-name.invariant c.in_ok-place.place made)
