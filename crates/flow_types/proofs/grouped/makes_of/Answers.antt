use Rattle.std.proofs.lemmas.Result.{err_from_is_err_and}
use Rattle.flow_types.specs.Makes.{make_of}
use Rattle.flow_types.proofs.Each.{made_more, made_ends}
use Rattle.flow_types.proofs.grouped.makes_of.Goals as goal

pub returns-in_err-make : goal.returns-in_err-make
returns-in_err-make c =
    let p = err_from_is_err_and c.from_residual-in_err-make.result c.from_residual-in_err-make.ensures.1 in
    let failed = rw (c.deref.ensures.value, c.in_ok-names.ensures, c.value_text.ensures.value, c.as_str.ensures.text) at c.in_err-make.ensures in
    rw (p.1, p.2)
    (made_ends (make_of c.args.columns.now) c.args.texts.now c.loop-text.text-index c.text-item.result c.loop-text-test.true c.text-item.is c.loop-text.makes c.loop-text.invariant c.in_err-make.field-0.0 failed)

pub loop-text-preserved : goal.loop-text-preserved
loop-text-preserved c =
    let made = rw (c.deref.ensures.value, c.in_ok-names.ensures, c.value_text.ensures.value, c.as_str.ensures.text) at c.in_ok-make.ensures in
    rw c.in_ok-push.ensures.ok
    (made_more (make_of c.args.columns.now) c.args.texts.now c.loop-text.text-index c.text-item.result c.loop-text-test.true c.text-item.is c.loop-text.makes c.loop-text.invariant c.in_ok-make.make made)
