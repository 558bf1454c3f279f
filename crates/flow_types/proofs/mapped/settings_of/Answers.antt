use Rattle.std.proofs.lemmas.List.Elements.{All-push}
use Rattle.std.proofs.lemmas.Result.{err_from_is_err_and}
use Rattle.flow_types.specs.Mapped.{setting_of}
use Rattle.flow_types.specs.Assigned.{HoldsValue}
use Rattle.flow_types.proofs.Each.{made_more, made_ends}
use Rattle.flow_types.proofs.mapped.settings_of.Goals as goal

pub returns-in_err-setting-clause-made : goal.returns-in_err-setting-clause-made
returns-in_err-setting-clause-made c =
    let p = err_from_is_err_and c.from_residual.result c.from_residual.ensures.1 in
    rw (p.1, p.2)
    (made_ends (setting_of c.args.input.now) c.args.texts.now c.loop-text.text-index c.text-item.result c.loop-text-test.true c.text-item.is c.loop-text.settings.items c.loop-text.invariant.made c.in_err-setting.field-0.0 c.in_err-setting.ensures.made)

pub loop-text-preserved : goal.loop-text-preserved
loop-text-preserved c = record {
  made = rw c.in_ok-push.ensures.items
      (made_more (setting_of c.args.input.now) c.args.texts.now c.loop-text.text-index c.text-item.result c.loop-text-test.true c.text-item.is c.loop-text.settings.items c.loop-text.invariant.made c.in_ok-setting.setting c.in_ok-setting.ensures.made);
  hold = rw c.in_ok-push.ensures.items
      (All-push (λ s. HoldsValue c.args.input.now s.value s.column) c.loop-text.settings.items c.in_ok-setting.setting c.loop-text.invariant.hold c.in_ok-setting.ensures.holds);
}
