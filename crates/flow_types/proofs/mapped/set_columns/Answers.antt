use Rattle.std.proofs.Common.{◌++◌, [], ◌∷◌, map, take, ap, sym, ◌∙◌, append_assoc, append-nil}
use Rattle.std.specs.List.{filter}
use Rattle.flow_types.specs.Names.{names_in}
use Rattle.flow_types.specs.Mapped.{replaced, columns_set, is_new}
use Rattle.flow_types.proofs.SetNames.{new_more}
use Rattle.flow_types.proofs.mapped.set_columns.Goals as goal

pub loop-setting-init : goal.loop-setting-init
loop-setting-init c = c.in_ok-columns.ensures ∙ sym (append-nil (map (replaced c.args.settings.now) c.args.input.now))

pub loop-setting-preserved : goal.loop-setting-preserved
loop-setting-preserved c =
    let names = names_in c.args.input.now in
    let settings = c.args.settings.now in
    let setting = c.setting-item.result in
    let pushed = rw (c.deref.ensures.value, c.in_ok-names.ensures) at c.in_ok-push_new.ensures in
    pushed ∙ ap (λ cs. cs ++ columns_set (filter (is_new names) (setting ∷ []))) c.loop-setting.invariant
    ∙ append_assoc (map (replaced settings) c.args.input.now) (columns_set (filter (is_new names) (take c.loop-setting.setting-index settings))) (columns_set (filter (is_new names) (setting ∷ [])))
    ∙ ap (λ cs. map (replaced settings) c.args.input.now ++ cs) (sym (new_more names settings c.loop-setting.setting-index setting c.loop-setting-test.true c.setting-item.is))
