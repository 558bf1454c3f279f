use Rattle.std.proofs.Common.{◌<◌, ◌++◌, length, option_to_list, sym, ap, ◌∙◌, append_assoc, arith}
use Rattle.std.proofs.lemmas.Option.{get_or_from_slice_get}
use Rattle.tuple_schema.specs.Texts.{head_of}
use Rattle.flow_types.specs.Makes.{made_column}
use Rattle.flow_types.proofs.Groups.{made_next}
use Rattle.flow_types.proofs.grouped.push_made.Goals as goal

pub loop-place-preserved : goal.loop-place-preserved
loop-place-preserved c =
    let input = c.args.input.now in
    let i = c.loop-place.place in
    let text = c.index-texts-place.result in
    let make = c.make_at.result.now in
    let within : i < length c.args.texts.now = omega (arith, c.requires, c.loop-place-test.true) in
    let are = sym (get_or_from_slice_get c.args.makes.now i make make c.make_at.ensures) in
    let next = made_next input c.args.texts.now c.args.makes.now i text make within c.loop-place-test.true c.index-texts-place.is are in
    c.in_ok-push_make.ensures
    ∙ ap (λ cs. cs ++ option_to_list (made_column input (head_of text) make)) c.loop-place.invariant
    ∙ append_assoc c.args.columns.now.items _ _
    ∙ ap (λ cs. c.args.columns.now.items ++ cs) (sym next)
