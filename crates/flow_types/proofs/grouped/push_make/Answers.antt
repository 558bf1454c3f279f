use Rattle.std.proofs.Common.{◌≡◌, ◌++◌, ◌∷◌, [], refl, append-nil, ap, ◌∙◌}
use Rattle.tuple_schema.specs.Texts.{head_of}
use Rattle.flow_types.specs.Makes.{made_from}
use Rattle.flow_types.proofs.grouped.push_make.Goals as goal

pub returns-in-None : goal.returns-in-None
returns-in-None c = rw (← c.in-None.ensures, append-nil) refl

pub returns-in_ok-push-in-Some : goal.returns-in_ok-push-in-Some
returns-in_ok-push-in-Some c =
    let what = c.args.make.now.what in
    let of = c.in-Some.of.now in
    let made : c.made_from.result ≡ made_from (head_of c.args.text.now) what of = c.made_from.ensures ∙ ap (λ name. made_from name what of) c.in_ok-name-in-Some.ensures in
    rw (← c.in-Some.ensures) (c.in_ok-push-in-Some.ensures.items ∙ ap (λ made. c.args.columns.now.items ++ made ∷ []) made)
