use Rattle.std.proofs.Common.{◌++◌, [], ◌∷◌, filter_map, slice_get, sym, ap, ◌∙◌}
use Rattle.std.specs.List.{filter}
use Rattle.flow_types.proofs.Pairs.{is_other, no_others, others_more}
use Rattle.flow_types.proofs.joined.other_columns.Goals as goal

pub loop-place-init : goal.loop-place-init
loop-place-init c = c.new-columns.ensures.items ∙ no_others c.args.right.now c.args.cols.now

pub loop-place-preserved : goal.loop-place-preserved
loop-place-preserved c =
    let right = c.args.right.now in
    let cols = c.args.cols.now in
    c.in_ok-push_other.ensures
    ∙ ap (λ cs. cs ++ filter_map (slice_get right) (filter (is_other cols) (c.loop-place.place ∷ []))) c.loop-place.invariant
    ∙ sym (others_more right cols c.loop-place.place)
