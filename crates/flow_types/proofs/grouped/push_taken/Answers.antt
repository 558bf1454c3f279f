use Rattle.std.proofs.Common.{ℕ, ◌++◌, option_to_list, slice_get, get_or, sym, ap, ◌∙◌, append_assoc}
use Rattle.std.proofs.lemmas.List.{get_or_default}
use Rattle.flow_types.proofs.Groups.{found_next}
use Rattle.flow_types.proofs.grouped.push_taken.Goals as goal

pub loop-place-preserved : goal.loop-place-preserved
loop-place-preserved c =
    let input = c.args.input.now in
    let places = c.args.places.now in
    let i = c.loop-place.place-index in
    let place : ℕ = get_or places i 0 in
    let next = found_next (slice_get input) places i place c.loop-place-test.true (get_or_default places i 0 place c.loop-place-test.true) in
    c.in_ok-push_column.ensures
    ∙ ap (λ cs. cs ++ option_to_list (slice_get input place)) c.loop-place.invariant
    ∙ append_assoc c.args.columns.now.items _ _
    ∙ ap (λ cs. c.args.columns.now.items ++ cs) (sym next)
