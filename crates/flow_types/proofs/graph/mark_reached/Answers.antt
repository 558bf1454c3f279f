use Rattle.std.proofs.Common.{◌≡◌, ◌<◌, ℕ, sym, length, get_or, false, arith}
use Rattle.std.proofs.lemmas.List.{get_or-replicate}
use Rattle.flow_types.proofs.Reached.{marks_are, refilled}
use Rattle.flow_types.proofs.graph.mark_reached.Goals as goal

pub returns-clause-reached : goal.returns-clause-reached
returns-clause-reached c =
    let marks = c.reach.new.reached in
    let before = c.deref_mut.result.now in
    let kept : length marks ≡ c.in_ok-reached.reached.len = omega (arith, c.reach.ensures.len, c.deref_mut.ensures.len) in
    let unmarked : (k : ℕ) → k < length c.args.links.now → get_or before k false ≡ false = λ k h. rw (c.deref_mut.ensures.value, c.in_ok-reached.ensures.items_if_clones_equal (λ y same. same)) (get_or-replicate (length c.args.links.now) k false false h) in
    λ place h. rw (refilled c.in_ok-reached.reached.len marks c.in_ok-reached.reached.items kept)
    (sym (marks_are before marks _ place (unmarked place h) (c.reach.ensures.marked place)))
