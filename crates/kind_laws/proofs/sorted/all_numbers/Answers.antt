use Rattle.std.proofs.Common.{◌∙◌, ◌++◌, [], ◌∷◌, sym, ap}
use Rattle.kind_laws.proofs.Numbered.{below_more, below_none}
use Rattle.kind_laws.proofs.sorted.all_numbers.Goals as goal

pub loop-number-init : goal.loop-number-init
loop-number-init c = c.new-numbers.ensures.items ∙ sym below_none

pub loop-number-preserved : goal.loop-number-preserved
loop-number-preserved c =
    c.in_ok-push.ensures.items ∙ ap (λ ns. ns ++ c.loop-number.number ∷ []) c.loop-number.invariant ∙ sym (below_more c.loop-number.number)
