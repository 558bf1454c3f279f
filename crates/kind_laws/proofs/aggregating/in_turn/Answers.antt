use Rattle.std.proofs.Common.{◌≡◌, ◌<◌, ◌∙◌, ℕ, List, length, map, All, Vec, Global, ap, sym, subst}
use Rattle.std.proofs.lemmas.Result.{IfOk-weaker}
use Rattle.list_algebra.specs.Groups.{groups}
use Rattle.list_algebra.specs.Joins.{below}
use Rattle.flow_types.specs.declared.node.GroupOrder.{GroupOrder}
use Rattle.kind_laws.specs.Grouping.{group_at}
use Rattle.kind_laws.specs.Makes.{ordered}
use Rattle.kind_laws.proofs.Numbered.{All-below}
use Rattle.kind_laws.proofs.GroupsHeld.{groups_in_turn}
use Rattle.kind_laws.proofs.aggregating.in_turn.Goals as goal

pub returns-in-First-clause-order : goal.returns-in-First-clause-order
returns-in-First-clause-order c =
    let by = c.args.by.now in
    let rows = c.args.rows.now.rows in
    let firsts : List ℕ = c.args.firsts.now in
    IfOk-weaker c.all_numbers.result (λ (numbers : Vec ℕ Global). numbers.items ≡ below (length firsts))
    (λ (numbers : Vec ℕ Global). map (group_at by rows) numbers.items ≡ ordered c.args.order (length by) (groups by rows))
    (λ (numbers : Vec ℕ Global) are. subst (λ (o : GroupOrder). map (group_at by rows) numbers.items ≡ ordered o (length by) (groups by rows)) (sym c.in-First.is)
    (ap (map (group_at by rows)) are ∙ groups_in_turn by rows firsts c.requires.groups))
    c.all_numbers.ensures

pub returns-in-First-clause-within : goal.returns-in-First-clause-within
returns-in-First-clause-within c =
    let firsts : List ℕ = c.args.firsts.now in
    IfOk-weaker c.all_numbers.result (λ (numbers : Vec ℕ Global). numbers.items ≡ below (length firsts))
    (λ (numbers : Vec ℕ Global). All (λ g. g < length firsts) numbers.items)
    (λ (numbers : Vec ℕ Global) are. subst (All (λ g. g < length firsts)) (sym are) (All-below (length firsts)))
    c.all_numbers.ensures
