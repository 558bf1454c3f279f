use Rattle.std.proofs.Common.{◌≡◌, ◌∙◌, ◌++◌, ◌<◌, length, ap}
use Rattle.std.proofs.lemmas.List.Elements.{All-append, All-same}
use Rattle.list_algebra.specs.Joins.{others}
use Rattle.kind_laws.proofs.Joined.{others_within}
use Rattle.kind_laws.proofs.sorting.sort.Goals as goal

pub in_order-requires : goal.in_order-requires
in_order-requires c =
    let count = length c.args.rows.now.columns in
    let by = c.args.by.now in
    let columns = ap length (c.columns.ensures.same ∙ c.schema.ensures) in
    let cols : c.deref.result.now ≡ by ++ others count by =
    c.deref.ensures.value ∙ c.in_ok-cols.ensures ∙ ap (λ n. by ++ others n by) columns in
    All-same (λ place. place < count) _ _ cols (All-append (λ place. place < count) by (others count by) c.requires.within (others_within count by))
