use Rattle.std.proofs.Common.{◌≡◌, ◌<◌, ◌∙◌, ℕ, length, map, All, Vec, Global, ap, subst}
use Rattle.std.proofs.lemmas.Result.{IfOk-weaker}
use Rattle.std.proofs.lemmas.Simd.{map-map}
use Rattle.tuple_schema.specs.Schemas.{Fits}
use Rattle.tuple_schema.specs.Tuples.{part}
use Rattle.list_algebra.specs.Groups.{groups}
use Rattle.list_algebra.specs.Joins.{below}
use Rattle.list_algebra.specs.Keys.{parts}
use Rattle.list_algebra.specs.Sorting.{ascending}
use Rattle.kind_laws.specs.Indexes.{row_at}
use Rattle.kind_laws.specs.Grouping.{group_at}
use Rattle.kind_laws.proofs.GroupsSorted.{groups_ascend, of_both}
use Rattle.kind_laws.proofs.aggregating.by_key.Goals as goal

pub returns-clause-order : goal.returns-clause-order
returns-clause-order c =
    let by = c.args.by.now in
    let rows = c.args.rows.now.rows in
    let first = c.in_ok-first_rows.first_rows.rows in
    let are : parts by first ≡ groups by rows =
    ap (parts by) c.in_ok-first_rows.ensures.rows ∙ map-map (λ t. part t by) (row_at rows) c.args.firsts.now ∙ c.requires.groups in
    let fit : All (Fits c.args.rows.now.columns) first = subst (λ cs. All (Fits cs) first) c.in_ok-first_rows.ensures.columns c.rows_fit.ensures in
    IfOk-weaker c.in_order.result
    (λ (numbers : Vec ℕ Global). (map (row_at first) numbers.items ≡ ascending by first) × All (λ n. n < length first) numbers.items)
    (λ (numbers : Vec ℕ Global). map (group_at by rows) numbers.items ≡ ascending (below (length by)) (groups by rows))
    (λ (numbers : Vec ℕ Global) both. groups_ascend c.args.rows.now.columns by c.requires.within rows first fit are numbers.items both.0 both.1)
    (of_both c.in_order.result (λ (numbers : Vec ℕ Global). map (row_at first) numbers.items ≡ ascending by first)
    (λ (numbers : Vec ℕ Global). All (λ n. n < length first) numbers.items) c.in_order.ensures.order c.in_order.ensures.within)
