use Rattle.std.proofs.Common.{◌≡◌, length, map, rules, subst}
use Rattle.std.proofs.lemmas.List.Sorted.{ranks_by}
use Rattle.std.specs.List.Sorted.{IsPermutation, IsStableBy}
use Rattle.std.proofs.lemmas.Fn.{always_returns_same}
use Rattle.list_algebra.specs.Joins.{below}
use Rattle.kind_laws.specs.Indexes.{comes_before, key_at, row_at}
use Rattle.kind_laws.proofs.Keyed.{keys_total}
use Rattle.kind_laws.proofs.SortedRows.{numbers_within, rows_all, rows_sorted, rows_stable}
use Rattle.kind_laws.proofs.sorted.in_order.Goals as goal

pub returns-clause-order : goal.returns-clause-order
returns-clause-order c =
    let cols = c.args.cols.now in
    let rows = c.args.rows.now.rows in
    let numbers = c.sort_by.new.self.items in
    let before = comes_before cols rows in
    let order = ranks_by keys_total (key_at cols rows) in
    let from : c.in_ok-numbers.numbers.items ≡ below (length rows) = rw (← c.len.ensures.len) c.in_ok-numbers.ensures in
    let all = subst (λ ns. IsPermutation ns numbers) from c.in_ok-sort_by.ensures.permutation in
    c.sort_laws.ensures.only cols rows (map (row_at rows) numbers) (rows_all cols rows numbers all)
    (rows_sorted cols rows numbers all
    (c.in_ok-sort_by.ensures.sorted before order (always_returns_same _ _ _ (λ a r f k. search rules))))
    (rows_stable cols rows numbers all
    (subst (λ ns. IsStableBy before ns numbers) from
    (c.in_ok-sort_by.ensures.stable before order (always_returns_same _ _ _ (λ a r f k. search rules)))))

pub returns-clause-within : goal.returns-clause-within
returns-clause-within c =
    let cols = c.args.cols.now in
    let rows = c.args.rows.now.rows in
    let numbers = c.sort_by.new.self.items in
    let from : c.in_ok-numbers.numbers.items ≡ below (length rows) = rw (← c.len.ensures.len) c.in_ok-numbers.ensures in
    numbers_within cols rows numbers (subst (λ ns. IsPermutation ns numbers) from c.in_ok-sort_by.ensures.permutation)
