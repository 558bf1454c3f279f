use Rattle.std.proofs.Common.{◌≡◌, rules, subst}
use Rattle.std.proofs.lemmas.List.Sorted.{ranks_by}
use Rattle.std.specs.List.Sorted.{IsPermutation, IsStableBy}
use Rattle.std.proofs.lemmas.Fn.{always_returns_same}
use Rattle.kind_laws.specs.Indexes.{comes_before, given_rows, key_at}
use Rattle.kind_laws.proofs.Keyed.{keys_total}
use Rattle.kind_laws.proofs.sorted.index_of.Goals as goal

pub returns : goal.returns
returns c =
    let before = comes_before c.args.cols.now c.args.rows.now.rows in
    let order = ranks_by keys_total (key_at c.args.cols.now c.args.rows.now.rows) in
    let from : c.in_ok-numbers.numbers.items ≡ given_rows c.args.cols.now c.args.rows.now.rows = c.in_ok-numbers.ensures in
    record {
      all = subst (λ ns. IsPermutation ns c.sort_by.new.self.items) from c.in_ok-sort_by.ensures.permutation;
      sorted = c.in_ok-sort_by.ensures.sorted before order (always_returns_same _ _ _ (λ a r f k. search rules));
      stable = subst (λ ns. IsStableBy before ns c.sort_by.new.self.items) from
          (c.in_ok-sort_by.ensures.stable before order (always_returns_same _ _ _ (λ a r f k. search rules)));
    }
