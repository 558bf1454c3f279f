use Rattle.std.proofs.Common.{◌≡◌, ◌∙◌, ℕ, ◌<◌, List, length, map, drop, Option, Some, rules, take, Bool, true, false, is_lt, is_le, subst, ap, sym}
use Rattle.std.proofs.lemmas.List.Sorted.{IsPartitionPoint-from_clause}
use Rattle.std.proofs.lemmas.List.{take_rest}
use Rattle.std.specs.List.{prefix_len}
use Rattle.std.specs.List.Sorted.{IsPartitionPoint}
use Rattle.tuple_schema.specs.Tuples.{part}
use Rattle.list_algebra.specs.Bags.{Tuple}
use Rattle.std.proofs.lemmas.List.Elements.{All-filter, All-same}
use Rattle.kind_laws.specs.Indexes.{compare_keys, key_at, row_at}
use Rattle.kind_laws.proofs.Agreeing.{level, run_matches, index_within}
use Rattle.kind_laws.proofs.Keyed.{keys_total}
use Rattle.kind_laws.proofs.Runs.{lower_first, upto_first, prefix_parts, run_is}
use Rattle.kind_laws.proofs.matching.matching.Goals as goal

pub returns : goal.returns
returns c =
    let key : ℕ → Option Tuple = key_at c.args.cols_right.now c.args.rights.now.rows in
    let k : Option Tuple = Some (part c.args.left.now c.args.cols_left.now) in
    let first = c.partition_point-first.result in
    let sorted = c.requires.index.sorted in
    let lower = IsPartitionPoint-from_clause (λ n. is_lt (compare_keys (key n) k)) _ _ c.partition_point-first.ensures.partitioned
    (lower_first keys_total key c.args.index.now k sorted) (λ a r q h. search rules) in
    let count = c.run_length-count.result in
    let upto : ℕ → Bool = λ n. is_le (compare_keys (key n) k) in
    let rest : List ℕ = drop first c.args.index.now in
    let counted : count ≡ prefix_len upto rest = c.run_length-count.ensures ∙ ap (prefix_len upto) (take_rest c.args.index.now first) in
    let upper = subst (IsPartitionPoint (λ n. upto n ≡ true) (λ n. upto n ≡ false) rest) (sym counted)
    (prefix_parts upto rest (upto_first keys_total key c.args.index.now k first sorted)) in
    let run =
    ap (take count) (take_rest c.args.index.now first) ∙ run_is keys_total key c.args.index.now k first count lower upper in
    let rows = c.args.rights.now.rows in
    let within = index_within c.args.cols_right.now rows c.args.index.now c.requires.index in
    record {
      rows = ap (map (row_at rows)) run
          ∙ run_matches c.args.cols_left.now c.args.cols_right.now rows c.args.left.now c.args.index.now c.requires.index;
      within = All-same (λ n. n < length rows) _ _ run
          (All-filter (level c.args.cols_left.now c.args.cols_right.now rows c.args.left.now) (λ n. n < length rows) c.args.index.now within);
    }
