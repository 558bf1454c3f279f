use Rattle.std.proofs.Common.{◌≡◌, ◌∙◌, ℕ, length, get_or, Option, Some, Bool, true, false, is_le, is_gt, refl, subst, sym, arith}
use Rattle.std.specs.declared.cmp.Ordering.{Ordering}
use Rattle.std.specs.declared.cmp.Ordering.TheVariants.{Less, Equal, Greater}
use Rattle.std.proofs.lemmas.List.Sums.{prefix_len_is}
use Rattle.tuple_schema.specs.Tuples.{part}
use Rattle.list_algebra.specs.Bags.{Tuple}
use Rattle.kind_laws.specs.Indexes.{compare_keys, key_at}
use Rattle.kind_laws.proofs.matching.run_length.Goals as goal

gt_not_le : (r : Ordering) → is_gt r ≡ true → is_le r ≡ false
gt_not_le Less h = absurd cc
gt_not_le Equal h = absurd cc
gt_not_le Greater h = refl

pub returns-then-is_gt : goal.returns-then-is_gt
returns-then-is_gt c =
    let k : Option Tuple = Some (part c.args.left.now c.args.cols_left.now) in
    let upto : ℕ → Bool = λ n. is_le (compare_keys (key_at c.args.cols_right.now c.args.rights.now.rows n) k) in
    let comes : is_gt c.compare_to.result ≡ true = sym c.is_gt.ensures ∙ c.if-is_gt.true in
    let stops : upto (get_or c.args.numbers.now c.loop-i.i 0) ≡ false = subst (λ r. is_le r ≡ false) c.compare_to.ensures (gt_not_le c.compare_to.result comes) in
    sym (prefix_len_is upto c.args.numbers.now c.loop-i.i 0 (omega (arith, c.loop-i-test.true)) c.loop-i.invariant (λ small. stops))

pub returns : goal.returns
returns c =
    let k : Option Tuple = Some (part c.args.left.now c.args.cols_left.now) in
    let upto : ℕ → Bool = λ n. is_le (compare_keys (key_at c.args.cols_right.now c.args.rights.now.rows n) k) in
    sym (prefix_len_is upto c.args.numbers.now (length c.args.numbers.now) 0 (omega arith)
    (λ n small. c.loop-i.invariant n (omega (arith, small, c.loop-i-test.false))) (λ small. absurd (omega (arith, small))))
