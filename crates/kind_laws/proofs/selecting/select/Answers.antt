use Rattle.std.proofs.Common.{◌≡◌, ℕ, ◌+◌, ◌<◌, ◌++◌, [], ◌∷◌, List, length, take, Some, Bool, true, false, slice_get, get_or, cond, sym, ap, ◌∙◌, arith}
use Rattle.std.specs.List.{filter}
use Rattle.std.proofs.lemmas.List.{append-nil}
use Rattle.std.proofs.lemmas.List.Elements.{filter_more}
use Rattle.std.proofs.lemmas.Option.{get_or_from_slice_get}
use Rattle.tuple_schema.specs.declared.value.Value.{Value}
use Rattle.row_batch.specs.Packing.{BatchOf}
use Rattle.expr_lang.specs.Trees.{tree_of}
use Rattle.expr_lang.specs.Values.{truth_of}
use Rattle.kind_laws.specs.Expressions.{is_true}
use Rattle.kind_laws.proofs.selecting.select.Goals as goal
use Rattle.kind_laws.proofs.selecting.select.Goals.{then-branch+in_ok-push_view, else-branch}

-- what is kept of one row more
module _ (keeps : List Value → Bool) (rows : List (List Value)) (number : ℕ) (row : List Value) (small : number < length rows) (there : slice_get rows number ≡ Some row) where
  kept_more : filter keeps (take (number + 1) rows) ≡ filter keeps (take number rows) ++ cond (keeps row) (row ∷ []) []
  kept_more =
      let is : get_or rows number [] ≡ row = get_or_from_slice_get rows number row [] there in
      filter_more keeps rows number [] small ∙ ap (λ r. filter keeps (take number rows) ++ cond (keeps r) (r ∷ []) []) is

  kept_one : keeps row ≡ true → filter keeps (take (number + 1) rows) ≡ filter keeps (take number rows) ++ row ∷ []
  kept_one is = kept_more ∙ ap (λ b. filter keeps (take number rows) ++ cond b (row ∷ []) []) is

  kept_none : keeps row ≡ false → filter keeps (take (number + 1) rows) ≡ filter keeps (take number rows)
  kept_none is = kept_more ∙ ap (λ b. filter keeps (take number rows) ++ cond b (row ∷ []) []) is ∙ append-nil _

pub loop-number-preserved : goal.loop-number-preserved
loop-number-preserved c =
    let test : List Value → Bool = λ row. is_true (truth_of c.args.rows.now.columns row (tree_of c.args.test.now)) in
    let small : c.loop-number.number < length c.args.rows.now.rows = omega (arith, c.len-number-end.ensures.len, c.loop-number-test.true) in
    let found : c.in_ok-is_true.field-0 ≡ test c.row-row.result =
    c.in_ok-is_true.ensures ∙ ap (λ cs. is_true (truth_of cs c.row-row.result (tree_of c.args.test.now))) c.schema-schema.ensures in
    elim c.if-branch.branch [
      | then-branch+in_ok-push_view w ↦
          let passes : test c.row-row.result ≡ true = sym found ∙ w.if-branch.true in
          record {
            columns = ap (λ (b : BatchOf). b.columns) w.kept-is ∙ w.in_ok-push_view.ensures.columns ∙ c.loop-number.invariant.columns;
            rows = ap (λ (b : BatchOf). b.rows) w.kept-is ∙ w.in_ok-push_view.ensures.ok ∙ ap (λ rs. rs ++ c.row-row.result ∷ []) c.loop-number.invariant.rows
                ∙ sym (kept_one test c.args.rows.now.rows c.loop-number.number c.row-row.result small c.row-row.ensures.row passes);
          }
      | else-branch w ↦
          let fails : test c.row-row.result ≡ false = sym found ∙ w.if-branch.false in
          record {
            columns = ap (λ (b : BatchOf). b.columns) w.kept-is ∙ c.loop-number.invariant.columns;
            rows = ap (λ (b : BatchOf). b.rows) w.kept-is ∙ c.loop-number.invariant.rows
                ∙ sym (kept_none test c.args.rows.now.rows c.loop-number.number c.row-row.result small c.row-row.ensures.row fails);
          }
    ]
