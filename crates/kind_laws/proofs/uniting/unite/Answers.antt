use Rattle.std.proofs.Common.{◌≡◌, ◌∙◌, ℕ, ◌+◌, ◌<◌, ◌++◌, ◌∷◌, [], List, length, map, take, get_or, sym, ap, subst}
use Rattle.std.proofs.lemmas.List.{flat_map_more, get_or-map, length-map, map_more}
use Rattle.list_algebra.specs.Bags.{Tuple}
use Rattle.list_algebra.specs.Unions.{appended}
use Rattle.row_batch.specs.Packing.{BatchOf}
use Rattle.kind_laws.specs.Fitting.{FitInto}
use Rattle.kind_laws.proofs.uniting.unite.Goals as goal

pub add_rows-requires : goal.add_rows-requires
add_rows-requires c =
    let inputs = c.args.inputs.now in
    let i = c.loop-input.input-index in
    let one = c.input-item.result in
    let small = c.loop-input-test.true in
    let fit = c.requires.fits i one.columns (rw length-map small) in
    let columns : get_or (map (λ (b : BatchOf). b.columns) inputs) i one.columns ≡ one.columns =
    get_or-map (λ (b : BatchOf). b.columns) inputs i one one.columns small ∙ ap (λ (b : BatchOf). b.columns) (sym c.input-item.is) in
    record { fits = subst (FitInto one.columns) (sym c.loop-input.invariant.columns) (subst (λ input. FitInto input c.args.columns.now) columns fit) }

-- the rows of one input more
one_more : (inputs : List BatchOf) (i : ℕ) (one : BatchOf) → i < length inputs → one ≡ get_or inputs i one
    → appended (map (λ (b : BatchOf). b.rows) (take i inputs)) ++ one.rows ≡ appended (map (λ (b : BatchOf). b.rows) (take (i + 1) inputs))
one_more inputs i one small is =
    let rows : BatchOf → List Tuple = λ b. b.rows in
    flat_map_more (λ rs. rs) [] (map rows (take i inputs)) one.rows
    ∙ ap appended (ap (λ (b : BatchOf). map rows (take i inputs) ++ b.rows ∷ []) is ∙ sym (map_more rows inputs i one small))

pub loop-input-preserved : goal.loop-input-preserved
loop-input-preserved c = record {
  columns = c.in_ok-add_rows.ensures.columns ∙ c.loop-input.invariant.columns;
  rows = c.in_ok-add_rows.ensures.rows ∙ ap (λ rs. rs ++ c.input-item.result.rows) c.loop-input.invariant.rows
      ∙ one_more c.args.inputs.now c.loop-input.input-index c.input-item.result c.loop-input-test.true c.input-item.is;
}
