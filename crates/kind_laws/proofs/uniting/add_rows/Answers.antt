use Rattle.std.proofs.Common.{◌∙◌, ◌<◌, ◌++◌, ◌∷◌, [], length, take, sym, ap, subst, arith}
use Rattle.std.proofs.lemmas.List.{take_more, append_assoc}
use Rattle.std.proofs.lemmas.Option.{get_or_from_slice_get}
use Rattle.tuple_schema.specs.Schemas.{Fits}
use Rattle.kind_laws.proofs.uniting.add_rows.Goals as goal

pub push_view-requires : goal.push_view-requires
push_view-requires c = record {
  fits = subst (λ columns. Fits columns c.row.result) (sym c.loop-number.invariant.columns) (c.requires.fits c.row.result c.row.ensures.fits);
}

pub loop-number-preserved : goal.loop-number-preserved
loop-number-preserved c =
    let rows = c.args.rows.now.rows in
    let number = c.loop-number.number in
    let small : number < length rows = omega (arith, c.len-number-end.ensures.len, c.loop-number-test.true) in
    let is = get_or_from_slice_get rows number c.row.result [] c.row.ensures.row in
    record {
      columns = c.in_ok-push_view.ensures.columns ∙ c.loop-number.invariant.columns;
      rows = c.in_ok-push_view.ensures.ok ∙ ap (λ rs. rs ++ c.row.result ∷ []) c.loop-number.invariant.rows
          ∙ append_assoc c.args.made.now.rows (take number rows) (c.row.result ∷ [])
          ∙ ap (λ rs. c.args.made.now.rows ++ rs) (ap (λ r. take number rows ++ r ∷ []) (sym is) ∙ sym (take_more rows number [] small));
    }
