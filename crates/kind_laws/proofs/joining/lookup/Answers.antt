use Rattle.std.proofs.Common.{◌≡◌, ◌∙◌, ◌++◌, [], ◌<◌, length, map, take, sym, ap, subst, arith}
use Rattle.std.proofs.lemmas.List.Elements.{All-same}
use Rattle.std.proofs.lemmas.Option.{get_or_from_slice_get}
use Rattle.tuple_schema.specs.Schemas.{Fits}
use Rattle.list_algebra.specs.Joins.{lookup, lookup_piece, nulls, or_nulls, others, together}
use Rattle.kind_laws.specs.Indexes.{PairsFit, row_at}
use Rattle.kind_laws.proofs.Keyed.{within_row}
use Rattle.kind_laws.proofs.Joined.{pairs_left, pairs_right, pairs_long, others_within, lookup_fits, alone_fits, pieces_more}
use Rattle.kind_laws.proofs.joining.lookup.Goals as goal

pub index_of-requires : goal.index_of-requires
index_of-requires c = pairs_right c.args.left.now.columns c.args.right.now.columns c.args.cols_left.now c.args.cols_right.now c.requires.pairs

pub matching-found-requires-clause-right : goal.matching-found-requires-clause-right
matching-found-requires-clause-right c = pairs_right c.args.left.now.columns c.args.right.now.columns c.args.cols_left.now c.args.cols_right.now c.requires.pairs

pub matching-found-requires-clause-left : goal.matching-found-requires-clause-left
matching-found-requires-clause-left c =
    within_row c.args.left.now.columns c.row-row.result c.args.cols_left.now c.row-row.ensures.fits
    (pairs_left c.args.left.now.columns c.args.right.now.columns c.args.cols_left.now c.args.cols_right.now c.requires.pairs)

pub matching-found-requires-clause-pairs : goal.matching-found-requires-clause-pairs
matching-found-requires-clause-pairs c = pairs_long c.args.left.now.columns c.args.right.now.columns c.args.cols_left.now c.args.cols_right.now c.requires.pairs

pub add_found-requires-clause-rest : goal.add_found-requires-clause-rest
add_found-requires-clause-rest c =
    let columns = ap length (c.columns.ensures.same ∙ c.schema.ensures) in
    let rest : c.deref-in-loop-number.result.now ≡ others (length c.args.right.now.columns) c.args.cols_right.now =
    c.deref-in-loop-number.ensures.value ∙ c.in_ok-rest.ensures ∙ ap (λ n. others n c.args.cols_right.now) columns in
    All-same (λ place. place < length c.args.right.now.columns) _ _ rest (others_within (length c.args.right.now.columns) c.args.cols_right.now)

pub add_found-requires-clause-fits : goal.add_found-requires-clause-fits
add_found-requires-clause-fits c =
    let columns = ap length (c.columns.ensures.same ∙ c.schema.ensures) in
    let rest : c.deref-in-loop-number.result.now ≡ others (length c.args.right.now.columns) c.args.cols_right.now =
    c.deref-in-loop-number.ensures.value ∙ c.in_ok-rest.ensures ∙ ap (λ n. others n c.args.cols_right.now) columns in
    let fit = lookup_fits c.args.left.now.columns c.args.right.now.columns c.args.cols_right.now c.row-row.result c.row-row.ensures.fits in
    subst (λ places. PairsFit c.args.right.now.columns places c.row-row.result c.loop-number.made.columns) (sym rest)
    (subst (PairsFit c.args.right.now.columns (others (length c.args.right.now.columns) c.args.cols_right.now) c.row-row.result)
    (sym (c.loop-number.invariant.columns ∙ c.requires.gives)) fit)

pub add_found-requires-clause-alone : goal.add_found-requires-clause-alone
add_found-requires-clause-alone c =
    let columns = ap length (c.columns.ensures.same ∙ c.schema.ensures) in
    let rest : c.deref-in-loop-number.result.now ≡ others (length c.args.right.now.columns) c.args.cols_right.now =
    c.deref-in-loop-number.ensures.value ∙ c.in_ok-rest.ensures ∙ ap (λ n. others n c.args.cols_right.now) columns in
    let fit = alone_fits c.args.left.now.columns c.args.right.now.columns c.args.cols_right.now c.row-row.result c.row-row.ensures.fits in
    subst (λ places. Fits c.loop-number.made.columns (c.row-row.result ++ nulls (length places))) (sym rest)
    (subst (λ columns. Fits columns (c.row-row.result ++ nulls (length (others (length c.args.right.now.columns) c.args.cols_right.now))))
    (sym (c.loop-number.invariant.columns ∙ c.requires.gives)) fit)

pub loop-number-preserved : goal.loop-number-preserved
loop-number-preserved c =
    let columns = ap length (c.columns.ensures.same ∙ c.schema.ensures) in
    let places = others (length c.args.right.now.columns) c.args.cols_right.now in
    let rest : c.deref-in-loop-number.result.now ≡ others (length c.args.right.now.columns) c.args.cols_right.now =
    c.deref-in-loop-number.ensures.value ∙ c.in_ok-rest.ensures ∙ ap (λ n. others n c.args.cols_right.now) columns in
    let row : row_at c.args.left.now.rows c.loop-number.number ≡ c.row-row.result =
    get_or_from_slice_get c.args.left.now.rows c.loop-number.number c.row-row.result [] c.row-row.ensures.row in
    let small : c.loop-number.number < length c.args.left.now.rows = omega (arith, c.len-number-end.ensures.len, c.loop-number-test.true) in
    let piece = lookup_piece c.args.cols_left.now c.args.cols_right.now places c.args.right.now.rows in
    record {
      columns = c.in_ok-add_found.ensures.columns ∙ c.loop-number.invariant.columns;
      rows = c.in_ok-add_found.ensures.rows
          ∙ ap (λ rs. rs ++ or_nulls c.deref-in-loop-number.result.now c.row-row.result (map (together c.deref-in-loop-number.result.now c.row-row.result) (map (row_at c.args.right.now.rows) c.matching-found.result.now))) c.loop-number.invariant.rows
          ∙ ap (λ rs. lookup c.args.cols_left.now c.args.cols_right.now places c.args.right.now.rows (take c.loop-number.number c.args.left.now.rows)
          ++ or_nulls c.deref-in-loop-number.result.now c.row-row.result (map (together c.deref-in-loop-number.result.now c.row-row.result) rs)) c.matching-found.ensures.rows
          ∙ ap (λ ps. lookup c.args.cols_left.now c.args.cols_right.now places c.args.right.now.rows (take c.loop-number.number c.args.left.now.rows)
          ++ lookup_piece c.args.cols_left.now c.args.cols_right.now ps c.args.right.now.rows c.row-row.result) rest
          ∙ pieces_more piece c.args.left.now.rows c.loop-number.number c.row-row.result small row;
      begun = c.in_ok-add_found.ensures.next;
    }
