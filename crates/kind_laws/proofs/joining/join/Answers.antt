use Rattle.std.proofs.Common.{◌≡◌, ◌∙◌, ◌++◌, [], ◌<◌, length, map, take, sym, ap, subst, arith}
use Rattle.std.proofs.lemmas.List.Elements.{All-same}
use Rattle.std.proofs.lemmas.Option.{get_or_from_slice_get}
use Rattle.list_algebra.specs.Joins.{join, join_piece, others, together}
use Rattle.kind_laws.specs.Indexes.{PairsFit, row_at}
use Rattle.kind_laws.proofs.Keyed.{within_row}
use Rattle.kind_laws.proofs.Joined.{pairs_left, pairs_right, pairs_long, others_within, join_fits, pieces_more}
use Rattle.kind_laws.proofs.joining.join.Goals as goal

pub index_of-requires : goal.index_of-requires
index_of-requires c = pairs_right c.args.left.now.columns c.args.right.now.columns c.args.cols_left.now c.args.cols_right.now c.requires.pairs

pub matching-found-requires-clause-right : goal.matching-found-requires-clause-right
matching-found-requires-clause-right c = pairs_right c.args.left.now.columns c.args.right.now.columns c.args.cols_left.now c.args.cols_right.now c.requires.pairs

pub matching-found-requires-clause-left : goal.matching-found-requires-clause-left
matching-found-requires-clause-left c =
    within_row c.args.left.now.columns c.row-row.result c.args.cols_left.now c.row-row.ensures.fits
    (pairs_left c.args.left.now.columns c.args.right.now.columns c.args.cols_left.now c.args.cols_right.now c.requires.pairs)

pub matching-found-requires-clause-pairs : goal.matching-found-requires-clause-pairs
matching-found-requires-clause-pairs c = pairs_long c.args.left.now.columns c.args.right.now.columns c.args.cols_left.now c.args.cols_right.now c.requires.pairs

pub add_pairs-requires-clause-rest : goal.add_pairs-requires-clause-rest
add_pairs-requires-clause-rest c =
    let columns = ap length (c.columns.ensures.same ∙ c.schema.ensures) in
    let rest : c.deref-in-loop-number.result.now ≡ others (length c.args.right.now.columns) c.args.cols_right.now =
    c.deref-in-loop-number.ensures.value ∙ c.in_ok-rest.ensures ∙ ap (λ n. others n c.args.cols_right.now) columns in
    All-same (λ place. place < length c.args.right.now.columns) _ _ rest (others_within (length c.args.right.now.columns) c.args.cols_right.now)

pub add_pairs-requires-clause-fits : goal.add_pairs-requires-clause-fits
add_pairs-requires-clause-fits c =
    let columns = ap length (c.columns.ensures.same ∙ c.schema.ensures) in
    let rest : c.deref-in-loop-number.result.now ≡ others (length c.args.right.now.columns) c.args.cols_right.now =
    c.deref-in-loop-number.ensures.value ∙ c.in_ok-rest.ensures ∙ ap (λ n. others n c.args.cols_right.now) columns in
    let fit = join_fits c.args.left.now.columns c.args.right.now.columns c.args.cols_right.now c.row-row.result c.row-row.ensures.fits in
    subst (λ places. PairsFit c.args.right.now.columns places c.row-row.result c.loop-number.made.columns) (sym rest)
    (subst (PairsFit c.args.right.now.columns (others (length c.args.right.now.columns) c.args.cols_right.now) c.row-row.result)
    (sym (c.loop-number.invariant.columns ∙ c.requires.gives)) fit)

pub loop-number-preserved : goal.loop-number-preserved
loop-number-preserved c =
    let columns = ap length (c.columns.ensures.same ∙ c.schema.ensures) in
    let places = others (length c.args.right.now.columns) c.args.cols_right.now in
    let rest : c.deref-in-loop-number.result.now ≡ others (length c.args.right.now.columns) c.args.cols_right.now =
    c.deref-in-loop-number.ensures.value ∙ c.in_ok-rest.ensures ∙ ap (λ n. others n c.args.cols_right.now) columns in
    let row : row_at c.args.left.now.rows c.loop-number.number ≡ c.row-row.result =
    get_or_from_slice_get c.args.left.now.rows c.loop-number.number c.row-row.result [] c.row-row.ensures.row in
    let small : c.loop-number.number < length c.args.left.now.rows = omega (arith, c.len-number-end.ensures.len, c.loop-number-test.true) in
    let piece = join_piece c.args.cols_left.now c.args.cols_right.now places c.args.right.now.rows in
    record {
      columns = c.in_ok-add_pairs.ensures.columns ∙ c.loop-number.invariant.columns;
      rows = c.in_ok-add_pairs.ensures.rows
          ∙ ap (λ rs. rs ++ map (together c.deref-in-loop-number.result.now c.row-row.result) (map (row_at c.args.right.now.rows) c.matching-found.result.now)) c.loop-number.invariant.rows
          ∙ ap (λ rs. join c.args.cols_left.now c.args.cols_right.now places c.args.right.now.rows (take c.loop-number.number c.args.left.now.rows)
          ++ map (together c.deref-in-loop-number.result.now c.row-row.result) rs) c.matching-found.ensures.rows
          ∙ ap (λ ps. join c.args.cols_left.now c.args.cols_right.now places c.args.right.now.rows (take c.loop-number.number c.args.left.now.rows)
          ++ join_piece c.args.cols_left.now c.args.cols_right.now ps c.args.right.now.rows c.row-row.result) rest
          ∙ pieces_more piece c.args.left.now.rows c.loop-number.number c.row-row.result small row;
      begun = c.in_ok-add_pairs.ensures.next;
    }
