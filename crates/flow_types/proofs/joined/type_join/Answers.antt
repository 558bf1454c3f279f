use Rattle.std.proofs.Common.{◌≡◌, ◌≤◌, length, refl, sym, ap, ◌∙◌, subst, Ok}
use Rattle.std.proofs.lemmas.Result.{err_from_is_err_and}
use Rattle.tuple_schema.specs.Schemas.{IsSchema}
use Rattle.flow_types.specs.Paired.{lefts, rights, pairs_of}
use Rattle.flow_types.specs.Joined.{ArePairs, join_columns}
use Rattle.flow_types.proofs.Pairs.{are_pairs, join_schema, join_typed, join_fails}
use Rattle.flow_types.proofs.joined.type_join.Goals as goal

pub returns-in_err-columns-2-clause-typed : goal.returns-in_err-columns-2-clause-typed
returns-in_err-columns-2-clause-typed c =
    let left = c.args.left.now in
    let right = c.args.right.now in
    let pairs = c.in_ok-pairs.pairs.items in
    let cols : c.in_ok-rights.rights.items ≡ rights pairs = c.in_ok-rights.ensures ∙ ap rights c.deref-2.ensures.value in
    let columns : c.in_ok-columns.columns.items ≡ join_columns left right (rights pairs) =
    rw (c.columns-3.ensures.same, c.columns-4.ensures.same, c.deref-3.ensures.value, cols) at c.in_ok-columns.ensures in
    let made : pairs_of left right c.args.texts.now ≡ Ok pairs = rw (c.columns.ensures.same, c.columns-2.ensures.same) at c.in_ok-pairs.ensures.pairs in
    let p = err_from_is_err_and c.from_residual-in_err-columns-2.result c.from_residual-in_err-columns-2.ensures.1 in
    let failed = rw columns at c.in_err-columns-2.ensures.only in
    rw (p.1, p.2) (join_fails c.args.texts.now left right pairs made c.in_err-columns-2.field-0.0 failed)

pub of-requires-3 : goal.of-requires-3
of-requires-3 c =
    let left = c.args.left.now in
    let right = c.args.right.now in
    let pairs = c.in_ok-pairs.pairs.items in
    let cols : c.in_ok-rights.rights.items ≡ rights pairs = c.in_ok-rights.ensures ∙ ap rights c.deref-2.ensures.value in
    let columns : c.in_ok-columns.columns.items ≡ join_columns left right (rights pairs) =
    rw (c.columns-3.ensures.same, c.columns-4.ensures.same, c.deref-3.ensures.value, cols) at c.in_ok-columns.ensures in
    let same = c.in_ok-columns-2.ensures.same ∙ columns in
    let few : length (join_columns left right (rights pairs)) ≤ 64 = rw same at c.in_ok-columns-2.ensures.few in
    let fine = rw same at c.in_ok-columns-2.ensures.distinct in
    subst IsSchema (sym same) (join_schema left right c.columns.ensures.schema c.columns-2.ensures.schema (rights pairs) few fine)

pub returns-clause-typed : goal.returns-clause-typed
returns-clause-typed c =
    let left = c.args.left.now in
    let right = c.args.right.now in
    let pairs = c.in_ok-pairs.pairs.items in
    let cols : c.in_ok-rights.rights.items ≡ rights pairs = c.in_ok-rights.ensures ∙ ap rights c.deref-2.ensures.value in
    let columns : c.in_ok-columns.columns.items ≡ join_columns left right (rights pairs) =
    rw (c.columns-3.ensures.same, c.columns-4.ensures.same, c.deref-3.ensures.value, cols) at c.in_ok-columns.ensures in
    let made : pairs_of left right c.args.texts.now ≡ Ok pairs = rw (c.columns.ensures.same, c.columns-2.ensures.same) at c.in_ok-pairs.ensures.pairs in
    let one : c.of.result ≡ lefts pairs = c.of.ensures ∙ (c.in_ok-lefts.ensures ∙ ap lefts c.deref.ensures.value) in
    let two : c.of-2.result ≡ rights pairs = c.of-2.ensures ∙ cols in
    let only = rw columns at c.in_ok-columns-2.ensures.only in
    rw (one, two, c.of-3.ensures) (join_typed c.args.texts.now left right pairs made c.in_ok-columns-2.columns.items only)

pub returns-clause-over : goal.returns-clause-over
returns-clause-over c =
    let left = c.args.left.now in
    let right = c.args.right.now in
    let pairs = c.in_ok-pairs.pairs.items in
    let cols : c.in_ok-rights.rights.items ≡ rights pairs = c.in_ok-rights.ensures ∙ ap rights c.deref-2.ensures.value in
    let columns : c.in_ok-columns.columns.items ≡ join_columns left right (rights pairs) =
    rw (c.columns-3.ensures.same, c.columns-4.ensures.same, c.deref-3.ensures.value, cols) at c.in_ok-columns.ensures in
    let are : ArePairs left right (lefts pairs) (rights pairs) =
    are_pairs left right pairs (rw (c.columns.ensures.same, c.columns-2.ensures.same) at c.in_ok-pairs.ensures.agree) in
    let one : c.of.result ≡ lefts pairs = c.of.ensures ∙ (c.in_ok-lefts.ensures ∙ ap lefts c.deref.ensures.value) in
    let two : c.of-2.result ≡ rights pairs = c.of-2.ensures ∙ cols in
    let three = c.of-3.ensures ∙ (c.in_ok-columns-2.ensures.same ∙ columns) ∙ ap (join_columns left right) (sym two) in
    (refl, rw (one, two) are, three)
