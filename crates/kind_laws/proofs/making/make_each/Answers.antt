use Rattle.std.proofs.Common.{◌≡◌, ◌∙◌, ℕ, ◌<◌, [], length, get_or, refl, sym, subst, arith}
use Rattle.std.proofs.lemmas.List.{length-set}
use Rattle.std.proofs.lemmas.Option.{get_or_from_slice_get, slice_get_within}
use Rattle.kind_laws.specs.Accumulators.{Stands, StandFor, ReadsWithin, first_rows_of, rows_of}
use Rattle.kind_laws.proofs.MakingRows.{no_rows_of, group_within, group_stands, stand_more}
use Rattle.kind_laws.proofs.MakingValues.{value_made}
use Rattle.kind_laws.proofs.making.make_each.Goals as goal

pub loop-number-init : goal.loop-number-init
loop-number-init c = record {
  count = c.in_ok-each.ensures.count;
  stand = λ group held at.
      let within : group < length c.in_ok-each.each.items = slice_get_within c.in_ok-each.each.items group held at in
      let same : get_or c.in_ok-each.each.items group held ≡ held = get_or_from_slice_get c.in_ok-each.each.items group held held at in
      subst (Stands c.args.make.now.what c.args.make.now.column c.args.rows.now.rows held) (sym (no_rows_of c.args.group_of.now c.args.rows.now.rows group))
      (subst (λ h. Stands c.args.make.now.what c.args.make.now.column c.args.rows.now.rows h []) same
      (c.in_ok-each.ensures.each c.args.make.now.column c.args.rows.now.rows group held within));
}

module _ (c : goal.After-with-arg-1) where
  stands : Stands c.args.make.now.what c.args.make.now.column c.args.rows.now.rows c.index.result.now
      (first_rows_of c.args.group_of.now c.args.rows.now.rows c.loop-number.number (get_or c.args.group_of.now c.loop-number.number 0))
  stands =
      let small : c.loop-number.number < length c.args.group_of.now = omega (arith, c.len-number-end.ensures.len, c.loop-number-test.true, c.requires.pairs) in
      group_stands c.args.group_of.now c.args.count c.loop-number.number c.loop-number.each.items c.loop-number.invariant.count c.requires.groups small
      c.args.make.now.what c.args.make.now.column c.args.rows.now.rows c.index.result.now c.index.ensures c.loop-number.invariant.stand

pub with-requires-clause-column : goal.with-requires-clause-column
with-requires-clause-column c =
    subst (λ what. ReadsWithin (length c.args.rows.now.columns) what c.args.make.now.column) (sym (stands c).is_for) c.requires.column

pub with-requires-clause-within : goal.with-requires-clause-within
with-requires-clause-within c = (stands c).within

pub loop-number-preserved : goal.loop-number-preserved
loop-number-preserved c =
    let group : ℕ = get_or c.args.group_of.now c.loop-number.number 0 in
    let small : c.loop-number.number < length c.args.group_of.now = omega (arith, c.len-number-end.ensures.len, c.loop-number-test.true, c.requires.pairs) in
    let stands = group_stands c.args.group_of.now c.args.count c.loop-number.number c.loop-number.each.items c.loop-number.invariant.count c.requires.groups small
    c.args.make.now.what c.args.make.now.column c.args.rows.now.rows c.index.result.now c.index.ensures c.loop-number.invariant.stand in
    let within = group_within c.args.group_of.now c.args.count c.loop-number.number c.loop-number.each.items c.loop-number.invariant.count c.requires.groups small in
    record {
      count = length-set c.loop-number.each.items group c.with.result ∙ c.loop-number.invariant.count;
      stand = stand_more c.args.make.now.what c.args.make.now.column c.args.rows.now.rows c.args.group_of.now c.loop-number.number group c.loop-number.each.items
          c.with.result refl within c.loop-number.invariant.stand (c.with.ensures c.args.make.now.what _ stands);
    }

pub returns-clause-each : goal.returns-clause-each
returns-clause-each c =
    let all : c.loop-number.number ≡ length c.args.rows.now.rows = omega (arith, c.len-number-end.ensures.len, c.loop-number-test.false) in
    subst (λ n. StandFor c.args.make.now.what c.args.make.now.column c.args.rows.now.rows c.args.group_of.now n c.loop-number.each.items) all
    c.loop-number.invariant.stand

pub returns-clause-values : goal.returns-clause-values
returns-clause-values c = λ group held at.
    let all : c.loop-number.number ≡ length c.args.rows.now.rows = omega (arith, c.len-number-end.ensures.len, c.loop-number-test.false) in
    value_made c.args.make.now.what c.args.make.now.column c.args.rows.now.rows held (rows_of c.args.group_of.now c.args.rows.now.rows group)
    (subst (λ n. Stands c.args.make.now.what c.args.make.now.column c.args.rows.now.rows held (first_rows_of c.args.group_of.now c.args.rows.now.rows n group)) all
    (c.loop-number.invariant.stand group held at))
