use Rattle.std.proofs.Common.{◌≡◌, ◌∙◌, ◌++◌, [], ◌∷◌, refl, sym, ap, append_assoc, append-nil, arith}
use Rattle.std.proofs.lemmas.Option.{slice_get_within}
use Rattle.tuple_schema.specs.declared.value.Value.TheVariants as value
use Rattle.list_algebra.specs.Joins.{nulls}
use Rattle.kind_laws.proofs.Added.{next_added, no_nulls, nulls_around, nulls_more}
use Rattle.kind_laws.proofs.adding.add_nulls.Goals as goal

pub loop-init : goal.loop-init
loop-init c = record {
  columns = refl;
  rows = refl;
  begun = sym (ap (λ vs. c.args.made.now.begun ++ vs) no_nulls ∙ append-nil _);
}

pub add-requires-clause-next : goal.add-requires-clause-next
add-requires-clause-next c =
    let around = nulls_around c.args.count c.loop.counter c.loop-test.true in
    let column = next_added c.args.made.now.columns c.args.made.now.begun (nulls c.args.count) (nulls c.loop.counter) (nulls around.0) value.Null c.requires.fits around.1 in
    rw (c.loop.invariant.columns, c.loop.invariant.begun) (slice_get_within _ _ column.0 column.1)

pub add-requires-clause-fits : goal.add-requires-clause-fits
add-requires-clause-fits c =
    let around = nulls_around c.args.count c.loop.counter c.loop-test.true in
    let column = next_added c.args.made.now.columns c.args.made.now.begun (nulls c.args.count) (nulls c.loop.counter) (nulls around.0) value.Null c.requires.fits around.1 in
    rw (c.loop.invariant.columns, c.loop.invariant.begun, column.1) column.2

pub loop-preserved : goal.loop-preserved
loop-preserved c = record {
  columns = c.in_ok-add.ensures.columns ∙ c.loop.invariant.columns;
  rows = c.in_ok-add.ensures.rows ∙ c.loop.invariant.rows;
  begun = c.in_ok-add.ensures.ok ∙ ap (λ vs. vs ++ value.Null ∷ []) c.loop.invariant.begun
      ∙ append_assoc c.args.made.now.begun (nulls c.loop.counter) (value.Null ∷ [])
      ∙ ap (λ vs. c.args.made.now.begun ++ vs) (sym (nulls_more c.loop.counter));
}

pub returns-clause-begun : goal.returns-clause-begun
returns-clause-begun c =
    let all : c.loop.counter ≡ c.args.count = omega (arith, c.loop-test.false, c.loop.auto.counter-end) in
    c.loop.invariant.begun ∙ ap (λ n. c.args.made.now.begun ++ nulls n) all
