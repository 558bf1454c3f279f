use Rattle.std.proofs.Common.{◌<◌, ◌≤◌, ◌+◌, ◌∙◌, ◌∷◌, ◌++◌, [], sym, ap, length, length-append, arith, refl, Ok}
use Rattle.csv.specs.Records.{fields_of}
use Rattle.csv.proofs.RecordFacts.{field-there}
use Rattle.row_codec.specs.Lending.{mapped}
use Rattle.extractors.proofs.PackLemmas.{begun_none, begun_more, begun_stops, begun_all, value_fits, wrong_record}
use Rattle.extractors.proofs.content.pack_record.Goals as goal

pub returns-then-len-columns-clause-rows : goal.returns-then-len-columns-clause-rows
returns-then-len-columns-clause-rows c =
    ap (mapped (λ tuple. c.args.into.now.rows ++ tuple ∷ [])) (wrong_record _ _ (λ same. c.if-len-columns.true (c.len.ensures ∙ same)))

pub loop-i-init : goal.loop-i-init
loop-i-init c = record {
  so_far = begun_none _ _ _ c.requires.none_begun (sym c.len.ensures ∙ c.if-len-columns.false);
  long = ap length c.requires.none_begun;
  rows = refl;
  columns = c.requires.columns;
}

pub unreachable-requires : goal.unreachable-requires
unreachable-requires c =
    let there : c.loop-i.i < length (fields_of c.args.fields.now) = omega arith in
    field-there _ _ there (sym c.in_default.ensures.value)

pub add-requires-clause-next : goal.add-requires-clause-next
add-requires-clause-next c =
    let same = ap (λ cs. length cs) c.loop-i.invariant.columns in
    omega (arith, same, c.loop-i.invariant.long)

pub add-requires-clause-fits : goal.add-requires-clause-fits
add-requires-clause-fits c =
    rw c.loop-i.invariant.columns (value_fits _ _ _ c.index-columns-i.result _ _ c.loop-i.invariant.long c.loop-i-test.true c.index-columns-i.is c.in-Ok.ensures.value)

pub returns-in-Err-clause-rows : goal.returns-in-Err-clause-rows
returns-in-Err-clause-rows c =
    let there : c.loop-i.i < length (fields_of c.args.fields.now) = omega arith in
    ap (mapped (λ tuple. c.args.into.now.rows ++ tuple ∷ [])) (begun_stops _ _ _ _ c.index-columns-i.result _ _ c.loop-i-test.true there c.index-columns-i.is (sym c.in-Some.ensures.value) c.in-Err.ensures.value c.loop-i.invariant.so_far)

pub loop-i-preserved : goal.loop-i-preserved
loop-i-preserved c =
    let there : c.loop-i.i < length (fields_of c.args.fields.now) = omega arith in
    let added = c.in_ok-add-in-Ok.ensures.ok in
    record {
      so_far = begun_more _ _ _ _ _ c.index-columns-i.result _ _ c.loop-i-test.true there c.index-columns-i.is (sym c.in-Some.ensures.value) c.in-Ok.ensures.value added c.loop-i.invariant.so_far;
      long = ap length added ∙ length-append c.loop-i.into.begun _ ∙ ap (λ n. n + 1) c.loop-i.invariant.long;
      rows = c.add.ensures.rows ∙ c.loop-i.invariant.rows;
      columns = c.add.ensures.columns ∙ c.loop-i.invariant.columns;
    }

pub end_row-requires : goal.end_row-requires
end_row-requires c =
    let same = ap (λ cs. length cs) c.loop-i.invariant.columns in
    omega (arith, same, c.loop-i.invariant.long)

pub returns-clause-rows : goal.returns-clause-rows
returns-clause-rows c =
    let over : length c.args.columns.now ≤ c.loop-i.i = omega arith in
    let over_fields : length (fields_of c.args.fields.now) ≤ c.loop-i.i = omega arith in
    ap (mapped (λ tuple. c.args.into.now.rows ++ tuple ∷ [])) (begun_all _ _ _ _ over over_fields c.loop-i.invariant.so_far)
    ∙ ap (λ rows. Ok rows) (ap (λ rows. rows ++ c.loop-i.into.begun ∷ []) (sym c.loop-i.invariant.rows) ∙ sym c.in_ok-end_row.ensures.ok)
