use Rattle.std.proofs.Common.{◌<◌, ◌≤◌, ◌∙◌, sym, length, arith}
use Rattle.csv.specs.Records.{fields_of}
use Rattle.csv.proofs.RecordFacts.{field-there}
use Rattle.extractors.proofs.CheckLemmas.{wrong_count, tested_start, tested_more, tested_stops, tested_end}
use Rattle.extractors.proofs.check.check_record.Goals as goal

pub returns-then-len-columns : goal.returns-then-len-columns
returns-then-len-columns c = sym (wrong_count _ _ (λ same. c.if-len-columns.true (c.len.ensures ∙ same)))

pub loop-i-init : goal.loop-i-init
loop-i-init c = tested_start _ _ (sym c.len.ensures ∙ c.if-len-columns.false)

pub unreachable-requires : goal.unreachable-requires
unreachable-requires c =
    let there : c.loop-i.i < length (fields_of c.args.fields.now) = omega arith in
    field-there _ _ there (sym c.in_default.ensures.value)

pub returns-in-Err : goal.returns-in-Err
returns-in-Err c =
    let there : c.loop-i.i < length (fields_of c.args.fields.now) = omega arith in
    sym (tested_stops _ _ _ c.index-columns-i.result _ _ c.loop-i-test.true there c.index-columns-i.is (sym c.in-Some.ensures.value) c.in-Err.ensures c.loop-i.invariant)

pub loop-i-preserved : goal.loop-i-preserved
loop-i-preserved c =
    let there : c.loop-i.i < length (fields_of c.args.fields.now) = omega arith in
    tested_more _ _ _ c.index-columns-i.result _ c.loop-i-test.true there c.index-columns-i.is
    (sym c.in-Some.ensures.value) c.in-Ok.ensures c.loop-i.invariant

pub returns : goal.returns
returns c =
    let over : length c.args.columns.now ≤ c.loop-i.i = omega arith in
    let over_fields : length (fields_of c.args.fields.now) ≤ c.loop-i.i = omega arith in
    sym (tested_end _ _ _ over over_fields c.loop-i.invariant)
