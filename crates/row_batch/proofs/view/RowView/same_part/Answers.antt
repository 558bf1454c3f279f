use Rattle.std.proofs.Common.{◌≡◌, ◌≢◌, refl, arith}
use Rattle.tuple_schema.specs.Tuples.{lent}
use Rattle.row_batch.proofs.Fields.{part_length, parts_differ, parts_more}
use Rattle.row_batch.proofs.view.RowView.same_part.Goals as goal

pub returns-then-cols-count : goal.returns-then-cols-count
returns-then-cols-count c =
    let long = part_length _ _ c.requires in
    grind arith

pub returns-then-not-is_same : goal.returns-then-not-is_same
returns-then-not-is_same c =
    let differs : lent c.field.result ≢ lent c.field-in-loop-i.result =
    λ same. let t = c.is_same.ensures.1 same in cc in
    ((λ t. absurd cc), λ same. absurd (parts_differ c.args.self.now c.args.key.now c.args.cols.now c.loop-i.i _ _ _ c.requires c.loop-i-test.true refl c.field.ensures.value c.field-in-loop-i.ensures.value differs same))

pub loop-i-preserved : goal.loop-i-preserved
loop-i-preserved c =
    let same : lent c.field.result ≡ lent c.field-in-loop-i.result = c.is_same.ensures.0 cc in
    parts_more c.args.self.now c.args.key.now c.args.cols.now c.loop-i.i _ _ _ c.requires c.loop-i-test.true refl c.field.ensures.value c.field-in-loop-i.ensures.value same c.loop-i.invariant
