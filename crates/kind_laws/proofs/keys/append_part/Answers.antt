use Rattle.std.proofs.Common.{◌++◌, take, sym, ap, ◌∙◌}
use Rattle.std.proofs.lemmas.List.{flat_map_more}
use Rattle.tuple_schema.specs.Tuples.{lent, part}
use Rattle.row_codec.specs.Rows.{row_bytes, value_bytes}
use Rattle.kind_laws.proofs.Rows.{part_more}
use Rattle.kind_laws.proofs.keys.append_part.Goals as goal

pub loop-col-preserved : goal.loop-col-preserved
loop-col-preserved c =
    let row = c.args.row.now in
    let cols = c.args.cols.now in
    let i = c.loop-col.col-index in
    let v = lent c.field.result in
    c.in_ok-encode_field.ensures.ok ∙ ap (λ bs. bs ++ value_bytes v) c.loop-col.invariant
    ∙ flat_map_more value_bytes c.args.into.now.items (part row (take i cols)) v
    ∙ ap (λ vs. c.args.into.now.items ++ row_bytes vs) (sym (part_more row cols i v c.loop-col-test.true c.field.ensures.value))
