use Rattle.std.proofs.Common.{◌≡◌, min, arith, rules, ◌∙◌}
use Rattle.tuple_sets.specs.Order.{tuple_cmp, value_cmp}
use Rattle.tuple_sets.proofs.OrderLemmas.{decided, carried_on, ended}
use Rattle.tuple_sets.proofs.order.compare.Goals as goal

pub returns-then-not-is_eq : goal.returns-then-not-is_eq
returns-then-not-is_eq g c =
    decided value_cmp c.args.tuple.now (g.F.Fields.tuple c.args.row.now) c.loop-i.i _ _ _ _ c.loop-i.invariant
    c.field.ensures.value c.field-in-loop-i.ensures.value c.compare_fields-found.ensures (search rules)

pub loop-i-preserved : goal.loop-i-preserved
loop-i-preserved g c =
    carried_on value_cmp c.args.tuple.now (g.F.Fields.tuple c.args.row.now) c.loop-i.i _ _ _ _ c.loop-i.invariant
    c.field.ensures.value c.field-in-loop-i.ensures.value c.compare_fields-found.ensures (search rules)

pub returns : goal.returns
returns g c =
    let last : c.loop-i.i ≡ min c.count-mine.result c.count-others.result =
    omega (arith, c.min-i-end.ensures, c.loop-i-test.false, c.loop-i.auto.i-end) in
    c.cmp.ensures
    ∙ ended value_cmp c.args.tuple.now (g.F.Fields.tuple c.args.row.now) c.loop-i.i
    c.count-mine.result c.count-others.result (tuple_cmp c.args.tuple.now (g.F.Fields.tuple c.args.row.now)) c.loop-i.invariant
    c.count-mine.ensures c.count-others.ensures last
