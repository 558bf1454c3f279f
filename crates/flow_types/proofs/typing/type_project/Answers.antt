use Rattle.flow_types.proofs.Columns.{taken_schema}
use Rattle.flow_types.proofs.typing.type_project.Goals as goal

pub of-requires-2 : goal.of-requires-2
of-requires-2 c =
    let len = c.in_ok-taken.ensures.len in
    let takes = rw c.columns.ensures.same at c.in_ok-taken.ensures.takes in
    taken_schema c.args.input.now c.in_ok-taken.taken.columns.items c.in_ok-taken.taken.places.items c.columns.ensures.schema takes
    (rw len c.requires.some) (rw len c.requires.few) c.in_ok-taken.ensures.distinct
