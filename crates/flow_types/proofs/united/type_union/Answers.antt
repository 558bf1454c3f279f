use Rattle.std.proofs.Common.{map, refl, sym, ◌∙◌, subst}
use Rattle.std.proofs.lemmas.List.{length-map}
use Rattle.tuple_schema.specs.Schemas.{IsSchema}
use Rattle.flow_types.specs.Flows.{columns_of}
use Rattle.flow_types.specs.United.{AllGoInto}
use Rattle.flow_types.proofs.Unions.{united_schema, all_go}
use Rattle.flow_types.proofs.united.type_union.Goals as goal

pub of-requires : goal.of-requires
of-requires c =
    let all = columns_of (map (λ n. n.now) c.args.inputs.now) in
    let first = rw (← c.columns-first.ensures.same) at c.columns-first.ensures.schema in
    subst IsSchema (sym c.in_ok-columns.ensures) (united_schema all c.columns-first.result.now first)

pub returns-clause-over : goal.returns-clause-over
returns-clause-over c =
    let all = columns_of (map (λ n. n.now) c.args.inputs.now) in
    let is = c.of.ensures ∙ c.in_ok-columns.ensures in
    (refl, rw (length-map, length-map) c.requires.some, subst (AllGoInto all) (sym is) (all_go all c.columns-first.result.now c.in_ok-only_alike.ensures.alike))
