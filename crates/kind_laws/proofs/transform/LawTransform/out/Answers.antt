use Rattle.std.proofs.Common.{◌≡◌, ◌∙◌, List, map, ap, sym, subst}
use Rattle.tuple_schema.specs.declared.schema.Column.{Column}
use Rattle.row_batch.specs.Packing.{BatchOf}
use Rattle.flow_types.specs.declared.node.Kind.TheVariants as kind
use Rattle.flow_types.specs.declared.node.Node.{Node}
use Rattle.flow_types.specs.Flows.{columns_of}
use Rattle.flow_types.specs.Linked.{IsOver}
use Rattle.kind_laws.specs.Fitting.{AllFitInto}
use Rattle.kind_laws.proofs.Fitting.{all_fit_into}
use Rattle.kind_laws.proofs.transform.LawTransform.out.Goals as goal

pub unite-requires : goal.unite-requires
unite-requires c =
    let node : Node = c.args.self.now.node.now in
    let inputs : List (List Column) = columns_of (map (λ n. n.now) c.args.self.now.inputs.items) in
    let over : IsOver (kind.Union c.in-Union.any) inputs node.schema =
    subst (λ k. IsOver k inputs node.schema) c.in-Union.is c.requires.linked.over in
    let columns : map (λ (b : BatchOf). b.columns) c.deref.result.now ≡ inputs =
    ap (map (λ (b : BatchOf). b.columns)) c.deref.ensures.value ∙ c.requires.columns in
    record { fits = subst (λ cs. AllFitInto cs node.schema) (sym columns) (all_fit_into inputs node.schema over.2) }
