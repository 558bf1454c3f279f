use Rattle.std.proofs.Common.{◌<◌, length, arith, rules, ◌∙◌}
use Rattle.tuple_sets.proofs.PartLemmas.{length-part, part-at}
use Rattle.tuple_sets.proofs.part.PartFields.field.Goals as goal

pub bounds-cols-i : goal.bounds-cols-i
bounds-cols-i g c =
    let long = length-part (g.F.Fields.tuple c.args.self.now.row.now) c.args.self.now.cols.now c.args.self.now.within in
    omega (arith, c.requires)

pub offset_bounds-cols-i : goal.offset_bounds-cols-i
offset_bounds-cols-i g c =
    let long = length-part (g.F.Fields.tuple c.args.self.now.row.now) c.args.self.now.cols.now c.args.self.now.within in
    let inside : c.args.i < length c.args.self.now.cols.now = omega (arith, c.requires) in
    search rules

pub field-requires : goal.field-requires
field-requires g c =
    let long = length-part (g.F.Fields.tuple c.args.self.now.row.now) c.args.self.now.cols.now c.args.self.now.within in
    c.args.self.now.within c.args.i 0 (omega (arith, c.requires))

pub returns-clause-value : goal.returns-clause-value
returns-clause-value g c =
    let long = length-part (g.F.Fields.tuple c.args.self.now.row.now) c.args.self.now.cols.now c.args.self.now.within in
    part-at (g.F.Fields.tuple c.args.self.now.row.now) c.args.self.now.cols.now c.args.i c.args.self.now.within (omega (arith, c.requires))
    ∙ c.field.ensures.value
