use Rattle.std.proofs.Common.{sym, ap, ◌∙◌}
use Rattle.tuple_schema.specs.Tuples.{part}
use Rattle.tuple_sets.specs.Bags.{has}
use Rattle.tuple_sets.proofs.ViewLemmas.{has-count}
use Rattle.tuple_sets.proofs.set.KeySet.has.Goals as goal

pub returns : goal.returns
returns g c =
    let key = part (g.F.Fields.tuple c.args.row.now) c.args.cols.now in
    rw c.count.ensures (sym (has-count c.self.inside.keys key) ∙ ap (λ keys. has keys key) c.self.view_is)
