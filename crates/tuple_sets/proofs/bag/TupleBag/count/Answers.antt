use Rattle.std.proofs.Common.{sym, ◌∙◌}
use Rattle.tuple_sets.proofs.ViewLemmas.{view-lacks, view-found}
use Rattle.tuple_sets.proofs.bag.TupleBag.count.Goals as goal

pub returns-in-None : goal.returns-in-None
returns-in-None g c =
    sym (view-lacks c.self.inside.runs c.args.self.now c.self.view_is (g.F.Fields.tuple c.args.row.now) c.in-None.ensures)

pub returns-in-Some : goal.returns-in-Some
returns-in-Some g c =
    c.count_at.ensures
    ∙ sym (view-found c.self.inside.runs c.args.self.now c.self.view_is (g.F.Fields.tuple c.args.row.now)
    c.in-Some.place c.in-Some.ensures c.self.invariant)
