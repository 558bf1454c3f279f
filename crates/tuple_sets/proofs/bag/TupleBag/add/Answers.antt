use Rattle.std.proofs.Common.{◌+◌, ap, ◌∙◌, arith}
use Rattle.std.proofs.lemmas.Result.{on_ok_weaker}
use Rattle.tuple_sets.specs.Runs.{with_count}
use Rattle.tuple_sets.proofs.BagLemmas.{unique-counted, unique-either}
use Rattle.tuple_sets.proofs.ViewLemmas.{view-found, view-up, view-pushed}
use Rattle.tuple_sets.proofs.bag.TupleBag.add.Goals as goal

pub invariant_of-self : goal.invariant_of-self
invariant_of-self c =
    unique-either c.push.result c.self.inside.runs c.push.new.self (record { tuple = c.args.row; count = 1 })
    c.in_default.ensures c.self.invariant c.push.ensures.ok c.push.ensures.err

pub overflow_add-count : goal.overflow_add-count
overflow_add-count c =
    let found = view-found c.self.inside.runs c.args.self.now c.self.view_is c.args.row c.in-Some.place c.in-Some.ensures c.self.invariant in
    omega (arith, c.requires, c.count_at-count.ensures)

pub invariant_of-self-2 : goal.invariant_of-self-2
invariant_of-self-2 c =
    unique-counted c.self.inside.runs c.set_count.new.self c.in-Some.place _ c.set_count.ensures c.self.invariant

pub returns-in_default-clause-ok : goal.returns-in_default-clause-ok
returns-in_default-clause-ok c =
    on_ok_weaker c.push.result (view-pushed c.self.inside.runs c.args.self.now c.self.view_is c.args.row c.push.new.self) c.push.ensures.ok

pub returns-clause-ok : goal.returns-clause-ok
returns-clause-ok c =
    view-up c.self.inside.runs c.args.self.now c.self.view_is c.args.row c.in-Some.place c.in-Some.ensures c.set_count.new.self
    (c.set_count.ensures ∙ ap (λ n. with_count c.self.inside.runs c.in-Some.place (n + 1)) c.count_at-count.ensures)
