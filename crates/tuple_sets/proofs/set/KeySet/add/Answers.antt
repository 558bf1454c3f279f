use Rattle.std.proofs.Common.{◌<◌, ◌∷◌, arith}
use Rattle.std.proofs.lemmas.Result.{on_ok_weaker}
use Rattle.tuple_sets.specs.Bags.{count_of}
use Rattle.tuple_sets.proofs.ViewLemmas.{has-again, has-same}
use Rattle.tuple_sets.proofs.set.KeySet.add.Goals as goal

pub returns-then-count-gt0-clause-ok : goal.returns-then-count-gt0-clause-ok
returns-then-count-gt0-clause-ok c =
    let there : 0 < count_of c.self.inside.keys c.args.key = omega (arith, c.count.ensures, c.if-count-gt0.true) in
    rw (← c.self.view_is) (has-again c.self.inside.keys c.args.key there)

pub returns-clause-ok : goal.returns-clause-ok
returns-clause-ok c =
    rw (← c.self.view_is)
    (on_ok_weaker c.add.result (has-same c.add.new.self (c.args.key ∷ c.self.inside.keys)) c.add.ensures.ok)
