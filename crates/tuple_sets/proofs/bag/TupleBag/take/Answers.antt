use Rattle.std.proofs.Common.{◌≡◌, ◌<◌, refl, sym, arith}
use Rattle.std.proofs.lemmas.Bool.{lt-ltb}
use Rattle.tuple_sets.specs.Bags.{count_of}
use Rattle.tuple_sets.proofs.BagLemmas.{unique-counted}
use Rattle.tuple_sets.proofs.ViewLemmas.{view-lacks, view-found, view-down}
use Rattle.tuple_sets.proofs.bag.TupleBag.take.Goals as goal

pub returns-in_default-clause-there : goal.returns-in_default-clause-there
returns-in_default-clause-there g c =
    let row = g.F.Fields.tuple c.args.row.now in
    let none = view-lacks c.self.inside.runs c.args.self.now c.self.view_is row c.in_default.ensures in
    rw none refl

pub returns-then-count-eq0-clause-there : goal.returns-then-count-eq0-clause-there
returns-then-count-eq0-clause-there g c =
    let row = g.F.Fields.tuple c.args.row.now in
    let found = view-found c.self.inside.runs c.args.self.now c.self.view_is row c.in-Some.place c.in-Some.ensures c.self.invariant in
    let none : count_of c.args.self.now row ≡ 0 = omega (arith, c.count_at-count.ensures, c.if-count-eq0.true) in
    rw none refl

pub invariant_of-self : goal.invariant_of-self
invariant_of-self g c =
    unique-counted c.self.inside.runs c.set_count.new.self c.in-Some.place _ c.set_count.ensures c.self.invariant

pub returns-clause-there : goal.returns-clause-there
returns-clause-there g c =
    let row = g.F.Fields.tuple c.args.row.now in
    let found = view-found c.self.inside.runs c.args.self.now c.self.view_is row c.in-Some.place c.in-Some.ensures c.self.invariant in
    let some : 0 < count_of c.args.self.now row = omega (arith, c.count_at-count.ensures, c.if-count-eq0.false) in
    sym (lt-ltb 0 (count_of c.args.self.now row) some)

pub returns-clause-taken : goal.returns-clause-taken
returns-clause-taken g c _ =
    view-down c.self.inside.runs c.args.self.now c.self.view_is (g.F.Fields.tuple c.args.row.now) c.in-Some.place _
    c.in-Some.ensures (omega (arith, c.count_at-count.ensures, c.if-count-eq0.false)) _ c.set_count.ensures
