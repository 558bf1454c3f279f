use Rattle.std.proofs.Common.{◌<◌, length, rules, ap, ◌∙◌}
use Rattle.tuple_sets.specs.Runs.{with_count}
use Rattle.tuple_sets.proofs.BagLemmas.{set-with_count, length-with_count, tuple-with_count}
use Rattle.tuple_sets.proofs.RunLemmas.{runs_of_tuples}
use Rattle.tuple_sets.proofs.runs.Runs.set_count.Goals as goal

pub returns : goal.returns
returns c =
    let es = c.self.inside.entries.items in
    let within : c.args.place < length es = search rules in
    set-with_count es c.args.place c.args.count c.index_mut.result.now within c.index_mut.ensures.value
    ∙ ap (λ xs. with_count xs c.args.place c.args.count) c.self.view_is

pub invariant_of-self : goal.invariant_of-self
invariant_of-self c =
    let es = c.self.inside.entries.items in
    let within : c.args.place < length es = search rules in
    rw (set-with_count es c.args.place c.args.count c.index_mut.result.now within c.index_mut.ensures.value)
    (runs_of_tuples es _ c.self.inside.ends.items (length-with_count es c.args.place c.args.count) (tuple-with_count es c.args.place c.args.count) c.self.invariant)
