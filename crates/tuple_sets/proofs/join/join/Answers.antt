use Rattle.std.proofs.Common.{◌≡◌, ◌<◌, ◌+◌, length, take, set, rules}
use Rattle.std.specs.List.Sorted.{IsSortedWithin}
use Rattle.tuple_sets.specs.Runs.{is_before, start_of}
use Rattle.tuple_sets.proofs.RunLemmas.{runs_joined}
use Rattle.tuple_sets.proofs.join.join.Goals as goal

pub returns-clause-runs : goal.returns-clause-runs
returns-clause-runs c =
    let es = c.args.entries.now in
    let fs = c.sort_from.new.entries in
    let ends = c.args.ends.now.items in
    let run = c.first_joined-run.result in
    let lt : run < length ends = search rules in
    let start : c.start_of-start.result ≡ start_of ends run = search rules in
    let sorted : IsSortedWithin is_before fs c.start_of-start.result (length fs) = search rules in
    let kept : c.truncate.new.self.items ≡ take (run + 1) (set ends run (length es)) = c.truncate.ensures.items in
    rw kept
    (runs_joined es fs ends run lt c.sort_from.ensures.len
    (rw start at c.sort_from.ensures.before)
    (rw start at sorted)
    c.requires.runs)
