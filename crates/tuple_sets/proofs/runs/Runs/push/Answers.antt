use Rattle.std.proofs.Common.{◌≡◌, [], ◌∷◌, ◌++◌, length, rules, arith, ap, ◌∙◌}
use Rattle.std.proofs.lemmas.List.{length_push}
use Rattle.tuple_sets.proofs.RunLemmas.{runs_pushed}
use Rattle.tuple_sets.proofs.runs.Runs.push.Goals as goal

pub join-requires-clause-runs : goal.join-requires-clause-runs
join-requires-clause-runs c =
    let es = c.self.inside.entries.items in
    let ends = c.self.inside.ends.items in
    let one : c.deref_mut.result.now ≡ es ++ c.args.entry ∷ [] = c.deref_mut.ensures.value ∙ c.in_ok-push.ensures.items in
    let two : c.push-2.new.self.items ≡ ends ++ c.len-end.result ∷ [] = search rules in
    rw (one, two) (runs_pushed es c.args.entry ends c.len-end.result (omega (arith, ap length one, length_push es c.args.entry)) c.self.invariant)
