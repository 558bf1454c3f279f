use Rattle.std.proofs.Common.{◌≡◌, ◌<◌, ℕ, false, get_or}
use Rattle.tuple_sets.specs.declared.entry.Entry.{Entry}
use Rattle.tuple_sets.specs.Runs.{is_for, start_of}
use Rattle.tuple_sets.proofs.search.find.Given as goal

abbrev pub invariant-loop-end : goal.invariant-loop-end
invariant-loop-end g l = record {
  at : l.start ≡ start_of l.ends l.end-index;
  passed : (k : ℕ) (d : Entry) → k < l.start → is_for (g.F.Fields.tuple l.row) (get_or l.entries k d) ≡ false;
}
