use Rattle.std.proofs.Common.{sym}
use Rattle.tuple_sets.proofs.RunLemmas.{start-next, run-starts, run-ends, run-sorted, found_in_runs, lacks_more}
use Rattle.tuple_sets.proofs.search.find.Goals as goal

pub slice_bounds-run-count : goal.slice_bounds-run-count
slice_bounds-run-count g c =
    run-starts c.args.entries.now c.args.ends.now c.requires c.loop-end.end-index c.loop-end.start c.loop-end-test.true c.loop-end.invariant.at

pub slice_bounds-run-start : goal.slice_bounds-run-start
slice_bounds-run-start g c = run-starts c.args.entries.now c.args.ends.now c.requires c.loop-end.end-index c.loop-end.start c.loop-end-test.true c.loop-end.invariant.at

pub slice_bounds-run-end : goal.slice_bounds-run-end
slice_bounds-run-end g c = run-ends c.args.entries.now c.args.ends.now c.requires c.loop-end.end-index c.loop-end.start c.loop-end-test.true c.loop-end.invariant.at

pub search-requires : goal.search-requires
search-requires g c =
    run-sorted c.args.entries.now c.args.ends.now c.requires c.loop-end.end-index c.loop-end.start c.loop-end-test.true c.loop-end.invariant.at

pub returns-in-Some : goal.returns-in-Some
returns-in-Some g c =
    found_in_runs c.args.entries.now c.args.ends.now c.requires c.loop-end.end-index c.loop-end.start c.loop-end-test.true c.loop-end.invariant.at
    (g.F.Fields.tuple c.args.row.now) _ c.in-Some.ensures

pub loop-end-preserved : goal.loop-end-preserved
loop-end-preserved g c = record {
  at = sym (start-next c.args.ends.now c.loop-end.end-index);
  passed = lacks_more c.args.entries.now c.args.ends.now c.requires c.loop-end.end-index c.loop-end.start c.loop-end-test.true c.loop-end.invariant.at
      (g.F.Fields.tuple c.args.row.now) c.loop-end.invariant.passed c.in_default.ensures;
}
