use Rattle.std.proofs.Common.{◌++◌, sym, ap, ◌∙◌, append_assoc, arith}
use Rattle.std.proofs.lemmas.Grind.{common_steps}
use Rattle.extractors.specs.Readers.{to_come}
use Rattle.extractors.specs.Sources.{good_rows}
use Rattle.extractors.proofs.SourceLemmas.{one_read, none_good}
use Rattle.extractors.proofs.rows.read_rows.Goals as goal

pub push-requires : goal.push-requires
push-requires c =
    let next = rw c.if-not-branch.false at c.in_ok-next_record.ensures.next in
    record { fits = (one_read _ _ _ _ _ next c.loop-reader.invariant.goes.good c.loop-reader.invariant.fit).fit }

pub loop-reader-preserved : goal.loop-reader-preserved
loop-reader-preserved c =
    let next = rw c.if-not-branch.false at c.in_ok-next_record.ensures.next in
    let read = one_read _ _ _ _ _ next c.loop-reader.invariant.goes.good c.loop-reader.invariant.fit in
    let rest = good_rows c.args.columns.now (to_come c.next_record.new.reader) in
    record {
      goes = record { running = c.in_ok-next_record.ensures.goes_on; good = read.rest };
      first =
          c.loop-reader.invariant.first
          ∙ ap (λ rs. c.loop-reader.into.rows ++ rs) read.rows
          ∙ sym (append_assoc c.loop-reader.into.rows _ rest)
          ∙ ap (λ rs. rs ++ rest) (sym c.in_ok-push.ensures.ok);
      fit = rw c.push.ensures.columns read.rest_fit;
      few = grind (arith, common_steps);
      columns = c.push.ensures.columns ∙ c.loop-reader.invariant.columns;
    }

pub returns-then-not-branch-clause-first : goal.returns-then-not-branch-clause-first
returns-then-not-branch-clause-first c =
    let none = rw c.if-not-branch.true at c.in_ok-next_record.ensures.next in
    c.loop-reader.invariant.first ∙ ap (λ rs. c.loop-reader.into.rows ++ rs) (none_good _ _ none)
