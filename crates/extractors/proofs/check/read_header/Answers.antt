use Rattle.extractors.proofs.SourceLemmas.{under_none, under_ok, under_err}
use Rattle.extractors.proofs.check.read_header.Goals as goal

pub returns-then-not-branch-clause-fault : goal.returns-then-not-branch-clause-fault
returns-then-not-branch-clause-fault c =
    let none = rw c.if-not-branch.true at c.in_ok-next_record.ensures.next in
    under_none c.args.any_header c.args.columns.now _ none

pub returns-in-Ok-clause-under : goal.returns-in-Ok-clause-under
returns-in-Ok-clause-under c =
    let next = rw c.if-not-branch.false at c.in_ok-next_record.ensures.next in
    under_ok c.args.any_header c.args.columns.now _ _ _ next c.in-Ok.ensures

pub returns-in-Err-clause-fault : goal.returns-in-Err-clause-fault
returns-in-Err-clause-fault c =
    let next = rw c.if-not-branch.false at c.in_ok-next_record.ensures.next in
    under_err c.args.any_header c.args.columns.now _ _ _ _ next c.in-Err.ensures
