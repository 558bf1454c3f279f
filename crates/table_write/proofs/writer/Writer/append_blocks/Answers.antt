use Rattle.std.proofs.Common.{◌≡◌, ◌∙◌, ◌+◌, List, take, drop, ap, sym, subst, arith, Err}
use Rattle.std.proofs.lemmas.List.{drop_all}
use Rattle.std.proofs.lemmas.Result.{err_from_is_err_and}
use Rattle.table_write.specs.Cut.{cut}
use Rattle.table_write.specs.declared.writer.WriteFault.TheVariants as fault
use Rattle.table_write.specs.Adds.{IsFilled}
use Rattle.table_write.proofs.Cuts.{cut_nothing}
use Rattle.table_write.proofs.Fronts.{Rows}
use Rattle.table_write.proofs.Adding.{SoFar, none_yet, leaves_on, stops_on, one_more, filled, all_added, all_had_room}
use Rattle.table_write.proofs.writer.Writer.append_blocks.Goals as goal

pub loop-at-init : goal.loop-at-init
loop-at-init g c = record {
  within = c.requires.within;
  so_far = none_yet c.args.rows.now.columns (cut c.args.batch (drop c.args.from c.args.rows.now.rows)) c.args.journal.now (g.K.Disk.state c.args.disk.now) c.requires.place;
}

pub returns-in_err-commit_block-clause-any_moment : goal.returns-in_err-commit_block-clause-any_moment
returns-in_err-commit_block-clause-any_moment g c =
    let rest = drop c.loop-at.at c.args.rows.now.rows in
    let count = c.fill-count.result in
    let behind = drop (c.loop-at.at + count) c.args.rows.now.rows in
    let blocks = cut c.args.batch (drop c.args.from c.args.rows.now.rows) in
    let State : List Rows → Type 0 = λ left.
    SoFar c.args.rows.now.columns blocks c.args.journal.now (g.K.Disk.state c.args.disk.now) left c.loop-at.journal (g.K.Disk.state c.loop-at.disk) in
    let so_far = subst State c.fill-count.ensures.first c.loop-at.invariant.so_far in
    let commit = c.commit_block.ensures in
    leaves_on c.args.rows.now.columns blocks c.args.journal.now (g.K.Disk.state c.args.disk.now)
    (take count rest) (cut c.args.batch behind) c.loop-at.journal (g.K.Disk.state c.loop-at.disk) so_far c.fill-count.ensures.of_columns
    c.fill-count.new.block (g.K.Disk.state c.commit_block.new.disk) c.fill-count.ensures.block commit.any_moment commit.grows commit.elapses

pub returns-in_err-commit_block-clause-stops : goal.returns-in_err-commit_block-clause-stops
returns-in_err-commit_block-clause-stops g c = λ failed.
    let rest = drop c.loop-at.at c.args.rows.now.rows in
    let count = c.fill-count.result in
    let behind = drop (c.loop-at.at + count) c.args.rows.now.rows in
    let blocks = cut c.args.batch (drop c.args.from c.args.rows.now.rows) in
    let State : List Rows → Type 0 = λ left. SoFar c.args.rows.now.columns blocks c.args.journal.now (g.K.Disk.state c.args.disk.now) left c.loop-at.journal (g.K.Disk.state c.loop-at.disk) in
    let so_far = subst State c.fill-count.ensures.first c.loop-at.invariant.so_far in
    let commit = c.commit_block.ensures in
    stops_on c.args.rows.now.columns blocks c.args.journal.now (g.K.Disk.state c.args.disk.now)
    (take count rest) (cut c.args.batch behind) c.loop-at.journal (g.K.Disk.state c.loop-at.disk) so_far c.fill-count.ensures.of_columns
    c.fill-count.new.block (g.K.Disk.state c.commit_block.new.disk) c.fill-count.ensures.block commit.any_moment commit.elapses

pub returns-in_err-commit_block-clause-full : goal.returns-in_err-commit_block-clause-full
returns-in_err-commit_block-clause-full g c = λ is_full.
    let rest = drop c.loop-at.at c.args.rows.now.rows in
    let count = c.fill-count.result in
    let behind = drop (c.loop-at.at + count) c.args.rows.now.rows in
    let blocks = cut c.args.batch (drop c.args.from c.args.rows.now.rows) in
    let State : List Rows → Type 0 = λ left.
    SoFar c.args.rows.now.columns blocks c.args.journal.now (g.K.Disk.state c.args.disk.now) left c.loop-at.journal (g.K.Disk.state c.loop-at.disk) in
    let so_far = subst State c.fill-count.ensures.first c.loop-at.invariant.so_far in
    let p = err_from_is_err_and c.from_residual.result c.from_residual.ensures.1 in
    let stopped : c.commit_block.result ≡ Err fault.Full = cc (is_full, p.1, p.2, c.in_err-commit_block.was) in
    let still = c.commit_block.ensures.still stopped in
    subst (λ journal. IsFilled c.args.rows.now.columns blocks c.args.journal.now journal (g.K.Disk.state c.args.disk.now) (g.K.Disk.state c.commit_block.new.disk)) (sym still.0)
    (subst (λ disk. IsFilled c.args.rows.now.columns blocks c.args.journal.now c.loop-at.journal (g.K.Disk.state c.args.disk.now) (g.K.Disk.state disk)) (sym still.1)
    (filled c.args.rows.now.columns blocks c.args.journal.now (g.K.Disk.state c.args.disk.now)
    (take count rest) (cut c.args.batch behind) c.loop-at.journal (g.K.Disk.state c.loop-at.disk) so_far c.fill-count.ensures.of_columns
    c.fill-count.new.block c.fill-count.ensures.block (c.commit_block.ensures.full stopped)))

pub loop-at-preserved : goal.loop-at-preserved
loop-at-preserved g c =
    let rest = drop c.loop-at.at c.args.rows.now.rows in
    let count = c.fill-count.result in
    let behind = drop (c.loop-at.at + count) c.args.rows.now.rows in
    let blocks = cut c.args.batch (drop c.args.from c.args.rows.now.rows) in
    let State : List Rows → Type 0 = λ left.
    SoFar c.args.rows.now.columns blocks c.args.journal.now (g.K.Disk.state c.args.disk.now) left c.loop-at.journal (g.K.Disk.state c.loop-at.disk) in
    let so_far = subst State c.fill-count.ensures.first c.loop-at.invariant.so_far in
    let commit = c.in_ok-commit_block.ensures in
    record {
      within = c.fill-count.ensures.within;
      so_far = one_more c.args.rows.now.columns blocks c.args.journal.now (g.K.Disk.state c.args.disk.now)
          (take count rest) (cut c.args.batch behind) c.loop-at.journal (g.K.Disk.state c.loop-at.disk) so_far c.fill-count.ensures.of_columns
          c.fill-count.new.block c.commit_block.new.journal (g.K.Disk.state c.commit_block.new.disk) c.fill-count.ensures.block commit.moved commit.done commit.size commit.settled commit.fits commit.elapses
          (leaves_on c.args.rows.now.columns blocks c.args.journal.now (g.K.Disk.state c.args.disk.now)
          (take count rest) (cut c.args.batch behind) c.loop-at.journal (g.K.Disk.state c.loop-at.disk) so_far c.fill-count.ensures.of_columns
          c.fill-count.new.block (g.K.Disk.state c.commit_block.new.disk) c.fill-count.ensures.block commit.any_moment commit.grows commit.elapses);
    }

pub returns-clause-added : goal.returns-clause-added
returns-clause-added g c =
    let none = ap (cut c.args.batch) (drop_all c.loop-at.at c.args.rows.now.rows (omega arith)) ∙ cut_nothing c.args.batch in
    all_added c.args.rows.now.columns (cut c.args.batch (drop c.args.from c.args.rows.now.rows)) c.args.journal.now (g.K.Disk.state c.args.disk.now)
    (cut c.args.batch (drop c.loop-at.at c.args.rows.now.rows)) c.loop-at.journal (g.K.Disk.state c.loop-at.disk) none c.loop-at.invariant.so_far

pub returns-clause-each_fits : goal.returns-clause-each_fits
returns-clause-each_fits g c =
    let none = ap (cut c.args.batch) (drop_all c.loop-at.at c.args.rows.now.rows (omega arith)) ∙ cut_nothing c.args.batch in
    all_had_room c.args.rows.now.columns (cut c.args.batch (drop c.args.from c.args.rows.now.rows)) c.args.journal.now (g.K.Disk.state c.args.disk.now)
    (cut c.args.batch (drop c.loop-at.at c.args.rows.now.rows)) c.loop-at.journal (g.K.Disk.state c.loop-at.disk) none c.loop-at.invariant.so_far
