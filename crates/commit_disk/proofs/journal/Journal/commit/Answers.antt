use Rattle.std.proofs.Common.{◌∙◌, arith}
use Rattle.std.proofs.lemmas.Result.{on_ok_weaker}
use Rattle.commit_disk.specs.Table.{rows_block}
use Rattle.commit_disk.specs.declared.block_head.BlockHead.TheVariants.{Rows}
use Rattle.commit_disk.proofs.Leads.{passed_after}
use Rattle.commit_disk.proofs.journal.Journal.commit.Goals as goal

pub returns-clause-moved : goal.returns-clause-moved
returns-clause-moved g c =
    on_ok_weaker c.add.result (λ moved. moved ∙ passed_after _ (Rows c.rows.result c.len.result) (rows_block c.args.block.now) (c.rows.ensures.rows, c.len.ensures.len)) c.add.ensures.moved

pub returns-clause-done : goal.returns-clause-done
returns-clause-done g c =
    on_ok_weaker c.add.result
    (λ done honest. done honest (rows_block c.args.block.now) (record {
      allowed = record { some = c.requires.some; few = omega arith; short = omega arith };
      of_head = (c.rows.ensures.rows, c.len.ensures.len);
      spelled = c.behind_gate.ensures.behind;
    }))
    c.add.ensures.done

pub returns-clause-any_moment : goal.returns-clause-any_moment
returns-clause-any_moment g c = λ honest settled.
    c.add.ensures.any_moment honest settled (rows_block c.args.block.now) (record {
      allowed = record { some = c.requires.some; few = omega arith; short = omega arith };
      of_head = (c.rows.ensures.rows, c.len.ensures.len);
      spelled = c.behind_gate.ensures.behind;
    })

pub returns-clause-grows : goal.returns-clause-grows
returns-clause-grows g c = λ honest settled.
    c.add.ensures.grows honest settled (rows_block c.args.block.now) (record {
      allowed = record { some = c.requires.some; few = omega arith; short = omega arith };
      of_head = (c.rows.ensures.rows, c.len.ensures.len);
      spelled = c.behind_gate.ensures.behind;
    })
