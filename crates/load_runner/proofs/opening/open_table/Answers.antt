use Rattle.std.proofs.Common.{◌≡◌, ◌∙◌, List, ℕ, Err, inr, ap, sym, subst}
use Rattle.std.proofs.lemmas.Result.{err_from_is_err_and}
use Rattle.outside.specs.Moments.{spares_on}
use Rattle.tuple_schema.specs.declared.memory.Stop.TheVariants as stop
use Rattle.commit_disk.specs.declared.attaching.TableFault.TheVariants as fault
use Rattle.commit_disk.specs.Table.{row_blocks}
use Rattle.commit_disk.specs.RowTables.{told_rows}
use Rattle.commit_disk.specs.Attach.{TellsOf}
use Rattle.commit_disk.specs.declared.attaching.Attached.TheVariants as Attached
use Rattle.load_runner.specs.Found.{HasWrongRow}
use Rattle.load_runner.specs.Starts.{Starts}
use Rattle.load_runner.proofs.Readings.{all_read, wrong_read, same_stop}
use Rattle.load_runner.proofs.opening.open_table.Goals as goal

pub returns-in_ok-verify-in-Made-clause-found : goal.returns-in_ok-verify-in-Made-clause-found
returns-in_ok-verify-in-Made-clause-found g c = λ honest.
    let text = c.args.text.now in
    let journal = c.in-Made.journal in
    let told_old : TellsOf journal (g.K.Disk.state c.args.disk.now).file text = rw c.in-Made.is at (c.in_ok-attach.ensures.tells honest) in
    let attached = (c.in_ok-attach.ensures.settled tt).file honest in
    let told : TellsOf journal (g.K.Disk.state c.attach.new.disk).file text = subst (λ (image : List ℕ). TellsOf journal image text) (sym attached) told_old in
    let still = c.in_ok-attach.ensures.elapses.honest ∙ honest in
    let read = all_read _ (rw told.first at (c.in_ok-verify-in-Made.ensures.rows still text told)) in
    let same = c.in_ok-verify-in-Made.ensures.only_read.keeps.file still in
    subst (λ (image : List ℕ). Starts (Attached.Made journal) image text c.args.schema.now) (sym same) (told, read)

pub returns-in_err-verify-in-Made-clause-not_a_table : goal.returns-in_err-verify-in-Made-clause-not_a_table
returns-in_err-verify-in-Made-clause-not_a_table g c = λ place is honest.
    let p = err_from_is_err_and c.from_residual-in_err-verify-in-Made.result c.from_residual-in_err-verify-in-Made.ensures.1 in
    let answer : c.verify.result ≡ Err (stop.Fault (fault.NotATable place)) = c.in_err-verify-in-Made.was ∙ ap Err (sym p.2 ∙ same_stop _ _ (sym p.1 ∙ is)) in
    let text = c.args.text.now in
    let journal = c.in-Made.journal in
    let old = (g.K.Disk.state c.args.disk.now).file in
    let told_old : TellsOf journal old text = rw c.in-Made.is at (c.in_ok-attach.ensures.tells honest) in
    let attached = (c.in_ok-attach.ensures.settled tt).file honest in
    let told : TellsOf journal (g.K.Disk.state c.attach.new.disk).file text = subst (λ (image : List ℕ). TellsOf journal image text) (sym attached) told_old in
    let still = c.in_ok-attach.ensures.elapses.honest ∙ honest in
    let verified = rw answer at (c.verify.ensures.rows still text told) in
    let here : HasWrongRow place (g.K.Disk.state c.attach.new.disk).file text c.args.schema.now = record {
      blocks = row_blocks told.blocks;
      ended = journal.ended;
      holds = (told_rows journal (g.K.Disk.state c.attach.new.disk).file text told).holds;
      wrong = rw told.first at (wrong_read _ place verified);
    } in
    inr (subst (λ (image : List ℕ). HasWrongRow place image text c.args.schema.now) attached here)

pub returns-in_err-verify-in-Made-clause-spares : goal.returns-in_err-verify-in-Made-clause-spares
returns-in_err-verify-in-Made-clause-spares g c = spares_on _ _ _ c.attach.ensures.elapses c.attach.ensures.spares c.verify.ensures.only_read

pub returns-in_ok-verify-in-Made-clause-spares : goal.returns-in_ok-verify-in-Made-clause-spares
returns-in_ok-verify-in-Made-clause-spares g c = spares_on _ _ _ c.attach.ensures.elapses c.attach.ensures.spares c.verify.ensures.only_read
