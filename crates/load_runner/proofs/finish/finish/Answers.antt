use Rattle.std.proofs.Common.{◌∙◌, inl, [], drop, sym, subst}
use Rattle.commit_disk.specs.declared.attaching.Attached.{Attached}
use Rattle.commit_disk.specs.declared.attaching.Attached.TheVariants as attached
use Rattle.table_write.specs.Cut.{cut}
use Rattle.load_runner.specs.Adding.{addition, Finishes}
use Rattle.load_runner.specs.Safe.{IsGrown}
use Rattle.load_runner.specs.Starts.{IsAt}
use Rattle.outside.specs.Moments.{each_on}
use Rattle.commit_disk.specs.Growth.{grows_on}
use Rattle.load_runner.proofs.Added.{made_finishes}
use Rattle.load_runner.proofs.Begun.{made_grows}
use Rattle.load_runner.proofs.finish.finish.Goals as goal

pub returns-in-Made-clause-finishes : goal.returns-in-Made-clause-finishes
returns-in-Made-clause-finishes g c = subst
    (λ (f : Attached). Finishes (addition f c.args.text.now c.args.batch c.args.rows.now c.args.from)
    (g.K.Disk.state c.args.disk.now) (g.K.Disk.state c.append.new.disk) c.append.result)
    (sym c.in-Made.is) (c.append.ensures.finishes c.args.text.now)

pub returns-in-Made-clause-any_moment : goal.returns-in-Made-clause-any_moment
returns-in-Made-clause-any_moment g c = λ settled honest olds there.
    let fronts = c.append.ensures.any_moment honest settled c.args.text.now olds (rw c.in-Made.is at there) in
    record { each = λ image it. inl (fronts.each image it); grows = fronts.grows }

pub returns-in-Ok-clause-finishes : goal.returns-in-Ok-clause-finishes
returns-in-Ok-clause-finishes g c =
    let text = c.args.text.now in
    subst
    (λ (f : Attached). Finishes (addition f text c.args.batch c.args.rows.now c.args.from)
    (g.K.Disk.state c.args.disk.now) (g.K.Disk.state c.append-in-Ok.new.disk) c.append-in-Ok.result)
    (sym c.in-NotMade.is)
    (made_finishes text c.args.rows.now.columns c.args.batch (drop c.args.from c.args.rows.now.rows) c.in-Ok.journal _ (g.K.Disk.state c.make.new.disk) _ c.in-Ok.ensures.journal c.make.ensures.elapses
    c.in-Ok.ensures.settled c.in-Ok.ensures.done c.append-in-Ok.result c.append-in-Ok.ensures.no_memory (c.append-in-Ok.ensures.finishes text))

pub returns-in-Ok-clause-any_moment : goal.returns-in-Ok-clause-any_moment
returns-in-Ok-clause-any_moment g c = λ settled honest olds there.
    let text = c.args.text.now in
    let columns = c.args.rows.now.columns in
    let blocks = cut c.args.batch (drop c.args.from c.args.rows.now.rows) in
    let is_at : IsAt attached.NotMade (g.K.Disk.state c.args.disk.now).file text olds = rw c.in-NotMade.is at there in
    let still = c.make.ensures.elapses.honest ∙ honest in
    let fronts = c.append-in-Ok.ensures.any_moment still (c.in-Ok.ensures.settled honest) text [] (c.in-Ok.ensures.done honest) in
    record {
      each = rw is_at.1
          (each_on (IsGrown (g.K.Disk.state c.args.disk.now).file text columns [] blocks) _ _ _ c.make.ensures.elapses c.append-in-Ok.ensures.elapses
          (λ _ image it. made_grows (g.K.Disk.state c.args.disk.now).file text columns blocks image is_at.0 (c.make.ensures.any_moment honest settled image it))
          (λ _ image it. inl (fronts.each image it))
          honest);
      grows = grows_on text _ _ _ honest c.make.ensures.elapses c.append-in-Ok.ensures.elapses (c.make.ensures.grows honest settled) fronts.grows;
    }

pub returns-in-Err-Fault-clause-any_moment : goal.returns-in-Err-Fault-clause-any_moment
returns-in-Err-Fault-clause-any_moment g c = λ settled honest olds there.
    let is_at : IsAt attached.NotMade (g.K.Disk.state c.args.disk.now).file c.args.text.now olds = rw c.in-NotMade.is at there in
    record {
      each = λ image it. rw is_at.1 (made_grows (g.K.Disk.state c.args.disk.now).file c.args.text.now c.args.rows.now.columns (cut c.args.batch (drop c.args.from c.args.rows.now.rows)) image is_at.0 (c.make.ensures.any_moment honest settled image it));
      grows = c.make.ensures.grows honest settled;
    }
