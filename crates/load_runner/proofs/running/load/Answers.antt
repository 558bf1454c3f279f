use Rattle.std.proofs.Common.{◌≡◌, ◌∙◌, List, ℕ, Bool, Result, Ok, true, Err, drop, length, ap, sym, subst}
use Rattle.std.specs.Bool.{⊤}
use Rattle.std.proofs.lemmas.Result.{err_from_is_err_and}
use Rattle.outside.specs.Words.{IsSettled}
use Rattle.outside.specs.Moments.{time_on}
use Rattle.tuple_schema.specs.declared.memory.Stop.{Stop}
use Rattle.tuple_schema.specs.declared.memory.Stop.TheVariants.{Memory}
use Rattle.tuple_schema.specs.declared.schema.Column.{Column}
use Rattle.table_write.specs.declared.writer.WriteFault.{WriteFault}
use Rattle.table_write.specs.Rows.{HoldsRows}
use Rattle.load_runner.specs.Adding.{Finishes, EndsTable, OfOlds, LeavesGrown}
use Rattle.load_runner.specs.Found.{State, IsFound, wrong, other}
use Rattle.load_runner.specs.Jobs.{Job}
use Rattle.load_runner.specs.Reports.{ended_report, skip_report}
use Rattle.load_runner.specs.Sources.{columns_of_last, root_columns}
use Rattle.load_runner.specs.Starts.{is_ended, count_of}
use Rattle.load_runner.specs.Stops.{of_sources, of_write}
use Rattle.load_runner.proofs.Begun.{begun}
use Rattle.load_runner.proofs.Meanings.{resumed, made_is_meaning}
use Rattle.load_runner.proofs.Ran.{began_of, missing_is, only_read, has_added, missing_of}
use Rattle.load_runner.proofs.Loaded.{refused, rested, complete, all_held, write_leaves, write_rests, sources_leave, sources_rest, loads}
use Rattle.load_runner.proofs.running.load.Goals as goal

pub returns-in-Err : goal.returns-in-Err
returns-in-Err g c =
    let columns : c.root_node-root.result.now.schema ≡ root_columns c.args.flow.now.nodes = ap columns_of_last c.root_node-root.ensures.last in
    let Is : State → List Column → Type 0 = λ s cs. IsFound (g.K.Disk.state c.args.disk.now).file c.args.text.now cs s in
    record {
      promise = rw c.of_table.ensures
          (refused c.verdicts_agree.ensures c.holds_once.ensures _ _ _ _ c.in-Err.ensures.spares c.still_laws.ensures.first_rows c.still_laws.ensures.ended c.in-Err.stop c.in-Err.ensures.elapses
          (λ place is honest. subst (Is (wrong place)) columns (c.in-Err.ensures.not_a_table place (ap Err is) honest))
          (λ is honest. subst (Is other) columns (c.in-Err.ensures.differs (ap Err is) honest))
          c.in-Err.ensures.cause);
    }

pub returns-then-is_ended : goal.returns-then-is_ended
returns-then-is_ended g c = record {
  promise = rested c.verdicts_agree.ensures c.holds_once.ensures _ _ _ _ c.in-Ok.ensures.spares c.still_laws.ensures.first_rows c.still_laws.ensures.ended c.bag_laws.ensures.lengths _ c.in-Ok.ensures.elapses
      (λ honest. (c.in-Ok.ensures.settled.settled honest, c.in-Ok.ensures.settled.file honest))
      (λ honest.
      let text = c.args.text.now in
      let columns = root_columns c.args.flow.now.nodes in
      let old = (g.K.Disk.state c.args.disk.now).file in
      let mid = (g.K.Disk.state c.open_table.new.disk).file in
      let start = begun c.in-Ok.found mid text columns (rw (ap columns_of_last c.root_node-root.ensures.last) at (c.in-Ok.ensures.found honest)) in
      let ended : is_ended c.in-Ok.found ≡ true = sym c.if-is_ended.ensures in
      let here : HoldsRows mid text columns start.committed true = subst (λ (b : Bool). HoldsRows mid text columns start.committed b) ended start.holds in
      let there : HoldsRows old text columns start.committed true =
      subst (λ (file : List ℕ). HoldsRows file text columns start.committed true) ((c.in-Ok.ensures.settled).file honest) here in
      (start.committed, there, c.ended_report.ensures ∙ ap ended_report (c.count_of-before.ensures ∙ start.count)));
}

pub returns-in_err-writer : goal.returns-in_err-writer
returns-in_err-writer g c =
    let p = err_from_is_err_and c.from_residual.result c.from_residual.ensures.1 in
    record {
      promise = rw (p.1, p.2)
          (refused c.verdicts_agree.ensures c.holds_once.ensures _ _ _ _ c.in-Ok.ensures.spares c.still_laws.ensures.first_rows c.still_laws.ensures.ended Memory c.in-Ok.ensures.elapses
          (λ place is. cc) (λ is. cc) tt);
    }

pub finish-requires-clause-start : goal.finish-requires-clause-start
finish-requires-clause-start g c = λ honest.
    let start = begun c.in-Ok.found _ c.args.text.now _ (c.in-Ok.ensures.found (sym c.open_table.ensures.elapses.honest ∙ honest)) in
    (start.olds, start.at (sym c.if-is_ended.ensures))

pub returns-in-Err-whole_rows : goal.returns-in-Err-whole_rows
returns-in-Err-whole_rows g c =
    let old = g.K.Disk.state c.args.disk.now in
    let mid = g.K.Disk.state c.open_table.new.disk in
    let depot = g.D.Depot.state c.args.depot.now in
    let still = g.D.Depot.state c.whole_rows.new.depot in
    let job : Job = record { flow = c.args.flow.now; text = c.args.text.now; batch = c.args.batch } in
    let began = began_of job c.in-Ok.found old mid c.root_node-root.result.now c.root_node-root.ensures.last c.open_table.ensures.elapses c.open_table.ensures.spares c.in-Ok.ensures.settled c.in-Ok.ensures.found c.if-is_ended.ensures in
    let s = c.in-Err-whole_rows.stop in
    record {
      promise = rw c.of_sources.ensures
          (loads c.verdicts_agree.ensures c.holds_once.ensures c.blocks_laws.ensures c.cut_laws.ensures.is_cut job depot still c.in-Ok.found old mid mid
          (only_read job depot.files c.in-Ok.found old mid began) c.root_node-root.ensures.flow c.tree_laws.ensures.root c.root_node-root.ensures.fixed c.still_laws.ensures.first_rows c.still_laws.ensures.ended c.bag_laws.ensures.appended
          c.requires.some c.whole_rows.ensures.consults c.open_table.ensures.elapses c.whole_rows.ensures.served (Err (of_sources s))
          (λ is. sources_leave job depot.files _ _ _ old mid s c.open_table.ensures.spares)
          (sources_rest job depot still old mid s (λ f at. c.in-Err-whole_rows.ensures.refused f (ap Err at)) c.in-Err-whole_rows.ensures.cause)
          (λ files told whole means is safe. tt));
    }

pub returns-in_err-report : goal.returns-in_err-report
returns-in_err-report g c =
    let old = g.K.Disk.state c.args.disk.now in
    let mid = g.K.Disk.state c.open_table.new.disk in
    let depot = g.D.Depot.state c.args.depot.now in
    let still = g.D.Depot.state c.whole_rows.new.depot in
    let job : Job = record { flow = c.args.flow.now; text = c.args.text.now; batch = c.args.batch } in
    let began = began_of job c.in-Ok.found old mid c.root_node-root.result.now c.root_node-root.ensures.last c.open_table.ensures.elapses c.open_table.ensures.spares c.in-Ok.ensures.settled c.in-Ok.ensures.found c.if-is_ended.ensures in
    let p = err_from_is_err_and c.from_residual-in_err-report.result c.from_residual-in_err-report.ensures.1 in
    record {
      promise = rw (p.1, p.2)
          (loads c.verdicts_agree.ensures c.holds_once.ensures c.blocks_laws.ensures c.cut_laws.ensures.is_cut job depot still c.in-Ok.found old mid mid
          (only_read job depot.files c.in-Ok.found old mid began) c.root_node-root.ensures.flow c.tree_laws.ensures.root c.root_node-root.ensures.fixed c.still_laws.ensures.first_rows c.still_laws.ensures.ended c.bag_laws.ensures.appended
          c.requires.some c.whole_rows.ensures.consults c.open_table.ensures.elapses c.whole_rows.ensures.served (Err Memory)
          (λ is. c.open_table.ensures.spares) tt (λ files told whole means is safe. tt));
    }

pub returns-in-Ok-finish : goal.returns-in-Ok-finish
returns-in-Ok-finish g c =
    let agree = c.verdicts_agree.ensures in
    let once = c.holds_once.ensures in
    let law = c.blocks_laws.ensures in
    let cuts = c.cut_laws.ensures.is_cut in
    let old = g.K.Disk.state c.args.disk.now in
    let mid = g.K.Disk.state c.open_table.new.disk in
    let new = g.K.Disk.state c.finish.new.disk in
    let depot = g.D.Depot.state c.args.depot.now in
    let still = g.D.Depot.state c.whole_rows.new.depot in
    let job : Job = record { flow = c.args.flow.now; text = c.args.text.now; batch = c.args.batch } in
    let whole = c.in-Ok-whole_rows.whole.rows in
    let made = c.in-Ok-whole_rows.ensures.made in
    let began = began_of job c.in-Ok.found old mid c.root_node-root.result.now c.root_node-root.ensures.last c.open_table.ensures.elapses c.open_table.ensures.spares c.in-Ok.ensures.settled c.in-Ok.ensures.found c.if-is_ended.ensures in
    let missing : drop c.place_behind-from.result whole ≡ drop (count_of c.in-Ok.found) whole =
    c.place_behind-from.ensures.behind ∙ ap (λ n. drop n whole) c.count_of-before.ensures in
    let columns : c.in-Ok-whole_rows.whole.columns ≡ root_columns c.args.flow.now.nodes =
    (rw (← c.root_node-root.ensures.last) at c.in-Ok-whole_rows.ensures.columns) ∙ ap columns_of_last c.root_node-root.ensures.last in
    let is_missing = missing_is job c.in-Ok.found c.in-Ok-whole_rows.whole columns c.place_behind-from.result missing in
    let ran = has_added job depot.files c.in-Ok.found old mid new began c.finish.ensures.elapses whole made
    (is_missing (λ adding. IsSettled mid → OfOlds adding mid (λ olds. LeavesGrown adding olds mid new)) c.finish.ensures.any_moment) in
    let root = c.root_node-root.result.now in
    let ends : EndsTable (missing_of job c.in-Ok.found whole) mid new = is_missing (λ adding. EndsTable adding mid new) c.in-Ok-finish.ensures.finishes in
    let reported : c.in_ok-report.report ≡ skip_report root.id (count_of c.in-Ok.found) (length whole) =
    c.in_ok-report.ensures ∙ ap (λ n. skip_report root.id n c.len.result) c.count_of-before.ensures ∙ ap (skip_report root.id (count_of c.in-Ok.found)) c.len.ensures.len in
    record {
      promise = loads agree once law cuts job depot still c.in-Ok.found old mid new ran c.root_node-root.ensures.flow c.tree_laws.ensures.root c.root_node-root.ensures.fixed c.still_laws.ensures.first_rows c.still_laws.ensures.ended c.bag_laws.ensures.appended
          c.requires.some c.whole_rows.ensures.consults (time_on old mid new c.open_table.ensures.elapses c.finish.ensures.elapses) c.whole_rows.ensures.served (Ok c.in_ok-report.report)
          (λ is. complete agree once law cuts job depot.files c.in-Ok.found old mid new (ran is) (λ had all makes. resumed c.args.flow.now c.root_node-root.ensures.flow c.tree_laws.ensures.root depot.files had all makes) whole made c.requires.some c.in_ok-report.report root c.root_node-root.ensures.last reported ends)
          tt
          (λ files told meaning means is safe.
          all_held agree once law cuts job depot.files c.in-Ok.found old mid new (ran is) (λ had all makes. resumed c.args.flow.now c.root_node-root.ensures.flow c.tree_laws.ensures.root depot.files had all makes) whole made c.requires.some
          (λ files are one other means makes. made_is_meaning c.args.flow.now c.root_node-root.ensures.flow c.root_node-root.ensures.fixed files depot.files are one other means makes) c.root_node-root.ensures.fixed ends files told meaning means safe);
    }

pub returns : goal.returns
returns g c =
    let agree = c.verdicts_agree.ensures in
    let once = c.holds_once.ensures in
    let law = c.blocks_laws.ensures in
    let cuts = c.cut_laws.ensures.is_cut in
    let old = g.K.Disk.state c.args.disk.now in
    let mid = g.K.Disk.state c.open_table.new.disk in
    let new = g.K.Disk.state c.finish.new.disk in
    let depot = g.D.Depot.state c.args.depot.now in
    let still = g.D.Depot.state c.whole_rows.new.depot in
    let job : Job = record { flow = c.args.flow.now; text = c.args.text.now; batch = c.args.batch } in
    let whole = c.in-Ok-whole_rows.whole.rows in
    let made = c.in-Ok-whole_rows.ensures.made in
    let began = began_of job c.in-Ok.found old mid c.root_node-root.result.now c.root_node-root.ensures.last c.open_table.ensures.elapses c.open_table.ensures.spares c.in-Ok.ensures.settled c.in-Ok.ensures.found c.if-is_ended.ensures in
    let missing : drop c.place_behind-from.result whole ≡ drop (count_of c.in-Ok.found) whole =
    c.place_behind-from.ensures.behind ∙ ap (λ n. drop n whole) c.count_of-before.ensures in
    let columns : c.in-Ok-whole_rows.whole.columns ≡ root_columns c.args.flow.now.nodes =
    (rw (← c.root_node-root.ensures.last) at c.in-Ok-whole_rows.ensures.columns) ∙ ap columns_of_last c.root_node-root.ensures.last in
    let is_missing = missing_is job c.in-Ok.found c.in-Ok-whole_rows.whole columns c.place_behind-from.result missing in
    let ran = has_added job depot.files c.in-Ok.found old mid new began c.finish.ensures.elapses whole made
    (is_missing (λ adding. IsSettled mid → OfOlds adding mid (λ olds. LeavesGrown adding olds mid new)) c.finish.ensures.any_moment) in
    let s = c.in-Err-finish.stop in
    let finishes = is_missing (λ adding. let answer : Result ⊤ (Stop WriteFault) = Err s in Finishes adding mid new answer) c.in-Err-finish.ensures.finishes in
    record {
      promise = rw c.of_write.ensures
          (loads agree once law cuts job depot still c.in-Ok.found old mid new ran c.root_node-root.ensures.flow c.tree_laws.ensures.root c.root_node-root.ensures.fixed c.still_laws.ensures.first_rows c.still_laws.ensures.ended c.bag_laws.ensures.appended
          c.requires.some c.whole_rows.ensures.consults (time_on old mid new c.open_table.ensures.elapses c.finish.ensures.elapses) c.whole_rows.ensures.served (Err (of_write s))
          (λ is. write_leaves agree once law cuts job depot.files c.in-Ok.found old mid new (ran is) (λ had all makes. resumed c.args.flow.now c.root_node-root.ensures.flow c.tree_laws.ensures.root depot.files had all makes) whole made s finishes)
          (write_rests job depot still old mid new (missing_of job c.in-Ok.found whole) s c.open_table.ensures.elapses.faults finishes)
          (λ files told meaning means is safe. tt));
    }
