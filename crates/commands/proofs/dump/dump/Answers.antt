use Rattle.std.proofs.Common.{◌≡◌, ◌∙◌, List, ℕ, Ok, Err, refl, ap, subst}
use Rattle.outside.specs.Moments.{spares_on}
use Rattle.tuple_schema.specs.declared.schema.Column.{Column}
use Rattle.commit_disk.specs.Table.{IsNotMade}
use Rattle.load_runner.specs.Found.{wrong, other}
use Rattle.load_runner.specs.Sources.{root_columns, columns_of_last}
use Rattle.commands.specs.Found.{flow_text_of}
use Rattle.commands.proofs.Dumped.{found_as, not_made, refused, some_as, showed, showed_of}
use Rattle.commands.proofs.dump.dump.Goals as goal

pub returns-in-Ok-NotMade : goal.returns-in-Ok-NotMade
returns-in-Ok-NotMade g c = λ depot.
    let disk = g.K.Disk.state c.args.disk.now in
    let opened = g.K.Disk.state c.open_table.new.disk in
    not_made (flow_text_of c.args.found.now) c.found_once.ensures depot disk opened (g.S.Sink.state c.args.out.now) c.open_table.ensures.spares c.open_table.ensures.elapses
    (λ is. subst IsNotMade (c.in-Ok-NotMade.ensures.settled.file is) (rw c.in-Ok-NotMade.field-0-is at (c.in-Ok-NotMade.ensures.found is)))

pub returns-in-Err : goal.returns-in-Err
returns-in-Err g c = λ depot.
    let job = flow_text_of c.args.found.now in
    let disk = g.K.Disk.state c.args.disk.now in
    let opened = g.K.Disk.state c.open_table.new.disk in
    let text : List ℕ = c.deref.result.now in
    let columns : List Column = c.root_node.result.now.schema in
    let same_columns : columns ≡ root_columns job.flow.nodes = ap columns_of_last c.root_node.ensures.last in
    rw c.reason_of_table.ensures
    (refused job c.found_once.ensures depot disk opened (g.S.Sink.state c.args.out.now) c.open_table.ensures.spares c.open_table.ensures.elapses c.in-Err.stop
    (λ place e is. found_as disk.file text columns (wrong place) job.text (root_columns job.flow.nodes) c.deref.ensures.value same_columns (c.in-Err.ensures.not_a_table place (ap Err e) is))
    (λ e is. found_as disk.file text columns other job.text (root_columns job.flow.nodes) c.deref.ensures.value same_columns (c.in-Err.ensures.differs (ap Err e) is))
    (λ e. (rw e at c.in-Err.ensures.cause) refl))

pub returns-in-Ok : goal.returns-in-Ok
returns-in-Ok g c = λ depot.
    let job = flow_text_of c.args.found.now in
    let disk = g.K.Disk.state c.args.disk.now in
    let opened = g.K.Disk.state c.open_table.new.disk in
    let now = g.K.Disk.state c.dump.new.disk in
    let out = g.S.Sink.state c.args.out.now in
    let then = g.S.Sink.state c.dump.new.out in
    let text : List ℕ = c.deref.result.now in
    let columns : List Column = c.root_node.result.now.schema in
    let same_columns : columns ≡ root_columns job.flow.nodes = ap columns_of_last c.root_node.ensures.last in
    let earlier = c.open_table.ensures.elapses in
    showed c.found_once.ensures job depot disk opened now out then (Ok tt) (spares_on disk opened now earlier c.open_table.ensures.spares c.dump.ensures.only_read) earlier c.dump.ensures.only_read
    (λ is. showed_of job disk out then (Ok tt) c.in-Ok-Made.journal opened.file text columns (c.in-Ok-Made.ensures.settled.file is) c.deref.ensures.value same_columns
    (rw c.in-Ok-Made.field-0-is at (c.in-Ok-Made.ensures.found is)) (c.in-Ok.ensures.rows (earlier.honest ∙ is)) (c.in-Ok.ensures.judges (earlier.honest ∙ is)))
    (some_as columns (root_columns job.flow.nodes) out then (Ok tt) same_columns c.in-Ok.ensures.any_disk) c.in-Ok.ensures.causes c.dump.ensures.output

pub returns-in-Err-dump : goal.returns-in-Err-dump
returns-in-Err-dump g c = λ depot.
    let job = flow_text_of c.args.found.now in
    let disk = g.K.Disk.state c.args.disk.now in
    let opened = g.K.Disk.state c.open_table.new.disk in
    let now = g.K.Disk.state c.dump.new.disk in
    let out = g.S.Sink.state c.args.out.now in
    let then = g.S.Sink.state c.dump.new.out in
    let text : List ℕ = c.deref.result.now in
    let columns : List Column = c.root_node.result.now.schema in
    let same_columns : columns ≡ root_columns job.flow.nodes = ap columns_of_last c.root_node.ensures.last in
    let earlier = c.open_table.ensures.elapses in
    rw c.reason_of_dump.ensures (showed c.found_once.ensures job depot disk opened now out then (Err c.in-Err-dump.stop) (spares_on disk opened now earlier c.open_table.ensures.spares c.dump.ensures.only_read) earlier c.dump.ensures.only_read
    (λ is. showed_of job disk out then (Err c.in-Err-dump.stop) c.in-Ok-Made.journal opened.file text columns (c.in-Ok-Made.ensures.settled.file is) c.deref.ensures.value same_columns
    (rw c.in-Ok-Made.field-0-is at (c.in-Ok-Made.ensures.found is)) (c.in-Err-dump.ensures.rows (earlier.honest ∙ is)) (c.in-Err-dump.ensures.judges (earlier.honest ∙ is)))
    (some_as columns (root_columns job.flow.nodes) out then (Err c.in-Err-dump.stop) same_columns c.in-Err-dump.ensures.any_disk) c.in-Err-dump.ensures.causes c.dump.ensures.output)
