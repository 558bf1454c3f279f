use Rattle.table_dump.specs.Texts.{names_text, rows_text}
use Rattle.table_dump.proofs.Puts.{leaves_both}
use Rattle.table_dump.proofs.dumping.dump.Goals as goal

pub returns-clause-rows : goal.returns-clause-rows
returns-clause-rows g c = λ honest text table rows e.
    let columns = c.args.schema.now in
    leaves_both (g.S.Sink.state c.args.out.now) (g.S.Sink.state c.put_names.new.out) (g.S.Sink.state c.put_blocks.new.out) (names_text columns) (rows_text columns rows)
    c.put_blocks.result c.in_ok-put_names.ensures.text (c.put_blocks.ensures.rows honest text table rows e)

pub returns-clause-any_disk : goal.returns-clause-any_disk
returns-clause-any_disk g c =
    let columns = c.args.schema.now in
    let some = c.put_blocks.ensures.any_disk in (
      some.0,
      some.1,
      leaves_both (g.S.Sink.state c.args.out.now) (g.S.Sink.state c.put_names.new.out) (g.S.Sink.state c.put_blocks.new.out) (names_text columns) (rows_text columns some.0)
          c.put_blocks.result c.in_ok-put_names.ensures.text some.2,
    )
