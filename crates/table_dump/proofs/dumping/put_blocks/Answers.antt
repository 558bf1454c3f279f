use Rattle.std.proofs.Common.{◌≡◌, ◌∙◌, ◌<◌, ◌+◌, ◌++◌, ◌≤◌, ℕ, List, [], length, Option, ap, Ok, Err, Some, refl, sym, subst, arith}
use Rattle.std.proofs.lemmas.Result.{err_from_is_err_and}
use Rattle.outside.specs.Sink.{Gains, GainsFront}
use Rattle.outside.specs.Moments.{no_read, read_on}
use Rattle.tuple_schema.specs.declared.value.Value.{Value}
use Rattle.tuple_schema.specs.declared.schema.Column.{Column}
use Rattle.commit_disk.specs.Table.{content_of, row_blocks}
use Rattle.commit_disk.specs.BlockHeads.{IsBlockAt}
use Rattle.table_read.specs.Rows.{table_rows, block_rows, next_gate}
use Rattle.table_read.specs.Places.{wrong_place}
use Rattle.table_read.specs.Blocks.{ReadsBlock}
use Rattle.table_dump.specs.Texts.{rows_text}
use Rattle.table_dump.proofs.Puts.{puts_none}
use Rattle.table_dump.proofs.Rows.{some_none, any_none, any_on, rows_on}
use Rattle.table_dump.proofs.Walks.{StandsAt, stands_at_first, stands_on, all_done, judges_here}
use Rattle.table_dump.proofs.Dumped.{stops_with, fails_with, judges_nothing, same_rows, below}
use Rattle.table_dump.proofs.dumping.put_blocks.Goals as goal

pub loop-next-init : goal.loop-next-init
loop-next-init g c =
    let columns = c.args.schema.now in
    let journal = c.args.journal.now in
    let out = g.S.Sink.state c.args.out.now in
    record {
      columns = c.in_ok-batch.ensures.columns;
      read = no_read (g.K.Disk.state c.args.disk.now);
      within = c.first-at.ensures.ordered;
      output = omega arith;
      any = some_none columns out;
      told = λ honest text table. record {
        done = [];
        stands = subst (λ (n : ℕ). StandsAt columns text table.blocks n (table_rows columns (16 + length text) (row_blocks table.blocks)) []) (sym c.first-at.ensures.first)
            (stands_at_first columns journal (g.K.Disk.state c.args.disk.now).file text table);
        gains = puts_none out;
      };
    }

pub returns-in_err-text-in-Ok-Some-clause-rows : goal.returns-in_err-text-in-Ok-Some-clause-rows
returns-in_err-text-in-Ok-Some-clause-rows g c = λ honest text table rows e.
    let columns = c.args.schema.now in
    let journal = c.args.journal.now in
    let read = c.loop-next.invariant.read in
    let at = c.loop-next.at in
    let taken = c.next_block.new.into.rows in
    let cleared : c.clear.new.self.columns ≡ columns = c.clear.ensures.columns ∙ c.loop-next.invariant.columns in
    let next = c.in-Ok-Some.next in
    let filled : c.next_block.new.into.columns ≡ columns = c.next_block.ensures.columns ∙ cleared in
    let onward : (at < next) × (next ≤ journal.gate) = rw c.in-Ok-Some.field-0-is at c.in-Ok-Some.ensures.onward in
    let lt : at < journal.gate = omega (arith, onward.0, onward.1) in
    let old = g.S.Sink.state c.args.out.now in
    let mid = g.S.Sink.state c.loop-next.out in
    let new = g.S.Sink.state c.put_rows.new.out in
    let reading = table_rows columns (16 + length text) (row_blocks table.blocks) in
    let has = c.loop-next.invariant.told honest text table in
    let stands = stands_on columns (g.K.Disk.state c.args.disk.now).file text table.blocks at journal.gate reading has.done table.holds next taken lt has.stands
    (λ block here. subst (λ (cs : List Column). ReadsBlock (Ok (Some next)) taken (next_gate at (content_of block)) (block_rows cs at (content_of block))) cleared
    (subst (λ (o : Option ℕ). ReadsBlock (Ok o) taken (next_gate at (content_of block)) (block_rows c.clear.new.self.columns at (content_of block))) c.in-Ok-Some.field-0-is
    (c.in-Ok-Some.ensures.rows (read.elapses.honest ∙ honest) block (subst (λ (file : List ℕ). IsBlockAt at journal.gate file block) (sym (read.keeps.file honest)) here)))) in
    let p = err_from_is_err_and c.from_residual-in_err-text-in-Ok-Some.result c.from_residual-in_err-text-in-Ok-Some.ensures.1 in
    rw p.1 (fails_with columns text table.blocks at next reading rows taken old mid new has stands e
    (subst (λ (cs : List Column). GainsFront (rows_text cs taken) mid new) filled c.in_err-text-in-Ok-Some.ensures.rows))

pub returns-in_err-text-in-Ok-Some-clause-judges : goal.returns-in_err-text-in-Ok-Some-clause-judges
returns-in_err-text-in-Ok-Some-clause-judges g c = λ honest text table.
    let reading = table_rows c.args.schema.now (16 + length text) (row_blocks table.blocks) in
    let p = err_from_is_err_and c.from_residual-in_err-text-in-Ok-Some.result c.from_residual-in_err-text-in-Ok-Some.ensures.1 in
    rw (p.1, p.2) (judges_nothing (g.S.Sink.state c.loop-next.out) (g.S.Sink.state c.put_rows.new.out) c.in_err-text-in-Ok-Some.field-0.0 (wrong_place reading) c.in_err-text-in-Ok-Some.ensures.cause)

pub returns-in_err-text-in-Ok-Some-clause-any_disk : goal.returns-in_err-text-in-Ok-Some-clause-any_disk
returns-in_err-text-in-Ok-Some-clause-any_disk g c =
    let columns = c.args.schema.now in
    let journal = c.args.journal.now in
    let read = c.loop-next.invariant.read in
    let at = c.loop-next.at in
    let taken = c.next_block.new.into.rows in
    let cleared : c.clear.new.self.columns ≡ columns = c.clear.ensures.columns ∙ c.loop-next.invariant.columns in
    let next = c.in-Ok-Some.next in
    let filled : c.next_block.new.into.columns ≡ columns = c.next_block.ensures.columns ∙ cleared in
    let onward : (at < next) × (next ≤ journal.gate) = rw c.in-Ok-Some.field-0-is at c.in-Ok-Some.ensures.onward in
    let lt : at < journal.gate = omega (arith, onward.0, onward.1) in
    let old = g.S.Sink.state c.args.out.now in
    let mid = g.S.Sink.state c.loop-next.out in
    let new = g.S.Sink.state c.put_rows.new.out in
    let p = err_from_is_err_and c.from_residual-in_err-text-in-Ok-Some.result c.from_residual-in_err-text-in-Ok-Some.ensures.1 in
    rw p.1 (any_on {T = Unit {0}} columns c.next_block.new.into.columns old mid new (Err c.in_err-text-in-Ok-Some.field-0.0) c.loop-next.invariant.any filled c.in_err-text-in-Ok-Some.ensures.any)

pub returns-in_err-text-in-Ok-Some-clause-only_read : goal.returns-in_err-text-in-Ok-Some-clause-only_read
returns-in_err-text-in-Ok-Some-clause-only_read g c = read_on _ _ _ c.loop-next.invariant.read c.next_block.ensures.only_read

pub loop-next-preserved : goal.loop-next-preserved
loop-next-preserved g c =
    let columns = c.args.schema.now in
    let journal = c.args.journal.now in
    let read = c.loop-next.invariant.read in
    let at = c.loop-next.at in
    let taken = c.next_block.new.into.rows in
    let cleared : c.clear.new.self.columns ≡ columns = c.clear.ensures.columns ∙ c.loop-next.invariant.columns in
    let next = c.in-Ok-Some.next in
    let filled : c.next_block.new.into.columns ≡ columns = c.next_block.ensures.columns ∙ cleared in
    let onward : (at < next) × (next ≤ journal.gate) = rw c.in-Ok-Some.field-0-is at c.in-Ok-Some.ensures.onward in
    let lt : at < journal.gate = omega (arith, onward.0, onward.1) in
    let old = g.S.Sink.state c.args.out.now in
    let mid = g.S.Sink.state c.loop-next.out in
    let new = g.S.Sink.state c.put_rows.new.out in
    record {
      columns = filled;
      read = read_on _ _ _ read c.next_block.ensures.only_read;
      within = onward.1;
      output = omega (arith, c.loop-next.invariant.output, c.put_rows.ensures.output);
      any = any_on {E = Unit {0}} columns c.next_block.new.into.columns old mid new (Ok (tt {0})) c.loop-next.invariant.any filled c.in_ok-text-in-Ok-Some.ensures.any;
      told = λ honest text table.
          let reading = table_rows columns (16 + length text) (row_blocks table.blocks) in
          let has = c.loop-next.invariant.told honest text table in
          record {
            done = has.done ++ taken;
            stands = stands_on columns (g.K.Disk.state c.args.disk.now).file text table.blocks at journal.gate reading has.done table.holds next taken lt has.stands
                (λ block here. subst (λ (cs : List Column). ReadsBlock (Ok (Some next)) taken (next_gate at (content_of block)) (block_rows cs at (content_of block))) cleared
                (subst (λ (o : Option ℕ). ReadsBlock (Ok o) taken (next_gate at (content_of block)) (block_rows c.clear.new.self.columns at (content_of block))) c.in-Ok-Some.field-0-is
                (c.in-Ok-Some.ensures.rows (read.elapses.honest ∙ honest) block (subst (λ (file : List ℕ). IsBlockAt at journal.gate file block) (sym (read.keeps.file honest)) here))));
            gains = rows_on {E = Unit {0}} columns old mid new has.done taken (Ok (tt {0})) has.gains
                (subst (λ (cs : List Column). Gains (rows_text cs taken) mid new) filled c.in_ok-text-in-Ok-Some.ensures.rows);
          };
    }

pub returns-in-Ok-None-clause-rows : goal.returns-in-Ok-None-clause-rows
returns-in-Ok-None-clause-rows g c = λ honest text table rows e.
    let columns = c.args.schema.now in
    let journal = c.args.journal.now in
    let reading = table_rows columns (16 + length text) (row_blocks table.blocks) in
    let has = c.loop-next.invariant.told honest text table in
    let done = all_done columns (g.K.Disk.state c.args.disk.now).file text table.blocks c.loop-next.at journal.gate reading has.done table.holds (c.in-Ok-None.ensures.none.0 (ap Ok c.in-Ok-None.field-0-is)) has.stands in
    subst (λ (rs : List (List Value)). Gains (rows_text columns rs) (g.S.Sink.state c.args.out.now) (g.S.Sink.state c.loop-next.out)) (same_rows has.done rows (sym done ∙ e)) has.gains

pub returns-in-Ok-None-clause-judges : goal.returns-in-Ok-None-clause-judges
returns-in-Ok-None-clause-judges g c = λ honest text table.
    let columns = c.args.schema.now in
    let journal = c.args.journal.now in
    let reading = table_rows columns (16 + length text) (row_blocks table.blocks) in
    let has = c.loop-next.invariant.told honest text table in
    let done = all_done columns (g.K.Disk.state c.args.disk.now).file text table.blocks c.loop-next.at journal.gate reading has.done table.holds (c.in-Ok-None.ensures.none.0 (ap Ok c.in-Ok-None.field-0-is)) has.stands in
    ap wrong_place done

pub returns-in-Ok-None-clause-only_read : goal.returns-in-Ok-None-clause-only_read
returns-in-Ok-None-clause-only_read g c = read_on _ _ _ c.loop-next.invariant.read c.next_block.ensures.only_read

pub returns-in-Err-clause-rows : goal.returns-in-Err-clause-rows
returns-in-Err-clause-rows g c = λ honest text table rows e.
    let columns = c.args.schema.now in
    stops_with columns text table.blocks c.loop-next.at (table_rows columns (16 + length text) (row_blocks table.blocks)) rows (g.S.Sink.state c.args.out.now) (g.S.Sink.state c.loop-next.out) (c.loop-next.invariant.told honest text table) e

pub returns-in-Err-clause-judges : goal.returns-in-Err-clause-judges
returns-in-Err-clause-judges g c = λ honest text table.
    let columns = c.args.schema.now in
    let journal = c.args.journal.now in
    let read = c.loop-next.invariant.read in
    let at = c.loop-next.at in
    let taken = c.next_block.new.into.rows in
    let cleared : c.clear.new.self.columns ≡ columns = c.clear.ensures.columns ∙ c.loop-next.invariant.columns in
    let theirs = c.in-Err.stop in
    let reading = table_rows columns (16 + length text) (row_blocks table.blocks) in
    let has = c.loop-next.invariant.told honest text table in
    let lt : at < journal.gate = below at journal.gate c.loop-next.invariant.within (λ last. let never = c.in-Err.ensures.none.1 last in absurd cc) in
    judges_here columns (g.K.Disk.state c.args.disk.now).file text table.blocks at journal.gate reading has.done table.holds theirs c.of_reading.result taken lt has.stands
    (λ block here. subst (λ (cs : List Column). ReadsBlock (Err theirs) taken (next_gate at (content_of block)) (block_rows cs at (content_of block))) cleared
    (c.in-Err.ensures.rows (read.elapses.honest ∙ honest) block (subst (λ (file : List ℕ). IsBlockAt at journal.gate file block) (sym (read.keeps.file honest)) here)))
    c.of_reading.ensures

pub returns-in-Err-clause-any_disk : goal.returns-in-Err-clause-any_disk
returns-in-Err-clause-any_disk g c =
    let columns = c.args.schema.now in
    let new = g.S.Sink.state c.loop-next.out in
    any_on {T = Unit {0}} columns columns (g.S.Sink.state c.args.out.now) new new (Err c.of_reading.result) c.loop-next.invariant.any refl
    (any_none {T = Unit {0}} columns new (Err c.of_reading.result))

pub returns-in-Err-clause-only_read : goal.returns-in-Err-clause-only_read
returns-in-Err-clause-only_read g c = read_on _ _ _ c.loop-next.invariant.read c.next_block.ensures.only_read
