use Rattle.std.proofs.Common.{◌≡◌, ◌∙◌, ◌<◌, ◌+◌, ◌^◌, inl, inr, length, drop, All, sym, ap, subst, arith}
use Rattle.std.proofs.lemmas.Bool.{cases_lt, iff_false}
use Rattle.std.proofs.lemmas.List.Concat.{length-flat_map}
use Rattle.std.specs.List.{sum_by}
use Rattle.row_codec.specs.Decoding.{IsRowOf}
use Rattle.commit_disk.specs.Journal.{JournalState}
use Rattle.commit_disk.specs.RowTables.{commits_end}
use Rattle.table_write.specs.Cut.{cut}
use Rattle.table_write.proofs.Cuts.{cut_is}
use Rattle.table_write.proofs.Adding.{leaves_end, stops_at_end, filled_at_end}
use Rattle.table_write.proofs.writer.Writer.append.Goals as goal

pub returns-then-not-fits-clause-full : goal.returns-then-not-fits-clause-full
returns-then-not-fits-clause-full g c = λ is_full.
    let blocks = c.in_ok-append_blocks.ensures in
    let full : 2 ^ 48 < c.append_blocks.new.journal.gate + 11 =
    elim (cases_lt (2 ^ 48) (c.append_blocks.new.journal.gate + 11)) [
      | inl past ↦ past
      | inr le ↦ absurd (iff_false c.fits.ensures c.if-not-fits.true (omega (arith, le, c.gate.ensures.gate)))
    ] in
    filled_at_end c.args.rows.now.columns (cut c.args.batch (drop c.args.from c.args.rows.now.rows)) c.args.journal.now (g.K.Disk.state c.args.disk.now)
    c.append_blocks.new.journal (g.K.Disk.state c.append_blocks.new.disk) blocks.added blocks.each_fits full

pub returns-in_err-end-clause-any_moment : goal.returns-in_err-end-clause-any_moment
returns-in_err-end-clause-any_moment g c =
    let blocks = c.in_ok-append_blocks.ensures in
    let end = c.end.ensures in
    leaves_end c.args.rows.now.columns (cut c.args.batch (drop c.args.from c.args.rows.now.rows)) c.args.journal.now (g.K.Disk.state c.args.disk.now)
    c.append_blocks.new.journal (g.K.Disk.state c.append_blocks.new.disk) blocks.added (g.K.Disk.state c.end.new.disk) blocks.elapses blocks.any_moment end.any_moment end.grows end.elapses

pub returns-in_err-end-clause-stops : goal.returns-in_err-end-clause-stops
returns-in_err-end-clause-stops g c = λ failed.
    let blocks = c.in_ok-append_blocks.ensures in
    stops_at_end c.args.rows.now.columns (cut c.args.batch (drop c.args.from c.args.rows.now.rows)) c.args.journal.now (g.K.Disk.state c.args.disk.now)
    c.append_blocks.new.journal (g.K.Disk.state c.append_blocks.new.disk) blocks.added (g.K.Disk.state c.end.new.disk) blocks.elapses c.end.ensures.any_moment c.end.ensures.elapses

pub returns-clause-of_columns : goal.returns-clause-of_columns
returns-clause-of_columns g c =
    let cuts = cut_is c.args.batch (drop c.args.from c.args.rows.now.rows) c.requires.some in
    subst (All (IsRowOf c.args.rows.now.columns)) (sym cuts.whole) c.in_ok-append_blocks.ensures.added.of_columns

pub returns-clause-any_moment : goal.returns-clause-any_moment
returns-clause-any_moment g c =
    let blocks = c.in_ok-append_blocks.ensures in
    let end = c.end.ensures in
    leaves_end c.args.rows.now.columns (cut c.args.batch (drop c.args.from c.args.rows.now.rows)) c.args.journal.now (g.K.Disk.state c.args.disk.now)
    c.append_blocks.new.journal (g.K.Disk.state c.append_blocks.new.disk) blocks.added (g.K.Disk.state c.end.new.disk) blocks.elapses blocks.any_moment end.any_moment end.grows end.elapses

pub returns-clause-count : goal.returns-clause-count
returns-clause-count g c =
    let rows = drop c.args.from c.args.rows.now.rows in
    let blocks = cut c.args.batch rows in
    let cuts = cut_is c.args.batch (drop c.args.from c.args.rows.now.rows) c.requires.some in
    let all : length rows ≡ sum_by length blocks = ap length cuts.whole ∙ length-flat_map (λ block. block) blocks in
    let ended = ap (λ (j : JournalState). j.count) c.in_ok-end.ensures.moved in
    let added = ap (λ (j : JournalState). j.count) c.in_ok-append_blocks.ensures.added.moved in
    omega (arith, all, ended, added)

pub returns-clause-done : goal.returns-clause-done
returns-clause-done g c = λ honest text olds held.
    let blocks = c.in_ok-append_blocks.ensures in
    commits_end _ _ _ _ (c.in_ok-end.ensures.done (blocks.elapses.honest ∙ honest)) text _ (blocks.added.holds honest text olds held)
