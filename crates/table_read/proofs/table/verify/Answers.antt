use Rattle.std.proofs.Common.{◌≡◌, ◌∙◌, ℕ, List, sym, subst, arith}
use Rattle.std.proofs.lemmas.Result.{err_from_is_err_and}
use Rattle.commit_disk.specs.BlockHeads.{IsBlockAt}
use Rattle.table_read.proofs.Standing.{StandFrom, tells_stand, at_end, stops_here, on_from_here}
use Rattle.outside.specs.Moments.{no_read, read_on}
use Rattle.table_read.proofs.table.verify.Goals as goal

pub loop-gate-init : goal.loop-gate-init
loop-gate-init g c = record {
  read = no_read (g.K.Disk.state c.args.disk.now);
  within = c.first-gate.ensures.ordered;
  rows = λ honest text table.
      let journal = c.args.journal.now in
      subst (λ (n : ℕ). StandFrom c.args.schema.now text table.blocks journal.first n) (sym c.first-gate.ensures.first)
      (tells_stand c.args.schema.now journal (g.K.Disk.state c.args.disk.now).file text table);
}

pub returns-in_err-gate-clause-rows : goal.returns-in_err-gate-clause-rows
returns-in_err-gate-clause-rows g c = λ honest text table.
    let journal = c.args.journal.now in
    let read = c.loop-gate.invariant.read in
    let last : c.gate.result ≡ journal.gate = c.gate.ensures.gate in
    let same = read.keeps.file honest in
    let p = err_from_is_err_and c.from_residual.result c.from_residual.ensures.1 in
    rw (p.1, p.2) (stops_here c.args.schema.now (g.K.Disk.state c.args.disk.now).file text table.blocks journal.first c.loop-gate.gate journal.gate table.holds
    c.in_err-gate.field-0.0 (omega arith) (c.loop-gate.invariant.rows honest text table)
    (λ block at. c.in_err-gate.ensures.rows (read.elapses.honest ∙ honest) block (subst (λ (file : List ℕ). IsBlockAt c.loop-gate.gate journal.gate file block) (sym same) at)))

pub loop-gate-preserved : goal.loop-gate-preserved
loop-gate-preserved g c =
    let journal = c.args.journal.now in
    let last : c.gate.result ≡ journal.gate = c.gate.ensures.gate in
    record {
      read = read_on _ _ _ c.loop-gate.invariant.read c.verify_block.ensures.only_read;
      within = c.in_ok-gate.ensures.within;
      rows = λ honest text table.
          let read = c.loop-gate.invariant.read in
          let same = read.keeps.file honest in
          let still = read.elapses.honest ∙ honest in
          on_from_here c.args.schema.now (g.K.Disk.state c.args.disk.now).file text table.blocks journal.first c.loop-gate.gate journal.gate table.holds
          c.in_ok-gate.gate (omega arith) (c.loop-gate.invariant.rows honest text table)
          (λ block at.
          let here = subst (λ (file : List ℕ). IsBlockAt c.loop-gate.gate journal.gate file block) (sym same) at in
          (c.in_ok-gate.ensures.rows still block here, c.in_ok-gate.ensures.next still block here));
    }

pub returns-clause-rows : goal.returns-clause-rows
returns-clause-rows g c = λ honest text table.
    let journal = c.args.journal.now in
    let last : c.gate.result ≡ journal.gate = c.gate.ensures.gate in
    at_end c.args.schema.now (g.K.Disk.state c.args.disk.now).file text table.blocks journal.first c.loop-gate.gate journal.gate table.holds (omega arith) (c.loop-gate.invariant.rows honest text table)

pub returns-in_err-gate-clause-only_read : goal.returns-in_err-gate-clause-only_read
returns-in_err-gate-clause-only_read g c =
    read_on _ _ _ c.loop-gate.invariant.read c.verify_block.ensures.only_read
