use Rattle.std.proofs.Common.{◌≡◌, ◌∙◌, ◌+◌, length, take, drop, arith}
use Rattle.std.proofs.lemmas.List.{take_at}
use Rattle.std.proofs.lemmas.Result.{err_from_is_err_and}
use Rattle.commit_disk.specs.Table.{content_of}
use Rattle.table_read.proofs.Standing.{head_stops, head_caused, count_of, len_of}
use Rattle.outside.specs.Moments.{read_on}
use Rattle.table_read.proofs.blocks.read_block.Goals as goal

pub returns-in_err-head-clause-stops : goal.returns-in_err-head-clause-stops
returns-in_err-head-clause-stops g c =
    let p = err_from_is_err_and c.from_residual.result c.from_residual.ensures.1 in
    rw (p.1, p.2) (λ honest block at. head_stops c.in_err-head.field-0.0 block (c.in_err-head.ensures.head honest block at))

pub returns-in_err-head-clause-cause : goal.returns-in_err-head-clause-cause
returns-in_err-head-clause-cause g c =
    let p = err_from_is_err_and c.from_residual.result c.from_residual.ensures.1 in
    rw (p.1, p.2) (head_caused c.args.gate _ _ c.in_err-head.field-0.0 c.in_err-head.ensures.cause)

pub returns-clause-block : goal.returns-clause-block
returns-clause-block g c = λ honest block at.
    let only = c.block_at.ensures.read in
    let head = c.in_ok-head.ensures.head honest block at in
    let sized : length c.read.new.into ≡ c.resize.new.self.len = omega (arith, c.deref_mut.ensures.len, c.read.auto.into) in
    let long : length c.read.new.into ≡ length (content_of block).bytes = omega (arith, sized, c.in_ok-resize.ensures.len, c.len.ensures, len_of _ block head) in
    let same = only.keeps.file honest in
    record {
      counts = count_of _ block head;
      lens = len_of _ block head;
      same = take_at c.read.new.into _ c.resize.new.self.len sized ∙ c.in_ok-read.ensures.bytes (only.elapses.honest ∙ honest)
          ∙ (λ i. take (long i) (drop (c.args.gate + 10) (same i))) ∙ c.in_ok-head.ensures.rows block at;
    }

pub returns-in_err-read-clause-only_read : goal.returns-in_err-read-clause-only_read
returns-in_err-read-clause-only_read g c = read_on _ _ _ c.block_at.ensures.read c.read.ensures.only_read

pub returns-clause-only_read : goal.returns-clause-only_read
returns-clause-only_read g c = read_on _ _ _ c.block_at.ensures.read c.read.ensures.only_read
