use Rattle.outside.specs.Moments.{one_read}
use Rattle.table_read.proofs.blocks.read.Goals as goal

pub returns-in_err-read_at-clause-only_read : goal.returns-in_err-read_at-clause-only_read
returns-in_err-read_at-clause-only_read g c = one_read _ _ c.read_at.ensures.size c.read_at.ensures.keeps c.read_at.ensures.ticks

pub returns-clause-only_read : goal.returns-clause-only_read
returns-clause-only_read g c = one_read _ _ c.read_at.ensures.size c.read_at.ensures.keeps c.read_at.ensures.ticks
