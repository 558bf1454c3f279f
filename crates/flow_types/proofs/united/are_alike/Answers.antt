use Rattle.std.proofs.Common.{sym}
use Rattle.flow_types.proofs.Unions.{unlike_lengths}
use Rattle.flow_types.proofs.united.are_alike.Goals as goal

pub returns-then-first-other : goal.returns-then-first-other
returns-then-first-other c = sym (unlike_lengths c.args.first.now c.args.other.now c.if-first-other.true)
