use Rattle.std.proofs.Common.{refl, append-nil}
use Rattle.flow_types.proofs.grouped.push_column.Goals as goal

pub returns-in-None : goal.returns-in-None
returns-in-None c = rw (← c.in-None.ensures, append-nil) refl

pub returns-in_ok-push-in-Some : goal.returns-in_ok-push-in-Some
returns-in_ok-push-in-Some c = rw (← c.in-Some.ensures, ← c.in_ok-copy-in-Some.ensures) c.in_ok-push-in-Some.ensures.items
