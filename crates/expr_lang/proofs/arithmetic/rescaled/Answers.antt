use Rattle.std.proofs.Common.{sym}
use Rattle.expr_lang.proofs.Units.{too_many}
use Rattle.expr_lang.proofs.arithmetic.rescaled.Goals as goal

pub returns-then-places-gt-MAX_PLACES : goal.returns-then-places-gt-MAX_PLACES
returns-then-places-gt-MAX_PLACES c = sym (too_many _ c.args.places c.if-places-gt-MAX_PLACES.true)
