use Rattle.std.proofs.Common.{sym}
use Rattle.tuple_sets.proofs.PartLemmas.{length-part}
use Rattle.tuple_sets.proofs.part.PartFields.count.Goals as goal

pub returns : goal.returns
returns g c = sym (length-part _ _ c.args.self.now.within)
