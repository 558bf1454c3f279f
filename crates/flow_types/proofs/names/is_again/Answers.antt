use Rattle.std.proofs.Common.{◌∙◌}
use Rattle.flow_types.proofs.Lookups.{again_here}
use Rattle.flow_types.proofs.names.is_again.Goals as goal

pub returns : goal.returns
returns c = c.is_among.ensures ∙ again_here (λ n. n.now) c.args.names.now c.args.place c.index-names-place.result c.requires c.index-names-place.is
