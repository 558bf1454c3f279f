use Rattle.flow_types.specs.NodeTexts.{text_seen}
use Rattle.flow_types.proofs.KeptTexts.{keeps_text}
use Rattle.flow_types.proofs.typing.type_node.Goals as goal

pub type_text-requires-clause-kept : goal.type_text-requires-clause-kept
type_text-requires-clause-kept c = keeps_text c.args.raw.now c.requires.kept c.requires.built c.args.place (text_seen c.text_at-text.result) c.text_at-text.ensures
