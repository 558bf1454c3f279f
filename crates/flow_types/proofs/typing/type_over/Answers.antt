use Rattle.std.proofs.Common.{◌≡◌, ℕ, length, IfSome, subst, arith}
use Rattle.flow_types.specs.NodeTexts.{inputs_needed, text_at}
use Rattle.flow_types.proofs.typing.type_over.Goals as goal

pub type_node-requires-clause-count : goal.type_node-requires-clause-count
type_node-requires-clause-count c =
    let same : length c.args.roots.now ≡ length c.deref.result.now = omega (arith, c.in_ok-inputs.ensures.len, c.deref.ensures.len) in
    subst (λ (n : ℕ). IfSome (text_at c.args.raw.now c.args.place) (λ text. n ≡ inputs_needed text)) same c.requires.count
