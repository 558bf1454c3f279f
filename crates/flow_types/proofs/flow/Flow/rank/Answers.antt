use Rattle.std.proofs.Common.{◌==◌, ◌∙◌, find, IsSome, sym, arith}
use Rattle.flow_types.specs.Flows.{number_of}
use Rattle.flow_types.proofs.Ranks.{found_none, found_within}
use Rattle.flow_types.proofs.Below.{above_at}
use Rattle.flow_types.proofs.flow.Flow.rank.Goals as goal

pub unreachable-requires : goal.unreachable-requires
unreachable-requires c =
    let none = found_none (λ n. number_of n == c.args.node.0) c.deref.result.now (sym c.place_in.ensures ∙ c.in-None.is) in
    let some : IsSome (find (λ n. number_of n == c.args.node.0) c.deref.result.now) = rw c.deref.ensures.value (rw (← c.self.view_is) at c.requires) in
    let no = rw none at some in
    absurd (cc)

pub overflow_cast-result : goal.overflow_cast-result
overflow_cast-result c =
    let place = found_within (λ n. number_of n == c.args.node.0) c.deref.result.now c.in-Some.rank (sym c.place_in.ensures ∙ c.in-Some.is) in
    omega (arith, place, c.self.invariant.few, c.deref.ensures.value)

pub returns-clause-above : goal.returns-clause-above
returns-clause-above c =
    let place = rw c.deref.ensures.value at (sym c.place_in.ensures ∙ c.in-Some.is) in
    rw (← c.self.view_is) (above_at _ c.self.invariant c.in-Some.rank c.args.node place)
