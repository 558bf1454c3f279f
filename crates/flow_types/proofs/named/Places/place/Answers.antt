use Rattle.flow_types.proofs.Numbered.{numbered_is, place_within}
use Rattle.flow_types.proofs.named.Places.place.Goals as goal

pub returns-clause-place : goal.returns-clause-place
returns-clause-place c =
    rw (c.copied.ensures, c.get.ensures.value, c.as_str.ensures.text, ← c.self.view_is) (numbered_is (λ k. k.now) c.args.name.now c.self.inside.places.entries c.self.invariant)

pub returns-clause-within : goal.returns-clause-within
returns-clause-within c = rw (returns-clause-place c) (place_within c.args.self.now c.args.name.now)
