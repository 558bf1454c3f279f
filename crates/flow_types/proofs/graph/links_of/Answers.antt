use Rattle.std.proofs.Common.{◌≡◌, ◌<◌, ◌≤◌, sym, ap, ◌∙◌, length, All, below_more, arith}
use Rattle.std.proofs.lemmas.List.Elements.{All-push}
use Rattle.std.proofs.lemmas.Result.{err_from_is_err_and}
use Rattle.flow_types.specs.Graph.{names_of, needs_of}
use Rattle.flow_types.proofs.Needs.{length-needs}
use Rattle.flow_types.proofs.Links.{input_ends, inputs_all, links_more}
use Rattle.flow_types.proofs.graph.links_of.Goals as goal

pub returns-in_err-link_of-clause-inputs : goal.returns-in_err-link_of-clause-inputs
returns-in_err-link_of-clause-inputs c =
    let p = err_from_is_err_and c.from_residual.result c.from_residual.ensures.1 in
    let some : length (needs_of c.args.raw.now) ≡ length c.args.places.now = length-needs c.args.raw.now ∙ sym (ap length c.requires.names) in
    let within : c.loop-place.place < length (needs_of c.args.raw.now) = rw (some, ← c.len-place-end.ensures) c.loop-place-test.true in
    rw (p.1, p.2) (input_ends (names_of c.args.raw.now) (needs_of c.args.raw.now) c.in_err-link_of.field-0.0 c.loop-place.place within c.loop-place.invariant.there (rw c.requires.names at c.in_err-link_of.ensures.missing))

pub loop-place-preserved : goal.loop-place-preserved
loop-place-preserved c =
    let some : length (needs_of c.args.raw.now) ≡ length c.args.places.now = length-needs c.args.raw.now ∙ sym (ap length c.requires.names) in
    let within : c.loop-place.place < length (needs_of c.args.raw.now) = rw (some, ← c.len-place-end.ensures) c.loop-place-test.true in
    record {
      links = rw (c.in_ok-push.ensures.items, c.loop-place.invariant.links) (sym (links_more (names_of c.args.raw.now) (needs_of c.args.raw.now) c.loop-place.place c.in_ok-link_of.field-0 within (rw c.requires.names at c.in_ok-link_of.ensures.link)));
      there = below_more _ _ c.loop-place.invariant.there (rw c.requires.names at c.in_ok-link_of.ensures.there);
      within = rw c.in_ok-push.ensures.items (All-push (λ link. All (λ input. input < length c.args.places.now) link) c.loop-place.links.items c.in_ok-link_of.field-0 c.loop-place.invariant.within c.in_ok-link_of.ensures.within);
      len = omega (arith, c.in_ok-push.ensures.len);
    }

pub returns-clause-inputs : goal.returns-clause-inputs
returns-clause-inputs c =
    let some : length (needs_of c.args.raw.now) ≡ length c.args.places.now = length-needs c.args.raw.now ∙ sym (ap length c.requires.names) in
    let all : length (needs_of c.args.raw.now) ≤ c.loop-place.place = rw (some, ← c.len-place-end.ensures) (omega arith) in
    inputs_all (names_of c.args.raw.now) (needs_of c.args.raw.now) c.loop-place.place all c.loop-place.invariant.there
