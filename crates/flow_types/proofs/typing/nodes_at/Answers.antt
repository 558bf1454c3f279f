use Rattle.std.proofs.Common.{◌<◌, ◌∙◌, ◌∷◌, ◌++◌, [], ℕ, map, length, slice_get, get_or, sym, ap, refl, arith}
use Rattle.std.proofs.lemmas.List.{map-append, get_or_default}
use Rattle.std.proofs.lemmas.Option.{slice_get_read}
use Rattle.flow_types.proofs.Lookups.{filter_more}
use Rattle.flow_types.proofs.typing.nodes_at.Goals as goal

pub loop-place-preserved : goal.loop-place-preserved
loop-place-preserved c =
    let nodes = c.args.nodes.now in
    let places = c.args.places.now in
    let i = c.loop-place.place-index in
    let place : ℕ = get_or places i 0 in
    let n = c.index-nodes-place.result in
    let within : place < length nodes = c.requires.within i 0 c.loop-place-test.true in
    let at = slice_get_read nodes (length nodes) place n refl within c.index-nodes-place.is in
    record {
      nodes =
          ap (map (λ m. m.now)) c.in_ok-push.ensures.items ∙ (map-append (λ m. m.now) c.loop-place.found.items _ ∙ (ap (λ ns. ns ++ n ∷ []) c.loop-place.invariant.nodes
          ∙ sym (filter_more (slice_get nodes) places i place n c.loop-place-test.true (get_or_default places i 0 place c.loop-place-test.true) (sym at))));
      len = omega (arith, c.in_ok-push.ensures.len, c.loop-place.invariant.len);
    }
