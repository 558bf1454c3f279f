use Rattle.std.proofs.Common.{◌<◌, length, sym, ◌∙◌}
use Rattle.std.proofs.lemmas.List.Elements.{All-push}
use Rattle.flow_types.proofs.Lookups.{found_more, known_more}
use Rattle.flow_types.proofs.graph.link_of.Goals as goal

pub loop-name-preserved : goal.loop-name-preserved
loop-name-preserved c =
    let names = c.deref-name-items.result.now in
    record {
      inputs = rw (c.in_ok-push.ensures.items, c.loop-name.invariant.inputs) (sym (found_more (λ n. n.now) c.args.places.now names c.loop-name.name-index c.in-Some.input c.name-item.result c.loop-name-test.true c.name-item.is c.in-Some.ensures.place));
      known = c.loop-name.invariant.known ∙ known_more (λ n. n.now) c.args.places.now names c.loop-name.name-index c.in-Some.input c.name-item.result c.loop-name-test.true c.name-item.is c.in-Some.ensures.place;
      within = rw c.in_ok-push.ensures.items (All-push (λ input. input < length c.args.places.now) c.loop-name.inputs.items c.in-Some.input c.loop-name.invariant.within c.in-Some.ensures.within);
    }
