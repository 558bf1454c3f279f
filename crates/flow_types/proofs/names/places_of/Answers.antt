use Rattle.std.proofs.Common.{◌<◌, length, map, sym, ◌∙◌}
use Rattle.std.proofs.lemmas.List.Elements.{All-push}
use Rattle.flow_types.proofs.Lookups.{found_more, known_more}
use Rattle.flow_types.proofs.names.places_of.Goals as goal

pub loop-name-preserved : goal.loop-name-preserved
loop-name-preserved c =
    record {
      places = rw (c.in_ok-push.ensures.items, c.loop-name.invariant.places) (sym (found_more (λ n. n.now) (map (λ n. n.now) c.args.names.now) c.args.wanted.now c.loop-name.name-index c.in-Some.place c.name-item.result c.loop-name-test.true c.name-item.is c.in-Some.ensures.place));
      within = rw c.in_ok-push.ensures.items (All-push (λ p. p < length c.args.names.now) c.loop-name.places.items c.in-Some.place c.loop-name.invariant.within c.in-Some.ensures.within);
      known = c.loop-name.invariant.known ∙ known_more (λ n. n.now) (map (λ n. n.now) c.args.names.now) c.args.wanted.now c.loop-name.name-index c.in-Some.place c.name-item.result c.loop-name-test.true c.name-item.is c.in-Some.ensures.place;
    }
