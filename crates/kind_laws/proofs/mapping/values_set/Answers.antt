use Rattle.std.proofs.Common.{◌++◌, [], ◌∷◌, map, option_map, sym, ap, ◌∙◌}
use Rattle.std.proofs.lemmas.List.{map-append}
use Rattle.list_algebra.specs.Joins.{below}
use Rattle.flow_types.specs.Assigned.{set_at}
use Rattle.kind_laws.proofs.Below.{map_below_none, map_below_more}
use Rattle.kind_laws.proofs.mapping.values_set.Goals as goal

pub loop-place-init : goal.loop-place-init
loop-place-init c = record {
  values = ap (map (option_map (λ x. x.now))) c.in_ok-values.ensures.items ∙ sym (map_below_none (set_at c.args.sets.now));
}

pub loop-place-preserved : goal.loop-place-preserved
loop-place-preserved c = record {
  values = ap (map (option_map (λ x. x.now))) c.in_ok-push.ensures.items
      ∙ map-append (option_map (λ x. x.now)) c.loop-place.values.items (c.value_set.result ∷ [])
      ∙ ap (λ vs. vs ++ option_map (λ x. x.now) c.value_set.result ∷ []) c.loop-place.invariant.values
      ∙ ap (λ v. map (set_at c.args.sets.now) (below c.loop-place.place) ++ v ∷ []) c.value_set.ensures
      ∙ sym (map_below_more (set_at c.args.sets.now) c.loop-place.place);
}
