use Rattle.std.proofs.Common.{◌≡◌, ◌∙◌, ℕ, List, [], ◌∷◌, ◌++◌, length, map, take, get_or, Vec, Global, ap, sym, subst, arith}
use Rattle.std.proofs.lemmas.List.{map-append, take_more}
use Rattle.flow_types.specs.declared.node.Agg.TheVariants as agg
use Rattle.flow_types.specs.declared.node.Make.{Make}
use Rattle.kind_laws.specs.Accumulators.{StandEach}
use Rattle.kind_laws.specs.Grouping.{AreHeld, StandForAll}
use Rattle.kind_laws.specs.declared.making.Accumulator.{Accumulator}
use Rattle.kind_laws.proofs.GroupsHeld.{zip_more}
use Rattle.kind_laws.proofs.aggregating.make_all.Goals as goal

pub loop-make-preserved : goal.loop-make-preserved
loop-make-preserved c =
    let rows = c.args.rows.now.rows in
    let group_of : List ℕ = c.args.groups.now.group_of.items in
    let count : ℕ = length c.args.groups.now.firsts.items in
    let makes : List Make = c.args.makes.now in
    let i : ℕ = c.loop-make.make-index in
    let make : Make = get_or makes i (record { what = agg.Count; column = 0 }) in
    let each : List Accumulator = c.in_ok-make_each.field-0.items in
    let items : List (Vec Accumulator Global) → List (List Accumulator) = map (λ (v : Vec Accumulator Global). v.items) in
    let one : StandForAll rows group_of count make each = record {
      counted = let made = c.in_ok-make_each.ensures.count in omega (arith, made, c.len.ensures, c.args.groups.now.firsts.ok.0);
      stand = subst (λ gs. StandEach make.what make.column rows gs each) c.deref.ensures.value c.in_ok-make_each.ensures.each;
    } in
    let more : items c.push.new.self.items ≡ items c.loop-make.held.items ++ each ∷ [] =
    ap items c.in_ok-push.ensures.items ∙ map-append (λ (v : Vec Accumulator Global). v.items) c.loop-make.held.items (c.in_ok-make_each.field-0 ∷ []) in
    subst (λ ms. AreHeld rows group_of count ms (items c.push.new.self.items)) (sym (take_more makes i (record { what = agg.Count; column = 0 }) c.loop-make-test.true))
    (subst (AreHeld rows group_of count (take i makes ++ make ∷ [])) (sym more)
    (zip_more (StandForAll rows group_of count) (take i makes) (items c.loop-make.held.items) make each c.loop-make.invariant one))
