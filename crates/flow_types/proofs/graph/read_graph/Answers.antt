use Rattle.std.proofs.Common.{◌≡◌, ◌<◌, ◌-◌, ◌∙◌, ℕ, All, length, vec_len, ap, sym, subst, arith}
use Rattle.flow_types.specs.Trees.{IsWhole}
use Rattle.flow_types.specs.Graph.{names_of, flow_tree}
use Rattle.list_algebra.specs.Trees.{in_order}
use Rattle.flow_types.proofs.Needs.{length-names}
use Rattle.flow_types.proofs.Once.{tree_once, few_below, inside_tree}
use Rattle.flow_types.proofs.Whole.{flow_whole}
use Rattle.flow_types.proofs.graph.read_graph.Goals as goal

pub returns-clause-once : goal.returns-clause-once
returns-clause-once c =
    let used = rw c.deref-2.ensures.value at c.in_ok-used_once.ensures in
    let small : c.in_ok-root.root < length c.in_ok-links.links.items = omega (arith, c.in_ok-root.ensures.within, c.in_ok-links.ensures.len, c.in_ok-links.links.ok.0) in
    tree_once c.in_ok-root.root c.in_ok-links.links.items used small c.in_ok-links.ensures.within

pub returns-clause-whole : goal.returns-clause-whole
returns-clause-whole c =
    let used = rw c.deref-2.ensures.value at c.in_ok-used_once.ensures in
    let small : c.in_ok-root.root < length c.in_ok-links.links.items = omega (arith, c.in_ok-root.ensures.within, c.in_ok-links.ensures.len, c.in_ok-links.links.ok.0) in
    let count : vec_len c.in_ok-links.links ≡ length c.in_ok-links.links.items = omega (arith, c.in_ok-links.links.ok.0) in
    subst (λ (n : ℕ). IsWhole c.in_ok-links.links.items (n - 1) c.in_ok-root.root) (sym count)
    (flow_whole c.in_ok-root.root c.in_ok-links.links.items used small c.in_ok-links.ensures.within)

pub returns-clause-inside : goal.returns-clause-inside
returns-clause-inside c =
    let small : c.in_ok-root.root < length c.in_ok-links.links.items = omega (arith, c.in_ok-root.ensures.within, c.in_ok-links.ensures.len, c.in_ok-links.links.ok.0) in
    let count : length c.in_ok-links.links.items ≡ length c.in_ok-places.places = omega (arith, c.in_ok-links.ensures.len, c.in_ok-links.links.ok.0) in
    let names : length c.in_ok-places.places ≡ length (names_of c.args.raw.now) = ap length (c.in_ok-places.ensures.names ∙ rw c.deref.ensures.value c.in_ok-names.ensures) in
    subst (λ (n : ℕ). All (λ p. p < n) (in_order (flow_tree c.in_ok-root.root c.in_ok-links.links.items))) (count ∙ names)
    (inside_tree c.in_ok-root.root c.in_ok-links.links.items small c.in_ok-links.ensures.within)

pub returns-clause-few : goal.returns-clause-few
returns-clause-few c =
    let used = rw c.deref-2.ensures.value at c.in_ok-used_once.ensures in
    let small : c.in_ok-root.root < length c.in_ok-links.links.items = omega (arith, c.in_ok-root.ensures.within, c.in_ok-links.ensures.len, c.in_ok-links.links.ok.0) in
    let few = few_below c.in_ok-root.root c.in_ok-links.links.items used small c.in_ok-links.ensures.within (length c.in_ok-links.links.items - 1) in
    let count : length c.in_ok-links.links.items ≡ length c.in_ok-places.places = omega (arith, c.in_ok-links.ensures.len, c.in_ok-links.links.ok.0) in
    let names : length c.in_ok-places.places ≡ length (names_of c.args.raw.now) = ap length (c.in_ok-places.ensures.names ∙ rw c.deref.ensures.value c.in_ok-names.ensures) in
    let all = length-names c.args.raw.now in
    omega (arith, few, count, names, all, c.requires.kept.few_sources, c.requires.kept.few_nodes)
