use Rattle.std.proofs.Common.{◌≡◌, sym, ◌∙◌, is_some, true, false, below_more, take, map, refl, arith}
use Rattle.tuple_schema.specs.Texts.{is_among}
use Rattle.indexmap.proofs.CallerLemmas.{insert_entry-new}
use Rattle.flow_types.proofs.Lookups.{again_here, again_is, again_none}
use Rattle.flow_types.proofs.Numbered.{number_before, names_more, numbers_more, no_number}
use Rattle.flow_types.proofs.named.Places.of.Goals as goal

pub returns-then-is_some-clause-differ : goal.returns-then-is_some-clause-differ
returns-then-is_some-clause-differ c =
    let x = c.index-names-place.result in
    let among = number_before (λ k. k.now) (λ n. n.now) c.loop-place.places.entries c.args.names.now c.loop-place.place x c.as_str-name.result.now c.in_ok-insert.field-0 c.loop-place.invariant.names c.as_str-name.ensures.text c.in_ok-insert.ensures.old in
    let there : is_among (map (λ n. n.now) (take c.loop-place.place c.args.names.now)) x.now ≡ true = sym among ∙ (sym c.is_some.ensures ∙ c.if-is_some.true) in
    rw (c.fault_at.ensures, ← again_is (λ n. n.now) c.args.names.now c.loop-place.place x c.loop-place-test.true c.index-names-place.is there c.loop-place.invariant.differ) refl

pub loop-place-preserved : goal.loop-place-preserved
loop-place-preserved c =
    let x = c.index-names-place.result in
    let among = number_before (λ k. k.now) (λ n. n.now) c.loop-place.places.entries c.args.names.now c.loop-place.place x c.as_str-name.result.now c.in_ok-insert.field-0 c.loop-place.invariant.names c.as_str-name.ensures.text c.in_ok-insert.ensures.old in
    let new : is_some c.in_ok-insert.field-0 ≡ false = sym c.is_some.ensures ∙ c.if-is_some.false in
    let none = sym c.in_ok-insert.ensures.old ∙ no_number c.in_ok-insert.field-0 new in
    let grown = c.in_ok-insert.ensures.entries ∙ insert_entry-new _ c.loop-place.places c.as_str-name.result c.loop-place.place none in
    record {
      names = names_more (λ k. k.now) (λ n. n.now) c.loop-place.places.entries c.args.names.now c.loop-place.place x c.insert.new.self.entries c.as_str-name.result c.loop-place.place grown c.loop-place.invariant.names c.loop-place-test.true c.index-names-place.is c.as_str-name.ensures.text;
      numbers = numbers_more c.loop-place.places.entries c.insert.new.self.entries c.as_str-name.result c.loop-place.place grown c.loop-place.invariant.numbers;
      differ = below_more _ _ c.loop-place.invariant.differ (sym (again_here (λ n. n.now) c.args.names.now c.loop-place.place x c.loop-place-test.true c.index-names-place.is) ∙ (sym among ∙ new));
    }

pub returns-clause-differ : goal.returns-clause-differ
returns-clause-differ c = rw (← again_none (λ n. n.now) c.args.names.now c.loop-place.place (omega arith) c.loop-place.invariant.differ) refl
