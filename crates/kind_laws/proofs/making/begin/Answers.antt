use Rattle.std.proofs.Common.{[], ◌∷◌, List, All, sym, subst, rules}
use Rattle.std.proofs.lemmas.List.Elements.{All-nil, All-cons, All-append}
use Rattle.kind_laws.specs.Accumulators.{Stands}
use Rattle.kind_laws.specs.declared.making.Accumulator.{Accumulator}
use Rattle.kind_laws.proofs.making.begin.Goals as goal

pub loop-preserved : goal.loop-preserved
loop-preserved c = record {
  count = search rules;
  each = λ column all.
      let P : Accumulator → Type 0 = λ held. Stands c.args.what column all held [] in
      subst (All P) (sym {A = List Accumulator} c.in_ok-push.ensures.items)
      (All-append P c.loop.each.items (c.new.result ∷ []) (c.loop.invariant.each column all)
      (All-cons P c.new.result [] (c.new.ensures column all) (All-nil P)));
}
