use Rattle.std.proofs.Common.{sym, ◌∙◌}
use Rattle.extractors.proofs.CheckLemmas.{named_more, named_stops, named_over, name_absent, name_there}
use Rattle.extractors.proofs.check.named_columns.Goals as goal

pub returns-in_default-clause-named : goal.returns-in_default-clause-named
returns-in_default-clause-named c =
    sym (named_over _ _ _ _ (name_absent _ _ (sym c.in_default.ensures.value)) c.loop-i.invariant)

pub returns-then-not-is_name_of-clause-named : goal.returns-then-not-is_name_of-clause-named
returns-then-not-is_name_of-clause-named c =
    let there = name_there _ _ _ (sym c.in-Some.ensures.value) in
    sym (named_stops _ _ _ _ c.index-columns-i.result _ c.loop-i-test.true there c.index-columns-i.is (sym c.in-Some.ensures.value) (sym c.is_name_of.ensures ∙ c.if-not-is_name_of.true) c.loop-i.invariant)

pub loop-i-preserved : goal.loop-i-preserved
loop-i-preserved c =
    let there = name_there _ _ _ (sym c.in-Some.ensures.value) in
    named_more _ _ _ _ c.index-columns-i.result _ c.loop-i-test.true there c.index-columns-i.is
    (sym c.in-Some.ensures.value) (sym c.is_name_of.ensures ∙ c.if-not-is_name_of.false) c.loop-i.invariant
