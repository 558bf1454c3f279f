use Rattle.std.proofs.Common.{[], sym, ap}
use Rattle.flow_types.specs.Graph.{names_of}
use Rattle.commands.specs.Verdict.{raw_in, declared_names}
use Rattle.commands.proofs.Told.{told_alike}
use Rattle.commands.proofs.Verdicts.{not_parsed, not_typed, flow_read}
use Rattle.commands.proofs.find.with_flow.Goals as goal

pub returns-in-Err-clause-tells : goal.returns-in-Err-clause-tells
returns-in-Err-clause-tells c = λ early. not_parsed _ _ (rw c.deref.ensures.value at (c.in-Err.ensures.tells early))

pub returns-in-Err-clause-line : goal.returns-in-Err-clause-line
returns-in-Err-clause-line c = told_alike ⊥ c.in-Err.reason [] (declared_names (raw_in c.args.text.items)) c.in-Err.ensures.causes
    (λ early. sym (ap declared_names (rw c.deref.ensures.value at (c.in-Err.ensures.tells early))))

pub returns-in-Ok-typed_of-clause-tells : goal.returns-in-Ok-typed_of-clause-tells
returns-in-Ok-typed_of-clause-tells c = flow_read _ _ (rw c.deref.ensures.value at c.in-Ok.ensures.tells) _ c.in-Ok-typed_of.ensures.tells

pub returns-in-Ok-typed_of-clause-named : goal.returns-in-Ok-typed_of-clause-named
returns-in-Ok-typed_of-clause-named c = sym (ap declared_names (rw c.deref.ensures.value at c.in-Ok.ensures.tells))

pub returns-in-Err-typed_of-clause-tells : goal.returns-in-Err-typed_of-clause-tells
returns-in-Err-typed_of-clause-tells c = λ early. not_typed _ _ (rw c.deref.ensures.value at c.in-Ok.ensures.tells) _ (c.in-Err-typed_of.ensures.tells early)

pub returns-in-Err-typed_of-clause-line : goal.returns-in-Err-typed_of-clause-line
returns-in-Err-typed_of-clause-line c = told_alike ⊥ c.in-Err-typed_of.reason (names_of c.in-Ok.raw) (declared_names (raw_in c.args.text.items)) c.in-Err-typed_of.ensures.causes
    (λ early. sym (ap declared_names (rw c.deref.ensures.value at c.in-Ok.ensures.tells)))
