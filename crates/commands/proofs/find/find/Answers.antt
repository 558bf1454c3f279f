use Rattle.std.proofs.Common.{[], sym, ap}
use Rattle.commands.specs.Verdict.{known_names, declared_names}
use Rattle.commands.proofs.Told.{told_alike}
use Rattle.commands.proofs.Verdicts.{text_refused, text_read, raw_refused, raw_read}
use Rattle.commands.proofs.find.find.Goals as goal

pub returns-in-Ok-clause-tells : goal.returns-in-Ok-clause-tells
returns-in-Ok-clause-tells g c = λ files told. rw (text_read files _ (c.in-Ok.ensures.tells files told)) c.with_flow.ensures.tells

pub returns-in-Ok-clause-named : goal.returns-in-Ok-clause-named
returns-in-Ok-clause-named g c = λ files told. rw (raw_read files _ (c.in-Ok.ensures.tells files told)) c.with_flow.ensures.named

pub returns-in-Ok-clause-line : goal.returns-in-Ok-clause-line
returns-in-Ok-clause-line g c = λ files told. rw (raw_read files _ (c.in-Ok.ensures.tells files told)) c.with_flow.ensures.line

pub returns-in-Err-clause-tells : goal.returns-in-Err-clause-tells
returns-in-Err-clause-tells g c = λ files told early. text_refused files _ (c.in-Err.ensures.tells files told early)

pub returns-in-Err-clause-line : goal.returns-in-Err-clause-line
returns-in-Err-clause-line g c = λ files told. told_alike _ c.in-Err.reason [] (known_names files) c.in-Err.ensures.causes
    (λ early. sym (ap declared_names (raw_refused files _ (c.in-Err.ensures.tells files told early))))
