use Rattle.std.proofs.Common.{◌∙◌}
use Rattle.commit_disk.specs.Growth.{grows_now}
use Rattle.commit_disk.proofs.Crashes.{grows_made}
use Rattle.commit_disk.proofs.journal.make.Goals as goal

pub returns-in_err-write_head-clause-grows : goal.returns-in_err-write_head-clause-grows
returns-in_err-write_head-clause-grows g c = λ honest settled.
    grows_made _ _ _ (c.write_head.ensures.passes honest settled (c.requires.not_made honest) c.args.text.now c.requires.short (c.deref.ensures.value ∙ c.in_ok-behind.ensures.bytes))

pub returns-clause-grows : goal.returns-clause-grows
returns-clause-grows g c = λ honest settled.
    grows_made _ _ _ (c.write_head.ensures.passes honest settled (c.requires.not_made honest) c.args.text.now c.requires.short (c.deref.ensures.value ∙ c.in_ok-behind.ensures.bytes))

pub returns-in_err-behind-clause-grows : goal.returns-in_err-behind-clause-grows
returns-in_err-behind-clause-grows g c = λ honest settled. grows_now _ _
