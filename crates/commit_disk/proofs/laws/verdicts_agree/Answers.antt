use Rattle.commit_disk.proofs.Verdicts.{verdicts_agree}
use Rattle.commit_disk.proofs.laws.verdicts_agree.Goals as goal

pub returns : goal.returns
returns c = verdicts_agree
