use Rattle.commit_disk.proofs.Once.{once}
use Rattle.commit_disk.proofs.laws.holds_once.Goals as goal

pub returns : goal.returns
returns c = once
