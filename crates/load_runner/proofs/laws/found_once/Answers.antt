use Rattle.load_runner.proofs.Tables.{found_once}
use Rattle.load_runner.proofs.laws.found_once.Goals as goal

pub returns : goal.returns
returns c = found_once c.verdicts_agree.ensures c.holds_once.ensures
