use Rattle.expr_lang.proofs.Leaves.{leaves}
use Rattle.expr_lang.proofs.ValueLaws.{values_fit, values_mean, truths_mean, kind_scaled}
use Rattle.expr_lang.proofs.laws.value_laws.Goals as goal

pub returns-clause-fits : goal.returns-clause-fits
returns-clause-fits c = values_fit

pub returns-clause-means : goal.returns-clause-means
returns-clause-means c = values_mean

pub returns-clause-truth : goal.returns-clause-truth
returns-clause-truth c = truths_mean

pub returns-clause-scaled : goal.returns-clause-scaled
returns-clause-scaled c = kind_scaled

pub returns-clause-leaves : goal.returns-clause-leaves
returns-clause-leaves c = leaves
