use Rattle.outside.proofs.CrashRanges.{torn_is_left, left_is_torn, left_is_synced, synced_is_left}
use Rattle.outside.proofs.CrashSteps.{same_as_model, same_at_moment}
use Rattle.outside.proofs.laws.crash_laws.Goals as goal

pub returns-clause-model : goal.returns-clause-model
returns-clause-model c = same_as_model

pub returns-clause-any_moment : goal.returns-clause-any_moment
returns-clause-any_moment c = same_at_moment

pub returns-clause-nothing_written : goal.returns-clause-nothing_written
returns-clause-nothing_written c = λ synced image. (left_is_synced synced image, synced_is_left synced image)

pub returns-clause-one_range_more : goal.returns-clause-one_range_more
returns-clause-one_range_more c = λ synced ranges at count within image. (
  (λ left. left_is_torn synced ranges at count within image left),
  (λ from. torn_is_left synced ranges at count from.0 image from.1 from.2),
)
