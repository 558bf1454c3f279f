use Rattle.extractors.proofs.OpeningLemmas.{content_own}
use Rattle.extractors.proofs.source.CsvSource.open.Goals as goal

pub returns-clause-cause : goal.returns-clause-cause
returns-clause-cause g c = λ failed. absurd (content_own _ _ _ (rw failed at c.of.ensures.content))
