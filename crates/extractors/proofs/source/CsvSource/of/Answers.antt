use Rattle.std.proofs.Common.{sym, ap, ◌∙◌}
use Rattle.row_codec.specs.Lending.{tested}
use Rattle.extractors.specs.CsvContent.{csv_content}
use Rattle.extractors.proofs.SourceLemmas.{has_content}
use Rattle.extractors.proofs.source.CsvSource.of.Goals as goal

pub invariant_of-result : goal.invariant_of-result
invariant_of-result c =
    let passes =
    ap (λ file. tested (csv_content c.args.any_header c.args.schema.now file)) (sym c.deref.ensures.value)
    ∙ c.in_ok-check_content.ensures in
    rw c.in_ok-copy.ensures (has_content _ _ _ passes).checked

pub returns-clause-content : goal.returns-clause-content
returns-clause-content c =
    let passes =
    ap (λ file. tested (csv_content c.args.any_header c.args.schema.now file)) (sym c.deref.ensures.value)
    ∙ c.in_ok-check_content.ensures in
    rw c.in_ok-copy.ensures (has_content _ _ _ passes).content
