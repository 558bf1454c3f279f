-- Contents of sources, computed.
use Rattle.std.proofs.Common.{◌≡◌, [], ◌∷◌, Ok, Err, pos, refl}
use Rattle.tuple_schema.specs.declared.value.Value.TheVariants as value
use Rattle.list_algebra.specs.Bags.{Tuple}
use Rattle.extractors.specs.declared.fault.CsvFault.TheVariants as csv
use Rattle.load_runner.specs.declared.fault.SourceFault.{SourceFault}
use Rattle.load_runner.specs.Sources.{source_fault, all_of}

abbrev row : Tuple
row = value.Int (pos 7) ∷ []

-- all have a content, in their order
both : all_of (Ok (row ∷ []) ∷ Ok [] ∷ []) ≡ Ok ((row ∷ []) ∷ [] ∷ [])
both = refl

abbrev first : SourceFault
first = source_fault (record { 0 = 1 }) csv.Missing

abbrev second : SourceFault
second = source_fault (record { 0 = 2 }) (csv.BadCsv 3)

-- two of them have none
one : all_of (Ok (row ∷ []) ∷ Err first ∷ Ok [] ∷ Err second ∷ []) ≡ Err first
one = refl
