-- The fault of a content is never that of a depot.
use Rattle.std.proofs.Common.{◌≡◌, ◌+◌, ℕ, List, [], ◌∷◌, length, Bool, true, false, ◌&&◌, ◌==◌, Result, Ok, Err, ap}
use Rattle.std.specs.Prelude.{if◌then◌else◌}
use Rattle.tuple_schema.specs.declared.value.Value.{Value}
use Rattle.tuple_schema.specs.declared.schema.Column.{Column}
use Rattle.tuple_schema.specs.Stops.{◌>>=◌}
use Rattle.extractors.specs.declared.fault.CsvFault.{CsvFault}
use Rattle.extractors.specs.declared.fault.CsvFault.TheVariants as fault
use Rattle.extractors.specs.declared.fault.RecordFault.{RecordFault}
use Rattle.extractors.specs.declared.fault.RecordFault.TheVariants as record_fault
use Rattle.extractors.specs.CsvContent.{csv_records, without_mark, named_columns, header_of, tuple_of, in_row, tuples_from, under_header, csv_content}

-- it may have any fault but that of a depot
abbrev pub IsOwn : {X : Type 0} → Result X CsvFault → Type 0
IsOwn reading = reading ≡ Err fault.Depot → ⊥

then_own : {A B : Type 0} (r : Result A CsvFault) (f : A → Result B CsvFault) → IsOwn r → ((x : A) → IsOwn (f x))
    → IsOwn (r >>= f)
then_own (Ok x) f first others e = others x e
then_own (Err g) f first others e = let same : g ≡ fault.Depot = cc in first (ap (λ h. Err h) same)

named_own : (b : Bool) (at : ℕ) → IsOwn {X = Unit {0}} (if b then Ok tt else Err (fault.BadHeader at))
named_own true at e = cc
named_own false at e = cc

header_own : (any : Bool) (cs : List Column) (names : List (List ℕ)) → IsOwn (header_of any cs names)
header_own any cs names e =
    let named = named_columns any cs names in
    named_own ((named == length cs) && (named == length names)) (named + 1) e

row_own : (row : ℕ) (r : Result (List Value) RecordFault) → IsOwn (in_row row r)
row_own row (Ok tuple) e = cc
row_own row (Err record_fault.Count) e = cc
row_own row (Err (record_fault.Field column cause)) e = cc

ok_own : {X : Type 0} (x : X) → IsOwn (Ok x)
ok_own x e = cc

tuples_own : (row : ℕ) (cs : List Column) (rs : List (List (List ℕ))) → IsOwn (tuples_from row cs rs)
unfolding tuples_from
tuples_own row cs [] e = cc
tuples_own row cs (r ∷ rs) e =
    then_own (in_row row (tuple_of cs r)) (λ first. tuples_from (row + 1) cs rs >>= λ others. Ok (first ∷ others))
    (row_own row (tuple_of cs r))
    (λ first. then_own (tuples_from (row + 1) cs rs) (λ others. Ok (first ∷ others)) (tuples_own (row + 1) cs rs) (λ others. ok_own (first ∷ others))) e

under_own : (any : Bool) (cs : List Column) (records : List (List (List ℕ))) → IsOwn (under_header any cs records)
unfolding under_header
under_own any cs [] e = cc
under_own any cs (header ∷ records) e =
    then_own (header_of any cs header) (λ x. tuples_from 1 cs records) (header_own any cs header) (λ x. tuples_own 1 cs records) e

pub content_own : (any : Bool) (cs : List Column) (file : List ℕ) → IsOwn (csv_content any cs file)
unfolding csv_content
content_own any cs file e = under_own any cs (csv_records (without_mark file)) e
