-- Records that are packed, one value and one row after the other.
use Rattle.std.proofs.Common.{◌≡◌, ◌<◌, ◌≤◌, ◌+◌, ℕ, List, [], ◌∷◌, ◌++◌, length, drop, get_or, Bool, true, false, eqb, Some, Result, Ok, Err, refl, sym, ap, ◌∙◌, arith, append_assoc}
use Rattle.std.proofs.lemmas.List.{append-nil, drop_all}
use Rattle.std.proofs.lemmas.Bool.Decides.{nat_tests}
use Rattle.std.proofs.lemmas.Option.{slice_get_read}
use Rattle.csv.specs.Records.{field_at}
use Rattle.tuple_schema.specs.declared.value.Value.{Value}
use Rattle.tuple_schema.specs.declared.schema.Column.{Column}
use Rattle.tuple_schema.specs.declared.memory.Stop.{Stop}
use Rattle.tuple_schema.specs.declared.memory.Stop.TheVariants as stop
use Rattle.tuple_schema.specs.Stops.{◌>>=◌, IfFault, Fails}
use Rattle.row_codec.specs.declared.fields.FieldFault.{FieldFault}
use Rattle.row_codec.specs.Fields.{field_value}
use Rattle.row_codec.specs.Lending.{mapped, tested}
use Rattle.row_codec.proofs.Values.{field_is}
use Rattle.row_batch.specs.Packing.{FitsNext}
use Rattle.extractors.specs.declared.fault.CsvFault.{CsvFault}
use Rattle.extractors.specs.declared.fault.RecordFault.{RecordFault}
use Rattle.extractors.specs.declared.fault.RecordFault.TheVariants as record_fault
use Rattle.extractors.specs.CsvContent.{without_mark, csv_records, in_column, values_from, tuple_of, row_fault, tuples_from, under_header, csv_content}
use Rattle.extractors.proofs.CheckLemmas.{values_here, rows_here}
use Rattle.extractors.proofs.SourceLemmas.{content_is}

-- what is read on, behind what was read
abbrev pub onto : {X F : Type 0} → List X → Result (List X) F → Result (List X) F
onto front reading = mapped (λ others. front ++ others) reading

onto_none : {X F : Type 0} (reading : Result (List X) F) → reading ≡ onto [] reading
onto_none (Ok others) = refl
onto_none (Err f) = refl

-- one item of the reading goes to the front
onto_more : {X F : Type 0} (front : List X) (x : X) (reading : Result (List X) F)
    → onto front (reading >>= λ others. Ok (x ∷ others)) ≡ onto (front ++ x ∷ []) reading
onto_more front x (Ok others) = ap (λ xs. Ok xs) (sym (append_assoc front (x ∷ []) others))
onto_more front x (Err f) = refl

mapped_err : {X Y F : Type 0} (view : X → Y) (reading : Result X F) (f : F) → mapped view reading ≡ Err f → reading ≡ Err f
mapped_err view (Ok x) f is = absurd cc
mapped_err view (Err g) f is = ap (λ h. Err h) (let same : g ≡ f = cc in same)

-- ---- the values of a record

-- so many values of the record are begun, and its tuple has these and the others
abbrev pub BegunWith : List Column → List (List ℕ) → List Value → ℕ → Type 0
BegunWith cs fs begun i = tuple_of cs fs ≡ onto begun (values_from (i + 1) (drop i cs) (drop i fs))

pub begun_none : (cs : List Column) (fs : List (List ℕ)) (begun : List Value) → begun ≡ []
    → length fs ≡ length cs → BegunWith cs fs begun 0
unfolding tuple_of
begun_none cs fs begun none long =
    let same : eqb (length fs) (length cs) ≡ true = grind (arith, nat_tests) in
    rw (none, same) (onto_none (values_from 1 cs fs))

pub begun_more : (cs : List Column) (fs : List (List ℕ)) (begun more : List Value) (i : ℕ) (c : Column) (f : List ℕ)
    (v : Value) → i < length cs → i < length fs → c ≡ get_or cs i c → field_at fs i ≡ Some f
    → Ok v ≡ field_value c f → more ≡ begun ++ v ∷ []
    → BegunWith cs fs begun i → BegunWith cs fs more (i + 1)
begun_more cs fs begun more i c f v in_cs in_fs column field value added so_far =
    let rest = values_from (i + 1 + 1) (drop (i + 1) cs) (drop (i + 1) fs) in
    so_far
    ∙ ap (onto begun) (values_here cs fs i c f in_cs in_fs column field ∙ ap (λ r. in_column (i + 1) r >>= λ x. rest >>= λ vs. Ok (x ∷ vs)) (sym value))
    ∙ onto_more begun v rest ∙ ap (λ vs. onto vs rest) (sym added)

pub begun_stops : (cs : List Column) (fs : List (List ℕ)) (begun : List Value) (i : ℕ) (c : Column) (f : List ℕ)
    (cause : FieldFault) → i < length cs → i < length fs → c ≡ get_or cs i c → field_at fs i ≡ Some f
    → Err cause ≡ field_value c f → BegunWith cs fs begun i → tuple_of cs fs ≡ Err (record_fault.Field (i + 1) cause)
begun_stops cs fs begun i c f cause in_cs in_fs column field bad so_far =
    so_far
    ∙ ap (onto begun) (values_here cs fs i c f in_cs in_fs column field ∙ ap (λ r. in_column (i + 1) r >>= λ x. values_from (i + 1 + 1) (drop (i + 1) cs) (drop (i + 1) fs) >>= λ vs. Ok (x ∷ vs)) (sym bad))

pub begun_all : (cs : List Column) (fs : List (List ℕ)) (begun : List Value) (i : ℕ) → length cs ≤ i → length fs ≤ i
    → BegunWith cs fs begun i → tuple_of cs fs ≡ Ok begun
unfolding values_from
begun_all cs fs begun i over_cs over_fs so_far =
    so_far ∙ rw (drop_all i cs over_cs, drop_all i fs over_fs) (ap (λ vs. Ok vs) (append-nil begun))

-- the value of a field may stand in the next column
pub value_fits : (cs : List Column) (begun : List Value) (i : ℕ) (c : Column) (f : List ℕ) (v : Value)
    → length begun ≡ i → i < length cs → c ≡ get_or cs i c → Ok v ≡ field_value c f → FitsNext cs begun v
value_fits cs begun i c f v long below column value =
    rw (long, slice_get_read cs (length cs) i c refl below column) (field_is c f v (sym value)).is_of

pub wrong_record : (cs : List Column) (fs : List (List ℕ)) → (length fs ≡ length cs → ⊥)
    → tuple_of cs fs ≡ Err record_fault.Count
unfolding tuple_of
wrong_record cs fs differ =
    let differs : eqb (length fs) (length cs) ≡ false = grind (arith, nat_tests) in rw differs refl

-- ---- rows

-- the rows of the records that were packed, behind these first ones, and those of the rest
abbrev pub PackedWith : List Column → List (List Value) → List (List (List ℕ)) → List (List Value) → ℕ
    → List (List (List ℕ)) → Type 0
PackedWith cs first all rows row rest = onto first (tuples_from 1 cs all) ≡ onto rows (tuples_from (row + 1) cs rest)

row_read : (rows more : List (List Value)) (reading : Result (List Value) RecordFault)
    → mapped (λ tuple. rows ++ tuple ∷ []) reading ≡ Ok more
    → (tuple : List Value) × (reading ≡ Ok tuple) × (more ≡ rows ++ tuple ∷ [])
row_read rows more (Ok tuple) is = (tuple, refl, let same : more ≡ rows ++ tuple ∷ [] = cc in same)
row_read rows more (Err f) is = absurd cc

row_bad : (rows : List (List Value)) (reading : Result (List Value) RecordFault) (f : RecordFault)
    → mapped (λ tuple. rows ++ tuple ∷ []) reading ≡ Err f → reading ≡ Err f
row_bad rows reading f is = mapped_err (λ tuple. rows ++ tuple ∷ []) reading f is

pub packed_more : (cs : List Column) (first rows more : List (List Value)) (all before after : List (List (List ℕ)))
    (r : List (List ℕ)) (row : ℕ) → before ≡ r ∷ after
    → mapped (λ tuple. rows ++ tuple ∷ []) (tuple_of cs r) ≡ Ok more
    → PackedWith cs first all rows row before → PackedWith cs first all more (row + 1) after
packed_more cs first rows more all before after r row next read so_far =
    let tuple = row_read rows more (tuple_of cs r) read in
    so_far ∙ ap (λ rs. onto rows (tuples_from (row + 1) cs rs)) next
    ∙ ap (onto rows) (rows_here cs r after (row + 1) (Ok tuple.0) tuple.1)
    ∙ onto_more rows tuple.0 (tuples_from (row + 1 + 1) cs after)
    ∙ ap (λ rs. onto rs (tuples_from (row + 1 + 1) cs after)) (sym tuple.2)

pub packed_stops : (cs : List Column) (first rows : List (List Value)) (all before after : List (List (List ℕ)))
    (r : List (List ℕ)) (row : ℕ) (f : RecordFault) → before ≡ r ∷ after
    → mapped (λ tuple. rows ++ tuple ∷ []) (tuple_of cs r) ≡ Err f
    → PackedWith cs first all rows row before → onto first (tuples_from 1 cs all) ≡ Err (row_fault (row + 1) f)
packed_stops cs first rows all before after r row f next bad so_far =
    so_far ∙ ap (λ rs. onto rows (tuples_from (row + 1) cs rs)) next
    ∙ ap (onto rows) (rows_here cs r after (row + 1) (Err f) (row_bad rows (tuple_of cs r) f bad))

pub packed_all : (cs : List Column) (first rows : List (List Value)) (all before : List (List (List ℕ))) (row : ℕ)
    → before ≡ [] → PackedWith cs first all rows row before → onto first (tuples_from 1 cs all) ≡ Ok rows
unfolding tuples_from
packed_all cs first rows all before row none so_far =
    so_far ∙ ap (λ rs. onto rows (tuples_from (row + 1) cs rs)) none ∙ ap (λ rs. Ok rs) (append-nil rows)

-- ---- the whole file

-- a header that stopped the reading stops the content
pub header_fails : (any : Bool) (cs : List Column) (file : List ℕ) (records : List (List (List ℕ))) (why : Stop CsvFault)
    → records ≡ csv_records (without_mark file)
    → IfFault {T = Unit {0}} (Err why) (λ f. under_header any cs records ≡ Err f) → Fails why (csv_content any cs file)
header_fails any cs file records stop.Memory all is = tt
header_fails any cs file records (stop.Fault f) all is = content_is any cs file records (Err f) all is

pub tested_fails : {X F : Type 0} (why : Stop F) (reading : Result X F) → Fails why reading → Fails why (tested reading)
tested_fails stop.Memory reading fails = tt
tested_fails (stop.Fault f) reading fails = ap tested fails

-- a row that stopped the packing stops the reading
pub rows_fail : (first : List (List Value)) (why : Stop CsvFault) (reading : Result (List (List Value)) CsvFault)
    → Fails why (onto first reading) → Fails why reading
rows_fail first stop.Memory reading fails = tt
rows_fail first (stop.Fault f) reading fails = mapped_err (λ others. first ++ others) reading f fails

-- rows that were packed behind none are those of the content
pub packed_content : (any : Bool) (cs : List Column) (file : List ℕ) (records body : List (List (List ℕ)))
    (first rows : List (List Value)) → records ≡ csv_records (without_mark file)
    → under_header any cs records ≡ tuples_from 1 cs body → first ≡ [] → onto first (tuples_from 1 cs body) ≡ Ok rows
    → csv_content any cs file ≡ Ok rows
packed_content any cs file records body first rows all under none packed =
    content_is any cs file records (tuples_from 1 cs body) all under
    ∙ onto_none (tuples_from 1 cs body) ∙ ap (λ rs. onto rs (tuples_from 1 cs body)) (sym none) ∙ packed
