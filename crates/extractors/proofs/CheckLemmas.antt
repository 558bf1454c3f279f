-- Headers, records and rows, one item after the other.
use Rattle.std.proofs.Common.{◌≡◌, ◌≢◌, ◌<◌, ◌≤◌, ◌+◌, ℕ, zero, suc, List, [], ◌∷◌, length, drop, get_or, Bool, true, false, ◌||◌, cond, eqb, Option, Some, None, Result, Ok, Err, refl, sym, ap, ◌∙◌, arith, add-one, drop-cons, length-drop, inl, inr}
use Rattle.std.specs.Prelude.{bytes_eq, nat_eq, if◌then◌else◌}
use Rattle.std.specs.List.{starts_with}
use Rattle.std.proofs.lemmas.List.{drop_all}
use Rattle.csv.specs.Records.{field_at}
use Rattle.csv.proofs.RecordFacts.{field-get, field-there}
use Rattle.std.proofs.lemmas.Bool.{cases_lt}
use Rattle.std.proofs.lemmas.Bool.Decides.{nat_tests}
use Rattle.tuple_schema.specs.declared.value.Value.{Value}
use Rattle.tuple_schema.specs.declared.schema.Column.{Column}
use Rattle.tuple_schema.specs.Stops.{◌>>=◌}
use Rattle.row_codec.specs.declared.fields.FieldFault.{FieldFault}
use Rattle.row_codec.specs.Fields.{field_value}
use Rattle.row_codec.specs.Lending.{tested}
use Rattle.extractors.specs.declared.fault.CsvFault.{CsvFault}
use Rattle.extractors.specs.declared.fault.RecordFault.{RecordFault}
use Rattle.extractors.specs.declared.fault.RecordFault.TheVariants as record_fault
use Rattle.extractors.specs.CsvContent.{mark, without_mark, csv_records, named_columns, in_column, values_from, tuple_of, row_fault, in_row, tuples_from}
use Rattle.csv.specs.Machine.{Read, next_record}
use Rattle.csv.specs.Reading.{records_from, records_next, default_config, strip_bom, is_bom}
use Rattle.csv.specs.declared.parser.Config.{Config}
use Rattle.csv.specs.declared.parser.State.{State}
use Rattle.csv.specs.declared.parser.State.TheVariants as st

drop_here : {X : Type 0} (xs : List X) (i : ℕ) (x : X) → i < length xs → x ≡ get_or xs i x
    → drop i xs ≡ x ∷ drop (i + 1) xs
drop_here xs i x below is = rw add-one (drop-cons xs i x below ∙ ap (λ y. y ∷ drop (suc i) xs) (sym is))

drop_field : (fs : List (List ℕ)) (i : ℕ) (f : List ℕ) → i < length fs → field_at fs i ≡ Some f
    → drop i fs ≡ f ∷ drop (i + 1) fs
drop_field fs i f below is = rw add-one (drop-cons fs i [] below ∙ ap (λ y. y ∷ drop (suc i) fs) (field-get fs i f is))

-- ---- headers

abbrev names_it : Bool → Column → List ℕ → Bool
names_it any c name = any || bytes_eq c.name name

-- how many columns are named, when so many are
abbrev pub NamedFrom : Bool → List Column → List (List ℕ) → ℕ → Type 0
NamedFrom any cs names i = named_columns any cs names ≡ i + named_columns any (drop i cs) (drop i names)

pub named_start : (any : Bool) (cs : List Column) (names : List (List ℕ)) → NamedFrom any cs names 0
named_start any cs names = omega arith

named_here : (any : Bool) (cs : List Column) (names : List (List ℕ)) (i : ℕ) (c : Column) (name : List ℕ)
    → i < length cs → i < length names → c ≡ get_or cs i c → field_at names i ≡ Some name
    → named_columns any (drop i cs) (drop i names)
    ≡ cond (names_it any c name) (1 + named_columns any (drop (i + 1) cs) (drop (i + 1) names)) 0
named_here any cs names i c name in_cs in_names column named =
    ap (λ ks. named_columns any ks (drop i names)) (drop_here cs i c in_cs column)
    ∙ ap (named_columns any (c ∷ drop (i + 1) cs)) (drop_field names i name in_names named)

pub named_more : (any : Bool) (cs : List Column) (names : List (List ℕ)) (i : ℕ) (c : Column) (name : List ℕ)
    → i < length cs → i < length names → c ≡ get_or cs i c → field_at names i ≡ Some name
    → (any || bytes_eq c.name name) ≡ true
    → NamedFrom any cs names i → NamedFrom any cs names (i + 1)
named_more any cs names i c name in_cs in_names column named is so_far =
    let here : named_columns any (drop i cs) (drop i names) ≡ 1 + named_columns any (drop (i + 1) cs)
    (drop (i + 1) names) = named_here any cs names i c name in_cs in_names column named
    ∙ rw is refl in
    so_far ∙ omega arith

pub named_stops : (any : Bool) (cs : List Column) (names : List (List ℕ)) (i : ℕ) (c : Column) (name : List ℕ)
    → i < length cs → i < length names → c ≡ get_or cs i c → field_at names i ≡ Some name
    → (any || bytes_eq c.name name) ≡ false
    → NamedFrom any cs names i → named_columns any cs names ≡ i
named_stops any cs names i c name in_cs in_names column named is_not so_far =
    let here : named_columns any (drop i cs) (drop i names) ≡ 0 =
    named_here any cs names i c name in_cs in_names column named ∙ rw is_not refl in
    so_far ∙ omega arith

no_names : (any : Bool) (cs : List Column) → named_columns any cs [] ≡ 0
no_names any [] = refl
no_names any (c ∷ cs) = refl

pub named_over : (any : Bool) (cs : List Column) (names : List (List ℕ)) (i : ℕ) → length names ≤ i
    → NamedFrom any cs names i → named_columns any cs names ≡ i
named_over any cs names i over so_far =
    let none : named_columns any (drop i cs) (drop i names) ≡ 0 =
    rw (drop_all i names over) (no_names any (drop i cs)) in
    so_far ∙ omega arith

pub named_all : (any : Bool) (cs : List Column) (names : List (List ℕ)) (i : ℕ) → length cs ≤ i
    → NamedFrom any cs names i → named_columns any cs names ≡ i
named_all any cs names i over so_far =
    let none : named_columns any (drop i cs) (drop i names) ≡ 0 = rw (drop_all i cs over) refl in
    so_far ∙ omega arith

-- where there is no name any more
pub name_absent : (names : List (List ℕ)) (i : ℕ) → field_at names i ≡ None → length names ≤ i
name_absent names i none =
    elim (cases_lt i (length names)) [ inl lt ↦ absurd (field-there names i lt none) | inr le ↦ le ]

pub name_there : (names : List (List ℕ)) (i : ℕ) (name : List ℕ) → field_at names i ≡ Some name → i < length names
unfolding field_at
name_there [] i name is = absurd cc
name_there (n ∷ ns) zero name is = omega arith
name_there (n ∷ ns) (suc i) name is = let below = name_there ns i name is in omega arith

-- ---- records

pub wrong_count : (cs : List Column) (fs : List (List ℕ)) → length fs ≢ length cs
    → tested (tuple_of cs fs) ≡ Err record_fault.Count
unfolding tuple_of
wrong_count cs fs differ =
    let differs : eqb (length fs) (length cs) ≡ false = grind (arith, nat_tests) in rw differs refl

-- the fault of a record is that of its fields from one place on
abbrev pub TestedFrom : List Column → List (List ℕ) → ℕ → Type 0
TestedFrom cs fs i = tested (tuple_of cs fs) ≡ tested (values_from (i + 1) (drop i cs) (drop i fs))

pub tested_start : (cs : List Column) (fs : List (List ℕ)) → length fs ≡ length cs → TestedFrom cs fs 0
unfolding tuple_of
tested_start cs fs long = let same : eqb (length fs) (length cs) ≡ true = grind (arith, nat_tests) in rw same refl

tested_then : (v : Value) (others : Result (List Value) RecordFault)
    → tested (others >>= λ vs. Ok (v ∷ vs)) ≡ tested others
tested_then v (Ok vs) = refl
tested_then v (Err f) = refl

pub values_here : (cs : List Column) (fs : List (List ℕ)) (i : ℕ) (c : Column) (f : List ℕ) → i < length cs
    → i < length fs → c ≡ get_or cs i c → field_at fs i ≡ Some f
    → values_from (i + 1) (drop i cs) (drop i fs) ≡ (in_column (i + 1) (field_value c f) >>= λ v. values_from (i + 1 + 1) (drop (i + 1) cs) (drop (i + 1) fs) >>= λ vs. Ok (v ∷ vs))
unfolding values_from
values_here cs fs i c f in_cs in_fs column field =
    rw (drop_here cs i c in_cs column, drop_field fs i f in_fs field) refl

tested_ok : {X F : Type 0} (r : Result X F) → Ok tt ≡ tested r → (x : X) × (r ≡ Ok x)
tested_ok (Ok x) is = (x, refl)
tested_ok (Err f) is = absurd cc

tested_err : {X F : Type 0} (r : Result X F) (f : F) → Err f ≡ tested r → r ≡ Err f
tested_err (Ok x) f is = absurd cc
tested_err (Err g) f is = ap (λ h. Err h) (let same : g ≡ f = cc in same)

pub tested_more : (cs : List Column) (fs : List (List ℕ)) (i : ℕ) (c : Column) (f : List ℕ) → i < length cs
    → i < length fs → c ≡ get_or cs i c → field_at fs i ≡ Some f → Ok tt ≡ tested (field_value c f)
    → TestedFrom cs fs i → TestedFrom cs fs (i + 1)
tested_more cs fs i c f in_cs in_fs column field good so_far =
    let value = tested_ok (field_value c f) good in
    so_far
    ∙ ap tested (values_here cs fs i c f in_cs in_fs column field ∙ ap (λ r. in_column (i + 1) r >>= λ v. values_from (i + 1 + 1) (drop (i + 1) cs) (drop (i + 1) fs) >>= λ vs. Ok (v ∷ vs)) value.1)
    ∙ tested_then value.0 (values_from (i + 1 + 1) (drop (i + 1) cs) (drop (i + 1) fs))

pub tested_stops : (cs : List Column) (fs : List (List ℕ)) (i : ℕ) (c : Column) (f : List ℕ) (cause : FieldFault)
    → i < length cs → i < length fs → c ≡ get_or cs i c → field_at fs i ≡ Some f
    → Err cause ≡ tested (field_value c f) → TestedFrom cs fs i
    → tested (tuple_of cs fs) ≡ Err (record_fault.Field (i + 1) cause)
tested_stops cs fs i c f cause in_cs in_fs column field bad so_far =
    so_far
    ∙ ap tested (values_here cs fs i c f in_cs in_fs column field ∙ ap (λ r. in_column (i + 1) r >>= λ v. values_from (i + 1 + 1) (drop (i + 1) cs) (drop (i + 1) fs) >>= λ vs. Ok (v ∷ vs)) (tested_err (field_value c f) cause bad))

pub tested_end : (cs : List Column) (fs : List (List ℕ)) (i : ℕ) → length cs ≤ i → length fs ≤ i → TestedFrom cs fs i
    → tested (tuple_of cs fs) ≡ Ok tt
unfolding values_from
tested_end cs fs i over_cs over_fs so_far = so_far ∙ rw (drop_all i cs over_cs, drop_all i fs over_fs) refl

-- ---- rows

-- the first fault of rows, when so many of them are good
abbrev pub RowsFrom : List Column → List (List (List ℕ)) → ℕ → List (List (List ℕ)) → Type 0
RowsFrom cs all row rest = tested (tuples_from 1 cs all) ≡ tested (tuples_from (row + 1) cs rest)

pub rows_start : (cs : List Column) (all : List (List (List ℕ))) → RowsFrom cs all 0 all
rows_start cs all = refl

rows_then : (tuple : List Value) (others : Result (List (List Value)) CsvFault)
    → tested (others >>= λ ts. Ok (tuple ∷ ts)) ≡ tested others
rows_then tuple (Ok ts) = refl
rows_then tuple (Err f) = refl

pub rows_here : (cs : List Column) (r : List (List ℕ)) (rs : List (List (List ℕ))) (row : ℕ)
    (reading : Result (List Value) RecordFault)
    → tuple_of cs r ≡ reading
    → tuples_from row cs (r ∷ rs) ≡ (in_row row reading >>= λ t. tuples_from (row + 1) cs rs >>= λ ts. Ok (t ∷ ts))
unfolding tuples_from
rows_here cs r rs row reading is =
    ap (λ tuple. in_row row tuple >>= λ t. tuples_from (row + 1) cs rs >>= λ ts. Ok (t ∷ ts)) is

pub rows_more : (cs : List Column) (all before after : List (List (List ℕ))) (r : List (List ℕ)) (row : ℕ)
    → before ≡ r ∷ after → Ok tt ≡ tested (tuple_of cs r) → RowsFrom cs all row before
    → RowsFrom cs all (row + 1) after
rows_more cs all before after r row next good so_far =
    let tuple = tested_ok (tuple_of cs r) good in
    so_far ∙ ap (λ rs. tested (tuples_from (row + 1) cs rs)) next
    ∙ ap tested (rows_here cs r after (row + 1) (Ok tuple.0) tuple.1)
    ∙ rows_then tuple.0 (tuples_from (row + 1 + 1) cs after)

pub rows_stop : (cs : List Column) (all before after : List (List (List ℕ))) (r : List (List ℕ)) (row : ℕ)
    (f : RecordFault)
    → before ≡ r ∷ after → Err f ≡ tested (tuple_of cs r) → RowsFrom cs all row before
    → tested (tuples_from 1 cs all) ≡ Err (row_fault (row + 1) f)
rows_stop cs all before after r row f next bad so_far =
    so_far ∙ ap (λ rs. tested (tuples_from (row + 1) cs rs)) next
    ∙ ap tested (rows_here cs r after (row + 1) (Err f) (tested_err (tuple_of cs r) f bad))

pub rows_end : (cs : List Column) (all before : List (List (List ℕ))) (row : ℕ) → before ≡ []
    → RowsFrom cs all row before → tested (tuples_from 1 cs all) ≡ Ok tt
unfolding tuples_from
rows_end cs all before row none so_far = so_far ∙ ap (λ rs. tested (tuples_from (row + 1) cs rs)) none

-- ---- how many there are

next_few : (more : State → List ℕ → List (List (List ℕ))) (n : ℕ)
    → ((t : State) (ys : List ℕ) → length (more t ys) ≤ n) → (o : Option Read) → length (records_next more o) ≤ suc n
next_few more n few None = omega arith
next_few more n few (Some r) = let rest = few r.1 r.2 in omega arith

records_few : (cfg : Config) (n : ℕ) (s : State) (xs : List ℕ) → length (records_from cfg n s xs) ≤ n
unfolding records_from
records_few cfg zero s xs = omega arith
records_few cfg (suc n) s xs =
    next_few (records_from cfg n) n (λ t ys. records_few cfg n t ys) (next_record cfg s [] [] xs)

either_shorter : (b : Bool) (xs ys : List ℕ) (n : ℕ) → length xs ≤ n → length ys ≤ n → length (if b then xs else ys) ≤ n
either_shorter true xs ys n first second = first
either_shorter false xs ys n first second = second

strip_shorter : (xs : List ℕ) → length (strip_bom xs) ≤ length xs
unfolding strip_bom
strip_shorter [] = omega arith
strip_shorter (a ∷ []) = omega arith
strip_shorter (a ∷ b ∷ []) = omega arith
strip_shorter (a ∷ b ∷ c ∷ rest) =
    either_shorter (is_bom a b c) rest (a ∷ b ∷ c ∷ rest) (length (a ∷ b ∷ c ∷ rest)) (omega arith) (omega arith)

-- a text has no more records than bytes, and one
pub csv_records_few : (text : List ℕ) → length (csv_records text) ≤ length text + 1
csv_records_few text =
    let few = records_few default_config (length (strip_bom text) + 1) st.StartRecord (strip_bom text) in
    let shorter = strip_shorter text in
    omega arith

pub mark_shorter : (file : List ℕ) → length (without_mark file) ≤ length file
mark_shorter file =
    either_shorter (starts_with nat_eq file mark) (drop 3 file) file (length file) (omega (arith, length-drop 3 file))
    (omega arith)
