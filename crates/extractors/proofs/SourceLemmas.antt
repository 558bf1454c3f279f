-- What a checked file holds, and its tuples value by value.
use Rattle.std.proofs.Common.{◌≡◌, ◌<◌, ◌≤◌, ◌+◌, ℕ, zero, suc, List, [], ◌∷◌, length, drop, get_or, Bool, true, false, cond, eqb, Some, Result, Ok, Err, All, refl, sym, ap, subst, ◌∙◌, arith}
use Rattle.std.specs.Prelude.{slice_get, IsOk}
use Rattle.std.specs.List.{filter_map}
use Rattle.std.specs.Result.{result_ok}
use Rattle.std.proofs.lemmas.Bool.{and_from}
use Rattle.std.proofs.lemmas.List.Elements.{All-nil, All-cons, All-head, All-tail, All-get_or}
use Rattle.std.proofs.lemmas.Option.{slice_get-get_or}
use Rattle.csv.specs.Records.{field_at}
use Rattle.csv.proofs.RecordFacts.{field-get}
use Rattle.tuple_schema.specs.declared.value.Value.{Value}
use Rattle.tuple_schema.specs.declared.value.Value.TheVariants as value
use Rattle.tuple_schema.specs.declared.schema.Column.{Column}
use Rattle.tuple_schema.specs.Schemas.{HasScale, fits, Fits, is_of}
use Rattle.tuple_schema.specs.Stops.{◌>>=◌}
use Rattle.row_codec.specs.declared.fields.FieldFault.{FieldFault}
use Rattle.row_codec.specs.Fields.{field_value}
use Rattle.row_codec.specs.Lending.{tested}
use Rattle.row_codec.proofs.Values.{field_is}
use Rattle.extractors.specs.declared.fault.CsvFault.{CsvFault}
use Rattle.extractors.specs.declared.fault.CsvFault.TheVariants as fault
use Rattle.extractors.specs.declared.fault.RecordFault.{RecordFault}
use Rattle.extractors.specs.declared.fault.RecordFault.TheVariants as record_fault
use Rattle.extractors.specs.CsvContent.{csv_records, without_mark, header_of, in_column, values_from, tuple_of, in_row, tuples_from, under_header, csv_content}
use Rattle.extractors.specs.Readers.{GivesNext}
use Rattle.extractors.specs.Sources.{SourceOf, good_rows, body_records, file_rows, AreGood, IsChecked, tuple_or_none, good_tuple, IsGoodRecord}

bind_ok : {A B F : Type 0} (r : Result A F) (f : A → Result B F) (y : B) → (r >>= f) ≡ Ok y
    → (x : A) × (r ≡ Ok x) × (f x ≡ Ok y)
bind_ok (Ok x) f y e = (x, refl, e)
bind_ok (Err d) f y e = absurd cc

needs_ok : {A F : Type 0} (b : Bool) (d : F) (r : Result A F) (y : A) → cond b r (Err d) ≡ Ok y
    → (b ≡ true) × (r ≡ Ok y)
needs_ok true d r y e = (refl, e)
needs_ok false d r y e = absurd cc

known : {A F : Type 0} (r : Result A F) → IsOk r → (x : A) × (r ≡ Ok x)
known (Ok x) is = (x, refl)
known (Err f) is = absurd cc

passed : {X F : Type 0} (r : Result X F) → tested r ≡ Ok tt → (x : X) × (r ≡ Ok x)
passed (Ok x) is = (x, refl)
passed (Err f) is = absurd cc

-- ---- tuples

in_column_ok : (at : ℕ) (r : Result Value FieldFault) (v : Value) → in_column at r ≡ Ok v → r ≡ Ok v
in_column_ok at (Ok w) v e = let same : w ≡ v = cc in ap (λ x. Ok x) same
in_column_ok at (Err f) v e = absurd cc

-- the values of fields, one by one
record Values (at : ℕ) (c : Column) (cs : List Column) (f : List ℕ) (fs : List (List ℕ))
    (vs : List Value) : Type 0 where
  first : Value
  others : List Value
  read : field_value c f ≡ Ok first
  go_on : values_from (at + 1) cs fs ≡ Ok others
  parts : vs ≡ first ∷ others

values_cons : (at : ℕ) (c : Column) (cs : List Column) (f : List ℕ) (fs : List (List ℕ)) (vs : List Value)
    → values_from at (c ∷ cs) (f ∷ fs) ≡ Ok vs → Values at c cs f fs vs
unfolding values_from
values_cons at c cs f fs vs e =
    let a =
    bind_ok (in_column at (field_value c f))
    (λ first. values_from (at + 1) cs fs >>= λ others. Ok (first ∷ others)) vs e in
    let b = bind_ok (values_from (at + 1) cs fs) (λ others. Ok (a.0 ∷ others)) vs a.2 in
    let same : vs ≡ a.0 ∷ b.0 = let is = b.2 in cc in
    record { first = a.0; others = b.0; read = in_column_ok at (field_value c f) a.0 a.1; go_on = b.1; parts = same }

values_nil : (at : ℕ) (cs : List Column) (vs : List Value) → values_from at cs [] ≡ Ok vs → (cs ≡ []) × (vs ≡ [])
unfolding values_from
values_nil at [] vs e = (refl, let same : vs ≡ [] = cc in same)
values_nil at (c ∷ cs) vs e = absurd cc

no_columns : (at : ℕ) (f : List ℕ) (fs : List (List ℕ)) (vs : List Value) → values_from at [] (f ∷ fs) ≡ Ok vs → ⊥
unfolding values_from
no_columns at f fs vs e = cc

values_long : (at : ℕ) (cs : List Column) (fs : List (List ℕ)) (vs : List Value) → values_from at cs fs ≡ Ok vs
    → (length cs ≡ length vs) × (length fs ≡ length vs)
values_long at cs [] vs e = let none = values_nil at cs vs e in (rw (none.0, none.1) refl, rw none.1 refl)
values_long at [] (f ∷ fs) vs e = absurd (no_columns at f fs vs e)
values_long at (c ∷ cs) (f ∷ fs) vs e =
    let values = values_cons at c cs f fs vs e in
    let (columns, fields) = values_long (at + 1) cs fs values.others values.go_on in
    rw values.parts (ap suc columns, ap suc fields)

values_get : (at : ℕ) (cs : List Column) (fs : List (List ℕ)) (vs : List Value) (i : ℕ) (c : Column) (v : Value)
    → values_from at cs fs ≡ Ok vs → i < length vs → field_value (get_or cs i c) (get_or fs i []) ≡ Ok (get_or vs i v)
values_get at cs [] vs i c v e below =
    let none = values_nil at cs vs e in absurd (omega (arith, ap (λ (xs : List Value). length xs) none.1))
values_get at [] (f ∷ fs) vs i c v e below = absurd (no_columns at f fs vs e)
values_get at (k ∷ ks) (f ∷ fs) vs zero c v e below =
    let values = values_cons at k ks f fs vs e in
    rw values.parts values.read
values_get at (k ∷ ks) (f ∷ fs) vs (suc i) c v e below =
    let values = values_cons at k ks f fs vs e in
    let long : length vs ≡ suc (length values.others) = ap (λ (xs : List Value). length xs) values.parts in
    rw values.parts (values_get (at + 1) ks fs values.others i c v values.go_on (omega arith))

values_fit : (at : ℕ) (cs : List Column) (fs : List (List ℕ)) (vs : List Value) → values_from at cs fs ≡ Ok vs
    → Fits cs vs
values_fit at cs [] vs e = let none = values_nil at cs vs e in rw (none.0, none.1) refl
values_fit at [] (f ∷ fs) vs e = absurd (no_columns at f fs vs e)
values_fit at (c ∷ cs) (f ∷ fs) vs e =
    let values = values_cons at c cs f fs vs e in
    rw values.parts (and_from (is_of c.kind c.nullable values.first) (fits cs values.others) (field_is c f values.first values.read).is_of (values_fit (at + 1) cs fs values.others values.go_on))

tuple_values : (cs : List Column) (fs : List (List ℕ)) (tuple : List Value) → tuple_of cs fs ≡ Ok tuple
    → values_from 1 cs fs ≡ Ok tuple
unfolding tuple_of
tuple_values cs fs tuple e = (needs_ok (eqb (length fs) (length cs)) record_fault.Count (values_from 1 cs fs) tuple e).1

-- a record that has a tuple
pub record HasTuple (cs : List Column) (fs : List (List ℕ)) : Type 0 where
  pub read : tuple_of cs fs ≡ Ok (good_tuple cs fs)
  pub fit : Fits cs (good_tuple cs fs)

pub has_tuple : (cs : List Column) (fs : List (List ℕ)) → IsOk (tuple_of cs fs) → HasTuple cs fs
unfolding good_tuple
has_tuple cs fs is =
    let tuple = known (tuple_of cs fs) is in
    let same : good_tuple cs fs ≡ tuple.0 = ap tuple_or_none tuple.1 in
    record { read = tuple.1 ∙ ap (λ t. Ok t) (sym same); fit = subst (Fits cs) (sym same) (values_fit 1 cs fs tuple.0 (tuple_values cs fs tuple.0 tuple.1)) }

-- a value of a record's tuple
pub record FieldOf (cs : List Column) (fs : List (List ℕ)) (seen : List Value) (i : ℕ) : Type 0 where
  pub v : Value
  pub here : slice_get seen i ≡ Some v
  pub small : i < 64
  pub in_columns : i < length cs
  pub in_fields : i < length fs
  pub scaled : (c : Column) → HasScale (get_or cs i c).kind
  pub read : (c : Column) (f : List ℕ) → field_at fs i ≡ Some f → field_value (get_or cs i c) f ≡ Ok v

pub field_of : (cs : List Column) (fs : List (List ℕ)) (seen : List Value) (i : ℕ) → IsGoodRecord cs fs
    → good_tuple cs fs ≡ seen → i < length seen → FieldOf cs fs seen i
field_of cs fs seen i is same below =
    let tuple = has_tuple cs fs is.good in
    let values : values_from 1 cs fs ≡ Ok seen =
    tuple_values cs fs (good_tuple cs fs) tuple.read ∙ ap (λ t. Ok t) same in
    let (columns, fields) = values_long 1 cs fs seen values in
    let few = is.schema.few in
    let in_cs : i < length cs = omega arith in
    record {
      v = get_or seen i value.Null;
      here = slice_get-get_or seen i value.Null below;
      small = omega arith;
      in_columns = in_cs;
      in_fields = omega arith;
      scaled = λ c. All-get_or (λ k. HasScale k.kind) cs i c in_cs is.schema.scaled;
      read = λ c f there. ap (field_value (get_or cs i c)) (sym (field-get fs i f there))
          ∙ values_get 1 cs fs seen i c value.Null values below;
    }

pub seen_long : (cs : List Column) (fs : List (List ℕ)) (seen : List Value) → IsGoodRecord cs fs
    → good_tuple cs fs ≡ seen → length cs ≡ length seen
seen_long cs fs seen is same =
    (values_long 1 cs fs seen (tuple_values cs fs (good_tuple cs fs) (has_tuple cs fs is.good).read ∙ ap (λ t. Ok t) same)).0

-- ---- rows

pub good_cons : (cs : List Column) (r : List (List ℕ)) (rs : List (List (List ℕ))) → IsOk (tuple_of cs r)
    → good_rows cs (r ∷ rs) ≡ good_tuple cs r ∷ good_rows cs rs
unfolding good_rows
good_cons cs r rs is = rw (has_tuple cs r is).read refl

tuple_is : (cs : List Column) (r : List (List ℕ)) (tuple : List Value) → tuple_of cs r ≡ Ok tuple
    → tuple ≡ good_tuple cs r
unfolding good_tuple
tuple_is cs r tuple is = sym (ap tuple_or_none is)

-- what is checked is good
record Checked (cs : List Column) (rs : List (List (List ℕ))) (rows : List (List Value)) : Type 0 where
  good : AreGood cs rs
  same : rows ≡ good_rows cs rs

in_row_ok : (row : ℕ) (r : Result (List Value) RecordFault) (tuple : List Value) → in_row row r ≡ Ok tuple
    → r ≡ Ok tuple
in_row_ok row (Ok t) tuple e = let same : t ≡ tuple = cc in ap (λ x. Ok x) same
in_row_ok row (Err f) tuple e = absurd cc

rows_checked : (row : ℕ) (cs : List Column) (rs : List (List (List ℕ))) (rows : List (List Value))
    → tuples_from row cs rs ≡ Ok rows → Checked cs rs rows
unfolding tuples_from good_rows
rows_checked row cs [] rows e =
    record { good = record { each = All-nil (λ fields. IsOk (tuple_of cs fields)) }; same = let is : rows ≡ [] = cc in is }
rows_checked row cs (r ∷ rs) rows e =
    let a =
    bind_ok (in_row row (tuple_of cs r))
    (λ first. tuples_from (row + 1) cs rs >>= λ others. Ok (first ∷ others)) rows e in
    let b = bind_ok (tuples_from (row + 1) cs rs) (λ others. Ok (a.0 ∷ others)) rows a.2 in
    let first : tuple_of cs r ≡ Ok a.0 = in_row_ok row (tuple_of cs r) a.0 a.1 in
    let others = rows_checked (row + 1) cs rs b.0 b.1 in
    let is : rows ≡ a.0 ∷ b.0 = let e2 = b.2 in cc in
    let good : IsOk (tuple_of cs r) = subst (λ (t : Result (List Value) RecordFault). IsOk t) (sym first) refl in
    record {
      good = record { each = All-cons (λ fields. IsOk (tuple_of cs fields)) r rs good others.good.each };
      same = is ∙ ap (λ ts. a.0 ∷ ts) others.same ∙ ap (λ t. t ∷ good_rows cs rs) (tuple_is cs r a.0 first)
          ∙ sym (good_cons cs r rs good);
    }

header_then : (any : Bool) (cs : List Column) (header : List (List ℕ)) (records : List (List (List ℕ)))
    (rows : List (List Value))
    → under_header any cs (header ∷ records) ≡ Ok rows → tuples_from 1 cs records ≡ Ok rows
unfolding under_header
header_then any cs header records rows e = (bind_ok (header_of any cs header) (λ x. tuples_from 1 cs records) rows e).2

no_header : (any : Bool) (cs : List Column) (rows : List (List Value)) → under_header any cs [] ≡ Ok rows → ⊥
unfolding under_header
no_header any cs rows e = cc

under_checked : (any : Bool) (cs : List Column) (records : List (List (List ℕ))) (rows : List (List Value))
    → under_header any cs records ≡ Ok rows
    → (1 ≤ length records) × (AreGood cs (drop 1 records)) × (rows ≡ good_rows cs (drop 1 records))
under_checked any cs [] rows e = absurd (no_header any cs rows e)
under_checked any cs (header ∷ records) rows e =
    let checked = rows_checked 1 cs records rows (header_then any cs header records rows e) in
    (omega arith, checked.good, checked.same)

-- a file that has a content
pub record HasContent (any : Bool) (cs : List Column) (file : List ℕ) : Type 0 where
  pub checked : IsChecked cs file
  pub content : csv_content any cs file ≡ Ok (file_rows cs file)

pub has_content : (any : Bool) (cs : List Column) (file : List ℕ) → tested (csv_content any cs file) ≡ Ok tt
    → HasContent any cs file
unfolding csv_content file_rows
has_content any cs file passes =
    let rows = passed (csv_content any cs file) passes in
    let under = under_checked any cs (csv_records (without_mark file)) rows.0 rows.1 in
    record { checked = record { headed = under.0; good = under.1 }; content = rows.1 ∙ ap (λ r. Ok r) under.2 }

-- ---- reading on

pub rest_good : (cs : List Column) (before after : List (List (List ℕ))) (r : List (List ℕ)) → before ≡ r ∷ after
    → AreGood cs before → IsOk (tuple_of cs r) × AreGood cs after
rest_good cs before after r next good =
    let each : All (λ fields. IsOk (tuple_of cs fields)) (r ∷ after) =
    subst (All (λ fields. IsOk (tuple_of cs fields))) next good.each in
    (All-head (λ fields. IsOk (tuple_of cs fields)) r after each, record { each = All-tail (λ fields. IsOk (tuple_of cs fields)) r after each })

-- one record more was read and packed
pub record OneRead (cs columns : List Column) (before after : List (List (List ℕ))) (r : List (List ℕ)) : Type 0 where
  pub good : IsOk (tuple_of cs r)
  pub rest : AreGood cs after
  pub rows : good_rows cs before ≡ good_tuple cs r ∷ good_rows cs after
  pub fit : Fits columns (good_tuple cs r)
  pub rest_fit : All (Fits columns) (good_rows cs after)

pub one_read : (cs columns : List Column) (before after : List (List (List ℕ))) (r : List (List ℕ))
    → before ≡ r ∷ after → AreGood cs before → All (Fits columns) (good_rows cs before)
    → OneRead cs columns before after r
one_read cs columns before after r next good fit =
    let (here, rest) = rest_good cs before after r next good in
    let rows : good_rows cs before ≡ good_tuple cs r ∷ good_rows cs after =
    ap (good_rows cs) next ∙ good_cons cs r after here in
    let each : All (Fits columns) (good_tuple cs r ∷ good_rows cs after) = subst (All (Fits columns)) rows fit in
    record {
      good = here;
      rest = rest;
      rows = rows;
      fit = All-head (Fits columns) (good_tuple cs r) (good_rows cs after) each;
      rest_fit = All-tail (Fits columns) (good_tuple cs r) (good_rows cs after) each;
    }

pub none_good : (cs : List Column) (records : List (List (List ℕ))) → records ≡ [] → good_rows cs records ≡ []
unfolding good_rows
none_good cs records none = ap (λ rs. filter_map (λ fields. result_ok (tuple_of cs fields)) rs) none

-- ---- the whole file

pub under_none : (any : Bool) (cs : List Column) (records : List (List (List ℕ))) → records ≡ []
    → under_header any cs records ≡ Err (fault.BadHeader 1)
unfolding under_header
under_none any cs records none = ap (under_header any cs) none

pub under_ok : (any : Bool) (cs : List Column) (before after : List (List (List ℕ))) (header : List (List ℕ))
    → before ≡ header ∷ after → Ok tt ≡ header_of any cs header → under_header any cs before ≡ tuples_from 1 cs after
unfolding under_header
under_ok any cs before after header next named =
    ap (under_header any cs) next ∙ ap (λ r. r >>= λ x. tuples_from 1 cs after) (sym named)

pub under_err : (any : Bool) (cs : List Column) (before after : List (List (List ℕ))) (header : List (List ℕ))
    (f : CsvFault)
    → before ≡ header ∷ after → Err f ≡ header_of any cs header → under_header any cs before ≡ Err f
unfolding under_header
under_err any cs before after header f next wrong =
    ap (under_header any cs) next ∙ ap (λ r. r >>= λ x. tuples_from 1 cs after) (sym wrong)

-- what a file has under its header is its content
pub content_is : (any : Bool) (cs : List Column) (file : List ℕ) (records : List (List (List ℕ)))
    (reading : Result (List (List Value)) CsvFault)
    → records ≡ csv_records (without_mark file) → under_header any cs records ≡ reading
    → csv_content any cs file ≡ reading
unfolding csv_content
content_is any cs file records reading all is = ap (under_header any cs) (sym all) ∙ is

-- behind the header
behind_header : (before after : List (List (List ℕ))) (found : Bool) (fields : List (List ℕ))
    → GivesNext before after found fields → 1 ≤ length before → after ≡ drop 1 before
behind_header before after true fields next some = sym (ap (λ rs. drop 1 rs) next)
behind_header before after false fields next some =
    absurd (omega (arith, ap (λ (rs : List (List (List ℕ))). length rs) next))

pub rows_behind : (cs : List Column) (file : List ℕ) (before after : List (List (List ℕ))) (found : Bool)
    (fields : List (List ℕ))
    → before ≡ csv_records (without_mark file) → IsChecked cs file → GivesNext before after found fields
    → good_rows cs after ≡ file_rows cs file
unfolding file_rows
rows_behind cs file before after found fields all checked next =
    let headed : 1 ≤ length before = rw all checked.headed in
    ap (good_rows cs) (behind_header before after found fields next headed ∙ ap (λ rs. drop 1 rs) all)

good_fit : (cs : List Column) (rs : List (List (List ℕ))) → AreGood cs rs → All (Fits cs) (good_rows cs rs)
good_fit cs [] good = rw (none_good cs [] refl) (All-nil (Fits cs))
good_fit cs (r ∷ rs) good =
    let (here, rest) = rest_good cs (r ∷ rs) rs r refl good in
    rw (good_cons cs r rs here)
    (All-cons (Fits cs) (good_tuple cs r) (good_rows cs rs) (has_tuple cs r here).fit (good_fit cs rs rest))

-- the rows of a checked file fit its columns
pub file_fits : (cs : List Column) (file : List ℕ) → IsChecked cs file → All (Fits cs) (file_rows cs file)
unfolding file_rows
file_fits cs file checked = good_fit cs (body_records file) checked.good

-- the rows of a content fit the columns
pub content_fits : (any : Bool) (cs : List Column) (file : List ℕ) (rows : List (List Value))
    → csv_content any cs file ≡ Ok rows → All (Fits cs) rows
content_fits any cs file rows is =
    let has = has_content any cs file (ap tested is) in
    let same : file_rows cs file ≡ rows = let twice = sym has.content ∙ is in cc in
    subst (All (Fits cs)) same (file_fits cs file has.checked)

-- the same of a source that is seen so
pub source_fits : (cs : List Column) (file : List ℕ) (seen : SourceOf) → IsChecked cs file
    → (let source : SourceOf = record { columns = cs; rows = file_rows cs file } in source ≡ seen)
    → All (Fits seen.columns) seen.rows
source_fits cs file seen checked same =
    subst (λ (s : SourceOf). All (Fits s.columns) s.rows) same (file_fits cs file checked)
