-- Names that differ, the columns of texts, and columns that are taken.
use Rattle.std.proofs.Common.{◌≡◌, ◌∙◌, ℕ, zero, suc, ◌<◌, ◌≤◌, ◌-◌, List, [], ◌∷◌, ◌++◌, map, take, get_or, length, codes, bytes_eq, Bool, true, false, All, refl, sym, ap, subst, inl, inr, Option, Some, None, if◌then◌else◌, Ok, Err, arith}
use Rattle.std.specs.Prelude.{slice_index, unwrap_or, nat_lt, ◌==◌}
use Rattle.std.specs.List.{list_any, AllZip}
use Rattle.std.specs.Option.{option_or}
use Rattle.std.proofs.lemmas.Bool.{cases_Bool, both_ways, cases_lt, and_parts, eqb-true, leb-true}
use Rattle.std.proofs.lemmas.List.{get_or-take, length-take-le, get_or_default, length-map}
use Rattle.std.proofs.lemmas.List.Folds.{list_any_at, list_any_none}
use Rattle.std.proofs.lemmas.List.Elements.{All-nil, All-cons, All-map, All-weaker}
use Rattle.std.proofs.lemmas.Option.{same_Some, slice_get_read, slice_get_within, slice_get-get_or}
use Rattle.std.proofs.lemmas.Slice.Eq.{bytes_eq-Decides}
use Rattle.tuple_schema.specs.declared.schema.Column.{Column}
use Rattle.tuple_schema.specs.declared.schema.ColumnKind.TheVariants as kind
use Rattle.tuple_schema.specs.Schemas.{IsSchema, HasScale, are_distinct}
use Rattle.tuple_schema.specs.Texts.{head_of, rest_of, is_name}
use Rattle.workflow_file.specs.declared.fault.Lack.{Lack}
use Rattle.workflow_file.specs.declared.fault.Lack.TheVariants as lack
use Rattle.workflow_file.specs.Kept.{KeepsRule, AllKeep}
use Rattle.workflow_file.specs.Texts.{is_kind, without_mark, is_column_rest, lack_unless, column_lack}
use Rattle.flow_types.specs.Columns.{word_in, kind_of, stated_column}
use Rattle.flow_types.specs.Taken.{IsTaken, Takes}
use Rattle.flow_types.specs.declared.fault.SchemaCause.TheVariants as cause
use Rattle.flow_types.specs.Names.{least, name_at, is_again, again, no_double, names_in, place_of, last_name}
use Rattle.flow_types.specs.Typed.{renamed, output_column}

none_parts : (a b : Option ℕ) → option_or a b ≡ None → (a ≡ None) × (b ≡ None)
none_parts None b none = (refl, none)
none_parts (Some x) b none = absurd (cc)

fails_here : (b : Bool) (n : ℕ) → (if b then Some n else None) ≡ None → b ≡ false
fails_here true n none = absurd (cc)
fails_here false n none = refl

pub least_fails : (n : ℕ) (test : ℕ → Bool) (k : ℕ) → k < n → least n test ≡ None → test k ≡ false
unfolding least
least_fails zero test k h none = absurd (omega arith)
least_fails (suc n) test k h none =
    let parts = none_parts (least n test) (if test n then Some n else None) none in
    elim (cases_lt k n) [
      | inl below ↦ least_fails n test k below parts.0
      | inr above ↦
          let last : k ≡ n = omega arith in
          rw last (fails_here (test n) n parts.1)
    ]

pub differ_back : (a b : List ℕ) → bytes_eq a b ≡ false → bytes_eq b a ≡ false
differ_back a b differ =
    elim (cases_Bool (bytes_eq b a)) [
      | inl same ↦ absurd (both_ways (bytes_eq a b) differ ((bytes_eq-Decides a b).1 (sym ((bytes_eq-Decides b a).0 same))))
      | inr other ↦ other
    ]

-- no earlier name is the same
pub pair_differs : (names : List (List ℕ)) (i j : ℕ) → i < j → j < length names → is_again names j ≡ false → bytes_eq (name_at names i) (name_at names j) ≡ false
pair_differs names i j less h fresh =
    elim (cases_Bool (bytes_eq (name_at names j) (name_at names i))) [
      | inl same ↦
          let small : j ≤ length names = omega arith in
          let within : i < length (take j names) = rw (length-take-le j names small) less in
          let there : bytes_eq (name_at names j) (get_or (take j names) i []) ≡ true = rw (get_or-take j names i [] less) same in
          absurd (both_ways (is_again names j) fresh (list_any_at (bytes_eq (name_at names j)) (take j names) i [] within there))
      | inr other ↦ differ_back (name_at names j) (name_at names i) other
    ]

distinct_pairs : (names : List (List ℕ)) → ((i j : ℕ) → i < j → j < length names → bytes_eq (name_at names i) (name_at names j) ≡ false) → are_distinct names ≡ true
distinct_pairs [] pairs = refl
distinct_pairs (n ∷ ns) pairs =
    let none : list_any (bytes_eq n) ns ≡ false = list_any_none (bytes_eq n) ns (λ k d h. rw (get_or_default ns k d [] h) (pairs zero (suc k) (omega arith) (omega arith))) in
    let rest : are_distinct ns ≡ true = distinct_pairs ns (λ i j less h. pairs (suc i) (suc j) (omega arith) (omega arith)) in
    rw (none, rest) refl

failed : (names : List (List ℕ)) (k : ℕ) → again names ≡ Some k → no_double names ≡ Ok tt → ⊥
failed names k is fine =
    let refuses : no_double names ≡ Err (cause.DoubleColumn (name_at names k)) = rw is refl in
    absurd (cc)

none_again : (names : List (List ℕ)) (o : Option ℕ) → again names ≡ o → no_double names ≡ Ok tt → again names ≡ None
none_again names None is fine = is
none_again names (Some k) is fine = absurd (failed names k is fine)

pub are_distinct_from : (names : List (List ℕ)) → no_double names ≡ Ok tt → are_distinct names ≡ true
are_distinct_from names fine =
    let none = none_again names (again names) refl fine in
    distinct_pairs names (λ i j less h. pair_differs names i j less h (least_fails (length names) (is_again names) j h none))

-- ---- the columns of texts

fine_else : (b : Bool) (a : Lack) (o : Option Lack) → (if b then Some a else o) ≡ None → o ≡ None
fine_else true a o none = absurd cc
fine_else false a o none = none

fine_then : (b : Bool) (o : Option Lack) (a : Lack) → (if b then o else Some a) ≡ None → o ≡ None
fine_then true o a none = none
fine_then false o a none = absurd cc

fine_unless : (b : Bool) (a : Lack) → lack_unless b a ≡ None → b ≡ true
fine_unless true a none = refl
fine_unless false a none = absurd cc

rest_kind : (rest : Option (List ℕ)) → is_column_rest rest ≡ true → is_kind (without_mark (unwrap_or rest [])) ≡ true
rest_kind None fine = absurd cc
rest_kind (Some word) fine = fine

-- a text that keeps the rule of columns has the word of a kind
pub keeps_kind : (text : List ℕ) → KeepsRule column_lack text → is_kind (without_mark (word_in text)) ≡ true
keeps_kind text keeps =
    let short : (if nat_lt 4096 (length text) then Some lack.TooLong else column_lack text) ≡ None =
    fine_else (length text == 0) lack.Empty (if nat_lt 4096 (length text) then Some lack.TooLong else column_lack text) keeps in
    let column : column_lack text ≡ None = fine_else (nat_lt 4096 (length text)) lack.TooLong (column_lack text) short in
    let rest : lack_unless (is_column_rest (rest_of text)) lack.BadWord ≡ None =
    fine_then (is_name (head_of text)) (lack_unless (is_column_rest (rest_of text)) lack.BadWord) lack.BadName column in
    rest_kind (rest_of text) (fine_unless (is_column_rest (rest_of text)) lack.BadWord rest)

-- a word of a kind that is neither `int` nor `text` is `dec` and a digit from 1 to 6
pub record IsDec (word : List ℕ) : Type 0 where
  pub long : length word ≡ 4
  pub least : 49 ≤ slice_index word 3
  pub most : slice_index word 3 ≤ 54

pub dec_word : (word : List ℕ) → is_kind word ≡ true → bytes_eq word (codes "int") ≡ false → bytes_eq word (codes "text") ≡ false → IsDec word
unfolding is_kind
dec_word word is int text =
    let dec = and_parts _ _ (rw (int, text) at is) in
    let long = (and_parts _ _ dec.0).0 in
    let digit = and_parts _ _ dec.1 in
    record {
      long = eqb-true (length word) 4 long;
      least = leb-true _ _ digit.0;
      most = leb-true _ _ digit.1;
    }

kind_scaled : (word : List ℕ) → is_kind word ≡ true → HasScale (kind_of word)
kind_scaled word is =
    elim (cases_Bool (bytes_eq word (codes "int"))) [
      | inl int ↦ rw int tt
      | inr other ↦ elim (cases_Bool (bytes_eq word (codes "text"))) [
        | inl text ↦ rw (other, text) tt
        | inr neither ↦
            let dec = dec_word word is other neither in
            let scale : HasScale (kind.Dec (slice_index word 3 - 48)) = (omega (arith, dec.least), omega (arith, dec.most)) in
            rw (other, neither) scale
      ]
    ]

pub scaled_schema : (columns : List Column) → 1 ≤ length columns → length columns ≤ 64 → no_double (names_in columns) ≡ Ok tt → All (λ c. HasScale c.kind) columns → IsSchema columns
scaled_schema columns some few fine scaled = record {
  some = some;
  few = few;
  distinct = are_distinct_from (names_in columns) fine;
  scaled = scaled;
}

-- the columns of texts that keep the rule, under names of their own, are a schema
pub stated_schema : (texts : List (List ℕ)) → AllKeep 1 64 column_lack texts → no_double (names_in (map stated_column texts)) ≡ Ok tt → IsSchema (map stated_column texts)
stated_schema texts keep fine =
    scaled_schema (map stated_column texts) (rw length-map keep.some) (rw length-map keep.few) fine
    (All-map (λ c. HasScale c.kind) stated_column texts
    (All-weaker (KeepsRule column_lack) (λ text. HasScale (stated_column text).kind)
    (λ text keeps. kind_scaled (without_mark (word_in text)) (keeps_kind text keeps)) texts keep.each))

-- ---- columns that are taken

pub all_zip_push : {X Y : Type 0} (R : X → Y → Type 0) (xs : List X) (ys : List Y) (x : X) (y : Y) → AllZip R xs ys → R x y → AllZip R (xs ++ x ∷ []) (ys ++ y ∷ [])
all_zip_push R [] [] x y all last = (last, tt)
all_zip_push R [] (b ∷ ys) x y all last = absurd all
all_zip_push R (a ∷ xs) [] x y all last = absurd all
all_zip_push R (a ∷ xs) (b ∷ ys) x y all last = (all.0, all_zip_push R xs ys x y all.1 last)

-- a column under another name is taken
pub is_taken : (columns : List Column) (place : ℕ) (c output : Column) (name : List ℕ) → output ≡ renamed name c → place < length columns → c ≡ get_or columns place c
    → IsTaken columns place output
is_taken columns place c output name gives h is = record {
  of = c;
  at = slice_get_read columns (length columns) place c refl h is;
  kind = ap (λ (o : Column). o.kind) gives;
  nullable = ap (λ (o : Column). o.nullable) gives;
}

-- what is taken of columns that have their scales has them
taken_scaled : (input : List Column) → All (λ c. HasScale c.kind) input → (from : List ℕ) (columns : List Column) → AllZip (IsTaken input) from columns → All (λ c. HasScale c.kind) columns
taken_scaled input scaled [] [] taken = All-nil (λ c. HasScale c.kind)
taken_scaled input scaled [] (c ∷ columns) taken = absurd taken
taken_scaled input scaled (place ∷ from) [] taken = absurd taken
taken_scaled input scaled (place ∷ from) (c ∷ columns) taken =
    let one = taken.0 in
    let h = slice_get_within input place one.of one.at in
    let here : one.of ≡ get_or input place one.of = same_Some _ _ (sym one.at ∙ slice_get-get_or input place one.of h) in
    let scale : HasScale one.of.kind = subst (λ (o : Column). HasScale o.kind) (sym here) (scaled place one.of h) in
    All-cons (λ c. HasScale c.kind) c columns (subst HasScale (sym one.kind) scale) (taken_scaled input scaled from columns taken.1)

-- as many columns as are taken of a schema, under names of their own, are a schema
pub taken_schema : (input columns : List Column) (from : List ℕ) → IsSchema input → Takes input from columns → 1 ≤ length columns → length columns ≤ 64
    → no_double (names_in columns) ≡ Ok tt → IsSchema columns
taken_schema input columns from schema takes some few fine =
    scaled_schema columns some few fine (taken_scaled input schema.scaled from columns takes.each)

-- a text takes the column at the place of its name
pub output_is : (columns : List Column) (text : List ℕ) (place : ℕ) (c : Column) → Some place ≡ place_of (names_in columns) (head_of text)
    → place < length columns → c ≡ get_or columns place c → Some (renamed (last_name text) c) ≡ output_column columns text
output_is columns text place c there h is = rw (← there, slice_get_read columns (length columns) place c refl h is) refl
