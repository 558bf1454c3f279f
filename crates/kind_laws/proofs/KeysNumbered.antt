-- Keys, their numbers, and their forms.
use Rattle.std.proofs.Common.{◌≡◌, ℕ, ◌+◌, ◌<◌, List, [], ◌∷◌, ◌++◌, length, get_or, slice_get, map, Bool, true, false, not, cond, ltb, ◌||◌, position, Some, None, Result, Ok, append-nil, All, refl, sym, ap, ◌∙◌, inl, inr, arith}
use Rattle.std.specs.List.{list_any, position_or_len}
use Rattle.std.proofs.lemmas.Bool.{cases_Bool, or_parts}
use Rattle.std.proofs.lemmas.List.{map-append}
use Rattle.std.proofs.lemmas.List.Elements.{All-head, All-tail}
use Rattle.std.proofs.lemmas.Option.{same_Some, slice_get-get_or}
use Rattle.std.proofs.lemmas.List.Sums.{passes_at_first}
use Rattle.std.proofs.lemmas.Bool.Decides.{same_from_decides}
use Rattle.std.proofs.lemmas.Slice.Eq.{bytes_eq-Decides}
use Rattle.std.specs.Str.{bytes_eq}
use Rattle.tuple_schema.specs.declared.value.Value.{Value}
use Rattle.tuple_schema.specs.declared.schema.Column.{Column}
use Rattle.row_codec.specs.declared.decode.RowFault.{RowFault}
use Rattle.row_codec.specs.Rows.{row_bytes}
use Rattle.row_codec.specs.Decoding.{IsRowOf, row_at}
use Rattle.row_batch.specs.Packing.{found_row, row_in}
use Rattle.list_algebra.specs.Bags.{same}
use Rattle.list_algebra.proofs.Same.{same-Decides}
use Rattle.kind_laws.specs.Keys.{key_number, with_key}

-- what two readings of the same bytes found
abbrev read_as : List Value × List ℕ → Result (List Value × List ℕ) RowFault
read_as found = Ok found

row_read : (one other : List Value × List ℕ) → read_as one ≡ read_as other → one.0 ≡ other.0
row_read one other is = let same : one ≡ other = cc in ap (λ found. found.0) same

some_chosen : (among : Bool) (place number : ℕ) → cond among (Some place) None ≡ Some number → number ≡ place
some_chosen true place number is = sym (same_Some _ _ is)
some_chosen false place number is = absurd (cc)

module _ {K : Type 0} (test : K → Bool) where
  -- the place that is found
  pub place_found : (ks : List K) (number : ℕ) → position test ks ≡ Some number → number ≡ position_or_len test ks
  place_found ks number is = some_chosen (ltb (position_or_len test ks) (length ks)) (position_or_len test ks) number is

  -- where none passes, the place is that behind all
  pub place_behind : (ks : List K) → list_any test ks ≡ false → position_or_len test ks ≡ length ks
  place_behind [] none = refl
  place_behind (k ∷ ks) none =
      let parts = or_parts (test k) (list_any test ks) none in
      let rest = place_behind ks parts.1 in
      let here : not (test k) ≡ true = ap not parts.0 in
      ap (λ b. cond b (1 + position_or_len test ks) 0) here ∙ (omega (arith, rest))

  -- where one passes, it is before
  pub place_among : (ks : List K) → list_any test ks ≡ true → position_or_len test ks < length ks
  place_among [] some = absurd (cc)
  place_among (k ∷ ks) some =
      elim (cases_Bool (test k)) [
        | inl passes ↦ rw passes (omega arith)
        | inr fails ↦
            let rest = place_among ks (rw fails at some) in
            rw fails (omega (arith, rest))
      ]

module _ {K L : Type 0} (form : K → L) (test : K → Bool) (like : L → Bool) where
  -- a test of forms that answers as one of the keys
  pub any_form : (ks : List K) → All (λ k. like (form k) ≡ test k) ks → list_any like (map form ks) ≡ list_any test ks
  any_form [] agree = refl
  any_form (k ∷ ks) agree =
      let here = All-head (λ k. like (form k) ≡ test k) k ks agree in
      let rest = any_form ks (All-tail (λ k. like (form k) ≡ test k) k ks agree) in
      ap (λ b. b || list_any like (map form ks)) here ∙ ap (λ b. test k || b) rest

  pub place_form : (ks : List K) → All (λ k. like (form k) ≡ test k) ks → position_or_len like (map form ks) ≡ position_or_len test ks
  place_form [] agree = refl
  place_form (k ∷ ks) agree =
      let here = All-head (λ k. like (form k) ≡ test k) k ks agree in
      let rest = place_form ks (All-tail (λ k. like (form k) ≡ test k) k ks agree) in
      ap (λ b. cond (not b) (1 + position_or_len like (map form ks)) 0) here ∙ ap (λ n. cond (not (test k)) (1 + n) 0) rest

map_chosen : {K L : Type 0} (form : K → L) (known : Bool) (ks : List K) (key : K)
    → cond known (map form ks) (map form ks ++ form key ∷ []) ≡ map form (cond known ks (ks ++ key ∷ []))
map_chosen form true ks key = refl
map_chosen form false ks key = sym (map-append form ks (key ∷ []))

-- forms of keys, of which two are equal exactly where the keys are
module _ {K L : Type 0} (form : K → L) (same : K → K → Bool) (like : L → L → Bool) (ks : List K) (key : K)
    (agree : All (λ k. like (form key) (form k) ≡ same key k) ks) where
  pub with_form : with_key like (map form ks) (form key) ≡ map form (with_key same ks key)
  with_form =
      ap (λ b. cond b (map form ks) (map form ks ++ form key ∷ [])) (any_form form (same key) (like (form key)) ks agree)
      ∙ map_chosen form (list_any (same key) ks) ks key

  pub number_form : key_number like (map form ks) (form key) ≡ key_number same ks key
  number_form = place_form form (same key) (like (form key)) ks agree

-- a key is new exactly where its number is that behind all
module _ {K : Type 0} (same : K → K → Bool) (ks : List K) (key : K) where
  pub with_new : key_number same ks key ≡ length ks → with_key same ks key ≡ ks ++ key ∷ []
  with_new behind =
      elim (cases_Bool (list_any (same key) ks)) [
        | inl some ↦ absurd (let among = place_among (same key) ks some in omega (arith, among, behind))
        | inr none ↦ ap (λ b. cond b ks (ks ++ key ∷ [])) none
      ]

  pub with_known : (key_number same ks key ≡ length ks → ⊥) → with_key same ks key ≡ ks
  with_known among =
      elim (cases_Bool (list_any (same key) ks)) [
        | inl some ↦ ap (λ b. cond b ks (ks ++ key ∷ [])) some
        | inr none ↦ absurd (among (place_behind (same key) ks none))
      ]

pub at_end : {K : Type 0} (ks : List K) (key : K) → slice_get (ks ++ key ∷ []) (length ks) ≡ Some key
at_end [] key = refl
at_end (k ∷ ks) key = at_end ks key

-- at its number stands the key, where the test is that of equality
pub key_there : {K : Type 0} (same : K → K → Bool) (equal : (one other : K) → same one other ≡ true → one ≡ other) (ks : List K) (key : K)
    → slice_get (with_key same ks key) (key_number same ks key) ≡ Some key
key_there same equal ks key =
    elim (cases_Bool (list_any (same key) ks)) [
      | inl some ↦
          let among = place_among (same key) ks some in
          let found : key ≡ get_or ks (key_number same ks key) key = equal _ _ (passes_at_first (same key) ks key among) in
          ap (λ all. slice_get all (key_number same ks key)) (ap (λ b. cond b ks (ks ++ key ∷ [])) some)
          ∙ slice_get-get_or ks (key_number same ks key) key among ∙ ap Some (sym found)
      | inr none ↦
          ap (λ all. slice_get all (key_number same ks key)) (ap (λ b. cond b ks (ks ++ key ∷ [])) none)
          ∙ ap (slice_get (ks ++ key ∷ [])) (place_behind (same key) ks none) ∙ at_end ks key
    ]

-- rows of the same columns, each of which is read again from its bytes
module _ (reads : (columns : List Column) (row : List Value) (rest : List ℕ) → IsRowOf columns row → row_at columns (row_bytes row ++ rest) ≡ Ok (row, rest))
    (columns : List Column) (one other : List Value) (is : IsRowOf columns one) (is_other : IsRowOf columns other)
  where
    rows_equal : row_bytes one ≡ row_bytes other → one ≡ other
    rows_equal bytes =
        let both : read_as (one, []) ≡ read_as (other, []) =
        sym (reads columns one [] is) ∙ ap (λ bs. row_at columns (bs ++ [])) bytes ∙ reads columns other [] is_other in
        row_read (one, []) (other, []) both

    -- have the same bytes exactly where they are equal
    pub same_bytes : bytes_eq (row_bytes one) (row_bytes other) ≡ same one other
    same_bytes =
        let by_bytes = bytes_eq-Decides (row_bytes one) (row_bytes other) in
        same_from_decides _ _ (λ h. rows_equal (by_bytes.0 h), λ e. by_bytes.1 (ap row_bytes e)) (same-Decides one other)

-- a row is read again from its bytes alone
pub read_again : ((columns : List Column) (row : List Value) (rest : List ℕ) → IsRowOf columns row → row_at columns (row_bytes row ++ rest) ≡ Ok (row, rest))
    → (columns : List Column) (row : List Value) → IsRowOf columns row → row_in columns (row_bytes row) ≡ row
unfolding row_in
read_again reads columns row is =
    ap (λ bs. found_row (row_at columns bs)) (sym (append-nil (row_bytes row))) ∙ ap found_row (reads columns row [] is)
