-- What a map sets, by its names.
use Rattle.std.proofs.Common.{◌≡◌, ℕ, zero, suc, ◌+◌, ◌<◌, List, [], ◌∷◌, ◌++◌, length, map, filter_map, take, option_to_list, bytes_eq, slice_get, get_or, Bool, true, false, All, refl, ap, ◌∙◌, inl, inr, Option, Some, None, subst}
use Rattle.std.specs.List.{filter, list_any}
use Rattle.std.proofs.lemmas.Bool.{cases_Bool, both_ways, or_parts, or_from}
use Rattle.std.proofs.lemmas.List.{map-append, take_more}
use Rattle.std.proofs.lemmas.List.Elements.{All-nil, All-cons, filter-append, filter_map-append}
use Rattle.std.proofs.lemmas.Option.{same_Some}
use Rattle.tuple_schema.specs.declared.schema.Column.{Column}
use Rattle.tuple_schema.specs.Schemas.{are_distinct}
use Rattle.tuple_schema.specs.Texts.{is_among}
use Rattle.flow_types.specs.declared.node.Assign.{Assign}
use Rattle.flow_types.specs.declared.mapped.Setting.{Setting}
use Rattle.flow_types.specs.Names.{names_in}
use Rattle.flow_types.specs.Mapped.{columns_set, set_named, column_or, replaced, is_new, assign_in}
use Rattle.flow_types.proofs.Distincts.{same_text, text_same, any_fails, first_apart, rest_apart, in_mapped, find_passes}

pub kept_name : (c : Column) (settings : List Setting) (o : Option Setting) → set_named c.name settings ≡ o → (column_or c o).name ≡ c.name
kept_name c settings None is = refl
kept_name c settings (Some s) is = same_text s.column.name c.name (find_passes (λ t. bytes_eq t.column.name c.name) settings s is)

-- a column keeps its name when it is set
pub names_kept : (settings : List Setting) (input : List Column) → names_in (map (replaced settings) input) ≡ names_in input
names_kept settings [] = refl
names_kept settings (c ∷ input) = ap (λ n. n ∷ names_in (map (replaced settings) input)) (kept_name c settings (set_named c.name settings) refl) ∙ ap (λ ns. c.name ∷ ns) (names_kept settings input)

absent_filtered : (test : List ℕ → Bool) (p : Setting → Bool) (ss : List Setting) → list_any test (names_in (columns_set ss)) ≡ false → list_any test (names_in (columns_set (filter p ss))) ≡ false
absent_filtered test p [] none = refl
absent_filtered test p (s ∷ ss) none =
    let parts = or_parts (test s.column.name) (list_any test (names_in (columns_set ss))) none in
    elim (cases_Bool (p s)) [
      | inl passes ↦ rw passes (or_from _ _ parts.0 (absent_filtered test p ss parts.1))
      | inr fails ↦ rw fails (absent_filtered test p ss parts.1)
    ]

pub distinct_filtered : (p : Setting → Bool) (ss : List Setting) → are_distinct (names_in (columns_set ss)) ≡ true → are_distinct (names_in (columns_set (filter p ss))) ≡ true
distinct_filtered p [] apart = refl
distinct_filtered p (s ∷ ss) apart =
    let rest = distinct_filtered p ss (rest_apart s.column.name (names_in (columns_set ss)) apart) in
    elim (cases_Bool (p s)) [
      | inl passes ↦
          let none = absent_filtered (bytes_eq s.column.name) p ss (first_apart s.column.name (names_in (columns_set ss)) apart) in
          rw (passes, none, rest) refl
      | inr fails ↦ rw fails rest
    ]

pub not_among : (names : List (List ℕ)) (s : Setting) → is_new names s ≡ true → is_among names s.column.name ≡ false
not_among names s new =
    elim (cases_Bool (is_among names s.column.name)) [
      | inl among ↦ absurd (both_ways (is_new names s) (rw among refl) new)
      | inr absent ↦ absent
    ]

pub among_old : (names : List (List ℕ)) (s : Setting) → is_new names s ≡ false → is_among names s.column.name ≡ true
among_old names s old =
    elim (cases_Bool (is_among names s.column.name)) [
      | inl among ↦ among
      | inr absent ↦ absurd (both_ways (is_new names s) old (rw absent refl))
    ]

pub new_apart : (names : List (List ℕ)) (ss : List Setting) → All (λ y. is_among names y ≡ false) (names_in (columns_set (filter (is_new names) ss)))
new_apart names [] = All-nil (λ y. is_among names y ≡ false)
new_apart names (s ∷ ss) =
    elim (cases_Bool (is_new names s)) [
      | inl new ↦ rw new (All-cons (λ y. is_among names y ≡ false) s.column.name (names_in (columns_set (filter (is_new names) ss))) (not_among names s new) (new_apart names ss))
      | inr old ↦ rw old (new_apart names ss)
    ]

-- what passes stands among what passes
pub kept_in : (p : Setting → Bool) (ss : List Setting) (i : ℕ) (s : Setting) → slice_get ss i ≡ Some s → p s ≡ true → (k : ℕ) × (slice_get (filter p ss) k ≡ Some s)
kept_in p [] i s at passes = absurd (cc)
kept_in p (t ∷ ss) zero s at passes =
    let same : t ≡ s = same_Some _ _ at in
    (0, rw (same, passes) refl)
kept_in p (t ∷ ss) (suc i) s at passes =
    let rest = kept_in p ss i s at passes in
    elim (cases_Bool (p t)) [
      | inl first ↦ (suc rest.0, rw first rest.1)
      | inr other ↦ (rest.0, rw other rest.1)
    ]

named_first : (name : List ℕ) (s t : Setting) (ss : List Setting) → bytes_eq t.column.name name ≡ false → set_named name ss ≡ Some s → set_named name (t ∷ ss) ≡ Some s
named_first name s t ss other is = rw other is

-- a column is set among these, and found by its name
abbrev pub Found : List Setting → Column → Type 0
Found ss c = (s : Setting) × (set_named c.name ss ≡ Some s) × (s.column ≡ c)

module _ (p : Setting → Bool) (t : Setting) (ss : List Setting) (c : Column) (apart : are_distinct (names_in (columns_set (t ∷ ss))) ≡ true) where
  found_behind : (j : ℕ) → slice_get (columns_set (filter p ss)) j ≡ Some c → Found ss c → Found (t ∷ ss) c
  found_behind j there one =
      let none = absent_filtered (bytes_eq t.column.name) p ss (first_apart t.column.name (names_in (columns_set ss)) apart) in
      let other : bytes_eq t.column.name c.name ≡ false =
      any_fails (bytes_eq t.column.name) (names_in (columns_set (filter p ss))) j c.name none (in_mapped (λ (o : Column). o.name) (columns_set (filter p ss)) j c there) in
      (one.0, named_first c.name one.0 t ss other one.1, one.2)

  found_next : ((j : ℕ) → slice_get (columns_set (filter p ss)) j ≡ Some c → Found ss c)
      → (b : Bool) → p t ≡ b → (j : ℕ) → slice_get (columns_set (filter p (t ∷ ss))) j ≡ Some c → Found (t ∷ ss) c
  found_next rest false fails j there = let behind = rw fails at there in found_behind j behind (rest j behind)
  found_next rest true passes zero there =
      let same : t.column ≡ c = same_Some _ _ (rw passes at there) in
      let name : bytes_eq t.column.name c.name ≡ true = subst (λ (x : Column). bytes_eq t.column.name x.name ≡ true) same (text_same t.column.name) in
      (t, rw name refl, same)
  found_next rest true passes (suc j) there = let behind = rw passes at there in found_behind j behind (rest j behind)

-- a column that is set, and passes, is found by its name
pub set_found : (p : Setting → Bool) (ss : List Setting) (k : ℕ) (c : Column) → are_distinct (names_in (columns_set ss)) ≡ true → slice_get (columns_set (filter p ss)) k ≡ Some c → Found ss c
set_found p [] k c apart at = absurd (cc)
set_found p (t ∷ ss) k c apart at =
    found_next p t ss c apart (λ j there. set_found p ss j c (rest_apart t.column.name (names_in (columns_set ss)) apart) there) (p t) refl k at

-- ---- one setting more

pub new_more : (names : List (List ℕ)) (ss : List Setting) (i : ℕ) (s : Setting) → i < length ss → s ≡ get_or ss i s
    → columns_set (filter (is_new names) (take (i + 1) ss)) ≡ columns_set (filter (is_new names) (take i ss)) ++ columns_set (filter (is_new names) (s ∷ []))
new_more names ss i s h is = rw (take_more ss i s h, ← is, filter-append, map-append) refl

pub assign_more : (names : List (List ℕ)) (ss : List Setting) (s : Setting)
    → filter_map (assign_in names) (ss ++ s ∷ []) ≡ filter_map (assign_in names) ss ++ option_to_list (assign_in names s)
assign_more names ss s = filter_map-append (assign_in names) ss (s ∷ []) ∙ ap (λ sets. filter_map (assign_in names) ss ++ sets) (by (assign_in names s) refl)
  where
    by : (o : Option Assign) → assign_in names s ≡ o → filter_map (assign_in names) (s ∷ []) ≡ option_to_list (assign_in names s)
    by None none = rw none refl
    by (Some a) is = rw is refl
