-- The columns that come of what a map sets.
use Rattle.std.proofs.Common.{◌≡◌, ℕ, suc, ◌+◌, ◌<◌, ◌≤◌, ◌==◌, nat_le, List, [], ◌∷◌, ◌++◌, length, map, filter_map, find, bytes_eq, slice_get, get_or, Bool, true, false, All, refl, sym, ap, ◌∙◌, ◌⊎◌, inl, inr, Option, Some, None, option_map, subst, Ok, eq-eqb, arith}
use Rattle.std.specs.List.{filter}
use Rattle.std.proofs.lemmas.Bool.{cases_Bool, both_ways, le-leb, lt-leb}
use Rattle.std.proofs.lemmas.Bool.Decides.{eqb_tells}
use Rattle.std.proofs.lemmas.List.{length-append, length-map, map-append}
use Rattle.std.proofs.lemmas.Option.{same_Some, slice_get-get_or, slice_get_within}
use Rattle.tuple_schema.specs.declared.schema.Column.{Column}
use Rattle.tuple_schema.specs.declared.schema.ColumnKind.{ColumnKind}
use Rattle.tuple_schema.specs.Schemas.{IsSchema, HasScale, are_distinct}
use Rattle.expr_lang.specs.Trees.{tree_of, Tree}
use Rattle.expr_lang.specs.Kinds.{typing}
use Rattle.expr_lang.specs.Fits.{LeavesFit}
use Rattle.expr_lang.specs.declared.kind.ExprKind.TheVariants as sort
use Rattle.flow_types.specs.declared.node.Assign.{Assign}
use Rattle.flow_types.specs.declared.mapped.Setting.{Setting}
use Rattle.flow_types.specs.Names.{place_of, names_in, no_double}
use Rattle.flow_types.specs.Taken.{IsTaken}
use Rattle.flow_types.specs.Assigned.{set_at, HoldsValue, HoldsCell, IsAssigned}
use Rattle.flow_types.specs.Mapped.{columns_set, set_named, column_or, replaced, is_new, set_columns, assign_in}
use Rattle.flow_types.proofs.Columns.{are_distinct_from}
use Rattle.flow_types.proofs.Distincts.{same_text, text_same, any_passes, placed, found, distinct_behind, either_list, at_front, at_back, of_mapped, in_mapped, find_all}
use Rattle.flow_types.proofs.SetNames.{kept_name, names_kept, distinct_filtered, among_old, new_apart, kept_in, set_found}

-- ---- what stands in the output

module _ (input : List Column) (settings : List Setting) (schema : IsSchema input) (holds : All (λ s. HoldsValue input s.value s.column) settings)
    (apart : are_distinct (names_in (columns_set settings)) ≡ true) where
  abbrev output : List Column
  output = set_columns input settings

  abbrev new_ones : List Column
  new_ones = columns_set (filter (is_new (names_in input)) settings)

  names_of_output : names_in output ≡ names_in input ++ names_in new_ones
  names_of_output = map-append (λ c. c.name) (map (replaced settings) input) new_ones ∙ ap (λ ns. ns ++ names_in new_ones) (names_kept settings input)

  pub output_distinct : are_distinct (names_in output) ≡ true
  output_distinct = rw names_of_output
      (distinct_behind (names_in input) (names_in new_ones) schema.distinct (distinct_filtered (is_new (names_in input)) settings apart) (new_apart (names_in input) settings))

  -- a column is set, or it is the input's
  abbrev IsSet : Column → Type 0
  IsSet c = (s : Setting) × (set_named c.name settings ≡ Some s) × (s.column ≡ c)

  abbrev IsKept : ℕ → Column → Type 0
  IsKept place c = (set_named c.name settings ≡ None) × IsTaken input place c

  of_input : (place : ℕ) (c old : Column) (o : Option Setting) → slice_get input place ≡ Some old → set_named old.name settings ≡ o → column_or old o ≡ c → IsSet c ⊎ IsKept place c
  of_input place c old None at none is = inr (
    rw (← is) none,
    record {
      of = old;
      at = at;
      kind = ap (λ (x : Column). x.kind) (sym is);
      nullable = ap (λ (x : Column). x.nullable) (sym is);
    },
  )
  of_input place c old (Some s) at some is =
      let name : c.name ≡ old.name = ap (λ (x : Column). x.name) (sym is) ∙ kept_name old settings (Some s) some in
      inl (s, rw name some, is)

  pub is_held : (place : ℕ) (c : Column) → slice_get output place ≡ Some c → IsSet c ⊎ IsKept place c
  is_held place c at = elim (either_list (map (replaced settings) input) new_ones place c at) [
    | inl front ↦
        let old = of_mapped (replaced settings) input place c front in
        of_input place c old.0 (set_named old.0.name settings) old.1 refl old.2
    | inr back ↦ inl (set_found (is_new (names_in input)) settings back.0 c apart back.1)
  ]

  -- the value at a place is that of the name there
  module _ (place : ℕ) (c : Column) (at : slice_get output place ≡ Some c) where
    abbrev value_at : Setting → Assign
    value_at s = record { place = place; value = s.value }

    elsewhere : (s : Setting) → bytes_eq s.column.name c.name ≡ false → (q : ℕ) → place_of (names_in output) s.column.name ≡ Some q → (q == place) ≡ false
    elsewhere s other q is = elim (eqb_tells q place) [
      | inl same ↦
          let there : slice_get (names_in output) place ≡ Some s.column.name = subst (λ k. slice_get (names_in output) k ≡ Some s.column.name) same.1 (found (names_in output) q s.column.name is) in
          let named : s.column.name ≡ c.name = same_Some _ _ (sym there ∙ in_mapped (λ (x : Column). x.name) output place c at) in
          absurd (both_ways (bytes_eq s.column.name c.name) other (rw named (text_same c.name)))
      | inr differs ↦ differs.0
    ]

    value_elsewhere : (s : Setting) (ss : List Setting) → bytes_eq s.column.name c.name ≡ false → (o : Option ℕ) → place_of (names_in output) s.column.name ≡ o
        → find (λ (a : Assign). a.place == place) (filter_map (assign_in (names_in output)) ss) ≡ option_map value_at (set_named c.name ss)
        → find (λ (a : Assign). a.place == place) (filter_map (assign_in (names_in output)) (s ∷ ss)) ≡ option_map value_at (set_named c.name (s ∷ ss))
    value_elsewhere s ss other None none rest = rw (none, other) rest
    value_elsewhere s ss other (Some q) is rest = rw (is, elsewhere s other q is, other) rest

    value_here : (s : Setting) (ss : List Setting) → bytes_eq s.column.name c.name ≡ true
        → find (λ (a : Assign). a.place == place) (filter_map (assign_in (names_in output)) (s ∷ ss)) ≡ option_map value_at (set_named c.name (s ∷ ss))
    value_here s ss same =
        let there : slice_get (names_in output) place ≡ Some s.column.name =
        in_mapped (λ (x : Column). x.name) output place c at ∙ ap Some (sym (same_text s.column.name c.name same)) in
        let here : place_of (names_in output) s.column.name ≡ Some place = placed (names_in output) place s.column.name output_distinct there in
        rw (here, eq-eqb place place refl, same) refl

    values_found : (ss : List Setting) → find (λ (a : Assign). a.place == place) (filter_map (assign_in (names_in output)) ss) ≡ option_map value_at (set_named c.name ss)
    values_found [] = refl
    values_found (s ∷ ss) =
        let rest = values_found ss in
        elim (cases_Bool (bytes_eq s.column.name c.name)) [
          | inl same ↦ value_here s ss same
          | inr other ↦ value_elsewhere s ss other (place_of (names_in output) s.column.name) refl rest
        ]

    value_set : set_at (filter_map (assign_in (names_in output)) settings) place ≡ option_map (λ s. s.value) (set_named c.name settings)
    value_set = rw (values_found settings) (by (set_named c.name settings))
      where
        by : (o : Option Setting) → option_map (λ (a : Assign). a.value) (option_map value_at o) ≡ option_map (λ (s : Setting). s.value) o
        by None = refl
        by (Some s) = refl

    pub holds_cell : HoldsCell input (set_at (filter_map (assign_in (names_in output)) settings) place) place c
    holds_cell = elim (is_held place c at) [
      | inl set ↦
          let value = find_all (λ s. HoldsValue input s.value s.column) (λ s. bytes_eq s.column.name c.name) settings set.0 holds set.1 in
          rw (value_set, set.1) (subst (HoldsValue input set.0.value) set.2 value)
      | inr kept ↦ rw (value_set, kept.0) kept.1
    ]

  -- ---- how many come

  abbrev IsPlaced : Setting → Type 0
  IsPlaced s = (q : ℕ) × (place_of (names_in output) s.column.name ≡ Some q) × (nat_le (length input) q ≡ is_new (names_in input) s)

  count_names : length (names_in input) ≡ length input
  count_names = length-map input (λ c. c.name)

  is_placed : (i : ℕ) (s : Setting) → slice_get settings i ≡ Some s → IsPlaced s
  is_placed i s at =
      elim (cases_Bool (is_new (names_in input) s)) [
        | inl new ↦
            let kept = kept_in (is_new (names_in input)) settings i s at new in
            let among = in_mapped (λ (x : Column). x.name) new_ones kept.0 s.column (in_mapped (λ (t : Setting). t.column) (filter (is_new (names_in input)) settings) kept.0 s kept.1) in
            let behind = at_back (names_in input) (names_in new_ones) kept.0 s.column.name among in
            let place = placed (names_in output) (length (names_in input) + kept.0) s.column.name output_distinct (rw names_of_output behind) in
            let far : length input ≤ length (names_in input) + kept.0 = let count = count_names in omega (arith, count) in
            (length (names_in input) + kept.0, place, le-leb _ _ far ∙ sym new)
        | inr old ↦
            let old_one = any_passes (bytes_eq s.column.name) (names_in input) (among_old (names_in input) s old) in
            let same : old_one.1 ≡ s.column.name = sym (same_text s.column.name old_one.1 old_one.3) in
            let there : slice_get (names_in input) old_one.0 ≡ Some s.column.name = subst (λ n. slice_get (names_in input) old_one.0 ≡ Some n) same old_one.2 in
            let place = placed (names_in output) old_one.0 s.column.name output_distinct (rw names_of_output (at_front (names_in input) (names_in new_ones) old_one.0 s.column.name there)) in
            let within = slice_get_within (names_in input) old_one.0 s.column.name there in
            let near : old_one.0 < length input = let count = count_names in omega (arith, count, within) in
            (old_one.0, place, lt-leb _ _ near ∙ sym old)
      ]

  counted : (ss : List Setting) → ((i : ℕ) (s : Setting) → slice_get ss i ≡ Some s → IsPlaced s)
      → length (filter (λ (a : Assign). nat_le (length input) a.place) (filter_map (assign_in (names_in output)) ss)) ≡ length (filter (is_new (names_in input)) ss)
  counted [] all = refl
  counted (s ∷ ss) all =
      let one = all 0 s refl in
      let rest = counted ss (λ i t at. all (suc i) t at) in
      elim (cases_Bool (is_new (names_in input) s)) [
        | inl new ↦ rw (one.1, one.2, new) (ap suc rest)
        | inr old ↦ rw (one.1, one.2, old) rest
      ]

  -- what a map sets stands in its output
  pub is_assigned : IsAssigned input (filter_map (assign_in (names_in output)) settings) output
  is_assigned = record {
    wide =
        length-append (map (replaced settings) input) new_ones
        ∙ ap (λ n. n + length new_ones) (length-map input (replaced settings))
        ∙ ap (λ n. length input + n) (length-map (filter (is_new (names_in input)) settings) (λ s. s.column) ∙ sym (counted settings is_placed));
    each = holds_cell;
  }

  pub output_schema : length output ≤ 64
      → ((columns : List Column) (x : Tree) (kind : ColumnKind) (nullable : Bool) → All (λ c. HasScale c.kind) columns → LeavesFit x → typing columns x ≡ Ok (sort.Value kind nullable) → HasScale kind)
      → IsSchema output
  output_schema few law = record {
    some = let all = length-append (map (replaced settings) input) new_ones in let count : length (map (replaced settings) input) ≡ length input = length-map input (replaced settings) in let some = schema.some in omega arith;
    few = few;
    distinct = output_distinct;
    scaled = λ k d h. scale k (get_or output k d) (slice_get-get_or output k d h);
  }
    where
      scale : (k : ℕ) (c : Column) → slice_get output k ≡ Some c → HasScale c.kind
      scale k c at = elim (is_held k c at) [
        | inl set ↦
            let value = find_all (λ s. HoldsValue input s.value s.column) (λ s. bytes_eq s.column.name c.name) settings set.0 holds set.1 in
            subst (λ (x : Column). HasScale x.kind) set.2 (law input (tree_of set.0.value) set.0.column.kind set.0.column.nullable schema.scaled value.0 value.1)
        | inr kept ↦
            let of = kept.1.of in
            let h = slice_get_within input k of kept.1.at in
            let here : of ≡ get_or input k of = same_Some _ _ (sym kept.1.at ∙ slice_get-get_or input k of h) in
            let old : HasScale of.kind = subst (λ (o : Column). HasScale o.kind) (sym here) (schema.scaled k of h) in
            subst HasScale (sym kept.1.kind) old
      ]

-- where no name is set twice
pub assigned : (input : List Column) (settings : List Setting) → IsSchema input → All (λ s. HoldsValue input s.value s.column) settings → no_double (names_in (columns_set settings)) ≡ Ok tt
    → IsAssigned input (filter_map (assign_in (names_in (set_columns input settings))) settings) (set_columns input settings)
assigned input settings schema holds fine = is_assigned input settings schema holds (are_distinct_from (names_in (columns_set settings)) fine)

pub assigned_schema : (input : List Column) (settings : List Setting) → IsSchema input → All (λ s. HoldsValue input s.value s.column) settings → no_double (names_in (columns_set settings)) ≡ Ok tt
    → length (set_columns input settings) ≤ 64
    → ((columns : List Column) (x : Tree) (kind : ColumnKind) (nullable : Bool) → All (λ c. HasScale c.kind) columns → LeavesFit x → typing columns x ≡ Ok (sort.Value kind nullable) → HasScale kind)
    → IsSchema (set_columns input settings)
assigned_schema input settings schema holds fine few law = output_schema input settings schema holds (are_distinct_from (names_in (columns_set settings)) fine) few law
