-- The row of a group, and the columns that it fits.
use Rattle.std.proofs.Common.{◌≡◌, ℕ, zero, suc, ◌<◌, List, [], ◌∷◌, length, filter, get_or, slice_get, Some, Bool, true, ◌&&◌, cond, All, refl, sym, ap, subst, ◌∙◌, inl, inr, arith}
use Rattle.std.specs.List.{AllZip}
use Rattle.std.proofs.lemmas.Bool.{cases_Bool}
use Rattle.std.proofs.lemmas.List.{get_or-map, length-map}
use Rattle.std.proofs.lemmas.List.Elements.{All-nil, All-cons, All-filter}
use Rattle.std.proofs.lemmas.Option.{same_Some, slice_get-get_or, slice_get_within}
use Rattle.tuple_schema.specs.declared.schema.Column.{Column}
use Rattle.tuple_schema.specs.Schemas.{Fits, fits, is_of}
use Rattle.tuple_schema.specs.Tuples.{part}
use Rattle.list_algebra.specs.Bags.{Tuple, same}
use Rattle.list_algebra.specs.Groups.{groups, members}
use Rattle.list_algebra.proofs.Same.{same-itself}
use Rattle.flow_types.specs.declared.node.Agg.{Agg}
use Rattle.flow_types.specs.declared.node.Agg.TheVariants as agg
use Rattle.flow_types.specs.declared.node.Make.{Make}
use Rattle.flow_types.specs.Grouped.{IsGrouped, IsMadeOf}
use Rattle.flow_types.specs.Makes.{made_kind, made_nullable}
use Rattle.kind_laws.specs.Indexes.{row_at}
use Rattle.kind_laws.specs.Makes.{made, made_of}
use Rattle.kind_laws.specs.Accumulators.{ReadsWithin, rows_of}
use Rattle.kind_laws.specs.Grouping.{IsGrouping, group_at, group_row}
use Rattle.kind_laws.proofs.Rows.{part_fits}
use Rattle.kind_laws.proofs.Joined.{fits-append}
use Rattle.kind_laws.proofs.MakingKinds.{sum_made_is_of, least_made_is_of, greatest_made_is_of}

-- of a list of which some item passes, something is kept
pub some_kept : (p : Tuple → Bool) (xs : List Tuple) (n : ℕ) (x : Tuple) → slice_get xs n ≡ Some x → p x ≡ true
    → (first : Tuple) × (rest : List Tuple) × (filter p xs ≡ first ∷ rest)
some_kept p [] n x there passes = absurd cc
some_kept p (y ∷ ys) zero x there passes =
    let e : y ≡ x = same_Some _ _ there in
    (y, filter p ys, ap (λ b. cond b (y ∷ filter p ys) (filter p ys)) (ap p e ∙ passes))
some_kept p (y ∷ ys) (suc n) x there passes =
    elim (cases_Bool (p y)) [
      | inl kept ↦ (y, filter p ys, ap (λ b. cond b (y ∷ filter p ys) (filter p ys)) kept)
      | inr left ↦
          let more = some_kept p ys n x there passes in
          (more.0, more.1, ap (λ b. cond b (y ∷ filter p ys) (filter p ys)) left ∙ more.2)
    ]

-- a column that a make says something of is one of the columns
reads : (width : ℕ) (what : Agg) (column : ℕ) → column < width → ReadsWithin width what column
reads width agg.Count column small = tt
reads width agg.CountOf column small = small
reads width agg.Sum column small = small
reads width agg.Min column small = small
reads width agg.Max column small = small

-- what is made of some rows that fit is of its column
made_is_of : (input : List Column) (what : Agg) (column : ℕ) (of : Column) (row : Tuple) (others : List Tuple) → slice_get input column ≡ Some of
    → All (Fits input) (row ∷ others) → is_of (made_kind what of.kind) (made_nullable what of.nullable) (made_of what column (row ∷ others)) ≡ true
made_is_of input agg.Count column of row others at fit = refl
made_is_of input agg.CountOf column of row others at fit = refl
made_is_of input agg.Sum column of row others at fit = sum_made_is_of input column of at (row ∷ others) fit
made_is_of input agg.Min column of row others at fit = least_made_is_of input column of at row others fit
made_is_of input agg.Max column of row others at fit = greatest_made_is_of input column of at row others fit

made_fits : (input : List Column) (makes : List Make) (behind : List Column) (row : Tuple) (others : List Tuple) → AllZip (IsMadeOf input) makes behind
    → All (Fits input) (row ∷ others) → fits behind (made makes (row ∷ others)) ≡ true
made_fits input [] [] row others zip fit = refl
made_fits input [] (c ∷ behind) row others zip fit = absurd zip
made_fits input (make ∷ makes) [] row others zip fit = absurd zip
made_fits input (make ∷ makes) (c ∷ behind) row others zip fit =
    let one = zip.0 in
    let fine : is_of c.kind c.nullable (made_of make.what make.column (row ∷ others)) ≡ true =
    rw (one.kind, one.nullable) (made_is_of input make.what make.column one.of row others one.at fit) in
    ap (λ b. b && fits behind (made makes (row ∷ others))) fine ∙ made_fits input makes behind row others zip.1 fit

pub reads_within : (input : List Column) (makes : List Make) (behind : List Column) → AllZip (IsMadeOf input) makes behind
    → All (λ (make : Make). ReadsWithin (length input) make.what make.column) makes
reads_within input [] [] zip = All-nil (λ (make : Make). ReadsWithin (length input) make.what make.column)
reads_within input [] (c ∷ behind) zip = absurd zip
reads_within input (make ∷ makes) [] zip = absurd zip
reads_within input (make ∷ makes) (c ∷ behind) zip =
    let one = zip.0 in
    All-cons (λ (make : Make). ReadsWithin (length input) make.what make.column) make makes
    (reads (length input) make.what make.column (slice_get_within input make.column one.of one.at)) (reads_within input makes behind zip.1)

module _ (by : List ℕ) (rows : List Tuple) (group_of firsts : List ℕ) (is : IsGrouping by rows group_of firsts) (g : ℕ) (small : g < length firsts) where
  group_small : g < length (groups by rows)
  group_small = let long = sym (length-map firsts (λ n. part (row_at rows n) by)) ∙ ap length is.keys in omega (arith, small, long)

  -- the rows of a group, and the first of them
  pub members_there : rows_of group_of rows g ≡ members by rows (group_at by rows g)
  members_there = is.members g (group_at by rows g) (slice_get-get_or (groups by rows) g [] group_small)

  pub first_within : get_or firsts g 0 < length rows
  first_within = is.firsts_within g 0 small

  pub first_part : part (row_at rows (get_or firsts g 0)) by ≡ group_at by rows g
  first_part = sym (get_or-map (λ n. part (row_at rows n) by) firsts g 0 [] small) ∙ ap (λ ks. get_or ks g []) is.keys

  some_member : (first : Tuple) × (rest : List Tuple) × (members by rows (group_at by rows g) ≡ first ∷ rest)
  some_member =
      let row = row_at rows (get_or firsts g 0) in
      some_kept (λ t. same (group_at by rows g) (part t by)) rows (get_or firsts g 0) row
      (slice_get-get_or rows (get_or firsts g 0) [] first_within)
      (subst (λ k. same (group_at by rows g) k ≡ true) (sym first_part) (same-itself (group_at by rows g)))

  -- the row of a group fits the columns that are made
  pub group_fits : (input : List Column) (makes : List Make) (columns : List Column) → IsGrouped input by makes columns → All (Fits input) rows
      → Fits columns (group_row by makes rows g)
  group_fits input makes columns grouped fit =
      let front : Fits grouped.front (group_at by rows g) =
      subst (Fits grouped.front) first_part (part_fits input grouped.front by (row_at rows (get_or firsts g 0)) grouped.taken (fit (get_or firsts g 0) [] first_within)) in
      let some = some_member in
      let all : All (Fits input) (some.0 ∷ some.1) =
      subst (All (Fits input)) some.2 (All-filter (λ t. same (group_at by rows g) (part t by)) (Fits input) rows fit) in
      let behind : Fits grouped.behind (made makes (members by rows (group_at by rows g))) =
      subst (λ ms. Fits grouped.behind (made makes ms)) (sym some.2) (made_fits input makes grouped.behind some.0 some.1 grouped.made all) in
      subst (λ cs. Fits cs (group_row by makes rows g)) (sym grouped.all)
      (fits-append grouped.front grouped.behind (group_at by rows g) (made makes (members by rows (group_at by rows g))) front behind)
