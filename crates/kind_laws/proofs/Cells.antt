-- The new tuple that a map makes of a row: it fits its columns.
use Rattle.std.proofs.Common.{◌≡◌, ℕ, ◌+◌, ◌<◌, List, [], ◌∷◌, ◌++◌, length, map, take, get_or, slice_get, All, Bool, true, Option, Some, None, inl, inr, ap, sym, subst, ◌∙◌, arith}
use Rattle.std.proofs.lemmas.List.{map_more}
use Rattle.std.proofs.lemmas.List.Elements.{All-weaker}
use Rattle.std.proofs.lemmas.Option.{slice_get_within, slice_get_cases, get_or_from_slice_get}
use Rattle.tuple_schema.specs.declared.value.Value.{Value}
use Rattle.tuple_schema.specs.declared.value.Value.TheVariants as value
use Rattle.tuple_schema.specs.declared.schema.Column.{Column}
use Rattle.tuple_schema.specs.declared.schema.ColumnKind.{ColumnKind}
use Rattle.tuple_schema.specs.Schemas.{HasScale, fits, is_of}
use Rattle.row_codec.specs.Decoding.{IsEncodable}
use Rattle.row_batch.specs.Packing.{FitsNext}
use Rattle.list_algebra.specs.Joins.{below}
use Rattle.expr_grammar.specs.declared.expr.Expr.{Expr}
use Rattle.expr_lang.specs.Trees.{Tree, tree_of}
use Rattle.expr_lang.specs.Values.{value_of}
use Rattle.expr_lang.specs.Fits.{IsWithin, IsTyped, ValueFits}
use Rattle.expr_lang.specs.declared.kind.ExprKind.TheVariants as sort
use Rattle.flow_types.specs.declared.node.Assign.{Assign}
use Rattle.flow_types.specs.Taken.{IsTaken}
use Rattle.flow_types.specs.Assigned.{HoldsCell, IsAssigned, set_at}
use Rattle.kind_laws.specs.Expressions.{assigned, cell, cells, mapped}
use Rattle.kind_laws.proofs.Rows.{fits-length, value_at}
use Rattle.kind_laws.proofs.Below.{length-map_below, at_below, same_below, below_fits}

-- a value that has a form in bytes is within the limits
form_within : (v : Value) → IsEncodable v → IsWithin v
form_within value.Null form = form
form_within (value.Int n) form = form
form_within (value.Dec n) form = form
form_within (value.Text t) form = form.1

-- what the values that are set at each place make
cells_set : (input : List Column) (row : List Value) (sets : List Assign) (values : List (Option Expr)) (n : ℕ)
    → values ≡ map (set_at sets) (below n)
    → cells input row values ≡ map (λ place. cell input row (set_at sets place) place) (below n)
cells_set input row sets values n is =
    let long : length values ≡ n = ap length is ∙ length-map_below (set_at sets) n in
    ap (λ m. map (λ place. cell input row (get_or values place None) place) (below m)) long
    ∙ same_below (λ place. cell input row (get_or values place None) place) (λ place. cell input row (set_at sets place) place) n
    (λ i small. ap (λ set. cell input row set i) (ap (λ vs. get_or vs i None) is ∙ at_below (set_at sets) n i None small))

module _ (input columns : List Column) (sets : List Assign) (row : List Value) (is : IsAssigned input sets columns) (fit : fits input row ≡ true) where
  -- they make the new tuple
  pub cells_assigned : (values : List (Option Expr)) → values ≡ map (set_at sets) (below (length columns)) → cells input row values ≡ assigned sets input row
  cells_assigned values set =
      cells_set input row sets values (length columns) set
      ∙ ap (λ n. map (λ place. cell input row (set_at sets place) place) (below n)) is.wide

  -- a place at which none is set is one of the row
  own_within : (place : ℕ) → place < length columns → set_at sets place ≡ None → place < length row
  own_within place small none =
      elim (slice_get_cases columns place).1 [
        | inl h ↦
            let taken : IsTaken input place h.0 = subst (λ set. HoldsCell input set place h.0) none (is.each place h.0 h.2) in
            rw (← fits-length input row fit) (slice_get_within input place taken.of taken.at)
        | inr h ↦ absurd (omega (arith, h.0, small))
      ]

  pub own_below : (values : List (Option Expr)) → values ≡ map (set_at sets) (below (length columns))
      → (place : ℕ) → slice_get values place ≡ Some None → place < length row
  own_below values set place at =
      let there : slice_get (map (set_at sets) (below (length columns))) place ≡ Some None = ap (λ vs. slice_get vs place) (sym set) ∙ at in
      let within : place < length (map (set_at sets) (below (length columns))) = slice_get_within _ place None there in
      let small : place < length columns = rw (← length-map_below (set_at sets) (length columns)) within in
      let none : set_at sets place ≡ None =
      sym (at_below (set_at sets) (length columns) place None small) ∙ get_or_from_slice_get _ place None None there in
      own_within place small none

  module _ (scaled : All (λ c. HasScale c.kind) input) (forms : All IsEncodable row)
      (laws : (cs : List Column) (vs : List Value) (x : Tree) (kind : ColumnKind) (nullable : Bool) → IsTyped cs vs x (sort.Value kind nullable)
      → ValueFits kind nullable (value_of cs vs x))
    where
      -- what stands at a place is of the column there
      cell_fits : (place : ℕ) (c : Column) (set : Option Expr) → HoldsCell input set place c → is_of c.kind c.nullable (cell input row set place) ≡ true
      cell_fits place c (Some x) holds =
          let typed : IsTyped input row (tree_of x) (sort.Value c.kind c.nullable) = record {
            scaled = scaled;
            fits = fit;
            within = All-weaker IsEncodable IsWithin form_within row forms;
            leaves = holds.0;
            typed = holds.1;
          } in
          (laws input row (tree_of x) c.kind c.nullable typed).fits
      cell_fits place c None holds =
          let there = value_at input row place holds.of holds.at fit in
          let here : get_or row place value.Null ≡ there.0 = get_or_from_slice_get row place there.0 value.Null there.1 in
          rw (here, holds.kind, holds.nullable) there.2

      pub assigned_fits : fits columns (assigned sets input row) ≡ true
      assigned_fits =
          subst (λ n. fits columns (map (λ place. cell input row (set_at sets place) place) (below n)) ≡ true) is.wide
          (below_fits columns (λ place. cell input row (set_at sets place) place) (λ place c at. cell_fits place c (set_at sets place) (is.each place c at)))

-- the next value of a row that is made by place and fits may stand next
pub next_below : (columns : List Column) (f : ℕ → Value) (n i : ℕ) → fits columns (map f (below n)) ≡ true → i < n
    → (c : Column) × (slice_get columns i ≡ Some c) × (is_of c.kind c.nullable (f i) ≡ true)
next_below columns f n i fit small =
    let long : length columns ≡ n = fits-length columns (map f (below n)) fit ∙ length-map_below f n in
    elim (slice_get_cases columns i).1 [
      | inl h ↦
          let there = value_at columns (map f (below n)) i h.0 h.2 fit in
          let is : there.0 ≡ f i = sym (get_or_from_slice_get _ i there.0 there.0 there.1) ∙ at_below f n i there.0 small in
          (h.0, h.2, subst (λ v. is_of h.0.kind h.0.nullable v ≡ true) is there.2)
      | inr h ↦ absurd (omega (arith, h.0, small, long))
    ]

pub fits_next : (columns begun_columns : List Column) (begun : List Value) (f : ℕ → Value) (n i : ℕ) (v : Value)
    → fits columns (map f (below n)) ≡ true → i < n → begun_columns ≡ columns → begun ≡ map f (below i) → v ≡ f i
    → (length begun < length begun_columns) × FitsNext begun_columns begun v
fits_next columns begun_columns begun f n i v fit small same is next =
    let found = next_below columns f n i fit small in
    let long : length begun ≡ i = ap length is ∙ length-map_below f i in
    (rw (long, same) (slice_get_within columns i found.0 found.1), rw (same, long, found.1, next) found.2)

-- the new tuple of one row more
pub mapped_more : (sets : List Assign) (input : List Column) (rows : List (List Value)) (number : ℕ) (row : List Value) → number < length rows
    → slice_get rows number ≡ Some row → mapped sets input (take (number + 1) rows) ≡ mapped sets input (take number rows) ++ assigned sets input row ∷ []
mapped_more sets input rows number row small there =
    let is : get_or rows number [] ≡ row = get_or_from_slice_get rows number row [] there in
    map_more (assigned sets input) rows number [] small ∙ ap (λ r. mapped sets input (take number rows) ++ assigned sets input r ∷ []) is
