-- The rows of a join and of a lookup fit their columns.
use Rattle.std.proofs.Common.{◌≡◌, ◌∙◌, ℕ, zero, suc, ◌+◌, ◌<◌, List, [], ◌∷◌, ◌++◌, length, take, map, filter_map, slice_get, not, ◌==◌, All, Bool, true, false, ◌&&◌, Some, refl, ap, sym, subst, map-id, arith}
use Rattle.std.specs.List.{flat_map, list_any}
use Rattle.std.proofs.lemmas.List.{take_more, flat_map_more}
use Rattle.std.proofs.lemmas.List.Elements.{All-nil, All-cons, All-head, All-tail, All-filter}
use Rattle.std.proofs.lemmas.Option.{slice_get_within}
use Rattle.tuple_schema.specs.declared.value.Value.{Value}
use Rattle.tuple_schema.specs.declared.value.Value.TheVariants as value
use Rattle.tuple_schema.specs.declared.schema.Column.{Column}
use Rattle.tuple_schema.specs.declared.schema.ColumnKind.{ColumnKind}
use Rattle.tuple_schema.specs.declared.schema.ColumnKind.TheVariants as kind
use Rattle.tuple_schema.specs.Schemas.{Fits, fits, is_of}
use Rattle.tuple_schema.specs.Tuples.{part}
use Rattle.list_algebra.specs.Bags.{Tuple}
use Rattle.list_algebra.specs.Outputs.{piecewise}
use Rattle.list_algebra.specs.Joins.{below, nulls, others}
use Rattle.flow_types.specs.Joined.{ArePairs, as_nullable, join_columns, lookup_columns, other_columns}
use Rattle.kind_laws.specs.Indexes.{PairsFit, row_at}
use Rattle.kind_laws.proofs.Rows.{value_at}
use Rattle.kind_laws.proofs.Numbered.{All-below}

-- the join columns stand in their inputs, and there are as many in both
pub pairs_left : (left right : List Column) (ls rs : List ℕ) → ArePairs left right ls rs → All (λ c. c < length left) ls
pairs_left left right [] [] pairs = All-nil _
pairs_left left right [] (r ∷ rs) pairs = absurd pairs
pairs_left left right (l ∷ ls) [] pairs = absurd pairs
pairs_left left right (l ∷ ls) (r ∷ rs) pairs =
    All-cons (λ c. c < length left) l ls (slice_get_within left l pairs.0.one pairs.0.one_at) (pairs_left left right ls rs pairs.1)

pub pairs_right : (left right : List Column) (ls rs : List ℕ) → ArePairs left right ls rs → All (λ c. c < length right) rs
pairs_right left right [] [] pairs = All-nil _
pairs_right left right [] (r ∷ rs) pairs = absurd pairs
pairs_right left right (l ∷ ls) [] pairs = absurd pairs
pairs_right left right (l ∷ ls) (r ∷ rs) pairs =
    All-cons (λ c. c < length right) r rs (slice_get_within right r pairs.0.other pairs.0.other_at) (pairs_right left right ls rs pairs.1)

pub pairs_long : (left right : List Column) (ls rs : List ℕ) → ArePairs left right ls rs → length rs ≡ length ls
pairs_long left right [] [] pairs = refl
pairs_long left right [] (r ∷ rs) pairs = absurd pairs
pairs_long left right (l ∷ ls) [] pairs = absurd pairs
pairs_long left right (l ∷ ls) (r ∷ rs) pairs = ap suc (pairs_long left right ls rs pairs.1)

-- the other columns stand in the right input
pub others_within : (count : ℕ) (cols : List ℕ) → All (λ place. place < count) (others count cols)
others_within count cols =
    All-filter (λ place. not (list_any (λ c. c == place) cols)) (λ place. place < count) (below count) (All-below count)

-- rows that fit, one behind the other
fits_both : (a b : Bool) → a ≡ true → b ≡ true → (a && b) ≡ true
fits_both true b h g = g
fits_both false b h g = cc

holds_left : (a b : Bool) → (a && b) ≡ true → a ≡ true
holds_left true b h = refl
holds_left false b h = cc

holds_right : (a b : Bool) → (a && b) ≡ true → b ≡ true
holds_right true b h = h
holds_right false b h = cc

pub fits-append : (columns behind : List Column) (row rest : List Value) → fits columns row ≡ true → fits behind rest ≡ true
    → fits (columns ++ behind) (row ++ rest) ≡ true
fits-append [] behind [] rest fit also = also
fits-append [] behind (v ∷ row) rest fit also = absurd cc
fits-append (c ∷ columns) behind [] rest fit also = absurd cc
fits-append (c ∷ columns) behind (v ∷ row) rest fit also =
    fits_both _ _ (holds_left _ _ fit) (fits-append columns behind row rest (holds_right _ _ fit) also)

-- a list has an item at each place that it has
item_at : {X : Type 0} (xs : List X) (n : ℕ) → n < length xs → (x : X) × (slice_get xs n ≡ Some x)
item_at [] n small = absurd (omega (arith, small))
item_at (x ∷ xs) zero small = (x, refl)
item_at (x ∷ xs) (suc n) small = item_at xs n (omega (arith, small))

-- a change of columns by which what fits still fits
module _ (f : Column → Column) (keeps : (c : Column) (v : Value) → is_of c.kind c.nullable v ≡ true → is_of (f c).kind (f c).nullable v ≡ true) where
  part_fits_changed : (columns : List Column) (from : List ℕ) (row : List Value) → All (λ place. place < length columns) from → fits columns row ≡ true
      → fits (map f (filter_map (slice_get columns) from)) (part row from) ≡ true
  part_fits_changed columns [] row within fit = refl
  part_fits_changed columns (p ∷ from) row within fit =
      let there = item_at columns p (All-head (λ place. place < length columns) p from within) in
      let is = value_at columns row p there.0 there.1 fit in
      let rest = part_fits_changed columns from row (All-tail (λ place. place < length columns) p from within) fit in
      rw (there.1, is.1) (fits_both _ _ (keeps there.0 is.0 is.2) rest)

-- Null fits where it may stand
nulls_fit : (columns : List Column) (from : List ℕ) → All (λ place. place < length columns) from
    → fits (map as_nullable (filter_map (slice_get columns) from)) (nulls (length from)) ≡ true
unfolding nulls
nulls_fit columns [] within = refl
nulls_fit columns (p ∷ from) within =
    let there = item_at columns p (All-head (λ place. place < length columns) p from within) in
    rw there.1 (nulls_fit columns from (All-tail (λ place. place < length columns) p from within))

still_of : (k : ColumnKind) (nullable : Bool) (v : Value) → is_of k nullable v ≡ true → is_of k true v ≡ true
still_of k nullable value.Null h = refl
still_of kind.Int nullable (value.Int n) h = refl
still_of (kind.Dec scale) nullable (value.Dec n) h = refl
still_of kind.Text nullable (value.Text text) h = refl
still_of kind.Int nullable (value.Dec n) h = cc
still_of kind.Int nullable (value.Text text) h = cc
still_of (kind.Dec scale) nullable (value.Int n) h = cc
still_of (kind.Dec scale) nullable (value.Text text) h = cc
still_of kind.Text nullable (value.Int n) h = cc
still_of kind.Text nullable (value.Dec n) h = cc

module _ (left right : List Column) (cols : List ℕ) (row : Tuple) (fit : Fits left row) where
  -- what a join puts together fits its columns
  pub join_fits : PairsFit right (others (length right) cols) row (join_columns left right cols)
  join_fits other also =
      fits-append left (other_columns right cols) row (part other (others (length right) cols)) fit
      (subst (λ columns. fits columns (part other (others (length right) cols)) ≡ true) (map-id (other_columns right cols))
      (part_fits_changed (λ c. c) (λ c v h. h) right (others (length right) cols) other (others_within (length right) cols) also))

  -- and so does what a lookup puts together, with a row or with Nulls
  pub lookup_fits : PairsFit right (others (length right) cols) row (lookup_columns left right cols)
  lookup_fits other also =
      fits-append left (map as_nullable (other_columns right cols)) row (part other (others (length right) cols)) fit
      (part_fits_changed as_nullable (λ c v h. still_of c.kind c.nullable v h) right (others (length right) cols) other (others_within (length right) cols) also)

  pub alone_fits : Fits (lookup_columns left right cols) (row ++ nulls (length (others (length right) cols)))
  alone_fits =
      fits-append left (map as_nullable (other_columns right cols)) row (nulls (length (others (length right) cols))) fit
      (nulls_fit right (others (length right) cols) (others_within (length right) cols))

-- the piece of one left row more
pub pieces_more : (piece : Tuple → List Tuple) (rows : List Tuple) (number : ℕ) (row : Tuple) → number < length rows → row_at rows number ≡ row
    → piecewise piece (take number rows) ++ piece row ≡ piecewise piece (take (number + 1) rows)
pieces_more piece rows number row small is =
    flat_map_more piece [] (take number rows) row
    ∙ ap (flat_map piece) (ap (λ r. take number rows ++ r ∷ []) (sym is) ∙ sym (take_more rows number [] small))
