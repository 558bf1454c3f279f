-- The accumulators of groups, and the values that they give.
use Rattle.std.proofs.Common.{◌≡◌, ℕ, zero, suc, ◌<◌, List, [], ◌∷◌, ◌++◌, length, map, take, get_or, slice_get, option_map, drop, Some, true, refl, sym, ap, subst, ◌∙◌, Vec, Global}
use Rattle.std.specs.List.{AllZip}
use Rattle.std.proofs.lemmas.List.{length-map}
use Rattle.std.proofs.lemmas.Simd.{map-map}
use Rattle.std.proofs.lemmas.Option.{same_Some, slice_get-map, slice_get_read}
use Rattle.tuple_schema.specs.declared.value.Value.{Value}
use Rattle.tuple_schema.specs.declared.schema.Column.{Column}
use Rattle.tuple_schema.specs.Schemas.{Fits, is_of}
use Rattle.tuple_schema.specs.Tuples.{part}
use Rattle.list_algebra.specs.Bags.{Tuple}
use Rattle.list_algebra.specs.Groups.{each_group, groups, members}
use Rattle.list_algebra.specs.Joins.{below}
use Rattle.flow_types.specs.declared.node.Make.{Make}
use Rattle.kind_laws.specs.Indexes.{row_at}
use Rattle.kind_laws.specs.Makes.{made, made_of}
use Rattle.kind_laws.specs.Accumulators.{Stands, rows_of, value_held}
use Rattle.kind_laws.specs.Grouping.{AreHeld, IsGrouping, StandForAll, group_at, group_row}
use Rattle.kind_laws.specs.declared.making.Accumulator.{Accumulator}
use Rattle.kind_laws.proofs.Added.{back_fits, next_added, row_around}
use Rattle.kind_laws.proofs.MakingValues.{value_made}
use Rattle.kind_laws.proofs.Numbered.{items_below}
use Rattle.kind_laws.proofs.GroupsMade.{members_there}

-- two lists that agree place by place, and one item more of each
pub zip_more : {A B : Type 0} (R : A → B → Type 0) (xs : List A) (ys : List B) (x : A) (y : B) → AllZip R xs ys → R x y → AllZip R (xs ++ x ∷ []) (ys ++ y ∷ [])
zip_more R [] [] x y all one = (one, tt)
zip_more R [] (b ∷ ys) x y all one = absurd all
zip_more R (a ∷ xs) [] x y all one = absurd all
zip_more R (a ∷ xs) (b ∷ ys) x y all one = (all.0, zip_more R xs ys x y all.1 one)

-- their items at a place agree
pub zip_at : {A B : Type 0} (R : A → B → Type 0) (xs : List A) (ys : List B) (k : ℕ) (x : A) (y : B) → AllZip R xs ys → slice_get xs k ≡ Some x → slice_get ys k ≡ Some y → R x y
zip_at R [] ys k x y all at also = absurd cc
zip_at R (a ∷ xs) [] k x y all at also = absurd all
zip_at R (a ∷ xs) (b ∷ ys) zero x y all at also =
    subst (λ z. R z y) (same_Some a x at) (subst (R a) (same_Some b y also) all.0)
zip_at R (a ∷ xs) (b ∷ ys) (suc k) x y all at also = zip_at R xs ys k x y all.1 at also

pub zip_long : {A B : Type 0} (R : A → B → Type 0) (xs : List A) (ys : List B) → AllZip R xs ys → length xs ≡ length ys
zip_long R [] [] all = refl
zip_long R [] (b ∷ ys) all = absurd all
zip_long R (a ∷ xs) [] all = absurd all
zip_long R (a ∷ xs) (b ∷ ys) all = ap suc (zip_long R xs ys all.1)

-- the accumulators of a make, at its place
pub each_at : (held : List (Vec Accumulator Global)) (k : ℕ) (v : Vec Accumulator Global) → k < length held → v ≡ get_or held k v
    → slice_get (map (λ (w : Vec Accumulator Global). w.items) held) k ≡ Some v.items
each_at held k v small is =
    slice_get-map (λ (w : Vec Accumulator Global). w.items) held k
    ∙ ap (option_map (λ (w : Vec Accumulator Global). w.items)) (slice_get_read held (length held) k v refl small is)

-- all groups in their order
pub groups_in_turn : (by : List ℕ) (rows : List Tuple) (firsts : List ℕ) → map (λ n. part (row_at rows n) by) firsts ≡ groups by rows
    → map (group_at by rows) (below (length firsts)) ≡ groups by rows
groups_in_turn by rows firsts are =
    ap (λ n. map (group_at by rows) (below n)) (sym (length-map firsts (λ n. part (row_at rows n) by)) ∙ ap length are) ∙ items_below [] (groups by rows)

-- the rows of groups of these numbers
pub rows_of_groups : (by : List ℕ) (makes : List Make) (rows : List Tuple) (numbers : List ℕ)
    → map (group_row by makes rows) numbers ≡ each_group (made makes) by rows (map (group_at by rows) numbers)
rows_of_groups by makes rows numbers = sym (map-map (λ group. group ++ made makes (members by rows group)) (group_at by rows) numbers)

module _ (by : List ℕ) (makes : List Make) (rows : List Tuple) (group_of firsts : List ℕ) (is : IsGrouping by rows group_of firsts) (g : ℕ) (small : g < length firsts)
    (held : List (List Accumulator)) (are : AreHeld rows group_of (length firsts) makes held) (k : ℕ) (make : Make) (each : List Accumulator)
    (at : slice_get makes k ≡ Some make) (also : slice_get held k ≡ Some each)
  where
    here : StandForAll rows group_of (length firsts) make each
    here = zip_at (StandForAll rows group_of (length firsts)) makes held k make each are at also

    pub each_long : length each ≡ length firsts
    each_long = here.counted

    module _ (one : Accumulator) (there : slice_get each g ≡ Some one) where
      pub stands_for : Stands make.what make.column rows one (rows_of group_of rows g)
      stands_for = here.stand g one there

      abbrev values : List Value
      values = made makes (members by rows (group_at by rows g))

      -- the value that it gives is that of the group's row
      pub value_there : slice_get values k ≡ Some (value_held make.column rows one)
      value_there =
          let made_is : made_of make.what make.column (members by rows (group_at by rows g)) ≡ value_held make.column rows one =
          sym (value_made make.what make.column rows one (rows_of group_of rows g) stands_for ∙ ap (made_of make.what make.column) (members_there by rows group_of firsts is g small)) in
          slice_get-map (λ (m : Make). made_of m.what m.column (members by rows (group_at by rows g))) makes k
          ∙ ap (option_map (λ (m : Make). made_of m.what m.column (members by rows (group_at by rows g)))) at ∙ ap Some made_is

      -- and it is of the column that comes next
      pub value_next : (columns : List Column) → Fits columns (group_row by makes rows g)
          → (column : Column) × (slice_get columns (length (group_at by rows g ++ take k values)) ≡ Some column)
          × (is_of column.kind column.nullable (value_held make.column rows one) ≡ true)
      value_next columns fit =
          next_added columns (group_at by rows g) values (take k values) (drop (suc k) values) (value_held make.column rows one)
          (back_fits columns (group_at by rows g) (group_at by rows g) values refl fit) (row_around values k (value_held make.column rows one) value_there)
