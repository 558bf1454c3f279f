-- Lists that are made by place, for the places below a number.
use Rattle.std.proofs.Common.{◌≡◌, ℕ, zero, suc, ◌+◌, ◌<◌, List, [], ◌∷◌, ◌++◌, length, map, get_or, slice_get, true, Some, refl, ap, sym, subst, ◌∙◌, arith}
use Rattle.std.specs.List.{range_with_len}
use Rattle.std.proofs.lemmas.List.{map-append}
use Rattle.std.proofs.lemmas.List.FromFn.{length-map-range_with_len, get_or-map-range_with_len, map-range_with_len_more}
use Rattle.tuple_schema.specs.declared.value.Value.{Value}
use Rattle.tuple_schema.specs.declared.schema.Column.{Column}
use Rattle.tuple_schema.specs.Schemas.{fits, is_of}
use Rattle.list_algebra.specs.Joins.{below}

below_more : (n : ℕ) → below (n + 1) ≡ below n ++ n ∷ []
unfolding below
below_more n = let e : n + 1 ≡ suc n = omega arith in rw e refl

pub map_below_none : {X : Type 0} (f : ℕ → X) → map f (below 0) ≡ []
unfolding below
map_below_none f = refl

-- one place more
pub map_below_more : {X : Type 0} (f : ℕ → X) (n : ℕ) → map f (below (n + 1)) ≡ map f (below n) ++ f n ∷ []
map_below_more f n = ap (map f) (below_more n) ∙ map-append f (below n) (n ∷ [])

-- the places are the numbers from 0 on
map_below : {X : Type 0} (f : ℕ → X) (n : ℕ) → map f (below n) ≡ map f (range_with_len 0 n)
map_below f zero = map_below_none f
map_below f (suc n) =
    let e : n + 1 ≡ suc n = omega arith in
    subst (λ m. map f (below m) ≡ map f (range_with_len 0 m)) e
    (map_below_more f n ∙ ap (λ xs. xs ++ f n ∷ []) (map_below f n) ∙ sym (map-range_with_len_more f 0 n n (omega arith)))

pub length-map_below : {X : Type 0} (f : ℕ → X) (n : ℕ) → length (map f (below n)) ≡ n
length-map_below f n = ap length (map_below f n) ∙ length-map-range_with_len f 0 n

-- what stands at a place
pub at_below : {X : Type 0} (f : ℕ → X) (n i : ℕ) (d : X) → i < n → get_or (map f (below n)) i d ≡ f i
at_below f n i d small = ap (λ xs. get_or xs i d) (map_below f n) ∙ get_or-map-range_with_len f 0 n i i d small (omega arith)

-- two that make the same at each place below make the same list
pub same_below : {X : Type 0} (f g : ℕ → X) (n : ℕ) → ((i : ℕ) → i < n → f i ≡ g i) → map f (below n) ≡ map g (below n)
same_below f g zero same = map_below_none f ∙ sym (map_below_none g)
same_below f g (suc n) same =
    let e : n + 1 ≡ suc n = omega arith in
    subst (λ m. map f (below m) ≡ map g (below m)) e
    (map_below_more f n ∙ ap (λ xs. xs ++ f n ∷ []) (same_below f g n (λ i small. same i (omega (arith, small))))
    ∙ ap (λ x. map g (below n) ++ x ∷ []) (same n (omega arith)) ∙ sym (map_below_more g n))

-- a row that is made from a place on, each of whose values is of its column, fits the columns
fits_from : (columns : List Column) (f : ℕ → Value) (a : ℕ)
    → ((i : ℕ) (c : Column) → slice_get columns i ≡ Some c → is_of c.kind c.nullable (f (a + i)) ≡ true)
    → fits columns (map f (range_with_len a (length columns))) ≡ true
fits_from [] f a each = refl
fits_from (c ∷ columns) f a each =
    let here : a + 0 ≡ a = omega arith in
    let first : is_of c.kind c.nullable (f a) ≡ true = subst (λ i. is_of c.kind c.nullable (f i) ≡ true) here (each 0 c refl) in
    let others : fits columns (map f (range_with_len (a + 1) (length columns))) ≡ true =
    fits_from columns f (a + 1) (λ i d at.
    let there : a + suc i ≡ a + 1 + i = omega arith in
    subst (λ j. is_of d.kind d.nullable (f j) ≡ true) there (each (suc i) d at)) in
    rw first others

pub below_fits : (columns : List Column) (f : ℕ → Value)
    → ((i : ℕ) (c : Column) → slice_get columns i ≡ Some c → is_of c.kind c.nullable (f i) ≡ true)
    → fits columns (map f (below (length columns))) ≡ true
below_fits columns f each =
    subst (λ vs. fits columns vs ≡ true) (sym (map_below f (length columns)))
    (fits_from columns f 0 (λ i c at.
    let there : i ≡ 0 + i = omega arith in
    subst (λ j. is_of c.kind c.nullable (f j) ≡ true) there (each i c at)))
