-- Rows that are added value by value.
use Rattle.std.proofs.Common.{◌≡◌, ◌∙◌, ℕ, zero, suc, ◌+◌, ◌<◌, List, [], ◌∷◌, ◌++◌, length, take, drop, get_or, slice_get, Bool, true, false, ◌&&◌, Some, refl, ap, sym, subst, append_assoc, append-nil, arith}
use Rattle.std.proofs.lemmas.List.{drop_more, take-append-drop}
use Rattle.std.proofs.lemmas.List.Elements.{filter_map-append}
use Rattle.std.proofs.lemmas.Option.{same_Some}
use Rattle.std.specs.List.{cons_option}
use Rattle.tuple_schema.specs.declared.value.Value.{Value}
use Rattle.tuple_schema.specs.declared.value.Value.TheVariants as value
use Rattle.tuple_schema.specs.declared.schema.Column.{Column}
use Rattle.tuple_schema.specs.Schemas.{Fits, fits, is_of}
use Rattle.tuple_schema.specs.Tuples.{part}
use Rattle.list_algebra.specs.Joins.{nulls}
use Rattle.kind_laws.specs.Indexes.{FitBehind}

first_holds : (a b : Bool) → (a && b) ≡ true → a ≡ true
first_holds true b h = refl
first_holds false b h = cc

second_holds : (a b : Bool) → (a && b) ≡ true → b ≡ true
second_holds true b h = h
second_holds false b h = cc

-- the column behind those of some values takes the value behind these
next_column : (columns : List Column) (front rest : List Value) (v : Value) → fits columns (front ++ v ∷ rest) ≡ true
    → (c : Column) × (slice_get columns (length front) ≡ Some c) × (is_of c.kind c.nullable v ≡ true)
next_column [] [] rest v fit = absurd cc
next_column [] (x ∷ front) rest v fit = absurd cc
next_column (c ∷ columns) [] rest v fit = (c, refl, first_holds _ _ fit)
next_column (c ∷ columns) (x ∷ front) rest v fit = next_column columns front rest v (second_holds _ _ fit)

-- so does the next of the values that are added
pub next_added : (columns : List Column) (begun values front back : List Value) (v : Value) → FitBehind columns begun values → values ≡ front ++ v ∷ back
    → (c : Column) × (slice_get columns (length (begun ++ front)) ≡ Some c) × (is_of c.kind c.nullable v ≡ true)
next_added columns begun values front back v fit is =
    let whole : begun ++ values ++ fit.behind ≡ (begun ++ front) ++ v ∷ (back ++ fit.behind) =
    ap (λ vs. begun ++ vs ++ fit.behind) is ∙ ap (λ vs. vs ++ fit.behind) (sym (append_assoc begun front (v ∷ back)))
    ∙ append_assoc (begun ++ front) (v ∷ back) fit.behind in
    next_column columns (begun ++ front) (back ++ fit.behind) v (subst (λ vs. fits columns vs ≡ true) whole fit.fits)

-- a value of a row stands between those before it and those behind it
pub row_around : (row : List Value) (i : ℕ) (v : Value) → slice_get row i ≡ Some v → row ≡ take i row ++ v ∷ drop (suc i) row
row_around [] i v there = absurd cc
row_around (x ∷ row) zero v there = ap (λ u. u ∷ row) (same_Some _ _ there)
row_around (x ∷ row) (suc i) v there = ap (λ vs. x ∷ vs) (row_around row i v there)

pub row_more : (row : List Value) (i : ℕ) (v : Value) → slice_get row i ≡ Some v → take (i + 1) row ≡ take i row ++ v ∷ []
row_more [] i v there = absurd cc
row_more (x ∷ row) zero v there = ap (λ u. u ∷ []) (same_Some _ _ there)
row_more (x ∷ row) (suc i) v there =
    let e : suc (i + 1) ≡ suc i + 1 = omega arith in
    subst (λ n. take n (x ∷ row) ≡ x ∷ take i row ++ v ∷ []) e (ap (λ vs. x ∷ vs) (row_more row i v there))

-- the same of a part
pub part_between : (row : List Value) (from : List ℕ) (i : ℕ) (v : Value) → i < length from → slice_get row (get_or from i 0) ≡ Some v
    → part row from ≡ part row (take i from) ++ v ∷ part row (drop (i + 1) from)
part_between row from i v small there =
    ap (part row) (sym (take-append-drop i from) ∙ ap (λ ps. take i from ++ ps) (drop_more from i 0 small))
    ∙ filter_map-append (slice_get row) (take i from) (get_or from i 0 ∷ drop (i + 1) from)
    ∙ ap (λ found. part row (take i from) ++ cons_option found (part row (drop (i + 1) from))) there

-- and of Nulls
pub nulls_around : (n i : ℕ) → i < n → (m : ℕ) × (nulls n ≡ nulls i ++ value.Null ∷ nulls m)
unfolding nulls
nulls_around zero i small = absurd (omega (arith, small))
nulls_around (suc n) zero small = (n, refl)
nulls_around (suc n) (suc i) small =
    let next = nulls_around n i (omega (arith, small)) in
    (next.0, ap (λ vs. value.Null ∷ vs) next.1)

pub nulls_more : (n : ℕ) → nulls (n + 1) ≡ nulls n ++ value.Null ∷ []
unfolding nulls
nulls_more zero = refl
nulls_more (suc n) =
    let e : suc (n + 1) ≡ suc n + 1 = omega arith in
    subst (λ m. nulls m ≡ value.Null ∷ nulls n ++ value.Null ∷ []) e (ap (λ vs. value.Null ∷ vs) (nulls_more n))

pub no_nulls : nulls 0 ≡ []
unfolding nulls
no_nulls = refl

-- the front of a row that fits, and what stands behind it
pub front_fits : (columns : List Column) (begun left behind : List Value) → begun ≡ [] → Fits columns (left ++ behind) → FitBehind columns begun left
front_fits columns begun left behind none fit =
    record { behind = behind; fits = subst (λ vs. fits columns (vs ++ left ++ behind) ≡ true) (sym none) fit }

pub back_fits : (columns : List Column) (begun left behind : List Value) → begun ≡ left → Fits columns (left ++ behind) → FitBehind columns begun behind
back_fits columns begun left behind is fit =
    record {
      behind = [];
      fits = subst (λ vs. fits columns vs ≡ true) (ap (λ vs. vs ++ behind) (sym is) ∙ sym (append-nil (begun ++ behind))) fit;
    }
