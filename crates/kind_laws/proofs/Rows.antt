-- Rows that fit, their parts, and the batches that a node takes.
use Rattle.std.proofs.Common.{◌≡◌, ◌∙◌, ℕ, zero, suc, ◌+◌, ◌<◌, List, [], ◌∷◌, ◌++◌, length, filter_map, take, drop, get_or, slice_get, All, Bool, true, false, ◌&&◌, Some, refl, ap, sym, subst}
use Rattle.std.proofs.lemmas.List.{take_more, drop_more, take-append-drop}
use Rattle.std.proofs.lemmas.List.Elements.{All-weaker, filter_map-append}
use Rattle.std.proofs.lemmas.Option.{same_Some}
use Rattle.std.specs.List.{AllZip, cons_option}
use Rattle.tuple_schema.specs.declared.value.Value.{Value}
use Rattle.tuple_schema.specs.declared.schema.Column.{Column}
use Rattle.tuple_schema.specs.Schemas.{Fits, fits, is_of}
use Rattle.tuple_schema.specs.Tuples.{part}
use Rattle.flow_types.specs.Taken.{IsTaken, Takes}

and-left : (a b : Bool) → (a && b) ≡ true → a ≡ true
and-left true b h = refl
and-left false b h = cc

and-right : (a b : Bool) → (a && b) ≡ true → b ≡ true
and-right true b h = h
and-right false b h = cc

-- a row that fits has as many values as there are columns
pub fits-length : (columns : List Column) (row : List Value) → fits columns row ≡ true → length columns ≡ length row
fits-length [] [] fit = refl
fits-length [] (v ∷ row) fit = cc
fits-length (c ∷ columns) [] fit = cc
fits-length (c ∷ columns) (v ∷ row) fit = ap suc (fits-length columns row (and-right _ _ fit))

-- the value at a place is of the column there
pub value_at : (columns : List Column) (row : List Value) (place : ℕ) (c : Column) → slice_get columns place ≡ Some c → fits columns row ≡ true
    → (v : Value) × (slice_get row place ≡ Some v) × (is_of c.kind c.nullable v ≡ true)
value_at [] row place c at fit = absurd cc
value_at (x ∷ columns) [] place c at fit = absurd cc
value_at (x ∷ columns) (v ∷ row) zero c at fit =
    let same : x ≡ c = same_Some _ _ at in
    (v, refl, rw (← same) (and-left _ _ fit))
value_at (x ∷ columns) (v ∷ row) (suc place) c at fit = value_at columns row place c at (and-right _ _ fit)

-- the part of a row at these places fits the columns that are taken there
part_fits_each : (columns output : List Column) (from : List ℕ) (row : List Value) → AllZip (IsTaken columns) from output → fits columns row ≡ true
    → fits output (part row from) ≡ true
part_fits_each columns [] [] row taken fit = refl
part_fits_each columns [] (p ∷ from) row taken fit = absurd taken
part_fits_each columns (c ∷ output) [] row taken fit = absurd taken
part_fits_each columns (c ∷ output) (p ∷ from) row taken fit =
    let one = taken.0 in
    let is = value_at columns row p one.of one.at fit in
    let fine : is_of c.kind c.nullable is.0 ≡ true = rw (one.kind, one.nullable) is.2 in
    let others = part_fits_each columns output from row taken.1 fit in
    rw (is.1, fine) others

pub part_fits : (columns output : List Column) (from : List ℕ) (row : List Value) → Takes columns from output → Fits columns row
    → Fits output (part row from)
part_fits columns output from row takes fit = part_fits_each columns output from row takes.each fit

-- a row that fits has the places that are taken
pub places_within : (columns output : List Column) (from : List ℕ) (row : List Value) → Takes columns from output → Fits columns row
    → All (λ place. place < length row) from
places_within columns output from row takes fit =
    All-weaker (λ place. place < length columns) (λ place. place < length row)
    (λ place small. rw (← fits-length columns row fit) small) from takes.within

-- one value more of a part
pub part_more : (row : List Value) (from : List ℕ) (i : ℕ) (v : Value) → i < length from → slice_get row (get_or from i 0) ≡ Some v
    → part row (take (i + 1) from) ≡ part row (take i from) ++ v ∷ []
part_more row from i v small there =
    let one : filter_map (slice_get row) (get_or from i 0 ∷ []) ≡ v ∷ [] = rw there refl in
    rw (take_more from i 0 small, filter_map-append, one) refl

-- it stands between those before it and those behind it
part_around : (row : List Value) (from : List ℕ) (i : ℕ) (v : Value) → i < length from → slice_get row (get_or from i 0) ≡ Some v
    → part row from ≡ part row (take i from) ++ v ∷ part row (drop (i + 1) from)
part_around row from i v small there =
    ap (part row) (sym (take-append-drop i from) ∙ ap (λ ps. take i from ++ ps) (drop_more from i 0 small))
    ∙ filter_map-append (slice_get row) (take i from) (get_or from i 0 ∷ drop (i + 1) from)
    ∙ ap (λ found. part row (take i from) ++ cons_option found (part row (drop (i + 1) from))) there

-- in a row that fits, a value is of the column behind those of the values before it
fits_behind : (columns : List Column) (front rest : List Value) (v : Value) → fits columns (front ++ v ∷ rest) ≡ true
    → (c : Column) × (slice_get columns (length front) ≡ Some c) × (is_of c.kind c.nullable v ≡ true)
fits_behind [] [] rest v fit = absurd cc
fits_behind [] (x ∷ front) rest v fit = absurd cc
fits_behind (c ∷ columns) [] rest v fit = (c, refl, and-left _ _ fit)
fits_behind (c ∷ columns) (x ∷ front) rest v fit = fits_behind columns front rest v (and-right _ _ fit)

-- so is the next value of a part that fits
pub next_fits : (columns : List Column) (row : List Value) (from : List ℕ) (i : ℕ) (v : Value) → Fits columns (part row from)
    → i < length from → slice_get row (get_or from i 0) ≡ Some v
    → (c : Column) × (slice_get columns (length (part row (take i from))) ≡ Some c) × (is_of c.kind c.nullable v ≡ true)
next_fits columns row from i v fit small there =
    fits_behind columns (part row (take i from)) (part row (drop (i + 1) from)) v
    (subst (Fits columns) (part_around row from i v small there) fit)
