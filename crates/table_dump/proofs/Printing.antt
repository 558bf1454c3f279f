-- Printing the fields of a row one after the other.
use Rattle.std.proofs.Common.{◌≡◌, ◌≤◌, ◌+◌, ◌&&◌, ℕ, zero, suc, List, [], ◌∷◌, ◌++◌, length, take, Bool, true, false, Some, IsTrue, add-one, refl, subst, ap, ◌∙◌, arith}
use Rattle.std.specs.Prelude.{slice_get}
use Rattle.tuple_schema.specs.declared.value.Value.{Value}
use Rattle.tuple_schema.specs.declared.value.Value.TheVariants as value
use Rattle.tuple_schema.specs.declared.schema.Column.{Column}
use Rattle.tuple_schema.specs.declared.schema.ColumnKind.{ColumnKind}
use Rattle.tuple_schema.specs.declared.schema.ColumnKind.TheVariants as kind
use Rattle.tuple_schema.specs.Schemas.{is_of, fits, Fits}
use Rattle.row_codec.specs.Printing.{field_text}
use Rattle.table_dump.specs.Texts.{printed}

both : (a b : Bool) → IsTrue (a && b) → IsTrue a × IsTrue b
both true true h = (h, h)
both true false h = absurd cc
both false b h = absurd cc

-- a row has as many values as there are columns
pub as_many : (columns : List Column) (row : List Value) → Fits columns row → length row ≡ length columns
as_many [] [] h = refl
as_many [] (v ∷ row) h = absurd cc
as_many (c ∷ columns) [] h = absurd cc
as_many (c ∷ columns) (v ∷ row) h = ap suc (as_many columns row (both (is_of c.kind c.nullable v) (fits columns row) h).1)

if_null : (k : ColumnKind) (nullable : Bool) (v : Value) → IsTrue (is_of k nullable v) → IsTrue (is_of k true v)
if_null kind.Int nullable value.Null h = refl
if_null kind.Int nullable (value.Int n) h = refl
if_null kind.Int nullable (value.Dec n) h = absurd cc
if_null kind.Int nullable (value.Text t) h = absurd cc
if_null (kind.Dec s) nullable value.Null h = refl
if_null (kind.Dec s) nullable (value.Int n) h = absurd cc
if_null (kind.Dec s) nullable (value.Dec n) h = refl
if_null (kind.Dec s) nullable (value.Text t) h = absurd cc
if_null kind.Text nullable value.Null h = refl
if_null kind.Text nullable (value.Int n) h = absurd cc
if_null kind.Text nullable (value.Dec n) h = absurd cc
if_null kind.Text nullable (value.Text t) h = refl

-- the value at a place is of the kind of the column there, or Null
pub of_kind : (columns : List Column) (row : List Value) (i : ℕ) (c : Column) (v : Value) → Fits columns row → slice_get columns i ≡ Some c → slice_get row i ≡ Some v → IsTrue (is_of c.kind true v)
of_kind [] row i c v h at_c at_v = absurd cc
of_kind (c ∷ columns) [] i d v h at_c at_v = absurd cc
of_kind (c ∷ columns) (w ∷ row) zero d v h at_c at_v =
    let own = if_null c.kind c.nullable w (both (is_of c.kind c.nullable w) (fits columns row) h).0 in
    let is_c : c ≡ d = cc in
    let is_v : w ≡ v = cc in
    subst (λ (x : Column). IsTrue (is_of x.kind true v)) is_c (subst (λ (x : Value). IsTrue (is_of c.kind true x)) is_v own)
of_kind (c ∷ columns) (w ∷ row) (suc i) d v h at_c at_v =
    of_kind columns row i d v (both (is_of c.kind c.nullable w) (fits columns row) h).1 at_c at_v

-- one field more
more : (columns : List Column) (row : List Value) (i : ℕ) (c : Column) (v : Value) → slice_get columns i ≡ Some c → slice_get row i ≡ Some v
    → take (suc i) (printed columns row) ≡ take i (printed columns row) ++ field_text c.kind v ∷ []
unfolding printed
more [] row i c v at_c at_v = absurd cc
more (c ∷ columns) [] i d v at_c at_v = absurd cc
more (c ∷ columns) (w ∷ row) zero d v at_c at_v =
    let is_c : c ≡ d = cc in
    let is_v : w ≡ v = cc in
    λ j. field_text (is_c j).kind (is_v j) ∷ []
more (c ∷ columns) (w ∷ row) (suc i) d v at_c at_v =
    ap (λ (l : List (List ℕ)). field_text c.kind w ∷ l) (more columns row i d v at_c at_v)

pub printed_more : (columns : List Column) (row : List Value) (i : ℕ) (c : Column) (v : Value) → slice_get columns i ≡ Some c → slice_get row i ≡ Some v
    → take (i + 1) (printed columns row) ≡ take i (printed columns row) ++ field_text c.kind v ∷ []
printed_more columns row i c v at_c at_v =
    ap (λ (n : ℕ). take n (printed columns row)) (add-one i) ∙ more columns row i c v at_c at_v

-- all fields
pub printed_end : (columns : List Column) (row : List Value) (i : ℕ) → length columns ≤ i → take i (printed columns row) ≡ printed columns row
unfolding printed
printed_end [] row zero le = refl
printed_end [] row (suc i) le = refl
printed_end (c ∷ columns) [] zero le = refl
printed_end (c ∷ columns) [] (suc i) le = refl
printed_end (c ∷ columns) (v ∷ row) zero le = absurd (omega (arith, le))
printed_end (c ∷ columns) (v ∷ row) (suc i) le = ap (λ (l : List (List ℕ)). field_text c.kind v ∷ l) (printed_end columns row i (omega (arith, le)))
