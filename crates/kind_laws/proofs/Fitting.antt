-- Tuples that fit columns fit others of the same kinds, which may be Null wherever the first ones may.
use Rattle.std.proofs.Common.{◌≡◌, ◌∙◌, ℕ, suc, List, [], ◌∷◌, length, map, Bool, true, false, ◌&&◌, Some, slice_get, get_or, refl, ap, sym, subst, arith}
use Rattle.tuple_schema.specs.declared.value.Value.{Value}
use Rattle.tuple_schema.specs.declared.value.Value.TheVariants as value
use Rattle.tuple_schema.specs.declared.schema.Column.{Column}
use Rattle.tuple_schema.specs.declared.schema.ColumnKind.{ColumnKind}
use Rattle.tuple_schema.specs.declared.schema.ColumnKind.TheVariants as kind
use Rattle.tuple_schema.specs.Schemas.{Fits, fits, is_of}
use Rattle.list_algebra.specs.Bags.{Tuple}
use Rattle.flow_types.specs.United.{AllGoInto, GoesInto, is_nullable}
use Rattle.kind_laws.specs.Fitting.{AllFitInto, FitInto}

-- a value of a kind is of it where Null may stand too
of_wider : (k : ColumnKind) (one other : Bool) (v : Value) → (one ≡ true → other ≡ true) → is_of k one v ≡ true → is_of k other v ≡ true
of_wider k one other value.Null wider h = wider h
of_wider kind.Int one other (value.Int n) wider h = refl
of_wider (kind.Dec scale) one other (value.Dec n) wider h = refl
of_wider kind.Text one other (value.Text text) wider h = refl
of_wider kind.Int one other (value.Dec n) wider h = cc
of_wider kind.Int one other (value.Text text) wider h = cc
of_wider (kind.Dec scale) one other (value.Int n) wider h = cc
of_wider (kind.Dec scale) one other (value.Text text) wider h = cc
of_wider kind.Text one other (value.Int n) wider h = cc
of_wider kind.Text one other (value.Dec n) wider h = cc

both : (a b c d : Bool) → (a ≡ true → c ≡ true) → (b ≡ true → d ≡ true) → (a && b) ≡ true → (c && d) ≡ true
both true true c d left right h = rw (left refl, right refl) refl
both true false c d left right h = absurd cc
both false b c d left right h = absurd cc

same_kind : (k l : ColumnKind) (ks ls : List ColumnKind) → k ∷ ks ≡ l ∷ ls → k ≡ l
same_kind k l ks ls is = cc

same_kinds : (k l : ColumnKind) (ks ls : List ColumnKind) → k ∷ ks ≡ l ∷ ls → ks ≡ ls
same_kinds k l ks ls is = cc

pub fit_into : (input columns : List Column) → map (λ (c : Column). c.kind) input ≡ map (λ (c : Column). c.kind) columns
    → ((place : ℕ) (one other : Column) → slice_get input place ≡ Some one → slice_get columns place ≡ Some other
    → one.nullable ≡ true → other.nullable ≡ true)
    → (t : Tuple) → Fits input t → Fits columns t
fit_into [] [] kinds nulls t fit = fit
fit_into [] (c ∷ columns) kinds nulls t fit = let long = ap length kinds in absurd (omega (arith, long))
fit_into (i ∷ input) [] kinds nulls t fit = let long = ap length kinds in absurd (omega (arith, long))
fit_into (i ∷ input) (c ∷ columns) kinds nulls [] fit = absurd cc
fit_into (i ∷ input) (c ∷ columns) kinds nulls (v ∷ t) fit =
    both (is_of i.kind i.nullable v) (fits input t) (is_of c.kind c.nullable v) (fits columns t)
    (λ h. subst (λ k. is_of k c.nullable v ≡ true) (same_kind _ _ _ _ kinds) (of_wider i.kind i.nullable c.nullable v (nulls 0 i c refl refl) h))
    (λ rest. fit_into input columns (same_kinds _ _ _ _ kinds) (λ place one other at also n. nulls (suc place) one other at also n) t rest) fit

goes_into : (input columns : List Column) → GoesInto input columns → FitInto input columns
goes_into input columns goes t fit =
    fit_into input columns goes.kinds
    (λ place one other at also null. sym (ap is_nullable also) ∙ goes.nulls place (ap is_nullable at ∙ null)) t fit

-- rows of the inputs of a union fit its columns
pub all_fit_into : (inputs : List (List Column)) (columns : List Column) → AllGoInto inputs columns → AllFitInto inputs columns
all_fit_into inputs columns all k d small = goes_into (get_or inputs k d) columns (all k d small)
