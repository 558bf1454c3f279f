-- The value of an expression may stand in a column of the kind that it has.
use Rattle.std.proofs.Common.{◌≡◌, ℕ, zero, suc, pos, ◌+◌, ◌-◌, ◌+ℤ◌, ◌-ℤ◌, ◌*ℤ◌, max, ◌<◌, length, List, [], ◌∷◌, Bool, true, false, cond, ltb, bytes_eq, Option, Some, None, option_and_then, Ok, All, find, slice_get, position, refl, sym, ap, subst, ◌∙◌, lit<, arith}
use Rattle.std.specs.Prelude.{unsigned_abs}
use Rattle.std.specs.List.{position_or_len}
use Rattle.std.proofs.lemmas.Bool.{lt-ltb, and_parts, and_from, false≢true}
use Rattle.std.proofs.lemmas.List.Elements.{All-head, All-tail, All-nil, All-cons}
use Rattle.std.proofs.lemmas.List.Folds.{find_at}
use Rattle.tuple_schema.specs.declared.value.Value.{Value}
use Rattle.tuple_schema.specs.declared.value.Value.TheVariants as value
use Rattle.tuple_schema.specs.declared.schema.Column.{Column}
use Rattle.tuple_schema.specs.declared.schema.ColumnKind.{ColumnKind}
use Rattle.tuple_schema.specs.declared.schema.ColumnKind.TheVariants as kind
use Rattle.tuple_schema.specs.Schemas.{HasScale, is_of, fits}
use Rattle.expr_grammar.specs.declared.expr.Operator.{Operator}
use Rattle.expr_grammar.specs.declared.expr.Operator.TheVariants as op
use Rattle.expr_lang.specs.Trees.{Tree, number, text, column, joined, denied, negated, is_null, is_not_null, absolute, length_of, rescaled, coalesced, chosen}
use Rattle.expr_lang.specs.Kinds.{number_kind, operator_kind, truth_kind, same_number, null_test, length_kind, number_with, one_kind, choice_kind, column_kind, both_kinds, kind_of, kind_unless, typing, is_unknown, columns_in}
use Rattle.expr_lang.specs.Values.{Meaning, nothing, units, bytes, truly, times_ten, meaning_in, meaning_if, meaning_at, truth_in, joined_by, plus, minus, times, over, opposite_number, size, byte_count, with_places, first_of, choice, decided, both, either, opposite, is_nothing, is_something, tested, asks, ordering, meaning, value_in, value_of, truth_of}
use Rattle.expr_lang.specs.Fits.{IsWithin, LeavesFit, IsTyped, ValueFits}
use Rattle.expr_lang.specs.declared.kind.ExprKind.{ExprKind}
use Rattle.expr_lang.specs.declared.kind.ExprKind.TheVariants as sort
use Rattle.expr_lang.proofs.Units.{inside}
use Rattle.expr_lang.proofs.ValueKinds.{HasValue, Has, some_gives, none_gives, number_units, arithmetic_has, over_made, same_has, scale_has, literal_by, truths_has, comparison_has, denied_has, null_has, texts_has, length_has, coalesced_has, choice_has}

-- columns

column_value : (k : ColumnKind) (n : Bool) (v : Value) → HasScale k → is_of k n v ≡ true → IsWithin v → HasValue (meaning_in k v) k n
column_value kind.Int n value.Null scale h w = h
column_value (kind.Dec p) n value.Null scale h w = h
column_value kind.Text n value.Null scale h w = h
column_value kind.Int n (value.Int z) scale h w =
    subst (λ m. HasValue m kind.Int n) (sym (inside z 0 w (omega arith))) (refl, w, omega arith)
column_value kind.Int n (value.Dec z) scale h w = absurd (false≢true h)
column_value kind.Int n (value.Text t) scale h w = absurd (false≢true h)
column_value (kind.Dec p) n (value.Int z) scale h w = absurd (false≢true h)
column_value (kind.Dec p) n (value.Dec z) scale h w =
    subst (λ m. HasValue m (kind.Dec p) n) (sym (inside z p w scale.1)) (refl, w, scale.1)
column_value (kind.Dec p) n (value.Text t) scale h w = absurd (false≢true h)
column_value kind.Text n (value.Int z) scale h w = absurd (false≢true h)
column_value kind.Text n (value.Dec z) scale h w = absurd (false≢true h)
column_value kind.Text n (value.Text t) scale h w = (refl, w)

-- the column at a place has its value
place_value : (cs : List Column) (vs : List Value) (i : ℕ) (c : Column) → All (λ c. HasScale c.kind) cs → fits cs vs ≡ true
    → All IsWithin vs → slice_get cs i ≡ Some c
    → HasScale c.kind × HasValue (meaning_if (Some c) (slice_get vs i)) c.kind c.nullable
place_value [] vs i c scaled h w is = none_gives (λ c. HasScale c.kind × HasValue (meaning_if (Some c) (slice_get vs i)) c.kind c.nullable) c is
place_value (b ∷ cs) [] i c scaled h w is = absurd (false≢true h)
place_value (b ∷ cs) (v ∷ vs) zero c scaled h w is =
    let both = and_parts (is_of b.kind b.nullable v) (fits cs vs) h in
    some_gives (λ c. HasScale c.kind × HasValue (meaning_if (Some c) (Some v)) c.kind c.nullable) b c is (
      All-head (λ c. HasScale c.kind) b cs scaled,
      column_value b.kind b.nullable v (All-head (λ c. HasScale c.kind) b cs scaled) both.0 (All-head IsWithin v vs w),
    )
place_value (b ∷ cs) (v ∷ vs) (suc i) c scaled h w is =
    let both = and_parts (is_of b.kind b.nullable v) (fits cs vs) h in
    place_value cs vs i c (All-tail (λ c. HasScale c.kind) b cs scaled) both.1 (All-tail IsWithin v vs w) is

within_list : {A : Type 0} (xs : List A) (i : ℕ) (x : A) → slice_get xs i ≡ Some x → i < length xs
within_list [] i x is = none_gives (λ x. i < 0) x is
within_list (y ∷ xs) zero x is = omega arith
within_list (y ∷ xs) (suc i) x is = let h = within_list xs i x is in omega (arith, h)

module _ (cs : List Column) (vs : List Value) (scaled : All (λ c. HasScale c.kind) cs) (fit : fits cs vs ≡ true)
    (short : All IsWithin vs)
  where
    named_by : (p : Column → Bool) (s : ExprKind) (i : ℕ) (o : Option Column) → slice_get cs i ≡ o → column_kind o ≡ Some s
        → Has s (meaning_at cs vs (cond (ltb i (length cs)) (Some i) None))
    named_by p s i None is e = none_gives (λ s. Has s (meaning_at cs vs (cond (ltb i (length cs)) (Some i) None))) s e
    named_by p s i (Some c) is e =
        let inside : i < length cs = within_list cs i c is in
        let found = place_value cs vs i c scaled fit short is in
        some_gives (λ s. Has s (meaning_at cs vs (cond (ltb i (length cs)) (Some i) None))) (sort.Value c.kind c.nullable) s e
        (rw (lt-ltb i (length cs) inside, is) found)

    named : (p : Column → Bool) (s : ExprKind) → column_kind (find p cs) ≡ Some s → Has s (meaning_at cs vs (position p cs))
    named p s e = named_by p s (position_or_len p cs) (find p cs) (sym (find_at p cs)) e

    operator_has : (o : Operator) (a b s : ExprKind) (x y : Meaning) → Has a x → Has b y → operator_kind o a b ≡ Some s
        → Has s (joined_by o x y)
    operator_has op.Or a b s x y h i e = truths_has a b s (either (truth_in x) (truth_in y)) e
    operator_has op.And a b s x y h i e = truths_has a b s (both (truth_in x) (truth_in y)) e
    operator_has op.Equal a b s x y h i e = comparison_has a b s (tested (asks op.Equal) (ordering x y)) e
    operator_has op.NotEqual a b s x y h i e = comparison_has a b s (tested (asks op.NotEqual) (ordering x y)) e
    operator_has op.Less a b s x y h i e = comparison_has a b s (tested (asks op.Less) (ordering x y)) e
    operator_has op.LessOrEqual a b s x y h i e = comparison_has a b s (tested (asks op.LessOrEqual) (ordering x y)) e
    operator_has op.Greater a b s x y h i e = comparison_has a b s (tested (asks op.Greater) (ordering x y)) e
    operator_has op.GreaterOrEqual a b s x y h i e = comparison_has a b s (tested (asks op.GreaterOrEqual) (ordering x y)) e
    operator_has op.Plus a b s x y h i e =
        arithmetic_has max plus
        (λ x p y q. number_units (max p q) (times_ten x (max p q - p) +ℤ times_ten y (max p q - q)))
        (λ y. refl) (λ x p. refl) a b s x y h i e
    operator_has op.Minus a b s x y h i e =
        arithmetic_has max minus
        (λ x p y q. number_units (max p q) (times_ten x (max p q - p) -ℤ times_ten y (max p q - q)))
        (λ y. refl) (λ x p. refl) a b s x y h i e
    operator_has op.Join a b s x y h i e = texts_has a b s x y h i e
    operator_has op.Times a b s x y h i e =
        arithmetic_has ◌+◌ times (λ x p y q. number_units (p + q) (x *ℤ y)) (λ y. refl) (λ x p. refl) a b s x y h i e
    operator_has op.Over a b s x y h i e =
        arithmetic_has (λ p q. p) over over_made (λ y. refl) (λ x p. refl) a b s x y h i e

    two_have : (g : ExprKind → ExprKind → Option ExprKind) (m : Meaning) (a b : Option ExprKind) (P Q : ExprKind → Type 0)
        → ((s : ExprKind) → a ≡ Some s → P s) → ((s : ExprKind) → b ≡ Some s → Q s)
        → ((a b s : ExprKind) → P a → Q b → g a b ≡ Some s → Has s m)
        → (s : ExprKind) → both_kinds g a b ≡ Some s → Has s m
    two_have g m None None P Q h i t s e = none_gives (λ s. Has s m) s e
    two_have g m None (Some b) P Q h i t s e = none_gives (λ s. Has s m) s e
    two_have g m (Some a) None P Q h i t s e = none_gives (λ s. Has s m) s e
    two_have g m (Some a) (Some b) P Q h i t s e = t a b s (h a refl) (i b refl) e

    one_has : (g : ExprKind → Option ExprKind) (m : Meaning) (a : Option ExprKind) (P : ExprKind → Type 0)
        → ((s : ExprKind) → a ≡ Some s → P s) → ((a s : ExprKind) → P a → g a ≡ Some s → Has s m)
        → (s : ExprKind) → option_and_then g a ≡ Some s → Has s m
    one_has g m None P h t s e = none_gives (λ s. Has s m) s e
    one_has g m (Some a) P h t s e = t a s (h a refl) e

    has : (x : Tree) → LeavesFit x → (s : ExprKind) → kind_of cs x ≡ Some s → Has s (meaning cs vs x)
    has (number z p) leaf s e = literal_by z p s leaf (number_kind p) refl e
    has (text t) leaf s e = some_gives (λ s. Has s (bytes t)) (sort.Value kind.Text false) s e (tt, (refl, leaf))
    has (column name) leaf s e = named (λ c. bytes_eq c.name name) s e
    has (joined o a b) leaf s e =
        let x = meaning cs vs a in
        let y = meaning cs vs b in
        two_have (operator_kind o) (joined_by o x y) (kind_of cs a) (kind_of cs b) (λ s. Has s x) (λ s. Has s y)
        (has a leaf.0) (has b leaf.1) (λ j k s h i e. operator_has o j k s x y h i e) s e
    has (denied a) leaf s e =
        let t = opposite (truth_in (meaning cs vs a)) in
        one_has truth_kind (truly t) (kind_of cs a) (λ s. Has s (meaning cs vs a)) (has a leaf) (λ j s h e. denied_has j s t e) s e
    has (negated a) leaf s e =
        let x = meaning cs vs a in
        one_has same_number (opposite_number x) (kind_of cs a) (λ s. Has s x) (has a leaf)
        (λ j s h e. same_has opposite_number (λ z p. number_units p (pos 0 -ℤ z)) refl j s x h e) s e
    has (is_null a) leaf s e =
        let t = decided (is_nothing (meaning cs vs a)) in
        one_has null_test (truly t) (kind_of cs a) (λ s. Has s (meaning cs vs a)) (has a leaf) (λ j s h e. null_has j s t e) s e
    has (is_not_null a) leaf s e =
        let t = decided (is_something (meaning cs vs a)) in
        one_has null_test (truly t) (kind_of cs a) (λ s. Has s (meaning cs vs a)) (has a leaf) (λ j s h e. null_has j s t e) s e
    has (absolute a) leaf s e =
        let x = meaning cs vs a in
        one_has same_number (size x) (kind_of cs a) (λ s. Has s x) (has a leaf)
        (λ j s h e. same_has size (λ z p. number_units p (pos (unsigned_abs z))) refl j s x h e) s e
    has (length_of a) leaf s e =
        let x = meaning cs vs a in
        one_has length_kind (byte_count x) (kind_of cs a) (λ s. Has s x) (has a leaf) (λ j s h e. length_has j s x h e) s e
    has (rescaled a k) leaf s e =
        let x = meaning cs vs a in
        one_has (number_with k) (with_places k x) (kind_of cs a) (λ s. Has s x) (has a leaf) (λ j s h e. scale_has k j s x h e) s e
    has (coalesced a b) leaf s e =
        let x = meaning cs vs a in
        let y = meaning cs vs b in
        two_have (one_kind (λ n m. m)) (first_of x y) (kind_of cs a) (kind_of cs b) (λ s. Has s x) (λ s. Has s y)
        (has a leaf.0) (has b leaf.1) (λ j k s h i e. coalesced_has j k s x y h i e) s e
    has (chosen c a b) leaf s e =
        let t = truth_in (meaning cs vs c) in
        let x = meaning cs vs a in
        let y = meaning cs vs b in
        one_has (λ t. both_kinds (choice_kind t) (kind_of cs a) (kind_of cs b)) (choice t x y) (kind_of cs c) (λ s. Unit {0})
        (λ s e. tt)
        (λ d s h e. two_have (choice_kind d) (choice t x y) (kind_of cs a) (kind_of cs b) (λ s. Has s x) (λ s. Has s y)
        (has a leaf.1) (has b leaf.2) (λ j k s h i e. choice_has d j k s t x y h i e) s e) s e

-- what is found is the kind
found_by : (o : Option (List ℕ)) (k : Option ExprKind) (s : ExprKind) → kind_unless o k ≡ Ok s → k ≡ Some s
found_by None None s e = absurd cc
found_by None (Some k) s e = let same : k ≡ s = cc in ap Some same
found_by (Some name) k s e = absurd cc

typed_kind : (cs : List Column) (x : Tree) (s : ExprKind) → typing cs x ≡ Ok s → kind_of cs x ≡ Some s
typed_kind cs x s e = found_by (find (is_unknown cs) (columns_in x)) (kind_of cs x) s e

typed_has : (cs : List Column) (vs : List Value) (x : Tree) (s : ExprKind) → IsTyped cs vs x s → Has s (meaning cs vs x)
typed_has cs vs x s is = has cs vs is.scaled is.fits is.within x is.leaves s (typed_kind cs x s is.typed)

-- the value of a meaning of the kind

value_kind : (m : Meaning) (k : ColumnKind) (n : Bool) → HasScale k → HasValue m k n
    → ValueFits k n (value_in m) × (meaning_in k (value_in m) ≡ m)
value_kind nothing kind.Int n scale h = (record { fits = h; within = tt }, refl)
value_kind nothing (kind.Dec p) n scale h = (record { fits = h; within = tt }, refl)
value_kind nothing kind.Text n scale h = (record { fits = h; within = tt }, refl)
value_kind (units z zero) kind.Int n scale h = (record { fits = refl; within = h.1 }, inside z 0 h.1 (omega arith))
value_kind (units z (suc p)) kind.Int n scale h = absurd (let same : 0 ≡ suc p = (let places = h.0 in cc) in omega (arith, same))
value_kind (units z zero) (kind.Dec q) n scale h =
    absurd (let same : q ≡ 0 = (let places = h.0 in cc) in let some = scale.0 in omega (arith, same, some))
value_kind (units z (suc p)) (kind.Dec q) n scale h =
    let same : q ≡ suc p = (let places = h.0 in cc) in
    (record { fits = refl; within = h.1 }, inside z q h.1 scale.1 ∙ ap (units z) same)
value_kind (units z zero) kind.Text n scale h = none_gives (λ p. ValueFits kind.Text n (value.Int z) × (nothing ≡ units z 0)) 0 h.0
value_kind (units z (suc p)) kind.Text n scale h = none_gives (λ q. ValueFits kind.Text n (value.Dec z) × (nothing ≡ units z (suc p))) (suc p) h.0
value_kind (bytes t) kind.Int n scale h = absurd (let same = h.0 in cc)
value_kind (bytes t) (kind.Dec p) n scale h = absurd (let same = h.0 in cc)
value_kind (bytes t) kind.Text n scale h = (record { fits = refl; within = h.1 }, refl)
value_kind (truly t) k n scale h = absurd h

pub values_fit : (columns : List Column) (row : List Value) (x : Tree) (k : ColumnKind) (nullable : Bool)
    → IsTyped columns row x (sort.Value k nullable) → ValueFits k nullable (value_of columns row x)
values_fit columns row x k nullable is =
    let h = typed_has columns row x (sort.Value k nullable) is in
    (value_kind (meaning columns row x) k nullable h.0 h.1).0

pub values_mean : (columns : List Column) (row : List Value) (x : Tree) (k : ColumnKind) (nullable : Bool)
    → IsTyped columns row x (sort.Value k nullable) → meaning_in k (value_of columns row x) ≡ meaning columns row x
values_mean columns row x k nullable is =
    let h = typed_has columns row x (sort.Value k nullable) is in
    (value_kind (meaning columns row x) k nullable h.0 h.1).1

pub truths_mean : (columns : List Column) (row : List Value) (x : Tree) → IsTyped columns row x sort.Truth
    → meaning columns row x ≡ truly (truth_of columns row x)
truths_mean columns row x is = typed_has columns row x sort.Truth is

-- some row fits the columns, so the kind has its scale whatever the rows are

abbrev filler : ColumnKind → Value
filler kind.Int = value.Int (pos 0)
filler (kind.Dec p) = value.Dec (pos 0)
filler kind.Text = value.Text []

abbrev fillers : List Column → List Value
fillers [] = []
fillers (c ∷ cs) = filler c.kind ∷ fillers cs

filler_fits : (k : ColumnKind) (n : Bool) → is_of k n (filler k) ≡ true
filler_fits kind.Int n = refl
filler_fits (kind.Dec p) n = refl
filler_fits kind.Text n = refl

filler_within : (k : ColumnKind) → IsWithin (filler k)
filler_within kind.Int = record { sfits = lit< tt }
filler_within (kind.Dec p) = record { sfits = lit< tt }
filler_within kind.Text = omega arith

fillers_fit : (cs : List Column) → fits cs (fillers cs) ≡ true
fillers_fit [] = refl
fillers_fit (c ∷ cs) =
    and_from (is_of c.kind c.nullable (filler c.kind)) (fits cs (fillers cs)) (filler_fits c.kind c.nullable) (fillers_fit cs)

fillers_within : (cs : List Column) → All IsWithin (fillers cs)
fillers_within [] = All-nil IsWithin
fillers_within (c ∷ cs) = All-cons IsWithin (filler c.kind) (fillers cs) (filler_within c.kind) (fillers_within cs)

pub kind_scaled : (columns : List Column) (x : Tree) (k : ColumnKind) (nullable : Bool) → All (λ c. HasScale c.kind) columns
    → LeavesFit x → typing columns x ≡ Ok (sort.Value k nullable) → HasScale k
kind_scaled columns x k nullable scaled leaves typed =
    (typed_has columns (fillers columns) x (sort.Value k nullable) (record {
      scaled = scaled;
      fits = fillers_fit columns;
      within = fillers_within columns;
      leaves = leaves;
      typed = typed;
    })).0
