-- Which expressions have a kind over the columns of a schema, and which.
use Rattle.std.specs.Prelude.{ℕ, zero, ◌+◌, max, nat_le, List, [], ◌∷◌, ◌++◌, find, bytes_eq, Bool, true, false, not, ◌||◌, ◌==◌, if◌then◌else◌, Option, Some, None, option_and_then, option_map, Result, Ok, Err}
use Rattle.std.specs.List.{list_any}
use Rattle.tuple_schema.specs.declared.schema.Column.{Column}
use Rattle.tuple_schema.specs.declared.schema.ColumnKind.{ColumnKind}
use Rattle.tuple_schema.specs.declared.schema.ColumnKind.TheVariants as kind
use Rattle.expr_grammar.specs.declared.expr.Operator.{Operator}
use Rattle.expr_grammar.specs.declared.expr.Operator.TheVariants as op
use Rattle.expr_lang.specs.Trees.{Tree, number, text, column, joined, denied, negated, is_null, is_not_null, absolute, length_of, rescaled, coalesced, chosen}
use Rattle.expr_lang.specs.declared.kind.ExprKind.{ExprKind}
use Rattle.expr_lang.specs.declared.kind.ExprKind.TheVariants as sort
use Rattle.expr_lang.specs.declared.kind.TypeFault.{TypeFault}
use Rattle.expr_lang.specs.declared.kind.TypeFault.TheVariants as fault

-- the columns that an expression names, in the order of its text
abbrev pub columns_in : Tree → List (List ℕ)
columns_in (column name) = name ∷ []
columns_in (joined o a b) = columns_in a ++ columns_in b
columns_in (denied a) = columns_in a
columns_in (negated a) = columns_in a
columns_in (is_null a) = columns_in a
columns_in (is_not_null a) = columns_in a
columns_in (absolute a) = columns_in a
columns_in (length_of a) = columns_in a
columns_in (rescaled a k) = columns_in a
columns_in (coalesced a b) = columns_in a ++ columns_in b
columns_in (chosen c a b) = columns_in c ++ columns_in a ++ columns_in b
columns_in _ = []

-- the schema has no column of this name
abbrev pub is_unknown : List Column → List ℕ → Bool
is_unknown columns name = not (list_any (λ c. bytes_eq c.name name) columns)

-- the kind of a number of so many places
abbrev pub number_kind : ℕ → Option ColumnKind
number_kind zero = Some kind.Int
number_kind places = if nat_le places 6 then Some (kind.Dec places) else None

-- the places of a kind of numbers
abbrev pub places_of : ColumnKind → Option ℕ
places_of kind.Int = Some 0
places_of (kind.Dec places) = Some places
places_of kind.Text = None

-- a value that may be Null
abbrev pub nullable_value : ColumnKind → ExprKind
nullable_value k = sort.Value k true

abbrev pub as_number : Option ℕ → Option ExprKind
as_number places = option_map nullable_value (option_and_then number_kind places)

abbrev pub places_by : (ℕ → ℕ → ℕ) → Option ℕ → Option ℕ → Option ℕ
places_by f (Some p) (Some q) = Some (f p q)
places_by f _ _ = None

-- two numbers, whose result has its places by theirs
abbrev pub arithmetic : (ℕ → ℕ → ℕ) → ExprKind → ExprKind → Option ExprKind
arithmetic f (sort.Value k n) (sort.Value l m) = as_number (places_by f (places_of k) (places_of l))
arithmetic f _ _ = None

-- two numbers of any places, or two texts
abbrev pub are_comparable : ColumnKind → ColumnKind → Bool
are_comparable kind.Text kind.Text = true
are_comparable kind.Text l = false
are_comparable k kind.Text = false
are_comparable k l = true

abbrev pub comparison : ExprKind → ExprKind → Option ExprKind
comparison (sort.Value k n) (sort.Value l m) = if are_comparable k l then Some sort.Truth else None
comparison _ _ = None

abbrev pub truths : ExprKind → ExprKind → Option ExprKind
truths sort.Truth sort.Truth = Some sort.Truth
truths _ _ = None

abbrev pub texts : ExprKind → ExprKind → Option ExprKind
texts (sort.Value kind.Text n) (sort.Value kind.Text m) = Some (nullable_value kind.Text)
texts _ _ = None

-- the kind of two parts with an operator between them
abbrev pub operator_kind : Operator → ExprKind → ExprKind → Option ExprKind
operator_kind op.Or x y = truths x y
operator_kind op.And x y = truths x y
operator_kind op.Equal x y = comparison x y
operator_kind op.NotEqual x y = comparison x y
operator_kind op.Less x y = comparison x y
operator_kind op.LessOrEqual x y = comparison x y
operator_kind op.Greater x y = comparison x y
operator_kind op.GreaterOrEqual x y = comparison x y
operator_kind op.Plus x y = arithmetic max x y
operator_kind op.Minus x y = arithmetic max x y
operator_kind op.Join x y = texts x y
operator_kind op.Times x y = arithmetic ◌+◌ x y
operator_kind op.Over x y = arithmetic (λ p q. p) x y

-- a truth
abbrev pub truth_kind : ExprKind → Option ExprKind
truth_kind sort.Truth = Some sort.Truth
truth_kind _ = None

-- a number, with its places
abbrev pub same_number : ExprKind → Option ExprKind
same_number (sort.Value k n) = as_number (places_of k)
same_number _ = None

-- any value, of which is asked whether it is Null
abbrev pub null_test : ExprKind → Option ExprKind
null_test (sort.Value k n) = Some sort.Truth
null_test _ = None

-- a text's length is a whole number, Null where the text is
abbrev pub length_kind : ExprKind → Option ExprKind
length_kind (sort.Value kind.Text n) = Some (sort.Value kind.Int n)
length_kind _ = None

-- a number, with k places
abbrev pub number_with : ℕ → ExprKind → Option ExprKind
number_with k (sort.Value l n) = as_number (places_by (λ p q. q) (places_of l) (Some k))
number_with k _ = None

abbrev pub is_same_kind : ColumnKind → ColumnKind → Bool
is_same_kind kind.Int kind.Int = true
is_same_kind (kind.Dec p) (kind.Dec q) = p == q
is_same_kind kind.Text kind.Text = true
is_same_kind _ _ = false

-- two values of one kind, nullable as the test says of them
abbrev pub one_kind : (Bool → Bool → Bool) → ExprKind → ExprKind → Option ExprKind
one_kind f (sort.Value k n) (sort.Value l m) = if is_same_kind k l then Some (sort.Value k (f n m)) else None
one_kind f _ _ = None

-- a truth, and two values of one kind
abbrev pub choice_kind : ExprKind → ExprKind → ExprKind → Option ExprKind
choice_kind sort.Truth x y = one_kind ◌||◌ x y
choice_kind _ x y = None

abbrev pub column_kind : Option Column → Option ExprKind
column_kind None = None
column_kind (Some c) = Some (sort.Value c.kind c.nullable)

abbrev pub both_kinds : (ExprKind → ExprKind → Option ExprKind) → Option ExprKind → Option ExprKind → Option ExprKind
both_kinds f (Some x) (Some y) = f x y
both_kinds f _ _ = None

-- the kind of an expression, if it has one
abbrev pub kind_of : List Column → Tree → Option ExprKind
kind_of columns (number z places) = option_map (λ k. sort.Value k false) (number_kind places)
kind_of columns (text t) = Some (sort.Value kind.Text false)
kind_of columns (column name) = column_kind (find (λ c. bytes_eq c.name name) columns)
kind_of columns (joined o a b) = both_kinds (operator_kind o) (kind_of columns a) (kind_of columns b)
kind_of columns (denied a) = option_and_then truth_kind (kind_of columns a)
kind_of columns (negated a) = option_and_then same_number (kind_of columns a)
kind_of columns (is_null a) = option_and_then null_test (kind_of columns a)
kind_of columns (is_not_null a) = option_and_then null_test (kind_of columns a)
kind_of columns (absolute a) = option_and_then same_number (kind_of columns a)
kind_of columns (length_of a) = option_and_then length_kind (kind_of columns a)
kind_of columns (rescaled a k) = option_and_then (number_with k) (kind_of columns a)
kind_of columns (coalesced a b) = both_kinds (one_kind (λ n m. m)) (kind_of columns a) (kind_of columns b)
kind_of columns (chosen c a b) = option_and_then (λ t. both_kinds (choice_kind t) (kind_of columns a)
    (kind_of columns b)) (kind_of columns c)

-- the kind, or what is wrong: first of all the first unknown column in the text
abbrev pub kind_unless : Option (List ℕ) → Option ExprKind → Result ExprKind TypeFault
kind_unless (Some name) k = Err (fault.UnknownColumn name)
kind_unless None None = Err fault.WrongKinds
kind_unless None (Some k) = Ok k

abbrev pub typing : List Column → Tree → Result ExprKind TypeFault
typing columns x = kind_unless (find (is_unknown columns) (columns_in x)) (kind_of columns x)
