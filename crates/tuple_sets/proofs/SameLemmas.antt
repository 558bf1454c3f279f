-- The tests of values and of tuples decide equality, and the order's Equal is that test.
use Rattle.std.proofs.Common.{◌≡◌, true, false, List, refl, ap, ◌∙◌, subst}
use Rattle.std.specs.Bool.{Decides}
use Rattle.std.specs.Cmp.{IsTotalOrder, tied_back}
use Rattle.std.specs.Cmp.Lexicographic.{lists_ties, lists_total}
use Rattle.std.specs.Ordering.{is_eq, ordering_reverse}
use Rattle.std.specs.declared.cmp.Ordering.TheVariants.{Less, Equal, Greater}
use Rattle.std.proofs.lemmas.Bool.{false≢true}
use Rattle.std.proofs.lemmas.Bool.Decides.{Decides-int_eq}
use Rattle.std.proofs.lemmas.Slice.Eq.{bytes_eq-Decides, slice_eq-Decides}
use Rattle.tuple_schema.specs.declared.value.Value.{Value}
use Rattle.tuple_schema.specs.declared.value.Value.TheVariants as value
use Rattle.tuple_schema.specs.contracts.value.ValueOrd.TheImpl.Laws as value_ord_laws
use Rattle.tuple_sets.specs.Bags.{same_value, same}
use Rattle.tuple_sets.specs.Order.{value_cmp, tuple_cmp}

same_value-equal : (v w : Value) → same_value v w ≡ true → v ≡ w
same_value-equal value.Null value.Null h = refl
same_value-equal (value.Int m) (value.Int n) h = ap value.Int ((Decides-int_eq m n).0 h)
same_value-equal (value.Dec m) (value.Dec n) h = ap value.Dec ((Decides-int_eq m n).0 h)
same_value-equal (value.Text s) (value.Text t) h = ap value.Text ((bytes_eq-Decides s t).0 h)
same_value-equal value.Null (value.Int n) h = absurd (false≢true h)
same_value-equal value.Null (value.Dec n) h = absurd (false≢true h)
same_value-equal value.Null (value.Text t) h = absurd (false≢true h)
same_value-equal (value.Int m) value.Null h = absurd (false≢true h)
same_value-equal (value.Int m) (value.Dec n) h = absurd (false≢true h)
same_value-equal (value.Int m) (value.Text t) h = absurd (false≢true h)
same_value-equal (value.Dec m) value.Null h = absurd (false≢true h)
same_value-equal (value.Dec m) (value.Int n) h = absurd (false≢true h)
same_value-equal (value.Dec m) (value.Text t) h = absurd (false≢true h)
same_value-equal (value.Text s) value.Null h = absurd (false≢true h)
same_value-equal (value.Text s) (value.Int n) h = absurd (false≢true h)
same_value-equal (value.Text s) (value.Dec n) h = absurd (false≢true h)

same_value-itself : (v : Value) → same_value v v ≡ true
same_value-itself value.Null = refl
same_value-itself (value.Int m) = (Decides-int_eq m m).1 refl
same_value-itself (value.Dec m) = (Decides-int_eq m m).1 refl
same_value-itself (value.Text s) = (bytes_eq-Decides s s).1 refl

same_value-Decides : (v w : Value) → Decides (same_value v w) (v ≡ w)
same_value-Decides v w = (same_value-equal v w, λ e. let P : Value → Type 0 = λ u. same_value v u ≡ true in subst P e (same_value-itself v))

pub same-Decides : (x y : List Value) → Decides (same x y) (x ≡ y)
same-Decides x y = slice_eq-Decides same_value-Decides x y (same x y) refl

pub same-equal : (x y : List Value) → same x y ≡ true → x ≡ y
same-equal x y = (same-Decides x y).0

pub same-itself : (x : List Value) → same x x ≡ true
same-itself x = (same-Decides x x).1 refl

pub tuple_cmp-total : IsTotalOrder tuple_cmp
tuple_cmp-total = lists_total value_ord_laws.total-law

-- the order takes for equal what the test takes for equal
same_value-cmp : (v w : Value) → same_value v w ≡ is_eq (value_cmp v w)
same_value-cmp value.Null value.Null = refl
same_value-cmp (value.Int m) (value.Int n) = value_ord_laws.matches_eq-law (value.Int m) (value.Int n)
same_value-cmp (value.Dec m) (value.Dec n) = value_ord_laws.matches_eq-law (value.Dec m) (value.Dec n)
same_value-cmp (value.Text s) (value.Text t) = value_ord_laws.matches_eq-law (value.Text s) (value.Text t)
same_value-cmp value.Null (value.Int n) = refl
same_value-cmp value.Null (value.Dec n) = refl
same_value-cmp value.Null (value.Text t) = refl
same_value-cmp (value.Int m) value.Null = refl
same_value-cmp (value.Int m) (value.Dec n) = refl
same_value-cmp (value.Int m) (value.Text t) = refl
same_value-cmp (value.Dec m) value.Null = refl
same_value-cmp (value.Dec m) (value.Int n) = refl
same_value-cmp (value.Dec m) (value.Text t) = refl
same_value-cmp (value.Text s) value.Null = refl
same_value-cmp (value.Text s) (value.Int n) = refl
same_value-cmp (value.Text s) (value.Dec n) = refl

pub same-cmp : (x y : List Value) → same x y ≡ is_eq (tuple_cmp x y)
same-cmp = lists_ties value_cmp same_value-cmp

pub same_where_equal : (x y : List Value) → tuple_cmp x y ≡ Equal → same y x ≡ true
same_where_equal x y h = same-cmp y x ∙ ap is_eq (tied_back tuple_cmp-total x y h)

pub differ_where_less : (x y : List Value) → tuple_cmp x y ≡ Less → same y x ≡ false
differ_where_less x y h = same-cmp y x ∙ ap is_eq (tuple_cmp-total.antisymm y x ∙ ap ordering_reverse h)

pub differ_where_greater : (x y : List Value) → tuple_cmp x y ≡ Greater → same y x ≡ false
differ_where_greater x y h = same-cmp y x ∙ ap is_eq (tuple_cmp-total.antisymm y x ∙ ap ordering_reverse h)
