-- Columns that are paired, and those of the right input that are not.
use Rattle.std.proofs.Common.{◌≡◌, ℕ, suc, ◌+◌, ◌<◌, ◌≤◌, ◌==◌, List, [], ◌∷◌, ◌++◌, length, map, filter_map, get_or, slice_get, Bool, true, false, not, All, is_some, refl, sym, ap, ◌∙◌, subst, Option, Some, None, Ok, Err, arith}
use Rattle.std.specs.List.{filter, list_all, list_any}
use Rattle.std.proofs.lemmas.Bool.{and_parts, eqb-true}
use Rattle.std.proofs.lemmas.List.{length-append}
use Rattle.std.proofs.lemmas.List.Elements.{All-nil, All-cons, All-append, All-map, filter-append, filter_map-append}
use Rattle.std.proofs.lemmas.Option.{same_Some, slice_get-get_or, slice_get_within}
use Rattle.tuple_schema.specs.declared.memory.Stop.{Stop}
use Rattle.tuple_schema.specs.declared.memory.Stop.TheVariants as stop
use Rattle.tuple_schema.specs.Stops.{Fails}
use Rattle.tuple_schema.specs.declared.schema.Column.{Column}
use Rattle.tuple_schema.specs.declared.schema.ColumnKind.{ColumnKind}
use Rattle.tuple_schema.specs.declared.schema.ColumnKind.TheVariants as kind
use Rattle.tuple_schema.specs.Schemas.{IsSchema, HasScale}
use Rattle.list_algebra.specs.Joins.{below, others}
use Rattle.expr_lang.specs.Kinds.{is_same_kind}
use Rattle.flow_types.specs.declared.fault.SchemaCause.{SchemaCause}
use Rattle.flow_types.specs.declared.fault.SchemaCause.TheVariants as cause
use Rattle.flow_types.specs.declared.paired.Pair.{Pair}
use Rattle.flow_types.specs.Names.{names_in, no_double}
use Rattle.flow_types.specs.Paired.{agree, is_of_one_kind, lefts, rights, paired_again, only_once, pairs_of}
use Rattle.flow_types.specs.Joined.{IsPair, ArePairs, other_columns, as_nullable, join_columns, lookup_columns}
use Rattle.flow_types.specs.declared.node.Kind.TheVariants as node_kind
use Rattle.flow_types.specs.Mapped.{only_schema}
use Rattle.flow_types.specs.Typed.{typed_join, typed_lookup}
use Rattle.flow_types.proofs.Columns.{scaled_schema}
use Rattle.flow_types.proofs.Places.{least_is, least_none}

-- ---- kinds

pub same_kind : (k l : ColumnKind) → is_same_kind k l ≡ true → k ≡ l
same_kind kind.Int kind.Int same = refl
same_kind kind.Int (kind.Dec q) same = absurd (cc)
same_kind kind.Int kind.Text same = absurd (cc)
same_kind (kind.Dec p) kind.Int same = absurd (cc)
same_kind (kind.Dec p) (kind.Dec q) same = ap kind.Dec (eqb-true p q same)
same_kind (kind.Dec p) kind.Text same = absurd (cc)
same_kind kind.Text kind.Int same = absurd (cc)
same_kind kind.Text (kind.Dec q) same = absurd (cc)
same_kind kind.Text kind.Text same = refl

module _ (left right : List Column) where
  is_pair : (a b : ℕ) (o q : Option Column) → slice_get left a ≡ o → slice_get right b ≡ q → agree o q ≡ true → IsPair left right a b
  is_pair a b None q one other agrees = absurd (cc)
  is_pair a b (Some c) None one other agrees = absurd (cc)
  is_pair a b (Some c) (Some d) one other agrees = record {
    one = c;
    other = d;
    one_at = one;
    other_at = other;
    kinds = same_kind c.kind d.kind agrees;
  }

  -- pairs of one kind are pairs
  pub are_pairs : (pairs : List Pair) → list_all (is_of_one_kind left right) pairs ≡ true → ArePairs left right (lefts pairs) (rights pairs)
  are_pairs [] agree = tt
  are_pairs (p ∷ pairs) agree =
      let parts = and_parts _ _ agree in
      (is_pair p.left p.right (slice_get left p.left) (slice_get right p.right) refl refl parts.0, are_pairs pairs parts.1)

-- ---- names that come again

module _ (ones others : List (List ℕ)) where
  pub once_ends : (place : ℕ) (name : List ℕ) → place < length ones → ((k : ℕ) → k < place → is_some (paired_again ones others k) ≡ false)
      → Some name ≡ paired_again ones others place → only_once ones others ≡ Err (cause.DoubleColumn name)
  once_ends place name h before is =
      let here : is_some (paired_again ones others place) ≡ true = rw (← is) refl in
      rw (least_is (length ones) (λ k. is_some (paired_again ones others k)) place h here before, ← is) refl

  pub once_all : (n : ℕ) → length ones ≤ n → ((k : ℕ) → k < n → is_some (paired_again ones others k) ≡ false) → only_once ones others ≡ Ok tt
  once_all n h none = rw (least_none (length ones) (λ k. is_some (paired_again ones others k)) (λ k less. none k (omega arith))) refl

-- ---- the columns that are not paired

abbrev pub is_other : List ℕ → ℕ → Bool
is_other cols place = not (list_any (λ c. c == place) cols)

pub no_others : (right : List Column) (cols : List ℕ) → [] ≡ filter_map (slice_get right) (filter (is_other cols) (below 0))
unfolding below
no_others right cols = refl

pub others_more : (right : List Column) (cols : List ℕ) (n : ℕ)
    → filter_map (slice_get right) (filter (is_other cols) (below (n + 1)))
    ≡ filter_map (slice_get right) (filter (is_other cols) (below n)) ++ filter_map (slice_get right) (filter (is_other cols) (n ∷ []))
unfolding below
others_more right cols n =
    let same : n + 1 ≡ suc n = omega arith in
    rw same (ap (filter_map (slice_get right)) (filter-append (is_other cols) (below n) (n ∷ [])) ∙ filter_map-append (slice_get right) (filter (is_other cols) (below n)) (filter (is_other cols) (n ∷ [])))

pub at_place : {X : Type 0} (P : X → Type 0) (xs : List X) (k : ℕ) (x : X) → All P xs → slice_get xs k ≡ Some x → P x
at_place P xs k x all at =
    let h = slice_get_within xs k x at in
    let here : x ≡ get_or xs k x = same_Some _ _ (sym at ∙ slice_get-get_or xs k x h) in
    subst P (sym here) (all k x h)

-- what holds of all columns holds of those at some places
pub all_found : (P : Column → Type 0) (columns : List Column) → All P columns → (places : List ℕ) → All P (filter_map (slice_get columns) places)
all_found P columns all [] = All-nil P
all_found P columns all (place ∷ places) = by (slice_get columns place) refl (all_found P columns all places)
  where
    by : (o : Option Column) → slice_get columns place ≡ o → All P (filter_map (slice_get columns) places) → All P (filter_map (slice_get columns) (place ∷ places))
    by None none rest = rw none rest
    by (Some c) at rest = rw at (All-cons P c (filter_map (slice_get columns) places) (at_place P columns place c all at) rest)

module _ (left right : List Column) (one : IsSchema left) (other : IsSchema right) (cols : List ℕ) where
  -- columns behind those of a schema are one, where they have their scales
  pub behind_schema : (more : List Column) → All (λ c. HasScale c.kind) more → length (left ++ more) ≤ 64 → no_double (names_in (left ++ more)) ≡ Ok tt → IsSchema (left ++ more)
  behind_schema more scaled few fine =
      let all = length-append left more in
      let some = one.some in
      scaled_schema (left ++ more) (omega arith) few fine (All-append (λ c. HasScale c.kind) left more one.scaled scaled)

  others_scaled : All (λ c. HasScale c.kind) (other_columns right cols)
  others_scaled = all_found (λ c. HasScale c.kind) right other.scaled (others (length right) cols)

  pub join_schema : length (join_columns left right cols) ≤ 64 → no_double (names_in (join_columns left right cols)) ≡ Ok tt → IsSchema (join_columns left right cols)
  join_schema few fine = behind_schema (other_columns right cols) others_scaled few fine

  pub lookup_schema : length (lookup_columns left right cols) ≤ 64 → no_double (names_in (lookup_columns left right cols)) ≡ Ok tt → IsSchema (lookup_columns left right cols)
  lookup_schema few fine = behind_schema (map as_nullable (other_columns right cols)) (All-map (λ c. HasScale c.kind) as_nullable (other_columns right cols) others_scaled) few fine

-- ---- what a join or a lookup is, where its pairs are found

module _ (texts : List (List ℕ)) (left right : List Column) (pairs : List Pair) (made : pairs_of left right texts ≡ Ok pairs) where
  pub join_typed : (output : List Column) → only_schema (join_columns left right (rights pairs)) ≡ Ok output
      → typed_join texts left right ≡ Ok (node_kind.Join (lefts pairs) (rights pairs), output)
  join_typed output is = rw (made, is) refl

  pub join_fails : (e : Stop SchemaCause) → Fails e (only_schema (join_columns left right (rights pairs))) → Fails e (typed_join texts left right)
  join_fails stop.Memory failed = tt
  join_fails (stop.Fault fault) failed = rw (made, failed) refl

  pub lookup_typed : (output : List Column) → only_schema (lookup_columns left right (rights pairs)) ≡ Ok output
      → typed_lookup texts left right ≡ Ok (node_kind.Lookup (lefts pairs) (rights pairs), output)
  lookup_typed output is = rw (made, is) refl

  pub lookup_fails : (e : Stop SchemaCause) → Fails e (only_schema (lookup_columns left right (rights pairs))) → Fails e (typed_lookup texts left right)
  lookup_fails stop.Memory failed = tt
  lookup_fails (stop.Fault fault) failed = rw (made, failed) refl
