-- The contents of sources, read one after the other.
use Rattle.std.proofs.Common.{◌≡◌, ℕ, zero, suc, ◌+◌, ◌<◌, List, [], ◌∷◌, ◌++◌, length, map, get_or, slice_get, Some, None, Result, Ok, Err, refl, ap, sym, ◌∙◌, subst, inl, inr, arith}
use Rattle.std.specs.List.{range_with_len}
use Rattle.std.proofs.lemmas.Bool.{cases_lt}
use Rattle.std.proofs.lemmas.List.FromFn.{map-range_with_len_more}
use Rattle.std.proofs.lemmas.Option.{slice_get_read, slice_get_past}
use Rattle.list_algebra.specs.Bags.{Tuple}
use Rattle.tuple_schema.specs.declared.schema.Column.{Column}
use Rattle.row_batch.specs.Packing.{BatchOf}
use Rattle.flow_types.specs.declared.node.Kind.{Kind}
use Rattle.flow_types.specs.declared.node.Kind.TheVariants as kind
use Rattle.flow_types.specs.declared.node.Node.{Node}
use Rattle.flow_types.specs.Flows.{TypedFlow, number_of, node_of}
use Rattle.kind_laws.specs.Laws.{HasOwnColumns, SourcesHaveColumns}
use Rattle.tuple_schema.specs.Stops.{◌>>=◌}
use Rattle.load_runner.specs.declared.fault.SourceFault.{SourceFault}
use Rattle.load_runner.specs.Sources.{all_of, numbered}

-- what all contents are, the first has, and the others
all_of-split : (first : Result (List Tuple) SourceFault) (others : List (Result (List Tuple) SourceFault)) (found : List (List Tuple)) → all_of (first ∷ others) ≡ Ok found
    → (rows : List Tuple) × (more : List (List Tuple)) × (first ≡ Ok rows) × (all_of others ≡ Ok more) × (rows ∷ more ≡ found)
all_of-split (Err fault) others found is = absurd cc
all_of-split (Ok rows) others found is = more (all_of others) refl is
  where
    more : (o : Result (List (List Tuple)) SourceFault) → all_of others ≡ o → (o >>= λ more. Ok (rows ∷ more)) ≡ Ok found
        → (own : List Tuple) × (more : List (List Tuple)) × ((let first : Result (List Tuple) SourceFault = Ok rows in first) ≡ Ok own) × (all_of others ≡ Ok more) × (own ∷ more ≡ found)
    more (Err fault) at is = absurd cc
    more (Ok found) at is = (rows, found, refl, at, cc)

all_of-cons : (first : Result (List Tuple) SourceFault) (others : List (Result (List Tuple) SourceFault)) (rows : List Tuple) (more : List (List Tuple)) → first ≡ Ok rows → all_of others ≡ Ok more
    → all_of (first ∷ others) ≡ Ok (rows ∷ more)
all_of-cons first others rows more one rest = rw (one, rest) refl

abbrev contents_are : List (List Tuple) → Result (List (List Tuple)) SourceFault
contents_are found = Ok found

-- one list more
all_of-snoc : (lists : List (Result (List Tuple) SourceFault)) (found : List (List Tuple)) (rows : List Tuple) → all_of lists ≡ Ok found
    → all_of (lists ++ Ok rows ∷ []) ≡ Ok (found ++ rows ∷ [])
all_of-snoc [] found rows is = let none : [] ≡ found = cc in rw (← none) refl
all_of-snoc (first ∷ lists) found rows is =
    let s = all_of-split first lists found is in
    all_of-cons first (lists ++ Ok rows ∷ []) s.0 (s.1 ++ rows ∷ []) s.2 (all_of-snoc lists s.1 rows s.3) ∙ ap (λ (all : List (List Tuple)). contents_are (all ++ rows ∷ [])) s.4

-- behind contents the first fault is the fault
all_of-fault : (f : ℕ → Result (List Tuple) SourceFault) (a n m : ℕ) (found : List (List Tuple)) (fault : SourceFault) → m < n
    → all_of (map f (range_with_len a m)) ≡ Ok found → f (a + m) ≡ Err fault → all_of (map f (range_with_len a n)) ≡ Err fault
all_of-fault f a zero m found fault small before at = absurd (omega arith)
all_of-fault f a (suc n) zero found fault small before at =
    let here : f a ≡ Err fault = subst (λ k. f k ≡ Err fault) (let e : a + 0 ≡ a = omega arith in e) at in
    rw here refl
all_of-fault f a (suc n) (suc m) found fault small before at =
    let s = all_of-split (f a) (map f (range_with_len (a + 1) m)) found before in
    let there : f ((a + 1) + m) ≡ Err fault = subst (λ k. f k ≡ Err fault) (let e : a + suc m ≡ (a + 1) + m = omega arith in e) at in
    rw (s.2, all_of-fault f (a + 1) n m s.1 fault (omega arith) s.3 there) refl

pub contents_fault : (f : ℕ → Result (List Tuple) SourceFault) (n k : ℕ) (found : List (List Tuple)) (fault : SourceFault) → k < n
    → all_of (map f (range_with_len 0 k)) ≡ Ok found → f k ≡ Err fault → all_of (map f (range_with_len 0 n)) ≡ Err fault
contents_fault f n k found fault small before at =
    all_of-fault f 0 n k found fault small before (subst (λ j. f j ≡ Err fault) (let e : k ≡ 0 + k = omega arith in e) at)

pub contents_more : (f : ℕ → Result (List Tuple) SourceFault) (n : ℕ) (found : List (List Tuple)) (rows : List Tuple) → all_of (map f (range_with_len 0 n)) ≡ Ok found → f n ≡ Ok rows
    → all_of (map f (range_with_len 0 (n + 1))) ≡ Ok (found ++ rows ∷ [])
contents_more f n found rows is here =
    rw (map-range_with_len_more f 0 n n (omega arith), here) (all_of-snoc (map f (range_with_len 0 n)) found rows is)

pub slice_get_append_left : {X : Type 0} (xs ys : List X) (k : ℕ) → k < length xs → slice_get (xs ++ ys) k ≡ slice_get xs k
slice_get_append_left [] ys k small = absurd (omega arith)
slice_get_append_left (x ∷ xs) ys zero small = refl
slice_get_append_left (x ∷ xs) ys (suc k) small = slice_get_append_left xs ys k (omega arith)

pub slice_get_at_seam : {X : Type 0} (xs : List X) (y : X) (ys : List X) → slice_get (xs ++ y ∷ ys) (length xs) ≡ Some y
slice_get_at_seam [] y ys = refl
slice_get_at_seam (x ∷ xs) y ys = slice_get_at_seam xs y ys

-- a number without a batch asks for nothing
none_has_columns : (k : Kind) (columns : List Column) → HasOwnColumns k columns None
none_has_columns (kind.Source file) columns = tt
none_has_columns (kind.Select test) columns = tt
none_has_columns (kind.Project from) columns = tt
none_has_columns (kind.Map sets) columns = tt
none_has_columns (kind.Join left right) columns = tt
none_has_columns (kind.Lookup left right) columns = tt
none_has_columns (kind.Aggregate by makes order) columns = tt
none_has_columns (kind.Sort by) columns = tt
none_has_columns kind.Distinct columns = tt
none_has_columns (kind.Union any) columns = tt

-- batches that have the columns of the nodes of their numbers have those of the sources
pub sources_have_columns : (flow : TypedFlow) (lists : List BatchOf) → ((place : ℕ) (n : Node) → slice_get flow.nodes place ≡ Some n → node_of flow n.id ≡ Some n)
    → ((k : ℕ) (n : Node) → k < length lists → numbered flow.nodes k ≡ Some n → HasOwnColumns n.kind n.schema (slice_get lists k))
    → SourcesHaveColumns flow.nodes lists
sources_have_columns flow lists found have place d small =
    let n : Node = get_or flow.nodes place d in
    let at : slice_get flow.nodes place ≡ Some n = slice_get_read flow.nodes (length flow.nodes) place n refl small (own flow.nodes place d small) in
    elim (cases_lt (number_of n) (length lists)) [
      | inl less ↦ have (number_of n) n less (found place n at)
      | inr past ↦ subst (HasOwnColumns n.kind n.schema) (sym (slice_get_past lists (number_of n) past)) (none_has_columns n.kind n.schema)
    ]
  where
    own : (nodes : List Node) (k : ℕ) (e : Node) → k < length nodes → get_or nodes k e ≡ get_or nodes k (get_or nodes k e)
    own [] k e h = absurd (omega arith)
    own (m ∷ nodes) zero e h = refl
    own (m ∷ nodes) (suc k) e h = own nodes k e (omega arith)
