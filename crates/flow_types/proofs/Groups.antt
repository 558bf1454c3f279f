-- Columns by which rows are grouped, and those that are made of each group.
use Rattle.std.proofs.Common.{◌≡◌, ℕ, zero, suc, ◌+◌, ◌<◌, ◌≤◌, List, [], ◌∷◌, ◌++◌, length, take, get_or, zip, filter_map, option_to_list, slice_get, true, All, refl, sym, ap, ◌∙◌, subst, inl, inr, Option, Some, None, Result, Ok, arith}
use Rattle.std.specs.List.{list_all, AllZip}
use Rattle.std.proofs.lemmas.Bool.{and_parts}
use Rattle.std.proofs.lemmas.List.{length-append, length-map, take_more}
use Rattle.std.proofs.lemmas.List.Elements.{All-nil, All-head, All-tail, All-cons, All-append, filter_map-append}
use Rattle.std.proofs.lemmas.Option.{slice_get_within, slice_get_cases}
use Rattle.tuple_schema.specs.declared.memory.Stop.{Stop}
use Rattle.tuple_schema.specs.declared.memory.Stop.TheVariants as stop
use Rattle.tuple_schema.specs.Stops.{Fails}
use Rattle.tuple_schema.specs.declared.schema.Column.{Column}
use Rattle.tuple_schema.specs.declared.schema.ColumnKind.{ColumnKind}
use Rattle.tuple_schema.specs.Schemas.{IsSchema, HasScale}
use Rattle.tuple_schema.specs.Texts.{head_of}
use Rattle.flow_types.specs.declared.fault.SchemaCause.{SchemaCause}
use Rattle.flow_types.specs.declared.node.Agg.{Agg}
use Rattle.flow_types.specs.declared.node.Agg.TheVariants as agg
use Rattle.flow_types.specs.declared.node.Make.{Make}
use Rattle.flow_types.specs.Names.{names_in, no_double, place_of}
use Rattle.flow_types.specs.Each.{each_made}
use Rattle.flow_types.specs.Paired.{place_or, known_place}
use Rattle.flow_types.specs.Taken.{IsTaken, Takes}
use Rattle.flow_types.specs.Makes.{makes_of, make_of, only_summable, may_of, may_be_made, made_kind, made_column, made_columns}
use Rattle.flow_types.specs.Grouped.{group_places, group_output, grouped, IsMadeOf, IsGrouped}
use Rattle.flow_types.specs.Mapped.{only_schema}
use Rattle.flow_types.proofs.Columns.{scaled_schema}
use Rattle.flow_types.proofs.Distincts.{found}
use Rattle.flow_types.proofs.Made.{bound}
use Rattle.flow_types.proofs.Pairs.{at_place, all_found}

-- ---- one element more

module _ {X Y : Type 0} (f : X → Option Y) where
  found_alone : (x : X) (o : Option Y) → f x ≡ o → filter_map f (x ∷ []) ≡ option_to_list o
  found_alone x None none = rw none refl
  found_alone x (Some y) some = rw some refl

  pub found_next : (xs : List X) (i : ℕ) (x : X) → i < length xs → x ≡ get_or xs i x → filter_map f (take (i + 1) xs) ≡ filter_map f (take i xs) ++ option_to_list (f x)
  found_next xs i x h is = rw (take_more xs i x h, ← is, filter_map-append) (ap (λ ys. filter_map f (take i xs) ++ ys) (found_alone x (f x) refl))

zip_next : {X Y : Type 0} (xs : List X) (ys : List Y) (i : ℕ) (x : X) (y : Y) → i < length xs → i < length ys → x ≡ get_or xs i x → y ≡ get_or ys i y
    → zip (take (suc i) xs) (take (suc i) ys) ≡ zip (take i xs) (take i ys) ++ (x, y) ∷ []
zip_next [] ys i x y h k is are = absurd (omega arith)
zip_next (a ∷ xs) [] i x y h k is are = absurd (omega arith)
zip_next (a ∷ xs) (b ∷ ys) zero x y h k is are = rw (← is, ← are) refl
zip_next (a ∷ xs) (b ∷ ys) (suc i) x y h k is are = ap (λ ps. (a, b) ∷ ps) (zip_next xs ys i x y (omega arith) (omega arith) is are)

module _ (columns : List Column) where
  pub made_next : (texts : List (List ℕ)) (makes : List Make) (i : ℕ) (text : List ℕ) (make : Make) → i < length texts → i < length makes → text ≡ get_or texts i text → make ≡ get_or makes i make
      → made_columns columns (take (i + 1) texts) (take (i + 1) makes) ≡ made_columns columns (take i texts) (take i makes) ++ option_to_list (made_column columns (head_of text) make)
  made_next texts makes i text make h k is are =
      let one : i + 1 ≡ suc i = omega arith in
      let f = λ (p : List ℕ × Make). made_column columns (head_of p.0) p.1 in
      rw (one, zip_next texts makes i text make h k is are, filter_map-append) (ap (λ cs. made_columns columns (take i texts) (take i makes) ++ cs) (found_alone f (text, make) (f (text, make)) refl))

count_zip : {X Y : Type 0} (R : X → Y → Type 0) (xs : List X) (ys : List Y) → AllZip R xs ys → length xs ≡ length ys
count_zip R [] [] all = refl
count_zip R [] (y ∷ ys) all = absurd all
count_zip R (x ∷ xs) [] all = absurd all
count_zip R (x ∷ xs) (y ∷ ys) all = ap suc (count_zip R xs ys all.1)

-- ---- what is made of each item

module _ {X Y F : Type 0} (make : X → Result Y F) where
  same_made : (ys zs : List Y) → (let r : Result (List Y) F = Ok ys in r) ≡ Ok zs → ys ≡ zs
  same_made ys zs e = cc

  pub each_count : (xs : List X) (ys : List Y) → each_made make xs ≡ Ok ys → length ys ≡ length xs
  each_count [] ys made = ap length (sym (same_made [] ys made))
  each_count (x ∷ xs) ys made =
      let one = bound (make x) _ ys made in
      let others = bound (each_made make xs) _ ys one.2 in
      let count = each_count xs others.0 others.1 in
      ap length (sym (same_made (one.0 ∷ others.0) ys others.2)) ∙ ap suc count

  each_all : (P : Y → Type 0) → ((x : X) (y : Y) → make x ≡ Ok y → P y) → (xs : List X) (ys : List Y) → each_made make xs ≡ Ok ys → All P ys
  each_all P fits [] ys made = subst (All P) (same_made [] ys made) (All-nil P)
  each_all P fits (x ∷ xs) ys made =
      let one = bound (make x) _ ys made in
      let others = bound (each_made make xs) _ ys one.2 in
      subst (All P) (same_made (one.0 ∷ others.0) ys others.2) (All-cons P one.0 others.0 (fits x one.0 one.1) (each_all P fits xs others.0 others.1))

-- ---- the columns by which rows are grouped

place_is : (name : List ℕ) (o : Option ℕ) (place : ℕ) → place_or name o ≡ Ok place → o ≡ Some place
place_is name None place known = absurd (cc)
place_is name (Some q) place known = let same : q ≡ place = cc in ap Some same

known_within : (columns : List Column) (name : List ℕ) (place : ℕ) → known_place (names_in columns) name ≡ Ok place → place < length columns
known_within columns name place known =
    let within = slice_get_within (names_in columns) place name (found (names_in columns) place name (place_is name (place_of (names_in columns) name) place known)) in
    simp length-map at within

takes_each : (input : List Column) (places : List ℕ) → All (λ p. p < length input) places → AllZip (IsTaken input) places (filter_map (slice_get input) places)
takes_each input [] within = tt
takes_each input (p ∷ places) within =
    let here = All-head (λ q. q < length input) p places within in
    let rest = takes_each input places (All-tail (λ q. q < length input) p places within) in
    elim ((slice_get_cases input p).1) [
      | inl is ↦ rw is.2 (record { of = is.0; at = is.2; kind = refl; nullable = refl }, rest)
      | inr past ↦ absurd (omega (arith, past.0, here))
    ]

takes_places : (input : List Column) (by : List (List ℕ)) (places : List ℕ) → group_places input by ≡ Ok places → Takes input places (filter_map (slice_get input) places)
takes_places input by places known =
    let within = each_all (known_place (names_in input)) (λ p. p < length input) (known_within input) by places known in
    record { within = within; each = takes_each input places within }

-- ---- the columns that are made

module _ (input : List Column) where
  one_made : (text : List ℕ) (m : Make) (texts : List (List ℕ)) (makes : List Make) (o : Option Column) → slice_get input m.column ≡ o → may_of m.what o ≡ true
      → AllZip (IsMadeOf input) makes (made_columns input texts makes) → AllZip (IsMadeOf input) (m ∷ makes) (made_columns input (text ∷ texts) (m ∷ makes))
  one_made text m texts makes None none may rest = absurd (cc)
  one_made text m texts makes (Some c) at may rest = rw at (record { of = c; at = at; may = may; kind = refl; nullable = refl }, rest)

  made_each : (texts : List (List ℕ)) (makes : List Make) → length texts ≡ length makes → list_all (may_be_made input) makes ≡ true → AllZip (IsMadeOf input) makes (made_columns input texts makes)
  made_each [] [] count may = tt
  made_each [] (m ∷ makes) count may = absurd (omega arith)
  made_each (text ∷ texts) [] count may = absurd (omega arith)
  made_each (text ∷ texts) (m ∷ makes) count may =
      let parts = and_parts _ _ may in
      one_made text m texts makes (slice_get input m.column) refl parts.0 (made_each texts makes (omega arith) parts.1)

  kind_scaled : (what : Agg) (k : ColumnKind) → HasScale k → HasScale (made_kind what k)
  kind_scaled agg.Count k scaled = tt
  kind_scaled agg.CountOf k scaled = tt
  kind_scaled agg.Sum k scaled = scaled
  kind_scaled agg.Min k scaled = scaled
  kind_scaled agg.Max k scaled = scaled

  made_scaled : All (λ c. HasScale c.kind) input → (makes : List Make) (columns : List Column) → AllZip (IsMadeOf input) makes columns → All (λ c. HasScale c.kind) columns
  made_scaled scaled [] [] made = All-nil (λ c. HasScale c.kind)
  made_scaled scaled [] (c ∷ columns) made = absurd made
  made_scaled scaled (m ∷ makes) [] made = absurd made
  made_scaled scaled (m ∷ makes) (c ∷ columns) made =
      let one = made.0 in
      let scale = kind_scaled m.what one.of.kind (at_place (λ c. HasScale c.kind) input m.column one.of scaled one.at) in
      All-cons (λ c. HasScale c.kind) c columns (subst HasScale (sym one.kind) scale) (made_scaled scaled makes columns made.1)

-- ---- the output

module _ (input : List Column) where
  pub count_made : (texts : List (List ℕ)) (makes : List Make) → makes_of input texts ≡ Ok makes → length texts ≡ length makes
  count_made texts makes made = sym (each_count (make_of input) texts makes made)

  pub is_grouped : (by texts : List (List ℕ)) (places : List ℕ) (makes : List Make) → group_places input by ≡ Ok places → makes_of input texts ≡ Ok makes → list_all (may_be_made input) makes ≡ true
      → IsGrouped input places makes (group_output input places texts makes)
  is_grouped by texts places makes known made may = record {
    front = filter_map (slice_get input) places;
    behind = made_columns input texts makes;
    all = refl;
    taken = takes_places input by places known;
    made = made_each input texts makes (count_made texts makes made) may;
  }

  pub grouped_schema : (texts : List (List ℕ)) (places : List ℕ) (makes : List Make) → makes_of input texts ≡ Ok makes → list_all (may_be_made input) makes ≡ true → IsSchema input → 1 ≤ length texts
      → length (group_output input places texts makes) ≤ 64 → no_double (names_in (group_output input places texts makes)) ≡ Ok tt → IsSchema (group_output input places texts makes)
  grouped_schema texts places makes made may schema some few fine =
      let front = filter_map (slice_get input) places in
      let behind = made_columns input texts makes in
      let same = count_made texts makes made in
      let each = made_each input texts makes same may in
      let all = length-append front behind in
      let count : length makes ≡ length behind = count_zip (IsMadeOf input) makes behind each in
      scaled_schema (front ++ behind) (omega arith) few fine
      (All-append (λ c. HasScale c.kind) front behind (all_found (λ c. HasScale c.kind) input schema.scaled places) (made_scaled input schema.scaled makes behind each))

  module _ (by texts : List (List ℕ)) (places : List ℕ) (makes : List Make) (known : group_places input by ≡ Ok places) (made : makes_of input texts ≡ Ok makes) (summable : only_summable input makes ≡ Ok tt) where
    pub grouped_is : (output : List Column) → only_schema (group_output input places texts makes) ≡ Ok output → grouped by texts input ≡ Ok ((places, makes), output)
    grouped_is output is = rw (known, made, summable, is) refl

    pub grouped_fails : (e : Stop SchemaCause) → Fails e (only_schema (group_output input places texts makes)) → Fails e (grouped by texts input)
    grouped_fails stop.Memory failed = tt
    grouped_fails (stop.Fault fault) failed = rw (known, made, summable, failed) refl
