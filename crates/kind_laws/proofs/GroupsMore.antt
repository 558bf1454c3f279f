-- The groups of rows, with one row more.
use Rattle.std.proofs.Common.{◌≡◌, ℕ, ◌+◌, ◌<◌, ◌≤◌, ◌==◌, List, [], ◌∷◌, ◌++◌, length, map, take, filter, get_or, slice_get, Some, Bool, true, false, cond, All, append-nil, refl, sym, ap, subst, ◌∙◌, inl, inr, arith, eq-eqb}
use Rattle.std.specs.List.{list_any}
use Rattle.std.proofs.lemmas.Bool.{cases_Bool, cases_eq, cases_lt, ne_eqb}
use Rattle.std.proofs.lemmas.List.{length-append, length-map, map-append, get_or_append_left, take_more}
use Rattle.std.proofs.Math.Seq.{get_or-append_seam}
use Rattle.std.proofs.lemmas.List.Elements.{All-head, All-tail, All-nil, All-cons, All-append, All-weaker, filter-append}
use Rattle.std.proofs.lemmas.Option.{same_Some, slice_get_within, get_or_from_slice_get}
use Rattle.tuple_schema.specs.Tuples.{part}
use Rattle.list_algebra.specs.Bags.{Tuple, same}
use Rattle.list_algebra.specs.Joins.{below}
use Rattle.list_algebra.specs.Groups.{distinct, groups, members}
use Rattle.list_algebra.specs.Keys.{parts}
use Rattle.kind_laws.specs.Indexes.{row_at}
use Rattle.kind_laws.specs.Keys.{key_number, with_key}
use Rattle.kind_laws.specs.Accumulators.{first_rows_of, rows_of}
use Rattle.kind_laws.specs.Grouping.{IsGrouping}
use Rattle.kind_laws.proofs.DistinctMore.{distinct_more}
use Rattle.kind_laws.proofs.KeysNumbered.{place_among, place_behind, with_new, with_known, at_end}
use Rattle.kind_laws.proofs.Numbered.{All-below}
use Rattle.kind_laws.proofs.MakingRows.{row_added, row_passed}
use Rattle.kind_laws.proofs.GroupsNumbered.{AreNumbered, slice_left, number_same, no_members}

-- what is made of what is kept, by tests and functions that agree on the list
picked_step : {X : Type 0} (f g : ℕ → X) (b : Bool) (n : ℕ) (xs ys : List ℕ) → f n ≡ g n → map f xs ≡ map g ys → map f (cond b (n ∷ xs) xs) ≡ map g (cond b (n ∷ ys) ys)
picked_step f g true n xs ys here rest = ap (λ y. y ∷ map f xs) here ∙ ap (λ zs. g n ∷ zs) rest
picked_step f g false n xs ys here rest = rest

pub picked_alike : {X : Type 0} (f g : ℕ → X) (p q : ℕ → Bool) (ns : List ℕ) → All (λ n. p n ≡ q n) ns → All (λ n. f n ≡ g n) ns
    → map f (filter p ns) ≡ map g (filter q ns)
picked_alike f g p q [] tests values = refl
picked_alike f g p q (n ∷ ns) tests values =
    ap (λ b. map f (cond b (n ∷ filter p ns) (filter p ns))) (All-head (λ m. p m ≡ q m) n ns tests)
    ∙ picked_step f g (q n) n (filter p ns) (filter q ns) (All-head (λ m. f m ≡ g m) n ns values)
    (picked_alike f g p q ns (All-tail (λ m. p m ≡ q m) n ns tests) (All-tail (λ m. f m ≡ g m) n ns values))

pub map_alike : {X : Type 0} (f g : ℕ → X) (ns : List ℕ) → All (λ n. f n ≡ g n) ns → map f ns ≡ map g ns
map_alike f g [] values = refl
map_alike f g (n ∷ ns) values =
    ap (λ y. y ∷ map f ns) (All-head (λ m. f m ≡ g m) n ns values) ∙ ap (λ zs. g n ∷ zs) (map_alike f g ns (All-tail (λ m. f m ≡ g m) n ns values))

none_kept : (p : ℕ → Bool) (ns : List ℕ) → All (λ n. p n ≡ false) ns → filter p ns ≡ []
none_kept p [] all = refl
none_kept p (n ∷ ns) all =
    ap (λ b. cond b (n ∷ filter p ns) (filter p ns)) (All-head (λ m. p m ≡ false) n ns all) ∙ none_kept p ns (All-tail (λ m. p m ≡ false) n ns all)

module _ (by : List ℕ) (rows : List Tuple) (row : Tuple) where
  -- the groups with one row more
  pub groups_more : groups by (rows ++ row ∷ []) ≡ with_key same (groups by rows) (part row by)
  groups_more = ap distinct (map-append (λ t. part t by) rows (row ∷ [])) ∙ distinct_more (parts by rows) (part row by)

  -- the members of a group with one row more
  pub members_more : (group : Tuple) → members by (rows ++ row ∷ []) group ≡ members by rows group ++ cond (same group (part row by)) (row ∷ []) []
  members_more group = filter-append (λ t. same group (part t by)) rows (row ∷ [])

  -- a row before
  row_before : (n : ℕ) → n < length rows → row_at (rows ++ row ∷ []) n ≡ row_at rows n
  row_before n small = get_or_append_left rows (row ∷ []) [] n small

module _ (by : List ℕ) (rows : List Tuple) (row : Tuple) (group_of firsts : List ℕ) (is : IsGrouping by rows group_of firsts) (each : AreNumbered (groups by rows)) where
  abbrev keys : List Tuple
  keys = groups by rows

  abbrev key : Tuple
  key = part row by

  abbrev number : ℕ
  number = key_number same keys key

  abbrev all_rows : List Tuple
  all_rows = rows ++ row ∷ []

  abbrev all_groups : List ℕ
  all_groups = group_of ++ number ∷ []

  firsts_count : length firsts ≡ length keys
  firsts_count = sym (length-map firsts (λ n. part (row_at rows n) by)) ∙ ap length is.keys

  -- the rows of a group among those before
  rows_before : (group : ℕ) → first_rows_of all_groups all_rows (length rows) group ≡ rows_of group_of rows group
  rows_before group =
      picked_alike (row_at all_rows) (row_at rows) (λ n. get_or all_groups n 0 == group) (λ n. get_or group_of n 0 == group) (below (length rows))
      (All-weaker (λ m. m < length rows) (λ m. (get_or all_groups m 0 == group) ≡ (get_or group_of m 0 == group))
      (λ m small. ap (λ g. g == group) (get_or_append_left group_of (number ∷ []) 0 m (subst (λ n. m < n) (sym is.counted) small))) (below (length rows)) (All-below (length rows)))
      (All-weaker (λ m. m < length rows) (λ m. row_at all_rows m ≡ row_at rows m) (row_before by rows row) (below (length rows)) (All-below (length rows)))

  number_last : get_or all_groups (length rows) 0 ≡ number
  number_last = ap (λ n. get_or all_groups n 0) (sym is.counted) ∙ get_or-append_seam group_of number [] 0

  row_last : row_at all_rows (length rows) ≡ row
  row_last = get_or-append_seam rows row [] []

  -- the rows of a group with one row more
  rows_more : (group : ℕ) → rows_of all_groups all_rows group ≡ rows_of group_of rows group ++ cond (number == group) (row ∷ []) []
  rows_more group =
      let long : length all_rows ≡ length rows + 1 = length-append rows (row ∷ []) in
      ap (λ n. first_rows_of all_groups all_rows n group) long
      ∙ elim (cases_eq number group) [
        | inl same_group ↦
            row_added all_groups all_rows (length rows) group (number_last ∙ same_group)
            ∙ ap (λ rs. rs ++ row_at all_rows (length rows) ∷ []) (rows_before group)
            ∙ ap (λ r. rows_of group_of rows group ++ r ∷ []) row_last
            ∙ ap (λ b. rows_of group_of rows group ++ cond b (row ∷ []) []) (sym (eq-eqb number group same_group))
        | inr apart ↦
            row_passed all_groups all_rows (length rows) group (λ e. apart (sym number_last ∙ e))
            ∙ rows_before group ∙ sym (append-nil (rows_of group_of rows group))
            ∙ ap (λ b. rows_of group_of rows group ++ cond b (row ∷ []) []) (sym (ne_eqb number group apart))
      ]

  -- a group past all has no rows
  no_rows : (group : ℕ) → length firsts ≤ group → rows_of group_of rows group ≡ []
  no_rows group large =
      ap (map (row_at rows))
      (none_kept (λ n. get_or group_of n 0 == group) (below (length rows))
      (All-weaker (λ m. m < length rows) (λ m. (get_or group_of m 0 == group) ≡ false)
      (λ m small. ne_eqb (get_or group_of m 0) group (λ e. let inside : get_or group_of m 0 < length firsts = is.within m 0 (subst (λ n. m < n) (sym is.counted) small) in omega (arith, inside, e, large)))
      (below (length rows)) (All-below (length rows))))

  members_before : (g : ℕ) (group : Tuple) → slice_get (with_key same keys key) g ≡ Some group → rows_of group_of rows g ≡ members by rows group
  members_before g group at =
      elim (cases_Bool (list_any (same key) keys)) [
        | inl some ↦ is.members g group (sym (ap (λ b. slice_get (cond b keys (keys ++ key ∷ [])) g) some) ∙ at)
        | inr none ↦
            let there : slice_get (keys ++ key ∷ []) g ≡ Some group = sym (ap (λ b. slice_get (cond b keys (keys ++ key ∷ [])) g) none) ∙ at in
            elim (cases_lt g (length keys)) [
              | inl small ↦ is.members g group (sym (slice_left keys (key ∷ []) g small) ∙ there)
              | inr large ↦
                  let within = slice_get_within (keys ++ key ∷ []) g group there in
                  let long = length-append keys (key ∷ []) in
                  let last : g ≡ length keys = omega (arith, within, long, large) in
                  let e : key ≡ group = same_Some _ _ (sym (at_end keys key) ∙ ap (slice_get (keys ++ key ∷ [])) (sym last) ∙ there) in
                  let past : length firsts ≤ g = omega (arith, last, firsts_count) in
                  no_rows g past ∙ sym (ap (members by rows) (sym e) ∙ no_members by rows key none)
            ]
      ]

  members_all : (g : ℕ) (group : Tuple) → slice_get (groups by all_rows) g ≡ Some group → rows_of all_groups all_rows g ≡ members by all_rows group
  members_all g group at =
      let there : slice_get (with_key same keys key) g ≡ Some group = ap (λ ks. slice_get ks g) (sym (groups_more by rows row)) ∙ at in
      rows_more g ∙ ap (λ rs. rs ++ cond (number == g) (row ∷ []) []) (members_before g group there)
      ∙ ap (λ b. members by rows group ++ cond b (row ∷ []) []) (number_same keys key each g group there)
      ∙ sym (members_more by rows row group)

  counted_all : length all_groups ≡ length all_rows
  counted_all = length-append group_of (number ∷ []) ∙ ap (λ n. n + 1) is.counted ∙ sym (length-append rows (row ∷ []))

  keys_before : map (λ n. part (row_at all_rows n) by) firsts ≡ keys
  keys_before =
      map_alike (λ n. part (row_at all_rows n) by) (λ n. part (row_at rows n) by) firsts
      (All-weaker (λ n. n < length rows) (λ n. part (row_at all_rows n) by ≡ part (row_at rows n) by) (λ n small. ap (λ r. part r by) (row_before by rows row n small)) firsts is.firsts_within)
      ∙ is.keys

  firsts_before : All (λ n. n < length all_rows) firsts
  firsts_before =
      let long = length-append rows (row ∷ []) in
      All-weaker (λ n. n < length rows) (λ n. n < length all_rows) (λ n small. omega (arith, small, long)) firsts is.firsts_within

  -- a row of a group that is known
  pub grouping_known : (number ≡ length firsts → ⊥) → IsGrouping by all_rows all_groups firsts
  grouping_known known =
      let other : number ≡ length keys → ⊥ = λ e. known (e ∙ sym firsts_count) in
      record {
        counted = counted_all;
        within = All-append (λ g. g < length firsts) group_of (number ∷ []) is.within
            (All-cons (λ g. g < length firsts) number []
            (elim (cases_Bool (list_any (same key) keys)) [
              | inl some ↦ let among = place_among (same key) keys some in omega (arith, among, firsts_count)
              | inr none ↦ absurd (other (place_behind (same key) keys none))
            ])
            (All-nil (λ g. g < length firsts)));
        firsts_within = firsts_before;
        keys = keys_before ∙ sym (groups_more by rows row ∙ with_known same keys key other);
        members = members_all;
      }

  -- a row that is the first of its group
  pub grouping_new : number ≡ length firsts → IsGrouping by all_rows all_groups (firsts ++ length rows ∷ [])
  grouping_new new =
      let long = length-append rows (row ∷ []) in
      let more = length-append firsts (length rows ∷ []) in
      record {
        counted = counted_all;
        within = All-append (λ g. g < length (firsts ++ length rows ∷ [])) group_of (number ∷ [])
            (All-weaker (λ g. g < length firsts) (λ g. g < length (firsts ++ length rows ∷ [])) (λ g small. omega (arith, small, more)) group_of is.within)
            (All-cons (λ g. g < length (firsts ++ length rows ∷ [])) number [] (omega (arith, new, more)) (All-nil (λ g. g < length (firsts ++ length rows ∷ []))));
        firsts_within = All-append (λ n. n < length all_rows) firsts (length rows ∷ []) firsts_before
            (All-cons (λ n. n < length all_rows) (length rows) [] (omega (arith, long)) (All-nil (λ n. n < length all_rows)));
        keys = map-append (λ n. part (row_at all_rows n) by) firsts (length rows ∷ [])
            ∙ ap (λ ks. ks ++ part (row_at all_rows (length rows)) by ∷ []) keys_before
            ∙ ap (λ r. keys ++ part r by ∷ []) row_last
            ∙ sym (groups_more by rows row ∙ with_new same keys key (new ∙ firsts_count));
        members = members_all;
      }

pub no_grouping : (by : List ℕ) → IsGrouping by [] [] []
no_grouping by = record {
  counted = refl;
  within = All-nil (λ g. g < 0);
  firsts_within = All-nil (λ n. n < 0);
  keys = refl;
  members = λ g group at. absurd (cc);
}

-- the first rows, with the next one
pub rows_next : (rows : List Tuple) (n : ℕ) (row : Tuple) → n < length rows → slice_get rows n ≡ Some row → take (n + 1) rows ≡ take n rows ++ row ∷ []
rows_next rows n row small there = take_more rows n [] small ∙ ap (λ r. take n rows ++ r ∷ []) (get_or_from_slice_get rows n row [] there)
