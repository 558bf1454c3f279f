-- Sorted runs, one behind the other: what stays of them, and what a search of one tells.
use Rattle.std.proofs.Common.{◌≡◌, ℕ, zero, suc, ◌+◌, ◌-◌, ◌<◌, ◌≤◌, List, [], ◌∷◌, ◌++◌, length, get_or, set, take, drop, true, false, Result, Ok, Err, ◌≢◌, refl, ap, sym, subst, ◌∙◌, ⊎_elim, add-one, arith}
use Rattle.std.specs.List.Sorted.{IsSortedBy, IsSortedWithin, IsSortedByClosure, IsBinarySearchResult, IsSearchInRange}
use Rattle.std.specs.Result.{result_ok, OnOk}
use Rattle.std.specs.Fn.{Called, ComputesKey, Mut}
use denote.Ref.{Bor}
use Rattle.std.specs.declared.cmp.Ordering.{Ordering}
use Rattle.std.proofs.lemmas.Fn.{always_returns_same}
use Rattle.std.proofs.lemmas.Result.{on_ok_weaker}
use Rattle.std.specs.Ordering.{is_lt}
use Rattle.std.proofs.lemmas.Bool.{cases_lt}
use Rattle.std.proofs.lemmas.List.{get_or_append_left, get_or_push, length_push, length-set, length-take-le, get_or-take, get_or-set_same, get_or-set_other, length-take, length-drop, get_or-drop}
use Rattle.std.proofs.lemmas.List.Sorted.{searchable_from_sorted, ranks_by}
use Rattle.tuple_schema.specs.declared.value.Value.{Value}
use Rattle.tuple_sets.specs.declared.entry.Entry.{Entry}
use Rattle.tuple_sets.specs.Order.{tuple_cmp}
use Rattle.tuple_sets.specs.Runs.{is_before, start_of, IsRuns, is_for, Lacks, IsAt, Finds}
use Rattle.tuple_sets.proofs.SameLemmas.{tuple_cmp-total, same_where_equal, differ_where_less, differ_where_greater}

-- ---- the search of one run

found_in_run : (run : List Entry) (row : List Value) (r : Result ℕ ℕ) → IsSearchInRange r (length run)
    → IsBinarySearchResult (λ e. tuple_cmp e.tuple row) run r → IsSortedBy is_before run
    → Finds run row (result_ok r)
found_in_run run row (Ok i) within at sorted = (within, λ d. same_where_equal _ row (at d))
found_in_run run row (Err i) within parts sorted =
    let split = parts (searchable_from_sorted tuple_cmp-total (λ e. e.tuple) run row sorted) in
    λ k d lt. ⊎_elim
    (λ below. differ_where_less _ row (split.0 k d (omega arith) below))
    (λ above. differ_where_greater _ row (split.1 k d above lt))
    (cases_lt k i)

-- ---- the runs

pub no_runs : IsRuns [] []
no_runs = record {
  rising = λ j k le last. let a : j ≡ 0 = omega arith in let b : k ≡ 0 = omega arith in rw (a, b) (omega arith);
  whole = refl;
  sorted = λ k lt. absurd (omega arith);
}

-- a fact of tuples alone stays where other entries have the same tuples
pub runs_of_tuples : (es fs : List Entry) (ends : List ℕ) → length fs ≡ length es
    → ((k : ℕ) (d : Entry) → (get_or fs k d).tuple ≡ (get_or es k d).tuple) → IsRuns es ends → IsRuns fs ends
runs_of_tuples es fs ends long alike r = record {
  rising = r.rising;
  whole = r.whole ∙ sym long;
  sorted = λ k lt j d low high. rw (alike (j + 1) d, alike j d) (r.sorted k lt j d low high);
}

pub start-next : (ends : List ℕ) (k : ℕ) → start_of ends (k + 1) ≡ get_or ends k 0
start-next ends k = rw add-one refl

module _ (ends : List ℕ) (n : ℕ) where
  start-pushed : (k : ℕ) → k ≤ length ends → start_of (ends ++ n ∷ []) k ≡ start_of ends k
  start-pushed k le = get_or_append_left (0 ∷ ends) (n ∷ []) 0 k (omega arith)

  start-last : (k : ℕ) → k ≡ length ends + 1 → start_of (ends ++ n ∷ []) k ≡ n
  start-last k e = get_or_push (0 ∷ ends) n 0 k (omega arith)

-- a run of one entry more
pub runs_pushed : (es : List Entry) (e : Entry) (ends : List ℕ) (n : ℕ) → n ≡ length es + 1 → IsRuns es ends → IsRuns (es ++ e ∷ []) (ends ++ n ∷ [])
runs_pushed es e ends n last r =
    let more = length_push ends n in
    let long = length_push es e in
    record {
      rising = λ j k le within. ⊎_elim
          (λ old.
          let a = start-pushed ends n j (omega arith) in
          let b = start-pushed ends n k (omega arith) in
          let up = r.rising j k le (omega arith) in
          omega arith)
          (λ new.
          let b = start-last ends n k (omega arith) in
          ⊎_elim
          (λ low.
          let a = start-pushed ends n j (omega arith) in
          let up = r.rising j (length ends) (omega arith) (omega arith) in
          let all = r.whole in
          omega arith)
          (λ high.
          let a = start-last ends n j (omega arith) in
          omega arith)
          (cases_lt j (length ends + 1)))
          (cases_lt k (length ends + 1));
      whole = start-last ends n (length (ends ++ n ∷ [])) more ∙ last ∙ sym long;
      sorted = λ k lt j d low high. ⊎_elim
          (λ old.
          let a = start-pushed ends n k (omega arith) in
          let b = start-pushed ends n (k + 1) (omega arith) in
          let up = r.rising (k + 1) (length ends) (omega arith) (omega arith) in
          let all = r.whole in
          let inside : j + 1 < length es = omega arith in
          rw (get_or_append_left es (e ∷ []) d (j + 1) inside, get_or_append_left es (e ∷ []) d j (omega arith))
          (r.sorted k old j d (omega arith) (omega arith)))
          (λ new.
          let a = start-pushed ends n k (omega arith) in
          let b = start-last ends n (k + 1) (omega arith) in
          let same : k ≡ length ends = omega arith in
          let all = ap (start_of ends) same ∙ r.whole in
          absurd (omega arith))
          (cases_lt k (length ends));
    }

module _ (ends : List ℕ) (run n : ℕ) (lt : run < length ends) where
  abbrev joined : List ℕ
  joined = take (run + 1) (set ends run n)

  length-joined : length joined ≡ run + 1
  length-joined = length-take-le (run + 1) (set ends run n) (omega (arith, length-set ends run n))

  start-joined : (k : ℕ) → k ≤ run → start_of joined k ≡ start_of ends k
  start-joined zero le = refl
  start-joined (suc k) le =
      let other : k ≢ run = omega arith in
      get_or-take (run + 1) (set ends run n) k 0 (omega arith) ∙ get_or-set_other ends run k n 0 other

  start-end : start_of joined (run + 1) ≡ n
  start-end =
      start-next joined run ∙ get_or-take (run + 1) (set ends run n) run 0 (omega arith) ∙ get_or-set_same ends run n 0 lt

-- the runs from one on, sorted together
pub runs_joined : (es fs : List Entry) (ends : List ℕ) (run : ℕ) → run < length ends → length fs ≡ length es
    → ((k : ℕ) (d : Entry) → k < start_of ends run → get_or fs k d ≡ get_or es k d)
    → IsSortedWithin is_before fs (start_of ends run) (length fs)
    → IsRuns es ends → IsRuns fs (take (run + 1) (set ends run (length es)))
runs_joined es fs ends run lt long alike sorted r =
    let n = length es in
    let more = length-joined ends run n lt in
    let end = start-end ends run n lt in
    record {
      rising = λ j k le within. ⊎_elim
          (λ old.
          let a = start-joined ends run n lt j (omega arith) in
          let b = start-joined ends run n lt k (omega arith) in
          let up = r.rising j k le (omega arith) in
          omega arith)
          (λ new.
          let top : k ≡ run + 1 = omega arith in
          let b = ap (start_of (joined ends run n lt)) top ∙ end in
          ⊎_elim
          (λ low.
          let a = start-joined ends run n lt j (omega arith) in
          let up = r.rising j (length ends) (omega arith) (omega arith) in
          let all = r.whole in
          omega arith)
          (λ high.
          let also : j ≡ run + 1 = omega arith in
          let a = ap (start_of (joined ends run n lt)) also ∙ end in
          omega arith)
          (cases_lt j (run + 1)))
          (cases_lt k (run + 1));
      whole = ap (start_of (joined ends run n lt)) more ∙ end ∙ sym long;
      sorted = λ k within j d low high. ⊎_elim
          (λ old.
          let a = start-joined ends run n lt k (omega arith) in
          let b = start-joined ends run n lt (k + 1) (omega arith) in
          let up = r.rising (k + 1) run (omega arith) (omega arith) in
          rw (alike (j + 1) d (omega arith), alike j d (omega arith))
          (r.sorted k (omega arith) j d (omega arith) (omega arith)))
          (λ new.
          let same : k ≡ run = omega arith in
          let a = ap (start_of (joined ends run n lt)) same ∙ start-joined ends run n lt run (omega arith) in
          let b = ap (λ z. start_of (joined ends run n lt) (z + 1)) same ∙ end in
          sorted j d (omega arith) (omega arith))
          (cases_lt k run);
    }

-- ---- one run after another

module _ (es : List Entry) (ends : List ℕ) (r : IsRuns es ends) (run start : ℕ) (lt : run < length ends) (at : start ≡ start_of ends run) where
  abbrev end_of : ℕ
  end_of = get_or ends run 0

  pub run-starts : start ≤ end_of
  run-starts =
      let up = r.rising run (run + 1) (omega arith) (omega arith) in
      let next = start-next ends run in
      omega arith

  pub run-ends : end_of ≤ length es
  run-ends =
      let up = r.rising (run + 1) (length ends) (omega arith) (omega arith) in
      let next = start-next ends run in
      let all = r.whole in
      omega arith

  abbrev entries_of : List Entry
  entries_of = take (end_of - start) (drop start es)

  entry-of_run : (k : ℕ) (d : Entry) → k < end_of - start → get_or entries_of k d ≡ get_or es (start + k) d
  entry-of_run k d within = get_or-take (end_of - start) (drop start es) k d within ∙ get_or-drop start es k d

  length-run : length entries_of ≡ end_of - start
  length-run =
      let a = length-take (end_of - start) (drop start es) in
      let b = length-drop start es in
      let low = run-starts in
      let high = run-ends in
      omega arith

  pub run-sorted : IsSortedBy is_before entries_of
  run-sorted k d low high =
      let long = length-run in
      let next = start-next ends run in
      let more : start + (k + 1) ≡ (start + k) + 1 = omega arith in
      rw (entry-of_run (k + 1) d (omega arith), entry-of_run k d (omega arith), more)
      (r.sorted run lt (start + k) d (omega arith) (omega arith))

  pub found_in_runs : (row : List Value) (i : ℕ) → IsAt entries_of row i → IsAt es row (start + i)
  found_in_runs row i here =
      let long = length-run in
      let high = run-ends in
      let within : i < length entries_of = here.0 in
      (omega arith, λ d. subst (λ e. is_for row e ≡ true) (entry-of_run i d (omega arith)) (here.1 d))

  pub lacks_more : (row : List Value) → ((k : ℕ) (d : Entry) → k < start → is_for row (get_or es k d) ≡ false) → Lacks entries_of row
      → (k : ℕ) (d : Entry) → k < end_of → is_for row (get_or es k d) ≡ false
  lacks_more row before here k d within = ⊎_elim
      (λ low. before k d low)
      (λ high.
      let long = length-run in
      let there : start + (k - start) ≡ k = omega arith in
      ap (λ z. is_for row (get_or es z d)) (sym there)
      ∙ ap (is_for row) (sym (entry-of_run (k - start) d (omega arith)))
      ∙ here (k - start) d (omega arith))
      (cases_lt k start)

-- what `sort_by` says, where each call compares the entries' tuples
pub sorted_by_calls : {F E : Type 0} {g : Mut F (Bor Entry × (Bor Entry × Unit {0})) Ordering} {f : F} (r : Result (Unit {0}) E) (es : List Entry)
    → OnOk r (IsSortedByClosure g f es)
    → ((a : Bor Entry × (Bor Entry × Unit {0})) (r : Ordering) (f' : F) → Called g f a r f' → (r ≡ tuple_cmp a.0.now.tuple a.1.0.now.tuple) × (f' ≡ f))
    → OnOk r (IsSortedBy is_before es)
sorted_by_calls {g = g} {f = f} r es sorted calls =
    let by = always_returns_same g (λ a r. is_lt r ≡ is_before a.0.now a.1.0.now) f (λ a r f' k. (ap is_lt (calls a r f' k).0, (calls a r f' k).1)) in
    on_ok_weaker {P = IsSortedByClosure g f es} {Q = IsSortedBy is_before es} r (λ up. up is_before (ranks_by tuple_cmp-total (λ e. e.tuple)) by) sorted

-- what `binary_search_by` says, where each call compares the entry's tuple with the row
pub found_by_calls : {F : Type 0} {g : Mut F (Bor Entry × Unit {0}) Ordering} {f : F} (run : List Entry) (row : List Value) (r : Result ℕ ℕ)
    → IsSearchInRange r (length run)
    → ((ord : Entry → Ordering) → ComputesKey g ord f → IsBinarySearchResult ord run r)
    → ((a : Bor Entry × Unit {0}) (o : Ordering) (f' : F) → Called g f a o f' → (o ≡ tuple_cmp a.0.now.tuple row) × (f' ≡ f))
    → IsSortedBy is_before run → Finds run row (result_ok r)
found_by_calls {g = g} {f = f} run row r within position calls sorted =
    let ord : Entry → Ordering = λ e. tuple_cmp e.tuple row in
    found_in_run run row r within (position ord (always_returns_same g (λ a o. o ≡ ord a.0.now) f calls)) sorted
