-- Items laid one after the other, and the places between them.
use Rattle.std.proofs.Common.{◌≡◌, ◌<◌, ◌≤◌, ℕ, zero, suc, ◌+◌, ◌*◌, ◌-◌, List, [], ◌∷◌, ◌++◌, length, take, drop, get_or, Some, ap, sym, subst, ◌∙◌, refl, arith, length-append, append_assoc}
use Rattle.std.proofs.Math.Nat.{suc-mul, zero-mul, add_comm}
use Rattle.std.specs.Prelude.{slice_get, slice_range}
use Rattle.std.specs.List.{flat_map}
use Rattle.std.proofs.lemmas.List.{append-nil, get_or_read, take_at, drop_at, take_more, take-append-drop}
use Rattle.std.proofs.lemmas.List.Concat.{flat_map-append}
use Rattle.std.proofs.lemmas.Option.{get_or_from_slice_get, slice_get_within}
use Rattle.row_batch.specs.Packing.{ends_from, places}

pub length-ends : {X : Type 0} (form : X → List ℕ) (at : ℕ) (xs : List X) → length (ends_from form at xs) ≡ length xs
length-ends form at [] = refl
length-ends form at (x ∷ xs) = ap suc (length-ends form (at + length (form x)) xs)

pub length-places : {X : Type 0} (form : X → List ℕ) (xs : List X) → length (places form xs) ≡ length xs + 1
length-places form xs = omega (arith, length-ends form 0 xs)

-- one item more
ends_append : {X : Type 0} (form : X → List ℕ) (at : ℕ) (xs : List X) (x : X)
    → ends_from form at (xs ++ x ∷ []) ≡ ends_from form at xs ++ (at + length (flat_map form xs) + length (form x)) ∷ []
ends_append form at [] x = ap (λ n. n ∷ []) (omega arith)
ends_append form at (y ∷ ys) x =
    let further : at + length (form y) + length (flat_map form ys) + length (form x) ≡ at + length
    (flat_map form (y ∷ ys)) + length (form x) = omega (arith, length-append (form y) (flat_map form ys)) in
    ap (λ es. (at + length (form y)) ∷ es) (ends_append form (at + length (form y)) ys x ∙ ap (λ n. ends_from form (at + length (form y)) ys ++ n ∷ []) further)

pub places_push : {X : Type 0} (form : X → List ℕ) (xs : List X) (x : X)
    → places form (xs ++ x ∷ []) ≡ places form xs ++ (length (flat_map form xs) + length (form x)) ∷ []
places_push form xs x =
    ap (λ es. 0 ∷ es) (ends_append form 0 xs x ∙ ap (λ n. ends_from form 0 xs ++ n ∷ []) (omega arith))

ends_get : {X : Type 0} (form : X → List ℕ) (at : ℕ) (xs : List X) (k : ℕ) → k < length xs
    → get_or (ends_from form at xs) k 0 ≡ at + length (flat_map form (take (suc k) xs))
ends_get form at [] k below = absurd (omega arith)
ends_get form at (x ∷ xs) zero below = omega (arith, length-append (form x) [])
ends_get form at (x ∷ xs) (suc k) below =
    ends_get form (at + length (form x)) xs k (omega arith)
    ∙ omega (arith, length-append (form x) (flat_map form (take (suc k) xs)))

-- the place behind so many items
pub place_is : {X : Type 0} (form : X → List ℕ) (xs : List X) (k : ℕ) → k ≤ length xs
    → get_or (places form xs) k 0 ≡ length (flat_map form (take k xs))
place_is form xs zero within = refl
place_is form xs (suc k) within = ends_get form 0 xs k (omega arith) ∙ omega arith

-- what stands between two places that follow each other is an item
pub record IsBetween (bytes item : List ℕ) (from to : ℕ) : Type 0 where
  pub ordered : from ≤ to
  pub within : to ≤ length bytes
  pub cut : slice_range bytes from to ≡ item

pub between_places : {X : Type 0} (form : X → List ℕ) (xs : List X) (k : ℕ) (x : X) (bytes at : List ℕ)
    → bytes ≡ flat_map form xs → at ≡ places form xs → slice_get xs k ≡ Some x
    → IsBetween bytes (form x) (get_or at k 0) (get_or at (k + 1) 0)
between_places form xs k x bytes at spelled placed here =
    let below : k < length xs = slice_get_within xs k x here in
    let front : take (k + 1) xs ≡ take k xs ++ x ∷ [] =
    take_more xs k x below ∙ ap (λ y. take k xs ++ y ∷ []) (get_or_from_slice_get xs k x x here) in
    let more : flat_map form (take (k + 1) xs) ≡ flat_map form (take k xs) ++ (form x ++ []) =
    ap (flat_map form) front ∙ flat_map-append form (take k xs) (x ∷ []) in
    let from : get_or at k 0 ≡ length (flat_map form (take k xs)) =
    ap (λ ps. get_or ps k 0) placed ∙ place_is form xs k (omega arith) in
    let to : get_or at (k + 1) 0 ≡ length (flat_map form (take (k + 1) xs)) =
    ap (λ ps. get_or ps (k + 1) 0) placed ∙ place_is form xs (k + 1) (omega arith) in
    let size : length (form x) ≡ get_or at (k + 1) 0 - get_or at k 0 =
    rw (to, from, more)
    (omega (arith, length-append (flat_map form (take k xs)) (form x ++ []), length-append (form x) [])) in
    let split : bytes ≡ flat_map form (take (k + 1) xs) ++ flat_map form (drop (k + 1) xs) =
    spelled ∙ ap (flat_map form) (sym (take-append-drop (k + 1) xs))
    ∙ flat_map-append form (take (k + 1) xs) (drop (k + 1) xs) in
    let shape : bytes ≡ flat_map form (take k xs) ++ (form x ++ flat_map form (drop (k + 1) xs)) =
    split ∙ ap (λ bs. bs ++ flat_map form (drop (k + 1) xs)) more ∙ simp (append_assoc, append-nil) in
    record {
      ordered = rw (from, to, more) (omega (arith, length-append (flat_map form (take k xs)) (form x ++ [])));
      within = rw (to, split)
          (omega (arith, length-append (flat_map form (take (k + 1) xs)) (flat_map form (drop (k + 1) xs))));
      cut = ap (λ bs. take (get_or at (k + 1) 0 - get_or at k 0) (drop (get_or at k 0) bs)) shape
          ∙ ap (take (get_or at (k + 1) 0 - get_or at k 0)) (drop_at (flat_map form (take k xs)) (form x ++ flat_map form (drop (k + 1) xs)) (get_or at k 0) (sym from))
          ∙ take_at (form x) (flat_map form (drop (k + 1) xs)) (get_or at (k + 1) 0 - get_or at k 0) size;
    }

-- the same of places that were read
pub between : {X : Type 0} (form : X → List ℕ) (xs : List X) (k : ℕ) (x : X) (bytes at : List ℕ) (from to : ℕ)
    → bytes ≡ flat_map form xs → at ≡ places form xs → slice_get xs k ≡ Some x → from ≡ get_or at k from
    → to ≡ get_or at (k + 1) to → IsBetween bytes (form x) from to
between form xs k x bytes at from to spelled placed here from_is to_is =
    let below : k < length xs = slice_get_within xs k x here in
    let long : length at ≡ length xs + 1 = ap length placed ∙ length-places form xs in
    let at_from : from ≡ get_or at k 0 = get_or_read at k from (omega arith) from_is 0 in
    let at_to : to ≡ get_or at (k + 1) 0 = get_or_read at (k + 1) to (omega arith) to_is 0 in
    subst (IsBetween bytes (form x) from) (sym at_to) (subst (λ n. IsBetween bytes (form x) n (get_or at (k + 1) 0)) (sym at_from) (between_places form xs k x bytes at spelled placed here))

-- ---- items of one length

-- the items' one length
pub record AreEven {X : Type 0} (form : X → List ℕ) (n : ℕ) (xs : List X) : Type 0 where
  pub each : (k : ℕ) (x : X) → slice_get xs k ≡ Some x → length (form x) ≡ n

even_tail : {X : Type 0} (form : X → List ℕ) (n : ℕ) (x : X) (xs : List X) → AreEven form n (x ∷ xs) → AreEven form n xs
even_tail form n x xs even = record { each = λ k y here. even.each (suc k) y here }

-- what stands before an item, and what behind it
record Around {X : Type 0} (form : X → List ℕ) (xs : List X) (x : X) (size : ℕ) : Type 0 where
  front : List ℕ
  back : List ℕ
  parts : flat_map form xs ≡ front ++ (form x ++ back)
  before : length front ≡ size

further : (n k first others : ℕ) → first ≡ n → others ≡ k * n → first + others ≡ suc k * n
further n k first others first_is others_are = rw (first_is, others_are) (sym (suc-mul k n ∙ add_comm (k * n) n))

-- so many items of one length stand before the item
even_around : {X : Type 0} (form : X → List ℕ) (n : ℕ) (xs : List X) (k : ℕ) (x : X) → AreEven form n xs
    → slice_get xs k ≡ Some x → Around form xs x (k * n)
even_around form n [] k x even here = absurd cc
even_around form n (y ∷ ys) zero x even here =
    let same : y ≡ x = cc in
    record { front = []; back = flat_map form ys; parts = ap (λ z. form z ++ flat_map form ys) same; before = sym (zero-mul n) }
even_around form n (y ∷ ys) (suc k) x even here =
    let others = even_around form n ys k x (even_tail form n y ys even) here in
    record {
      front = form y ++ others.front;
      back = others.back;
      parts = ap (λ bs. form y ++ bs) others.parts ∙ sym (append_assoc (form y) others.front (form x ++ others.back));
      before = length-append (form y) others.front
          ∙ further n k (length (form y)) (length others.front) (even.each 0 y refl) others.before;
    }

pub even_between : {X : Type 0} (form : X → List ℕ) (n : ℕ) (xs : List X) (k : ℕ) (x : X) (all : List ℕ)
    → all ≡ flat_map form xs → AreEven form n xs → slice_get xs k ≡ Some x
    → IsBetween all (form x) (k * n) (k * n + n)
even_between form n xs k x all spelled even here =
    let around = even_around form n xs k x even here in
    let size : length (form x) ≡ n = even.each k x here in
    let before : length around.front ≡ k * n = around.before in
    let shape : all ≡ around.front ++ (form x ++ around.back) = spelled ∙ around.parts in
    record {
      ordered = omega arith;
      within = rw shape
          (omega (arith, length-append around.front (form x ++ around.back), length-append (form x) around.back));
      cut = ap (λ bs. take (k * n + n - k * n) (drop (k * n) bs)) shape
          ∙ ap (take (k * n + n - k * n)) (drop_at around.front (form x ++ around.back) (k * n) before)
          ∙ take_at (form x) around.back (k * n + n - k * n) (omega arith);
    }
