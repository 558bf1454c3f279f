-- The rows of a list by their numbers.
use Rattle.std.proofs.Common.{◌≡◌, ◌∙◌, ℕ, zero, suc, ◌+◌, ◌<◌, ◌≤◌, List, [], ◌∷◌, ◌++◌, length, take, map, filter, get_or, All, Bool, true, false, ◌&&◌, cond, refl, ap, sym, subst, arith}
use Rattle.std.proofs.lemmas.List.{take_more, take_all, map-append, append-nil}
use Rattle.std.proofs.lemmas.List.Elements.{All-head, All-tail, All-nil, All-append, All-cons, All-weaker, filter-append}
use Rattle.list_algebra.specs.Joins.{below}

pub below_more : (n : ℕ) → below (n + 1) ≡ below n ++ n ∷ []
unfolding below
below_more n =
    let e : suc n ≡ n + 1 = omega arith in
    subst (λ m. below m ≡ below n ++ n ∷ []) e refl

pub below_none : below 0 ≡ []
unfolding below
below_none = refl

-- the numbers below n are below n
pub All-below : (n : ℕ) → All (λ m. m < n) (below n)
unfolding below
All-below zero = All-nil _
All-below (suc n) =
    All-append (λ m. m < suc n) (below n) (n ∷ []) (All-weaker (λ m. m < n) (λ m. m < suc n) (λ m h. omega (arith, h)) (below n) (All-below n))
    (All-cons (λ m. m < suc n) n [] (omega arith) (All-nil _))

module _ {X : Type 0} (d : X) where
  fronts_below : (xs : List X) (n : ℕ) → n ≤ length xs → map (λ i. get_or xs i d) (below n) ≡ take n xs
  unfolding below
  fronts_below xs zero h = refl
  fronts_below xs (suc n) h =
      let e : n + 1 ≡ suc n = omega arith in
      map-append (λ i. get_or xs i d) (below n) (n ∷ [])
      ∙ ap (λ ys. ys ++ get_or xs n d ∷ []) (fronts_below xs n (omega (arith, h)))
      ∙ sym (subst (λ m. take m xs ≡ take n xs ++ get_or xs n d ∷ []) e (take_more xs n d (omega (arith, h))))

  -- the items of all numbers are the list
  pub items_below : (xs : List X) → map (λ i. get_or xs i d) (below (length xs)) ≡ xs
  items_below xs = fronts_below xs (length xs) (omega arith) ∙ take_all (length xs) xs (omega arith)

filter_map_cond : {X Y : Type 0} (b : Bool) (f : X → Y) (x : X) (xs : List X) → cond b (f x ∷ map f xs) (map f xs) ≡ map f (cond b (x ∷ xs) xs)
filter_map_cond true f x xs = refl
filter_map_cond false f x xs = refl

pub filter-map : {X Y : Type 0} (p : Y → Bool) (f : X → Y) (xs : List X) → filter p (map f xs) ≡ map f (filter (λ x. p (f x)) xs)
filter-map p f [] = refl
filter-map p f (x ∷ xs) =
    ap (λ ys. cond (p (f x)) (f x ∷ ys) ys) (filter-map p f xs) ∙ filter_map_cond (p (f x)) f x (filter (λ y. p (f y)) xs)

filter_filter_cond : {X : Type 0} (q : X → Bool) (b : Bool) (x : X) (xs : List X)
    → filter q (cond b (x ∷ xs) xs) ≡ cond (b && q x) (x ∷ filter q xs) (filter q xs)
filter_filter_cond q true x xs = refl
filter_filter_cond q false x xs = refl

pub filter-filter : {X : Type 0} (q p : X → Bool) (xs : List X) → filter q (filter p xs) ≡ filter (λ x. p x && q x) xs
filter-filter q p [] = refl
filter-filter q p (x ∷ xs) =
    filter_filter_cond q (p x) x (filter p xs) ∙ ap (λ ys. cond (p x && q x) (x ∷ ys) ys) (filter-filter q p xs)

-- two tests that agree on a list keep the same of it
pub filter_alike : {X : Type 0} (p q : X → Bool) (xs : List X) → All (λ x. p x ≡ q x) xs → filter p xs ≡ filter q xs
filter_alike p q [] all = refl
filter_alike p q (x ∷ xs) all =
    ap (λ b. cond b (x ∷ filter p xs) (filter p xs)) (All-head (λ y. p y ≡ q y) x xs all)
    ∙ ap (λ ys. cond (q x) (x ∷ ys) ys) (filter_alike p q xs (All-tail (λ y. p y ≡ q y) x xs all))

-- the items that pass are those of the numbers whose items pass
pub filter_numbers : {X : Type 0} (d : X) (p : X → Bool) (xs : List X)
    → filter p xs ≡ map (λ i. get_or xs i d) (filter (λ i. p (get_or xs i d)) (below (length xs)))
filter_numbers d p xs = ap (filter p) (sym (items_below d xs)) ∙ filter-map p (λ i. get_or xs i d) (below (length xs))

-- what is kept of the numbers below the next one
module _ (p : ℕ → Bool) (n : ℕ) where
  numbers_more : filter p (below (n + 1)) ≡ filter p (below n) ++ cond (p n) (n ∷ []) []
  numbers_more = ap (filter p) (below_more n) ∙ filter-append p (below n) (n ∷ [])

  pub number_kept : p n ≡ true → filter p (below (n + 1)) ≡ filter p (below n) ++ n ∷ []
  number_kept is = numbers_more ∙ ap (λ b. filter p (below n) ++ cond b (n ∷ []) []) is

  pub number_left : p n ≡ false → filter p (below (n + 1)) ≡ filter p (below n)
  number_left is = numbers_more ∙ ap (λ b. filter p (below n) ++ cond b (n ∷ []) []) is ∙ append-nil _

pub no_numbers : (p : ℕ → Bool) → filter p (below 0) ≡ []
unfolding below
no_numbers p = refl
