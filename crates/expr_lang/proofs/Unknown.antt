-- The first of two lists that passes a test.
use Rattle.std.proofs.Common.{◌≡◌, ℕ, List, [], ◌∷◌, ◌++◌, Bool, true, false, cond, Option, Some, find, refl, sym, ap, ◌∙◌}
use Rattle.std.specs.Option.{option_or}

find_by : (p : List ℕ → Bool) (x : List ℕ) (b : Bool) (rest more whole : Option (List ℕ)) → whole ≡ option_or rest more
    → cond b (Some x) whole ≡ option_or (cond b (Some x) rest) more
find_by p x true rest more whole h = refl
find_by p x false rest more whole h = h

pub find_append : (p : List ℕ → Bool) (xs ys : List (List ℕ)) → find p (xs ++ ys) ≡ option_or (find p xs) (find p ys)
find_append p [] ys = refl
find_append p (x ∷ xs) ys = find_by p x (p x) (find p xs) (find p ys) (find p (xs ++ ys)) (find_append p xs ys)

pub found_in : (p : List ℕ → Bool) (xs ys : List (List ℕ)) (x y r : Option (List ℕ)) → x ≡ find p xs → y ≡ find p ys → r ≡ option_or x y → r ≡ find p (xs ++ ys)
found_in p xs ys x y r h k e = e ∙ ap (λ z. option_or z y) h ∙ ap (option_or (find p xs)) k ∙ sym (find_append p xs ys)
