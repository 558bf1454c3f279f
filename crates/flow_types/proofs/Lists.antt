-- Lists that are mapped.
use Rattle.std.proofs.Common.{◌≡◌, List, [], ◌∷◌, map, Bool, ◌||◌, ◌&&◌, not, refl, ap}
use Rattle.std.specs.List.{list_all, list_any, position, prefix_len}
use Rattle.std.proofs.lemmas.List.{length-map}

pub list_any_mapped : {X Y : Type 0} (p : Y → Bool) (f : X → Y) (xs : List X) → list_any p (map f xs) ≡ list_any (λ x. p (f x)) xs
list_any_mapped p f [] = refl
list_any_mapped p f (x ∷ xs) = ap (λ b. p (f x) || b) (list_any_mapped p f xs)

pub list_all_mapped : {X Y : Type 0} (p : Y → Bool) (f : X → Y) (xs : List X) → list_all p (map f xs) ≡ list_all (λ x. p (f x)) xs
list_all_mapped p f [] = refl
list_all_mapped p f (x ∷ xs) = ap (λ b. p (f x) && b) (list_all_mapped p f xs)

pub prefix_len_mapped : {X Y : Type 0} (p : Y → Bool) (f : X → Y) (xs : List X) → prefix_len p (map f xs) ≡ prefix_len (λ x. p (f x)) xs
prefix_len_mapped p f [] = refl
prefix_len_mapped p f (x ∷ xs) = rw (prefix_len_mapped p f xs) refl

pub position_mapped : {X Y : Type 0} (p : Y → Bool) (f : X → Y) (xs : List X) → position p (map f xs) ≡ position (λ x. p (f x)) xs
position_mapped p f xs = rw (prefix_len_mapped (λ y. not (p y)) f xs, length-map) refl
