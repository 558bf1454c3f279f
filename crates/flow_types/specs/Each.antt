-- What is made of the items of a list, one after the other.
use Rattle.std.specs.Prelude.{List, [], ◌∷◌, Result, Ok}
use Rattle.tuple_schema.specs.Stops.{◌>>=◌}

-- what is made of each item, or the first fault
abbrev pub each_made : {X Y F : Type 0} → (X → Result Y F) → List X → Result (List Y) F
each_made make [] = Ok []
each_made make (x ∷ xs) = do
  y ← make x
  ys ← each_made make xs
  Ok (y ∷ ys)
