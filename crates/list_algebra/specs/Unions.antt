-- Several lists as one.
use Rattle.std.specs.Prelude.{List}
use Rattle.std.specs.List.{flat_map}
use Rattle.list_algebra.specs.Bags.{Tuple}

-- the lists one after the other
abbrev pub appended : List (List Tuple) → List Tuple
appended lists = flat_map (λ rows. rows) lists
