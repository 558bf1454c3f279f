-- What a table still lacks.
use Rattle.std.specs.Prelude.{◌≡◌, ◌-◌, ℕ, List, ◌++◌, Bool, IsTrue}
use Rattle.list_algebra.specs.Bags.{Tuple, multiplicity}

-- how often the table still lacks a tuple of the meaning
abbrev pub missing_rows : List Tuple → List Tuple → Tuple → ℕ
missing_rows whole committed tuple = multiplicity tuple whole - multiplicity tuple committed

-- each tuple comes in these rows as often as it is missing, and where the order is fixed, the committed rows and these
-- are the meaning
pub record IsAllMissing (fixed : Bool) (whole committed rest : List Tuple) : Type 0 where
  pub bag : (tuple : Tuple) → multiplicity tuple rest ≡ missing_rows whole committed tuple
  pub list : IsTrue fixed → committed ++ rest ≡ whole
